-- What a document does to a node: it leaves it as it is, or the administrator signed it, it follows the topology of the node, and the node runs under it. So
-- what holds of a node, and of what it tells, holds after a document where it holds of these two.
use Rattle.std.proofs.Common.{◌≡◌, ℕ, Bool, true, false, not, List, [], Option, Some, None, refl, sym, ap, ◌∙◌, cond}
use Rattle.std.specs.Prelude.{nat_le}
use Rattle.sp_msg.specs.declared.effect.Effect.{Effect}
use Rattle.sp_rules.specs.Arrivals.{read_by}
use Rattle.sp_rules.specs.Arts.{Arts, Document}
use Rattle.sp_rules.specs.Documents.{adopting, adopting_effects, after_publish, answer_to, document_answer, publish_effects, under_topology, version_effects}
use Rattle.sp_rules.specs.Node.{NodeState, topology_now}
use Rattle.sp_rules.specs.Steps.{document_effects}
use Rattle.sp_rules.specs.Topologies.{succeeds}
use Rattle.sp_rules.specs.declared.answers.DocumentAnswer.{DocumentAnswer}
use Rattle.sp_rules.specs.declared.answers.DocumentAnswer.TheVariants as answers

-- the tests that a document passed
pub record IsAdopted (arts : Arts) (n : NodeState) (d : Document) : Type 0 where
  pub above : nat_le d.topology.version n.live.version ≡ false
  pub signed : arts.valid n.fixed.admin d.message d.signature ≡ true
  pub follows : succeeds (topology_now n) d.topology ≡ true

adopted_is : (arts : Arts) (n : NodeState) (d : Document) (version : ℕ) → answer_to arts n (Some d) ≡ answers.Adopted version → IsAdopted arts n d
adopted_is arts n d version e =
    go (nat_le d.topology.version n.live.version) refl (arts.valid n.fixed.admin d.message d.signature) refl (succeeds (topology_now n) d.topology) refl e
  where
    go : (a : Bool) → nat_le d.topology.version n.live.version ≡ a → (b : Bool) → arts.valid n.fixed.admin d.message d.signature ≡ b
        → (c : Bool) → succeeds (topology_now n) d.topology ≡ c
        → cond a (answers.Old n.live.version) (cond (not b) answers.BadSig (cond (not c) answers.Strange (answers.Adopted d.topology.version)))
        ≡ answers.Adopted version
        → IsAdopted arts n d
    go true one b two c three e = absurd (cc)
    go false one false two c three e = absurd (cc)
    go false one true two false three e = absurd (cc)
    go false one true two true three e = record { above = one; signed = two; follows = three }

-- a document is handed to the node
pub publishing : (arts : Arts) (n : NodeState) (bytes : List ℕ) (P : NodeState → List Effect → Type 0) → P n []
    → ((d : Document) → arts.read_document bytes ≡ Some d → IsAdopted arts n d → P (under_topology n bytes d.topology) (version_effects n d.topology))
    → P (after_publish arts n bytes) (publish_effects arts n bytes)
publishing arts n bytes P stays adopts = go (arts.read_document bytes) refl (document_answer arts n bytes) refl
  where
    go : (o : Option Document) → arts.read_document bytes ≡ o → (a : DocumentAnswer) → document_answer arts n bytes ≡ a
        → P (adopting a n bytes o) (adopting_effects a n o)
    go o is answers.Bad e = stays
    go o is (answers.Old held) e = stays
    go o is answers.BadSig e = stays
    go o is answers.Strange e = stays
    go None is (answers.Adopted version) e = stays
    go (Some d) is (answers.Adopted version) e = adopts d is (adopted_is arts n d version (sym (ap (answer_to arts n) is) ∙ e))

-- one that a frame brought, or none
pub reading : (arts : Arts) (n : NodeState) (document : Option (List ℕ)) (P : NodeState → List Effect → Type 0) → P n []
    → ((bytes : List ℕ) (d : Document) → document ≡ Some bytes → arts.read_document bytes ≡ Some d → IsAdopted arts n d
    → P (under_topology n bytes d.topology) (version_effects n d.topology))
    → P (read_by arts n document) (document_effects arts n document)
reading arts n None P stays adopts = stays
reading arts n (Some bytes) P stays adopts = publishing arts n bytes P stays (λ d reads by. adopts bytes d refl reads by)
