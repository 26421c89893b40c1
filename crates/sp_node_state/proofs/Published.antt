-- A document that was judged comes into effect as the rules say, and what it needs for that is there.
use Rattle.std.proofs.Common.{◌≡◌, ◌≤◌, ◌<◌, ◌∙◌, ℕ, ◌-◌, Bool, true, false, not, List, [], length, Option, Some, None, Result, Ok, Err, nat_le, refl, sym}
use Rattle.std.proofs.Common.{subst, ap, ap₂, arith, cond}
use Rattle.std.specs.Prelude.{◌+◌, ◌↔◌, IfOk, IsTrue}
use Rattle.std.proofs.lemmas.Bool.Decides.{nat_tests}
use Rattle.std.proofs.lemmas.List.{length-map}
use Rattle.sp_base.specs.Refusals.{◌>>=◌}
use Rattle.sp_base.specs.declared.id.NodeId.{NodeId}
use Rattle.sp_base.specs.declared.memory.Memory.{Memory}
use Rattle.sp_hss.proofs.Decision.{decided}
use Rattle.sp_hss.specs.Decision.{is_valid}
use Rattle.sp_hss.specs.Validity.{IsValid}
use Rattle.sp_node_format.specs.Format.{document_in, format_of}
use Rattle.sp_rules.specs.Arts.{Arts, Document}
use Rattle.sp_rules.specs.Documents.{adopting, adopting_effects, after_publish, answer_to, document_answer, publish_effects, under_topology, version_effects}
use Rattle.sp_rules.specs.Node.{NodeState, topology_now}
use Rattle.sp_rules.specs.Parts.{flows_of}
use Rattle.sp_rules.specs.Topologies.{succeeds}
use Rattle.sp_rules.specs.declared.answers.DocumentAnswer.{DocumentAnswer}
use Rattle.sp_rules.specs.declared.answers.DocumentAnswer.TheVariants as answers
use Rattle.sp_rules.specs.declared.kflow.FlowKind.{FlowKind}
use Rattle.sp_topology.specs.Documents.{read_of, topology_at}
use Rattle.sp_topology.specs.declared.refused.TopologyRefused.{TopologyRefused}
use Rattle.sp_topology.specs.declared.topology.NodeKey.{NodeKey}
use Rattle.sp_topology.specs.declared.topology.Topology.{Topology}
use Rattle.laws_node.proofs.FlowKinds.{flows_hold}
use Rattle.laws_node.proofs.Successors.{later, length_weights, same_count}
use Rattle.laws_node.specs.Nodes.{IsKept}
use Rattle.sp_node_parts.specs.Closing.{closing_room, withdrawn_of}
use Rattle.sp_node_parts.specs.declared.withdrawn.Withdrawn.{Withdrawn}
use Rattle.sp_node_state.proofs.Sizes.{sizes}
use Rattle.sp_node_state.specs.Publications.{FitsSo, IsJudged, IsJudgedSo, checks_of, document_checks, told_of, under_version}
use Rattle.sp_node_state.specs.declared.document.NewVersion.{NewVersion}
use Rattle.sp_node_state.specs.declared.document.Publication.{Publication}

-- ---- what is read

abbrev size_in : Result (Topology × ℕ) TopologyRefused → ℕ
size_in (Ok read) = read.1
size_in (Err refused) = 0

pub size_is_within : (bytes : List ℕ) (t : Topology) (size : ℕ) → read_of bytes ≡ Ok (t, size) → size ≤ length bytes
size_is_within bytes t size = go (topology_at bytes)
  where
    sized : Topology × List ℕ → Result (Topology × ℕ) TopologyRefused
    sized read = Ok (read.0, length bytes - length read.1)

    go : (x : Result (Topology × List ℕ) TopologyRefused) → (x >>= sized) ≡ Ok (t, size) → size ≤ length bytes
    go (Ok read) is = let e : length bytes - length read.1 ≡ size = ap size_in is in omega (arith, e)
    go (Err refused) is = let e : 0 ≡ size = ap size_in is in omega (arith, e)

-- ---- what is answered above the version of the node

-- the art of signatures is what a checker decides
pub checked_is : (key message signature : List ℕ) (result : Bool) → (IsTrue result ↔ IsValid key message signature) → is_valid key message signature ≡ result
checked_is key message signature true e = (decided key message signature).1 (e.0 refl)
checked_is key message signature false e = go (is_valid key message signature) refl
  where
    go : (b : Bool) → is_valid key message signature ≡ b → is_valid key message signature ≡ false
    go true is = absurd (let no : false ≡ true = e.1 ((decided key message signature).0 is) in cc)
    go false is = is

is_above : (held version : ℕ) → held < version → nat_le version held ≡ false
is_above held version above = grind (arith, nat_tests, above)

pub bad_signature : (n : NodeState) (d : Document) → n.live.version < d.topology.version → is_valid n.fixed.admin d.message d.signature ≡ false
    → answers.BadSig ≡ answer_to (format_of n.fixed) n (Some d)
bad_signature n d above bad = rw (is_above n.live.version d.topology.version above, bad) refl

pub strange : (n : NodeState) (d : Document) → n.live.version < d.topology.version → is_valid n.fixed.admin d.message d.signature ≡ true
    → succeeds (topology_now n) d.topology ≡ false → answers.Strange ≡ answer_to (format_of n.fixed) n (Some d)
strange n d above good other = rw (is_above n.live.version d.topology.version above, good, other) refl

pub adopted : (n : NodeState) (d : Document) → n.live.version < d.topology.version → is_valid n.fixed.admin d.message d.signature ≡ true
    → succeeds (topology_now n) d.topology ≡ true → answers.Adopted d.topology.version ≡ answer_to (format_of n.fixed) n (Some d)
adopted n d above good follows = rw (is_above n.live.version d.topology.version above, good, follows) refl

pub old : (n : NodeState) (d : Document) → d.topology.version ≤ n.live.version → answers.Old n.live.version ≡ answer_to (format_of n.fixed) n (Some d)
old n d below = let least : nat_le d.topology.version n.live.version ≡ true = grind (arith, nat_tests, below) in rw least refl

pub one_check : (n : NodeState) (bytes : List ℕ) (d : Document) → document_in bytes ≡ Some d → n.live.version < d.topology.version
    → document_checks n bytes ≡ 1
one_check n bytes d reads above = ap (checks_of n) reads ∙ rw (is_above n.live.version d.topology.version above) refl

-- ---- what a version needs

pub follows_of : (arts : Arts) (n : NodeState) (d : Document) (version : ℕ) → answer_to arts n (Some d) ≡ answers.Adopted version
    → succeeds (topology_now n) d.topology ≡ true
follows_of arts n d version =
    go (nat_le d.topology.version n.live.version) (arts.valid n.fixed.admin d.message d.signature) (succeeds (topology_now n) d.topology)
  where
    go : (a b c : Bool) → cond a (answers.Old n.live.version) (cond (not b) answers.BadSig (cond (not c) answers.Strange (answers.Adopted d.topology.version)))
        ≡ answers.Adopted version → c ≡ true
    go true b c e = absurd (cc)
    go false false c e = absurd (cc)
    go false true false e = absurd (cc)
    go false true true e = refl

pub adopted_version : (arts : Arts) (n : NodeState) (d : Document) (version : ℕ) → answer_to arts n (Some d) ≡ answers.Adopted version
    → answer_to arts n (Some d) ≡ answers.Adopted d.topology.version
adopted_version arts n d version =
    go (nat_le d.topology.version n.live.version) (arts.valid n.fixed.admin d.message d.signature) (succeeds (topology_now n) d.topology)
  where
    go : (a b c : Bool) → cond a (answers.Old n.live.version) (cond (not b) answers.BadSig (cond (not c) answers.Strange (answers.Adopted d.topology.version)))
        ≡ answers.Adopted version
        → cond a (answers.Old n.live.version) (cond (not b) answers.BadSig (cond (not c) answers.Strange (answers.Adopted d.topology.version)))
        ≡ answers.Adopted d.topology.version
    go true b c e = absurd (cc)
    go false false c e = absurd (cc)
    go false true false e = absurd (cc)
    go false true true e = refl

-- it has as many edges and nodes
pub record Counts (n : NodeState) (t : Topology) : Type 0 where
  pub edges : length t.edges ≡ length n.parts.weights.edges
  pub prio : length t.nodes ≡ length n.parts.prio.nodes
  pub flows : (kind : FlowKind) → length t.nodes ≡ length (flows_of kind n.parts).nodes

pub counts : (n : NodeState) (t : Topology) → IsKept (format_of n.fixed) n → succeeds (topology_now n) t ≡ true → Counts n t
counts n t kept e =
    let l = later (topology_now n) t e in
    let nodes : length n.fixed.topology.nodes ≡ length t.nodes = ap (λ (ns : List NodeKey). length ns) l.nodes in
    let ids = length-map n.fixed.topology.nodes (λ (k : NodeKey). k.id) in
    record {
      edges = sym (length_weights t.edges) ∙ same_count n.fixed.topology.edges n.live.weights t.edges kept.live.count l.ends
          ∙ sym (ap length kept.parts.weights.edges);
      prio = sym nodes ∙ sym ids ∙ sym (ap (λ (us : List NodeId). length us) kept.parts.prio.known);
      flows = λ kind. sym nodes ∙ sym ids ∙ sym (ap (λ (us : List NodeId). length us) (flows_hold kind (sizes n) n.parts kept.parts).known);
    }

-- ---- in effect, also at a node that answers the document as the one by which it was judged

stays : (a : DocumentAnswer) (n : NodeState) (bytes : List ℕ) (d : Option Document) → ((version : ℕ) → a ≡ answers.Adopted version → ⊥)
    → n ≡ adopting a n bytes d
stays answers.Bad n bytes d none = refl
stays (answers.Old held) n bytes d none = refl
stays answers.BadSig n bytes d none = refl
stays answers.Strange n bytes d none = refl
stays (answers.Adopted version) n bytes d none = absurd (none version refl)

silent : (a : DocumentAnswer) (n : NodeState) (d : Option Document) → ((version : ℕ) → a ≡ answers.Adopted version → ⊥) → [] ≡ adopting_effects a n d
silent answers.Bad n d none = refl
silent (answers.Old held) n d none = refl
silent answers.BadSig n d none = refl
silent answers.Strange n d none = refl
silent (answers.Adopted version) n d none = absurd (none version refl)

pub under_is : (n m : NodeState) (bytes : List ℕ) (p : Publication) → IsJudged n bytes p
    → document_answer (format_of m.fixed) m bytes ≡ document_answer (format_of n.fixed) n bytes
    → under_version m p.version ≡ after_publish (format_of m.fixed) m bytes
under_is n m bytes p j same = go p.version j.version
  where
    go : (o : Option NewVersion) → IsJudgedSo n bytes p o → under_version m o ≡ after_publish (format_of m.fixed) m bytes
    go None none = stays (document_answer (format_of m.fixed) m bytes) m bytes (document_in bytes) (λ version e. none version (j.answer ∙ sym same ∙ e))
    go (Some v) is =
        ap₂ (λ (bs : List ℕ) (t : Topology). under_topology m bs t) is.document is.topology
        ∙ sym (ap (λ (a : DocumentAnswer). adopting a m bytes (document_in bytes)) (same ∙ is.answer)
        ∙ ap (adopting (answers.Adopted is.reads.topology.version) m bytes) is.read)

-- what is told of a document is told alike by two states that judge it alike
pub told_is : (n m : NodeState) (bytes : List ℕ) (p : Publication) → IsJudged n bytes p
    → document_answer (format_of m.fixed) m bytes ≡ document_answer (format_of n.fixed) n bytes
    → told_of m p.version ≡ publish_effects (format_of m.fixed) m bytes
told_is n m bytes p j same = go p.version j.version
  where
    go : (o : Option NewVersion) → IsJudgedSo n bytes p o → told_of m o ≡ publish_effects (format_of m.fixed) m bytes
    go None none = silent (document_answer (format_of m.fixed) m bytes) m (document_in bytes) (λ version e. none version (j.answer ∙ sym same ∙ e))
    go (Some v) is =
        ap (version_effects m) is.topology
        ∙ sym (ap (λ (a : DocumentAnswer). adopting_effects a m (document_in bytes)) (same ∙ is.answer)
        ∙ ap (adopting_effects (answers.Adopted is.reads.topology.version) m) is.read)

-- ---- judged

-- nothing but an answer, and that isn't that it is adopted
pub refused_judged : (n : NodeState) (bytes : List ℕ) (a : DocumentAnswer) (r : Result Publication Memory) → IfOk r (λ p. p.answer ≡ a)
    → IfOk r (λ p. p.version ≡ None) → IfOk r (λ p. p.effects.list ≡ []) → a ≡ document_answer (format_of n.fixed) n bytes
    → ((version : ℕ) → a ≡ answers.Adopted version → ⊥) → IfOk r (IsJudged n bytes)
refused_judged n bytes a (Err memory) answer version none is not_adopted = tt
refused_judged n bytes a (Ok p) answer version none is not_adopted = record {
  answer = answer ∙ is;
  version = subst (IsJudgedSo n bytes p) (sym version) (λ v e. not_adopted v (sym answer ∙ e));
  fits = subst (FitsSo n p) (sym version) none;
}

-- the version that is adopted
pub adopted_judged : (n : NodeState) (bytes : List ℕ) (d : Document) (w : Withdrawn) (version : ℕ) (r : Result Publication Memory)
    → IsKept (format_of n.fixed) n
    → document_in bytes ≡ Some d → answer_to (format_of n.fixed) n (Some d) ≡ answers.Adopted version → w ≡ withdrawn_of d.topology
    → IfOk r (λ p. p.answer ≡ answers.Adopted version)
    → IfOk r (λ p. p.version ≡ Some (record { topology = d.topology; withdrawn = w; document = bytes }))
    → IfOk r (λ p. p.effects ≡ record { list = []; room = 1 + closing_room n.parts }) → IfOk r (IsJudged n bytes)
adopted_judged n bytes d w version (Err memory) kept reads adopts withdraws answer is room = tt
adopted_judged n bytes d w version (Ok p) kept reads adopts withdraws answer is room =
    let v : NewVersion = record { topology = d.topology; withdrawn = w; document = bytes } in
    let same : document_answer (format_of n.fixed) n bytes ≡ answers.Adopted version = ap (answer_to (format_of n.fixed) n) reads ∙ adopts in
    let c = counts n d.topology kept (follows_of (format_of n.fixed) n d version adopts) in
    record {
      answer = answer ∙ sym same;
      version = subst (IsJudgedSo n bytes p) (sym is) (record {
        reads = d;
        read = reads;
        topology = refl;
        document = refl;
        answer = same ∙ sym adopts ∙ adopted_version (format_of n.fixed) n d version adopts;
      });
      fits = subst (FitsSo n p) (sym is) (record { withdrawn = withdraws; edges = c.edges; nodes = c.prio; flows = c.flows; room = room });
    }
