-- A document that a node adopts has room in a frame, since the administrator signed it.
use Rattle.std.proofs.Common.{◌≡◌, ◌≤◌, ℕ, Bool, true, false, not, List, length, nat_le, refl, cond, Option, None, Some}
use Rattle.sp_base.specs.Spelling.{AreBytes}
use Rattle.sp_frame.specs.declared.writing.TheConstants.{MAX_DOCUMENT_BYTES}
use Rattle.sp_hss.proofs.Decision.{decided}
use Rattle.sp_hss.specs.Decision.{is_valid}
use Rattle.sp_node.proofs.ShortDocuments.{signed_is_short}
use Rattle.sp_node_format.specs.Format.{document_in, format_of}
use Rattle.sp_rules.specs.Arts.{Document}
use Rattle.sp_rules.specs.Documents.{answer_to, document_answer}
use Rattle.sp_rules.specs.Node.{NodeState, topology_now}
use Rattle.sp_rules.specs.Topologies.{succeeds}
use Rattle.sp_rules.specs.declared.answers.DocumentAnswer.TheVariants as answers

valid_where : (n : NodeState) (d : Document) (version : ℕ) → answer_to (format_of n.fixed) n (Some d) ≡ answers.Adopted version
    → is_valid n.fixed.admin d.message d.signature ≡ true
valid_where n d version =
    go (nat_le d.topology.version n.live.version) (is_valid n.fixed.admin d.message d.signature) (succeeds (topology_now n) d.topology)
  where
    go : (a b c : Bool) → cond a (answers.Old n.live.version) (cond (not b) answers.BadSig (cond (not c) answers.Strange (answers.Adopted d.topology.version)))
        ≡ answers.Adopted version → b ≡ true
    go true b c e = absurd (cc)
    go false false c e = absurd (cc)
    go false true c e = refl

pub adopted_is_short : (n : NodeState) (bytes : List ℕ) (version : ℕ) → AreBytes bytes → document_answer (format_of n.fixed) n bytes ≡ answers.Adopted version
    → length bytes ≤ MAX_DOCUMENT_BYTES
adopted_is_short n bytes version are = go (document_in bytes) refl
  where
    go : (o : Option Document) → document_in bytes ≡ o → answer_to (format_of n.fixed) n o ≡ answers.Adopted version → length bytes ≤ MAX_DOCUMENT_BYTES
    go None reads e = absurd (cc)
    go (Some d) reads e =
        signed_is_short n.fixed.admin bytes d are reads ((decided n.fixed.admin d.message d.signature).0 (valid_where n d version e))
