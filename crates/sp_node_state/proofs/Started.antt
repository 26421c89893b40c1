-- A node that starts keeps what every step keeps.
use Rattle.std.proofs.Common.{◌≡◌, ◌<◌, ◌^◌, ℕ, ◌==◌, Bool, true, false, List, [], ◌∷◌, map, Some, refl, sym, ap, arith, cond}
use Rattle.std.proofs.lemmas.Bool.Decides.{nat_tests}
use Rattle.sp_base.specs.Spelling.{AreBytes}
use Rattle.sp_base.specs.declared.id.EdgeId.{EdgeId}
use Rattle.sp_base.specs.declared.id.NodeId.{NodeId}
use Rattle.sp_hss.specs.KeyTree.{signature_len}
use Rattle.sp_node_format.specs.Format.{format_of}
use Rattle.sp_sign.specs.Heights.{param_of}
use Rattle.sp_sign.specs.NodeSigner.{NodeSigner}
use Rattle.sp_topology.specs.Keys.{key_of}
use Rattle.sp_topology.specs.Ranges.{AreNodes}
use Rattle.sp_topology.specs.declared.topology.LmsHeight.{LmsHeight}
use Rattle.sp_topology.specs.declared.topology.LmsHeight.TheVariants.{Five, Ten}
use Rattle.sp_topology.specs.declared.topology.NodeKey.{NodeKey}
use Rattle.laws_node.proofs.Boot.{boot_keeps}
use Rattle.laws_node.proofs.Starts.{start_keeps}
use Rattle.laws_node.specs.Inputs.{Boots}
use Rattle.laws_node.specs.Nodes.{IsKept, SignerHolds}
use Rattle.laws_node.specs.Sizes.{IsNode}
use Rattle.sp_node_state.proofs.Fitted.{fitted}
use Rattle.sp_node_state.specs.Boots.{IsBootable, booted_of, fixed_of, started_of}
use Rattle.sp_node_state.specs.States.{signer_in}
use Rattle.sp_node_state.specs.declared.boot.NodeConfig.{NodeConfig}

found_in : (format : ℕ) (height : LmsHeight) (before : ℕ) (nodes : List NodeKey) (me : NodeId) (key : List ℕ) → AreNodes format height before nodes
    → key_of me.0 nodes ≡ Some key
    → IsNode format me
found_in format height before [] me key are found = absurd (cc)
found_in format height before (n ∷ nodes) me key are found = go (n.id.0 == me.0) refl found (λ e. found_in format height n.id.0 nodes me key are.2 e)
  where
    go : (t : Bool) → (n.id.0 == me.0) ≡ t → cond t (Some n.key) (key_of me.0 nodes) ≡ Some key → (key_of me.0 nodes ≡ Some key → IsNode format me)
        → IsNode format me
    go true is e later = let same : n.id.0 ≡ me.0 = grind (arith, nat_tests, is) in (omega (arith, same, are.0.0), omega (arith, same, are.0.1))
    go false is e later = later e

short : (h : LmsHeight) → signature_len (param_of h) < 65536
short Five = omega arith
short Ten = omega arith

boots : (c : NodeConfig) (own : NodeSigner) (boot : ℕ) → boot < 2 ^ 64 → AreBytes c.document → IsBootable c own boot → SignerHolds (signer_in own)
    → Boots (fixed_of c boot) (signer_in own)
boots c own boot small bytes is holds = record {
  me = found_in c.topology.format c.topology.height 0 c.topology.nodes c.me _ is.topology.ranges.nodes is.is_mine;
  boot = small;
  topology = is.topology;
  short = short c.topology.height;
  document = (bytes, is.short);
  signer = holds;
}

-- before it says anything
pub booted_kept : (c : NodeConfig) (own : NodeSigner) (boot : ℕ) → boot < 2 ^ 64 → AreBytes c.document → IsBootable c own boot → SignerHolds (signer_in own)
    → IsKept (format_of (fixed_of c boot)) (booted_of c own boot)
booted_kept c own boot small bytes is holds =
    boot_keeps (format_of (fixed_of c boot)) (fixed_of c boot) (signer_in own) (map (λ (k : EdgeId × List ℕ). k.1) c.keys) c.limits.buffer c.limits.store
    (boots c own boot small bytes is holds)

-- and after its start
pub started_kept : (c : NodeConfig) (own : NodeSigner) (boot : ℕ) → boot < 2 ^ 64 → AreBytes c.document → IsBootable c own boot → SignerHolds (signer_in own)
    → IsKept (format_of (fixed_of c boot)) (started_of c own boot)
started_kept c own boot small bytes is holds =
    start_keeps (format_of (fixed_of c boot)) (fixed_of c boot) (signer_in own) (map (λ (k : EdgeId × List ℕ). k.1) c.keys) c.limits.buffer c.limits.store
    (boots c own boot small bytes is holds)
    (fitted (fixed_of c boot) own (record {
      node = is.node;
      height = is.height;
      signature_len = sym (ap signature_len is.height);
      is_mine = is.is_mine;
    }))
    (λ e. ((is.announces e).index, (is.announces e).format))
