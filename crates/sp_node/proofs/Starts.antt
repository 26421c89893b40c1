-- A node that starts keeps what every step keeps.
use Rattle.std.proofs.Common.{◌≡◌, ◌<◌, ◌^◌, ℕ, Bool, true, false, List, map, refl, sym, subst, arith, cond}
use Rattle.sp_base.specs.Spelling.{AreBytes}
use Rattle.sp_base.specs.declared.id.EdgeId.{EdgeId}
use Rattle.sp_node_format.specs.Format.{format_of}
use Rattle.sp_rules.specs.Node.{NodeState, announced}
use Rattle.sp_rules.specs.Parts.{Fixed}
use Rattle.sp_sign.specs.NodeSigner.{NodeSigner}
use Rattle.laws_node.proofs.Withdrawing.{start_obeys}
use Rattle.laws_node.specs.Nodes.{IsKept, SignerHolds}
use Rattle.laws_node.specs.Withdrawals.{Obeys}
use Rattle.sp_node_state.proofs.Started.{started_kept}
use Rattle.sp_node_state.specs.Boots.{IsBootable, booted_of, fixed_of, started_of}
use Rattle.sp_node_state.specs.States.{signer_in}
use Rattle.sp_node_state.specs.declared.boot.NodeConfig.{NodeConfig}

-- where it signed its boot, its signer was in its ranges before
abbrev with_boot : NodeConfig → NodeSigner → ℕ → NodeState
with_boot c own boot = announced (format_of (fixed_of c boot)) (booted_of c own boot)

signer_before : (c : NodeConfig) (own : NodeSigner) (boot : ℕ) → SignerHolds (started_of c own boot).signer → SignerHolds (signer_in own)
signer_before c own boot holds = go c.epochs holds
  where
    go : (epochs : Bool) → SignerHolds (cond epochs (with_boot c own boot) (booted_of c own boot)).signer → SignerHolds (signer_in own)
    go true after = let index = after.index in record { index = omega (arith, index); bound = after.bound; total = after.total }
    go false after = after

-- and what is fixed stays
same_fixed : (c : NodeConfig) (own : NodeSigner) (boot : ℕ) → (started_of c own boot).fixed ≡ fixed_of c boot
same_fixed c own boot = go c.epochs
  where
    go : (epochs : Bool) → (cond epochs (with_boot c own boot) (booted_of c own boot)).fixed ≡ fixed_of c boot
    go true = refl
    go false = refl

-- the document of its version is that of its configuration
same_document : (c : NodeConfig) (own : NodeSigner) (boot : ℕ) → AreBytes (started_of c own boot).live.document → AreBytes c.document
same_document c own boot = go c.epochs
  where
    go : (epochs : Bool) → AreBytes (cond epochs (with_boot c own boot) (booted_of c own boot)).live.document → AreBytes c.document
    go true are = are
    go false are = are

pub kept_at_start : (c : NodeConfig) (own : NodeSigner) (boot : ℕ) → boot < 2 ^ 64 → AreBytes (started_of c own boot).live.document → IsBootable c own boot
    → SignerHolds (started_of c own boot).signer → IsKept (format_of (started_of c own boot).fixed) (started_of c own boot)
kept_at_start c own boot small bytes is holds =
    subst (λ (f : Fixed). IsKept (format_of f) (started_of c own boot)) (sym (same_fixed c own boot))
    (started_kept c own boot small (same_document c own boot bytes) is (signer_before c own boot holds))

pub obeys_at_start : (c : NodeConfig) (own : NodeSigner) (boot : ℕ) → Obeys (started_of c own boot)
obeys_at_start c own boot =
    start_obeys (format_of (fixed_of c boot)) (fixed_of c boot) (signer_in own) (map (λ (k : EdgeId × List ℕ). k.1) c.keys) c.limits.buffer c.limits.store
