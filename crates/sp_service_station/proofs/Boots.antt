-- A node at its start has signatures of a length that this format has, and the indexes of its signer, of which it took the next where it signed its boot.
use Rattle.std.proofs.Common.{◌≡◌, ℕ, ◌<◌, ◌≤◌, ◌∙◌, Bool, true, false, refl, sym, subst, ap, arith, cond, inl, inr}
use Rattle.std.specs.Prelude.{◌≢◌}
use Rattle.laws_keystate.specs.Runs.{TakesNext}
use Rattle.sp_node_format.proofs.PolledFrames.{signatures_are_short}
use Rattle.sp_node_format.specs.PolledFrames.{most_signature}
use Rattle.sp_node_format.specs.Format.{format_of}
use Rattle.sp_node_state.specs.Boots.{booted_of, fixed_of, started_of}
use Rattle.sp_node_state.specs.declared.boot.NodeConfig.{NodeConfig}
use Rattle.sp_rules.specs.Node.{NodeState, announced}
use Rattle.sp_service_station.specs.Stations.{indexes_of}
use Rattle.sp_sign.specs.NodeSigner.{NodeSigner}

same_length : (c : NodeConfig) (own : NodeSigner) (boot : ℕ) → (started_of c own boot).fixed.signature_len ≡ (fixed_of c boot).signature_len
same_length c own boot = go c.epochs
  where
    said : NodeState
    said = announced (format_of (fixed_of c boot)) (booted_of c own boot)

    go : (epochs : Bool) → (cond epochs said (booted_of c own boot)).fixed.signature_len ≡ (fixed_of c boot).signature_len
    go true = refl
    go false = refl

pub is_short : (c : NodeConfig) (own : NodeSigner) (boot : ℕ) (n : NodeState) → n ≡ started_of c own boot → n.fixed.signature_len ≤ most_signature
is_short c own boot n is =
    let e = ap (λ (s : NodeState). s.fixed.signature_len) is in
    omega (arith, e, same_length c own boot, signatures_are_short c.topology.height)

-- ---- the indexes

-- what holds of a node that signed its boot, and of one that didn't, holds of one that started
by_start : (P : NodeState → Type 0) (c : NodeConfig) (own : NodeSigner) (boot : ℕ)
    → (c.epochs ≡ true → P (announced (format_of (fixed_of c boot)) (booted_of c own boot))) → P (booted_of c own boot) → P (started_of c own boot)
by_start P c own boot said unsaid = go c.epochs said
  where
    told : NodeState
    told = announced (format_of (fixed_of c boot)) (booted_of c own boot)

    go : (epochs : Bool) → (epochs ≡ true → P told) → P (cond epochs told (booted_of c own boot))
    go true said = said refl
    go false said = unsaid

-- a node begins with the bound of its signer
pub bound_at_start : (c : NodeConfig) (own : NodeSigner) (boot : ℕ) (n : NodeState) → n ≡ started_of c own boot → n.signer.bound ≡ own.signer.bound
bound_at_start c own boot n is =
    ap (λ (s : NodeState). s.signer.bound) is ∙ by_start (λ s. s.signer.bound ≡ own.signer.bound) c own boot (λ on. refl) refl

-- a node takes the first index for its start's own object
pub takes_at_start : (c : NodeConfig) (own : NodeSigner) (boot : ℕ) (n : NodeState) → n ≡ started_of c own boot
    → (c.epochs ≡ true → own.signer.index < own.signer.bound) → TakesNext (indexes_of (booted_of c own boot)) (indexes_of n)
takes_at_start c own boot n is below =
    subst (λ (s : NodeState). TakesNext (indexes_of (booted_of c own boot)) (indexes_of s)) (sym is)
    (by_start (λ s. TakesNext (indexes_of (booted_of c own boot)) (indexes_of s)) c own boot (λ on. inr (apart (below on), refl)) (inl refl))
  where
    apart : own.signer.index < own.signer.bound → own.signer.index ≢ own.signer.bound
    apart less same = omega (arith, less, same)
