use Rattle.std.proofs.Common.{◌≡◌, ◌<◌, ◌++◌, ◌∷◌, true, List, length}
use Rattle.sp_runs.specs.Held.{Held}
use Rattle.sp_audit.specs.Shares.{may_go}
use Rattle.sp_audit.proofs.share.is_share.Given as goal

abbrev pub invariant-entries : goal.invariant-entries
invariant-entries l =
    (before : List Held) (e : Held) (after : List Held) → l.held ≡ before ++ e ∷ after → length before < l.place → may_go l.capacity l.held before e l.id ≡ true
    → ⊥
