-- The law on versions that never fall, step by step of a node that runs on.
use Rattle.std.proofs.Common.{◌++◌, sym, ap, subst, ◌∙◌}
use Rattle.std.proofs.lemmas.Option.{same_Some}
use Rattle.sp_runs.specs.Worlds.{World, node_in}
use Rattle.laws_node.specs.Withdrawals.{RisesTo}
use Rattle.laws_progress.specs.Rising.{VersionsRiseInLives}
use Rattle.laws_progress.proofs.RunStates.{split}
use Rattle.laws_progress.proofs.States.{last_state}
use Rattle.laws_progress.proofs.UpStates.{runs_through}

pub versions_never_fall : VersionsRiseInLives
versions_never_fall arts x fits reads es js w after more v early run u up n m at_n at_m =
    let all = es ++ after in
    let y = last_state arts x all (js ++ more) v run in
    let parts = split arts x fits reads es after js more w v early run in
    let on =
    runs_through arts x all fits reads after parts.mid y parts.goes u up.stays n (ap (λ (z : World). node_in z.nodes u) parts.world ∙ at_n) in
    subst (RisesTo n) (same_Some on.node m (sym on.there ∙ at_m)) (record { version = on.later.version; removed = on.later.removed })
