use Rattle.std.proofs.Common.{subst}
use Rattle.std.specs.List.{All}
use Rattle.sp_rules.specs.Flow.{IsStanding}
use Rattle.sp_rel.specs.Tables.{FlowsState}
use Rattle.sp_rel.proofs.SoundLemmas.{all_standing}
use Rattle.sp_rel.proofs.flows.Flows.recall.Goals as goal

pub returns : goal.returns
returns c =
    let f = c.self.inside in
    subst (λ (v : FlowsState). All (IsStanding v.me v.bound) v.flows) c.self.view_is (all_standing f.me f.bound f.rows.items c.self.invariant.rows_sound)
