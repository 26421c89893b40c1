use Rattle.std.proofs.Common.{length, ap, arith}
use Rattle.std.specs.Prelude.{◌+◌, count_by}
use Rattle.sp_msg.specs.Caused.{Caused}
use Rattle.sp_rules.specs.Parts.{Parts}
use Rattle.sp_rules.specs.declared.kflow.FlowKind.TheVariants as kinds
use Rattle.sp_node_parts.proofs.Closing.{few_ended}
use Rattle.sp_node_parts.specs.Closing.{active_flows}
use Rattle.sp_node_parts.specs.declared.parts.Parts.TheInside.{Inside}
use Rattle.sp_node_parts.proofs.parts.Parts.end_flows.Goals as goal

pub end-requires-clause-few : goal.end-requires-clause-few
end-requires-clause-few c =
    let here = ap (λ (s : Inside). length s.rel.nodes) c.self-inside.view_is in
    omega (arith, c.requires.few kinds.Plain, ap (λ (p : Parts). length p.rel.nodes) c.self.view_is, here)

pub end-requires-2-clause-few : goal.end-requires-2-clause-few
end-requires-2-clause-few c =
    let here = ap (λ (s : Inside). length s.kflow.flows.nodes) c.self-inside.view_is in
    omega (arith, c.requires.few kinds.Paths, ap (λ (p : Parts). length p.kflow.flows.nodes) c.self.view_is, here)

pub end-requires-2-clause-room : goal.end-requires-2-clause-room
end-requires-2-clause-room c =
    omega (
      arith,
      c.requires.room,
      ap (λ (p : Parts). active_flows p) c.self.view_is,
      ap (λ (s : Inside). count_by (λ f. f.active) s.rel.flows + count_by (λ f. f.active) s.kflow.flows.flows) c.self-inside.view_is,
      ap (λ (told : Caused). told.room) c.end.ensures.told,
      few_ended kinds.Plain c.args.removed.now c.self-inside.inside.0.1.1.0.flows,
    )
