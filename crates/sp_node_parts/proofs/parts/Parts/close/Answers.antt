use Rattle.std.proofs.Common.{length, ◌∙◌, ap, arith}
use Rattle.sp_msg.specs.Caused.{Caused}
use Rattle.sp_rules.specs.Parts.{Parts}
use Rattle.sp_rules.specs.declared.kflow.FlowKind.TheVariants as kinds
use Rattle.sp_node_parts.proofs.Closing.{closed_short, few_removed}
use Rattle.sp_node_parts.specs.Closing.{closing_room}
use Rattle.sp_node_parts.specs.declared.withdrawn.Withdrawn.{Withdrawn}
use Rattle.sp_node_parts.proofs.parts.Parts.close.Goals as goal

pub withdraw-requires-clause-few : goal.withdraw-requires-clause-few
withdraw-requires-clause-few c =
    let few = few_removed c.args.topology.now c.as_slice-2.result.now (c.as_slice-2.ensures ∙ ap (λ (w : Withdrawn). w.removed) c.requires.withdrawn) in
    omega (arith, few, c.requires.nodes, ap (λ (p : Parts). length p.prio.nodes) c.self.view_is)

pub end_flows-requires-clause-few : goal.end_flows-requires-clause-few
end_flows-requires-clause-few c kinds.Plain =
    let few = few_removed c.args.topology.now c.as_slice-3.result.now (c.as_slice-3.ensures ∙ ap (λ (w : Withdrawn). w.removed) c.requires.withdrawn) in
    omega (arith, few, c.requires.flows kinds.Plain, ap (λ (p : Parts). length p.rel.nodes) c.self.view_is)
end_flows-requires-clause-few c kinds.Paths =
    let few = few_removed c.args.topology.now c.as_slice-3.result.now (c.as_slice-3.ensures ∙ ap (λ (w : Withdrawn). w.removed) c.requires.withdrawn) in
    omega (arith, few, c.requires.flows kinds.Paths, ap (λ (p : Parts). length p.kflow.flows.nodes) c.self.view_is)

pub end_flows-requires-clause-room : goal.end_flows-requires-clause-room
end_flows-requires-clause-room c =
    omega (
      arith,
      c.requires.room,
      ap (λ (p : Parts). closing_room p) c.self.view_is,
      ap (λ (told : Caused). told.room) c.withdraw.ensures.told,
      closed_short c.self.inside.prio c.as_slice.result.now c.as_slice-2.result.now,
    )
