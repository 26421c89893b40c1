use Rattle.std.proofs.Common.{List, sym, ap, ◌∙◌}
use Rattle.std.specs.Prelude.{position}
use Rattle.sp_rules.specs.Node.{NodeState}
use Rattle.sp_runs.specs.Worlds.{is_me}
use Rattle.sp_world_steps.proofs.Among.{forward_at, reserve_has_place, within_at}
use Rattle.sp_world_steps.proofs.members.reserve.Goals as goal

pub unreachable-requires : goal.unreachable-requires
unreachable-requires c =
    reserve_has_place c.args.nodes.now.items c.args.u c.args.upto c.requires
    (ap (λ (ns : List NodeState). position (is_me c.args.u) ns) (sym c.deref.ensures.value) ∙ (sym c.place_of.ensures ∙ c.in_default.is))

pub extend-requires-clause-forward : goal.extend-requires-clause-forward
extend-requires-clause-forward c =
    forward_at c.args.nodes.now.items c.args.u c.in-Some.place c.args.upto c.index_mut-member.result.now c.requires
    (ap (λ (ns : List NodeState). position (is_me c.args.u) ns) (sym c.deref.ensures.value) ∙ (sym c.place_of.ensures ∙ c.in-Some.is))
    c.index_mut-member.ensures.value

pub extend-requires-clause-within : goal.extend-requires-clause-within
extend-requires-clause-within c =
    within_at c.args.nodes.now.items c.args.u c.in-Some.place c.args.upto c.index_mut-member.result.now c.requires
    (ap (λ (ns : List NodeState). position (is_me c.args.u) ns) (sym c.deref.ensures.value) ∙ (sym c.place_of.ensures ∙ c.in-Some.is))
    c.index_mut-member.ensures.value
