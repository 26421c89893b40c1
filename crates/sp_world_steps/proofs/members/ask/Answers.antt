use Rattle.std.proofs.Common.{List, sym, ap, ◌∙◌}
use Rattle.std.specs.Prelude.{position}
use Rattle.sp_rules.specs.Node.{NodeState}
use Rattle.sp_runs.specs.Worlds.{is_me}
use Rattle.sp_world_steps.proofs.Among.{asked_has_place, may_ask_at}
use Rattle.sp_world_steps.proofs.members.ask.Goals as goal

pub unreachable-requires : goal.unreachable-requires
unreachable-requires c =
    asked_has_place c.args.nodes.now.items c.args.u c.args.event.now c.args.document.now c.requires.can c.requires.acts
    (ap (λ (ns : List NodeState). position (is_me c.args.u) ns) (sym c.deref.ensures.value) ∙ (sym c.place_of.ensures ∙ c.in_default.is))

pub ask-requires : goal.ask-requires
ask-requires c =
    may_ask_at c.args.nodes.now.items c.args.u c.in-Some.place c.args.event.now c.args.document.now c.index_mut-member.result.now c.requires.can c.requires.acts
    (ap (λ (ns : List NodeState). position (is_me c.args.u) ns) (sym c.deref.ensures.value) ∙ (sym c.place_of.ensures ∙ c.in-Some.is))
    c.index_mut-member.ensures.value
