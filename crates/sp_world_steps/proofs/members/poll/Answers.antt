use Rattle.std.proofs.Common.{List, sym, ap, ◌∙◌}
use Rattle.std.specs.Prelude.{position}
use Rattle.sp_rules.specs.Node.{NodeState}
use Rattle.sp_runs.specs.Worlds.{is_me}
use Rattle.sp_world_steps.proofs.Among.{answers_at, called_has_place, short_at}
use Rattle.sp_world_steps.proofs.members.poll.Goals as goal

pub unreachable-requires : goal.unreachable-requires
unreachable-requires c =
    called_has_place c.args.nodes.now.items c.args.u c.args.v c.requires.can
    (ap (λ (ns : List NodeState). position (is_me c.args.u) ns) (sym c.deref.ensures.value) ∙ (sym c.place_of.ensures ∙ c.in_default.is))

pub poll-requires-clause-answered : goal.poll-requires-clause-answered
poll-requires-clause-answered c =
    answers_at c.args.nodes.now.items c.args.u c.args.v c.in-Some.place c.index_mut-member.result.now c.requires.can
    (ap (λ (ns : List NodeState). position (is_me c.args.u) ns) (sym c.deref.ensures.value) ∙ (sym c.place_of.ensures ∙ c.in-Some.is))
    c.index_mut-member.ensures.value

pub poll-requires-clause-short : goal.poll-requires-clause-short
poll-requires-clause-short c =
    short_at c.args.nodes.now.items c.args.u c.args.v c.in-Some.place c.index_mut-member.result.now c.requires.can
    (ap (λ (ns : List NodeState). position (is_me c.args.u) ns) (sym c.deref.ensures.value) ∙ (sym c.place_of.ensures ∙ c.in-Some.is))
    c.index_mut-member.ensures.value
