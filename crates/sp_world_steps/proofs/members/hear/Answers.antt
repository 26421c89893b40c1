use Rattle.std.proofs.Common.{List, sym, ap, ◌∙◌}
use Rattle.std.specs.Prelude.{position}
use Rattle.sp_rules.specs.Node.{NodeState}
use Rattle.sp_runs.specs.Worlds.{is_me}
use Rattle.sp_world_steps.proofs.Among.{answers_at, called_has_place}
use Rattle.sp_world_steps.proofs.members.hear.Goals as goal

pub unreachable-requires : goal.unreachable-requires
unreachable-requires c =
    called_has_place c.args.nodes.now.items c.args.v c.args.u c.requires.can
    (ap (λ (ns : List NodeState). position (is_me c.args.v) ns) (sym c.deref.ensures.value) ∙ (sym c.place_of.ensures ∙ c.in_default.is))

pub datagram-requires : goal.datagram-requires
datagram-requires c = record {
  answered =
      answers_at c.args.nodes.now.items c.args.v c.args.u c.in-Some.place c.index_mut-member.result.now c.requires.can
      (ap (λ (ns : List NodeState). position (is_me c.args.v) ns) (sym c.deref.ensures.value) ∙ (sym c.place_of.ensures ∙ c.in-Some.is))
      c.index_mut-member.ensures.value;
}
