use Rattle.std.proofs.Common.{refl, sym, ◌∙◌, arith}
use Rattle.sp_audit.proofs.PathLemmas.{all_joined, joined_more, not_joined}
use Rattle.sp_audit.proofs.path.are_joined.Goals as goal

pub returns-then-not-is_joined : goal.returns-then-not-is_joined
returns-then-not-is_joined c = (
  λ wrong. absurd cc,
  λ all. absurd
      (not_joined c.args.path.now c.args.scenario.now.graph.edges c.nodes.place (record { 0 = 0 }) c.nodes.auto.place c.nodes-test.true
      (sym c.is_joined.ensures ∙ c.if-not-is_joined.true) all),
)

pub nodes-preserved : goal.nodes-preserved
nodes-preserved c =
    joined_more c.args.path.now c.args.scenario.now.graph.edges c.nodes.place (record { 0 = 0 }) c.nodes.auto.place c.nodes-test.true
    (sym c.is_joined.ensures ∙ c.if-not-is_joined.false) c.nodes.invariant

pub returns : goal.returns
returns c = (λ _. all_joined c.args.path.now c.args.scenario.now.graph.edges c.nodes.place (omega (arith, c.nodes-test.false)) c.nodes.invariant, λ _. refl)
