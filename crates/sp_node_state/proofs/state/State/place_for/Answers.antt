use Rattle.std.proofs.Common.{◌≡◌, ◌==◌, ◌∙◌, true, false, sym, ap, arith}
use Rattle.std.specs.Prelude.{position}
use Rattle.std.proofs.lemmas.Bool.Decides.{nat_tests}
use Rattle.sp_rules.specs.Node.{NodeState, is_link}
use Rattle.sp_rules.specs.declared.node.TheConstants.{MAX_CALLS}
use Rattle.sp_node_state.proofs.Links.{answered, not_there, worn}
use Rattle.sp_node_state.proofs.state.State.place_for.Goals as goal

pub returns-in_default-clause-refused : goal.returns-in_default-clause-refused
returns-in_default-clause-refused c =
    let links = ap (λ (n : NodeState). n.links) c.self.view_is in
    not_there c.args.self.now c.args.v (ap (position (is_link c.args.v)) (sym links ∙ sym c.as_slice.ensures.value) ∙ sym c.link_to.ensures ∙ c.in_default.is)

pub returns-then-self-eq-MAX_CALLS-clause-refused : goal.returns-then-self-eq-MAX_CALLS-clause-refused
returns-then-self-eq-MAX_CALLS-clause-refused c =
    let links = ap (λ (n : NodeState). n.links) c.self.view_is in
    let calls : c.self.inside.calls ≡ c.args.self.now.calls = ap (λ (n : NodeState). n.calls) c.self.view_is in
    let many : (c.args.self.now.calls == MAX_CALLS) ≡ true = grind (arith, nat_tests, calls, c.if-self-eq-MAX_CALLS.true) in
    worn c.args.self.now c.args.v c.in-Some.place
    (ap (position (is_link c.args.v)) (sym links ∙ sym c.as_slice.ensures.value) ∙ sym c.link_to.ensures ∙ c.in-Some.is) many

pub returns-clause-answered : goal.returns-clause-answered
returns-clause-answered c =
    let links = ap (λ (n : NodeState). n.links) c.self.view_is in
    let calls : c.self.inside.calls ≡ c.args.self.now.calls = ap (λ (n : NodeState). n.calls) c.self.view_is in
    let few : (c.args.self.now.calls == MAX_CALLS) ≡ false = grind (arith, nat_tests, calls, c.if-self-eq-MAX_CALLS.false) in
    answered c.args.self.now c.args.v c.in-Some.place c.requires
    (ap (position (is_link c.args.v)) (sym links ∙ sym c.as_slice.ensures.value) ∙ sym c.link_to.ensures ∙ c.in-Some.is) few
