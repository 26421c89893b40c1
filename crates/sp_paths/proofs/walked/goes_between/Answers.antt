use Rattle.std.proofs.Common.{Bool, sym, ap, ◌∙◌}
use Rattle.std.specs.Prelude.{◌&&◌}
use Rattle.sp_paths.specs.Tests.{is_node}
use Rattle.sp_paths.proofs.Tested.{begins_same, first_and_last}
use Rattle.sp_paths.proofs.walked.goes_between.Goals as goal

pub returns-then-first-s : goal.returns-then-first-s
returns-then-first-s c =
    let last = c.in-Some-split_last.last.now in
    let is = first_and_last c.args.s c.args.t c.in-Some.first.now last c.args.path.now c.in-Some.rest.now c.in-Some-split_last._inner.now
    c.in-Some.ensures.cases.0 c.in-Some-split_last.ensures.cases.0 in
    sym (is ∙ ap (λ (b : Bool). b && is_node last c.args.t) (begins_same c.in-Some.first.now c.args.s c.if-first-s.true))
