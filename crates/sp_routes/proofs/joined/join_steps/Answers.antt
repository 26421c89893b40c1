use Rattle.sp_graph.specs.Masks.{is_walked}
use Rattle.sp_routes.proofs.JoinedLemmas.{all_added, few_steps, next_step}
use Rattle.sp_routes.proofs.joined.join_steps.Goals as goal

pub steps-preserved : goal.steps-preserved
steps-preserved c = record {
  long = c.join.ensures.length;
  so_far = next_step c.args.flags.now c.steps.flags c.join.new.flags c.steps.rest.now c.args.path.now _ _ c.steps-test.true
      c.steps.invariant.so_far c.join.ensures.adds;
}

pub returns : goal.returns
returns c = record {
  length = c.steps.invariant.long;
  adds = all_added c.args.flags.now c.steps.flags (λ e. is_walked e c.steps.rest.now) (λ e. is_walked e c.args.path.now) c.steps.invariant.so_far
      (λ e. few_steps c.steps.rest.now e c.steps-test.false);
}
