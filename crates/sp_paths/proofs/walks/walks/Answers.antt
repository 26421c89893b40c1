use Rattle.std.proofs.Common.{◌≡◌, ◌+◌, ◌-◌, ℕ, [], ◌∷◌, subst, arith}
use Rattle.std.proofs.lemmas.List.{map-append}
use Rattle.sp_paths.specs.Flows.{Flow}
use Rattle.sp_paths.proofs.WalksLemmas.{one_more}
use Rattle.sp_paths.proofs.walks.walks.Goals as goal

pub walk-requires : goal.walk-requires
walk-requires c =
    let left : c.args.count - c.loop-taken._taken ≡ c.args.count - (c.loop-taken._taken + 1) + 1 = omega (arith, c.loop-taken-test.true) in
    record {
      flow =
          (c.args.count - (c.loop-taken._taken + 1), subst (λ (n : ℕ). Flow c.args.s c.args.t n c.loop-taken.lanes) left c.loop-taken.invariant.flow);
    }

pub loop-taken-preserved : goal.loop-taken-preserved
loop-taken-preserved c =
    let left : c.args.count - c.loop-taken._taken ≡ c.args.count - (c.loop-taken._taken + 1) + 1 = omega (arith, c.loop-taken-test.true) in
    let flow : Flow c.args.s c.args.t (c.args.count - (c.loop-taken._taken + 1) + 1) c.loop-taken.lanes =
    subst (λ (n : ℕ). Flow c.args.s c.args.t n c.loop-taken.lanes) left c.loop-taken.invariant.flow in
    record {
      flow = c.in_ok-walk.ensures.flow (c.args.count - (c.loop-taken._taken + 1)) flow;
      apart = rw (c.in_ok-push.ensures.items, map-append (λ walk. walk.items) c.loop-taken.walks.items (c.in_ok-walk.field-0 ∷ []))
          (one_more c.args.lanes.now c.loop-taken.lanes c.walk.new.lanes c.args.s c.args.t c.loop-taken._taken _ c.in_ok-walk.field-0.items
          c.loop-taken.invariant.apart c.in_ok-walk.ensures.taken c.in_ok-walk.ensures.leads c.in_ok-walk.ensures.first);
    }
