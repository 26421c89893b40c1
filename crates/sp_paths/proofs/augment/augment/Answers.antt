use Rattle.std.proofs.Common.{◌≡◌, ◌-◌, ◌∙◌, ℕ, suc, sym, subst, arith}
use Rattle.std.proofs.lemmas.Grind.{common_steps}
use Rattle.std.specs.Prelude.{◌≢◌}
use Rattle.sp_paths.proofs.AugmentLemmas.{Back, back_turned, last_half, some_left}
use Rattle.sp_paths.proofs.augment.augment.Goals as goal

pub back-preserved-then-head-here : goal.back-preserved-then-head-here
back-preserved-then-head-here c =
    let apart : c.back.here ≢ c.args.s = grind (arith, common_steps) in
    let at_here : c.head.result ≡ c.back.here = grind (arith, common_steps) in
    let some = some_left c.args.lanes.now c.args.tree.now c.args.s c.back.here c.back.k c.back.invariant.place apart in
    let more : c.back.k ≡ suc (c.back.k - 1) = omega (arith, some) in
    let back = subst (λ (k : ℕ). Back c.args.lanes.now c.args.tree.now c.args.s c.args.t c.back.here k c.back.lanes) more c.back.invariant in
    rw (c.flipped.ensures, c.tail-here.ensures)
    (back_turned c.args.lanes.now c.args.tree.now c.args.s c.args.t c.back.here (c.back.k - 1) c.back.lanes back c.requires.tree
    (sym c.head.ensures ∙ at_here))

pub returns-clause-flow : goal.returns-clause-flow
returns-clause-flow c =
    let home : c.back.here ≡ c.args.s = grind (arith, common_steps) in
    λ r flow. last_half c.args.s c.args.t r c.back.here c.back.lanes home (c.back.invariant.flow r flow)
