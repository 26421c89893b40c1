use Rattle.std.proofs.Common.{ℕ, List, slice_index, ap, ◌∙◌, refl, arith}
use Rattle.sp_ots.specs.TwoLeaves.{front_in}
use Rattle.sp_ots.proofs.UnderWay.{taken}
use Rattle.sp_ots.proofs.lanes.Lanes.take.Goals as goal

pub returns-then-self-gt0-clause-under_way : goal.returns-then-self-gt0-clause-under_way
returns-then-self-gt0-clause-under_way c = λ old u.
    let found = c.seek.ensures.found (omega arith) in
    let v = c.seek.ensures.under_way (front_in c.args.leaves.now) old c.args.elements.now (omega (arith, u.whole, c.requires.to)) u in
    taken (front_in c.args.leaves.now) c.args.from.now c.args.to.now old c.args.elements.now c.seek.new.self _ c.args.k c.message.result
    v c.requires.lane (ap (λ (xs : List ℕ). slice_index xs c.args.k) c.seek.ensures.left ∙ c.requires.idle) (omega (arith, found.0, u.whole, c.requires.to))
    found.1 c.message.ensures
    refl refl refl refl refl

pub returns-else-self-gt0-clause-under_way : goal.returns-else-self-gt0-clause-under_way
returns-else-self-gt0-clause-under_way c = λ old u.
    c.seek.ensures.under_way (front_in c.args.leaves.now) old c.args.elements.now (omega (arith, u.whole, c.requires.to)) u
