use Rattle.std.proofs.Common.{rules, ◌≡◌, ◌≢◌, ℕ, IsTrue, List, length, sum, replicate, slice_index, ap, ◌∙◌, arith}
use Rattle.sp_ots.specs.Lanes.{lanes}
use Rattle.sp_ots.specs.TwoLeaves.{front_in}
use Rattle.sp_ots.proofs.TwoLeaves.{length-front_in}
use Rattle.sp_ots.proofs.UnderWay.{all_ended, fewer_left_if_busy}
use Rattle.sp_ots.proofs.chains.run_both.Goals as goal

pub rounds-init : goal.rounds-init
rounds-init c =
    let elements = c.args.elements.now in
    record {
      under_way = c.fill.ensures.under_way elements
          (c.idle-lanes.ensures (front_in c.args.leaves.now) c.args.from.now c.args.to.now elements
          (λ i within. c.greatest.ensures i (omega (arith, c.requires.to))));
      full = c.fill.ensures.full;
    }

pub rounds-preserved : goal.rounds-preserved
rounds-preserved c =
    let stepped =
    c.step.ensures.under_way (front_in c.args.leaves.now) c.args.from.now c.args.elements.now
    (length-front_in c.args.leaves.now (omega arith) (omega arith)) c.rounds.invariant.under_way in
    record {
      under_way = c.fill-in-rounds.ensures.under_way c.args.elements.now stepped;
      full = c.fill-in-rounds.ensures.full;
    }

pub rounds-smaller : goal.rounds-smaller
rounds-smaller c =
    let left = c.rounds.lanes.left in
    let none : ℕ → List ℕ = λ n. replicate n 0 in
    let all : none (length left) ≡ none lanes = ap none c.rounds.invariant.under_way.left in
    let busy : left ≢ none (length left) = λ e. let idle : IsTrue c.are_idle.result = c.are_idle.ensures.1 (e ∙ all) in search rules in
    omega (arith, c.fill-in-rounds.ensures.work, c.step.ensures.most, c.step.ensures.next, ap sum c.step.ensures.left, fewer_left_if_busy left busy)

pub returns : goal.returns
returns c =
    let idle : IsTrue c.are_idle.result = search rules in
    let left : c.rounds.lanes.left ≡ replicate lanes 0 = c.are_idle.ensures.0 idle in
    all_ended (front_in c.args.leaves.now) c.args.from.now c.args.to.now c.args.elements.now c.rounds.elements c.rounds.lanes c.rounds.invariant.under_way
    (c.rounds.invariant.full 0 (omega arith) (ap (λ (xs : List ℕ). slice_index xs 0) left)) left
