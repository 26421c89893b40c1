use Rattle.std.proofs.Common.{Bool, List, ℕ, true, false, drop, sym, subst, suc, take, arith}
use Rattle.sp_audit.specs.Lists.{number, numbers}
use Rattle.sp_audit.specs.Seen.{TakesIn}
use Rattle.sp_audit.proofs.SeenLemmas.{takes_more, takes_no_more}
use Rattle.sp_audit.proofs.Turns.{numbers_more, numbers_parts}
use Rattle.sp_audit.proofs.Walks.{take_all}
use Rattle.sp_audit.proofs.once.add_all.Goals as goal

pub effects-preserved : goal.effects-preserved
effects-preserved c =
    let s = c.args.s in
    let effects = c.args.effects.now in
    let e = c.index-effects-place.result in
    subst (λ (xs : List ℕ). TakesIn c.args.seen.now xs c.add.new.seen true)
    (sym (numbers_more s effects c.effects.place e c.effects-test.true c.index-effects-place.is))
    (takes_more c.args.seen.now c.effects.seen c.add.new.seen (numbers s (take c.effects.place effects)) (number s e) true c.effects.invariant
    (subst (λ (b : Bool). TakesIn c.effects.seen (number s e) c.add.new.seen b) c.if-not-branch.false c.in_ok-add.ensures))

pub returns-then-not-branch : goal.returns-then-not-branch
returns-then-not-branch c =
    let s = c.args.s in
    let effects = c.args.effects.now in
    let e = c.index-effects-place.result in
    subst (λ (xs : List ℕ). TakesIn c.args.seen.now xs c.add.new.seen false)
    (sym (numbers_parts s effects c.effects.place e c.effects-test.true c.index-effects-place.is))
    (takes_no_more c.args.seen.now c.effects.seen c.add.new.seen (numbers s (take c.effects.place effects)) (number s e)
    (numbers s (drop (suc c.effects.place) effects))
    c.effects.invariant (subst (λ (b : Bool). TakesIn c.effects.seen (number s e) c.add.new.seen b) c.if-not-branch.true c.in_ok-add.ensures))

pub returns : goal.returns
returns c =
    subst (λ xs. TakesIn c.args.seen.now (numbers c.args.s xs) c.effects.seen true) (take_all c.args.effects.now c.effects.place (omega arith))
    c.effects.invariant
