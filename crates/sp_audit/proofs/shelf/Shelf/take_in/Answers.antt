use Rattle.std.proofs.Common.{◌∷◌, Bool, List, [], true, false, drop, sym, subst, suc, take}
use Rattle.sp_msg.specs.declared.effect.Effect.{Effect}
use Rattle.sp_audit.specs.Shelves.{TakesAll}
use Rattle.sp_audit.proofs.ShelfLemmas.{takes_more, takes_no_more}
use Rattle.sp_audit.proofs.Walks.{next_item, parts}
use Rattle.sp_audit.proofs.shelf.Shelf.take_in.Goals as goal

pub effects-preserved : goal.effects-preserved
effects-preserved c =
    let effects = c.args.effects.now in
    let e = c.index-effects-place.result in
    subst (λ (xs : List Effect). TakesAll c.args.capacity c.args.p c.args.self.now xs c.take_one.new.self true)
    (sym (next_item effects c.effects.place e c.effects-test.true c.index-effects-place.is))
    (takes_more c.args.capacity c.args.p c.args.self.now c.effects.self c.take_one.new.self (take c.effects.place effects) (e ∷ []) true c.effects.invariant
    (subst (λ (b : Bool). TakesAll c.args.capacity c.args.p c.effects.self (e ∷ []) c.take_one.new.self b) c.if-not-branch.false c.in_ok-take_one.ensures))

pub returns-then-not-branch : goal.returns-then-not-branch
returns-then-not-branch c =
    let effects = c.args.effects.now in
    let e = c.index-effects-place.result in
    subst (λ (xs : List Effect). TakesAll c.args.capacity c.args.p c.args.self.now xs c.take_one.new.self false)
    (sym (parts effects c.effects.place e c.effects-test.true c.index-effects-place.is))
    (takes_no_more c.args.capacity c.args.p c.args.self.now c.effects.self c.take_one.new.self (take c.effects.place effects) (e ∷ [])
    (drop (suc c.effects.place) effects)
    c.effects.invariant
    (subst (λ (b : Bool). TakesAll c.args.capacity c.args.p c.effects.self (e ∷ []) c.take_one.new.self b) c.if-not-branch.true c.in_ok-take_one.ensures))
