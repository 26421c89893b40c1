use Rattle.std.proofs.Common.{Bool, List, true, false, length, subst, ap, arith}
use Rattle.sp_msg.specs.declared.effect.Effect.{Effect}
use Rattle.sp_audit.specs.Firsts.{KeepsPlace}
use Rattle.sp_audit.specs.Shelves.{Shelf, TakesAll}
use Rattle.sp_audit.proofs.Firsts.{first_here, holds_more}
use Rattle.sp_audit.proofs.Turns.{Here, place_breaks, place_next}
use Rattle.sp_audit.proofs.shelf.place_first.Goals as goal

pub returns-then-not-branch : goal.returns-then-not-branch
returns-then-not-branch c =
    let es = c.args.events.now in
    let js = c.args.journal.now in
    let e = c.index-events-place.result in
    let j = c.index-journal-place.result in
    let takes : TakesAll c.args.capacity c.args.p c.events.shelf (Here e j c.args.u) c.take_in.new.self false =
    subst (λ (b : Bool). TakesAll c.args.capacity c.args.p c.events.shelf (Here e j c.args.u) c.take_in.new.self b) c.if-not-branch.true
    (subst (λ (fs : List Effect). TakesAll c.args.capacity c.args.p c.events.shelf fs c.take_in.new.self c.in_ok-take_in.field-0) c.effects_when-effects.ensures
    c.in_ok-take_in.ensures) in
    first_here (KeepsPlace c.args.capacity es js c.args.u c.args.p) (length es) c.events.place c.events-test.true c.events.invariant.kept
    (place_breaks c.args.capacity c.args.p es js c.events.place e j c.args.u c.events.shelf c.take_in.new.self
    (record { even = c.requires; there = c.events-test.true; event = c.index-events-place.is; entry = c.index-journal-place.is })
    c.events.invariant.shelf (c.events.invariant.kept c.events.place (omega arith)) takes)

pub returns-then-from-len : goal.returns-then-from-len
returns-then-from-len c =
    let es = c.args.events.now in
    let js = c.args.journal.now in
    let e = c.index-events-place.result in
    let j = c.index-journal-place.result in
    let takes : TakesAll c.args.capacity c.args.p c.events.shelf (Here e j c.args.u) c.take_in.new.self true =
    subst (λ (b : Bool). TakesAll c.args.capacity c.args.p c.events.shelf (Here e j c.args.u) c.take_in.new.self b) c.if-not-branch.false
    (subst (λ (fs : List Effect). TakesAll c.args.capacity c.args.p c.events.shelf fs c.take_in.new.self c.in_ok-take_in.field-0) c.effects_when-effects.ensures
    c.in_ok-take_in.ensures) in
    let next = place_next c.args.capacity c.args.p es js c.events.place e j c.args.u c.events.shelf c.take_in.new.self
    (record { even = c.requires; there = c.events-test.true; event = c.index-events-place.is; entry = c.index-journal-place.is })
    c.events.invariant.shelf (c.events.invariant.kept c.events.place (omega arith)) takes in
    first_here (KeepsPlace c.args.capacity es js c.args.u c.args.p) (length es) c.events.place c.events-test.true c.events.invariant.kept
    (λ kept. let long = ap (λ (s : Shelf). length s.held) next.0 in let most = kept.0 in
    omega (arith, long, most, c.len.ensures, c.from.ensures, c.if-from-len.true))

pub events-preserved : goal.events-preserved
events-preserved c =
    let es = c.args.events.now in
    let js = c.args.journal.now in
    let e = c.index-events-place.result in
    let j = c.index-journal-place.result in
    let takes : TakesAll c.args.capacity c.args.p c.events.shelf (Here e j c.args.u) c.take_in.new.self true =
    subst (λ (b : Bool). TakesAll c.args.capacity c.args.p c.events.shelf (Here e j c.args.u) c.take_in.new.self b) c.if-not-branch.false
    (subst (λ (fs : List Effect). TakesAll c.args.capacity c.args.p c.events.shelf fs c.take_in.new.self c.in_ok-take_in.field-0) c.effects_when-effects.ensures
    c.in_ok-take_in.ensures) in
    let next = place_next c.args.capacity c.args.p es js c.events.place e j c.args.u c.events.shelf c.take_in.new.self
    (record { even = c.requires; there = c.events-test.true; event = c.index-events-place.is; entry = c.index-journal-place.is })
    c.events.invariant.shelf (c.events.invariant.kept c.events.place (omega arith)) takes in
    let long = ap (λ (s : Shelf). length s.held) next.0 in
    record {
      shelf = next.0;
      kept = holds_more (KeepsPlace c.args.capacity es js c.args.u c.args.p) c.events.place c.events.invariant.kept
          (omega (arith, long, c.len.ensures, c.from.ensures, c.if-from-len.false), next.1);
    }
