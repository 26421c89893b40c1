use Rattle.std.proofs.Common.{Bool, List, true, false, length, subst, arith}
use Rattle.sp_msg.specs.declared.effect.Effect.{Effect}
use Rattle.sp_audit.specs.Firsts.{ComesOnce}
use Rattle.sp_audit.specs.Lists.{numbers}
use Rattle.sp_audit.specs.Seen.{TakesIn}
use Rattle.sp_audit.proofs.Firsts.{first_here, first_nowhere, holds_more}
use Rattle.sp_audit.proofs.Turns.{Here, once_breaks, once_next}
use Rattle.sp_audit.proofs.once.once_first.Goals as goal

pub returns-then-not-branch : goal.returns-then-not-branch
returns-then-not-branch c =
    let es = c.args.events.now in
    let js = c.args.journal.now in
    let e = c.index-events-place.result in
    let j = c.index-journal-place.result in
    let takes : TakesIn c.events.seen (numbers c.args.s (Here e j c.args.u)) c.add_all.new.seen false =
    subst (λ (b : Bool). TakesIn c.events.seen (numbers c.args.s (Here e j c.args.u)) c.add_all.new.seen b) c.if-not-branch.true
    (subst (λ (fs : List Effect). TakesIn c.events.seen (numbers c.args.s fs) c.add_all.new.seen c.in_ok-add_all.field-0) c.effects_when-effects.ensures
    c.in_ok-add_all.ensures) in
    first_here (ComesOnce es js c.args.s c.args.u) (length es) c.events.place c.events-test.true c.events.invariant.kept
    (once_breaks es js c.events.place e j c.args.s c.args.u c.events.seen c.add_all.new.seen
    (record { even = c.requires; there = c.events-test.true; event = c.index-events-place.is; entry = c.index-journal-place.is })
    c.events.invariant.seen (c.events.invariant.kept c.events.place (omega arith)) takes)

pub events-preserved : goal.events-preserved
events-preserved c =
    let es = c.args.events.now in
    let js = c.args.journal.now in
    let e = c.index-events-place.result in
    let j = c.index-journal-place.result in
    let takes : TakesIn c.events.seen (numbers c.args.s (Here e j c.args.u)) c.add_all.new.seen true =
    subst (λ (b : Bool). TakesIn c.events.seen (numbers c.args.s (Here e j c.args.u)) c.add_all.new.seen b) c.if-not-branch.false
    (subst (λ (fs : List Effect). TakesIn c.events.seen (numbers c.args.s fs) c.add_all.new.seen c.in_ok-add_all.field-0) c.effects_when-effects.ensures
    c.in_ok-add_all.ensures) in
    let next = once_next es js c.events.place e j c.args.s c.args.u c.events.seen c.add_all.new.seen
    (record { even = c.requires; there = c.events-test.true; event = c.index-events-place.is; entry = c.index-journal-place.is })
    c.events.invariant.seen (c.events.invariant.kept c.events.place (omega arith)) takes in
    record { seen = next.0; kept = holds_more (ComesOnce es js c.args.s c.args.u) c.events.place c.events.invariant.kept next.1 }

pub returns : goal.returns
returns c =
    first_nowhere (ComesOnce c.args.events.now c.args.journal.now c.args.s c.args.u) (length c.args.events.now) c.events.place (omega arith)
    c.events.invariant.kept
