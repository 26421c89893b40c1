use Rattle.std.proofs.Common.{◌≡◌, ◌++◌, List, length, take, sym, ap, subst, ◌∙◌, arith}
use Rattle.std.specs.List.{flat_map}
use Rattle.sp_msg.specs.declared.effect.Effect.{Effect}
use Rattle.sp_runs.specs.Told.{Message, accepted_in, delivered_by, sent}
use Rattle.sp_audit.specs.Agreed.{Agrees, Differs}
use Rattle.sp_audit.specs.Firsts.{KeepsOrder}
use Rattle.sp_audit.proofs.Firsts.{first_here, first_nowhere, holds_more}
use Rattle.sp_audit.proofs.Turns.{fewer, order_breaks, order_next, sent_next}
use Rattle.sp_audit.proofs.messages.first_of_kind.Goals as goal

pub agreed-requires : goal.agreed-requires
agreed-requires c =
    let kind = c.args.kind in
    let es = c.args.events.now in
    let js = c.args.journal.now in
    let e = c.index-events-place.result in
    let j = c.index-journal-place.result in
    let here = accepted_in kind c.args.s c.args.d e j.reply in
    let now : c.as_slice.result.now ≡ sent kind (take c.events.place es) (take c.events.place js) c.args.s c.args.d ++ here =
    c.as_slice.ensures.value ∙ c.in_ok-push_sent.ensures ∙ ap (λ (xs : List Message). xs ++ here) c.events.invariant.sent in
    let few = fewer kind es js c.events.place e j c.args.s c.args.d c.as_slice.result.now
    (record { even = c.requires; there = c.events-test.true; event = c.index-events-place.is; entry = c.index-journal-place.is }) now
    (c.events.invariant.kept c.events.place (omega arith)) in
    let count = c.events.invariant.count in
    omega (arith, few, count)

pub returns-in-None : goal.returns-in-None
returns-in-None c =
    let kind = c.args.kind in
    let es = c.args.events.now in
    let js = c.args.journal.now in
    let e = c.index-events-place.result in
    let j = c.index-journal-place.result in
    let here = accepted_in kind c.args.s c.args.d e j.reply in
    let now : c.as_slice.result.now ≡ sent kind (take c.events.place es) (take c.events.place js) c.args.s c.args.d ++ here =
    c.as_slice.ensures.value ∙ c.in_ok-push_sent.ensures ∙ ap (λ (xs : List Message). xs ++ here) c.events.invariant.sent in
    first_here (KeepsOrder kind es js c.args.s c.args.d) (length es) c.events.place c.events-test.true c.events.invariant.kept
    (order_breaks kind es js c.events.place e j c.args.s c.args.d c.as_slice.result.now c.events.count
    (record { even = c.requires; there = c.events-test.true; event = c.index-events-place.is; entry = c.index-journal-place.is }) now c.events.invariant.count
    (c.events.invariant.kept c.events.place (omega arith))
    (subst (λ (fs : List Effect). Differs c.as_slice.result.now c.events.count (flat_map (delivered_by kind c.args.s) fs)) c.effects_when.ensures
    c.in-None.ensures.differs))

pub events-preserved : goal.events-preserved
events-preserved c =
    let kind = c.args.kind in
    let es = c.args.events.now in
    let js = c.args.journal.now in
    let e = c.index-events-place.result in
    let j = c.index-journal-place.result in
    let here = accepted_in kind c.args.s c.args.d e j.reply in
    let old : c.push_sent.new.found.items ≡ sent kind (take c.events.place es) (take c.events.place js) c.args.s c.args.d ++ here =
    c.in_ok-push_sent.ensures ∙ ap (λ (xs : List Message). xs ++ here) c.events.invariant.sent in
    let next = order_next kind es js c.events.place e j c.args.s c.args.d c.as_slice.result.now c.events.count c.in-Some.more
    (record { even = c.requires; there = c.events-test.true; event = c.index-events-place.is; entry = c.index-journal-place.is })
    (c.as_slice.ensures.value ∙ old) c.events.invariant.count (c.events.invariant.kept c.events.place (omega arith))
    (subst (λ (fs : List Effect). Agrees c.as_slice.result.now c.events.count (flat_map (delivered_by kind c.args.s) fs) c.in-Some.more)
    c.effects_when.ensures
    c.in-Some.ensures.agrees) in
    record {
      sent = old
          ∙ sym (sent_next kind es js c.events.place e j c.args.s c.args.d
          (record { even = c.requires; there = c.events-test.true; event = c.index-events-place.is; entry = c.index-journal-place.is }));
      count = next.1;
      kept = holds_more (KeepsOrder kind es js c.args.s c.args.d) c.events.place c.events.invariant.kept next.0;
    }

pub returns : goal.returns
returns c =
    first_nowhere (KeepsOrder c.args.kind c.args.events.now c.args.journal.now c.args.s c.args.d) (length c.args.events.now) c.events.place (omega arith)
    c.events.invariant.kept
