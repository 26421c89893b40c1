use Rattle.std.proofs.Common.{List, length, ap, arith, filter}
use Rattle.std.proofs.lemmas.List.Folds.{length-flat_map-take}
use Rattle.sp_journal.specs.JournalText.{delivered_in, is_delivered, is_delivered_prio, priority_in}
use Rattle.sp_msg.specs.declared.effect.Effect.{Effect}
use Rattle.sp_journal.specs.declared.entry.Entry.{Entry}
use Rattle.sp_journal.proofs.whole_text.delivered.Goals as goal

pub overflow_add-reliable : goal.overflow_add-reliable
overflow_add-reliable c =
    let within = length-flat_map-take delivered_in c.args.journal.now c.entries.entry-index c.entry-item.result c.entries-test.true in
    let here = ap (λ (entry : Entry). length (delivered_in entry)) c.entry-item.is in
    let count = c.entries.invariant.reliable in
    let tally = c.delivered_in-reliable.ensures in
    let slice = ap (λ (es : List Effect). length (filter is_delivered es)) c.as_slice-effects.ensures in
    omega (arith, within, here, count, tally, slice, c.requires.deliveries)

pub overflow_add-priority : goal.overflow_add-priority
overflow_add-priority c =
    let within = length-flat_map-take priority_in c.args.journal.now c.entries.entry-index c.entry-item.result c.entries-test.true in
    let here = ap (λ (entry : Entry). length (priority_in entry)) c.entry-item.is in
    let count = c.entries.invariant.priority in
    let tally = c.priority_in-priority.ensures in
    let slice = ap (λ (es : List Effect). length (filter is_delivered_prio es)) c.as_slice-effects.ensures in
    omega (arith, within, here, count, tally, slice, c.requires.priority)
