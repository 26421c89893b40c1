use Rattle.std.proofs.Common.{List, length, ap, arith, filter}
use Rattle.std.proofs.lemmas.Bool.Decides.{nat_tests}
use Rattle.std.proofs.lemmas.List.Folds.{length-flat_map-take}
use Rattle.sp_journal.specs.JournalText.{priority_in, is_delivered_prio}
use Rattle.sp_msg.specs.declared.effect.Effect.{Effect}
use Rattle.sp_journal.specs.declared.entry.Entry.{Entry}
use Rattle.sp_journal_reading.proofs.summary_line.is_priority_count.Goals as goal

pub returns-then-left-here : goal.returns-then-left-here
returns-then-left-here c =
    let within = length-flat_map-take priority_in c.args.journal.now c.entries.entry-index c.entry-item.result c.entries-test.true in
    let here = ap (λ (entry : Entry). length (priority_in entry)) c.entry-item.is in
    let tally = c.priority_in-here.ensures in
    let slice = ap (λ (es : List Effect). length (filter is_delivered_prio es)) c.as_slice.ensures in
    grind (arith, nat_tests, within, here, tally, slice, c.entries.invariant)
