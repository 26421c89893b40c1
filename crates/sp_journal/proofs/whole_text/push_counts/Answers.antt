use Rattle.sp_journal.proofs.JournalLemmas.{summary_written}
use Rattle.sp_journal.proofs.whole_text.push_counts.Goals as goal

pub returns : goal.returns
returns c =
    summary_written c.args.events c.args.sent c.args.delivered c.args.priority c.args.frames _ _ _ _ _ _ _ _ c.in_ok-push_str.ensures.bytes
    c.in_ok-push_counted.ensures
    c.in_ok-push_counted-2.ensures c.in_ok-push_counted-3.ensures c.in_ok-push_counted-4.ensures c.in_ok-push_counted-5.ensures c.in_ok-push_str-2.ensures.bytes
