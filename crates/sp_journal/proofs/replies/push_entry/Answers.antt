use Rattle.sp_journal.proofs.JournalLemmas.{entry_written}
use Rattle.sp_journal.proofs.replies.push_entry.Goals as goal

pub returns : goal.returns
returns c =
    entry_written c.push_effect_lines.result c.args.number c.args.entry.now _ _ _ _ _ c.in_ok-push_number.ensures c.in_ok-push_str.ensures.bytes
    c.in_ok-push_reply_line.ensures
    (rw c.as_slice.ensures at c.push_effect_lines.ensures)
