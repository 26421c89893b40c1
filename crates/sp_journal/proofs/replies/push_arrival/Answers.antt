use Rattle.sp_journal.proofs.JournalLemmas.{arrival_written}
use Rattle.sp_journal.proofs.replies.push_arrival.Goals as goal

pub returns : goal.returns
returns c = arrival_written c.push_items.result _ c.args.items.now _ _ _ c.in_ok-push_link.ensures c.push_items.ensures
