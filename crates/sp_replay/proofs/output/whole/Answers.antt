use Rattle.std.specs.String.{string_bytes}
use Rattle.std.proofs.Common.{◌≡◌, List, subst, IfOk}
use Rattle.sp_journal.specs.JournalText as text
use Rattle.sp_journal.specs.declared.entry.Entry.{Entry}
use Rattle.sp_replay.proofs.output.whole.Goals as goal

pub returns : goal.returns
returns c = subst (λ (journal : List Entry). IfOk c.journal_text.result (λ out. string_bytes out ≡ text.journal_text journal)) c.journal.ensures
    c.journal_text.ensures
