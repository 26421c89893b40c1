use Rattle.sp_journal_reading.proofs.TextLemmas.{journals_are_of_their_text}
use Rattle.sp_auditor.proofs.journal.told_in.Goals as goal

pub returns-in-Ok : goal.returns-in-Ok
returns-in-Ok c =
    let of = journals_are_of_their_text c.args.text.now c.in-Ok.journal c.in-Ok.ensures.read in
    record { good = of.0; is_text = of.1; whole = c.if-is_cut.false }
