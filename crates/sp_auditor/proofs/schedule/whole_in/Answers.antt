use Rattle.sp_auditor.proofs.ReadingLemmas.{tells_schedule}
use Rattle.sp_auditor.proofs.schedule.whole_in.Goals as goal

pub returns-in-Whole-End : goal.returns-in-Whole-End
returns-in-Whole-End c =
    tells_schedule (record { text = c.args.text.now; is_cut = c.args.is_cut }) c.in_ok-reading.reading c.in-Whole-End.scenario c.in-Whole-End.events
    c.in_ok-reading.ensures.reading c.in-Whole-End.is-0 c.in-Whole-End.is-1
