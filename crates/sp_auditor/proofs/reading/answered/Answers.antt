use Rattle.std.proofs.Common.{◌≡◌, true, false}
use Rattle.sp_auditor.specs.Texts.{file_of}
use Rattle.sp_auditor.proofs.reading.answered.Goals as goal

-- what isn't read has no claim
unread : {A : Type 0} → false ≡ true → A
unread is = absurd (let no : ⊥ = cc in no)

pub returns-in_ok-of_run-in-Run-clause-answers : goal.returns-in_ok-of_run-in-Run-clause-answers
returns-in_ok-of_run-in-Run-clause-answers g c =
    rw c.in-Run.is (record {
      schedule = file_of c.in_ok-schedule-in-Run.schedule;
      journal = file_of c.in_ok-journal-in-Run.journal;
      schedule_read = λ is. c.in_ok-schedule-in-Run.ensures.bytes;
      journal_read = λ is. c.in_ok-journal-in-Run.ensures.bytes;
      says = c.in_ok-of_run-in-Run.ensures;
    })

pub returns-in_ok-of_rounds-in-Rounds-clause-answers : goal.returns-in_ok-of_rounds-in-Rounds-clause-answers
returns-in_ok-of_rounds-in-Rounds-clause-answers g c =
    rw c.in-Rounds.is (record {
      schedule = file_of c.in_ok-schedule-in-Rounds.schedule;
      journal = file_of c.in_ok-schedule-in-Rounds.schedule;
      schedule_read = λ is. c.in_ok-schedule-in-Rounds.ensures.bytes;
      journal_read = λ is. unread is;
      says = c.in_ok-of_rounds-in-Rounds.ensures;
    })

pub returns-in_ok-of_schedule-in-Schedule-clause-answers : goal.returns-in_ok-of_schedule-in-Schedule-clause-answers
returns-in_ok-of_schedule-in-Schedule-clause-answers g c =
    rw c.in-Schedule.is (record {
      schedule = file_of c.in_ok-schedule-in-Schedule.schedule;
      journal = file_of c.in_ok-schedule-in-Schedule.schedule;
      schedule_read = λ is. c.in_ok-schedule-in-Schedule.ensures.bytes;
      journal_read = λ is. unread is;
      says = c.in_ok-of_schedule-in-Schedule.ensures;
    })

pub returns-in_ok-of_journal-in-Journal-clause-answers : goal.returns-in_ok-of_journal-in-Journal-clause-answers
returns-in_ok-of_journal-in-Journal-clause-answers g c =
    rw c.in-Journal.is (record {
      schedule = file_of c.in_ok-journal-in-Journal.journal;
      journal = file_of c.in_ok-journal-in-Journal.journal;
      schedule_read = λ is. unread is;
      journal_read = λ is. c.in_ok-journal-in-Journal.ensures.bytes;
      says = c.in_ok-of_journal-in-Journal.ensures;
    })
