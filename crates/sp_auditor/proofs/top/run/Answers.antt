use Rattle.std.proofs.Common.{◌≡◌, ℕ, List, Option, Err, inl, inr, refl, ap}
use Rattle.std.specs.String.{string_bytes}
use Rattle.sp_words.specs.declared.audit_status.AuditStatus.{AuditStatus}
use Rattle.sp_words.specs.declared.audit_status.AuditStatus.TheVariants as statuses
use Rattle.sp_words.specs.declared.refused.WordsRefused.{WordsRefused}
use Rattle.sp_words.specs.declared.refused.WordsRefused.TheVariants as refusals
use Rattle.sp_auditor.specs.Ends.{Answered, AreFine, Ends, IsTold, No_command, No_journal, No_schedule, Reads}
use Rattle.sp_auditor.specs.Lines.{unreadable_journal, unreadable_schedule, usage_line}
use Rattle.sp_auditor.proofs.top.run.Goals as goal

pub returns-in-Ok-answered-clause-ends : goal.returns-in-Ok-answered-clause-ends
returns-in-Ok-answered-clause-ends g c =
    let answer = c.in-Ok-answered.answer in
    rw c.in-Ok.is (inl (record {
      would = answer.status;
      text = string_bytes answer.text;
      is_output = Answered c.in-Ok.line answer.status (string_bytes answer.text) c.in-Ok-answered.ensures.fine.0 c.in-Ok-answered.ensures.fine.1
          c.in-Ok-answered.ensures.answers;
      told = rw c.as_bytes.ensures.value at c.tell.ensures.told;
    }))

pub returns-in-Err-Schedule-clause-ends : goal.returns-in-Err-Schedule-clause-ends
returns-in-Err-Schedule-clause-ends g c =
    let failed = c.in-Err-Schedule.ensures.schedule (ap Err c.in-Err-Schedule.field-0-is) in
    rw c.in-Ok.is (inl (record {
      would = statuses.Source;
      text = unreadable_schedule;
      is_output = No_schedule c.in-Ok.line failed.0 failed.1 failed.2;
      told = c.tell-in-Err-Schedule.ensures.told;
    }))

pub returns-in-Err-Journal-clause-ends : goal.returns-in-Err-Journal-clause-ends
returns-in-Err-Journal-clause-ends g c =
    let failed = c.in-Err-Journal.ensures.journal (ap Err c.in-Err-Journal.field-0-is) in
    rw c.in-Ok.is (inl (record {
      would = statuses.Source;
      text = unreadable_journal;
      is_output = No_journal c.in-Ok.line failed.0 failed.1 failed.2;
      told = c.tell-in-Err-Journal.ensures.told;
    }))

pub returns-in-Err-Memory-clause-ends : goal.returns-in-Err-Memory-clause-ends
returns-in-Err-Memory-clause-ends g c =
    let fine = c.in-Err-Memory.ensures.memory (ap Err c.in-Err-Memory.field-0-is) in
    inr (record { schedule_fine = fine.0; journal_fine = fine.1; status_is = refl; nothing = refl })

-- words that are none, or for which there was no memory
refused_ends : (refused : WordsRefused) (schedule journal : Reads) (status : AuditStatus) (before after : Option (List ℕ)) → AreFine schedule → AreFine journal
    → (refused ≡ refusals.Usage → IsTold statuses.Usage usage_line status before after)
    → (refused ≡ refusals.Memory → (status ≡ statuses.Memory) × (after ≡ before))
    → Ends (Err refused) schedule journal status before after
refused_ends refusals.Usage schedule journal status before after one other usage memory =
    inl (record { would = statuses.Usage; text = usage_line; is_output = No_command one other; told = usage refl })
refused_ends refusals.Memory schedule journal status before after one other usage memory =
    let quiet = memory refl in
    inr (record { schedule_fine = one; journal_fine = other; status_is = quiet.0; nothing = quiet.1 })

pub returns-in-Err-clause-ends : goal.returns-in-Err-clause-ends
returns-in-Err-clause-ends g c =
    rw c.in-Err.is (refused_ends c.in-Err.refused _ _ _ _ _ refl refl c.refusal.ensures.usage
    (λ is. let both = c.refusal.ensures.memory is in (both.0, ap g.K.Sink.contents both.1)))
