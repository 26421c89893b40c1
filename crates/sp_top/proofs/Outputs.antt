-- What was written is the output that belongs to the input, or a beginning of it.
use Rattle.std.proofs.Common.{◌≡◌, ℕ, Bool, List, Option, Some, None, inl, inr}
use Rattle.std.specs.Prelude.{◌⊎◌}
use Rattle.std.specs.Io.KnownBytes.{Appends}
use Rattle.sp_base.specs.declared.limits.TheConstants.{MAX_INPUT_BYTES}
use Rattle.sp_offline.specs.Answers.{IsAnswered}
use Rattle.sp_offline.specs.declared.answered.Verdict.{Verdict}
use Rattle.sp_offline.specs.declared.answered.Verdict.TheVariants as verdicts
use Rattle.sp_offline.specs.declared.command.Offline.{Offline}
use Rattle.sp_outside.specs.Streams.{AppendsFront, IsInput}
use Rattle.sp_service.specs.Verdicts.{IsJudged}
use Rattle.sp_service.specs.declared.verdict.Verdict as verified
use Rattle.sp_service.specs.declared.verdict.Verdict.TheVariants as judgements
use Rattle.sp_top.specs.Claims.{WroteAtEnd}
use Rattle.sp_top.specs.Outputs.{Answers, No_command, Offline_answer, Recording_judged, usage_line}
use Rattle.sp_top.specs.Statuses.{verdict_status, verified_status}
use Rattle.sp_top.specs.declared.command.Command.TheVariants as commands
use Rattle.sp_words.specs.declared.status.Status.{Status}
use Rattle.sp_words.specs.declared.status.Status.TheVariants as statuses

-- what a command answered for what was read of a source
pub answers_of : (command : Offline) (left : Option (List ℕ)) (verdict : Verdict) (out text : List ℕ) (is_cut : Bool) → IsInput left MAX_INPUT_BYTES text is_cut
    → IsAnswered command text is_cut verdict out → Answers command left verdict out
answers_of command left verdict out text is_cut input answered = record { text = text; is_cut = is_cut; input = input; answered = answered }

-- the usage line was written, or a beginning of it
pub usage_written : (left : Option (List ℕ)) (status : Status) (before after : Option (List ℕ)) → (status ≡ statuses.Usage) ⊎ (status ≡ statuses.Sink)
    → (status ≡ statuses.Usage → Appends before after usage_line) → (status ≡ statuses.Sink → AppendsFront before after usage_line)
    → WroteAtEnd None left status before after
usage_written left status before after (inl usage) whole begun = rw usage (record { output = usage_line; is_output = No_command; written = whole usage })
usage_written left status before after (inr sink) whole begun =
    rw sink (record { status = statuses.Usage; output = usage_line; is_output = No_command; begun = begun sink })

-- the whole output of an offline command was written
pub offline_written : (left : Option (List ℕ)) (command : Offline) (verdict : Verdict) (out : List ℕ) (before after : Option (List ℕ))
    → Answers command left verdict out → Appends before after out → WroteAtEnd (Some (commands.Offline command)) left (verdict_status verdict) before after
offline_written left command verdicts.Done out before after answers written =
    record { output = out; is_output = Offline_answer command verdicts.Done out answers; written = written }
offline_written left command verdicts.Fewer out before after answers written =
    record { output = out; is_output = Offline_answer command verdicts.Fewer out answers; written = written }
offline_written left command verdicts.Refused out before after answers written =
    record { output = out; is_output = Offline_answer command verdicts.Refused out answers; written = written }

-- a beginning of it was written
pub offline_begun : (left : Option (List ℕ)) (command : Offline) (verdict : Verdict) (out : List ℕ) (before after : Option (List ℕ))
    → Answers command left verdict out → AppendsFront before after out → WroteAtEnd (Some (commands.Offline command)) left statuses.Sink before after
offline_begun left command verdict out before after answers begun =
    record { status = verdict_status verdict; output = out; is_output = Offline_answer command verdict out answers; begun = begun }

-- the line that tells a verification was written
pub judged_written : (left : Option (List ℕ)) (verdict : verified.Verdict) (out text : List ℕ) (is_cut : Bool) (before after : Option (List ℕ))
    → IsInput left MAX_INPUT_BYTES text is_cut → IsJudged text is_cut verdict out → Appends before after out
    → WroteAtEnd (Some commands.Verify) left (verified_status verdict) before after
judged_written left judgements.Verified out text is_cut before after input judged written = record {
  output = out;
  is_output = Recording_judged judgements.Verified out (record { text = text; is_cut = is_cut; input = input; judged = judged });
  written = written;
}
judged_written left judgements.Mismatch out text is_cut before after input judged written = record {
  output = out;
  is_output = Recording_judged judgements.Mismatch out (record { text = text; is_cut = is_cut; input = input; judged = judged });
  written = written;
}
judged_written left judgements.Refused out text is_cut before after input judged written = record {
  output = out;
  is_output = Recording_judged judgements.Refused out (record { text = text; is_cut = is_cut; input = input; judged = judged });
  written = written;
}

pub judged_begun : (left : Option (List ℕ)) (verdict : verified.Verdict) (out text : List ℕ) (is_cut : Bool) (before after : Option (List ℕ))
    → IsInput left MAX_INPUT_BYTES text is_cut → IsJudged text is_cut verdict out → AppendsFront before after out
    → WroteAtEnd (Some commands.Verify) left statuses.Sink before after
judged_begun left verdict out text is_cut before after input judged begun = record {
  status = verified_status verdict;
  output = out;
  is_output = Recording_judged verdict out (record { text = text; is_cut = is_cut; input = input; judged = judged });
  begun = begun;
}
