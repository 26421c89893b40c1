-- What the commands write that run no schedule and call neither the wire nor the key file.
use Rattle.std.specs.Prelude.{ℕ, Bool, List, Option, Some, None, codes}
use Rattle.sp_base.specs.declared.limits.TheConstants.{MAX_INPUT_BYTES}
use Rattle.sp_offline.specs.Answers.{IsAnswered}
use Rattle.sp_offline.specs.declared.answered.Verdict.{Verdict}
use Rattle.sp_offline.specs.declared.command.Offline.{Offline}
use Rattle.sp_outside.specs.Streams.{IsInput}
use Rattle.sp_service.specs.Verdicts.{IsJudged}
use Rattle.sp_service.specs.declared.verdict.Verdict as verified
use Rattle.sp_top.specs.Statuses.{verdict_status, verified_status}
use Rattle.sp_top.specs.declared.command.Command.{Command}
use Rattle.sp_top.specs.declared.command.Command.TheVariants as commands
use Rattle.sp_words.specs.declared.status.Status.{Status}
use Rattle.sp_words.specs.declared.status.Status.TheVariants as statuses

abbrev pub usage_line : List ℕ
usage_line = codes "usage\n"

-- what an offline command answers for what a source had left, of which no more is read than may be
pub record Answers (command : Offline) (left : Option (List ℕ)) (verdict : Verdict) (output : List ℕ) : Type 0 where
  pub text : List ℕ
  pub is_cut : Bool
  pub input : IsInput left MAX_INPUT_BYTES text is_cut
  pub answered : IsAnswered command text is_cut verdict output

-- what comes of a recording with its configuration, for what a source had left
pub record Judges (left : Option (List ℕ)) (verdict : verified.Verdict) (output : List ℕ) : Type 0 where
  pub text : List ℕ
  pub is_cut : Bool
  pub input : IsInput left MAX_INPUT_BYTES text is_cut
  pub judged : IsJudged text is_cut verdict output

-- what is written for what the words say and what a source had left, with the status that goes with it
pub data IsOutput (left : Option (List ℕ)) : Option Command → Status → List ℕ → Type 0 where
  No_command : IsOutput left None statuses.Usage usage_line
  Offline_answer : (command : Offline) (verdict : Verdict) (output : List ℕ) → Answers command left verdict output
      → IsOutput left (Some (commands.Offline command)) (verdict_status verdict) output
  Recording_judged : (verdict : verified.Verdict) (output : List ℕ) → Judges left verdict output
      → IsOutput left (Some commands.Verify) (verified_status verdict) output
