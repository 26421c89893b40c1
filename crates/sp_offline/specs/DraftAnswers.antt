-- What is written for a draft.
use Rattle.std.specs.Prelude.{ℕ, ◌≡◌, ◌≢◌, ◌⊎◌, Bool, true, false, List, Result, Ok, Err}
use Rattle.std.specs.Str.{IsUtf8}
use Rattle.sp_config.specs.declared.draft.Draft.{Draft}
use Rattle.sp_config.specs.declared.refused.ConfigRefused.{ConfigRefused}
use Rattle.sp_config.specs.declared.refused.ConfigRefused.TheVariants as refusals
use Rattle.sp_config.specs.Readings.{draft_of}
use Rattle.sp_offline.specs.declared.draft_answer.DraftAnswer.{DraftAnswer}
use Rattle.sp_offline.specs.declared.draft_answer.DraftAnswer.TheVariants as answers
use Rattle.sp_config.specs.RefusedLines.{refused_line, too_big_line}
use Rattle.sp_offline.specs.SignedDrafts.{signed_text}

-- the bytes say this draft, or are refused so. Bytes that are no UTF-8 are no TOML
abbrev pub SaysDraft : List ℕ → Result Draft ConfigRefused → Type 0
SaysDraft text (Ok draft) = IsUtf8 text × (draft_of text ≡ Ok draft)
SaysDraft text (Err refused) = (IsUtf8 text × (draft_of text ≡ Err refused)) ⊎ ((IsUtf8 text → ⊥) × (refused ≡ refusals.Toml))

-- the text of a good draft, with its signature
pub record IsSigned (text out : List ℕ) : Type 0 where
  pub draft : Draft
  pub says : SaysDraft text (Ok draft)
  pub written : out ≡ signed_text draft

-- the text of a bad draft, with its refusal
pub record IsRefused (text out : List ℕ) : Type 0 where
  pub refused : ConfigRefused
  pub no_want : refused ≢ refusals.Memory
  pub says : SaysDraft text (Err refused)
  pub written : out ≡ refused_line refused

-- what is written for a text, of which there is more where it is cut
abbrev pub IsAnswer : List ℕ → Bool → DraftAnswer → Type 0
IsAnswer text false (answers.Signed out) = IsSigned text out
IsAnswer text true (answers.Signed out) = ⊥
IsAnswer text false (answers.Refused out) = IsRefused text out
IsAnswer text true (answers.Refused out) = out ≡ too_big_line
