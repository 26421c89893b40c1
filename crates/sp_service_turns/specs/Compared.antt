-- How lines come out at a node: what each call of a verification promises.
use Rattle.std.specs.Prelude.{ℕ, ◌≡◌, ◌≢◌, ◌+◌, List, Option, None, Some}
use Rattle.sp_recording.specs.Reading.{lines_in}
use Rattle.sp_recording.specs.declared.line.Digest.{Digest}
use Rattle.sp_recording.specs.declared.line.Line.{Line}
use Rattle.sp_recording.specs.declared.stage.Ending.TheVariants as endings
use Rattle.sp_recording.specs.declared.stage.Reading.{Reading}
use Rattle.sp_service_turns.specs.Inputs.{Steps}
use Rattle.sp_service_turns.specs.Turns.{told}
use Rattle.sp_service_turns.specs.Verified.{Agrees, Differs, Passes, Question}
use Rattle.sp_service_turns.specs.declared.compared.Compared.{Compared}
use Rattle.sp_service_turns.specs.declared.compared.Compared.TheVariants as compared
use Rattle.sp_service_turns.specs.declared.compared.LinesRefused.{LinesRefused}
use Rattle.sp_service_turns.specs.declared.compared.LinesRefused.TheVariants as lines_refused
use Rattle.sp_service_turns.specs.declared.compared.VerifyRefused.{VerifyRefused}
use Rattle.sp_service_turns.specs.declared.compared.VerifyRefused.TheVariants as refusals

-- ---- one line

-- the node answers so to a line of which this is asked
abbrev pub Answers : {N : Type 0} → Steps N → Line → Option Question → N → Option (List ℕ) → N → Type 0
Answers steps line None old None new = Passes steps line old new
Answers steps line (Some q) old (Some answer) new = steps old q.input answer new
Answers steps line q old answer new = ⊥

-- how two digests come out
abbrev pub IsOfDigests : Digest → Digest → Compared → Type 0
IsOfDigests recorded computed compared.Silent = ⊥
IsOfDigests recorded computed compared.Same = computed ≡ recorded
IsOfDigests recorded computed (compared.Other r c) = (r ≡ recorded) × (c ≡ computed) × (computed ≢ recorded)

-- how an answer comes out beside the digest that was recorded
abbrev pub IsCompared : Option Digest → Option (List ℕ) → Compared → Type 0
IsCompared (Some recorded) (Some answer) judged = IsOfDigests recorded (told answer) judged
IsCompared recorded answer judged = judged ≡ compared.Silent

-- a line of which this is asked comes out so
abbrev pub IsJudged : {N : Type 0} → Steps N → Line → Option Question → N → Compared → N → Type 0
IsJudged steps line None old judged new = (judged ≡ compared.Silent) × Passes steps line old new
IsJudged steps line (Some q) old judged new = (answer : List ℕ) × steps old q.input answer new × IsOfDigests q.digest (told answer) judged

-- whether a line counts as agreed: 1 or 0
abbrev pub counted : Compared → ℕ
counted compared.Same = 1
counted _ = 0

-- ---- all lines

-- what a refusal of lines says
abbrev pub LinesErr : {N : Type 0} → Steps N → N → List Line → LinesRefused → Type 0
LinesErr steps first ls (lines_refused.Differs place recorded computed) = Differs steps first ls place recorded computed
LinesErr steps first ls lines_refused.Memory = Unit {0}

-- ---- what was read

-- no line is bad, and each digest is the node's
pub record AgreesWhole {N : Type 0} (steps : Steps N) (first : N) (reading : Reading) (last : N) (count : ℕ) : Type 0 where
  pub whole : reading.ending ≡ endings.Whole
  pub agrees : Agrees steps first (lines_in reading.stage) last count

-- each digest of the good lines is the node's, and then comes this bad line
pub record IsBadAfter {N : Type 0} (steps : Steps N) (first : N) (reading : Reading) (line : ℕ) : Type 0 where
  pub bad : reading.ending ≡ endings.Form line
  pub last : N
  pub count : ℕ
  pub agrees : Agrees steps first (lines_in reading.stage) last count

-- the digest of the line of this number is the first that isn't the node's. The first line of a recording has no digest
pub record DiffersAt {N : Type 0} (steps : Steps N) (first : N) (before : ℕ) (reading : Reading) (line : ℕ) (recorded computed : Digest) : Type 0 where
  pub place : ℕ
  pub line_is : line ≡ before + 2 + place
  pub differs : Differs steps first (lines_in reading.stage) place recorded computed

-- what a refusal of a recording says
abbrev pub VerifyErr : {N : Type 0} → Steps N → N → ℕ → Reading → VerifyRefused → Type 0
VerifyErr steps first before reading (refusals.Mismatch line recorded computed) = DiffersAt steps first before reading line recorded computed
VerifyErr steps first before reading (refusals.Form line) = IsBadAfter steps first reading line
VerifyErr steps first before reading refusals.Memory = Unit {0}
