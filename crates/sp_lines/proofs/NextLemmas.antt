-- The words of the next line, from the line that was taken.
use Rattle.std.proofs.Common.{◌≡◌, ◌≢◌, ◌≤◌, ◌+◌, ℕ, List, [], ◌∷◌, length, Result, Ok, Err, Option, Some, None, refl, sym, ap, subst, ◌∙◌, arith}
use Rattle.std.proofs.Common.{length-append}
use Rattle.std.specs.Prelude.{IsErrAnd}
use Rattle.sp_text.specs.Spelling.{Word}
use Rattle.sp_text.specs.Texts.{GivesInMemory, TakesNext, line_at, text_of, words_at}
use Rattle.sp_text.specs.Unread.{LineText, Unread}
use Rattle.sp_text.specs.declared.place.Line.{Line}
use Rattle.sp_text.specs.declared.place.TextRefused.{TextRefused}
use Rattle.sp_text.specs.declared.place.TextRefused.TheVariants as texts
use Rattle.sp_base.specs.declared.limits.TheConstants.{MAX_LINE_BYTES}
use Rattle.sp_text.proofs.NextLine.{read_lines_are_spelled}
use Rattle.sp_lines.specs.Texts.{TakesWords, before_rest, first_words}

-- a line that was taken: its number, its length, and what is left
pub record Taken (old new : Unread) (line : LineText) : Type 0 where
  pub number : line.number ≡ old.given + 1
  pub short : length line.bytes ≤ MAX_LINE_BYTES
  pub less : length new.rest + 1 ≤ length old.rest

pub taken : (old new : Unread) (line : Line) → TakesNext old (Ok (Some line)) new → Taken old new (text_of line)
taken old new line takes =
    let read = read_lines_are_spelled (old.given + 1) old.rest new.rest (text_of line) takes.2 in
    record {
      number = read.1;
      short = read.2;
      less = omega (arith, ap length read.0.split, length-append line.bytes.now (10 ∷ new.rest));
    }

-- the first line has these words
line_first : (number : ℕ) (text rest : List ℕ) (line : LineText) (words : Result (List Word) TextRefused) → line_at number text ≡ Ok (line, rest)
    → words_at number line.bytes ≡ words
    → first_words number text ≡ before_rest rest words
unfolding first_words
line_first number text rest line words first second = rw (first, second) refl

first_line : (old new : Unread) (line : Line) (words : Result (List Word) TextRefused) → TakesNext old (Ok (Some line)) new
    → words_at line.number line.bytes.now ≡ words
    → first_words (old.given + 1) old.rest ≡ before_rest new.rest words
first_line old new line words takes are =
    let number : line.number ≡ old.given + 1 = (taken old new line takes).number in
    line_first (old.given + 1) old.rest new.rest (text_of line) words takes.2 (subst (λ (n : ℕ). words_at n line.bytes.now ≡ words) number are)

-- its words were taken
pub words_taken : (old new : Unread) (line : Line) (words : List Word) → TakesNext old (Ok (Some line)) new → words_at line.number line.bytes.now ≡ Ok words
    → (new.given ≡ old.given + 1) × (length new.rest + 1 ≤ length old.rest) × (first_words (old.given + 1) old.rest ≡ Ok (words, new.rest))
words_taken old new line words takes are = (takes.1, (taken old new line takes).less, first_line old new line (Ok words) takes are)

-- no line is there
no_line : (number : ℕ) (text : List ℕ) (refused : TextRefused) → line_at number text ≡ Err refused → first_words number text ≡ Err refused
unfolding first_words
no_line number text refused first = rw first refl

pub line_refused : {X : Type 0} (view : X → List Word) (old new left : Unread) (refused : TextRefused) (answer : Result (Option X) TextRefused)
    → TakesNext old (Err refused) new
    → IsErrAnd answer (λ e. e ≡ refused) → TakesWords view old answer left
line_refused view old new left refused (Ok x) takes is = absurd is
line_refused view old new left refused (Err texts.Memory) takes is = tt
line_refused view old new left refused (Err (texts.LineLong place)) takes is = (takes.0, rw (← is) at (no_line (old.given + 1) old.rest refused takes.1))
line_refused view old new left refused (Err (texts.Cut place)) takes is = (takes.0, rw (← is) at (no_line (old.given + 1) old.rest refused takes.1))
line_refused view old new left refused (Err (texts.BadWord place)) takes is = (takes.0, rw (← is) at (no_line (old.given + 1) old.rest refused takes.1))
line_refused view old new left refused (Err (texts.BadNumber place)) takes is = (takes.0, rw (← is) at (no_line (old.given + 1) old.rest refused takes.1))
line_refused view old new left refused (Err (texts.BadHex place)) takes is = (takes.0, rw (← is) at (no_line (old.given + 1) old.rest refused takes.1))

-- or it isn't words
bad_words : {X : Type 0} (view : X → List Word) (old new left : Unread) (line : Line) (refused : TextRefused) → TakesNext old (Ok (Some line)) new
    → GivesInMemory view (Err refused) (words_at line.number line.bytes.now) → TakesWords view old (Err refused) left
bad_words view old new left line texts.Memory takes gives = tt
bad_words view old new left line (texts.LineLong place) takes gives = (takes.0, first_line old new line (Err (texts.LineLong place)) takes gives)
bad_words view old new left line (texts.Cut place) takes gives = (takes.0, first_line old new line (Err (texts.Cut place)) takes gives)
bad_words view old new left line (texts.BadWord place) takes gives = (takes.0, first_line old new line (Err (texts.BadWord place)) takes gives)
bad_words view old new left line (texts.BadNumber place) takes gives = (takes.0, first_line old new line (Err (texts.BadNumber place)) takes gives)
bad_words view old new left line (texts.BadHex place) takes gives = (takes.0, first_line old new line (Err (texts.BadHex place)) takes gives)

pub words_refused : {X : Type 0} (view : X → List Word) (old new left : Unread) (line : Line) (refused : TextRefused) (answer : Result (Option X) TextRefused)
    → TakesNext old (Ok (Some line)) new
    → GivesInMemory view (Err refused) (words_at line.number line.bytes.now) → IsErrAnd answer (λ e. e ≡ refused) → TakesWords view old answer left
words_refused view old new left line refused (Ok x) takes gives is = absurd is
words_refused view old new left line refused (Err e) takes gives is =
    subst (λ (r : TextRefused). TakesWords view old (Err r) left) (sym is) (bad_words view old new left line refused takes gives)
