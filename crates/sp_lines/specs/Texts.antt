-- Texts line by line: how far the lines of a text lead from a stage, and what stops there.
--
-- A stage and the words of a line give the next stage, or a refusal; which, is said by the text's own definition of its lines.
use Rattle.std.specs.Prelude.{ℕ, ◌≡◌, ◌≢◌, ◌≤◌, ◌+◌, List, [], ◌∷◌, length, Option, Some, None, Result, Ok, Err}
use Rattle.sp_base.specs.Refusals.{◌>>=◌}
use Rattle.sp_text.specs.Spelling.{Word}
use Rattle.sp_text.specs.Texts.{line_at, words_at}
use Rattle.sp_text.specs.Unread.{Unread}
use Rattle.sp_text.specs.declared.place.TextRefused.{TextRefused}
use Rattle.sp_text.specs.declared.place.TextRefused.TheVariants as texts

abbrev pub before_rest : List ℕ → Result (List Word) TextRefused → Result (List Word × List ℕ) TextRefused
before_rest rest (Ok words) = Ok (words, rest)
before_rest rest (Err refused) = Err refused

-- the words of the first line of a text, which has this number, and what comes after its newline
unfoldable pub first_words : ℕ → List ℕ → Result (List Word × List ℕ) TextRefused
first_words number text = line_at number text >>= λ line. before_rest line.1 (words_at number line.0.bytes)

-- the next line isn't words, for this reason. Want of memory may come at any line
abbrev pub NoLine : Unread → TextRefused → Type 0
NoLine old texts.Memory = Unit {0}
NoLine old refused = (old.rest ≢ []) × (first_words (old.given + 1) old.rest ≡ Err refused)

-- what a call that takes the words of the next line answered and left
abbrev pub TakesWords : {X : Type 0} → (X → List Word) → Unread → Result (Option X) TextRefused → Unread → Type 0
TakesWords view old (Ok None) new = old.rest ≡ []
TakesWords view old (Ok (Some words)) new =
    (new.given ≡ old.given + 1) × (length new.rest + 1 ≤ length old.rest) × (first_words (old.given + 1) old.rest ≡ Ok (view words, new.rest))
TakesWords view old (Err refused) new = NoLine old refused

-- why no line leads on: nothing is left, the next line isn't words, or it may not stand there
pub data Stop (K : Type 0) : Type 0 where
  Nothing_left : Stop K
  No_words : TextRefused → Stop K
  Bad_words : K → Stop K

-- the lines of a text, whose first has this number and stands at this stage, lead to a stage before the line of that number, where this stops them
pub data Leads {S K : Type 0} (says : S → List Word → Result S K) : S → ℕ → List ℕ → S → ℕ → Stop K → Type 0 where
  At_end : {stage : S} {number : ℕ} → Leads says stage number [] stage number Nothing_left
  At_line : {stage : S} {number : ℕ} {text : List ℕ} (refused : TextRefused) → text ≢ [] → first_words number text ≡ Err refused
      → Leads says stage number text stage number (No_words refused)
  At_words : {stage : S} {number : ℕ} {text : List ℕ} (words : List Word) (rest : List ℕ) (refused : K) → first_words number text ≡ Ok (words, rest)
      → says stage words ≡ Err refused → Leads says stage number text stage number (Bad_words refused)
  Good : {stage last : S} {number end : ℕ} {text : List ℕ} {stop : Stop K} (words : List Word) (rest : List ℕ) (next : S)
      → first_words number text ≡ Ok (words, rest) → says stage words ≡ Ok next
      → Leads says next (number + 1) rest last end stop → Leads says stage number text last end stop

-- where these lines lead, each of which is good in its place
abbrev pub follow_all : {S K : Type 0} → (S → List Word → Result S K) → S → List (List Word) → Result S K
follow_all says stage [] = Ok stage
follow_all says stage (words ∷ lines) = says stage words >>= λ next. follow_all says next lines
