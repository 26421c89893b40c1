-- The words of a line, joined again, and words that come back from their line.
use Rattle.std.proofs.Common.{◌≡◌, ◌≢◌, ℕ, ◌<◌, ◌==◌, false, List, [], ◌∷◌, length, refl, ap, ◌∙◌, arith}
use Rattle.std.specs.Prelude.{All}
use Rattle.std.specs.List.{join_with_byte}
use Rattle.std.proofs.lemmas.Bool.{ne_eqb}
use Rattle.std.proofs.lemmas.List.Elements.{All-head, All-tail, All-weaker}
use Rattle.std.proofs.lemmas.List.Splits.{join_with_byte-slice_split, slice_split_at, slice_split_none}
use Rattle.sp_text.specs.Spelling.{IsOneWord, words_of}

-- no byte of a word passes the test for a space
no_space : (word : List ℕ) → IsOneWord word → All (λ b. (b == 32) ≡ false) word
no_space word one = All-weaker (λ (b : ℕ). b ≢ 32) (λ b. (b == 32) ≡ false) (λ b differs. ne_eqb b 32 differs) word one

-- words are the words of the line that they are joined to
pub words_of-join : (words : List (List ℕ)) → 0 < length words → All IsOneWord words → words_of (join_with_byte 32 words) ≡ words
words_of-join [] some each = absurd (omega arith)
words_of-join (w ∷ []) some each = slice_split_none (λ b. b == 32) w (no_space w (All-head IsOneWord w [] each))
words_of-join (w ∷ v ∷ words) some each =
    slice_split_at (λ b. b == 32) w 32 (join_with_byte 32 (v ∷ words)) (no_space w (All-head IsOneWord w (v ∷ words) each)) refl
    ∙ ap (λ (rest : List (List ℕ)). w ∷ rest) (words_of-join (v ∷ words) (omega arith) (All-tail IsOneWord w (v ∷ words) each))

-- the words of a line are joined to that line
pub join-words_of : (line : List ℕ) → join_with_byte 32 (words_of line) ≡ line
join-words_of line = join_with_byte-slice_split 32 line
