-- Nodes in a word: the pieces between its commas are their numbers.
use Rattle.std.proofs.Common.{◌≡◌, ◌≢◌, ℕ, ◌+◌, ◌<◌, ◌≤◌, ◌==◌, ◌^◌, false, List, [], ◌∷◌, ◌++◌, length, map, get_or, take, refl, sym, ap, ◌∙◌, arith}
use Rattle.std.specs.Prelude.{All}
use Rattle.std.specs.Fmt.{decimal}
use Rattle.std.specs.List.{join_with_byte, slice_split}
use Rattle.std.proofs.lemmas.Bool.{ne_eqb}
use Rattle.std.specs.Str.Parse.{AllDigits}
use Rattle.std.proofs.lemmas.Fmt.{decimal_is_IsNumeral}
use Rattle.std.proofs.lemmas.List.{get_or-map, length-map, take_more, map-append, take_all}
use Rattle.std.proofs.lemmas.List.Elements.{All-cons, All-get_or, All-head, All-nil, All-tail, All-weaker}
use Rattle.std.proofs.lemmas.Str.Parse.{digit_from_value}
use Rattle.std.proofs.lemmas.List.Splits.{join_with_byte-slice_split, length-slice_split, slice_split_at, slice_split_none}
use Rattle.sp_base.specs.declared.id.NodeId.{NodeId}
use Rattle.sp_words.specs.AuditLines.{IsPathOf}

abbrev pieces_of : List ℕ → List (List ℕ)
pieces_of word = slice_split (λ b. b == 44) word

abbrev IsOnePiece : List ℕ → Type 0
IsOnePiece bytes = All (λ b. b ≢ 44) bytes

no_comma : (piece : List ℕ) → IsOnePiece piece → All (λ b. (b == 44) ≡ false) piece
no_comma piece one = All-weaker (λ (b : ℕ). b ≢ 44) (λ b. (b == 44) ≡ false) (λ b differs. ne_eqb b 44 differs) piece one

-- pieces are those of the word that they are joined to
pieces_of-join : (pieces : List (List ℕ)) → 0 < length pieces → All IsOnePiece pieces → pieces_of (join_with_byte 44 pieces) ≡ pieces
pieces_of-join [] some each = absurd (omega arith)
pieces_of-join (w ∷ []) some each = slice_split_none (λ b. b == 44) w (no_comma w (All-head IsOnePiece w [] each))
pieces_of-join (w ∷ v ∷ more) some each =
    slice_split_at (λ b. b == 44) w 44 (join_with_byte 44 (v ∷ more)) (no_comma w (All-head IsOnePiece w (v ∷ more) each)) refl
    ∙ ap (λ (rest : List (List ℕ)). w ∷ rest) (pieces_of-join (v ∷ more) (omega arith) (All-tail IsOnePiece w (v ∷ more) each))

-- no digit is a comma
All-digits : (digits : List ℕ) → AllDigits 10 digits → IsOnePiece digits
All-digits [] all = All-nil (λ (b : ℕ). b ≢ 44)
All-digits (b ∷ digits) all =
    let range = digit_from_value b all.0 in
    All-cons (λ (b : ℕ). b ≢ 44) b digits (λ same. omega (arith, range.0)) (All-digits digits all.1)

-- the digits of a number are no commas
IsOnePiece-decimal : (n : ℕ) → n < 2 ^ 64 → IsOnePiece (decimal n)
IsOnePiece-decimal n small = All-digits (decimal n) (decimal_is_IsNumeral n small).0.1

each_is_one : (path : List NodeId) → All (λ u. u.0 ≤ 255) path → All IsOnePiece (map (λ u. decimal u.0) path)
each_is_one [] range = All-nil IsOnePiece
each_is_one (u ∷ path) range =
    All-cons IsOnePiece (decimal u.0) (map (λ v. decimal v.0) path)
    (IsOnePiece-decimal u.0 (let few : u.0 ≤ 255 = All-head (λ (v : NodeId). v.0 ≤ 255) u path range in omega arith))
    (each_is_one path (All-tail (λ (v : NodeId). v.0 ≤ 255) u path range))

-- the pieces of the word of nodes are their numbers
pieces_of-path : (word : List ℕ) (path : List NodeId) → IsPathOf word path → pieces_of word ≡ map (λ u. decimal u.0) path
pieces_of-path word path is =
    ap pieces_of is.word_is
    ∙ pieces_of-join (map (λ u. decimal u.0) path) (let some = is.some in omega (arith, length-map path (λ (u : NodeId). decimal u.0)))
    (each_is_one path is.range)

-- a piece that is the number of no node is of no word of nodes
pub no_path : (word : List ℕ) (pieces : List (List ℕ)) (place : ℕ) (path : List NodeId) → pieces ≡ pieces_of word → place < length pieces
    → ((u : NodeId) → (get_or pieces place [] ≡ decimal u.0) × (0 ≤ u.0) × (u.0 ≤ 255) → ⊥) → IsPathOf word path → ⊥
no_path word pieces place path split within none is =
    let u : NodeId = record { 0 = 0 } in
    let same : pieces ≡ map (λ v. decimal v.0) path = split ∙ pieces_of-path word path is in
    let count : length pieces ≡ length path = ap length same ∙ length-map path (λ (v : NodeId). decimal v.0) in
    let there : place < length path = omega arith in
    let piece : get_or pieces place [] ≡ decimal (get_or path place u).0 =
    ap (λ (xs : List (List ℕ)). get_or xs place []) same ∙ get_or-map (λ (v : NodeId). decimal v.0) path place u [] there in
    none (get_or path place u) (piece, omega arith, All-get_or (λ (v : NodeId). v.0 ≤ 255) path place u there is.range)

-- nodes whose numbers are all pieces of a word are of it
pub is_path : (word : List ℕ) (pieces : List (List ℕ)) (path : List NodeId) → pieces ≡ pieces_of word
    → map (λ u. decimal u.0) path ≡ take (length pieces) pieces
    → All (λ u. u.0 ≤ 255) path → IsPathOf word path
is_path word pieces path split written range =
    let all : map (λ u. decimal u.0) path ≡ pieces = written ∙ take_all (length pieces) pieces (omega arith) in
    record {
      some = omega (arith, length-map path (λ (u : NodeId). decimal u.0), ap length all, ap length split, length-slice_split (λ b. b == 44) word);
      range = range;
      word_is = sym (ap (join_with_byte 44) (all ∙ split) ∙ join_with_byte-slice_split 44 word);
    }

-- one piece more
pub one_more : (pieces : List (List ℕ)) (path : List NodeId) (u : NodeId) (piece : List ℕ) (place : ℕ) → place < length pieces → piece ≡ get_or pieces place []
    → piece ≡ decimal u.0 → map (λ v. decimal v.0) path ≡ take place pieces → map (λ v. decimal v.0) (path ++ u ∷ []) ≡ take (place + 1) pieces
one_more pieces path u piece place within at is so_far =
    map-append (λ (v : NodeId). decimal v.0) path (u ∷ []) ∙ rw (take_more pieces place [] within, so_far, ← at, is) refl
