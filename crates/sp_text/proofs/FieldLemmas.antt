-- Lines by their names, and words that spell numbers.
use Rattle.std.proofs.Common.{◌≡◌, ◌<◌, ◌≤◌, ℕ, ◌^◌, ◌⊎◌, inl, inr, false, nat_eq, List, ◌∷◌, sym, ◌∙◌, arith}
use Rattle.std.specs.Cmp.Lexicographic.{other_text, pointwise}
use Rattle.std.specs.Fmt.{decimal}
use Rattle.std.proofs.lemmas.Fmt.{decimal_injective}
use Rattle.sp_text.specs.Spelling.{Word}

-- a line has one name: a look at two names shows that they differ
pub other_name : (words : List Word) (a b : Word) (xs ys : List Word) → false ≡ pointwise nat_eq a b → words ≡ a ∷ xs → words ≡ b ∷ ys → ⊥
other_name words a b xs ys apart is_a is_b =
    let same : a ∷ xs ≡ b ∷ ys = sym is_a ∙ is_b in
    let heads : a ≡ b = cc in
    other_text a b apart heads

-- a word spells one number
pub one_number : (word : List ℕ) (m n : ℕ) → m < 2 ^ 64 → n < 2 ^ 64 → word ≡ decimal m → word ≡ decimal n → m ≡ n
one_number word m n small_m small_n is_m is_n = decimal_injective m n small_m small_n (sym is_m ∙ is_n)

-- the word of a number out of a range is of none in the range
pub out_of_range : (word : List ℕ) (n low high : ℕ) → n < 2 ^ 64 → high < 2 ^ 64 → word ≡ decimal n → ((low ≤ n) × (high < n)) ⊎ (n < low)
    → (x : ℕ) → (word ≡ decimal x) × (low ≤ x) × (x ≤ high) → ⊥
out_of_range word n low high small top is out x right =
    let same : n ≡ x = one_number word n x small (omega arith) is right.0 in
    elim out [ inl above ↦ omega arith | inr below ↦ omega arith ]
