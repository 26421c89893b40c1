-- Lists that a loop makes, turn by turn.
use Rattle.std.proofs.Common.{◌≡◌, ◌<◌, ℕ, suc, ◌+◌, ◌-◌, List, [], ◌∷◌, ◌++◌, refl, sym, ap, ◌∙◌, arith, append_assoc}
use Rattle.std.specs.List.{flat_map, range_with_len}

pub range_step : (j end : ℕ) → j < end → range_with_len j (end - j) ≡ j ∷ range_with_len (j + 1) (end - (j + 1))
range_step j end below =
    let more : end - j ≡ suc (end - (j + 1)) = omega (arith, below) in
    rw more refl

-- one turn more, and the rest of them
pub turned : {X : Type 0} (f : ℕ → List X) (a b whole : List X) (j end : ℕ) → j < end → a ++ flat_map f (range_with_len j (end - j)) ≡ whole → b ≡ a ++ f j
    → b ++ flat_map f (range_with_len (j + 1) (end - (j + 1))) ≡ whole
turned f a b whole j end below is more =
    ap (λ (xs : List _). xs ++ flat_map f (range_with_len (j + 1) (end - (j + 1)))) more
    ∙ append_assoc a (f j) (flat_map f (range_with_len (j + 1) (end - (j + 1))))
    ∙ sym (ap (λ (xs : List ℕ). a ++ flat_map f xs) (range_step j end below))
    ∙ is

-- two items, one after the other
pub twice : {X : Type 0} (a b c : List X) (x y : X) → b ≡ a ++ x ∷ [] → c ≡ b ++ y ∷ [] → c ≡ a ++ x ∷ y ∷ []
twice a b c x y one two = two ∙ ap (λ (xs : List _). xs ++ y ∷ []) one ∙ append_assoc a (x ∷ []) (y ∷ [])

-- a list and two items
pub two_more : {X : Type 0} (a b c d xs : List X) (x y : X) → b ≡ a ++ xs → c ≡ b ++ x ∷ [] → d ≡ c ++ y ∷ [] → d ≡ a ++ (xs ++ x ∷ y ∷ [])
two_more a b c d xs x y one two three =
    twice b c d x y two three ∙ ap (λ (zs : List _). zs ++ x ∷ y ∷ []) one ∙ append_assoc a xs (x ∷ y ∷ [])

-- six lists, one after the other
pub six_parts : {X : Type 0} (o p q r s t u a b c d e f : List X) → o ≡ [] → p ≡ o ++ a → q ≡ p ++ b → r ≡ q ++ c → s ≡ r ++ d → t ≡ s ++ e → u ≡ t ++ f
    → u ≡ a ++ (b ++ (c ++ (d ++ (e ++ f))))
six_parts o p q r s t u a b c d e f none one two three four five six =
    rw (six, five, four, three, two, one, none) (simp append_assoc)
