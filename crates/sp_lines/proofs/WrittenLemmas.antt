-- Words that are written each after a space.
use Rattle.std.proofs.Common.{◌≡◌, ℕ, List, [], ◌∷◌, ◌++◌, refl, sym, ap, ◌∙◌, append_assoc, append-nil}
use Rattle.std.specs.List.{join_with_byte}
use Rattle.sp_text.specs.Spelling.{Word}
use Rattle.sp_lines.specs.Rows.{after_spaces, line_text}

-- the words of two lists, each after a space
pub after_append : (vs ws : List Word) → after_spaces (vs ++ ws) ≡ after_spaces vs ++ after_spaces ws
after_append [] ws = refl
after_append (v ∷ vs) ws = ap (λ (xs : List ℕ). (32 ∷ v) ++ xs) (after_append vs ws) ∙ sym (append_assoc (32 ∷ v) (after_spaces vs) (after_spaces ws))

-- words, each after a space, are words one space apart
pub joined : (w : Word) (ws : List Word) → w ++ after_spaces ws ≡ join_with_byte 32 (w ∷ ws)
joined w [] = append-nil w
joined w (v ∷ ws) = ap (λ (xs : List ℕ). w ++ 32 ∷ xs) (joined v ws)

-- a name, its fields and a newline are a line
pub line_written : (name : Word) (fields : List Word) (old a b new : List ℕ) → a ≡ old ++ name → b ≡ a ++ after_spaces fields → new ≡ b ++ 10 ∷ []
    → new ≡ old ++ line_text (name ∷ fields)
line_written name fields old a b new is_a is_b is_new =
    let pieces : new ≡ old ++ ((name ++ after_spaces fields) ++ 10 ∷ []) = is_new ∙ rw (is_b, is_a) (simp append_assoc) in
    pieces ∙ ap (λ (xs : List ℕ). old ++ (xs ++ 10 ∷ [])) (joined name fields)
