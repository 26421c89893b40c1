-- A frame that ends with its head has no document.
use Rattle.std.proofs.Common.{◌≡◌, ◌≤◌, ℕ, zero, suc, Bool, true, false, not, ◌&&◌, ◌==◌, nat_lt, List, [], ◌∷◌, length, refl, sym, ap, ◌∙◌, arith, slice_index}
use Rattle.std.proofs.lemmas.Bool.Decides.{nat_tests}
use Rattle.std.specs.Prelude.{drop}
use Rattle.sp_base.specs.declared.format.TheConstants.{FORMAT_1}
use Rattle.sp_frame.specs.Sections.{has_document}

nothing_left : (xs : List ℕ) (i : ℕ) → length xs ≤ i → drop i xs ≡ []
nothing_left [] zero short = refl
nothing_left [] (suc i) short = refl
nothing_left (a ∷ xs) zero short = absurd (grind (arith))
nothing_left (a ∷ xs) (suc i) short = nothing_left xs i (grind (arith))

pub no_document : (format : ℕ) (bytes : List ℕ) (i : ℕ) → false ≡ nat_lt i (length bytes) → false ≡ has_document format (drop i bytes)
no_document format bytes i is =
    let short : length bytes ≤ i = grind (arith, nat_tests) in
    sym (ap (has_document format) (nothing_left bytes i short) ∙ none (format == FORMAT_1))
  where
    none : (b : Bool) → (not b && (slice_index [] 0 == 128)) ≡ false
    none true = refl
    none false = refl
