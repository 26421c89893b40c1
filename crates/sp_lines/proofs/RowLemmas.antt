-- A row of places: what is read of the words of values is these values, and the words that are read spell what was read.
use Rattle.std.proofs.Common.{◌≡◌, ◌==◌, Bool, true, false, List, [], ◌∷◌, length, Result, Ok, Err, refl, subst, arith, if◌then◌else◌}
use Rattle.std.proofs.lemmas.Bool.{and_parts}
use Rattle.std.proofs.lemmas.Bool.Decides.{nat_tests}
use Rattle.sp_base.specs.Refusals.{◌>>=◌}
use Rattle.sp_base.proofs.RefusalLemmas.{then_ok}
use Rattle.sp_text.specs.Spelling.{Word}
use Rattle.sp_lines.specs.Cells.{Bytes, Cell, Mask, Name, Number, Numbers, Tested, bytes_at, mask_at, number_at, numbers_at, same, tested_at}
use Rattle.sp_lines.specs.Rows.{AreIn, HaveRoom, Values, agrees, fits, line_of, row_at, spelled}
use Rattle.sp_lines.specs.Laws.{RowsHaveOneSpelling}
use Rattle.sp_lines.specs.declared.fault.Fault.{Fault}
use Rattle.sp_lines.specs.declared.fault.Fault.TheVariants as faults
use Rattle.sp_lines.proofs.NumbersLemmas.{cons_same, numbers_at_back, numbers_at_read}
use Rattle.sp_lines.proofs.Words.{same_self, same_words}
use Rattle.sp_lines.proofs.PlaceLemmas.{bytes_at_back, bytes_at_read, mask_at_back, mask_at_read, number_at_back, number_at_read, tested_at_back}
use Rattle.sp_lines.proofs.PlaceLemmas.{tested_at_read}

-- ---- what is spelled is read

-- values in their ranges are read back from the words that spell them
pub row_back : (cs : List Cell) (xs : Values cs) → HaveRoom cs → AreIn cs xs → row_at cs (spelled cs xs) ≡ Ok xs
row_back [] xs room are = refl
row_back (Name w ∷ cs) xs room are = row_back cs xs room are
row_back (Number low high ∷ cs) xs room are = rw (number_at_back low high xs.0 room.0 are.0 are.1) (rw (row_back cs xs.1 room.1 are.2) refl)
row_back (Tested low high test ∷ cs) xs room are = rw (tested_at_back low high xs.0 test room.0 are.0 are.1 are.2) (rw (row_back cs xs.1 room.1 are.3) refl)
row_back (Bytes low high ∷ cs) xs room are = rw (bytes_at_back low high xs.0 are.0) (rw (row_back cs xs.1 room are.1) refl)
row_back (Mask format ∷ cs) xs room are = rw (mask_at_back format xs.0 are.0) (rw (row_back cs xs.1 room are.1) refl)
row_back (Numbers count high ∷ cs) xs room are = rw (numbers_at_back count high xs.0 room.0 are.0) (rw (row_back cs xs.1 room.1 are.1) refl)

-- the words of values fit their row
pub as_many : (cs : List Cell) (xs : Values cs) → length (spelled cs xs) ≡ length cs
as_many [] xs = refl
as_many (Name w ∷ cs) xs = omega (arith, as_many cs xs)
as_many (Number low high ∷ cs) xs = omega (arith, as_many cs xs.1)
as_many (Tested low high test ∷ cs) xs = omega (arith, as_many cs xs.1)
as_many (Bytes low high ∷ cs) xs = omega (arith, as_many cs xs.1)
as_many (Mask format ∷ cs) xs = omega (arith, as_many cs xs.1)
as_many (Numbers count high ∷ cs) xs = omega (arith, as_many cs xs.1)

agrees_spelled : (cs : List Cell) (xs : Values cs) → agrees cs (spelled cs xs) ≡ true
agrees_spelled [] xs = refl
agrees_spelled (Name w ∷ cs) xs = rw (same_self w) (agrees_spelled cs xs)
agrees_spelled (Number low high ∷ cs) xs = agrees_spelled cs xs.1
agrees_spelled (Tested low high test ∷ cs) xs = agrees_spelled cs xs.1
agrees_spelled (Bytes low high ∷ cs) xs = agrees_spelled cs xs.1
agrees_spelled (Mask format ∷ cs) xs = agrees_spelled cs xs.1
agrees_spelled (Numbers count high ∷ cs) xs = agrees_spelled cs xs.1

pub fits_spelled : (cs : List Cell) (xs : Values cs) → fits cs (spelled cs xs) ≡ true
fits_spelled cs xs =
    let long : (length cs == length (spelled cs xs)) ≡ true = rw (as_many cs xs) (grind (arith, nat_tests)) in
    rw long (agrees_spelled cs xs)

-- ---- what is read is spelled

-- the words of a row with these values
pub row_read : (cs : List Cell) (ws : List Word) (xs : Values cs) → length cs ≡ length ws → agrees cs ws ≡ true → row_at cs ws ≡ Ok xs
    → AreIn cs xs × (ws ≡ spelled cs xs)
row_read [] [] xs long agree e = (tt, refl)
row_read [] (w ∷ ws) xs long agree e = absurd (omega (arith, long))
row_read (c ∷ cs) [] xs long agree e = absurd (omega (arith, long))
row_read (Name w ∷ cs) (x ∷ ws) xs long agree e =
    let both = and_parts (same x w) (agrees cs ws) agree in
    let more = row_read cs ws xs (omega (arith, long)) both.1 e in
    let first : x ≡ w = same_words x w both.0 in
    (more.0, cons_same _ _ _ _ first more.1)
row_read (Number low high ∷ cs) (x ∷ ws) xs long agree e =
    let one = then_ok (number_at low high x) (λ n. row_at cs ws >>= λ ns. Ok (n, ns)) xs e in
    let two = then_ok (row_at cs ws) (λ ns. Ok (one.0, ns)) xs one.2 in
    let first = number_at_read low high one.0 x one.1 in
    let more = row_read cs ws two.0 (omega (arith, long)) agree two.1 in
    let pair : (one.0, two.0) ≡ xs = let f : Ok (one.0, two.0) ≡ Ok xs = two.2 in cc in
    let both : AreIn (Number low high ∷ cs) (one.0, two.0) × ((x ∷ ws) ≡ spelled (Number low high ∷ cs) (one.0, two.0)) =
    ((first.1, first.2, more.0), cons_same _ _ _ _ first.0 more.1) in
    subst (λ (z : Values (Number low high ∷ cs)). AreIn (Number low high ∷ cs) z × ((x ∷ ws) ≡ spelled (Number low high ∷ cs) z)) pair both
row_read (Tested low high test ∷ cs) (x ∷ ws) xs long agree e =
    let one = then_ok (tested_at low high test x) (λ n. row_at cs ws >>= λ ns. Ok (n, ns)) xs e in
    let two = then_ok (row_at cs ws) (λ ns. Ok (one.0, ns)) xs one.2 in
    let first = tested_at_read low high one.0 test x one.1 in
    let more = row_read cs ws two.0 (omega (arith, long)) agree two.1 in
    let pair : (one.0, two.0) ≡ xs = let f : Ok (one.0, two.0) ≡ Ok xs = two.2 in cc in
    let both : AreIn (Tested low high test ∷ cs) (one.0, two.0) × ((x ∷ ws) ≡ spelled (Tested low high test ∷ cs) (one.0, two.0)) =
    ((first.1, first.2, first.3, more.0), cons_same _ _ _ _ first.0 more.1) in
    subst (λ (z : Values (Tested low high test ∷ cs)). AreIn (Tested low high test ∷ cs) z × ((x ∷ ws) ≡ spelled (Tested low high test ∷ cs) z)) pair both
row_read (Bytes low high ∷ cs) (x ∷ ws) xs long agree e =
    let one = then_ok (bytes_at low high x) (λ n. row_at cs ws >>= λ ns. Ok (n, ns)) xs e in
    let two = then_ok (row_at cs ws) (λ ns. Ok (one.0, ns)) xs one.2 in
    let first = bytes_at_read low high one.0 x one.1 in
    let more = row_read cs ws two.0 (omega (arith, long)) agree two.1 in
    let pair : (one.0, two.0) ≡ xs = let f : Ok (one.0, two.0) ≡ Ok xs = two.2 in cc in
    let both : AreIn (Bytes low high ∷ cs) (one.0, two.0) × ((x ∷ ws) ≡ spelled (Bytes low high ∷ cs) (one.0, two.0)) =
    ((first.1, more.0), cons_same _ _ _ _ first.0 more.1) in
    subst (λ (z : Values (Bytes low high ∷ cs)). AreIn (Bytes low high ∷ cs) z × ((x ∷ ws) ≡ spelled (Bytes low high ∷ cs) z)) pair both
row_read (Mask format ∷ cs) (x ∷ ws) xs long agree e =
    let one = then_ok (mask_at format x) (λ n. row_at cs ws >>= λ ns. Ok (n, ns)) xs e in
    let two = then_ok (row_at cs ws) (λ ns. Ok (one.0, ns)) xs one.2 in
    let first = mask_at_read format one.0 x one.1 in
    let more = row_read cs ws two.0 (omega (arith, long)) agree two.1 in
    let pair : (one.0, two.0) ≡ xs = let f : Ok (one.0, two.0) ≡ Ok xs = two.2 in cc in
    let both : AreIn (Mask format ∷ cs) (one.0, two.0) × ((x ∷ ws) ≡ spelled (Mask format ∷ cs) (one.0, two.0)) =
    ((first.1, more.0), cons_same _ _ _ _ first.0 more.1) in
    subst (λ (z : Values (Mask format ∷ cs)). AreIn (Mask format ∷ cs) z × ((x ∷ ws) ≡ spelled (Mask format ∷ cs) z)) pair both
row_read (Numbers count high ∷ cs) (x ∷ ws) xs long agree e =
    let one = then_ok (numbers_at count high x) (λ n. row_at cs ws >>= λ ns. Ok (n, ns)) xs e in
    let two = then_ok (row_at cs ws) (λ ns. Ok (one.0, ns)) xs one.2 in
    let first = numbers_at_read count high one.0 x one.1 in
    let more = row_read cs ws two.0 (omega (arith, long)) agree two.1 in
    let pair : (one.0, two.0) ≡ xs = let f : Ok (one.0, two.0) ≡ Ok xs = two.2 in cc in
    let both : AreIn (Numbers count high ∷ cs) (one.0, two.0) × ((x ∷ ws) ≡ spelled (Numbers count high ∷ cs) (one.0, two.0)) =
    ((first.1, more.0), cons_same _ _ _ _ first.0 more.1) in
    subst (λ (z : Values (Numbers count high ∷ cs)). AreIn (Numbers count high ∷ cs) z × ((x ∷ ws) ≡ spelled (Numbers count high ∷ cs) z)) pair both

-- words that fit a row: their count and their names
pub fit_parts : (cs : List Cell) (ws : List Word) → fits cs ws ≡ true → (length cs ≡ length ws) × (agrees cs ws ≡ true)
fit_parts cs ws fit =
    let both = and_parts (length cs == length ws) (agrees cs ws) fit in
    (grind (arith, nat_tests, both.0), both.1)

if_fits : {X : Type 0} (t : Bool) (r : Result X Fault) (x : X) → (if t then r else Err faults.Form) ≡ Ok x → (t ≡ true) × (r ≡ Ok x)
if_fits true r x e = (refl, e)
if_fits false r x e = absurd (cc)

-- a line that is read is the one spelling of its values, and they are in their ranges
pub line_read : (cs : List Cell) (ws : List Word) (xs : Values cs) → line_of cs ws ≡ Ok xs → AreIn cs xs × (ws ≡ spelled cs xs)
line_read cs ws xs e =
    let parts = if_fits (fits cs ws) (row_at cs ws) xs e in
    let fit = fit_parts cs ws parts.0 in
    row_read cs ws xs fit.0 fit.1 parts.1

-- values in their ranges are read back from the line that spells them
pub line_back : (cs : List Cell) (xs : Values cs) → HaveRoom cs → AreIn cs xs → line_of cs (spelled cs xs) ≡ Ok xs
line_back cs xs room are = rw (fits_spelled cs xs) (row_back cs xs room are)

pub rows_have_one_spelling : RowsHaveOneSpelling
rows_have_one_spelling cs ws xs room =
    (λ e. line_read cs ws xs e, λ is. rw is.1 (line_back cs xs room is.0))
