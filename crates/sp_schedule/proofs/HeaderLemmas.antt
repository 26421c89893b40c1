-- Words of the header: the seed, and the last of some ids.
use Rattle.std.proofs.Common.{◌≡◌, ◌≢◌, ℕ, ◌+◌, ◌-◌, ◌≤◌, List, [], ◌∷◌, length, Option, Some, None, Result, Ok, Err, refl, sym, ap, ◌∙◌, subst, arith, add-one}
use Rattle.std.specs.Prelude.{IfNone, IfSome, IsErr, slice_get}
use Rattle.hex.specs.Hex.{encode_lower}
use Rattle.sp_base.specs.Spelling.{AreBytes}
use Rattle.sp_base.specs.declared.id.NodeId.{NodeId}
use Rattle.sp_text.specs.Spelling.{Word, hex_word}
use Rattle.sp_lines.specs.Answers.{Says}
use Rattle.sp_lines.specs.Cells.{bytes_at}
use Rattle.sp_lines.specs.declared.fault.Fault.{Fault}
use Rattle.sp_lines.proofs.PlaceLemmas.{bytes_at_back, bytes_at_read}
use Rattle.sp_schedule.specs.Header.{next_after}

-- bytes that are some are spelled by their digits
some_bytes : (bs : List ℕ) → 1 ≤ length bs → hex_word bs ≡ encode_lower bs
some_bytes [] some = absurd (omega arith)
some_bytes (b ∷ bs) some = refl

pub seed_is : (w : Word) (r : Option (List ℕ)) → IfSome r (λ bs. w ≡ encode_lower bs) → IfSome r AreBytes → IfSome r (λ bs. length bs ≡ 32)
    → IfNone r ((bs : List ℕ) → AreBytes bs → length bs ≡ 32 → w ≢ encode_lower bs) → Says (λ bs. bs) r (bytes_at 32 32 w)
seed_is w (Some bs) found are long none =
    let word : w ≡ hex_word bs = found ∙ sym (some_bytes bs (omega (arith, long))) in
    subst (λ (v : Word). bytes_at 32 32 v ≡ Ok bs) (sym word) (bytes_at_back 32 32 bs (omega (arith, long), omega (arith, long), are))
seed_is w None found are long none = go (bytes_at 32 32 w) refl
  where
    go : (r : Result (List ℕ) Fault) → bytes_at 32 32 w ≡ r → IsErr r
    go (Err fault) is = refl
    go (Ok bs) is =
        let read = bytes_at_read 32 32 bs w is in
        absurd (none bs read.1.2 (omega (arith, read.1.0, read.1.1)) (read.0 ∙ some_bytes bs (omega (arith, read.1.0))))

-- what comes after the last id
pub next_of_last : (low : ℕ) (bs : List NodeId) (x : NodeId) → slice_get bs (length bs - 1) ≡ Some x → next_after low bs ≡ x.0 + 1
next_of_last low [] x last = absurd cc
next_of_last low (b ∷ []) x last = let is : Some b ≡ Some x = last in let same : b ≡ x = cc in ap (λ (z : NodeId). z.0 + 1) same
next_of_last low (b ∷ c ∷ bs) x last =
    let at : length (b ∷ c ∷ bs) - 1 ≡ length bs + 1 = omega arith in
    next_of_last (b.0 + 1) (c ∷ bs) x (shift bs (rw at at last))
  where
    shift : (ds : List NodeId) → slice_get (b ∷ c ∷ ds) (length ds + 1) ≡ Some x → slice_get (c ∷ ds) (length (c ∷ ds) - 1) ≡ Some x
    shift ds is =
        let there : length (c ∷ ds) - 1 ≡ length ds = omega arith in
        rw there (simp add-one at is)
