-- The images of a disk.
use Rattle.std.proofs.Common.{◌≡◌, ℕ, zero, suc, Bool, true, false, [], ◌∷◌, get_or, Some, refl, sym, ap, subst, ◌∙◌, arith}
use Rattle.std.specs.Prelude.{◌==◌, if◌then◌else◌}
use Rattle.std.proofs.lemmas.Bool.{eqb-true}
use Rattle.std.proofs.lemmas.Option.{none-some}
use Rattle.sp_outside.specs.Disk.{IsImage, bytes_of, over, still, sure}
use Rattle.sp_outside.proofs.DiskLemmas.{bytes_of-still, only_image, own_image, within_write}
use Rattle.laws_keystate.specs.Disks.{AReadGivesAnImage, ASyncLeavesOneImage, AWriteTakesNoImage, AnyBytesMayStand}

pub a_read : AReadGivesAnImage
a_read = own_image

pub a_sync : ASyncLeavesOneImage
a_sync disk image h = only_image (bytes_of disk) image h

pub a_write : AWriteTakesNoImage
a_write disk at bytes image h = within_write disk at bytes image h

false_not_true : false ≡ true → ⊥
false_not_true is = cc

-- the byte that was there, or any other
over_any : (x b o : ℕ) → (x ≡ b → o ≡ b) → (over (sure x) b).is_fixed ≡ true → o ≡ (over (sure x) b).now
over_any x b o same = go (x == b) refl
  where
    go : (t : Bool) → (x == b) ≡ t → (let c = if t then sure x else (record { now = b; is_fixed = false; is_there = true }) in c.is_fixed ≡ true → o ≡ c.now)
    go true is = λ fixed. same (eqb-true x b is) ∙ sym (eqb-true x b is)
    go false is = λ fixed. absurd (false_not_true fixed)

pub any_bytes : AnyBytesMayStand
any_bytes file at [] [] size kept = subst (IsImage (still file)) (bytes_of-still file) (own_image (still file))
any_bytes file at [] (o ∷ os) size kept = absurd (omega (arith, size))
any_bytes file at (b ∷ bs) [] size kept = absurd (omega (arith, size))
any_bytes [] zero (b ∷ bs) (o ∷ os) size kept =
    ((λ fixed. absurd (false_not_true fixed)), any_bytes [] zero bs os (omega (arith, size)) (λ i place low is there. absurd (none-some (get_or bs i 0) there)))
any_bytes (x ∷ f) zero (b ∷ bs) (o ∷ os) size kept = (
  over_any x b o (λ same. kept 0 0 (omega arith) (omega arith) (ap (λ (n : ℕ). Some n) same)),
  any_bytes f zero bs os (omega (arith, size)) (λ i place low is there. kept (suc i) (suc place) (omega (arith, low)) (omega (arith, is)) there),
)
any_bytes [] (suc at) (b ∷ bs) (o ∷ os) size kept =
    ((λ fixed. refl), any_bytes [] at (b ∷ bs) (o ∷ os) size (λ i place low is there. absurd (none-some (get_or (b ∷ bs) i 0) there)))
any_bytes (x ∷ f) (suc at) (b ∷ bs) (o ∷ os) size kept =
    ((λ fixed. refl), any_bytes f at (b ∷ bs) (o ∷ os) size (λ i place low is there. kept i (suc place) low (omega (arith, is)) there))
