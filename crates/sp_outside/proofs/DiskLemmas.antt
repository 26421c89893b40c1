-- What writes and syncs make of a disk and its images.
use Rattle.std.proofs.Common.{◌≡◌, ℕ, zero, suc, ◌+◌, ◌<◌, ◌≤◌, Bool, true, false, List, [], ◌∷◌, ◌++◌, length, max, get_or, take, drop, refl, sym, ap, subst}
use Rattle.std.proofs.Common.{◌∙◌, arith}
use Rattle.std.specs.Prelude.{◌==◌, ◌&&◌, if◌then◌else◌}
use borrow.Rule.Slice.PartMut.{put_mid}
use Rattle.std.proofs.lemmas.Bool.{eqb-true}
use Rattle.sp_outside.specs.Disk.{Cell, Disk, IsImage, after_write, bytes_of, over, patched, still}
use Rattle.sp_outside.specs.Moments.{IsWithin}

-- a disk on which nothing is being written has the bytes that stand there
pub bytes_of-still : (f : List ℕ) → bytes_of (still f) ≡ f
bytes_of-still [] = refl
bytes_of-still (x ∷ f) = ap (λ (l : List ℕ). x ∷ l) (bytes_of-still f)

-- what a read gives is an image
pub own_image : (disk : Disk) → IsImage disk (bytes_of disk)
own_image [] = tt
own_image (cell ∷ disk) = ((λ is. refl), own_image disk)

true_not_false : true ≡ false → ⊥
true_not_false is = cc

-- of a disk on which nothing is pending it is the only one
pub only_image : (f image : List ℕ) → IsImage (still f) image → image ≡ f
only_image [] [] h = refl
only_image [] (b ∷ bs) h = absurd h
only_image (x ∷ f) [] h = absurd (true_not_false h)
only_image (x ∷ f) (b ∷ bs) h = rw (h.0 refl, only_image f bs h.1) refl

-- ---- a byte that is written

and_both : (a b : Bool) → a && b ≡ true → (a ≡ true) × (b ≡ true)
and_both true b is = (refl, is)
and_both false true is = (is, refl)
and_both false false is = (is, is)

over_now : (cell : Cell) (b : ℕ) → (over cell b).now ≡ b
over_now cell b = go (cell.is_fixed && (cell.is_there && (cell.now == b))) refl
  where
    go : (t : Bool) → cell.is_fixed && (cell.is_there && (cell.now == b)) ≡ t
        → (if t then cell else (record { now = b; is_fixed = false; is_there = cell.is_there })).now ≡ b
    go true is = eqb-true cell.now b (and_both cell.is_there (cell.now == b) (and_both cell.is_fixed (cell.is_there && (cell.now == b)) is).1).1
    go false is = refl

-- writing over a cell leaves it there, or away, as it was
pub over_there : (cell : Cell) (b : ℕ) → (over cell b).is_there ≡ cell.is_there
over_there cell b = go (cell.is_fixed && (cell.is_there && (cell.now == b)))
  where
    go : (t : Bool) → (if t then cell else (record { now = b; is_fixed = false; is_there = cell.is_there })).is_there ≡ cell.is_there
    go true = refl
    go false = refl

over_fixed : (cell : Cell) (b x : ℕ) → (cell.is_fixed ≡ true → x ≡ cell.now) → (over cell b).is_fixed ≡ true → x ≡ (over cell b).now
over_fixed cell b x h = go (cell.is_fixed && (cell.is_there && (cell.now == b)))
  where
    go : (t : Bool) → (let c = if t then cell else (record { now = b; is_fixed = false; is_there = cell.is_there }) in c.is_fixed ≡ true → x ≡ c.now)
    go true = h
    go false = λ is. absurd (true_not_false (sym is))

-- ---- a write

-- what a read gives after a write
pub bytes_of-after_write : (disk : Disk) (at : ℕ) (bs : List ℕ) → bytes_of (after_write disk at bs) ≡ patched (bytes_of disk) at bs
bytes_of-after_write disk at [] = refl
bytes_of-after_write [] zero (b ∷ bs) = ap (λ (l : List ℕ). b ∷ l) (bytes_of-after_write [] zero bs)
bytes_of-after_write (cell ∷ disk) zero (b ∷ bs) = rw (over_now cell b, bytes_of-after_write disk zero bs) refl
bytes_of-after_write [] (suc at) (b ∷ bs) = ap (λ (l : List ℕ). 0 ∷ l) (bytes_of-after_write [] at (b ∷ bs))
bytes_of-after_write (cell ∷ disk) (suc at) (b ∷ bs) = ap (λ (l : List ℕ). cell.now ∷ l) (bytes_of-after_write disk at (b ∷ bs))

-- each image before a write is one after it
pub within_write : (disk : Disk) (at : ℕ) (bs : List ℕ) → IsWithin disk (after_write disk at bs)
within_write disk at [] image h = h
within_write [] zero (b ∷ bs) [] h = refl
within_write [] zero (b ∷ bs) (x ∷ xs) h = absurd h
within_write (cell ∷ disk) zero (b ∷ bs) [] h = over_there cell b ∙ h
within_write (cell ∷ disk) zero (b ∷ bs) (x ∷ xs) h = (over_fixed cell b x h.0, within_write disk zero bs xs h.1)
within_write [] (suc at) (b ∷ bs) [] h = refl
within_write [] (suc at) (b ∷ bs) (x ∷ xs) h = absurd h
within_write (cell ∷ disk) (suc at) (b ∷ bs) [] h = h
within_write (cell ∷ disk) (suc at) (b ∷ bs) (x ∷ xs) h = (h.0, within_write disk at (b ∷ bs) xs h.1)

-- a file that is written and synced at once leaves what a write may leave
pub within_patched : (f : List ℕ) (at : ℕ) (bs : List ℕ) → IsWithin (still (patched f at bs)) (after_write (still f) at bs)
within_patched f at bs image h =
    let own = own_image (after_write (still f) at bs) in
    let is : bytes_of (after_write (still f) at bs) ≡ image =
    bytes_of-after_write (still f) at bs ∙ ap (λ (l : List ℕ). patched l at bs) (bytes_of-still f) ∙ sym (only_image (patched f at bs) image h) in
    subst (IsImage (after_write (still f) at bs)) is own

-- ---- a write into an array of which so many bytes are the file

-- at its front
laid : (arr : List ℕ) (len n : ℕ) (bs : List ℕ) → length bs ≤ length arr → n ≡ max len (length bs)
    → take n (bs ++ drop (length bs) arr) ≡ patched (take len arr) 0 bs
laid arr len n [] room is = let e : n ≡ len = omega arith in ap (λ (m : ℕ). take m arr) e
laid [] len n (b ∷ bs) room is = absurd (omega (arith, room))
laid (x ∷ arr) len zero (b ∷ bs) room is = absurd (omega (arith, is))
laid (x ∷ arr) zero (suc n) (b ∷ bs) room is = ap (λ (l : List ℕ). b ∷ l) (laid arr 0 n bs (omega (arith, room)) (omega (arith, is)))
laid (x ∷ arr) (suc len) (suc n) (b ∷ bs) room is = ap (λ (l : List ℕ). b ∷ l) (laid arr len n bs (omega (arith, room)) (omega (arith, is)))

-- from a place on, where what lies between is 0
pub laid_at : (arr : List ℕ) (len at n : ℕ) (bs : List ℕ) → 0 < length bs → at + length bs ≤ length arr → n ≡ max len (at + length bs)
    → ((k : ℕ) → len ≤ k → k < at → get_or arr k 0 ≡ 0) → take n (put_mid at (length bs) arr bs) ≡ patched (take len arr) at bs
laid_at arr len at n [] some room is clear = absurd (omega (arith, some))
laid_at arr len zero n (b ∷ bs) some room is clear = laid arr len n (b ∷ bs) (omega (arith, room)) (omega (arith, is))
laid_at [] len (suc at) n (b ∷ bs) some room is clear = absurd (omega (arith, room))
laid_at (x ∷ arr) len (suc at) zero (b ∷ bs) some room is clear = absurd (omega (arith, is))
laid_at (x ∷ arr) zero (suc at) (suc n) (b ∷ bs) some room is clear =
    let zero_here : x ≡ 0 = clear 0 (omega arith) (omega arith) in
    rw (
      zero_here,
      laid_at arr 0 at n (b ∷ bs) (omega arith) (omega (arith, room)) (omega (arith, is)) (λ k low high. clear (suc k) (omega arith) (omega (arith, high))),
    )
    refl
laid_at (x ∷ arr) (suc len) (suc at) (suc n) (b ∷ bs) some room is clear =
    ap (λ (l : List ℕ). x ∷ l)
    (laid_at arr len at n (b ∷ bs) (omega arith) (omega (arith, room)) (omega (arith, is))
    (λ k low high. clear (suc k) (omega (arith, low)) (omega (arith, high))))

-- a file in memory that is its one image, written
pub memory_written : (f g : List ℕ) (at : ℕ) (bs : List ℕ) → g ≡ patched f at bs
    → (bytes_of (still g) ≡ patched (bytes_of (still f)) at bs) × IsWithin (still g) (after_write (still f) at bs)
memory_written f g at bs is = (
  bytes_of-still g ∙ is ∙ ap (λ (l : List ℕ). patched l at bs) (sym (bytes_of-still f)),
  (λ image h. within_patched f at bs image (subst (λ (l : List ℕ). IsImage (still l) image) is h)),
)
