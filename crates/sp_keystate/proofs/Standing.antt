-- What a changed file stands for.
use Rattle.std.proofs.Common.{◌≡◌, ℕ, ◌+◌, ◌<◌, ◌≤◌, inl, inr, Bool, true, false, List, [], ◌∷◌, ◌++◌, length, take, drop, Option, None, Some, refl, sym, ap}
use Rattle.std.proofs.Common.{subst, ◌∙◌, append_assoc, lit<, lit≤, arith}
use Rattle.std.specs.Prelude.{if◌then◌else◌, nat_lt, slice_get}
use Rattle.std.proofs.Common.{length-append}
use Rattle.std.proofs.Math.Seq.{drop-append_seam}
use Rattle.std.proofs.lemmas.List.{append-nil}
use Rattle.std.proofs.lemmas.Bool.Decides.{nat_tests}
use Rattle.std.proofs.lemmas.Option.{none-some, slice_get_past}
use Rattle.byteorder.specs.Endian.{big_bytes, big_number}
use Rattle.byteorder.specs.Numbers.{big_number-reads_back, length-bytes_high_first}
use Rattle.sp_keystate.specs.declared.numbers.Numbers.{Numbers}
use Rattle.sp_keystate.specs.declared.slot.InUse.{InUse}
use Rattle.sp_keystate.specs.declared.slot.Slot.{Slot}
use Rattle.sp_keystate.specs.declared.slot.Slot.TheVariants.{First, Second}
use Rattle.sp_keystate.specs.Slots.{IsInRange, behind, bytes_in, in_slot, in_use, is_open, latest, numbers_in, opened_at, other, place}
use Rattle.sp_keystate.specs.Changes.{IsTorn, changed, closed, numbered}
use Rattle.sp_keystate.specs.States.{first_numbers}
use Rattle.sp_keystate.proofs.Pieces.{same_some}
use Rattle.sp_keystate.proofs.Torn.{patched_has, patched_torn, torn_same, torn_short}
use Rattle.sp_keystate.proofs.SlotLemmas.{IsApart, behind_same, get_drop, if_same, length_behind, opened_by, stays_open}

-- ---- the 24 bytes

pub length_in : (n : Numbers) → length (bytes_in n) ≡ 24
unfolding bytes_in
length_in n =
    let a = length-bytes_high_first 8 n.serial in
    let b = length-bytes_high_first 8 n.bound in
    let c = length-bytes_high_first 8 n.boot in
    length-append (big_bytes 8 n.serial ++ big_bytes 8 n.bound) (big_bytes 8 n.boot)
    ∙ omega (arith, a, b, c, length-append (big_bytes 8 n.serial) (big_bytes 8 n.bound))

drop_by : (n : ℕ) (xs ys : List ℕ) → length xs ≡ n → drop n (xs ++ ys) ≡ ys
drop_by n xs ys is = subst (λ (m : ℕ). drop m (xs ++ ys) ≡ ys) is (drop-append_seam xs ys)

-- they give the numbers back
pub reads_back : (n : Numbers) → IsInRange n → numbers_in (bytes_in n) ≡ n
unfolding bytes_in numbers_in
reads_back n range = rw (serial, bound, boot) refl
  where
    a : List ℕ
    a = big_bytes 8 n.serial

    b : List ℕ
    b = big_bytes 8 n.bound

    c : List ℕ
    c = big_bytes 8 n.boot

    whole : (a ++ b) ++ c ≡ a ++ (b ++ c)
    whole = append_assoc a b c

    serial : big_number 8 ((a ++ b) ++ c) ≡ n.serial
    serial = ap (λ (l : List ℕ). big_number 8 l) whole ∙ big_number-reads_back 8 n.serial (b ++ c) (omega (arith, range.serial))

    bound : big_number 8 (drop 8 ((a ++ b) ++ c)) ≡ n.bound
    bound = ap (λ (l : List ℕ). big_number 8 l) (ap (λ (l : List ℕ). drop 8 l) whole ∙ drop_by 8 a (b ++ c) (length-bytes_high_first 8 n.serial))
        ∙ big_number-reads_back 8 n.bound c (omega (arith, range.bound))

    long : length (a ++ b) ≡ 16
    long = length-append a b ∙ omega (arith, length-bytes_high_first 8 n.serial, length-bytes_high_first 8 n.bound)

    boot : big_number 8 (drop 16 ((a ++ b) ++ c)) ≡ n.boot
    boot =
        ap (λ (l : List ℕ). big_number 8 l) (drop_by 16 (a ++ b) c long)
        ∙ ap (λ (l : List ℕ). big_number 8 l) (sym (append-nil c)) ∙ big_number-reads_back 8 n.boot [] (omega (arith, range.boot))

-- ---- the slot that was changed, and the one beside it

pub apart : (slot : Slot) → IsApart (place slot) (place (other slot))
apart First = inl (omega arith)
apart Second = inr (omega arith)

-- past both ends there is nothing
past_same : (f c : List ℕ) (at i : ℕ) (bs : List ℕ) → IsTorn f at bs c → at + length bs ≤ i → slice_get c i ≡ slice_get f i
past_same f c at i bs torn past = go (nat_lt i (length f)) refl
  where
    go : (t : Bool) → nat_lt i (length f) ≡ t → slice_get c i ≡ slice_get f i
    go true less = torn_same f at bs c i torn (inr past) (let h : i < length f = grind (arith, nat_tests) in h)
    go false more =
        let long : length f ≤ i = grind (arith, nat_tests) in
        let short = torn_short f at bs c torn in
        slice_get_past c i (omega (arith, short, long, past)) ∙ sym (slice_get_past f i long)

-- bytes behind what is written stay, also where there are none
pub behind_past : (f c : List ℕ) (at a : ℕ) (bs : List ℕ) → IsTorn f at bs c → at + length bs ≤ a + 1 → behind c a ≡ behind f a
behind_past f c at a bs torn past = behind_same f c a (λ i low high. past_same f c at i bs torn (omega (arith, low, past)))

pub past_open : (f c : List ℕ) (at a : ℕ) (bs : List ℕ) → IsTorn f at bs c → at + length bs ≤ a → opened_at c a ≡ opened_at f a
past_open f c at a bs torn past = opened_by f c a (past_same f c at a bs torn past) (behind_past f c at a bs torn (omega (arith, past)))

pub head_at : (g : List ℕ) (at b : ℕ) → take 1 (drop at g) ≡ b ∷ [] → slice_get g at ≡ Some b
head_at g at b is = sym (go (drop at g) is ∙ same)
  where
    go : (xs : List ℕ) → take 1 xs ≡ b ∷ [] → Some b ≡ slice_get xs 0
    go [] e = absurd (omega (arith, ap (λ (l : List ℕ). length l) e))
    go (x ∷ xs) e = ap (λ (l : List ℕ). slice_get l 0) (sym e)

    same : slice_get (drop at g) 0 ≡ slice_get g at
    same = let e : at + 0 ≡ at = omega arith in get_drop at g 0 ∙ ap (slice_get g) e

-- the numbers stand behind the gate
pub numbered_body : (f : List ℕ) (at : ℕ) (next : Numbers) → behind (numbered f at next) at ≡ bytes_in next
numbered_body f at next =
    subst (λ (n : ℕ). take n (drop (at + 1) (numbered f at next)) ≡ bytes_in next) (length_in next) (patched_has (closed f at) (at + 1) (bytes_in next))

pub numbered_size : (f : List ℕ) (at : ℕ) (next : Numbers) → at + 25 ≤ length (numbered f at next)
numbered_size f at next =
    let full : length (behind (numbered f at next) at) ≡ 24 = ap (λ (l : List ℕ). length l) (numbered_body f at next) ∙ length_in next in
    omega (arith, full, length_behind (numbered f at next) at)

-- what is written to the gate leaves them
pub gate_leaves : (g c : List ℕ) (at b : ℕ) → IsTorn g at (b ∷ []) c → behind c at ≡ behind g at
gate_leaves g c at b torn = behind_past g c at at (b ∷ []) torn (omega arith)

-- the changed slot is open
pub changed_there : (f : List ℕ) (at : ℕ) (next : Numbers) → IsInRange next → opened_at (changed f at next) at ≡ Some next
changed_there f at next range =
    let m = changed f at next in
    let gate : slice_get m at ≡ Some 0xa5 = head_at m at 0xa5 (patched_has (numbered f at next) at (0xa5 ∷ [])) in
    let body : behind m at ≡ bytes_in next =
    gate_leaves (numbered f at next) m at 0xa5 (patched_torn (numbered f at next) at (0xa5 ∷ [])) ∙ numbered_body f at next in
    let full : length (behind m at) ≡ 24 = ap (λ (l : List ℕ). length l) body ∙ length_in next in
    if_same (is_open m at) true (numbers_in (behind m at)) next (rw (gate, full) refl) (ap numbers_in body ∙ reads_back next range)

-- the one beside it stays
pub changed_here : (f : List ℕ) (slot : Slot) (s next : Numbers) → opened_at f (place slot) ≡ Some s
    → opened_at (changed f (place (other slot)) next) (place slot) ≡ Some s
changed_here f slot s next is =
    let at = place (other slot) in
    let size = length_in next in
    let one = stays_open f (closed f at) (0 ∷ []) (place slot) at at s (apart slot) (omega arith) (omega arith) is (patched_torn f at (0 ∷ [])) in
    let two = stays_open (closed f at) (numbered f at next) (bytes_in next) (place slot) at (at + 1) s (apart slot) (omega arith) (omega (arith, size)) one
    (patched_torn (closed f at) (at + 1) (bytes_in next)) in
    stays_open (numbered f at next) (changed f at next) (0xa5 ∷ []) (place slot) at at s (apart slot) (omega arith) (omega arith) two
    (patched_torn (numbered f at next) at (0xa5 ∷ []))

-- ---- the slot in use

pub next_in_use : (m : List ℕ) (slot : Slot) (s next : Numbers) → s.serial < next.serial → opened_at m (place slot) ≡ Some s
    → opened_at m (place (other slot)) ≡ Some next → in_use m ≡ Some (in_slot (other slot) next)
next_in_use m First s next up here there =
    let lt : nat_lt s.serial next.serial ≡ true = grind (arith, nat_tests) in rw (here, there, lt) refl
next_in_use m Second s next up here there =
    let lt : nat_lt next.serial s.serial ≡ false = grind (arith, nat_tests) in rw (here, there, lt) refl

same_slot : (x y : Slot) (s t : Numbers) → Some (in_slot x s) ≡ Some (in_slot y t) → (x ≡ y) × (s ≡ t)
same_slot x y s t is = let same = same_some (in_slot x s) (in_slot y t) is in (ap (λ (u : InUse). u.slot) same, ap (λ (u : InUse). u.numbers) same)

-- by the slot
abbrev of_slot : {X : Type 0} → Slot → X → X → X
of_slot First a b = a
of_slot Second a b = b

latest_here : (a b : Option Numbers) (slot : Slot) (s : Numbers) → latest a b ≡ Some (in_slot slot s) → of_slot slot a b ≡ Some s
latest_here None None slot s is = absurd (none-some (in_slot slot s) is)
latest_here (Some a) None slot s is =
    let both = same_slot First slot a s is in subst (λ (x : Slot). of_slot x (Some a) None ≡ Some s) both.0 (ap (λ (n : Numbers). Some n) both.1)
latest_here None (Some b) slot s is =
    let both = same_slot Second slot b s is in subst (λ (x : Slot). of_slot x None (Some b) ≡ Some s) both.0 (ap (λ (n : Numbers). Some n) both.1)
latest_here (Some a) (Some b) slot s is = go (nat_lt a.serial b.serial) is
  where
    go : (t : Bool) → (if t then Some (in_slot Second b) else Some (in_slot First a)) ≡ Some (in_slot slot s) → of_slot slot (Some a) (Some b) ≡ Some s
    go true e = let both = same_slot Second slot b s e in
        subst (λ (x : Slot). of_slot x (Some a) (Some b) ≡ Some s) both.0 (ap (λ (n : Numbers). Some n) both.1)
    go false e = let both = same_slot First slot a s e in
        subst (λ (x : Slot). of_slot x (Some a) (Some b) ≡ Some s) both.0 (ap (λ (n : Numbers). Some n) both.1)

pub here_of : (f : List ℕ) (slot : Slot) (s : Numbers) → in_use f ≡ Some (in_slot slot s) → opened_at f (place slot) ≡ Some s
here_of f First s is = latest_here (opened_at f 0) (opened_at f 64) First s is
here_of f Second s is = latest_here (opened_at f 0) (opened_at f 64) Second s is

-- a changed file stands for the next numbers
pub changed_in_use : (f : List ℕ) (slot : Slot) (s next : Numbers) → IsInRange next → s.serial < next.serial → in_use f ≡ Some (in_slot slot s)
    → in_use (changed f (place (other slot)) next) ≡ Some (in_slot (other slot) next)
changed_in_use f slot s next range up is =
    next_in_use (changed f (place (other slot)) next) slot s next up (changed_here f slot s next (here_of f slot s is))
    (changed_there f (place (other slot)) next range)

-- ---- a formatted file

latest_none : (a b : Option Numbers) → latest a b ≡ None → b ≡ None
latest_none None None is = refl
latest_none (Some a) None is = refl
latest_none None (Some b) is = absurd (none-some (in_slot Second b) (sym is))
latest_none (Some a) (Some b) is = go (nat_lt a.serial b.serial) is
  where
    go : (t : Bool) → (if t then Some (in_slot Second b) else Some (in_slot First a)) ≡ None → Some b ≡ None
    go true e = absurd (none-some (in_slot Second b) (sym e))
    go false e = absurd (none-some (in_slot First a) (sym e))

first_in_range : IsInRange first_numbers
first_in_range = record { serial = lit< tt; bound = lit< tt; boot = lit< tt }

-- where no slot was in use, the first one is once it is written
pub formatted_in_use : (f : List ℕ) → in_use f ≡ None → in_use (changed f (place First) first_numbers) ≡ Some (in_slot First first_numbers)
formatted_in_use f is = rw (changed_there f 0 first_numbers first_in_range, beside) refl
  where
    size : length (bytes_in first_numbers) ≡ 24
    size = length_in first_numbers

    one : opened_at (closed f 0) 64 ≡ opened_at f 64
    one = past_open f (closed f 0) 0 64 (0 ∷ []) (patched_torn f 0 (0 ∷ [])) (lit≤ tt)

    two : opened_at (numbered f 0 first_numbers) 64 ≡ opened_at (closed f 0) 64
    two = past_open (closed f 0) (numbered f 0 first_numbers) (0 + 1) 64 (bytes_in first_numbers) (patched_torn (closed f 0) (0 + 1) (bytes_in first_numbers))
        (omega (arith, size))

    three : opened_at (changed f 0 first_numbers) 64 ≡ opened_at (numbered f 0 first_numbers) 64
    three = past_open (numbered f 0 first_numbers) (changed f 0 first_numbers) 0 64 (0xa5 ∷ []) (patched_torn (numbered f 0 first_numbers) 0 (0xa5 ∷ []))
        (lit≤ tt)

    beside : opened_at (changed f 0 first_numbers) 64 ≡ None
    beside = three ∙ two ∙ one ∙ latest_none (opened_at f 0) (opened_at f 64) is
