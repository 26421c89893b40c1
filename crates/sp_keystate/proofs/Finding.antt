-- What a sync and the reads of both slots tell.
use Rattle.std.proofs.Common.{◌≡◌, ℕ, List, length, take, drop, Option, None, Some, Ok, sym, ap, subst, ◌∙◌}
use Rattle.std.specs.Prelude.{IfSome}
use Rattle.std.proofs.lemmas.Option.{none-some}
use Rattle.sp_outside.specs.Disk.{Disk, IsImage, bytes_of}
use Rattle.sp_outside.specs.Moments.{GivesBytes, LeavesWithin, Synced}
use Rattle.sp_outside.proofs.DiskLemmas.{bytes_of-still, only_image, own_image}
use Rattle.sp_keystate.specs.declared.numbers.Numbers.{Numbers}
use Rattle.sp_keystate.specs.declared.slot.InUse.{InUse}
use Rattle.sp_keystate.specs.Slots.{latest, opened_at}
use Rattle.sp_keystate.specs.States.{Finds}
use Rattle.sp_keystate.proofs.Since.{since_on, since_weaker}
use Rattle.sp_keystate.proofs.SlotLemmas.{opened_piece}

-- a slot of which all bytes were read
pub slot_read : (E : Type 0) (d : Option Disk) (at count : ℕ) (buf : List ℕ) (numbers : Option Numbers) → length buf ≡ 25
    → GivesBytes {E = E} d at (Ok count) buf
    → numbers ≡ opened_at (take count buf) 0 → IfSome d (λ disk. numbers ≡ opened_at (bytes_of disk) at)
slot_read E None at count buf numbers size gives is = tt
slot_read E (Some disk) at count buf numbers size gives is =
    is ∙ ap (λ (l : List ℕ). opened_at l 0) (gives ∙ ap (λ (n : ℕ). take n (drop at (bytes_of disk))) size) ∙ opened_piece (bytes_of disk) at

-- what is read after a sync leaves no more than could be left before
pub leaves_on : (E : Type 0) (d m : Option Disk) (p q t : Option (List Disk)) (x : Unit {0}) → Synced {E = E} d m (Ok x) → LeavesWithin d p q
    → LeavesWithin m q t → LeavesWithin d p t
leaves_on E None m p q t x synced before after = tt
leaves_on E (Some d) None p q t x synced before after = absurd synced
leaves_on E (Some d) (Some m) p q t x synced before after =
    since_on p q t (IsImage d) before
    (since_weaker q t (IsImage m) (IsImage d)
    (λ c h. subst (IsImage d) (sym (only_image (bytes_of d) c (subst (λ (k : Disk). IsImage k c) synced h))) (own_image d)) after)

pub leaves_more : (m n : Option Disk) (p q t : Option (List Disk)) → n ≡ m → LeavesWithin m p q → LeavesWithin n q t → LeavesWithin m p t
leaves_more None n p q t same before after = tt
leaves_more (Some m) n p q t same before after = since_on p q t (IsImage m) before (subst (λ (o : Option Disk). LeavesWithin o q t) same after)

-- both slots are those of the file
pub finds : (E : Type 0) (d m n e : Option Disk) (x : Unit {0}) (first second : Option Numbers) (found : Option InUse) → Synced {E = E} d m (Ok x) → n ≡ m
    → e ≡ n
    → IfSome m (λ disk. first ≡ opened_at (bytes_of disk) 0) → IfSome n (λ disk. second ≡ opened_at (bytes_of disk) 64) → found ≡ latest first second
    → Finds d e found
finds E None None n e x first second found synced n_is e_is one two is = e_is ∙ n_is
finds E None (Some m) n e x first second found synced n_is e_is one two is = absurd synced
finds E (Some d) None n e x first second found synced n_is e_is one two is = absurd synced
finds E (Some d) (Some m) None e x first second found synced n_is e_is one two is = absurd (none-some m n_is)
finds E (Some d) (Some m) (Some n) e x first second found synced n_is e_is one two is = (
  e_is ∙ n_is ∙ ap (λ (k : Disk). Some k) synced,
  is ∙ ap (λ (o : Option Numbers). latest o second) (one ∙ ap (λ (l : List ℕ). opened_at l 0) m_bytes)
      ∙ ap (λ (o : Option Numbers). latest (opened_at (bytes_of d) 0) o) (two ∙ ap (λ (l : List ℕ). opened_at l 64) n_bytes),
)
  where
    m_bytes : bytes_of m ≡ bytes_of d
    m_bytes = ap bytes_of synced ∙ bytes_of-still (bytes_of d)

    n_bytes : bytes_of n ≡ bytes_of d
    n_bytes = ap (λ (o : Option Disk). elim o [ None ↦ bytes_of n | Some k ↦ bytes_of k ]) n_is ∙ m_bytes
