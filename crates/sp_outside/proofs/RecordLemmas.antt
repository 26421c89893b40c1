-- What one call more makes of a record.
use Rattle.std.proofs.Common.{◌≡◌, ℕ, Bool, not, true, false, List, [], ◌∷◌, ◌++◌, Some, refl, sym, ap, subst, ◌∙◌}
use Rattle.sp_outside.specs.declared.keeper_calls.KeeperCall.{KeeperCall}
use Rattle.sp_outside.specs.declared.keeper_calls.KeeperCall.TheVariants.{Synced}
use Rattle.sp_outside.specs.Disk.{Disk, IsImage, after_sync, after_write, bytes_of, patched, still}
use Rattle.sp_outside.specs.Moments.{AllSince, IsWithin}
use Rattle.sp_outside.specs.KeeperRecord.{Adds, Record, after_call, after_calls, after_each, disk_of, past_of}
use Rattle.std.specs.Prelude.{if◌then◌else◌}
use Rattle.std.proofs.lemmas.List.{append-nil}
use Rattle.sp_outside.proofs.DiskLemmas.{bytes_of-after_write, bytes_of-still, only_image, own_image}

after_calls-push : (d : Disk) (calls : List KeeperCall) (call : KeeperCall) → after_calls d (calls ++ call ∷ []) ≡ after_call (after_calls d calls) call
after_calls-push d [] call = refl
after_calls-push d (first ∷ calls) call = after_calls-push (after_call d first) calls call

after_each-push : (d : Disk) (calls : List KeeperCall) (call : KeeperCall)
    → after_each d (calls ++ call ∷ []) ≡ after_each d calls ++ after_call (after_calls d calls) call ∷ []
after_each-push d [] call = refl
after_each-push d (first ∷ calls) call = ap (λ (l : List Disk). after_call d first ∷ l) (after_each-push (after_call d first) calls call)

-- the disk after one call more
pub disk_added : (old new : Record) (disk : Disk) → Adds old new disk → disk_of new ≡ disk
disk_added old new disk adds = rw (adds.first, adds.calls, adds.left) (after_calls-push (still old.first) old.calls adds.call)

pub past_added : (old new : Record) (disk : Disk) → Adds old new disk → past_of new ≡ past_of old ++ disk ∷ []
past_added old new disk adds = rw (adds.first, adds.calls, adds.left) (after_each-push (still old.first) old.calls adds.call)

-- a call adds one moment, whose images have P
pub since_added : (old new : Record) (disk : Disk) (P : List ℕ → Type 0) → Adds old new disk → ((image : List ℕ) → IsImage disk image → P image)
    → AllSince (Some (past_of old)) (Some (past_of new)) P
since_added old new disk P adds holds = (disk ∷ [], past_added old new disk adds, (holds, tt))

-- a sync leaves the bytes, whether it was done or not
pub bytes_after_sync : (disk : Disk) (is_done : Bool) → bytes_of (after_call disk (Synced is_done)) ≡ bytes_of disk
bytes_after_sync disk true = bytes_of-still (bytes_of disk)
bytes_after_sync disk false = refl

-- what a sync leaves, done or not, was an image before
pub within_sync : (disk : Disk) (is_done : Bool) → IsWithin (after_call disk (Synced is_done)) disk
within_sync disk true image h = subst (IsImage disk) (sym (only_image (bytes_of disk) image h)) (own_image disk)
within_sync disk false image h = h

-- ---- a call that was kept, or for which memory lacked

pub kept_since : (b : Bool) (old new : Record) (disk : Disk) (P : List ℕ → Type 0) → (b ≡ true → Adds old new disk) → (b ≡ false → new ≡ old)
    → ((image : List ℕ) → IsImage disk image → P image) → AllSince (Some (past_of old)) (Some (past_of new)) P
kept_since true old new disk P kept before holds = since_added old new disk P (kept refl) holds
kept_since false old new disk P kept before holds = ([], ap past_of (before refl) ∙ sym (append-nil (past_of old)), tt)

pub kept_within : (b : Bool) (old new : Record) (disk outer : Disk) → (b ≡ true → Adds old new disk) → (b ≡ false → new ≡ old)
    → IsWithin disk outer → IsWithin (disk_of old) outer → IsWithin (disk_of new) outer
kept_within true old new disk outer kept before inside same image h =
    inside image (subst (λ (d : Disk). IsImage d image) (disk_added old new disk (kept refl)) h)
kept_within false old new disk outer kept before inside same image h = same image (subst (λ (r : Record). IsImage (disk_of r) image) (before refl) h)

pub kept_same : (b : Bool) (old new : Record) → (b ≡ true → Adds old new (disk_of old)) → (b ≡ false → new ≡ old) → Some (disk_of new) ≡ Some (disk_of old)
kept_same true old new kept before = ap (λ (d : Disk). Some d) (disk_added old new (disk_of old) (kept refl))
kept_same false old new kept before = ap (λ (r : Record). Some (disk_of r)) (before refl)

-- a write that was done
pub written_as : (old new : Record) (at : ℕ) (bs : List ℕ) → Adds old new (after_write (disk_of old) at bs)
    → (bytes_of (disk_of new) ≡ patched (bytes_of (disk_of old)) at bs) × IsWithin (disk_of new) (after_write (disk_of old) at bs)
written_as old new at bs adds =
    let is = disk_added old new (after_write (disk_of old) at bs) adds in
    (ap bytes_of is ∙ bytes_of-after_write (disk_of old) at bs, (λ image h. subst (λ (d : Disk). IsImage d image) is h))

pub synced_as : (old new : Record) (fails : Bool) → fails ≡ false → Adds old new (after_call (disk_of old) (Synced (not fails)))
    → disk_of new ≡ after_sync (disk_of old)
synced_as old new fails done adds =
    disk_added old new (after_call (disk_of old) (Synced (not fails))) adds ∙ ap (λ (b : Bool). after_call (disk_of old) (Synced (not b))) done

-- ---- the bytes that stand ready are those under the record

-- one call more, or none
pub kept_bytes : (t : Bool) (d : Disk) (calls now : List KeeperCall) (call : KeeperCall) (file : List ℕ) → now ≡ (if t then calls ++ call ∷ [] else calls)
    → bytes_of (after_call (after_calls d calls) call) ≡ bytes_of (after_calls d calls) → file ≡ bytes_of (after_calls d calls)
    → file ≡ bytes_of (after_calls d now)
kept_bytes true d calls now call file is same file_is = rw (is, after_calls-push d calls call, same) file_is
kept_bytes false d calls now call file is same file_is = rw is file_is

-- a write more
pub wrote_bytes : (t : Bool) (d : Disk) (calls now : List KeeperCall) (call : KeeperCall) (at : ℕ) (bs file : List ℕ) → t ≡ true
    → now ≡ (if t then calls ++ call ∷ [] else calls)
    → after_call (after_calls d calls) call ≡ after_write (after_calls d calls) at bs → file ≡ bytes_of (after_calls d calls)
    → patched file at bs ≡ bytes_of (after_calls d now)
wrote_bytes true d calls now call at bs file done is written file_is =
    rw (is, after_calls-push d calls call, written, bytes_of-after_write (after_calls d calls) at bs) (ap (λ (f : List ℕ). patched f at bs) file_is)
wrote_bytes false d calls now call at bs file done is written file_is = absurd (false_not_true done)
  where
    false_not_true : false ≡ true → ⊥
    false_not_true wrong = cc
