-- A write and its sync, and three of them one after another.
use Rattle.std.proofs.Common.{◌≡◌, ℕ, ◌+◌, List, [], ◌∷◌, Option, None, Some, Result, Ok, Err, refl, sym, ap, subst, ◌∙◌}
use Rattle.std.specs.Prelude.{OnOk}
use Rattle.std.proofs.lemmas.Option.{none-some}
use Rattle.sp_outside.specs.Disk.{Disk, IsImage, after_write, bytes_of, patched, still}
use Rattle.sp_outside.specs.Moments.{LeavesOfWrite, LeavesWithin, Synced, Wrote}
use Rattle.sp_outside.proofs.DiskLemmas.{bytes_of-still}
use Rattle.sp_keystate.specs.declared.numbers.Numbers.{Numbers}
use Rattle.sp_keystate.specs.Slots.{bytes_in}
use Rattle.sp_keystate.specs.Changes.{ChangeMoments, Changes, Closing, IsTorn, MayLeave, Numbering, Opening, PutMoments, Puts, closed, numbered}
use Rattle.sp_keystate.proofs.Since.{since_on, since_weaker}

-- what stands in equal options is equal
pub same_some : {X : Type 0} (a b : X) → Some a ≡ Some b → a ≡ b
same_some {X = X} a b is = ap (λ (o : Option X). elim o [ None ↦ a | Some x ↦ x ]) is

-- ---- one piece

synced_on : (d m n : Option Disk) (at : ℕ) (bs : List ℕ) (E : Type 0) (x y : Unit {0}) → Wrote {E = E} d m at bs (Ok x) → Synced {E = E} m n (Ok y)
    → Puts d n at bs
synced_on None None None at bs E x y w s = refl
synced_on None None (Some n) at bs E x y w s = absurd s
synced_on None (Some m) n at bs E x y w s = absurd w
synced_on (Some d) None n at bs E x y w s = absurd w
synced_on (Some d) (Some m) None at bs E x y w s = absurd s
synced_on (Some d) (Some m) (Some n) at bs E x y w s = ap (λ (k : Disk). Some k) (s ∙ ap (λ (l : List ℕ). still l) w.0)

puts_on : (d e : Option Disk) (at : ℕ) (bs : List ℕ) → Puts d e at bs → (file : List ℕ) → d ≡ Some (still file) → e ≡ Some (still (patched file at bs))
puts_on None e at bs puts file is = absurd (none-some (still file) is)
puts_on (Some d) e at bs puts file is =
    puts ∙ ap (λ (l : List ℕ). Some (still (patched l at bs))) (ap bytes_of (same_some d (still file) is) ∙ bytes_of-still file)

pub put_done : {E : Type 0} (r : Result (Unit {0}) E) (d m n : Option Disk) (at : ℕ) (bs : List ℕ) (x : Unit {0}) → Wrote {E = E} d m at bs (Ok x)
    → Synced m n r → OnOk r (Puts d n at bs)
put_done {E = E} (Ok y) d m n at bs x w s = synced_on d m n at bs E x y w s
put_done (Err e) d m n at bs x w s = tt

pub put_moments : (E : Type 0) (d m : Option Disk) (p q t : Option (List Disk)) (at : ℕ) (bs : List ℕ) (x : Unit {0}) → Wrote {E = E} d m at bs (Ok x)
    → LeavesOfWrite d at bs p q → LeavesWithin m q t → PutMoments d p t at bs
put_moments E None m p q t at bs x w during after file is = absurd (none-some (still file) is)
put_moments E (Some d) None p q t at bs x w during after file is = absurd w
put_moments E (Some d) (Some m) p q t at bs x w during after file is =
    let same : after_write d at bs ≡ after_write (still file) at bs = ap (λ (k : Disk). after_write k at bs) (same_some d (still file) is) in
    since_weaker p t (IsImage (after_write d at bs)) (IsTorn file at bs) (λ c h. subst (λ (k : Disk). IsImage k c) same h)
    (since_on p q t (IsImage (after_write d at bs)) during (since_weaker q t (IsImage m) (IsImage (after_write d at bs)) w.1 after))

-- ---- three pieces

pub first_moments : (d : Option Disk) (p q : Option (List Disk)) (at : ℕ) (next : Numbers) → PutMoments d p q at (0 ∷ []) → ChangeMoments d p q at next
first_moments d p q at next m file is = since_weaker p q (IsTorn file at (0 ∷ [])) (MayLeave file at next) (λ c torn. Closing torn) (m file is)

pub second_moments : (d e : Option Disk) (p q r : Option (List Disk)) (at : ℕ) (next : Numbers) → Puts d e at (0 ∷ []) → ChangeMoments d p q at next
    → PutMoments e q r (at + 1) (bytes_in next) → ChangeMoments d p r at next
second_moments d e p q r at next ok before m file is =
    since_on p q r (MayLeave file at next) (before file is)
    (since_weaker q r (IsTorn (closed file at) (at + 1) (bytes_in next)) (MayLeave file at next) (λ c torn. Numbering torn)
    (m (closed file at) (puts_on d e at (0 ∷ []) ok file is)))

pub third_moments : (d e h : Option Disk) (p r t : Option (List Disk)) (at : ℕ) (next : Numbers) → Puts d e at (0 ∷ []) → Puts e h (at + 1) (bytes_in next)
    → ChangeMoments d p r at next → PutMoments h r t at (0xa5 ∷ []) → ChangeMoments d p t at next
third_moments d e h p r t at next ok ok_2 before m file is =
    since_on p r t (MayLeave file at next) (before file is)
    (since_weaker r t (IsTorn (numbered file at next) at (0xa5 ∷ [])) (MayLeave file at next) (λ c torn. Opening torn)
    (m (numbered file at next) (puts_on e h (at + 1) (bytes_in next) ok_2 (closed file at) (puts_on d e at (0 ∷ []) ok file is))))

-- the three pieces make the change
pub pieces_change : (d e h i : Option Disk) (at : ℕ) (next : Numbers) → Puts d e at (0 ∷ []) → Puts e h (at + 1) (bytes_in next) → Puts h i at (0xa5 ∷ [])
    → Changes d i at next
pieces_change None e h i at next one two three = puts_none h i at (0xa5 ∷ []) (puts_none e h (at + 1) (bytes_in next) one two) three
  where
    puts_none : (a b : Option Disk) (n : ℕ) (bs : List ℕ) → a ≡ None → Puts a b n bs → b ≡ None
    puts_none None b n bs is puts = puts
    puts_none (Some a) b n bs is puts = absurd (none-some a (sym is))
pieces_change (Some d) e h i at next one two three =
    puts_on h i at (0xa5 ∷ []) three (numbered (bytes_of d) at next) (puts_on e h (at + 1) (bytes_in next) two (closed (bytes_of d) at) one)
