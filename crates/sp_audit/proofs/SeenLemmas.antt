-- Numbers that come one after another into a set.
use Rattle.std.proofs.Common.{◌≡◌, ◌<◌, ℕ, zero, suc, Bool, true, false, not, cond, List, [], ◌∷◌, ◌++◌, length, get_or, refl, sym, ap, subst, ◌∙◌}
use Rattle.std.proofs.Common.{inl, inr, arith, append-nil, append_assoc, length-append}
use Rattle.std.specs.Prelude.{◌==◌, ◌||◌}
use Rattle.std.specs.BTreeMap.{is_at}
use Rattle.std.specs.Cmp.{nat_cmp_is}
use Rattle.std.specs.declared.cmp.Ordering.TheVariants.{Equal, Greater, Less}
use Rattle.std.proofs.Math.Seq.{get_or-append_seam}
use Rattle.std.proofs.lemmas.List.{get_or_append_left}
use Rattle.sp_audit.proofs.Walks.{or_second}
use Rattle.std.specs.BTreeSet.{BTreeSet, Updates, contains}
use Rattle.std.specs.Ordering.{nat_cmp}
use Rattle.std.proofs.lemmas.Bool.{cases_Bool, cases_lt, eq-eqb, eqb-true, ne_eqb, not-false, not-true}
use Rattle.std.proofs.lemmas.List.Folds.{list_any-append}
use Rattle.laws_runs.specs.Priority.{AreOnce}
use Rattle.sp_rules.specs.Window.{is_in}
use Rattle.sp_audit.specs.Seen.{AreSeen, TakesIn}

-- nothing came
pub takes_none : (s : BTreeSet ℕ) → TakesIn s [] s true
takes_none s before seen once = (subst (AreSeen s) (sym (append-nil before)) seen, subst AreOnce (sym (append-nil before)) once)

-- some, and more after them
pub takes_more : (old middle new : BTreeSet ℕ) (xs ys : List ℕ) (fine : Bool) → TakesIn old xs middle true → TakesIn middle ys new fine
    → TakesIn old (xs ++ ys) new fine
takes_more old middle new xs ys true first more before seen once =
    let a = first before seen once in
    let b = more (before ++ xs) a.0 a.1 in
    (subst (AreSeen new) (append_assoc before xs ys) b.0, subst AreOnce (append_assoc before xs ys) b.1)
takes_more old middle new xs ys false first more before seen once =
    let a = first before seen once in
    λ all. more (before ++ xs) a.0 a.1 (subst AreOnce (sym (append_assoc before xs ys)) all)

-- what stands once stands once in a front
once_front : (xs ys : List ℕ) → AreOnce (xs ++ ys) → AreOnce xs
once_front xs ys once = λ i j d less inside same.
    once i j d less (omega (arith, length-append xs ys))
    (get_or_append_left xs ys d i (omega arith) ∙ same ∙ sym (get_or_append_left xs ys d j inside))

-- one that was there before, whatever follows
pub takes_no_more : (old middle new : BTreeSet ℕ) (xs ys rest : List ℕ) → TakesIn old xs middle true → TakesIn middle ys new false
    → TakesIn old (xs ++ (ys ++ rest)) new false
takes_no_more old middle new xs ys rest first more before seen once =
    let a = first before seen once in
    let parts : before ++ (xs ++ (ys ++ rest)) ≡ ((before ++ xs) ++ ys) ++ rest =
    sym (append_assoc before xs (ys ++ rest)) ∙ sym (append_assoc (before ++ xs) ys rest) in
    λ all. more (before ++ xs) a.0 a.1 (once_front ((before ++ xs) ++ ys) rest (subst AreOnce parts all))

-- ---- one number

-- a number at a place is among them, and one among them stands at a place
among : (n : ℕ) (ns : List ℕ) (i d : ℕ) → i < length ns → get_or ns i d ≡ n → is_in n ns ≡ true
among n [] i d inside is = absurd (omega (arith, inside))
among n (m ∷ ns) zero d inside is = let same : (m == n) ≡ true = eq-eqb m n is in rw same refl
among n (m ∷ ns) (suc i) d inside is = or_second (m == n) (is_in n ns) (among n ns i d (omega (arith, inside)) is)

stands : (n : ℕ) (ns : List ℕ) → is_in n ns ≡ true → (k : ℕ) × (k < length ns) × (get_or ns k n ≡ n)
stands n [] there = absurd (let wrong : false ≡ true = there in cc)
stands n (m ∷ ns) there = elim (cases_Bool (m == n)) [
  | inl t ↦ (0, omega arith, eqb-true m n t)
  | inr t ↦ let rest = stands n ns (rw t at there) in (suc rest.0, omega (arith, rest.1), rest.2)
]

-- a new number stands once beside others that do
once_push : (ns : List ℕ) (n : ℕ) → AreOnce ns → is_in n ns ≡ false → AreOnce (ns ++ n ∷ [])
once_push ns n once new = λ i j d less inside same.
    let under : i < length ns = omega (arith, length-append ns (n ∷ [])) in
    elim (cases_lt j (length ns)) [
      | inl below ↦ once i j d less below (sym (get_or_append_left ns (n ∷ []) d i under) ∙ same ∙ get_or_append_left ns (n ∷ []) d j below)
      | inr last ↦
          let at : j ≡ length ns = omega (arith, length-append ns (n ∷ [])) in
          let is : get_or (ns ++ n ∷ []) j d ≡ n = ap (λ (k : ℕ). get_or (ns ++ n ∷ []) k d) at ∙ get_or-append_seam ns n [] d in
          let wrong : true ≡ false = sym (among n ns i d under (sym (get_or_append_left ns (n ∷ []) d i under) ∙ same ∙ is)) ∙ new in
          let no : ⊥ = cc in no
    ]

-- and one that is among them doesn't
not_once : (ns : List ℕ) (n : ℕ) → is_in n ns ≡ true → AreOnce (ns ++ n ∷ []) → ⊥
not_once ns n there once =
    let k = stands n ns there in
    once k.0 (length ns) n k.1 (omega (arith, length-append ns (n ∷ [])))
    (get_or_append_left ns (n ∷ []) n k.0 k.1 ∙ k.2 ∙ sym (get_or-append_seam ns n [] n))

-- a look-up of a number finds just it
at_is : (n q : ℕ) → is_at (nat_cmp n) q ≡ (n == q)
at_is n q = elim (cases_lt n q) [
  | inl less ↦ rw (← nat_cmp_is n q Less less, ne_eqb n q (λ same. omega arith)) refl
  | inr more ↦ elim (cases_lt q n) [
    | inl above ↦ rw (← nat_cmp_is n q Greater above, ne_eqb n q (λ same. omega arith)) refl
    | inr under ↦ let same : n ≡ q = omega arith in rw (← nat_cmp_is n q Equal same, eq-eqb n q same) refl
  ]
]

or_false : (a b : Bool) → (a || (b || false)) ≡ cond b true a
or_false true true = refl
or_false true false = refl
or_false false true = refl
or_false false false = refl

-- a number that comes into the set
pub takes_one : (old new : BTreeSet ℕ) (n : ℕ) (added : Bool) → added ≡ not (contains nat_cmp old n) → Updates nat_cmp old new n true
    → TakesIn old (n ∷ []) new added
takes_one old new n true is updates before seen once =
    let absent : is_in n before ≡ false = sym (seen n) ∙ not-true _ (sym is) in (
      λ q. updates.0 q
          ∙ ap (λ (b : Bool). cond b true (contains nat_cmp old q)) (at_is n q)
          ∙ ap (λ (a : Bool). cond (n == q) true a) (seen q)
          ∙ sym (list_any-append (λ m. m == q) before (n ∷ []) ∙ or_false (is_in q before) (n == q)),
      once_push before n once absent,
    )
takes_one old new n false is updates before seen once = λ all.
    let present : is_in n before ≡ true = sym (seen n) ∙ not-false _ (sym is) in
    not_once before n present all
