-- The yes or no on bytes says yes exactly where a signature is valid.
use Rattle.std.proofs.Common.{◌≡◌, ℕ, ◌+◌, ◌==◌, ◌&&◌, ◌||◌, Bool, true, false, inl, inr, List, [], ◌∷◌, length, take, drop, refl, subst}
use Rattle.std.specs.Prelude.{◌⊎◌, slice_range}
use Rattle.std.specs.Cmp.Lexicographic.{bytes_decides}
use Rattle.std.specs.List.{list_any}
use Rattle.std.specs.Bool.{Decides}
use Rattle.std.proofs.lemmas.Bool.Decides.{Decides-and, Decides-eqb, Decides-ltb, Decides-or}
use Rattle.sp_ots.specs.declared.param.OtsParam.{OtsParam}
use Rattle.sp_ots.specs.declared.param.OtsParam.TheVariants.{W1, W2, W4, W8}
use Rattle.sp_ots.specs.Parameters as ots
use Rattle.sp_ots.specs.Strings.{u32str}
use Rattle.sp_lms.specs.declared.param.LmsParam.{LmsParam}
use Rattle.sp_lms.specs.declared.param.LmsParam.TheVariants.{H5, H10, H15}
use Rattle.sp_lms.specs.Numbers.{str_to_u32}
use Rattle.sp_lms.specs.Parameters.{leaf_count, signature_len, typecode}
use Rattle.sp_lms.specs.Validity as tree
use Rattle.sp_lms.specs.Validity.{HasTypes, IsValidUnder, candidate_root, id_of, leaf_of, one_time_of, root_of, typecode_of}
use Rattle.sp_hss.specs.Decision.{all_one_time, has_types, is_by, is_by_levels, is_by_tree, is_by_two, is_valid, is_valid_under, some_types}
use Rattle.sp_hss.specs.Laws.{ValidIsDecided}
use Rattle.sp_hss.specs.Validity.{IsSignedBelow, IsValidAtOneLevel, IsValidAtTwoLevels, number_of}
use Rattle.sp_hss.proofs.Cuts.{parts_stand, put_together}

-- ---- parameter sets

some_one_time : (test : OtsParam → Bool) (P : OtsParam → Type 0) → ((w : OtsParam) → Decides (test w) (P w))
    → Decides (list_any test all_one_time) ((w : OtsParam) × P w)
some_one_time test P each = (to, from)
  where
    any : (a b c d : Bool) → (a || (b || (c || (d || false)))) ≡ true → (a ≡ true) ⊎ ((b ≡ true) ⊎ ((c ≡ true) ⊎ (d ≡ true)))
    any true b c d e = inl refl
    any false true c d e = inr (inl refl)
    any false false true d e = inr (inr (inl refl))
    any false false false true e = inr (inr (inr refl))
    any false false false false e = absurd (cc)

    to : list_any test all_one_time ≡ true → (w : OtsParam) × P w
    to e = elim (any (test W1) (test W2) (test W4) (test W8) e) [
      | inl a ↦ (W1, (each W1).0 a)
      | inr r ↦ elim r [
        | inl b ↦ (W2, (each W2).0 b)
        | inr s ↦ elim s [ inl c ↦ (W4, (each W4).0 c) | inr d ↦ (W8, (each W8).0 d) ]
      ]
    ]

    or_true : (a b : Bool) → b ≡ true → (a || b) ≡ true
    or_true true b e = refl
    or_true false b e = e

    by : (w : OtsParam) → test w ≡ true → list_any test all_one_time ≡ true
    by W1 e = rw e refl
    by W2 e = or_true (test W1) _ (rw e refl)
    by W4 e = or_true (test W1) _ (or_true (test W2) _ (rw e refl))
    by W8 e = or_true (test W1) _ (or_true (test W2) _ (or_true (test W4) _ (rw e refl)))

    from : ((w : OtsParam) × P w) → list_any test all_one_time ≡ true
    from p = by p.0 ((each p.0).1 p.1)

some_tree : (test : LmsParam → Bool) (P : LmsParam → Type 0) → ((lms : LmsParam) → Decides (test lms) (P lms))
    → Decides (list_any test (H5 ∷ H10 ∷ H15 ∷ [])) ((lms : LmsParam) × P lms)
some_tree test P each = (to, from)
  where
    any : (a b c : Bool) → (a || (b || (c || false))) ≡ true → (a ≡ true) ⊎ ((b ≡ true) ⊎ (c ≡ true))
    any true b c e = inl refl
    any false true c e = inr (inl refl)
    any false false true e = inr (inr refl)
    any false false false e = absurd (cc)

    to : list_any test (H5 ∷ H10 ∷ H15 ∷ []) ≡ true → (lms : LmsParam) × P lms
    to e = elim (any (test H5) (test H10) (test H15) e) [
      | inl a ↦ (H5, (each H5).0 a)
      | inr r ↦ elim r [ inl b ↦ (H10, (each H10).0 b) | inr c ↦ (H15, (each H15).0 c) ]
    ]

    or_true : (a b : Bool) → b ≡ true → (a || b) ≡ true
    or_true true b e = refl
    or_true false b e = e

    by : (lms : LmsParam) → test lms ≡ true → list_any test (H5 ∷ H10 ∷ H15 ∷ []) ≡ true
    by H5 e = rw e refl
    by H10 e = or_true (test H5) _ (rw e refl)
    by H15 e = or_true (test H5) _ (or_true (test H10) _ (rw e refl))

    from : ((lms : LmsParam) × P lms) → list_any test (H5 ∷ H10 ∷ H15 ∷ []) ≡ true
    from p = by p.0 ((each p.0).1 p.1)

-- some of all parameter sets
record Some (P : LmsParam → OtsParam → Type 0) : Type 0 where
  lms : LmsParam
  one_time : OtsParam
  holds : P lms one_time

some_decides : (test : LmsParam → OtsParam → Bool) (P : LmsParam → OtsParam → Type 0) → ((lms : LmsParam) (w : OtsParam) → Decides (test lms w) (P lms w))
    → Decides (some_types test) (Some P)
some_decides test P each =
    let both = some_tree (λ lms. list_any (test lms) all_one_time) (λ lms. (w : OtsParam) × P lms w) (λ lms. some_one_time (test lms) (P lms) (each lms)) in
    (λ e. let p = both.0 e in record { lms = p.0; one_time = p.1.0; holds = p.1.1 }, λ s. both.1 (s.lms, (s.one_time, s.holds)))

-- ---- one tree

types_decide : (lms : LmsParam) (w : OtsParam) (public : List ℕ) → Decides (has_types lms w public) (HasTypes lms w public)
types_decide lms w public =
    let three = Decides-and (length public == 56) _ (Decides-eqb (length public) 56)
    (Decides-and (str_to_u32 (slice_range public 0 4) == typecode lms) (str_to_u32 (slice_range public 4 8) == ots.typecode w)
    (Decides-eqb (str_to_u32 (slice_range public 0 4)) (typecode lms)) (Decides-eqb (str_to_u32 (slice_range public 4 8)) (ots.typecode w))) in
    (λ e. let p = three.0 e in record { length_is = p.0; tree_is = p.1.0; one_time_is = p.1.1 }, λ t. three.1 (t.length_is, (t.tree_is, t.one_time_is)))

under_decides : (lms : LmsParam) (w : OtsParam) (id root message signature : List ℕ)
    → Decides (is_valid_under lms w id root message signature) (IsValidUnder lms w id root message signature)
under_decides lms w id root message signature =
    let root_is = bytes_decides root (candidate_root lms w id message signature) in
    let type_is = Decides-eqb (typecode_of w signature) (typecode lms) in
    let one_time_is = bytes_decides (take 4 (one_time_of w signature)) (u32str (ots.typecode w)) in
    let leaf_is = Decides-ltb (leaf_of signature) (leaf_count lms) in
    let length_is = Decides-eqb (length signature) (signature_len lms w) in
    let all = Decides-and _ _ length_is (Decides-and _ _ leaf_is (Decides-and _ _ one_time_is (Decides-and _ _ type_is root_is))) in (
      λ e. let p = all.0 e in record { length_is = p.0; leaf_is = p.1.0; one_time_is = p.1.1.0; tree_is = p.1.1.1.0; root_is = p.1.1.1.1 },
      λ v. all.1 (v.length_is, (v.leaf_is, (v.one_time_is, (v.tree_is, v.root_is)))),
    )

-- a signature by a tree of these parameter sets
record By (lms : LmsParam) (w : OtsParam) (public message signature : List ℕ) : Type 0 where
  types : HasTypes lms w public
  valid : IsValidUnder lms w (id_of public) (root_of public) message signature

by_decides : (lms : LmsParam) (w : OtsParam) (public message signature : List ℕ)
    → Decides (is_by lms w public message signature) (By lms w public message signature)
by_decides lms w public message signature =
    let both = Decides-and _ _ (types_decide lms w public) (under_decides lms w (id_of public) (root_of public) message signature) in
    (λ e. let p = both.0 e in record { types = p.0; valid = p.1 }, λ b. both.1 (b.types, b.valid))

tree_decides : (public message signature : List ℕ) → Decides (is_by_tree public message signature) (tree.IsValid public message signature)
tree_decides public message signature =
    let some = some_decides (λ lms w. is_by lms w public message signature) (λ lms w. By lms w public message signature)
    (λ lms w. by_decides lms w public message signature) in (
      λ e. let s = some.0 e in (s.lms, s.one_time, s.holds.types, s.holds.valid),
      λ v. some.1 (record { lms = v.0; one_time = v.1; holds = record { types = v.2; valid = v.3 } }),
    )

-- ---- two trees

record ByTwo (lms : LmsParam) (w : OtsParam) (upper_key message signature : List ℕ) : Type 0 where
  upper : By lms w upper_key (take 56 (drop (signature_len lms w) signature)) (take (signature_len lms w) signature)
  lower : tree.IsValid (take 56 (drop (signature_len lms w) signature)) message (drop (signature_len lms w + 56) signature)

two_decides : (lms : LmsParam) (w : OtsParam) (upper_key message signature : List ℕ)
    → Decides (is_by_two lms w upper_key message signature) (ByTwo lms w upper_key message signature)
two_decides lms w upper_key message signature =
    let place = signature_len lms w in
    let lower_key = take 56 (drop place signature) in
    let both = Decides-and _ _ (by_decides lms w upper_key lower_key (take place signature)) (tree_decides lower_key message (drop (place + 56) signature)) in
    (λ e. let p = both.0 e in record { upper = p.0; lower = p.1 }, λ b. both.1 (b.upper, b.lower))

levels_decide : (upper_key message signature : List ℕ) → Decides (is_by_levels upper_key message signature) (IsSignedBelow upper_key message signature)
levels_decide upper_key message signature =
    let some = some_decides (λ lms w. is_by_two lms w upper_key message signature) (λ lms w. ByTwo lms w upper_key message signature)
    (λ lms w. two_decides lms w upper_key message signature) in
    (λ e. cut (some.0 e), λ s. some.1 (joined s))
  where
    cut : Some (λ lms w. ByTwo lms w upper_key message signature) → IsSignedBelow upper_key message signature
    cut s =
        let place = signature_len s.lms s.one_time in
        let lower_key = take 56 (drop place signature) in (
          take place signature,
          lower_key,
          drop (place + 56) signature,
          record {
            parts = put_together signature place;
            upper_valid = (s.lms, s.one_time, s.holds.upper.types, s.holds.upper.valid);
            lower_valid = s.holds.lower;
          },
        )

    joined : IsSignedBelow upper_key message signature → Some (λ lms w. ByTwo lms w upper_key message signature)
    joined s =
        let own = s.3.upper_valid in
        let stand = parts_stand own.0 own.1 s.0 s.1 s.2 upper_key message signature own.2 s.3 in
        record {
          lms = own.0;
          one_time = own.1;
          holds = record {
            upper = record {
              types = own.2;
              valid = subst (λ (key : List ℕ). IsValidUnder own.0 own.1 (id_of upper_key) (root_of upper_key) key (take (signature_len own.0 own.1) signature))
                  stand.lower_key_is
                  (subst (λ (u : List ℕ). IsValidUnder own.0 own.1 (id_of upper_key) (root_of upper_key) s.1 u) stand.upper_is own.3);
            };
            lower = subst (λ (key : List ℕ). tree.IsValid key message (drop (signature_len own.0 own.1 + 56) signature)) stand.lower_key_is
                (subst (λ (l : List ℕ). tree.IsValid s.1 message l) stand.lower_is s.3.lower_valid);
          };
        }

-- ---- one or two levels

one_decides : (public message signature : List ℕ)
    → Decides ((number_of public == 1) && ((number_of signature == 0) && is_by_tree (drop 4 public) message (drop 4 signature)))
    (IsValidAtOneLevel public message signature)
one_decides public message signature =
    let all = Decides-and _ _ (Decides-eqb (number_of public) 1)
    (Decides-and _ _ (Decides-eqb (number_of signature) 0) (tree_decides (drop 4 public) message (drop 4 signature))) in
    (λ e. let p = all.0 e in record { levels = p.0; levels_below = p.1.0; signed = p.1.1 }, λ v. all.1 (v.levels, (v.levels_below, v.signed)))

second_decides : (public message signature : List ℕ)
    → Decides ((number_of public == 2) && ((number_of signature == 1) && is_by_levels (drop 4 public) message (drop 4 signature)))
    (IsValidAtTwoLevels public message signature)
second_decides public message signature =
    let all = Decides-and _ _ (Decides-eqb (number_of public) 2)
    (Decides-and _ _ (Decides-eqb (number_of signature) 1) (levels_decide (drop 4 public) message (drop 4 signature))) in
    (λ e. let p = all.0 e in record { levels = p.0; levels_below = p.1.0; signed = p.1.1 }, λ v. all.1 (v.levels, (v.levels_below, v.signed)))

pub decided : ValidIsDecided
unfolding is_valid
decided public message signature = Decides-or _ _ (one_decides public message signature) (second_decides public message signature)
