-- No one-time key signs two messages where the indexes rise.
use Rattle.std.proofs.Common.{◌≡◌, ℕ, ◌+◌, ◌*◌, ◌/◌, ◌%◌, ◌≤◌, ◌⊎◌, List, [], ◌∷◌, refl, sym, ◌∙◌, ap, inl, inr, arith}
use Rattle.std.specs.List.{Contains}
use Rattle.std.proofs.Math.Nat.{mod-eq-sub-div-mul, div-mul-le_self}
use Rattle.std.proofs.lemmas.List.Elements.{Contains-push, Contains-push_cases, Contains-append_left, Contains-append_right, Contains-append_cases}
use Rattle.sp_lms.specs.declared.param.LmsParam.{LmsParam}
use Rattle.sp_lms.specs.Parameters.{leaf_count}
use Rattle.sp_hss.specs.KeyTree.{tree_key, signature, front_of}
use Rattle.sp_hss.specs.Uses.{Leaf, Use, Signing, leaf_of_index, upper_use, lower_use, uses, Rising}
use Rattle.sp_hss.specs.Laws.{TwoLeavesMakeASignature, TwoIndexesHaveTwoLeaves, AnUpperLeafSignsOneMessage, NoLeafSignsTwoMessages}
use Rattle.sp_hss.specs.declared.tree.Tree.TheVariants.{Upper, Lower}

pub two_leaves : TwoLeavesMakeASignature
unfolding signature front_of
two_leaves h seed signing = refl

-- an index is told by its lower tree and its leaf there
told_by_place : (n i j : ℕ) → i / n ≡ j / n → i % n ≡ j % n → i ≡ j
told_by_place n i j tree leaf =
    let same : i / n * n ≡ j / n * n = ap (λ (t : ℕ). t * n) tree in
    omega (arith, same, leaf, mod-eq-sub-div-mul i n, mod-eq-sub-div-mul j n, div-mul-le_self i n, div-mul-le_self j n)

same_index : (h : LmsParam) (i j : ℕ) → leaf_of_index h i ≡ leaf_of_index h j → i ≡ j
same_index h i j same =
    let tree : Lower (i / leaf_count h) ≡ Lower (j / leaf_count h) = ap (λ (l : Leaf). l.tree) same in
    let number : i / leaf_count h ≡ j / leaf_count h = cc in
    told_by_place (leaf_count h) i j number (ap (λ (l : Leaf). l.number) same)

pub two_indexes : TwoIndexesHaveTwoLeaves
two_indexes h i j differ same = differ (same_index h i j same)

-- an element is the first, or one of the others
first_or_other : {X : Type 0} (x : X) (xs : List X) (y : X) → Contains (x ∷ xs) y → (x ≡ y) ⊎ Contains xs y
first_or_other x xs y one = elim (Contains-append_cases (x ∷ []) xs y one) [
  | inl alone ↦ elim (Contains-push_cases [] x y alone) [ inl none ↦ absurd (omega (arith, none.1)) | inr is ↦ inl is ]
  | inr other ↦ inr other
]

-- each use is that of an upper leaf, or of one of the signatures' own leaves
each_use : (h : LmsParam) (seed : List ℕ) (ss : List Signing) (u : Use) → Contains (uses h seed ss) u
    → ((t : ℕ) × (upper_use h seed t ≡ u)) ⊎ ((s : Signing) × Contains ss s × (lower_use h s ≡ u))
each_use h seed [] u one = absurd (omega (arith, one.1))
each_use h seed (s ∷ ss) u one =
    elim (first_or_other (upper_use h seed (s.index / leaf_count h)) (lower_use h s ∷ uses h seed ss) u one) [
      | inl is ↦ inl (s.index / leaf_count h, is)
      | inr rest ↦ elim (first_or_other (lower_use h s) (uses h seed ss) u rest) [
        | inl is ↦ inr (s, Contains-append_left (s ∷ []) ss s (Contains-push [] s), is)
        | inr later ↦ elim (each_use h seed ss u later) [
          | inl upper ↦ inl upper
          | inr lower ↦ inr (lower.0, Contains-append_right (s ∷ []) ss lower.0 lower.1, lower.2)
        ]
      ]
    ]

-- the upper tree is no lower one
apart : (t : ℕ) → Lower t ≡ Upper → ⊥
apart t e = cc

pub upper_leaf : AnUpperLeafSignsOneMessage
upper_leaf h seed ss u one upper = elim (each_use h seed ss u one) [
  | inl own ↦ sym (ap (λ (v : Use). v.message) own.1) ∙ ap (λ (v : Use). tree_key h seed (Lower v.leaf.number)) own.1
  | inr lower ↦ absurd (apart (lower.0.index / leaf_count h) (ap (λ (v : Use). v.leaf.tree) lower.2 ∙ upper))
]

-- no index below the first stands in a list that rises
not_below : (first : ℕ) (ss : List Signing) (s : Signing) → Rising first ss → Contains ss s → first ≤ s.index
not_below first [] s rises one = absurd (omega (arith, one.1))
not_below first (x ∷ xs) s rises one = elim (first_or_other x xs s one) [
  | inl is ↦ omega (arith, rises.0, ap (λ (y : Signing). y.index) is)
  | inr other ↦ omega (arith, rises.0, not_below (x.index + 1) xs s rises.1 other)
]

-- an index stands once in a list that rises
once : (first : ℕ) (ss : List Signing) (a b : Signing) → Rising first ss → Contains ss a → Contains ss b → a.index ≡ b.index → a ≡ b
once first [] a b rises one other same = absurd (omega (arith, one.1))
once first (x ∷ xs) a b rises one other same = elim (first_or_other x xs a one) [
  | inl a_is ↦ elim (first_or_other x xs b other) [
    | inl b_is ↦ sym a_is ∙ b_is
    | inr later ↦ absurd (omega (arith, same, ap (λ (y : Signing). y.index) a_is, not_below (x.index + 1) xs b rises.1 later))
  ]
  | inr a_later ↦ elim (first_or_other x xs b other) [
    | inl b_is ↦ absurd (omega (arith, same, ap (λ (y : Signing). y.index) b_is, not_below (x.index + 1) xs a rises.1 a_later))
    | inr b_later ↦ once (x.index + 1) xs a b rises.1 a_later b_later same
  ]
]

pub one_message : NoLeafSignsTwoMessages
one_message h seed ss rises a b one other same = elim (each_use h seed ss a one) [
  | inl a_upper ↦ elim (each_use h seed ss b other) [
    | inl b_upper ↦
        let number : a_upper.0 ≡ b_upper.0 =
        ap (λ (v : Use). v.leaf.number) a_upper.1 ∙ ap (λ (l : Leaf). l.number) same ∙ sym (ap (λ (v : Use). v.leaf.number) b_upper.1) in
        sym (ap (λ (v : Use). v.message) a_upper.1) ∙ ap (λ (t : ℕ). tree_key h seed (Lower t)) number ∙ ap (λ (v : Use). v.message) b_upper.1
    | inr b_lower ↦
        let tree : Lower (b_lower.0.index / leaf_count h) ≡ Upper =
        ap (λ (v : Use). v.leaf.tree) b_lower.2 ∙ sym (ap (λ (l : Leaf). l.tree) same) ∙ sym (ap (λ (v : Use). v.leaf.tree) a_upper.1) in
        absurd (apart (b_lower.0.index / leaf_count h) tree)
  ]
  | inr a_lower ↦ elim (each_use h seed ss b other) [
    | inl b_upper ↦
        let tree : Lower (a_lower.0.index / leaf_count h) ≡ Upper =
        ap (λ (v : Use). v.leaf.tree) a_lower.2 ∙ ap (λ (l : Leaf). l.tree) same ∙ sym (ap (λ (v : Use). v.leaf.tree) b_upper.1) in
        absurd (apart (a_lower.0.index / leaf_count h) tree)
    | inr b_lower ↦
        let leaf : leaf_of_index h a_lower.0.index ≡ leaf_of_index h b_lower.0.index =
        ap (λ (v : Use). v.leaf) a_lower.2 ∙ same ∙ sym (ap (λ (v : Use). v.leaf) b_lower.2) in
        let signing : a_lower.0 ≡ b_lower.0 =
        once 0 ss a_lower.0 b_lower.0 rises a_lower.1 b_lower.1 (same_index h a_lower.0.index b_lower.0.index leaf) in
        sym (ap (λ (v : Use). v.message) a_lower.2) ∙ ap (λ (s : Signing). s.message) signing ∙ ap (λ (v : Use). v.message) b_lower.2
  ]
]
