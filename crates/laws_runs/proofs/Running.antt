-- Which nodes run, after one more does, goes on, or runs no more.
use Rattle.std.proofs.Common.{◌≡◌, ℕ, true, false, eqb, List, [], ◌∷◌, ◌++◌, Some, None, refl, sym, ap, subst, ◌∙◌, inl, inr}
use Rattle.std.specs.Prelude.{◌⊎◌, ◌||◌}
use Rattle.std.specs.List.{list_any}
use Rattle.std.proofs.lemmas.Bool.{cases_Bool, eq-eqb, eqb-true}
use Rattle.std.proofs.lemmas.List.Folds.{list_any-append}
use Rattle.sp_base.specs.declared.id.NodeId.{NodeId}
use Rattle.sp_rules.specs.Node.{NodeState}
use Rattle.sp_runs.specs.Worlds.{is_me, node_in, with_node, without_node}
use Rattle.laws_runs.specs.KeyFiles.{AreOnce}
use Rattle.laws_runs.proofs.Tables.{same_node}

-- ---- found, and there

-- a node that is found runs
pub found_there : (u : NodeId) (n : NodeState) (nodes : List NodeState) → node_in nodes u ≡ Some n → list_any (is_me u) nodes ≡ true
found_there u n [] at = absurd cc
found_there u n (m ∷ nodes) at = elim (cases_Bool (is_me u m)) [
  | inl t ↦ rw t refl
  | inr t ↦ rw t (found_there u n nodes (rw t at at))
]

-- a node that runs is found
pub there_found : (u : NodeId) (nodes : List NodeState) → list_any (is_me u) nodes ≡ true → (n : NodeState) × (node_in nodes u ≡ Some n)
there_found u [] there = absurd (let e : false ≡ true = there in cc)
there_found u (m ∷ nodes) there = elim (cases_Bool (is_me u m)) [
  | inl t ↦ (m, rw t refl)
  | inr t ↦ let rest = there_found u nodes (rw t at there) in (rest.0, rw (t, rest.1) refl)
]

-- ---- one more

-- a node that is found with one more was found before, or is that one
pub more_found : (u : NodeId) (n new : NodeState) (nodes : List NodeState) → node_in (nodes ++ new ∷ []) u ≡ Some n
    → (node_in nodes u ≡ Some n) ⊎ ((u ≡ new.fixed.me) × (n ≡ new))
more_found u n new [] at = elim (cases_Bool (is_me u new)) [
  | inl t ↦ let f : Some new ≡ Some n = rw t at at in let is : n ≡ new = cc in inr (sym (same_node new.fixed.me u (eqb-true _ _ t)), is)
  | inr t ↦ absurd (let f : None ≡ Some n = rw t at at in cc)
]
more_found u n new (m ∷ nodes) at = elim (cases_Bool (is_me u m)) [
  | inl t ↦ let f : Some m ≡ Some n = rw t at at in inl (rw t f)
  | inr t ↦ elim (more_found u n new nodes (rw t at at)) [
    | inl was ↦ inl (rw t was)
    | inr is ↦ inr is
  ]
]

pub more_once : (new : NodeState) (nodes : List NodeState) → AreOnce nodes → list_any (is_me new.fixed.me) nodes ≡ false → AreOnce (nodes ++ new ∷ [])
more_once new [] once none = (refl, tt)
more_once new (m ∷ nodes) once none = elim (cases_Bool (is_me new.fixed.me m)) [
  | inl t ↦ absurd (let f : true ≡ false = rw t at none in cc)
  | inr t ↦
      let apart : is_me m.fixed.me new ≡ false = turn (m.fixed.me.0) (new.fixed.me.0) t in
      (list_any-append (is_me m.fixed.me) nodes (new ∷ []) ∙ rw (once.0, apart) refl, more_once new nodes once.1 (rw t at none))
]
  where
    turn : (a b : ℕ) → eqb a b ≡ false → eqb b a ≡ false
    turn a b e = elim (cases_Bool (eqb b a)) [
      | inl t ↦ absurd (let f : eqb a b ≡ true = eq-eqb a b (sym (eqb-true b a t)) in let g : true ≡ false = sym f ∙ e in cc)
      | inr t ↦ t
    ]

-- ---- one goes on

-- the same nodes run after one of them changed
pub with_any : (u a : NodeId) (after : NodeState) (nodes : List NodeState) → after.fixed.me ≡ a
    → list_any (is_me u) (with_node nodes a after) ≡ list_any (is_me u) nodes
with_any u a after [] me = refl
with_any u a after (m ∷ nodes) me = elim (cases_Bool (is_me a m)) [
  | inl t ↦
      let same : after.fixed.me.0 ≡ m.fixed.me.0 = ap (λ (v : NodeId). v.0) me ∙ sym (eqb-true _ _ t) in
      rw t (ap (λ (k : ℕ). eqb k u.0 || list_any (is_me u) nodes) same)
  | inr t ↦ rw t (ap (λ r. eqb m.fixed.me.0 u.0 || r) (with_any u a after nodes me))
]

pub with_once : (a : NodeId) (after : NodeState) (nodes : List NodeState) → after.fixed.me ≡ a → AreOnce nodes → AreOnce (with_node nodes a after)
with_once a after [] me once = tt
with_once a after (m ∷ nodes) me once = elim (cases_Bool (is_me a m)) [
  | inl t ↦
      let same : after.fixed.me ≡ m.fixed.me = me ∙ sym (same_node m.fixed.me a (eqb-true _ _ t)) in
      rw t (ap (λ (v : NodeId). list_any (is_me v) nodes) same ∙ once.0, once.1)
  | inr t ↦ rw t (with_any m.fixed.me a after nodes me ∙ once.0, with_once a after nodes me once.1)
]

-- ---- one runs no more

pub without_found : (u v : NodeId) (n : NodeState) (nodes : List NodeState) → node_in (without_node nodes v) u ≡ Some n → AreOnce nodes
    → (node_in nodes u ≡ Some n) × (u.0 ≡ v.0 → ⊥)
without_found u v n [] at once = absurd cc
without_found u v n (m ∷ nodes) at once = elim (cases_Bool (is_me v m)) [
  | inl t ↦
      let rest : node_in nodes u ≡ Some n = rw t at at in
      let apart : u.0 ≡ v.0 → ⊥ = λ same.
      let there : list_any (is_me m.fixed.me) nodes ≡ true =
      subst (λ (w : NodeId). list_any (is_me w) nodes ≡ true) (same_node u m.fixed.me (same ∙ sym (eqb-true _ _ t))) (found_there u n nodes rest) in
      let wrong : true ≡ false = sym there ∙ once.0 in cc in
      elim (cases_Bool (is_me u m)) [
        | inl here ↦ absurd (apart (sym (eqb-true _ _ here) ∙ eqb-true _ _ t))
        | inr other ↦ (rw other rest, apart)
      ]
  | inr t ↦ elim (cases_Bool (is_me u m)) [
    | inl here ↦
        let f : Some m ≡ Some n = rw (t, here) at at in
        (rw here f, λ same. let wrong : true ≡ false = sym (eq-eqb m.fixed.me.0 v.0 (eqb-true _ _ here ∙ same)) ∙ t in cc)
    | inr other ↦
        let rest = without_found u v n nodes (rw (t, other) at at) once.1 in
        (rw other rest.0, rest.1)
  ]
]

-- a node that is left after another one stopped ran before
pub without_left : (u v : NodeId) (n : NodeState) (nodes : List NodeState) → node_in (without_node nodes v) u ≡ Some n → AreOnce nodes
    → node_in nodes u ≡ Some n
without_left u v n nodes at once = (without_found u v n nodes at once).0

without_any : (u v : NodeId) (nodes : List NodeState) → list_any (is_me u) nodes ≡ false → list_any (is_me u) (without_node nodes v) ≡ false
without_any u v [] none = none
without_any u v (m ∷ nodes) none = elim (cases_Bool (is_me u m)) [
  | inl t ↦ absurd (let f : true ≡ false = rw t at none in cc)
  | inr t ↦ elim (cases_Bool (is_me v m)) [
    | inl gone ↦ rw gone (rw t at none)
    | inr stays ↦ rw (stays, t) (without_any u v nodes (rw t at none))
  ]
]

pub without_once : (v : NodeId) (nodes : List NodeState) → AreOnce nodes → AreOnce (without_node nodes v)
without_once v [] once = tt
without_once v (m ∷ nodes) once = elim (cases_Bool (is_me v m)) [
  | inl gone ↦ rw gone once.1
  | inr stays ↦ rw stays (without_any m.fixed.me v nodes once.0, without_once v nodes once.1)
]
