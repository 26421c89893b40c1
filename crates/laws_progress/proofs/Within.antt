-- A path of a version: none of its nodes is removed in it.
use Rattle.std.proofs.Common.{◌≡◌, ◌≤◌, ℕ, zero, suc, ◌+◌, ◌==◌, ◌&&◌, ◌||◌, Bool, true, false, List, [], ◌∷◌, length, Some, None, refl, sym, ap, ap₂}
use Rattle.std.proofs.Common.{subst, ◌∙◌, inl, inr, arith}
use Rattle.std.specs.Prelude.{slice_get}
use Rattle.std.specs.List.{All, list_any, position_or_len}
use Rattle.std.proofs.lemmas.Bool.{cases_Bool, eq-eqb, eqb-true}
use Rattle.std.proofs.lemmas.List.Elements.{All-cons, All-head, All-nil, All-tail}
use Rattle.sp_base.specs.declared.id.NodeId.{NodeId}
use Rattle.sp_msg.specs.declared.kept.Kept.{Kept}
use Rattle.sp_rules.specs.Node.{NodeState}
use Rattle.sp_rules.specs.Parts.{Fixed, nodes_of}
use Rattle.sp_rules.specs.Rel.{is_one_of, is_over}
use Rattle.sp_rules.specs.Topologies.{is_end, is_joined, is_removed, is_shut, removed_of, under}
use Rattle.sp_topology.specs.Neighbours.{joins}
use Rattle.sp_topology.specs.declared.topology.Edge.{Edge}
use Rattle.sp_runs.specs.Settings.{Setting}
use Rattle.laws_node.specs.Withdrawals.{removed_now}
use Rattle.laws_runs.proofs.Tables.{same_node}
use Rattle.laws_runs.specs.Flows.{has_ended}
use Rattle.laws_runs.specs.Signs.{NodeIs}
use Rattle.laws_progress.specs.Within.{IsOpenHop, IsPathUnder}
use Rattle.laws_progress.proofs.Places.{hop_at}
use Rattle.laws_progress.proofs.RunStates.{are_hops, ends_are}
use Rattle.sp_rules.specs.declared.kflow.FlowKind.{FlowKind}
use Rattle.laws_progress.proofs.EitherKind.{obeyed}

-- ---- the nodes of a path

abbrev pub is_in : List NodeId → NodeId → Bool
is_in path v = list_any (λ n. n.0 == v.0) path

pub in_path : (path : List NodeId) (i : ℕ) (v : NodeId) → slice_get path i ≡ Some v → is_in path v ≡ true
in_path [] i v at = absurd (let f : None ≡ Some v = at in cc)
in_path (n ∷ path) zero v at = let same : n ≡ v = cc in let t : (n.0 == v.0) ≡ true = eq-eqb _ _ (ap (λ (z : NodeId). z.0) same) in rw t refl
in_path (n ∷ path) (suc i) v at = let rest = in_path path i v at in elim (cases_Bool (n.0 == v.0)) [ inl t ↦ rw t refl | inr t ↦ rw t rest ]

pub of_path : (P : NodeId → Type 0) (path : List NodeId) → All P path → (v : NodeId) → is_in path v ≡ true → P v
of_path P [] all v on = absurd (let f : false ≡ true = on in cc)
of_path P (n ∷ path) all v on = elim (cases_Bool (n.0 == v.0)) [
  | inl t ↦ subst P (same_node n v (eqb-true _ _ t)) (All-head P n path all)
  | inr t ↦ of_path P path (All-tail P n path all) v (rw t at on)
]

-- each is an end of a hop
all_ends : (P : NodeId → Type 0) (a b : NodeId) (path : List NodeId)
    → ((i : ℕ) (u v : NodeId) → slice_get (a ∷ b ∷ path) i ≡ Some u → slice_get (a ∷ b ∷ path) (suc i) ≡ Some v → P u × P v) → All P (a ∷ b ∷ path)
all_ends P a b [] hops = let h = hops 0 a b refl refl in All-cons P a (b ∷ []) h.0 (All-cons P b [] h.1 (All-nil P))
all_ends P a b (c ∷ path) hops =
    All-cons P a (b ∷ c ∷ path) (hops 0 a b refl refl).0 (all_ends P b c path (λ i u v at next. hops (suc i) u v at next))

of_hops : (P : NodeId → Type 0) (path : List NodeId) → 2 ≤ length path
    → ((i : ℕ) (u v : NodeId) → slice_get path i ≡ Some u → slice_get path (suc i) ≡ Some v → P u × P v) → All P path
of_hops P [] long hops = absurd (omega (arith, long))
of_hops P (a ∷ []) long hops = absurd (omega (arith, long))
of_hops P (a ∷ b ∷ path) long hops = all_ends P a b path hops

-- ---- both ends of an edge that isn't withdrawn

abbrev AreJoined : NodeId → NodeId → List Edge → Type 0
AreJoined u v edges = (list_any (is_joined u.0) edges ≡ true) × (list_any (is_joined v.0) edges ≡ true)

ends_of : (u v : ℕ) (e : Edge) → joins u v e ≡ true → (is_end u e ≡ true) × (is_end v e ≡ true)
ends_of u v e is = go (e.low.0 == u) (e.high.0 == v) (e.low.0 == v) (e.high.0 == u) is
  where
    go : (a b c d : Bool) → ((a && b) || (c && d)) ≡ true → ((a || d) ≡ true) × ((c || b) ≡ true)
    go true true c d e = (refl, or_true c)
      where
        or_true : (t : Bool) → (t || true) ≡ true
        or_true true = refl
        or_true false = refl
    go true false true true e = (refl, refl)
    go true false true false e = absurd (let f : false ≡ true = e in cc)
    go true false false d e = absurd (let f : false ≡ true = e in cc)
    go false b true true e = (refl, refl)
    go false b true false e = absurd (let f : false ≡ true = e in cc)
    go false b false d e = absurd (let f : false ≡ true = e in cc)

both_joined : (u v : NodeId) (edges : List Edge) (weights : List ℕ) → list_any (joins u.0 v.0) edges ≡ true
    → is_shut weights (position_or_len (joins u.0 v.0) edges) ≡ false → AreJoined u v (under edges weights)
both_joined u v [] weights some on = absurd (let f : false ≡ true = some in cc)
both_joined u v (e ∷ edges) [] some on = absurd (let f : true ≡ false = on in cc)
both_joined u v (e ∷ edges) (weight ∷ weights) some on = elim (cases_Bool (joins u.0 v.0 e)) [
  | inl t ↦
      let ends = ends_of u.0 v.0 e t in
      let a = ends.0 in
      let b = ends.1 in
      let here : (weight == 0) ≡ false = rw t at on in
      (rw (a, here) refl, rw (b, here) refl)
  | inr t ↦
      let next : 1 + position_or_len (joins u.0 v.0) edges ≡ suc (position_or_len (joins u.0 v.0) edges) = omega arith in
      let later : is_shut (weight ∷ weights) (1 + position_or_len (joins u.0 v.0) edges) ≡ false = rw t at on in
      let rest = both_joined u v edges weights (rw t at some) (sym (ap (is_shut (weight ∷ weights)) next) ∙ later) in
      (or_later _ _ rest.0, or_later _ _ rest.1)
]
  where
    or_later : (a b : Bool) → b ≡ true → (a || b) ≡ true
    or_later true b is = refl
    or_later false b is = is

-- so it isn't removed
joined_stays : (edges : List Edge) (v : NodeId) → list_any (is_joined v.0) edges ≡ true → is_removed edges v.0 ≡ false
joined_stays edges v on = rw on (either (list_any (is_end v.0) edges))
  where
    either : (t : Bool) → (t && false) ≡ false
    either true = refl
    either false = refl

none_of : (nodes : List NodeId) (edges : List Edge) (v : NodeId) → is_removed edges v.0 ≡ false → is_one_of (removed_of nodes edges) v ≡ false
none_of [] edges v off = refl
none_of (n ∷ nodes) edges v off = elim (cases_Bool (is_removed edges n.0)) [
  | inr t ↦ rw t (none_of nodes edges v off)
  | inl t ↦ elim (cases_Bool (n.0 == v.0)) [
    | inl z ↦ absurd (let f : true ≡ false = sym t ∙ ap (is_removed edges) (eqb-true _ _ z) ∙ off in cc)
    | inr z ↦ rw (t, z) (none_of nodes edges v off)
  ]
]

-- ---- a path of a version

module _ (x : Setting) (weights : List ℕ) (s d : NodeId) (path : List NodeId) (is : IsPathUnder x weights s d path) where
  pub hop_open : (i : ℕ) (u v : NodeId) → slice_get path i ≡ Some u → slice_get path (suc i) ≡ Some v → IsOpenHop x weights (u, v)
  hop_open i u v at next = hop_at (λ n m. IsOpenHop x weights (n, m)) path is.open_hops i u v at next

  abbrev Joined : NodeId → Type 0
  Joined v = list_any (is_joined v.0) (under x.topology.edges weights) ≡ true

  all_joined : All Joined path
  all_joined =
      let ends = ends_are x s d path is.walks in
      let some = ends.some in
      let long = ends.long in
      of_hops Joined path (omega (arith, some, long))
      (λ i u v at next. both_joined u v x.topology.edges weights (are_hops x s d path is.walks i u v at next).0.joined (hop_open i u v at next))

  -- no node of the path is removed at a node that runs under these weights
  pub none_removed : (P : Kept → Type 0) (u : NodeId) (n : NodeState) → NodeIs x P u n → n.live.weights ≡ weights → (v : NodeId) → is_in path v ≡ true
      → is_one_of (removed_now n) v ≡ false
  none_removed P u n its same v on =
      ap (λ (f : Fixed). is_one_of (removed_of (nodes_of f.topology) (under f.topology.edges n.live.weights)) v) its.fixed
      ∙ ap (λ ws. is_one_of (removed_of (nodes_of x.topology) (under x.topology.edges ws)) v) same
      ∙ none_of (nodes_of x.topology) (under x.topology.edges weights) v
      (joined_stays (under x.topology.edges weights) v (of_path Joined path all_joined v on))

  -- so no flow between them ends there
  pub never_ends : (kind : FlowKind) (P : Kept → Type 0) (u : NodeId) (n : NodeState) → NodeIs x P u n → n.live.weights ≡ weights → (a b : NodeId)
      → is_in path a ≡ true
      → is_in path b ≡ true → has_ended kind n a b ≡ false
  never_ends kind P u n its same a b a_on b_on =
      ap (λ gone. is_over gone (record { src = a; dst = b })) (obeyed kind n its.obeys)
      ∙ ap₂ (λ (t z : Bool). t || z) (none_removed P u n its same a a_on) (none_removed P u n its same b b_on)
