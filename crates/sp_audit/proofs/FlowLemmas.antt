-- Flows are counted from each node to each other one.
use Rattle.std.proofs.Common.{◌≡◌, ℕ, zero, suc, ◌+◌, Bool, true, false, cond, not, ◌&&◌, ◌||◌, List, [], ◌∷◌, ◌++◌, map, filter, count_by, flat_map, refl, ap}
use Rattle.std.proofs.Common.{◌∙◌, arith, append-nil}
use Rattle.std.specs.Prelude.{◌==◌, if◌then◌else◌}
use Rattle.std.specs.List.{range_with_len, list_any}
use Rattle.std.proofs.lemmas.List.Concat.{flat_map-append}
use Rattle.std.proofs.lemmas.List.Elements.{filter-append}
use Rattle.std.proofs.lemmas.List.Sums.{sum_by-append, sum_by-cons}
use Rattle.sp_base.specs.declared.id.Flow.{Flow}
use Rattle.sp_base.specs.declared.id.NodeId.{NodeId}
use Rattle.sp_rules.specs.Parts.{nodes_of}
use Rattle.sp_rules.specs.Rel.{flows_from}
use Rattle.sp_rules.specs.declared.kflow.FlowKind.TheVariants.{Plain}
use Rattle.sp_runs.specs.Rounds.{has_correct_ends, is_send}
use Rattle.sp_runs.specs.Scenarios.{node_key, numbered, topology_of}
use Rattle.sp_runs.specs.Settings.{Setting}
use Rattle.sp_schedule_events.specs.declared.event.Event.{Event}
use Rattle.sp_schedule_events.specs.declared.scenario.Scenario.{Scenario}
use Rattle.sp_topology.specs.declared.topology.NodeKey.{NodeKey}
use Rattle.sp_audit.specs.Counted.{may_wait}
use Rattle.sp_audit.proofs.ShareLemmas.{range_push}

pub nodes_numbered : (s : Scenario) → nodes_of (topology_of s) ≡ map numbered (range_with_len 1 s.graph.nodes)
nodes_numbered s = go 1 s.graph.nodes
  where
    go : (first n : ℕ) → map (λ (k : NodeKey). k.id) (map (node_key s.height s.seed) (range_with_len first n)) ≡ map numbered (range_with_len first n)
    go first zero = refl
    go first (suc n) = ap (λ (us : List NodeId). numbered first ∷ us) (go (first + 1) n)

map_append : {X Y : Type 0} (f : X → Y) (xs ys : List X) → map f (xs ++ ys) ≡ map f xs ++ map f ys
map_append f [] ys = refl
map_append f (x ∷ xs) ys = ap (λ (zs : List _). f x ∷ zs) (map_append f xs ys)

pub nodes_more : (n : ℕ) → map numbered (range_with_len 1 (n + 1)) ≡ map numbered (range_with_len 1 n) ++ numbered (n + 1) ∷ []
nodes_more n =
    ap (map numbered) (range_push 1 n) ∙ map_append numbered (range_with_len 1 n) ((1 + n) ∷ [])
    ∙ ap (λ (k : ℕ). map numbered (range_with_len 1 n) ++ numbered k ∷ []) (turned n)
  where
    turned : (n : ℕ) → 1 + n ≡ n + 1
    turned n = omega arith

count_append : {X : Type 0} (p : X → Bool) (xs ys : List X) → count_by p (xs ++ ys) ≡ count_by p xs + count_by p ys
count_append p xs ys = sum_by-append (λ y. cond (p y) 1 0) xs ys

abbrev to : NodeId → NodeId → Flow
to src dst = record { src = src; dst = dst }

pub from_more : (p : Flow → Bool) (src : NodeId) (us : List NodeId) (dst : NodeId)
    → count_by p (flows_from src (us ++ dst ∷ [])) ≡ count_by p (flows_from src us)
    + (if not (dst.0 == src.0) && p (record { src = src; dst = dst }) then 1 else 0)
from_more p src us dst =
    ap (λ (vs : List NodeId). count_by p (map (to src) vs)) (filter-append (λ (v : NodeId). not (v.0 == src.0)) us (dst ∷ []))
    ∙ ap (count_by p) (map_append (to src) (filter (λ (v : NodeId). not (v.0 == src.0)) us) (filter (λ (v : NodeId). not (v.0 == src.0)) (dst ∷ [])))
    ∙ count_append p (flows_from src us) (flows_from src (dst ∷ []))
    ∙ ap (λ (n : ℕ). count_by p (flows_from src us) + n) (one (not (dst.0 == src.0)))
  where
    one : (t : Bool) → count_by p (map (to src) (cond t (dst ∷ []) [])) ≡ (if t && p (record { src = src; dst = dst }) then 1 else 0)
    one true = bit (p (record { src = src; dst = dst }))
      where
        bit : (b : Bool) → 0 + cond b 1 0 ≡ (if b then 1 else 0)
        bit true = refl
        bit false = refl
    one false = refl

pub all_more : (p : Flow → Bool) (f : NodeId → List Flow) (us : List NodeId) (u : NodeId)
    → count_by p (flat_map f (us ++ u ∷ [])) ≡ count_by p (flat_map f us) + count_by p (f u)
all_more p f us u =
    ap (count_by p) (flat_map-append f us (u ∷ []) ∙ ap (λ (fs : List Flow). flat_map f us ++ fs) (append-nil (f u))) ∙ count_append p (flat_map f us) (f u)

pub in_two : (x : Setting) (es : List Event) (fs : List Flow)
    → count_by (may_wait x es) fs ≡ count_by (λ flow. has_correct_ends x flow && list_any (is_send Plain flow) es) fs
    + count_by (λ flow. not (has_correct_ends x flow)) fs
in_two x es [] = refl
in_two x es (f ∷ fs) =
    let all = sum_by-cons (λ y. cond (may_wait x es y) 1 0) f fs in
    let sent = sum_by-cons (λ y. cond (has_correct_ends x y && list_any (is_send Plain y) es) 1 0) f fs in
    let bad = sum_by-cons (λ y. cond (not (has_correct_ends x y)) 1 0) f fs in
    let here = one (has_correct_ends x f) (list_any (is_send Plain f) es) in
    let rest = in_two x es fs in
    omega (arith, all, sent, bad, here, rest)
  where
    one : (a b : Bool) → cond (not a || b) 1 0 ≡ cond (a && b) 1 0 + cond (not a) 1 0
    one true true = refl
    one true false = refl
    one false b = one_false b
      where
        one_false : (b : Bool) → 1 ≡ 0 + 1
        one_false b = refl
