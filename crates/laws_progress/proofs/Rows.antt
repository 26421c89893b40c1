-- The rows of its neighbours stand at each node: whom an edge joins to it has a row there, as at its start.
use Rattle.std.proofs.Common.{◌≡◌, ℕ, ◌+◌, ◌==◌, ◌&&◌, ◌||◌, Bool, true, false, eqb, List, [], ◌∷◌, ◌++◌, map, find, Option, Some, None, refl, sym, ap, ◌∙◌}
use Rattle.std.proofs.Common.{inl, inr}
use Rattle.std.specs.List.{list_any, zip}
use Rattle.std.proofs.lemmas.Bool.{cases_Bool, eqb-true, eq-eqb}
use Rattle.sp_base.specs.declared.id.EdgeId.{EdgeId}
use Rattle.sp_base.specs.declared.id.Flow.{Flow}
use Rattle.sp_base.specs.declared.id.NodeId.{NodeId}
use Rattle.sp_topology.specs.Neighbours.{joins, neighbour, neighbours_from, other_end}
use Rattle.sp_topology.specs.declared.topology.Edge.{Edge}
use Rattle.sp_rules.specs.Versions.{is_heard_of}
use Rattle.sp_rules.specs.Arts.{Arts}
use Rattle.sp_rules.specs.Node.{NodeState, booted, is_link, link_of}
use Rattle.sp_rules.specs.Parts.{Fixed, neighbours_of, nodes_of}
use Rattle.sp_rules.specs.Rel.{is_peer, new_peer, pairs_of}
use Rattle.laws_node.specs.Shapes.{LinkShape, RelPeerShape, Shape, link_shape, rel_peer_shape, shape_at_start, shape_of}
use Rattle.laws_node.proofs.Shapes.{shapes_begin}
use Rattle.sp_runs.specs.Runs.{Clean, is_hop}
use Rattle.sp_runs.specs.Settings.{Setting, SettingFits, correct_nodes, fixed_at, fixed_of, link_keys, node_at_boot, signer_from}
use Rattle.sp_runs.specs.Worlds.{World, at_start, is_me, node_in}
use Rattle.sp_journal.specs.declared.entry.Entry.{Entry}
use Rattle.sp_schedule_events.specs.declared.event.Event.{Event}
use Rattle.laws_runs.specs.Premises.{Carries}
use Rattle.laws_runs.proofs.Goods.{plain_start}
use Rattle.laws_runs.proofs.Signed.{signs}
use Rattle.laws_runs.proofs.Tables.{same_node}
use Rattle.sp_rules.specs.Parts.{flows_of, as_neighbour}
use Rattle.sp_rules.specs.declared.kflow.FlowKind.{FlowKind}
use Rattle.sp_rules.specs.declared.kflow.FlowKind.TheVariants.{Plain, Paths}
use Rattle.sp_rules.specs.declared.prio.Neighbour.{Neighbour}

-- the neighbours of a node
abbrev pub near : Setting → NodeId → List NodeId
near x u = map (λ n. n.0) (neighbours_of (fixed_of x u))

pub record RowsAre (x : Setting) (u : NodeId) (n : NodeState) : Type 0 where
  pub peers : (kind : FlowKind) → map (λ p. p.peer) (flows_of kind n.parts).peers ≡ near x u
  -- with the edge to it
  pub edges : n.parts.kflow.edges ≡ map as_neighbour (neighbours_of (fixed_of x u))
  pub links : map (λ l. l.peer) n.links ≡ near x u
  pub heard : map (λ h. h.peer) n.heard ≡ near x u

-- ---- at the start

new_peers : (flows : List Flow) (vs : List NodeId) → map (λ p. p.peer) (map (new_peer flows) vs) ≡ vs
new_peers flows [] = refl
new_peers flows (v ∷ vs) = ap (λ (us : List NodeId). v ∷ us) (new_peers flows vs)

new_links : (f : Fixed) (key : NodeId × EdgeId → List ℕ) (ns : List (NodeId × EdgeId))
    → map (λ l. l.peer) (map (link_of f) (zip ns (map key ns))) ≡ map (λ n. n.0) ns
new_links f key [] = refl
new_links f key (n ∷ ns) = ap (λ (us : List NodeId). n.0 ∷ us) (new_links f key ns)

boot_among : (x : Setting) (u : NodeId) (ns : List NodeId) (n : NodeState) → find (is_me u) (map (node_at_boot x) ns) ≡ Some n → n ≡ node_at_boot x u
boot_among x u [] n e = absurd cc
boot_among x u (v ∷ ns) n e = elim (cases_Bool (eqb v.0 u.0)) [
  | inl t ↦ let here : Some (node_at_boot x v) ≡ Some n = rw t at e in let is : node_at_boot x v ≡ n = cc in
      sym is ∙ ap (node_at_boot x) (same_node v u (eqb-true _ _ t))
  | inr t ↦ boot_among x u ns n (rw t at e)
]

pub at_boot : (x : Setting) (u : NodeId) (n : NodeState) → node_in (at_start x).nodes u ≡ Some n → n ≡ node_at_boot x u
at_boot x u n at = boot_among x u (correct_nodes x) n (plain_start x u n at).1

ids_back : (ns : List (NodeId × EdgeId)) → map (λ (m : Neighbour). m.id) (map as_neighbour ns) ≡ map (λ n. n.0) ns
ids_back [] = refl
ids_back (n ∷ ns) = ap (λ (us : List NodeId). n.0 ∷ us) (ids_back ns)

-- ---- over a run

-- a node has for whom and what it has rows at its start
pub shape_is : (arts : Arts) (x : Setting) (es : List Event) (js : List Entry) (w : World) → SettingFits arts x → Carries x.topology.format arts
    → Clean arts x es js w
    → (u : NodeId) (n : NodeState) → node_in w.nodes u ≡ Some n
    → shape_of n ≡ shape_at_start (fixed_at x u n.fixed.boot) (signer_from x u 0 n.signer.bound) (link_keys x u) x.buffer x.store
shape_is arts x es js w fits reads run u n at = ((signs arts x es js w fits reads run).nodes u n at).shape

-- what is read off the shapes is read off the things
through : {X S Y : Type 0} (shape : X → S) (read : S → Y) (xs : List X) → map read (map shape xs) ≡ map (λ x. read (shape x)) xs
through shape read [] = refl
through shape read (x ∷ xs) = ap (λ ys. read (shape x) ∷ ys) (through shape read xs)

same_shapes : {X S Y : Type 0} (shape : X → S) (read : S → Y) (xs ys : List X) → map shape xs ≡ map shape ys
    → map (λ x. read (shape x)) xs ≡ map (λ x. read (shape x)) ys
same_shapes shape read xs ys same = sym (through shape read xs) ∙ ap (map read) same ∙ through shape read ys

pub rows_are : (arts : Arts) (x : Setting) (es : List Event) (js : List Entry) (w : World) → SettingFits arts x → Carries x.topology.format arts
    → Clean arts x es js w
    → (u : NodeId) (n : NodeState) → node_in w.nodes u ≡ Some n → RowsAre x u n
rows_are arts x es js w fits reads run u n at =
    let shape = shape_is arts x es js w fits reads run u n at in
    let f = fixed_at x u n.fixed.boot in
    let boot = booted f (signer_from x u 0 n.signer.bound) (link_keys x u) x.buffer x.store in
    let same : shape_of n ≡ shape_of boot = shape ∙ sym (shapes_begin f (signer_from x u 0 n.signer.bound) (link_keys x u) x.buffer x.store) in
    record {
      peers = of_kind same;
      edges = ap (λ (s : Shape). s.kflow.edges) shape;
      links = same_shapes link_shape (λ (s : LinkShape). s.peer) n.links boot.links (ap (λ (s : Shape). s.links) same)
          ∙ new_links f (λ m. x.link_key m.1.0) (neighbours_of f);
      heard = ap (λ (s : Shape). s.heard) shape;
    }
  where
    boot : NodeState
    boot = booted (fixed_at x u n.fixed.boot) (signer_from x u 0 n.signer.bound) (link_keys x u) x.buffer x.store

    of_kind : (same : shape_of n ≡ shape_of boot) (kind : FlowKind) → map (λ p. p.peer) (flows_of kind n.parts).peers ≡ near x u
    of_kind same Plain =
        same_shapes rel_peer_shape (λ (s : RelPeerShape). s.peer) n.parts.rel.peers boot.parts.rel.peers (ap (λ (s : Shape). s.rel.peers) same)
        ∙ new_peers (pairs_of (nodes_of x.topology)) (near x u)
    of_kind same Paths =
        same_shapes rel_peer_shape (λ (s : RelPeerShape). s.peer) n.parts.kflow.flows.peers boot.parts.kflow.flows.peers
        (ap (λ (s : Shape). s.kflow.flows.peers) same)
        ∙ new_peers (pairs_of (nodes_of x.topology)) (map (λ (m : Neighbour). m.id) (map as_neighbour (neighbours_of (fixed_of x u))))
        ∙ ids_back (neighbours_of (fixed_of x u))

-- ---- whom an edge joins

abbrev is_id : NodeId → NodeId → Bool
is_id v n = n.0 == v.0

joined_end : (u v : NodeId) (e : Edge) → joins u.0 v.0 e ≡ true → (w : NodeId) × (other_end u.0 e ≡ Some w) × (w.0 ≡ v.0)
joined_end u v e joined = elim (cases_Bool (eqb e.low.0 u.0)) [
  | inl t ↦ (
    e.high,
    rw t refl,
    elim (cases_Bool (eqb e.high.0 v.0)) [
      | inl z ↦ eqb-true _ _ z
      | inr z ↦
          let second : ((e.low.0 == v.0) && (e.high.0 == u.0)) ≡ true = rw (t, z) at joined in
          let b = both_of (e.low.0 == v.0) (e.high.0 == u.0) second in
          eqb-true _ _ b.1 ∙ sym (eqb-true _ _ t) ∙ eqb-true _ _ b.0
    ],
  )
  | inr t ↦
      let second : ((e.low.0 == v.0) && (e.high.0 == u.0)) ≡ true = rw t at joined in
      let b = both_of (e.low.0 == v.0) (e.high.0 == u.0) second in
      (e.low, rw (t, b.1) refl, eqb-true _ _ b.0)
]
  where
    both_of : (a b : Bool) → (a && b) ≡ true → (a ≡ true) × (b ≡ true)
    both_of true true e = (refl, refl)
    both_of true false e = absurd (let f : false ≡ true = e in cc)
    both_of false b e = absurd (let f : false ≡ true = e in cc)

or_true : (a : Bool) → (a || true) ≡ true
or_true true = refl
or_true false = refl

pub neighbour_there : (u v : NodeId) (place : ℕ) (edges : List Edge) → list_any (joins u.0 v.0) edges ≡ true
    → list_any (is_id v) (map (λ n. n.0) (neighbours_from u.0 place edges)) ≡ true
neighbour_there u v place [] some = absurd (let e : false ≡ true = some in cc)
neighbour_there u v place (e ∷ edges) some = elim (cases_Bool (joins u.0 v.0 e)) [
  | inl t ↦
      let w = joined_end u v e t in
      let end = w.1 in
      let is : (w.0.0 == v.0) ≡ true = eq-eqb _ _ w.2 in
      rw (end, is) refl
  | inr t ↦ later (other_end u.0 e) (neighbour_there u v (place + 1) edges (rw t at some))
]
  where
    later : (o : Option NodeId) → list_any (is_id v) (map (λ n. n.0) (neighbours_from u.0 (place + 1) edges)) ≡ true
        → list_any (is_id v) (map (λ n. n.0) (neighbour place o ++ neighbours_from u.0 (place + 1) edges)) ≡ true
    later None rest = rest
    later (Some w) rest = rw rest (or_true (w.0 == v.0))

pub keyed : {X : Type 0} (key : X → NodeId) (v : NodeId) (xs : List X) → list_any (is_id v) (map key xs) ≡ true → list_any (λ x. (key x).0 == v.0) xs ≡ true
keyed key v [] some = absurd (let e : false ≡ true = some in cc)
keyed key v (x ∷ xs) some = elim (cases_Bool (eqb (key x).0 v.0)) [
  | inl t ↦ rw t refl
  | inr t ↦ rw t (keyed key v xs (rw t at some))
]

-- a node has the rows of whom an edge joins to it
pub peer_there : (kind : FlowKind) (x : Setting) (u v : NodeId) (n : NodeState) → RowsAre x u n → is_hop x u v ≡ true
    → list_any (is_peer v) (flows_of kind n.parts).peers ≡ true
peer_there kind x u v n rows hop = keyed (λ p. p.peer) v (flows_of kind n.parts).peers
    (ap (list_any (is_id v)) (rows.peers kind) ∙ neighbour_there u v 0 x.topology.edges hop)

pub heard_there : (x : Setting) (u v : NodeId) (n : NodeState) → RowsAre x u n → is_hop x u v ≡ true → list_any (is_heard_of v) n.heard ≡ true
heard_there x u v n rows hop = keyed (λ h. h.peer) v n.heard (ap (list_any (is_id v)) rows.heard ∙ neighbour_there u v 0 x.topology.edges hop)

pub link_there : (x : Setting) (u v : NodeId) (n : NodeState) → RowsAre x u n → is_hop x u v ≡ true → list_any (is_link v) n.links ≡ true
link_there x u v n rows hop = keyed (λ l. l.peer) v n.links (ap (list_any (is_id v)) rows.links ∙ neighbour_there u v 0 x.topology.edges hop)
