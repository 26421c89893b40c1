-- The version that a node runs under: what leaves it leaves the node as it was before its document, what a document leaves, and whom a node serves under a
-- version. And where nothing is published no node is removed.
use Rattle.std.proofs.Common.{◌≡◌, ◌<◌, ◌≤◌, ℕ, suc, ◌+◌, ◌&&◌, Bool, true, false, cond, not}
use Rattle.std.proofs.Common.{List, [], ◌∷◌, length, Option, Some, None, refl, sym, ap, subst, ◌∙◌, inl, inr, arith}
use Rattle.std.specs.Prelude.{◌-◌, IsTrue, nat_le, nat_lt, position, slice_get}
use Rattle.std.specs.List.{All, list_any, position_or_len}
use Rattle.std.proofs.lemmas.Bool.{cases_Bool, eqb-true, ne_eqb}
use Rattle.std.proofs.Common.{map, ap₂, ◌==◌}
use Rattle.std.specs.Prelude.{◌||◌}
use Rattle.laws_node.proofs.Withdrawals.{same_ends_closed}
use Rattle.laws_runs.proofs.Lists.{both}
use Rattle.laws_runs.proofs.Tables.{same_node}
use Rattle.sp_rules.specs.Flow.{FlowState, ended, ends, is_flow}
use Rattle.std.proofs.lemmas.Bool.Decides.{nat_tests}
use Rattle.std.proofs.lemmas.List.Elements.{All-head, All-tail}
use Rattle.sp_base.specs.declared.id.Flow.{Flow}
use Rattle.sp_base.specs.declared.id.NodeId.{NodeId}
use Rattle.sp_msg.specs.declared.kept.Kept.{Kept}
use Rattle.sp_topology.specs.Neighbours.{joins}
use Rattle.sp_topology.specs.declared.topology.Edge.{Edge}
use Rattle.sp_rules.specs.Arts.{Arts}
use Rattle.sp_rules.specs.Arrivals.{after_datagram, before_document, document_at, read_by}
use Rattle.sp_rules.specs.Node.{NodeState, call_refusal, is_behind, is_shut_at, is_shut_to, kept_or, version_of}
use Rattle.sp_rules.specs.Parts.{Fixed, changes, nodes_of}
use Rattle.sp_frame.specs.Sections.{with_document}
use Rattle.sp_rules.specs.Polls.{contents_at, contents_to, is_served, no_contents}
use Rattle.sp_rules.specs.Rel.{ended_where, flow_in, is_one_of, is_over}
use Rattle.sp_rules.specs.Topologies.{is_shut, removed_of, under, weights_in}
use Rattle.sp_rules.specs.declared.node.NodeRefused.{NodeRefused}
use Rattle.laws_node.proofs.Adopting.{reading}
use Rattle.laws_node.proofs.Withdrawing.{under_own}
use Rattle.laws_node.specs.Withdrawals.{removed_now}
use Rattle.laws_runs.specs.Signs.{Good, NodeIs}
use Rattle.laws_runs.proofs.Published.{IsOpen, none_removed}
use Rattle.laws_runs.proofs.Signed.{signs}
use Rattle.laws_runs.specs.Flows.{has_ended}
use Rattle.laws_runs.specs.Premises.{Carries}
use Rattle.laws_runs.specs.Versions.{IsPublished}
use Rattle.laws_runs.proofs.Versions.{versions_are_published}
use Rattle.laws_progress.specs.Positions.{TopologyStays}
use Rattle.sp_runs.specs.Forgery.{is_frame}
use Rattle.sp_journal.specs.declared.entry.Entry.{Entry}
use Rattle.sp_runs.specs.Runs.{Clean, is_hop}
use Rattle.sp_runs.specs.Worlds.{World, node_in}
use Rattle.sp_schedule_events.specs.declared.event.Event.{Event}
use Rattle.sp_runs.specs.Settings.{Setting, SettingFits, fixed_at, may_change}
use Rattle.sp_rules.specs.Parts.{flows_of}
use Rattle.sp_rules.specs.declared.kflow.FlowKind.{FlowKind}
use Rattle.laws_runs.proofs.KindFacts.{closed_flows}
use Rattle.laws_progress.proofs.EitherKind.{obeyed}
use Rattle.sp_rules.specs.Rel.{RelState}

-- ---- what leaves the version

-- a document that leaves the version leaves the node
pub read_same : (arts : Arts) (n : NodeState) (document : Option (List ℕ)) → (read_by arts n document).live.version ≡ n.live.version
    → read_by arts n document ≡ n
read_same arts n document =
    reading arts n document (λ m told. m.live.version ≡ n.live.version → m ≡ n) (λ same. refl)
    (λ bytes d is reads by same. absurd (let above = by.above in grind (arith, nat_tests, above, same)))

-- so after a datagram that leaves it the node is as it was before the datagram's document
pub datagram_same : (arts : Arts) (n : NodeState) (v : NodeId) (bytes : List ℕ) (new : NodeState) → new ≡ after_datagram arts n v bytes
    → new.live.version ≡ n.live.version → new ≡ kept_or (call_refusal n v) n (before_document arts n v bytes)
datagram_same arts n v bytes new is same = is ∙ go (call_refusal n v) (ap (λ (m : NodeState). m.live.version) (sym is) ∙ same)
  where
    left : NodeState
    left = before_document arts n v bytes

    go : (r : Option NodeRefused) → (kept_or r n (read_by arts left (document_at arts n v bytes))).live.version ≡ n.live.version
        → kept_or r n (read_by arts left (document_at arts n v bytes)) ≡ kept_or r n left
    go (Some refused) e = refl
    go None e = read_same arts left (document_at arts n v bytes) e

-- a flow without a removed end goes on as it was
pub closed_flow : (gone : List NodeId) (flow : Flow) (fs : List FlowState) → is_over gone flow ≡ false → flow_in (map (ended_where gone) fs) flow
    ≡ flow_in fs flow
closed_flow gone flow [] on = refl
closed_flow gone flow (f ∷ fs) on = elim (cases_Bool (is_flow flow f)) [
  | inl t ↦
      let parts = both (f.src.0 == flow.src.0) (f.dst.0 == flow.dst.0) t in
      let over : is_over gone (ends f) ≡ false =
      ap₂ (λ (a b : NodeId). is_one_of gone a || is_one_of gone b) (same_node f.src flow.src (eqb-true _ _ parts.0))
      (same_node f.dst flow.dst (eqb-true _ _ parts.1))
      ∙ on in
      let same : ended_where gone f ≡ f = ap (λ (z : Bool). cond (f.active && z) (ended f) f) over ∙ either f.active in
      ap (λ (g : FlowState). flow_in (g ∷ map (ended_where gone) fs) flow) same ∙ rw t refl
  | inr t ↦
      let other : is_flow flow (ended_where gone f) ≡ false =
      ap (λ (g : Flow). (g.src.0 == flow.src.0) && (g.dst.0 == flow.dst.0)) (same_ends_closed gone f) ∙ t in
      rw (other, t) (closed_flow gone flow fs on)
]
  where
    either : (z : Bool) → cond (z && false) (ended f) f ≡ f
    either true = refl
    either false = refl

-- a document leaves the links of a node, the boots that it holds, and what it knows of its neighbours
pub record SameKnown (n m : NodeState) : Type 0 where
  pub links : m.links ≡ n.links
  pub fixed : m.fixed ≡ n.fixed
  pub lives : m.parts.lives ≡ n.parts.lives
  pub peers : (kind : FlowKind) → (flows_of kind m.parts).peers ≡ (flows_of kind n.parts).peers
  pub heard : m.heard ≡ n.heard

pub read_known : (arts : Arts) (n : NodeState) (document : Option (List ℕ)) → SameKnown n (read_by arts n document)
read_known arts n document =
    reading arts n document (λ m told. SameKnown n m) (record { links = refl; fixed = refl; lives = refl; peers = λ kind. refl; heard = refl })
    (λ bytes d is reads by. record {
      links = refl;
      fixed = refl;
      lives = refl;
      peers = λ kind. ap (λ (r : RelState). r.peers) (closed_flows kind n.parts _ _);
      heard = refl;
    })

-- ---- a frame that carries what is in turn

pub served_contents : (n : NodeState) (v : NodeId) → is_served n v ≡ true → contents_at n v ≡ contents_to n.fixed n.parts v
served_contents n v on = go (is_behind n v) (is_shut_to n v) on
  where
    go : (a b : Bool) → (not a && not b) ≡ true
        → cond a (with_document n.live.document) (cond b no_contents (contents_to n.fixed n.parts v)) ≡ contents_to n.fixed n.parts v
    go false false e = refl
    go false true e = absurd (let f : false ≡ true = e in cc)
    go true b e = absurd (let f : false ≡ true = e in cc)

-- ---- a topology that withdraws nothing

unshut_at : (p : Edge → Bool) (edges : List Edge) → All IsOpen edges → list_any p edges ≡ true
    → (position_or_len p edges < length edges) × (is_shut (weights_in edges) (position_or_len p edges) ≡ false)
unshut_at p [] all_on some = absurd (let f : false ≡ true = some in cc)
unshut_at p (e ∷ edges) all_on some = elim (cases_Bool (p e)) [
  | inl t ↦ let w = All-head IsOpen e edges all_on in rw t (omega arith, ne_eqb _ _ (λ z. omega (arith, z, w)))
  | inr t ↦
      let rest = unshut_at p edges (All-tail IsOpen e edges all_on) (rw t at some) in
      let low = rest.0 in
      let next : 1 + position_or_len p edges ≡ suc (position_or_len p edges) = omega arith in
      rw t (omega (arith, low), ap (is_shut (weights_in (e ∷ edges))) next ∙ rest.1)
]

low_place : (p : Edge → Bool) (edges : List Edge) → list_any p edges ≡ true → position_or_len p edges < length edges
low_place p [] some = absurd (let f : false ≡ true = some in cc)
low_place p (e ∷ edges) some = elim (cases_Bool (p e)) [
  | inl t ↦ rw t (omega arith)
  | inr t ↦ let rest = low_place p edges (rw t at some) in rw t (omega (arith, rest))
]

pub none_removed_of : (nodes : List NodeId) (edges : List Edge) → All IsOpen edges → removed_of nodes edges ≡ []
none_removed_of [] edges all_on = refl
none_removed_of (u ∷ nodes) edges all_on = let t = none_removed u.0 edges all_on in rw t (none_removed_of nodes edges all_on)

-- ---- a node that runs under a version

-- the edge to a neighbour, where the weights don't withdraw it
pub open_at : (n : NodeState) (p : Edge → Bool) (edges : List Edge) → list_any p edges ≡ true → is_shut n.live.weights (position_or_len p edges) ≡ false
    → is_shut_at n (position p edges) ≡ false
open_at n p edges some on =
    let low = low_place p edges some in
    let inside : nat_lt (position_or_len p edges) (length edges) ≡ true = grind (arith, nat_tests, low) in
    rw inside on

-- it carries what is in turn where the neighbour is known to run under it, over an edge that isn't withdrawn
pub served_where : (n : NodeState) (v : NodeId) → (changes n.fixed ≡ true → n.live.version ≤ version_of n v) → is_shut_to n v ≡ false → is_served n v ≡ true
served_where n v heard on = go (changes n.fixed) refl
  where
    either : (a : Bool) → (not (a && false) && true) ≡ true
    either true = refl
    either false = refl

    go : (t : Bool) → changes n.fixed ≡ t → (not (t && nat_lt 0 (version_of n v) && nat_lt (version_of n v) n.live.version) && not (is_shut_to n v)) ≡ true
    go false is = rw on refl
    go true is =
        let most = heard is in
        let last : nat_lt (version_of n v) n.live.version ≡ false = grind (arith, nat_tests, most) in
        rw (last, on) (either (nat_lt 0 (version_of n v)))

-- it runs under this version, with these weights
abbrev pub Under : (version : ℕ) (weights : List ℕ) → NodeState → Type 0
Under version weights n = (n.live.version ≡ version) × (n.live.weights ≡ weights)

-- it heard that the neighbour runs under the version, where versions may change
abbrev pub has_heard : Setting → (version : ℕ) → NodeId → NodeState → Bool
has_heard x version v n = not (may_change x) || nat_le version (version_of n v)

-- so it withdraws no edge that is open in the version, and serves whom it knows
pub edge_at : (x : Setting) (version : ℕ) (weights : List ℕ) (u v : NodeId) → is_hop x u v ≡ true
    → is_shut weights (position_or_len (joins u.0 v.0) x.topology.edges) ≡ false → (n : NodeState) → n.fixed ≡ fixed_at x u n.fixed.boot
    → Under version weights n
    → is_shut_to n v ≡ false
edge_at x version weights u v joined open_edge n fixed runs =
    ap (λ (f : Fixed). is_shut_at n (position (joins f.me.0 v.0) f.topology.edges)) fixed
    ∙ open_at n (joins u.0 v.0) x.topology.edges joined (ap (λ ws. is_shut ws (position_or_len (joins u.0 v.0) x.topology.edges)) runs.1 ∙ open_edge)

pub served_there : (x : Setting) (version : ℕ) (weights : List ℕ) (u v : NodeId) → is_hop x u v ≡ true
    → is_shut weights (position_or_len (joins u.0 v.0) x.topology.edges) ≡ false → (n : NodeState) → n.fixed ≡ fixed_at x u n.fixed.boot
    → Under version weights n
    → has_heard x version v n ≡ true → is_served n v ≡ true
served_there x version weights u v joined open_edge n fixed runs heard =
    served_where n v (λ on. go (may_change x) (sym (ap (λ (f : Fixed). changes f) fixed) ∙ on) heard)
    (edge_at x version weights u v joined open_edge n fixed runs)
  where
    go : (t : Bool) → t ≡ true → (not t || nat_le version (version_of n v)) ≡ true → n.live.version ≤ version_of n v
    go true on some = let same = runs.0 in let least : version ≤ version_of n v = grind (arith, nat_tests, some) in omega (arith, same, least)
    go false on some = absurd (let f : false ≡ true = on in cc)

-- what is heard stays heard where the kept version doesn't fall
pub still_heard : (x : Setting) (version : ℕ) (v : NodeId) (n m : NodeState) → version_of n v ≤ version_of m v → has_heard x version v n ≡ true
    → has_heard x version v m ≡ true
still_heard x version v n m less some = go (may_change x) (version_of n v) (version_of m v) less some
  where
    go : (t : Bool) (a b : ℕ) → a ≤ b → (not t || nat_le version a) ≡ true → (not t || nat_le version b) ≡ true
    go false a b less some = refl
    go true a b less some = grind (arith, nat_tests, less, some)

-- and a kept version of no less is heard
pub heard_least : (x : Setting) (version : ℕ) (v : NodeId) (n : NodeState) → (may_change x ≡ true → version ≤ version_of n v) → has_heard x version v n ≡ true
heard_least x version v n least = go (may_change x) refl
  where
    go : (t : Bool) → may_change x ≡ t → (not t || nat_le version (version_of n v)) ≡ true
    go false may = refl
    go true may = let low = least may in grind (arith, nat_tests, low)

-- ---- a node of a run in which nothing is published

-- the first version withdraws no edge
pub first_open : {arts : Arts} (x : Setting) → SettingFits arts x → (u v : NodeId) → is_hop x u v ≡ true
    → is_shut (weights_in x.topology.edges) (position_or_len (joins u.0 v.0) x.topology.edges) ≡ false
first_open x fits u v hop = (unshut_at (joins u.0 v.0) x.topology.edges fits.all_open hop).1

abbrev pub UnderFirst : Setting → NodeState → Type 0
UnderFirst x n = (n.live.version ≡ x.topology.version) × (n.live.weights ≡ weights_in x.topology.edges)

-- the version was handed out, and none was but the first
is_first : (x : Setting) (es : List Event) (version : ℕ) (weights : List ℕ) → TopologyStays es → IsPublished x es version weights
    → (version ≡ x.topology.version) × (weights ≡ weights_in x.topology.edges)
is_first x es version weights stays (inl first) = first
is_first x es version weights stays (inr later) =
    let none = subst (λ (lists : List (List ℕ)). IsTrue (nat_le 2 version && is_frame weights (slice_get lists (version - 2)))) stays later in
    absurd (go (nat_le 2 version) none)
  where
    go : (t : Bool) → IsTrue (t && false) → ⊥
    go true is = absurd (let wrong : false ≡ true = is in cc)
    go false is = absurd (let wrong : false ≡ true = is in cc)

module _ (arts : Arts) (x : Setting) (es : List Event) (js : List Entry) (w : World) (fits : SettingFits arts x) (reads : Carries x.topology.format arts)
    (run : Clean arts x es js w) (stays : TopologyStays es) where
  pub under_first : (u : NodeId) (n : NodeState) → node_in w.nodes u ≡ Some n → UnderFirst x n
  under_first u n at = is_first x es n.live.version n.live.weights stays (versions_are_published arts x es js w fits reads run u n at)

module _ (arts : Arts) (x : Setting) (fits : SettingFits arts x) (P : Kept → Type 0) (u : NodeId) (n : NodeState) (is : NodeIs x P u n)
    (on : UnderFirst x n) where
  -- no node is removed, and no flow ends
  pub gone_at : removed_now n ≡ []
  gone_at =
      ap (λ (f : Fixed). removed_of (nodes_of f.topology) (under f.topology.edges n.live.weights)) is.fixed
      ∙ ap (λ (ws : List ℕ). removed_of (nodes_of x.topology) (under x.topology.edges ws)) on.1
      ∙ ap (removed_of (nodes_of x.topology)) (under_own x.topology.edges)
      ∙ none_removed_of (nodes_of x.topology) x.topology.edges fits.all_open

  pub never_over : (kind : FlowKind) (flow : Flow) → is_over (flows_of kind n.parts).removed flow ≡ false
  never_over kind flow = ap (λ (us : List NodeId). is_over us flow) (obeyed kind n is.obeys ∙ gone_at)

module _ (arts : Arts) (x : Setting) (es : List Event) (js : List Entry) (w : World) (fits : SettingFits arts x) (reads : Carries x.topology.format arts)
    (run : Clean arts x es js w) (stays : TopologyStays es) (u : NodeId) (n : NodeState) (at : node_in w.nodes u ≡ Some n) where
  its : NodeIs x (Good arts x es js) u n
  its = (signs arts x es js w fits reads run).nodes u n at

  first : UnderFirst x n
  first = under_first arts x es js w fits reads run stays u n at

  pub not_ended : (kind : FlowKind) (s d : NodeId) → has_ended kind n s d ≡ false
  not_ended kind s d = never_over arts x fits (Good arts x es js) u n its first kind (record { src = s; dst = d })
