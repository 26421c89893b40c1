-- A node of a scenario may start, and is then as the rules of runs say.
use Rattle.std.proofs.Common.{◌≡◌, ℕ, ◌+◌, ◌-◌, ◌<◌, ◌≤◌, ◌&&◌, ◌==◌, Bool, true, false, cond, List, [], ◌∷◌, map, filter, option_map, Some, Ok, Result, refl}
use Rattle.std.proofs.Common.{sym, ap, ap₂, ◌∙◌}
use Rattle.std.proofs.Common.{subst, arith, eqb, eqb-true, get_or, inl, inr, not, zero, suc, ◌++◌, length}
use Rattle.std.specs.Prelude.{IsTrue}
use Rattle.std.proofs.lemmas.Bool.{cases_Bool}
use Rattle.std.specs.List.{range_with_len}
use Rattle.std.proofs.lemmas.List.{append-nil, map-append}
use Rattle.std.proofs.lemmas.List.Elements.{filter-append}
use Rattle.std.proofs.lemmas.List.FromFn.{get_or-map-range_with_len, length-map-range_with_len, map-range_with_len_more}
use Rattle.laws_node.proofs.Withdrawing.{under_own}
use Rattle.sp_adversary.specs.Administrators.{Administrator}
use Rattle.sp_adversary.specs.Documents.{administrator_of, document_by, unsigned_by, version_by}
use Rattle.sp_base.proofs.FormatLemmas as formats
use Rattle.sp_base.specs.Refusals.{◌>>=◌}
use Rattle.sp_base.specs.declared.format.TheConstants.{FORMAT_1}
use Rattle.sp_base.specs.declared.limits.TheConstants.{MAX_EDGES_2}
use Rattle.sp_base.specs.declared.id.NodeId.{NodeId}
use Rattle.sp_epoch.specs.declared.started.Started.{Started}
use Rattle.sp_hss.specs.KeyTree.{public_key, signature, total}
use Rattle.sp_hss.specs.SeedKey.{SeedKey}
use Rattle.sp_lms.specs.declared.param.LmsParam.{LmsParam}
use Rattle.sp_msg.specs.declared.effect.Effect.{Effect}
use Rattle.sp_node.specs.Life.{Life}
use Rattle.sp_node_format.specs.Format.{document_of as as_document, format_of}
use Rattle.sp_node_state.specs.Boots.{IsBootable, Says, booted_of, fixed_of, started_of, told_at_start}
use Rattle.sp_node_state.specs.declared.boot.NodeConfig.{NodeConfig}
use Rattle.sp_rules.specs.Node.{NodeState, announced, start_effects, started}
use Rattle.sp_rules.specs.Arts.{Document}
use Rattle.sp_rules.specs.Parts.{Fixed, nodes_of}
use Rattle.sp_rules.specs.Topologies.{weights_in}
use Rattle.laws_runs_format.specs.Arts.{arts_of}
use Rattle.sp_runs.specs.Scenarios.{IsHeader, admin_seed, document_of, edge_key, node_key, node_seed, numbered, setting_of, topology_of, unsigned_of}
use Rattle.sp_runs.specs.Settings.{fixed_at, is_correct, is_one_of, node_at_boot, node_at_start, signer_from}
use Rattle.sp_runs.specs.Worlds as worlds
use Rattle.sp_schedule_events.specs.declared.scenario.Scenario.{Scenario}
use Rattle.sp_sign.specs.Heights.{param_of}
use Rattle.sp_sign.specs.NodeSigner.{NodeSigner}
use Rattle.sp_topology.proofs.Spelled.{spelled_is_read}
use Rattle.sp_topology.specs.Documents.{document}
use Rattle.sp_topology.specs.Keys.{key_of}
use Rattle.sp_topology.specs.Neighbours.{neighbours_from}
use Rattle.sp_topology.specs.Ranges.{IsTopology}
use Rattle.sp_topology.specs.declared.refused.TopologyRefused.{TopologyRefused}
use Rattle.sp_topology.specs.declared.topology.Edge.{Edge}
use Rattle.sp_topology.specs.declared.topology.LmsHeight.{LmsHeight}
use Rattle.sp_topology.specs.declared.topology.NodeKey.{NodeKey}
use Rattle.sp_topology.specs.declared.topology.Topology.{Topology}
use Rattle.laws_runs_format.proofs.Documents.{rooms, totals}
use Rattle.laws_runs_format.proofs.Topologies.{topologies_fit}
use Rattle.sp_world.specs.Boots.{CanStart, Home, IsHome, config_of, first_document, first_of, own_signer, seed_key}
use Rattle.sp_world.specs.Documents.{CanSign}

map_of_map : {A B C : Type 0} (f : B → C) (g : A → B) (xs : List A) → map f (map g xs) ≡ map (λ x. f (g x)) xs
map_of_map f g [] = refl
map_of_map f g (x ∷ xs) = ap (λ rest. f (g x) ∷ rest) (map_of_map f g xs)

and_left : (a b : Bool) → (a && b) ≡ true → a ≡ true
and_left true b is = refl
and_left false b is = absurd (cc)

-- ---- the keys of all nodes

one_is : (s : Scenario) (n : ℕ) (one : SeedKey) (height : LmsParam) → one ≡ record { height = height; seed = node_seed s.seed (n + 1) }
    → height ≡ param_of s.height → one ≡ seed_key s (n + 1)
one_is s n one height is tall = is ∙ ap {B = SeedKey} (λ (h : LmsParam). record { height = h; seed = node_seed s.seed (n + 1) }) tall

-- the seed of node n + 1 is pushed
pub seeds_more : (s : Scenario) (n : ℕ) (old items : List SeedKey) (one : SeedKey) (height : LmsParam) → old ≡ map (seed_key s) (range_with_len 1 n)
    → items ≡ old ++ one ∷ [] → one ≡ record { height = height; seed = node_seed s.seed (n + 1) } → height ≡ param_of s.height
    → items ≡ map (seed_key s) (range_with_len 1 (n + 1))
seeds_more s n old items one height before pushed is tall =
    pushed
    ∙ ap₂ (λ (xs : List SeedKey) (x : SeedKey). xs ++ x ∷ []) before (one_is s n one height is tall)
    ∙ sym (map-range_with_len_more (seed_key s) 1 n (n + 1) (omega arith))

-- its public key is pushed
pub keys_more : (s : Scenario) (n : ℕ) (old items : List NodeKey) (one : SeedKey) (height : LmsParam) (key : List ℕ)
    → old ≡ map (node_key s.height s.seed) (range_with_len 1 n) → items ≡ old ++ record { id = numbered (n + 1); key = key } ∷ []
    → key ≡ public_key one.height one.seed → one ≡ record { height = height; seed = node_seed s.seed (n + 1) } → height ≡ param_of s.height
    → items ≡ map (node_key s.height s.seed) (range_with_len 1 (n + 1))
keys_more s n old items one height key before pushed of is tall =
    let its : key ≡ public_key (param_of s.height) (node_seed s.seed (n + 1)) =
    of ∙ ap (λ (k : SeedKey). public_key k.height k.seed) (one_is s n one height is tall) in
    pushed
    ∙ ap₂ (λ (xs : List NodeKey) (k : List ℕ). xs ++ record { id = numbered (n + 1); key = k } ∷ []) before its
    ∙ sym (map-range_with_len_more (node_key s.height s.seed) 1 n (n + 1) (omega arith))

-- ---- one node

-- the topology has the key of each of its nodes
keys_are : (h : LmsHeight) (seed : List ℕ) (u : NodeId) (ids : List ℕ) → is_one_of (map (λ (n : NodeKey). n.id) (map (node_key h seed) ids)) u ≡ true
    → key_of u.0 (map (node_key h seed) ids) ≡ Some (public_key (param_of h) (node_seed seed u.0))
keys_are h seed u [] there = absurd (let e : false ≡ true = there in cc)
keys_are h seed u (id ∷ ids) there = elim (cases_Bool (eqb id u.0)) [
  | inl t ↦ rw t (ap (λ n. Some (public_key (param_of h) (node_seed seed n))) (eqb-true _ _ t))
  | inr t ↦ rw t (keys_are h seed u ids (rw t at there))
]

among : (s : Scenario) (u : NodeId) → IsTrue (is_correct (setting_of s) u) → is_one_of (nodes_of (topology_of s)) u ≡ true
among s u correct = and_left (is_one_of (nodes_of (topology_of s)) u) (not (is_one_of s.bad u)) correct

-- its number is one of 1 to N
in_numbers : (h : LmsHeight) (seed : List ℕ) (u : NodeId) (first count : ℕ)
    → is_one_of (map (λ (n : NodeKey). n.id) (map (node_key h seed) (range_with_len first count))) u ≡ true → (first ≤ u.0) × (u.0 < first + count)
in_numbers h seed u first zero there = absurd (let e : false ≡ true = there in cc)
in_numbers h seed u first (suc count) there = elim (cases_Bool (eqb first u.0)) [
  | inl t ↦ let same = eqb-true first u.0 t in (omega (arith, same), omega (arith, same))
  | inr t ↦ let rest = in_numbers h seed u (first + 1) count (rw t at there) in
      let low = rest.0 in
      let high = rest.1 in
      (omega (arith, low), omega (arith, high))
]

pub in_home : (s : Scenario) (u : NodeId) → IsTrue (is_correct (setting_of s) u) → (1 ≤ u.0) × (u.0 < 1 + s.graph.nodes)
in_home s u correct = in_numbers s.height s.seed u 1 s.graph.nodes (among s u correct)

-- the list of seeds has a place for it
pub seed_is_there : (s : Scenario) (h : Home) (u : NodeId) (seeds : List SeedKey) (i : ℕ) → IsHome s h → IsTrue (is_correct (setting_of s) u)
    → seeds ≡ h.seeds → i ≡ u.0 → length seeds ≤ i - 1 → ⊥
seed_is_there s h u seeds i home correct are at short =
    let in_range = in_home s u correct in
    let low = in_range.0 in
    let high = in_range.1 in
    let many : length seeds ≡ s.graph.nodes = ap length (are ∙ home.seeds) ∙ length-map-range_with_len (seed_key s) 1 s.graph.nodes in
    absurd (omega (arith, low, high, at, many, short))

-- and what stands there is its seed
pub its_seed : (s : Scenario) (h : Home) (u : NodeId) (seeds : List SeedKey) (i : ℕ) (key : SeedKey) → IsHome s h
    → IsTrue (is_correct (setting_of s) u) → seeds ≡ h.seeds → i ≡ u.0 → key ≡ get_or seeds (i - 1) key → key ≡ seed_key s u.0
its_seed s h u seeds i key home correct are at found =
    let in_range = in_home s u correct in
    let low = in_range.0 in
    let high = in_range.1 in
    found
    ∙ ap (λ (keys : List SeedKey). get_or keys (i - 1) key) (are ∙ home.seeds)
    ∙ get_or-map-range_with_len (seed_key s) 1 s.graph.nodes (i - 1) u.0 key (omega (arith, low, high, at)) (omega (arith, low, at))

pub bound_is_within : (s : Scenario) (u : NodeId) (start : Started) (key : SeedKey) → key ≡ seed_key s u.0 → CanStart s start → start.bound ≤ total key.height
bound_is_within s u start key is can = subst (λ (k : SeedKey). start.bound ≤ total k.height) (sym is) can.bound

pub signer_is : (s : Scenario) (u : NodeId) (start : Started) (key : SeedKey) (own : NodeSigner) → key ≡ seed_key s u.0
    → own ≡ record { node = u; signer = record { height = key.height; seed = key.seed; index = start.index; bound = start.bound } } → own ≡ own_signer s u start
signer_is s u start key own is made =
    made ∙ ap (λ (k : SeedKey). record { node = u; signer = record { height = k.height; seed = k.seed; index = start.index; bound = start.bound } }) is

-- ---- the document of the first version

-- its topology is that of the scenario
first_topology : (s : Scenario) → version_by (administrator_of s) 1 (weights_in s.graph.edges) ≡ topology_of s
first_topology s = ap (λ (edges : List Edge). record (topology_of s) { edges = edges }) (under_own s.graph.edges)

pub first_can : (s : Scenario) (a : Administrator) (weights : List ℕ) → IsHeader s → a ≡ administrator_of s → weights ≡ weights_in s.graph.edges
    → IsTopology (version_by a 1 weights)
first_can s a weights header is are = rw (is, are) (subst IsTopology (sym (first_topology s)) (topologies_fit s header).ranges)

pub first_most : (s : Scenario) (a : Administrator) → a ≡ administrator_of s → 1 ≤ total a.key.height
first_most s a is = rw is (totals s.height).0

pub first_is_signed : (s : Scenario) (a : Administrator) (weights document : List ℕ) → a ≡ administrator_of s → weights ≡ weights_in s.graph.edges
    → document ≡ document_by a 1 weights → document ≡ first_document s
first_is_signed s a weights document is are made = rw (is, are) at made

-- whatever comes after its bytes, they say it
says_spelled : (t : Topology) (rest : List ℕ) → IsTopology t → Says (document t ++ rest) t
says_spelled t rest ranges =
    ap (λ (r : Result (Topology × List ℕ) TopologyRefused). option_map (λ (d : Document). d.topology)
    (as_document (document t ++ rest) (r >>= λ read. Ok (read.0, length (document t ++ rest) - length read.1)))) (spelled_is_read t rest ranges)

first_says : (s : Scenario) → IsHeader s → Says (first_document s) (topology_of s)
first_says s header = go (s.format == FORMAT_1)
  where
    signed : List ℕ
    signed = signature (param_of s.height) (admin_seed s.seed) 0 (document (version_by (administrator_of s) 1 (weights_in s.graph.edges)))

    ranges : IsTopology (topology_of s)
    ranges = (topologies_fit s header).ranges

    bytes_are : document (version_by (administrator_of s) 1 (weights_in s.graph.edges)) ≡ document (topology_of s)
    bytes_are = ap document (first_topology s)

    go : (b : Bool) → Says (cond b (document (version_by (administrator_of s) 1 (weights_in s.graph.edges)))
        (document (version_by (administrator_of s) 1 (weights_in s.graph.edges)) ++ signed)) (topology_of s)
    go true =
        subst (λ (bs : List ℕ). Says bs (topology_of s)) (append-nil (document (topology_of s)) ∙ sym bytes_are) (says_spelled (topology_of s) [] ranges)
    go false = subst (λ (bs : List ℕ). Says (bs ++ signed) (topology_of s)) (sym bytes_are) (says_spelled (topology_of s) signed ranges)

-- ---- any version

pub can_write : (s : Scenario) (h : Home) (a : Administrator) (version : ℕ) (weights : List ℕ) → IsHome s h → a ≡ h.administrator
    → IsTopology (version_by (administrator_of s) version weights) → IsTopology (version_by a version weights)
can_write s h a version weights home is can = subst (λ (b : Administrator). IsTopology (version_by b version weights)) (sym (is ∙ home.administrator)) can

pub can_sign : (s : Scenario) (h : Home) (a : Administrator) (version : ℕ) (weights : List ℕ) → IsHome s h → a ≡ h.administrator → CanSign s version weights
    → version ≤ total a.key.height
can_sign s h a version weights home is can = subst (λ (b : Administrator). version ≤ total b.key.height) (sym (is ∙ home.administrator)) can.most

pub is_written : (s : Scenario) (h : Home) (a : Administrator) (version : ℕ) (weights bytes : List ℕ) → IsHome s h → a ≡ h.administrator
    → bytes ≡ unsigned_by a version weights → bytes ≡ unsigned_of s version weights
is_written s h a version weights bytes home is made = made ∙ ap (λ (b : Administrator). unsigned_by b version weights) (is ∙ home.administrator)

pub is_signed : (s : Scenario) (h : Home) (a : Administrator) (version : ℕ) (weights bytes : List ℕ) → IsHome s h → a ≡ h.administrator
    → bytes ≡ document_by a version weights → bytes ≡ document_of s version weights
is_signed s h a version weights bytes home is made = made ∙ ap (λ (b : Administrator). document_by b version weights) (is ∙ home.administrator)

pub may_start : (s : Scenario) (u : NodeId) (start : Started) (config : NodeConfig) (own : NodeSigner) → config ≡ config_of s u → own ≡ own_signer s u start
    → IsHeader s → IsTrue (is_correct (setting_of s) u) → CanStart s start → IsBootable config own start.boot
may_start s u start config own config_is own_is header correct can = rw (config_is, own_is) (record {
  topology = topologies_fit s header;
  document = first_says s header;
  short = (rooms s header 1 (weights_in s.graph.edges)).1;
  node = refl;
  height = refl;
  is_mine = keys_are s.height s.seed u (range_with_len 1 s.graph.nodes) (among s u correct);
  keys = map_of_map (λ k. k.0) (λ n. (n.1, edge_key s.seed n.1.0)) (neighbours_from u.0 0 s.graph.edges);
  life = can.boot;
  announces = λ on. record { format = header.epochs on; index = can.announces on };
})

pub at_start : (s : Scenario) (u : NodeId) (start : Started) (config : NodeConfig) (own : NodeSigner) → config ≡ config_of s u → own ≡ own_signer s u start
    → started_of config own start.boot ≡ node_at_start (arts_of (setting_of s)) (setting_of s) u start
at_start s u start config own config_is own_is =
    ap₂ (λ (c : NodeConfig) (o : NodeSigner). started_of c o start.boot) config_is own_is
    ∙ ap (λ (keys : List (List ℕ)). started (arts_of (setting_of s)) (fixed_at (setting_of s) u start.boot)
    (signer_from (setting_of s) u start.index start.bound) keys s.limits.buffer s.limits.store)
    (map_of_map (λ k. k.1) (λ n. (n.1, edge_key s.seed n.1.0)) (neighbours_from u.0 0 s.graph.edges))

-- what is fixed in a life stays at its start
same_fixed : (c : NodeConfig) (own : NodeSigner) (boot : ℕ) → (started_of c own boot).fixed ≡ fixed_of c boot
same_fixed c own boot = go c.epochs
  where
    go : (epochs : Bool) → (cond epochs (announced (format_of (fixed_of c boot)) (booted_of c own boot)) (booted_of c own boot)).fixed ≡ fixed_of c boot
    go true = refl
    go false = refl

-- so a node that starts has the id that it is configured with, and its boot
pub own_id : (s : Scenario) (u : NodeId) (start : Started) (config : NodeConfig) (own : NodeSigner) (n : Life) → config ≡ config_of s u
    → n ≡ record { state = started_of config own start.boot; checks = 0; tags = 0 } → n.state.fixed.me ≡ u
own_id s u start config own n config_is is =
    ap (λ (l : Life). l.state.fixed.me) is ∙ ap (λ (f : Fixed). f.me) (same_fixed config own start.boot) ∙ ap (λ (c : NodeConfig). c.me) config_is

pub own_boot : (start : Started) (config : NodeConfig) (own : NodeSigner) (n : Life)
    → n ≡ record { state = started_of config own start.boot; checks = 0; tags = 0 } → n.state.fixed.boot ≡ start.boot
own_boot start config own n is = ap (λ (l : Life). l.state.fixed.boot) is ∙ ap (λ (f : Fixed). f.boot) (same_fixed config own start.boot)

pub told_there : (s : Scenario) (u : NodeId) (start : Started) (config : NodeConfig) (effects : List Effect) → config ≡ config_of s u
    → effects ≡ told_at_start config start.boot → effects ≡ start_effects (arts_of (setting_of s)) (fixed_at (setting_of s) u start.boot)
told_there s u start config effects config_is told = told ∙ ap (λ (c : NodeConfig). told_at_start c start.boot) config_is

pub few_edges : (s : Scenario) → IsHeader s → length s.graph.edges ≤ MAX_EDGES_2
few_edges s header = omega (arith, header.graph.few, formats.few_edges s.format)

-- ---- without epochs, before the first event

pub first_is : (s : Scenario) (u : NodeId) (start : Started) → s.epochs ≡ false → start ≡ record { boot = 1; index = 0; bound = (setting_of s).total }
    → node_at_start (arts_of (setting_of s)) (setting_of s) u start ≡ node_at_boot (setting_of s) u
first_is s u start plain is = rw (is, plain) refl

pub boots_one : (s : Scenario) (u : NodeId) → is_correct (setting_of s) u ≡ true → first_of s (u ∷ []) ≡ node_at_boot (setting_of s) u ∷ []
boots_one s u correct = let one : filter (is_correct (setting_of s)) (u ∷ []) ≡ u ∷ [] = rw correct refl in ap (map (node_at_boot (setting_of s))) one

pub boots_none : (s : Scenario) (u : NodeId) (nodes : List NodeState) → is_correct (setting_of s) u ≡ false → nodes ++ first_of s (u ∷ []) ≡ nodes
boots_none s u nodes correct =
    let none : filter (is_correct (setting_of s)) (u ∷ []) ≡ [] = rw correct refl in
    ap (λ (us : List NodeId). nodes ++ map (node_at_boot (setting_of s)) us) none ∙ append-nil nodes

boots_more : (s : Scenario) (n : ℕ)
    → first_of s (map numbered (range_with_len 1 (n + 1))) ≡ first_of s (map numbered (range_with_len 1 n)) ++ first_of s (numbered (n + 1) ∷ [])
boots_more s n =
    let test = is_correct (setting_of s) in
    let boot = node_at_boot (setting_of s) in
    let us = map numbered (range_with_len 1 n) in
    ap (λ (vs : List NodeId). map boot (filter test vs)) (map-range_with_len_more numbered 1 n (n + 1) (omega arith))
    ∙ ap (map boot) (filter-append test us (numbered (n + 1) ∷ []))
    ∙ map-append boot (filter test us) (filter test (numbered (n + 1) ∷ []))

boots_whole : (s : Scenario) → first_of s (map numbered (range_with_len 1 s.graph.nodes)) ≡ first_of s (nodes_of (topology_of s))
boots_whole s = ap (first_of s) (sym (map_of_map (λ (n : NodeKey). n.id) (node_key s.height s.seed) (range_with_len 1 s.graph.nodes)))

pub boots_next : (s : Scenario) (n : ℕ) (old items : List NodeState) → old ≡ first_of s (map numbered (range_with_len 1 n))
    → items ≡ old ++ first_of s (numbered (n + 1) ∷ []) → items ≡ first_of s (map numbered (range_with_len 1 (n + 1)))
boots_next s n old items before pushed =
    pushed ∙ ap (λ (ns : List NodeState). ns ++ first_of s (numbered (n + 1) ∷ [])) before ∙ sym (boots_more s n)

pub all_booted : (s : Scenario) (items : List NodeState) → s.epochs ≡ false → items ≡ first_of s (map numbered (range_with_len 1 s.graph.nodes))
    → items ≡ (worlds.at_start (setting_of s)).nodes
all_booted s items plain is = is ∙ boots_whole s ∙ ap (λ (t : Bool). cond t [] (first_of s (nodes_of (topology_of s)))) (sym plain)
