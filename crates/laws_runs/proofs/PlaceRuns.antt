-- What each place holds, and that each eviction leaves a share, over a whole run: where nodes move, start and stop.
use Rattle.laws_runs.specs.Places.{PlacesAre, RisingRows, Steps, StoreIs, no_shelf, row_store, shelf, shelf_by, store_at}
use Rattle.std.proofs.Common.{◌≡◌, ℕ, zero, suc, ◌==◌, true, false, List, [], ◌∷◌, ◌++◌, length, map, None, Some, refl, sym, ap, subst, ◌∙◌, inl, inr, arith}
use Rattle.std.specs.List.{All, flat_map}
use Rattle.std.proofs.lemmas.Bool.{cases_Bool, eq-eqb, eqb-true, ne_eqb}
use Rattle.std.proofs.Math.ListN.{drop_of_length-le}
use Rattle.std.proofs.lemmas.List.{append-nil}
use Rattle.std.proofs.lemmas.List.Elements.{All-cons, All-nil}
use Rattle.sp_base.specs.declared.id.EdgeId.{EdgeId}
use Rattle.sp_base.specs.declared.id.NodeId.{NodeId}
use Rattle.sp_rules.specs.Arts.{Arts}
use Rattle.sp_rules.specs.Node.{NodeState}
use Rattle.sp_rules.specs.Parts.{Fixed, Parts, as_neighbour, neighbours_of, nodes_of, bare_parts}
use Rattle.sp_rules.specs.Prio.{PrioState}
use Rattle.sp_rules.specs.Prio as prio
use Rattle.sp_rules.specs.PrioPeer as rows
use Rattle.sp_rules.specs.PrioPeer.{PrioPeer}
use Rattle.sp_rules.specs.declared.prio.Neighbour.{Neighbour}
use Rattle.sp_rules.specs.Topologies.{removed_of, weights_in}
use Rattle.sp_topology.proofs.NeighbourLemmas.{found_ascend}
use Rattle.sp_topology.specs.Neighbours.{Ascend, neighbours_from}
use Rattle.sp_topology.specs.declared.topology.Edge.{Edge}
use Rattle.sp_runs.specs.Held.{AreShares}
use Rattle.sp_runs.specs.Inputs.{acting}
use Rattle.sp_runs.specs.Lives.{ready}
use Rattle.sp_runs.specs.Runs.{Clean, InRange, Lives, Move, Moves, Starts, Stays, Turn, Turned, forged_in}
use Rattle.sp_runs.specs.Settings.{Setting, SettingFits, fixed_of, node_at_boot}
use Rattle.sp_runs.specs.Told.{effects_at, told_at}
use Rattle.sp_runs.specs.Worlds.{World, at_start, node_in}
use Rattle.sp_journal.specs.declared.entry.Entry.{Entry as JournalEntry}
use Rattle.sp_schedule_events.specs.declared.event.Event.{Event}
use Rattle.laws_runs.specs.Good.{PlacesAreTold}
use Rattle.laws_runs.specs.KeyFiles.{KeysStand}
use Rattle.laws_runs.specs.LifeShares.{LifeEvictionsLeaveShares, LifeSharePart, TurnsKeepShares, played_since}
use Rattle.laws_runs.specs.Premises.{Carries}
use Rattle.laws_runs.specs.Shares.{EvictionsLeaveShares}
use Rattle.laws_runs.specs.Signs.{Good, Signs}
use Rattle.laws_runs.specs.Since.{effects_since, is_start_of}
use Rattle.laws_runs.proofs.Goods.{plain_start, started}
use Rattle.laws_runs.proofs.KeyFiles.{key_files_stand}
use Rattle.laws_runs.proofs.LifeCases.{life_case}
use Rattle.laws_runs.proofs.Lists.{as_they_are}
use Rattle.laws_runs.proofs.Lives.{step_stays}
use Rattle.laws_runs.proofs.PlaceFacts.{AllAway, Turns, row_here, row_there}
use Rattle.laws_runs.proofs.PlaceSteps.{turned}
use Rattle.laws_runs.proofs.PlaceTurns.{either_away, none_away, closed_turns}
use Rattle.laws_runs.proofs.Played.{shares_from_start}
use Rattle.laws_runs.proofs.Reaches.{input_fits}
use Rattle.laws_runs.proofs.Ready.{readied_parts, was_there}
use Rattle.laws_runs.proofs.Rests.{Begun, Lived, Ran, Rest, life_rest, spends_rest}
use Rattle.laws_runs.proofs.Signed.{signs, signs_ready}
use Rattle.laws_runs.proofs.SinceFacts.{moved_since, since_is_all, since_more, since_start}
use Rattle.laws_runs.proofs.StoreFacts.{store_empty}
use Rattle.laws_runs.proofs.StoreEffects.{Signs_it}
use Rattle.laws_runs.proofs.StoreEffects.{held_both, leads_away, shares_both}
use Rattle.laws_runs.proofs.Tables.{node_is, node_put, same_node}

-- ---- the places of a node as it boots

rows_rise : (capacity b : ℕ) (ns : List (NodeId × EdgeId)) → Ascend b ns → RisingRows b (map (rows.new_peer capacity) (map as_neighbour ns))
rows_rise capacity b [] h = tt
rows_rise capacity b (n ∷ ns) h = (h.0, rows_rise capacity n.0.0 ns h.1)

stores_start : (capacity : ℕ) (ns : List Neighbour) → All (λ q. StoreIs capacity q.store) (map (rows.new_peer capacity) ns)
stores_start capacity [] = All-nil (λ (q : PrioPeer). StoreIs capacity q.store)
stores_start capacity (n ∷ ns) =
    All-cons (λ (q : PrioPeer). StoreIs capacity q.store) (rows.new_peer capacity n) (map (rows.new_peer capacity) ns) (store_empty capacity)
    (stores_start capacity ns)

no_rows : (capacity place : ℕ) (ns : List Neighbour) → shelf (row_store (map (rows.new_peer capacity) ns) place) ≡ no_shelf
no_rows capacity place [] = refl
no_rows capacity place (n ∷ ns) = elim (cases_Bool (n.id.0 == place)) [
  | inl t ↦ ap shelf (row_here place (rows.new_peer capacity n) (map (rows.new_peer capacity) ns) t)
  | inr t ↦ ap shelf (row_there place (rows.new_peer capacity n) (map (rows.new_peer capacity) ns) t) ∙ no_rows capacity place ns
]

-- before what is withdrawn from the start closes anything
abbrev bare_at_boot : Setting → NodeId → PrioState
bare_at_boot x u = (bare_parts (fixed_of x u) x.buffer x.store).prio

bare_places : (arts : Arts) (x : Setting) (u : NodeId) → SettingFits arts x → PlacesAre x.store (bare_at_boot x u)
bare_places arts x u fits = record {
  inbox = store_empty x.store;
  peers = stores_start x.store (map as_neighbour (neighbours_of (fixed_of x u)));
  rows = rows_rise x.store 0 (neighbours_of (fixed_of x u)) ascends;
}
  where
    ascends : Ascend 0 (neighbours_of (fixed_of x u))
    ascends =
        let edges = x.topology.edges in
        let found = neighbours_from u.0 0 edges in
        found_ascend x.topology.format u.0 (length edges) x.topology.height x.topology.nodes edges found fits.topology.ranges.nodes
        fits.topology.ranges.graph.are_edges (omega arith)
        (ap (λ (es : List Edge). found ++ neighbours_from u.0 (length edges) es) (drop_of_length-le edges (omega arith)) ∙ append-nil found)

bare_empty : (x : Setting) (u : NodeId) (place : ℕ) → no_shelf ≡ shelf (store_at (bare_at_boot x u) place)
bare_empty x u zero = refl
bare_empty x u (suc v) = sym (no_rows x.store (suc v) (map as_neighbour (neighbours_of (fixed_of x u))))

none_leave : (capacity : ℕ) (least : List ℕ) (gone : List NodeId) (ns : List Neighbour)
    → flat_map (rows.closed_effects least gone) (map (rows.new_peer capacity) ns) ≡ []
none_leave capacity least gone [] = refl
none_leave capacity least gone (n ∷ ns) = none_leave capacity least gone ns

abbrev gone_at_boot : Setting → List NodeId
gone_at_boot x = removed_of (nodes_of x.topology) x.topology.edges

-- and what it closes was empty
boot_turns : (arts : Arts) (x : Setting) (u : NodeId) → SettingFits arts x
    → Turns x.store (bare_at_boot x u) (prio.closed_effects (bare_at_boot x u) (weights_in x.topology.edges) (gone_at_boot x)) (node_at_boot x u).parts.prio
boot_turns arts x u fits =
    closed_turns x.store x.topology.format (bare_at_boot x u) (weights_in x.topology.edges) (gone_at_boot x) (bare_places arts x u fits)

empty_at_boot : (arts : Arts) (x : Setting) (u : NodeId) (place : ℕ) → SettingFits arts x
    → no_shelf ≡ shelf (store_at (node_at_boot x u).parts.prio place)
empty_at_boot arts x u place fits =
    bare_empty x u place
    ∙ ap (shelf_by place (shelf (store_at (bare_at_boot x u) place)))
    (sym (none_leave x.store (weights_in x.topology.edges) (gone_at_boot x) (map as_neighbour (neighbours_of (fixed_of x u)))))
    ∙ ((boot_turns arts x u fits).leads place).held

places_at_boot : (arts : Arts) (x : Setting) (u : NodeId) → SettingFits arts x → PlacesAre x.store (node_at_boot x u).parts.prio
places_at_boot arts x u fits = (boot_turns arts x u fits).are

-- ---- one turn

-- the world in which a node acts
shares_ready : (x : Setting) (es : List Event) (js : List JournalEntry) (w : World) (e : Event) → LifeSharePart x es js w → LifeSharePart x es js (ready x w e)
shares_ready x es js w e h = record {
  nodes = λ u n at.
      let was = was_there x w e u n at in
      subst (λ (p : Parts). PlacesAre x.store p.prio) (sym (readied_parts x w was.before n was.readied).0) (h.nodes u was.before was.is_there);
  held_is = λ u n place at.
      let was = was_there x w e u n at in
      h.held_is u was.before place was.is_there ∙ sym (ap (λ (p : Parts). shelf (store_at p.prio place)) (readied_parts x w was.before n was.readied).0);
  shares = h.shares;
}

module _ (arts : Arts) (x : Setting) (es : List Event) (js : List JournalEntry) (e : Event) (j : JournalEntry) (same : length es ≡ length js) where
  abbrev es2 : List Event
  es2 = es ++ e ∷ []

  abbrev js2 : List JournalEntry
  js2 = js ++ j ∷ []

  moved_on : (w new : World) (m : Move arts x w e j new) → m.after.fixed.me ≡ acting e → LifeSharePart x es js w
      → Turns x.store m.node.parts.prio m.output.effects m.after.parts.prio → LifeSharePart x es2 js2 new
  moved_on w new m me h turns = record {
    nodes = λ u n at. elim (node_put u a m.after n w.nodes me (subst (λ (y : World). node_in y.nodes u ≡ Some n) m.world at)) [
      | inl it ↦ subst (λ (y : NodeState). PlacesAre x.store y.parts.prio) (sym it.1) turns.are
      | inr away ↦ h.nodes u n away.1
    ];
    held_is = λ u n place at. elim (node_put u a m.after n w.nodes me (subst (λ (y : World). node_in y.nodes u ≡ Some n) m.world at)) [
      | inl it ↦
          subst (λ (y : NodeState). played_since es2 js2 u place ≡ shelf (store_at y.parts.prio place)) (sym it.1)
          (subst (λ v. played_since es2 js2 v place ≡ shelf (store_at m.after.parts.prio place)) (sym it.0) (now place))
      | inr away ↦ ap (shelf_by place no_shelf) (other u (ne_eqb a.0 u.0 (λ y. away.0 (sym (same_node a u y))))) ∙ h.held_is u n place away.1
    ];
    shares = λ u place. elim (cases_Bool (a.0 == u.0)) [
      | inl t ↦
          let is : a ≡ u = same_node a u (eqb-true a.0 u.0 t) in
          subst (λ v. Steps x.store place no_shelf (effects_since es2 js2 v)) is (subst (Steps x.store place no_shelf) (sym acted)
          (shares_both x.store place no_shelf (effects_since es js a) m.output.effects (h.shares a place)
          (subst (λ hs. Steps x.store place hs m.output.effects) (sym (h.held_is a m.node place m.is_there)) (turns.leads place).shares)))
      | inr t ↦ subst (Steps x.store place no_shelf) (sym (other u t)) (h.shares u place)
    ];
  }
    where
      a : NodeId
      a = acting e

      acted : effects_since es2 js2 a ≡ effects_since es js a ++ m.output.effects
      acted = moved_since arts x es js w new e j m same a ∙ (let t : (a.0 == a.0) ≡ true = eq-eqb a.0 a.0 refl in rw t refl)

      other : (u : NodeId) → (a.0 == u.0) ≡ false → effects_since es2 js2 u ≡ effects_since es js u
      other u f = moved_since arts x es js w new e j m same u ∙ rw f (append-nil (effects_since es js u))

      now : (place : ℕ) → played_since es2 js2 a place ≡ shelf (store_at m.after.parts.prio place)
      now place =
          ap (shelf_by place no_shelf) acted ∙ held_both place no_shelf (effects_since es js a) m.output.effects
          ∙ ap (λ hs. shelf_by place hs m.output.effects) (h.held_is a m.node place m.is_there) ∙ (turns.leads place).held

  rested_on : SettingFits arts x → (w new : World) → Rest x w e j new → LifeSharePart x es js w → LifeSharePart x es2 js2 new
  rested_on fits w new rest h = record {
    nodes = λ u n at. are u n (rest.nodes u n at);
    held_is = λ u n place at. holds u n place (rest.nodes u n at);
    shares = λ u place. elim (cases_Bool (is_start_of u e)) [
      | inl begins ↦ subst (Steps x.store place no_shelf) (sym (since_start es js e j same u begins)) tt
      | inr later ↦
          subst (Steps x.store place no_shelf) (sym (since_more es js e j same u later))
          (shares_both x.store place no_shelf (effects_since es js u) (told_at u (λ y. y ∷ []) (e, j)) (h.shares u place)
          (leads_away x.store place (played_since es js u place) (told_at u (λ y. y ∷ []) (e, j)) (quiet u place)).shares)
    ];
  }
    where
      nothing : AllAway j.effects
      nothing = elim rest.tells [
        | inl none ↦ subst AllAway (sym none) none_away
        | inr one ↦ subst AllAway (sym one.1) (λ place. (Signs_it, tt))
      ]

      quiet : (u : NodeId) → AllAway (told_at u (λ y. y ∷ []) (e, j))
      quiet u = either_away ((acting e).0 == u.0) (flat_map (λ y. y ∷ []) j.effects) (subst AllAway (sym (as_they_are j.effects)) nothing)

      are : (u : NodeId) (n : NodeState) → Lived x w e u n → PlacesAre x.store n.parts.prio
      are u n (Ran later was) =
          subst (λ (p : Parts). PlacesAre x.store p.prio) (sym (readied_parts x w was.before n was.readied).0) (h.nodes u was.before was.is_there)
      are u n (Begun begins weights places) = subst (PlacesAre x.store) (sym places) (places_at_boot arts x u fits)

      holds : (u : NodeId) (n : NodeState) (place : ℕ) → Lived x w e u n → played_since es2 js2 u place ≡ shelf (store_at n.parts.prio place)
      holds u n place (Ran later was) =
          ap (shelf_by place no_shelf) (since_more es js e j same u later)
          ∙ held_both place no_shelf (effects_since es js u) (told_at u (λ y. y ∷ []) (e, j))
          ∙ (leads_away x.store place (played_since es js u place) (told_at u (λ y. y ∷ []) (e, j)) (quiet u place)).held
          ∙ h.held_is u was.before place was.is_there
          ∙ sym (ap (λ (p : Parts). shelf (store_at p.prio place)) (readied_parts x w was.before n was.readied).0)
      holds u n place (Begun begins weights places) =
          ap (shelf_by place no_shelf) (since_start es js e j same u begins) ∙ empty_at_boot arts x u place fits
          ∙ sym (ap (λ (p : PrioState). shelf (store_at p place)) places)

shares_on : (arts : Arts) (x : Setting) (es : List Event) (js : List JournalEntry) (old : World) (e : Event) (j : JournalEntry) (new : World)
    → SettingFits arts x → Carries x.topology.format arts
    → KeysStand x es old → Signs arts x es js old → InRange x es e → (turn : Turn arts x old e j new) → forged_in arts x es js old e j new turn ≡ None
    → LifeSharePart x es js old → LifeSharePart x (es ++ e ∷ []) (js ++ j ∷ []) new
shares_on arts x es js old e j new fits reads keys signs range (Moves m) unforged h =
    let w = ready x old e in
    let there = signs_ready arts x es js old e keys signs in
    let is = there.nodes (acting e) m.node m.is_there in
    let me : m.after.fixed.me ≡ acting e =
    ap (λ (f : Fixed). f.me) (step_stays arts m.node m.input m.output m.after m.step).fixed ∙ node_is w.nodes (acting e) m.node m.is_there in
    let before = shares_ready x es js old e h in
    moved_on arts x es js e j signs.entries w new m me before
    (turned x arts fits (Good arts x es js) (acting e) m.node m.input m.output m.after m.step
    (input_fits arts x es w m.node e m.input fits reads there.bytes range.fields m.reaches) is (before.nodes (acting e) m.node m.is_there))
shares_on arts x es js old e j new fits reads keys signs range (Stays spends) unforged h =
    rested_on arts x es js e j signs.entries fits old new (spends_rest x old e j new spends) h
shares_on arts x es js old e j new fits reads keys signs range (Lives on life) unforged h =
    rested_on arts x es js e j signs.entries fits old new (life_rest arts x es old e j new on keys range (life_case arts x old e j new life)) h

-- ---- a whole run

shares_begin : (arts : Arts) (x : Setting) → SettingFits arts x → LifeSharePart x [] [] (at_start x)
shares_begin arts x fits = record {
  nodes = λ u n at.
      let is = started x (nodes_of x.topology) u n (plain_start x u n at).1 in
      subst (λ (y : NodeState). PlacesAre x.store y.parts.prio) (sym is.0) (places_at_boot arts x u fits);
  held_is = λ u n place at.
      let is = started x (nodes_of x.topology) u n (plain_start x u n at).1 in
      subst (λ (y : NodeState). no_shelf ≡ shelf (store_at y.parts.prio place)) (sym is.0) (empty_at_boot arts x u place fits);
  shares = λ u place. tt;
}

shares_hold : (arts : Arts) (x : Setting) (es : List Event) (js : List JournalEntry) (w : World) → SettingFits arts x → Carries x.topology.format arts
    → Clean arts x es js w → LifeSharePart x es js w
shares_hold arts x es js w fits reads Starts = shares_begin arts x fits
shares_hold arts x es js w fits reads (Turned {es = es'} {js = js'} {old = old} {e = e} {j = j} run range turn unforged) =
    shares_on arts x es' js' old e j w fits reads (key_files_stand arts x es' js' old fits run) (signs arts x es' js' old fits reads run) range turn unforged
    (shares_hold arts x es' js' old fits reads run)

-- ---- the laws

shares_of : (x : Setting) (es : List Event) (js : List JournalEntry) (w : World) → LifeSharePart x es js w
    → (u : NodeId) (place : ℕ) → AreShares x.store place [] (effects_since es js u)
shares_of x es js w part u place = shares_from_start x.store place (effects_since es js u) (part.shares u place)

pub turns_keep_shares : TurnsKeepShares
turns_keep_shares = record { turn = shares_on; claims = shares_of }

pub evictions_leave_shares_over_lives : LifeEvictionsLeaveShares
evictions_leave_shares_over_lives arts x es js w fits reads run = shares_of x es js w (shares_hold arts x es js w fits reads run)

-- without epochs no life ends
pub places_are_told : PlacesAreTold
places_are_told arts x es js w fits reads run =
    let part = shares_hold arts x es js w fits.fits reads run in
    let all : (u : NodeId) → effects_since es js u ≡ effects_at es js u = since_is_all arts x es js w fits.plain run in
    record {
      nodes = part.nodes;
      held_is = λ u n place at. ap (shelf_by place no_shelf) (sym (all u)) ∙ part.held_is u n place at;
      shares = λ u place. subst (Steps x.store place no_shelf) (all u) (part.shares u place);
    }

pub evictions_leave_shares : EvictionsLeaveShares
evictions_leave_shares arts x es js w fits reads run = λ u place.
    subst (AreShares x.store place []) (since_is_all arts x es js w fits.plain run u)
    (evictions_leave_shares_over_lives arts x es js w fits.fits reads run u place)
