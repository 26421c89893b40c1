-- A frame that a node took of a neighbour's life: what it tells, and what it leaves of what is seen of that neighbour.
use Rattle.sp_rules.specs.Rel.{no_view}
use Rattle.laws_node.specs.Flows.{RelHolds}
use Rattle.laws_progress.proofs.Becomes.{readied_keeps}
use Rattle.laws_progress.proofs.Changes.{Acted, holds_both, life_is}
use Rattle.laws_progress.proofs.Greets.{greet_view, greeted_peer, greeted_rows}
use Rattle.laws_progress.proofs.Versions.{served_contents}
use Rattle.laws_progress.proofs.Hears.{boots_stay, epochs_are, is_of, knows, peer_row, view_off}
use Rattle.laws_progress.proofs.Meetings.{HandledAt, TakenAt}
use Rattle.laws_progress.proofs.MakesNow.{frame_told}
use Rattle.laws_progress.proofs.Rises.{greeted_flows}
use Rattle.laws_progress.proofs.SlotHeeds.{SlotDone, slot_done}
use Rattle.laws_progress.proofs.Slots.{SameFlow, after_slot, frame_flows}
use Rattle.laws_progress.proofs.States.{heard_of, Era, IsBetween, IsEra, Watched, in_era, in_life, has_met, view_at, numbered}
use Rattle.laws_progress.proofs.Views.{RelRows, views_are}
use Rattle.laws_progress.proofs.Wires.{of_version, told_of, told_slot, wires}
use Rattle.laws_runs.proofs.FlowRows.{row_of_keys}
use Rattle.laws_runs.proofs.Lists.{both}
use Rattle.laws_runs.proofs.StartPieces.{greeted_lives}
use Rattle.laws_runs.specs.Past.{holds}
use Rattle.laws_runs.specs.Premises.{ComesThrough}
use Rattle.laws_runs.specs.Signs.{Good, sizes_at}
use Rattle.sp_base.specs.declared.id.NodeId.{NodeId}
use Rattle.sp_frame.specs.Sections.{Contents}
use Rattle.sp_rules.specs.Arrivals.{arrival_at, has_risen, heeded, link_after, parts_met}
use Rattle.sp_rules.specs.Flow.{ends, is_flow}
use Rattle.sp_rules.specs.Handle.{handle_all}
use Rattle.sp_rules.specs.Kflow.{came_over}
use Rattle.sp_rules.specs.Lives.{held_boot}
use Rattle.sp_rules.specs.Node.{NodeState, link_in}
use Rattle.sp_rules.specs.Parts.{Parts, nodes_of}
use Rattle.sp_rules.specs.Pieces.{pieces_of}
use Rattle.sp_rules.specs.Polls.{contents_at, contents_to}
use Rattle.sp_rules.specs.Rel.{RelState, View, is_peer, peer_in, view_in}
use Rattle.sp_runs.specs.Settings.{SettingFits, Setting}
use Rattle.sp_runs.specs.Worlds.{frame_in}
use Rattle.std.proofs.Common.{Bool, ap, false, inl, inr, map, nat_lt, not, refl, subst, sym, ◌<◌, ◌==◌, ◌||◌, ◌∙◌, ◌⊎◌, ℕ, ◌≤◌, ◌≡◌, ◌+◌, arith, List, suc}
use Rattle.std.proofs.Common.{true, zero, cond, ◌&&◌}
use Rattle.std.proofs.lemmas.Bool.{cases_Bool, cases_eq, eq-eqb, eqb-true, ltb-true, ne_eqb}
use Rattle.std.specs.List.{list_any}
use Rattle.std.specs.Option.{option_and_then}
use Rattle.sp_base.specs.declared.id.Flow.{Flow}
use Rattle.sp_schedule_events.specs.declared.event.Event.{Event}
use Rattle.sp_rules.specs.Link.{Link, is_above, pair_of}
use Rattle.sp_rules.specs.Arts.{Arts}
use Rattle.sp_frame.specs.declared.head.Head.{Head}
use Rattle.sp_rules.specs.Parts.{flows_of}
use Rattle.laws_node.proofs.FlowKinds.{flows_hold}
use Rattle.laws_progress.proofs.EitherKind.{slot_of_kind, heeded_slot_of}

numbered_some : (early counter : ℕ) → 1 ≤ counter → numbered early counter ≡ early + counter
numbered_some early zero some = absurd (omega (arith, some))
numbered_some early (suc c) some = refl

numbered_most : (early counter : ℕ) → numbered early counter ≤ early + counter
numbered_most early zero = omega arith
numbered_most early (suc c) = omega arith

-- of the same boot, its counter is above the last
above_counter : (h : Head) (l : Link) → l.seen.0 ≡ h.boot → is_above (pair_of h) l.seen ≡ true → l.seen.1 < h.counter
above_counter h l same above = elim (cases_Bool (nat_lt l.seen.0 h.boot)) [
  | inl t ↦ absurd (let lt = ltb-true l.seen.0 h.boot t in omega (arith, lt, same))
  | inr t ↦ ltb-true l.seen.1 h.counter (both (h.boot == l.seen.0) (nat_lt l.seen.1 h.counter) (rw t at above)).1
]

module _ (arts : Arts) (x : Setting) (all : List Event) (era : Era) (flow : Flow) (fits : SettingFits arts x)
    (reads : ComesThrough x.topology.format arts x.signature_len)
    (is_era : IsEra x flow era) (w y : Watched arts x all era) (e : Event) (u v : NodeId) (hop : IsBetween x era u v) (a : Acted arts x all era w y e v)
    (first : in_life era v a.node ≡ true) (second : in_life era v a.after ≡ true) (k : ℕ) (it : TakenAt arts x all era w u v a.node a.after k) where
  abbrev n : NodeState
  n = a.node

  abbrev m : NodeState
  m = a.after

  abbrev maker : NodeState
  maker = it.arrived.from.node

  abbrev sections : Contents
  sections = contents_to it.arrived.from.node.fixed it.arrived.from.node.parts v

  abbrev met : Parts
  met = parts_met arts a.node u it.bytes

  abbrev risen : Bool
  risen = has_risen (link_in a.node u) (link_after arts a.node u it.bytes)

  maker_life : it.arrived.from.node.fixed.boot ≡ era.life u
  maker_life = sym it.arrived.framed.head.boot_is ∙ it.life

  pub told_at : (wires arts x all era flow).told w u v (k + 1)
      ≡ of_version (it.arrived.from.node.live.version == era.version) (told_slot era flow true (slot_of_kind era.kind (contents_at it.arrived.from.node v)))
  told_at =
      let ds = w.at.world.directions in
      let mine : a.node.fixed.boot ≡ era.life v = (life_is era v a.node first).1 in
      let echo : ((link_in it.arrived.from.node v).peer_boot == era.life v) ≡ true = eq-eqb _ _ (sym it.arrived.framed.echo ∙ eqb-true _ _ it.echo ∙ mine) in
      ap (λ j. told_of arts x era flow u v (frame_in ds u v j)) (let q : k + 1 ≡ suc k = omega arith in q)
      ∙ ap (λ place. told_of arts x era flow u v (option_and_then (λ frame. frame) place)) it.arrived.there
      ∙ frame_told arts x era flow u v it.arrived.from.node it.bytes it.arrived.framed maker_life
      ∙ ap (λ t. of_version (it.arrived.from.node.live.version == era.version)
      (told_slot era flow t (slot_of_kind era.kind (contents_at it.arrived.from.node v)))) echo

  pub told_is : HandledAt arts u v a.node a.after it.arrived.from.node it.bytes → (wires arts x all era flow).told w u v (k + 1)
      ≡ of_version (it.arrived.from.node.live.version == era.version)
      (told_slot era flow true (slot_of_kind era.kind (contents_to it.arrived.from.node.fixed it.arrived.from.node.parts v)))
  told_is handled =
      told_at
      ∙ ap (λ (c : Contents). of_version (it.arrived.from.node.live.version == era.version) (told_slot era flow true (slot_of_kind era.kind c)))
      (served_contents it.arrived.from.node v handled.served)

  pub number_is : k + 1 ≡ era.early u v + (arts.head it.bytes).counter
  number_is = w.placed u v hop.first hop.hop.joined k it.bytes it.arrived.there it.life

  pub counts : 1 ≤ (arts.head it.bytes).counter
  counts = let some = it.arrived.placed.some in let same = it.arrived.placed.head.counter_is in omega (arith, some, same)

  pub lives_met : (parts_met arts a.node u it.bytes).lives ≡ a.node.parts.lives
  lives_met = greeted_lives a.node.fixed.epochs (has_risen (link_in a.node u) (link_after arts a.node u it.bytes)) u a.node.parts

  pub rel_is : RelHolds era.kind (sizes_at x (Good arts x w.at.events w.at.journal) v) a.node.signer.index (flows_of era.kind a.node.parts)
  rel_is =
      flows_hold era.kind (sizes_at x (Good arts x w.at.events w.at.journal) v) a.node.parts
      (is_of arts x all era flow fits reads is_era w y e u v hop a first second).holds.parts

  pub peers_row : list_any (is_peer u) (flows_of era.kind a.node.parts).peers ≡ true
  peers_row = peer_row arts x all era flow fits reads is_era w y e u v hop a first second

  pub flow_row : list_any (is_flow flow) (flows_of era.kind a.node.parts).flows ≡ true
  flow_row = row_of_keys (nodes_of x.topology) flow.src flow.dst (flows_of era.kind a.node.parts).flows is_era.right.different (both _ _ is_era.right.from).0
      (both _ _ is_era.right.to).0 rel_is.keys

  pub views_rows : RelRows (nodes_of x.topology) (flows_of era.kind a.node.parts)
  views_rows = readied_keeps x w.at.world a.before a.node (λ q. RelRows (nodes_of x.topology) (flows_of era.kind q.parts)) (λ upto h. h) a.readied
      (views_are era.kind arts x w.at.events w.at.journal w.at.world fits reads.carries w.at.run v a.before a.there)

  pub flows_met : (flows_of era.kind (parts_met arts a.node u it.bytes)).flows ≡ (flows_of era.kind a.node.parts).flows
  flows_met = greeted_flows era.kind a.node.fixed.epochs (has_risen (link_in a.node u) (link_after arts a.node u it.bytes)) u a.node.parts

  -- where the boots that count are held
  module _ (held : holds a.node flow.src era.sboot flow.dst era.dboot ≡ true) where
    stay : (holds a.after flow.src era.sboot flow.dst era.dboot ≡ true) × (held_boot a.after.parts.lives flow.src ≡ held_boot a.node.parts.lives flow.src)
        × (held_boot a.after.parts.lives flow.dst ≡ held_boot a.node.parts.lives flow.dst)
    stay = boots_stay arts x all era flow fits reads is_era w y e u v hop a first second held

    -- the slot, on the parts that it meets
    abbrev pub rel_after : RelState
    rel_after = after_slot arts a.node.fixed (parts_met arts a.node u it.bytes).lives (came_over (parts_met arts a.node u it.bytes).kflow u)
        (flows_of era.kind (parts_met arts a.node u it.bytes)) u (slot_of_kind era.kind (contents_to it.arrived.from.node.fixed it.arrived.from.node.parts v))

    pub left_is : HandledAt arts u v a.node a.after it.arrived.from.node it.bytes → SameFlow flow rel_after (flows_of era.kind a.after.parts)
    left_is handled =
        let heard = heeded a.node.fixed (contents_to it.arrived.from.node.fixed it.arrived.from.node.parts v) in
        let boots : (z : NodeId) → held_boot a.after.parts.lives z ≡ held_boot a.node.parts.lives z
        → held_boot (handle_all arts (arrival_at a.node u) (parts_met arts a.node u it.bytes) (pieces_of heard)).parts.lives z
        ≡ held_boot (parts_met arts a.node u it.bytes).lives z =
        λ z same. sym (ap (λ (p : Parts). held_boot p.lives z) handled.parts) ∙ same ∙ sym (ap (λ ls. held_boot ls z) lives_met) in
        let same = frame_flows era.kind arts (arrival_at a.node u) (parts_met arts a.node u it.bytes) heard flow (boots flow.src stay.1) (boots flow.dst stay.2)
        in
        let slot = heeded_slot_of era.kind a.node.fixed (contents_to it.arrived.from.node.fixed it.arrived.from.node.parts v) in
        subst (λ (p : Parts). SameFlow flow rel_after (flows_of era.kind p)) (sym handled.parts)
        (subst (λ s. SameFlow flow (after_slot arts a.node.fixed (parts_met arts a.node u it.bytes).lives
        (came_over (parts_met arts a.node u it.bytes).kflow u) (flows_of era.kind (parts_met arts a.node u it.bytes)) u s)
        (flows_of era.kind (handle_all arts (arrival_at a.node u) (parts_met arts a.node u it.bytes) (pieces_of heard)).parts)) slot same)

    pub done : SlotDone flow (flows_of era.kind (parts_met arts a.node u it.bytes)) rel_after u
        (told_slot era flow true (slot_of_kind era.kind (contents_to it.arrived.from.node.fixed it.arrived.from.node.parts v)))
    done =
        let boots = holds_both a.node flow.src flow.dst era.sboot era.dboot held in
        slot_done arts a.node.fixed (parts_met arts a.node u it.bytes).lives (came_over (parts_met arts a.node u it.bytes).kflow u) (nodes_of x.topology)
        (flows_of era.kind (parts_met arts a.node u it.bytes)) u era flow
        (slot_of_kind era.kind (contents_to it.arrived.from.node.fixed it.arrived.from.node.parts v)) (ap (λ ls. held_boot ls flow.src) lives_met ∙ boots.0)
        (ap (λ ls. held_boot ls flow.dst) lives_met ∙ boots.1)
        (greeted_rows era.kind (nodes_of x.topology) a.node.fixed.epochs (has_risen (link_in a.node u) (link_after arts a.node u it.bytes)) u a.node.parts
        peers_row
        views_rows)
        (ap (map ends) flows_met ∙ rel_is.keys)
        (greeted_peer era.kind a.node.fixed.epochs (has_risen (link_in a.node u) (link_after arts a.node u it.bytes)) u a.node.parts peers_row)
        (ap (list_any (is_flow flow)) flows_met ∙ flow_row)

    met_life : (not x.epochs || ((link_after arts a.node u it.bytes).peer_boot == era.life u)) ≡ true
    met_life =
        let same : ((link_after arts a.node u it.bytes).peer_boot == era.life u) ≡ true =
        eq-eqb _ _ (ap (λ (l : Link). l.peer_boot) (sym it.link) ∙ it.boot ∙ it.life) in
        rw same (either x.epochs)
      where
        either : (t : Bool) → (not t || true) ≡ true
        either true = refl
        either false = refl

    -- what was seen before, and what is seen after
    pub before_view : view_in (peer_in (flows_of era.kind (parts_met arts a.node u it.bytes)).peers u).views flow ≡ view_at x era flow v u a.node
    before_view =
        let seen = greet_view arts x era flow u v a.node it.bytes (epochs_are arts x all era flow fits reads is_era w y e u v hop a first second) peers_row
        it.rise it.top in
        let met = met_life in
        let is : cond (in_era era flow v a.node && (not x.epochs || ((link_after arts a.node u it.bytes).peer_boot == era.life u)))
        (view_in (peer_in (flows_of era.kind (parts_met arts a.node u it.bytes)).peers u).views flow) (no_view flow)
        ≡ view_in (peer_in (flows_of era.kind (parts_met arts a.node u it.bytes)).peers u).views flow = rw (first, held, met) refl in
        sym is ∙ seen

    pub after_view : HandledAt arts u v a.node a.after it.arrived.from.node it.bytes → view_at x era flow v u a.after
        ≡ view_in (peer_in rel_after.peers u).views flow
    after_view handled =
        let now = stay.0 in
        let met : has_met x era u a.after ≡ true = ap (λ (l : Link). not x.epochs || (l.peer_boot == era.life u)) it.link ∙ met_life in
        rw (second, now, met) ((left_is handled).views u)

    pub views_held : HandledAt arts u v a.node a.after it.arrived.from.node it.bytes → (view_at x era flow v u a.after ≡ view_at x era flow v u a.node)
        ⊎ (((told_slot era flow true (slot_of_kind era.kind (contents_to it.arrived.from.node.fixed it.arrived.from.node.parts v))).mine ≡ true)
        × ((view_at x era flow v u a.after).base
        ≡ (told_slot era flow true (slot_of_kind era.kind (contents_to it.arrived.from.node.fixed it.arrived.from.node.parts v))).base)
        × ((view_at x era flow v u a.after).have
        ≡ (told_slot era flow true (slot_of_kind era.kind (contents_to it.arrived.from.node.fixed it.arrived.from.node.parts v))).have))
    views_held handled = elim done.views [
      | inl same ↦ inl (after_view handled ∙ same ∙ before_view)
      | inr got ↦ inr (got.0, ap (λ (z : View). z.base) (after_view handled) ∙ got.1, ap (λ (z : View). z.have) (after_view handled) ∙ got.2)
    ]

  -- the views of the neighbour stay, or are what the frame tells
  pub views_after : HandledAt arts u v a.node a.after it.arrived.from.node it.bytes → (view_at x era flow v u a.after ≡ view_at x era flow v u a.node)
      ⊎ (((told_slot era flow true (slot_of_kind era.kind (contents_to it.arrived.from.node.fixed it.arrived.from.node.parts v))).mine ≡ true)
      × ((view_at x era flow v u a.after).base
      ≡ (told_slot era flow true (slot_of_kind era.kind (contents_to it.arrived.from.node.fixed it.arrived.from.node.parts v))).base)
      × ((view_at x era flow v u a.after).have
      ≡ (told_slot era flow true (slot_of_kind era.kind (contents_to it.arrived.from.node.fixed it.arrived.from.node.parts v))).have))
  views_after handled = elim (cases_Bool (holds a.node flow.src era.sboot flow.dst era.dboot)) [
    | inl held ↦ views_held held handled
    | inr off ↦ inl (view_off arts x all era flow fits reads is_era w y e u v hop a first second off)
  ]

  pub heard_after : heard_of era v u a.after ≡ k + 1
  heard_after =
      let boot : ((link_in a.after u).peer_boot == era.life u) ≡ true = eq-eqb _ _ (it.boot ∙ it.life) in
      let counter = ap (λ (p : ℕ × ℕ). p.1) it.seen in
      let some = counts in
      let number = number_is in
      rw (second, boot)
      (ap (numbered (era.early u v)) counter ∙ (let z = numbered_some (era.early u v) (arts.head it.bytes).counter some in omega (arith, z, number)))

  pub heard_before : heard_of era v u a.node < k + 1
  heard_before = elim (cases_eq (link_in a.node u).peer_boot (era.life u)) [
    | inr other ↦ let t : ((link_in a.node u).peer_boot == era.life u) ≡ false = ne_eqb _ _ other in rw (first, t) (omega arith)
    | inl same ↦
        let t : ((link_in a.node u).peer_boot == era.life u) ≡ true = eq-eqb _ _ same in
        let knows = knows arts x all era flow fits reads is_era w y e u v hop a first second in
        let low = above_counter (arts.head it.bytes) (link_in a.node u) (knows.seen ∙ same ∙ sym it.life) it.above in
        let number = number_is in
        let z = numbered_most (era.early u v) (link_in a.node u).seen.1 in
        rw (first, t) (let some = counts in omega (arith, low, number, z, some))
  ]
