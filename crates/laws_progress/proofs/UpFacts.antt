-- What is seen of the nodes that stay up in an interval: the boots that they hold, the rows of what they hold of starts, and the cycles of their neighbours.
use Rattle.laws_progress.proofs.Becomes.{readied_keeps}
use Rattle.laws_progress.proofs.Versions.{has_heard}
use Rattle.std.specs.Prelude.{◌&&◌}
use Rattle.std.proofs.Common.{◌≡◌, ◌<◌, ◌≤◌, ℕ, ◌==◌, true, false, List, [], ◌∷◌, length, map, Option, Some, None, refl, sym, ap, subst, ◌∙◌, Bool, cond}
use Rattle.std.proofs.Common.{inl, inr, arith}
use Rattle.std.specs.List.{list_any}
use Rattle.std.proofs.lemmas.Bool.{cases_Bool}
use Rattle.sp_base.specs.Cursor.{next_after}
use Rattle.sp_base.specs.declared.id.NodeId.{NodeId}
use Rattle.sp_topology.specs.declared.topology.NodeKey.{NodeKey}
use Rattle.sp_rules.specs.Arts.{Arts}
use Rattle.sp_rules.specs.Link.{advanced}
use Rattle.sp_rules.specs.Lives.{held_boot, last_to, moved, next_row}
use Rattle.sp_rules.specs.Node.{NodeState, call_refusal, called, kept_or, link_in, with_link}
use Rattle.sp_rules.specs.Parts.{Fixed, Parts, place_in}
use Rattle.sp_rules.specs.Polls.{polled, is_served, parts_after}
use Rattle.sp_rules.specs.Steps.{NodeStep, Output, Poll}
use Rattle.sp_rules.specs.declared.node.NodeRefused.{NodeRefused}
use Rattle.laws_node.specs.Shapes.{Shape}
use Rattle.laws_node.proofs.Epochs.{boots_never_fall}
use Rattle.sp_runs.specs.Journals.{reply_word}
use Rattle.sp_runs.specs.Lives.{ready}
use Rattle.sp_runs.specs.Runs.{is_poll, next_frame, polls}
use Rattle.sp_runs.specs.Settings.{Setting, is_correct, is_node, is_one_of}
use Rattle.sp_runs.specs.Worlds.{World, node_in}
use Rattle.sp_schedule_events.specs.declared.event.Event.{Event}
use Rattle.laws_runs.specs.Signs.{Good, NodeIs}
use Rattle.laws_runs.proofs.Lists.{both}
use Rattle.laws_runs.proofs.Ready.{readied_parts}
use Rattle.laws_runs.proofs.Signed.{signs}
use Rattle.laws_progress.proofs.LastBoots.{last_boot}
use Rattle.laws_progress.proofs.Lasts.{no_poll}
use Rattle.laws_progress.proofs.LifePieces.{last_stays}
use Rattle.laws_progress.proofs.LifeRows.{AreRowsOf, all_rows, held_row, moved_here, place_low, rows_held, rows_within}
use Rattle.laws_progress.proofs.LinkRuns.{idle_poll, poll_input}
use Rattle.laws_progress.proofs.Polls.{answered}
use Rattle.laws_progress.proofs.Service.{IsWithin, is_on}
use Rattle.laws_progress.proofs.SpreadFacts.{IsCarried, Sees}
use Rattle.laws_progress.proofs.States.{seen_at}
use Rattle.laws_progress.proofs.UpStates.{Interval, UpNext, UpState, took}

-- where a node stands among all
abbrev pub place : Setting → NodeId → ℕ
place x u = place_in x.topology.nodes u

-- what is read off a node that runs
abbrev pub read : {X : Type 0} → X → (NodeState → X) → World → NodeId → X
read none what w u = seen_at none what (node_in w.nodes u)

-- the row that went last to a neighbour
abbrev pub last_of : Setting → NodeId → NodeState → Option ℕ
last_of x v n = last_to n.parts.origins (place x v)

abbrev pub sees : (c : Interval) → Sees (UpState c)
sees c = record {
  held = λ w u o. read 0 (λ n. held_boot n.parts.lives o) w.state.world u;
  knows = λ w u v. read false (λ n. (link_in n v).peer_boot == last_boot c.x w.state.world v) w.state.world u;
  polled = λ w u v. polls w.state.events u v;
  rows = λ w u. read [] (λ n. rows_held n.parts.lives) w.state.world u;
  last = λ w u v. read None (last_of c.x v) w.state.world u;
}

-- it knows the boot of a neighbour, and heard of the version
abbrev pub knows_both : Setting → (version boot : ℕ) → NodeId → NodeState → Bool
knows_both x version boot v n = ((link_in n v).peer_boot == boot) && has_heard x version v n

-- where they run under one version, what a node knows of a neighbour is both
abbrev pub sees_under : (c : Interval) → ℕ → Sees (UpState c)
sees_under c version = record {
  held = (sees c).held;
  knows = λ w u v. read false (knows_both c.x version (last_boot c.x w.state.world v) v) w.state.world u;
  polled = (sees c).polled;
  rows = (sees c).rows;
  last = (sees c).last;
}

-- a correct node is one of the topology
pub node_there : (x : Setting) (u : NodeId) → is_correct x u ≡ true → list_any (λ k. k.id.0 == u.0) x.topology.nodes ≡ true
node_there x u correct = of_key x.topology.nodes ((both (is_node x u) _ correct).0)
  where
    of_key : (ks : List NodeKey) → is_one_of (map (λ k. k.id) ks) u ≡ true → list_any (λ k. k.id.0 == u.0) ks ≡ true
    of_key [] is = is
    of_key (k ∷ ks) is = elim (cases_Bool (k.id.0 == u.0)) [
      | inl t ↦ rw t refl
      | inr t ↦ rw t (of_key ks (rw t at is))
    ]

module _ (c : Interval) where
  abbrev arts : Arts
  arts = c.arts

  abbrev x : Setting
  x = c.x

  abbrev W : Type 0
  W = UpState c

  abbrev at : Sees W
  at = sees c

  pub is_node_of : (w : W) (u : NodeId) (n : NodeState) → node_in w.state.world.nodes u ≡ Some n → NodeIs x (Good arts x w.state.events w.state.journal) u n
  is_node_of w u n there = (signs arts x w.state.events w.state.journal w.state.world c.fits c.reads.carries w.state.run).nodes u n there

  pub rows_of : (w : W) (u : NodeId) (n : NodeState) → node_in w.state.world.nodes u ≡ Some n → AreRowsOf x.topology.nodes n.parts.lives
  rows_of w u n there = ap (λ (s : Shape). s.lives) (is_node_of w u n there).shape

  pub topology_of : (w : W) (u : NodeId) (n : NodeState) → node_in w.state.world.nodes u ≡ Some n → n.fixed.topology.nodes ≡ x.topology.nodes
  topology_of w u n there = ap (λ (f : Fixed). f.topology.nodes) (is_node_of w u n there).fixed

  -- ---- of one state

  pub row_there : (w : W) (u o : NodeId) → c.Up u → 0 < at.held w u o → is_on (at.rows w u) (place x o) ≡ true
  row_there w u o up some =
      let n = w.runs u up in
      let there = n.1 in
      let low : 0 < held_boot n.0.parts.lives o = let same = ap (seen_at 0 (λ m. held_boot m.parts.lives o)) there in omega (arith, some, same) in
      ap (λ (z : Option NodeState). is_on (seen_at [] (λ m. rows_held m.parts.lives) z) (place x o)) there
      ∙ (held_row x.topology.nodes n.0.parts.lives o (rows_of w u n.0 there) low).on

  pub within : (w : W) (u : NodeId) → c.Up u → IsWithin (at.rows w u) (all_rows x.topology.nodes)
  within w u up place on =
      let n = w.runs u up in
      rows_within x.topology.nodes n.0.parts.lives (rows_of w u n.0 n.1) place
      (sym (ap (λ (z : Option NodeState). is_on (seen_at [] (λ m. rows_held m.parts.lives) z) place) n.1) ∙ on)

  -- ---- of one step

  pub held_rises : (w y : W) (e : Event) (u o : NodeId) → c.Up u → UpNext c w e y → at.held w u o ≤ at.held y u o
  held_rises w y e u o up next =
      let t = took c w y e next u up in
      let first = ap (seen_at 0 (λ m. held_boot m.parts.lives o)) t.there in
      let last = ap (seen_at 0 (λ m. held_boot m.parts.lives o)) t.left in
      let ready_is = ap (λ (p : Parts). held_boot p.lives o) (readied_parts x w.state.world t.before t.node t.readied).0 in
      elim t.how [
        | inl still ↦ let same = ap (λ (m : NodeState). held_boot m.parts.lives o) still.0 in omega (arith, first, last, ready_is, same)
        | inr s ↦ let up = boots_never_fall arts t.node s.input s.output t.after o s.step in omega (arith, first, last, ready_is, up)
      ]

  -- the row that goes next, as it is read off a node
  pub next_of : (w : W) (u v : NodeId) (p : ℕ) (n : NodeState) → node_in w.state.world.nodes u ≡ Some n → IsCarried W at p w u v
      → next_row n.parts.lives n.parts.origins (place x v) ≡ Some p
  next_of w u v p n there carried =
      subst (λ (z : Option NodeState). next_after (seen_at None (last_of x v) z) (seen_at [] (λ m. rows_held m.parts.lives) z) ≡ Some p) there carried

  -- where the frame carries what is in turn, the row in turn went last
  pub carries : (w y : W) (e : Event) (u v : NodeId) (p : ℕ) → c.Up u → c.Up v
      → ((n : NodeState) → node_in w.state.world.nodes u ≡ Some n → is_served n v ≡ true) → UpNext c w e y
      → is_poll u v e ≡ true → IsCarried W at p w u v
      → at.last y u v ≡ Some p
  carries w y e u v p up near serves next is carried =
      let t = took c w y e next u up in
      elim t.how [
        | inl still ↦ absurd (let wrong : true ≡ false = sym is ∙ idle_poll w.state.world e u v still.1 in cc)
        | inr s ↦
            let input = poll_input arts x (ready x w.state.world e) t.node e s.input u v is s.reaches in
            let step : NodeStep arts t.node (Poll v) s.output t.after = subst (λ i. NodeStep arts t.node i s.output t.after) input s.step in
            let word = ap (λ (o : Output). reply_word x (next_frame (ready x w.state.world e) e) o.reply) (sym step.0) ∙ s.journal.reply in
            let free = answered x (next_frame (ready x w.state.world e) e) (call_refusal t.node v) _ s.entry.reply word in
            let parts = readied_parts x w.state.world t.before t.node t.readied in
            let nodes : t.node.fixed.topology.nodes ≡ x.topology.nodes =
            ap (λ (f : Fixed). f.topology.nodes) parts.1 ∙ topology_of w u t.before t.there in
            let where_is : place_in t.node.fixed.topology.nodes v ≡ place x v = ap (λ (ks : List NodeKey). place_in ks v) nodes in
            let many : length t.node.parts.origins ≡ length x.topology.nodes =
            ap (λ (q : Parts). length q.origins) parts.0 ∙ ap (λ (q : Shape). q.origins) (is_node_of w u t.before t.there).shape in
            let low = place_low x.topology.nodes v (node_there x v (c.correct v near)) in
            let row = next_of w u v p t.before t.there carried in
            let row_now : next_row t.node.parts.lives t.node.parts.origins (place x v) ≡ Some p =
            ap (λ (q : Parts). next_row q.lives q.origins (place x v)) parts.0 ∙ row in
            let went : last_to (polled t.node.fixed t.node.parts v).origins (place x v) ≡ Some p =
            subst (λ (k : ℕ). last_to (moved t.node.parts.lives t.node.parts.origins k) (place x v) ≡ Some p) (sym where_is)
            (moved_here t.node.parts.lives t.node.parts.origins (place x v) p (omega (arith, many, low)) row_now) in
            let done = called t.node (with_link t.node v (advanced (link_in t.node v))) (parts_after t.node v) in
            let served : is_served t.node v ≡ true =
            readied_keeps x w.state.world t.before t.node (λ m. is_served m v ≡ true) (λ upto on. on) t.readied (serves t.before t.there) in
            ap (seen_at None (last_of x v)) t.left ∙ ap (last_of x v) step.1
            ∙ ap (λ (r : Option NodeRefused). last_of x v (kept_or r t.node done)) free
            ∙ ap (λ (b : Bool). last_to (cond b (polled t.node.fixed t.node.parts v) t.node.parts).origins (place x v)) served
            ∙ went
      ]

  pub carries_none : (w y : W) (e : Event) (u v : NodeId) → c.Up u → c.Up v → UpNext c w e y → is_poll u v e ≡ false → at.last y u v ≡ at.last w u v
  carries_none w y e u v up near next off =
      let t = took c w y e next u up in
      let parts = readied_parts x w.state.world t.before t.node t.readied in
      let first = ap (seen_at None (last_of x v)) t.there in
      let last = ap (seen_at None (last_of x v)) t.left in
      let ready_is : last_of x v t.node ≡ last_of x v t.before = ap (λ (q : Parts). last_to q.origins (place x v)) parts.0 in
      elim t.how [
        | inl still ↦ last ∙ ap (last_of x v) still.0 ∙ ready_is ∙ sym first
        | inr s ↦
            let quiet = no_poll arts x (ready x w.state.world e) t.node e s.input u v s.acts off s.reaches in
            let nodes : t.node.fixed.topology.nodes ≡ x.topology.nodes =
            ap (λ (f : Fixed). f.topology.nodes) parts.1 ∙ topology_of w u t.before t.there in
            let stays = last_stays arts t.node s.input s.output t.after v
            (ap (λ (ks : List NodeKey). list_any (λ k. k.id.0 == v.0) ks) nodes ∙ node_there x v (c.correct v near)) quiet s.step in
            last ∙ subst (λ (ks : List NodeKey). last_to t.after.parts.origins (place_in ks v) ≡ last_to t.node.parts.origins (place_in ks v)) nodes stays
            ∙ ready_is ∙ sym first
      ]
