-- A frame between two nodes that stay up, which is passed before the next is made: its receiver learns its maker's boot, and where the maker knew the
-- receiver's, it takes what the frame carries of starts, now or before.
use Rattle.std.proofs.Common.{◌≡◌, ◌<◌, ◌≤◌, ℕ, ◌+◌, ◌==◌, Bool, true, false, cond, max, List, [], ◌∷◌, ◌++◌, Some, refl, sym}
use Rattle.std.proofs.Common.{ap, subst, ◌∙◌, inl, inr, arith}
use Rattle.std.specs.Prelude.{IsTrue, ◌&&◌, ◌||◌, nat_lt, slice_get}
use Rattle.std.specs.List.{list_any}
use Rattle.std.proofs.lemmas.Bool.{cases_lt, eq-eqb, eqb-true, lt-ltb}
use Rattle.std.proofs.lemmas.Option.{same_Some, slice_get_within}
use Rattle.sp_base.specs.declared.id.NodeId.{NodeId}
use Rattle.sp_frame.specs.declared.head.Head.{Head}
use Rattle.sp_rules.specs.Arrivals.{link_after, reply_at}
use Rattle.sp_rules.specs.Arts.{Arts}
use Rattle.sp_rules.specs.Link.{Link, is_above, pair_of}
use Rattle.sp_rules.specs.Node.{NodeState, is_link, link_in}
use Rattle.sp_rules.specs.Parts.{Fixed}
use Rattle.sp_rules.specs.Polls.{frame_to}
use Rattle.sp_rules.specs.Steps.{Datagram}
use Rattle.laws_runs.proofs.Lives.{step_stays}
use Rattle.laws_runs.proofs.Ready.{readied_parts}
use Rattle.sp_runs.specs.Lives.{ready}
use Rattle.sp_runs.specs.Runs.{is_hop, is_poll, next_frame}
use Rattle.sp_runs.specs.Settings.{Setting}
use Rattle.sp_runs.specs.Worlds.{frames_in, node_in}
use Rattle.sp_schedule_events.specs.declared.event.Event.{Event}
use Rattle.laws_progress.proofs.Becomes.{readied_keeps}
use Rattle.laws_progress.proofs.Heads.{HeadIs, frame_head, heads_are}
use Rattle.laws_progress.proofs.Known.{after_is, known_rises}
use Rattle.laws_progress.proofs.KnownRuns.{KnowsOf, knows_of}
use Rattle.laws_progress.proofs.LastBoots.{last_boot, running_boot}
use Rattle.laws_progress.proofs.Links.{Hears, LinkAfter, Rests, Sends, link_step}
use Rattle.laws_progress.proofs.Made.{FramesTurn, Leaves, Makes, Misses, frames_count, frames_turn}
use Rattle.laws_progress.proofs.Polls.{both_ways}
use Rattle.laws_progress.proofs.Rows.{link_there, rows_are}
use Rattle.laws_progress.proofs.SpreadFacts.{Sees}
use Rattle.laws_progress.proofs.States.{Follow, Follows, IsHop, seen_at}
use Rattle.laws_progress.proofs.UpFacts.{sees}
use Rattle.laws_progress.proofs.UpStates.{Interval, StepOf, Took, UpNext, UpState, took}

-- two nodes that stay up, joined by an edge
pub record UpHop (c : Interval) (u v : NodeId) : Type 0 where
  pub near : c.Up u
  pub far : c.Up v
  pub joined : IsTrue (is_hop c.x u v)

-- a frame that one makes for the other in a state
pub record Frame (c : Interval) : Type 0 where
  pub state : UpState c
  pub from : NodeId
  pub to : NodeId
  pub hop : UpHop c from to
  pub maker : NodeState
  pub there : node_in state.state.world.nodes from ≡ Some maker

-- ---- pairs

pub above_is : (p q : ℕ × ℕ) → q.0 ≤ p.0 → (q.0 ≡ p.0 → q.1 < p.1) → is_above p q ≡ true
above_is p q low less = elim (cases_lt q.0 p.0) [
  | inl lt ↦ let t = lt-ltb _ _ lt in rw t refl
  | inr least ↦
      let same : q.0 ≡ p.0 = omega (arith, low, least) in
      let turn : (p.0 == q.0) ≡ true = eq-eqb _ _ (sym same) in
      let t = lt-ltb _ _ (less same) in
      either_way (nat_lt q.0 p.0) (p.0 == q.0) (nat_lt q.1 p.1) turn t
]
  where
    either_way : (a b c : Bool) → b ≡ true → c ≡ true → (a || (b && c)) ≡ true
    either_way true b c is_b is_c = refl
    either_way false b c is_b is_c = rw (is_b, is_c) refl

-- what a frame that wasn't fresh leaves is below each pair above what was there and above the boot
pub learned_below : (p : ℕ × ℕ) (l k : Link) (h : Head) → k.peer_boot ≡ max l.peer_boot h.boot
    → k.seen ≡ cond (nat_lt l.peer_boot (max l.peer_boot h.boot)) (max l.peer_boot h.boot, 0) l.seen → k.peer_boot ≤ p.0 → 0 < p.1
    → is_above p l.seen ≡ true → is_above p k.seen ≡ true
learned_below p l k h boot seen low some above =
    ap (is_above p) seen ∙ go (nat_lt l.peer_boot (max l.peer_boot h.boot)) (omega (arith, boot, low))
  where
    go : (t : Bool) → max l.peer_boot h.boot ≤ p.0 → is_above p (cond t (max l.peer_boot h.boot, 0) l.seen) ≡ true
    go true below = above_is p (max l.peer_boot h.boot, 0) below (λ same. some)
    go false below = above

module _ (c : Interval) where
  abbrev arts : Arts
  arts = c.arts

  abbrev x : Setting
  x = c.x

  abbrev W : Type 0
  W = UpState c

  abbrev at : Sees W
  at = sees c

  pub hop_of : (u v : NodeId) → UpHop c u v → IsHop x u v
  hop_of u v h = record { first = c.correct u h.near; second = c.correct v h.far; joined = h.joined }

  pub turned : (u v : NodeId) → UpHop c u v → UpHop c v u
  turned u v h = record { near = h.far; far = h.near; joined = (both_ways x u v (hop_of u v h)).joined }

  -- ---- boots

  pub boot_of : (w : W) (u : NodeId) (n : NodeState) → node_in w.state.world.nodes u ≡ Some n → n.fixed.boot ≡ last_boot x w.state.world u
  boot_of w u n there = running_boot arts x w.state.events w.state.journal w.state.world c.fits c.reads.carries w.state.run u n there

  pub boot_stays : (w y : W) (e : Event) → UpNext c w e y → (u : NodeId) → c.Up u → last_boot x y.state.world u ≡ last_boot x w.state.world u
  boot_stays w y e next u up =
      let t = took c w y e next u up in
      let fixed = (readied_parts x w.state.world t.before t.node t.readied).1 in
      let same : t.after.fixed ≡ t.node.fixed = elim t.how [
        | inl still ↦ ap (λ (m : NodeState). m.fixed) still.0
        | inr s ↦ (step_stays arts t.node s.input s.output t.after s.step).fixed
      ] in
      sym (boot_of y u t.after t.left) ∙ ap (λ (f : Fixed). f.boot) (same ∙ fixed) ∙ boot_of w u t.before t.there

  -- ---- what an event makes of a link

  pub data LinkGoes (w y : W) (e : Event) (u v : NodeId) (t : Took arts x w.state.world y.state.world e u) : Type 0 where
    Quiet : (link_in t.after v).peer_boot ≡ (link_in t.node v).peer_boot → (link_in t.after v).seen ≡ (link_in t.node v).seen → LinkGoes w y e u v t
    Comes : (s : StepOf arts x w.state.world e u t.node t.after) (bytes : List ℕ) → s.input ≡ Datagram v bytes
        → link_in t.after v ≡ link_after arts t.node v bytes → LinkGoes w y e u v t

  -- it has a row for the neighbour
  pub has_link : (w y : W) (e : Event) (u v : NodeId) → UpHop c u v → (t : Took arts x w.state.world y.state.world e u)
      → list_any (is_link v) t.node.links ≡ true
  has_link w y e u v h t =
      let rows = rows_are arts x w.state.events w.state.journal w.state.world c.fits c.reads.carries w.state.run u t.before t.there in
      readied_keeps x w.state.world t.before t.node (λ q. list_any (is_link v) q.links ≡ true) (λ upto same. same) t.readied
      (link_there x u v t.before rows h.joined)

  pub link_goes : (w y : W) (e : Event) (u v : NodeId) → UpHop c u v → (t : Took arts x w.state.world y.state.world e u) → LinkGoes w y e u v t
  link_goes w y e u v h t = elim t.how [
    | inl still ↦ Quiet (ap (λ (m : NodeState). (link_in m v).peer_boot) still.0) (ap (λ (m : NodeState). (link_in m v).seen) still.0)
    | inr s ↦
        let there = has_link w y e u v h t in
        go s (link_step arts x t.node s.input s.output t.after v (next_frame (ready x w.state.world e) e) s.entry.reply there s.step s.journal.reply)
  ]
    where
      go : (s : StepOf arts x w.state.world e u t.node t.after) → LinkAfter arts t.node s.input t.after v → LinkGoes w y e u v t
      go s (Rests quiet same) = Quiet (ap (λ (l : Link). l.peer_boot) same) (ap (λ (l : Link). l.seen) same)
      go s (Sends is same) = Quiet (ap (λ (l : Link). l.peer_boot) same) (ap (λ (l : Link). l.seen) same)
      go s (Hears bytes is same) = Comes s bytes is same

  -- what u knows of v
  pub of_link : (w : W) (u v : NodeId) → UpHop c u v → (n : NodeState) → node_in w.state.world.nodes u ≡ Some n → KnowsOf x w.state.world u v (link_in n v)
  of_link w u v h n there =
      knows_of arts x w.state.events w.state.journal w.state.world c.fits c.reads.carries c.reads.heads w.state.run u v (hop_of u v h) n there

  -- a boot that is known stays known
  pub known : (w y : W) (e : Event) (u v : NodeId) → UpHop c u v → UpNext c w e y → at.knows w u v ≡ true → at.knows y u v ≡ true
  known w y e u v h next knows =
      let t = took c w y e next u h.near in
      let was : (link_in t.before v).peer_boot ≡ last_boot x w.state.world v =
      eqb-true _ _ (sym (ap (seen_at false (λ m. (link_in m v).peer_boot == last_boot x w.state.world v)) t.there) ∙ knows) in
      let link = of_link w u v h t.before t.there in
      let ready_is = readied_keeps x w.state.world t.before t.node (λ m. link_in m v ≡ link_in t.before v) (λ upto same. same) t.readied refl in
      let boot = ap (λ (l : Link). l.peer_boot) ready_is in
      let pair = ap (λ (l : Link). l.seen.0) ready_is in
      let below = (of_link y u v h t.after t.left).below in
      let life = boot_stays w y e next v h.far in
      let more : (link_in t.node v).peer_boot ≤ (link_in t.after v).peer_boot = elim (link_goes w y e u v h t) [
        | Quiet same seen ↦ omega (arith, same)
        | Comes s bytes is same ↦
            let seen : (link_in t.node v).seen.0 ≡ (link_in t.node v).peer_boot = pair ∙ link.seen ∙ sym boot in
            let up =
            (known_rises (link_in t.node v) (link_after arts t.node v bytes) (arts.head bytes) (reply_at arts t.node v bytes) seen
            (after_is arts t.node v bytes)).1 in
            let after = ap (λ (l : Link). l.peer_boot) same in
            omega (arith, up, after)
      ] in
      ap (seen_at false (λ m. (link_in m v).peer_boot == last_boot x y.state.world v)) t.left ∙ eq-eqb _ _ (omega (arith, was, boot, more, below, life))

  -- ---- one frame of u for v

  module _ (f : Frame c) where
    abbrev w : W
    w = f.state

    abbrev u : NodeId
    u = f.from

    abbrev v : NodeId
    v = f.to

    abbrev n : NodeState
    n = f.maker

    abbrev pub frame : List ℕ
    frame = frame_to arts n v

    abbrev pub pair : ℕ × ℕ
    pair = (n.fixed.boot, (link_in n v).sent + 1)

    -- it is the last of its direction, and both lives go on
    pub record Lasts (y : W) : Type 0 where
      pub made : frames_in y.state.world.directions u v ≡ frames_in w.state.world.directions u v ++ Some frame ∷ []
      pub near : last_boot x y.state.world u ≡ n.fixed.boot
      pub far : last_boot x y.state.world v ≡ last_boot x w.state.world v

    -- v would take it, as far as its pair goes
    abbrev pub Awaits : W → Type 0
    Awaits y = (m : NodeState) → node_in y.state.world.nodes v ≡ Some m → is_above pair (link_in m u).seen ≡ true

    pub head_at : HeadIs u v n.fixed.boot ((link_in n v).sent + 1) (arts.head frame)
    head_at =
        frame_head arts x w.state.events w.state.journal w.state.world c.fits c.reads.carries c.reads.heads w.state.run u v f.hop.joined n f.there

    pub lasts_on : (y z : W) (e : Event) → UpNext c y e z → is_poll u v e ≡ false → Lasts y → Lasts z
    lasts_on y z e next off l = record {
      made = same_frames next.follows ∙ l.made;
      near = boot_stays y z e next u f.hop.near ∙ l.near;
      far = boot_stays y z e next v f.hop.far ∙ l.far;
    }
      where
        of : FramesTurn arts y.state.world e z.state.world u v → frames_in z.state.world.directions u v ≡ frames_in y.state.world.directions u v
        of (Makes on b there is) = absurd (let wrong : true ≡ false = sym on ∙ off in cc)
        of (Misses on down is) = absurd (let wrong : true ≡ false = sym on ∙ off in cc)
        of (Leaves none is) = is

        same_frames : Follows arts x c.all y.state e z.state → frames_in z.state.world.directions u v ≡ frames_in y.state.world.directions u v
        same_frames (Follow j events journal range turn unforged) = of (frames_turn arts x y.state.world e j z.state.world turn u v)

    -- ---- until it is passed

    -- what u's head of it says
    pub head_is : pair_of (arts.head frame) ≡ pair
    head_is = ap (λ (b : ℕ). (b, (arts.head frame).counter)) head_at.boot_is ∙ ap (λ (c : ℕ). (n.fixed.boot, c)) head_at.counter_is

    -- a frame that was made before is below it
    pub made_below : (k : ℕ) (bytes : List ℕ) → slice_get (frames_in w.state.world.directions u v) k ≡ Some (Some bytes)
        → is_above pair (pair_of (arts.head bytes)) ≡ true
    made_below k bytes is =
        let p = heads_are arts x w.state.events w.state.journal w.state.world c.fits c.reads.carries c.reads.heads w.state.run u v f.hop.joined k bytes is in
        let low = slice_get_within (frames_in w.state.world.directions u v) k (Some bytes) is in
        let count = frames_count arts x w.state.events w.state.journal w.state.world w.state.run u v in
        let boot = p.head.boot_is in
        let counter = p.head.counter_is in
        let born = p.born in
        let life = boot_of w u n f.there in
        above_is pair (pair_of (arts.head bytes)) (omega (arith, boot, born, life)) (λ same.
        let number = p.number n f.there (omega (arith, same, boot)) in omega (arith, number, counter, low, count))

    pub stays_above : (y z : W) (e : Event) (t : Took arts x y.state.world z.state.world e v) → is_above pair (link_in t.after u).seen ≡ true → Awaits z
    stays_above y z e t above m at_m = subst (λ (q : NodeState). is_above pair (link_in q u).seen ≡ true) (same_Some t.after m (sym t.left ∙ at_m)) above
