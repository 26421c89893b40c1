-- In every state of a clean run the version that a node keeps of a correct neighbour in its present life is at most that one's, and so is the version of each
-- frame of that life.
use Rattle.std.proofs.Common.{◌≡◌, ◌≤◌, ◌⊎◌, ℕ, ◌+◌, ◌==◌, Bool, true, false, List, [], ◌∷◌, map, max, None, Some, refl, sym, ap, subst, ◌∙◌}
use Rattle.std.proofs.Common.{inl, inr, arith}
use Rattle.std.specs.Prelude.{nat_lt, slice_get}
use Rattle.std.specs.List.{list_any}
use Rattle.std.proofs.lemmas.Bool.{cases_Bool, eqb-true}
use Rattle.std.proofs.lemmas.Bool.Decides.{nat_tests}
use Rattle.std.proofs.lemmas.Option.{same_Some}
use Rattle.sp_base.proofs.ListLemmas.{get_push}
use Rattle.sp_base.specs.Rows.{first_where}
use Rattle.sp_base.specs.declared.id.EdgeId.{EdgeId}
use Rattle.sp_base.specs.declared.id.NodeId.{NodeId}
use Rattle.sp_frame.specs.declared.head.Head.{Head}
use Rattle.sp_rules.specs.Arrivals.{link_after, reply_at, rises, version_after}
use Rattle.sp_rules.specs.Arts.{Arts}
use Rattle.sp_rules.specs.Link.{Link}
use Rattle.sp_rules.specs.Node.{NodeState, is_link, link_in, version_of}
use Rattle.sp_rules.specs.Parts.{Fixed, changes, neighbours_of}
use Rattle.sp_rules.specs.Polls.{contents_at, frame_to, head_to}
use Rattle.sp_rules.specs.Steps.{Datagram, Input}
use Rattle.sp_rules.specs.Versions.{Heard, is_heard_of, kept_version, none_heard, version_in}
use Rattle.laws_node.proofs.Changing.{versions_rise}
use Rattle.laws_node.proofs.Withdrawing.{sized}
use Rattle.laws_node.specs.Shapes.{Shape}
use Rattle.laws_runs.specs.Premises.{Carries}
use Rattle.laws_runs.specs.Signs.{Good, sizes_at}
use Rattle.laws_runs.proofs.Lives.{step_stays}
use Rattle.laws_runs.proofs.Ready.{ready_frames}
use Rattle.laws_runs.proofs.Signed.{signs, signs_there}
use Rattle.sp_runs.specs.Forgery.{has_forged_tag, is_tagged}
use Rattle.sp_runs.specs.Inputs.{acting}
use Rattle.sp_runs.specs.Lives.{next_start, ready}
use Rattle.sp_runs.specs.Runs.{Clean, InRange, Starts, Turn, Turned, forged_in, is_hop, next_frame}
use Rattle.sp_runs.specs.Settings.{Setting, SettingFits, fixed_of, may_change, node_at_start}
use Rattle.sp_runs.specs.Worlds.{World, frames_in, node_in}
use Rattle.sp_journal.specs.declared.entry.Entry.{Entry}
use Rattle.sp_schedule_events.specs.declared.event.Event.{Event}
use Rattle.laws_progress.proofs.Becomes.{Acts, Becomes, Begins, Remains, becomes, readied_keeps, start_fixed}
use Rattle.laws_progress.proofs.Heads.{HeadsReadBack, frame_head, head_range, heads_are}
use Rattle.laws_progress.proofs.KeptSteps.{Comes, KeptAfter, Nothing_told, Same, Version_told, kept_most, kept_step, put_again, tells}
use Rattle.laws_progress.proofs.Known.{LinkHeard, Learns_boot, Nothing, Takes, after_is, is_made, known_rises}
use Rattle.laws_progress.proofs.KnownRuns.{KnowsOf, knows_of}
use Rattle.laws_progress.proofs.LastBoots.{last_boot, running_boot, start_boot}
use Rattle.laws_progress.proofs.Made.{FramesTurn, Leaves, Makes, Misses, frames_turn}
use Rattle.laws_progress.proofs.Polls.{both_ways}
use Rattle.laws_progress.proofs.Rows.{at_boot, keyed, link_there, near, neighbour_there, rows_are, shape_is}
use Rattle.laws_progress.proofs.States.{IsHop}

-- ---- a node has a row for the version of each neighbour

abbrev is_id : NodeId → NodeId → Bool
is_id v n = n.0 == v.0

pub heard_there : (arts : Arts) (x : Setting) (es : List Event) (js : List Entry) (w : World) → SettingFits arts x → Carries x.topology.format arts
    → Clean arts x es js w → (u v : NodeId) → is_hop x u v ≡ true → (n : NodeState) → node_in w.nodes u ≡ Some n → list_any (is_heard_of v) n.heard ≡ true
heard_there arts x es js w fits reads run u v hop n at =
    let rows : map (λ h. h.peer) n.heard ≡ near x u = ap (λ (s : Shape). s.heard) (shape_is arts x es js w fits reads run u n at) in
    keyed (λ h. h.peer) v n.heard (ap (list_any (is_id v)) rows ∙ neighbour_there u v 0 x.topology.edges hop)

-- ---- a node over one event

-- it was there in the same life, under at most this version
pub record GoesOn (old : World) (u : NodeId) (n : NodeState) : Type 0 where
  pub before : NodeState
  pub there : node_in old.nodes u ≡ Some before
  pub boot : n.fixed.boot ≡ before.fixed.boot
  pub version : before.live.version ≤ n.live.version

-- or it begins another one
pub record IsNew (x : Setting) (old : World) (u : NodeId) (n : NodeState) : Type 0 where
  pub epochs : x.epochs ≡ true
  pub boot : n.fixed.boot ≡ last_boot x old u + 1

pub life_on : (arts : Arts) (x : Setting) (es : List Event) (js : List Entry) (old new : World) (e : Event) (j : Entry) → SettingFits arts x
    → Carries x.topology.format arts
    → Clean arts x es js old → (u : NodeId) (n : NodeState) → Becomes arts x old e j new u n → GoesOn old u n ⊎ IsNew x old u n
life_on arts x es js old new e j fits reads run u n (Remains b at readied idle) =
    let version = readied_keeps x old b n (λ m. m.live.version ≡ b.live.version) (λ upto same. same) readied refl in
    inl (record {
      before = b;
      there = at;
      boot = readied_keeps x old b n (λ m. m.fixed.boot ≡ b.fixed.boot) (λ upto same. same) readied refl;
      version = omega (arith, version);
    })
life_on arts x es js old new e j fits reads run u n (Acts acts b at m readied after unforged) =
    let is = (signs_there arts x es js old e fits reads run).nodes (acting e) m.node m.is_there in
    let up = (versions_rise arts m.node m.input m.output m.after (sized (sizes_at x (Good arts x es js) (acting e)) m.node is.holds) m.step).version in
    let stays = ap (λ (f : Fixed). f.boot) (step_stays arts m.node m.input m.output m.after m.step).fixed in
    let version = readied_keeps x old b m.node (λ q. q.live.version ≡ b.live.version) (λ upto same. same) readied refl in
    let boot = readied_keeps x old b m.node (λ q. q.fixed.boot ≡ b.fixed.boot) (λ upto same. same) readied refl in
    let last = ap (λ (q : NodeState). q.live.version) after in
    inl (record { before = b; there = at; boot = ap (λ (q : NodeState). q.fixed.boot) after ∙ stays ∙ boot; version = omega (arith, up, version, last) })
life_on arts x es js old new e j fits reads run u n (Begins on is start after none) =
    inr (record {
      epochs = on;
      boot = ap (λ (q : NodeState). q.fixed.boot) after ∙ ap (λ (f : Fixed). f.boot) (start_fixed arts x u old on) ∙ start_boot x old u on;
    })

-- ---- frames

-- a frame that a node makes has its version
pub frame_version : (arts : Arts) (x : Setting) (es : List Event) (js : List Entry) (w : World) → SettingFits arts x → Carries x.topology.format arts
    → HeadsReadBack arts → Clean arts x es js w → (u v : NodeId) → is_hop x u v ≡ true → (n : NodeState) → node_in w.nodes u ≡ Some n
    → (arts.head (frame_to arts n v)).topology ≡ n.live.version
frame_version arts x es js w fits reads heads run u v hop n at =
    let is = (signs arts x es js w fits reads run).nodes u n at in
    let rows = rows_are arts x es js w fits reads run u n at in
    ap (λ (h : Head). h.topology)
    (heads (head_to n v) (contents_at n v) (link_in n v).key (head_range x (Good arts x es js) u n v is.holds (link_there x u v n rows hop)))

-- each frame of the present life of a node has at most its version
abbrev pub FramesBelow : Arts → Setting → World → (u v : NodeId) → Type 0
FramesBelow arts x w u v = (k : ℕ) (bytes : List ℕ) → slice_get (frames_in w.directions u v) k ≡ Some (Some bytes) → (n : NodeState)
    → node_in w.nodes u ≡ Some n → (x.epochs ≡ true → (arts.head bytes).boot ≡ n.fixed.boot) → (arts.head bytes).topology ≤ n.live.version

module _ (arts : Arts) (x : Setting) (es : List Event) (js : List Entry) (old new : World) (e : Event) (j : Entry) (fits : SettingFits arts x)
    (reads : Carries x.topology.format arts) (heads : HeadsReadBack arts) (run : Clean arts x es js old) (range : InRange x es e)
    (turn : Turn arts x old e j new) (unforged : forged_in arts x es js old e j new turn ≡ None) (u v : NodeId) (hop : is_hop x u v ≡ true)
    (holds : FramesBelow arts x old u v) where
  was_below : (k : ℕ) (bytes : List ℕ) → slice_get (frames_in old.directions u v) k ≡ Some (Some bytes) → (n : NodeState) → node_in new.nodes u ≡ Some n
      → (x.epochs ≡ true → (arts.head bytes).boot ≡ n.fixed.boot) → (arts.head bytes).topology ≤ n.live.version
  was_below k bytes at n there same =
      elim (life_on arts x es js old new e j fits reads run u n (becomes arts x es js old e j new fits reads run range turn unforged u n there)) [
        | inl on ↦
            let low = holds k bytes at on.before on.there (λ epochs. same epochs ∙ on.boot) in
            let up = on.version in
            omega (arith, low, up)
        | inr new_life ↦
            let p = heads_are arts x es js old fits reads heads run u v hop k bytes at in
            let born = p.born in
            let its = p.head.boot_is in
            let is = same new_life.epochs in
            let begun = new_life.boot in
            absurd (omega (arith, born, its, is, begun))
      ]

  now_below : (b : NodeState) → node_in old.nodes u ≡ Some b → (n : NodeState) → node_in new.nodes u ≡ Some n
      → (x.epochs ≡ true → (arts.head (frame_to arts b v)).boot ≡ n.fixed.boot) → (arts.head (frame_to arts b v)).topology ≤ n.live.version
  now_below b at_b n there same =
      let its = frame_version arts x es js old fits reads heads run u v hop b at_b in
      elim (life_on arts x es js old new e j fits reads run u n (becomes arts x es js old e j new fits reads run range turn unforged u n there)) [
        | inl on ↦
            let up = on.version in
            let is = ap (λ (q : NodeState). q.live.version) (same_Some on.before b (sym on.there ∙ at_b)) in
            omega (arith, its, up, is)
        | inr new_life ↦
            let head = frame_boot b at_b in
            let is = same new_life.epochs in
            let begun = new_life.boot in
            let life = running_boot arts x es js old fits reads run u b at_b in
            absurd (omega (arith, head, is, begun, life))
      ]
    where
      frame_boot : (b : NodeState) → node_in old.nodes u ≡ Some b → (arts.head (frame_to arts b v)).boot ≡ b.fixed.boot
      frame_boot b at_b = (frame_head arts x es js old fits reads heads run u v hop b at_b).boot_is

  frames_more : FramesTurn arts old e new u v → FramesBelow arts x new u v
  frames_more (Makes on b there is) k bytes at n at_n same =
      elim (get_push (frames_in old.directions u v) (Some (frame_to arts b v)) k (Some bytes) (ap (λ fs. slice_get fs k) (sym is) ∙ at)) [
        | inl was ↦ was_below k bytes was n at_n same
        | inr last ↦
            let it : bytes ≡ frame_to arts b v = same_Some bytes (frame_to arts b v) last.1 in
            subst (λ bs. (arts.head bs).topology ≤ n.live.version) (sym it)
            (now_below b there n at_n (λ epochs. ap (λ bs. (arts.head bs).boot) (sym it) ∙ same epochs))
      ]
  frames_more (Misses on down is) k bytes at n at_n same =
      elim (get_push (frames_in old.directions u v) None k (Some bytes) (ap (λ fs. slice_get fs k) (sym is) ∙ at)) [
        | inl was ↦ was_below k bytes was n at_n same
        | inr last ↦ absurd (let f : Some bytes ≡ None = last.1 in cc)
      ]
  frames_more (Leaves off is) k bytes at n at_n same = was_below k bytes (ap (λ fs. slice_get fs k) (sym is) ∙ at) n at_n same

pub frames_below : (arts : Arts) (x : Setting) (es : List Event) (js : List Entry) (w : World) → SettingFits arts x → Carries x.topology.format arts
    → HeadsReadBack arts → Clean arts x es js w → (u v : NodeId) → is_hop x u v ≡ true → FramesBelow arts x w u v
frames_below arts x es js w fits reads heads Starts u v hop k bytes at n at_n same = absurd cc
frames_below arts x es js w fits reads heads (Turned {es = es'} {js = js'} {old = old} {e = e} {j = j} run range turn unforged) u v hop k bytes at n at_n same =
    frames_more arts x es' js' old w e j fits reads heads run range turn unforged u v hop
    (λ i frame was m there is. frames_below arts x es' js' old fits reads heads run u v hop i frame was m there is)
    (frames_turn arts x old e j w turn u v) k bytes at n at_n same

-- ---- what is kept

none_kept : (v : NodeId) (ns : List (NodeId × EdgeId)) → (first_where (is_heard_of v) (none_heard v) (map (λ n. none_heard n.0) ns)).version ≡ 0
none_kept v [] = refl
none_kept v (n ∷ ns) = elim (cases_Bool (n.0.0 == v.0)) [
  | inl t ↦ rw t refl
  | inr t ↦ rw t (none_kept v ns)
]

-- at the start of a life nothing was heard
begun_kept : (arts : Arts) (x : Setting) (u v : NodeId) (w : World) → x.epochs ≡ true → version_of (node_at_start arts x u (next_start x w u)) v ≡ 0
begun_kept arts x u v w on = first ∙ none_kept v (neighbours_of (fixed_of x u))
  where
    first : version_of (node_at_start arts x u (next_start x w u)) v ≡ version_in (map (λ n. none_heard n.0) (neighbours_of (fixed_of x u))) v
    first = rw on refl

-- what u keeps of v in its present life, as far as it knows of that
abbrev pub KeptBelow : Setting → World → (u v : NodeId) → Type 0
KeptBelow x w u v = (n m : NodeState) → node_in w.nodes u ≡ Some n → node_in w.nodes v ≡ Some m
    → (x.epochs ≡ true → (link_in n v).peer_boot ≡ m.fixed.boot) → version_of n v ≤ m.live.version

module _ (arts : Arts) (x : Setting) (es : List Event) (js : List Entry) (old new : World) (e : Event) (j : Entry) (fits : SettingFits arts x)
    (reads : Carries x.topology.format arts) (heads : HeadsReadBack arts) (may : may_change x ≡ true) (run : Clean arts x es js old) (range : InRange x es e)
    (turn : Turn arts x old e j new) (unforged : forged_in arts x es js old e j new turn ≡ None) (u v : NodeId) (hop : IsHop x u v)
    (holds : KeptBelow x old u v) (m : NodeState) (there : node_in new.nodes v ≡ Some m) where
  goes_on : GoesOn old v m ⊎ IsNew x old v m
  goes_on = life_on arts x es js old new e j fits reads run v m (becomes arts x es js old e j new fits reads run range turn unforged v m there)

  known_of : (b : NodeState) → node_in old.nodes u ≡ Some b → KnowsOf x old u v (link_in b v)
  known_of b at = knows_of arts x es js old fits reads heads run u v hop b at

  -- nothing of it came
  as_was : (b n : NodeState) → node_in old.nodes u ≡ Some b → (link_in n v).peer_boot ≡ (link_in b v).peer_boot → version_of n v ≡ version_of b v
      → (x.epochs ≡ true → (link_in n v).peer_boot ≡ m.fixed.boot) → version_of n v ≤ m.live.version
  as_was b n at link version same = elim goes_on [
    | inl on ↦
        let low = holds b on.before at on.there (λ epochs. sym link ∙ same epochs ∙ on.boot) in
        let up = on.version in
        omega (arith, low, up, version)
    | inr new_life ↦
        let below = (known_of b at).below in
        let is = same new_life.epochs in
        let begun = new_life.boot in
        absurd (omega (arith, below, is, begun, link))
  ]

  -- a datagram with its tag, which is one of its frames
  came : (b q n : NodeState) → node_in old.nodes u ≡ Some b → (link_in q v).peer_boot ≡ (link_in b v).peer_boot → (link_in q v).seen.0 ≡ (link_in q v).peer_boot
      → version_of q v ≡ version_of b v → q.fixed.me ≡ u → (bytes : List ℕ) → has_forged_tag arts x (ready x old e) q (Datagram v bytes) ≡ false
      → is_tagged (reply_at arts q v bytes) ≡ true → (link_in n v).peer_boot ≡ (link_after arts q v bytes).peer_boot
      → version_of n v
      ≡ kept_version q.fixed.epochs (rises arts q v bytes) ((arts.head bytes).boot == (link_in q v).peer_boot) (version_of q v) (arts.head bytes).topology
      → (q.fixed.epochs ≡ true → x.epochs ≡ true) → (x.epochs ≡ true → q.fixed.epochs ≡ true)
      → (x.epochs ≡ true → (link_in n v).peer_boot ≡ m.fixed.boot) → version_of n v ≤ m.live.version
  came b q n at link seen version me bytes none tagged left kept has_epochs epochs_has same =
      let made = is_made arts x (ready x old e) q v bytes hop.second none tagged in
      let placed : slice_get (frames_in old.directions v u) made.0 ≡ Some (Some bytes) =
      ap (λ ds. slice_get (frames_in ds v u) made.0) (sym (ready_frames x old e))
      ∙ ap (λ z. slice_get (frames_in (ready x old e).directions v z) made.0) (sym me) ∙ made.1 in
      let p = heads_are arts x es js old fits reads heads run v u (both_ways x u v hop).joined made.0 bytes placed in
      let born = p.born in
      let its = p.head.boot_is in
      let below = (known_of b at).below in
      let boots = left_boot (after_is arts q v bytes) in
      let low = boots.0 in
      let up = (known_rises (link_in q v) (link_after arts q v bytes) (arts.head bytes) (reply_at arts q v bytes) seen (after_is arts q v bytes)).1 in
      elim goes_on [
        | inr new_life ↦
            let is = same new_life.epochs in
            let begun = new_life.boot in
            absurd (omega (arith, born, its, below, low, link, left, is, begun))
        | inl on ↦
            let later = on.version in
            let theirs : (q.fixed.epochs ≡ true → (rises arts q v bytes ≡ true) ⊎ (((arts.head bytes).boot == (link_in q v).peer_boot) ≡ true))
            → (arts.head bytes).topology ≤ m.live.version = λ which.
            let least = frames_below arts x es js old fits reads heads run v u (both_ways x u v hop).joined made.0 bytes placed on.before on.there
            (λ epochs.
            let is = same epochs in
            let boot = on.boot in
            let head : (arts.head bytes).boot ≡ (link_after arts q v bytes).peer_boot = boots.1 (which (epochs_has epochs)) in
            omega (arith, is, boot, head, left)) in
            omega (arith, least, later) in
            let mine : (q.fixed.epochs ≡ true → rises arts q v bytes ≡ false) → version_of q v ≤ m.live.version = λ none_risen.
            let least = holds b on.before at on.there (λ epochs.
            let is = same epochs in
            let boot = on.boot in
            let flat : nat_lt (link_in q v).peer_boot (link_after arts q v bytes).peer_boot ≡ false = none_risen (epochs_has epochs) in
            let most : (link_after arts q v bytes).peer_boot ≤ (link_in q v).peer_boot = grind (arith, nat_tests, flat) in
            omega (arith, is, boot, most, up, left, link)) in
            omega (arith, least, later, version) in
            let all = kept_most q.fixed.epochs (rises arts q v bytes) ((arts.head bytes).boot == (link_in q v).peer_boot) (version_of q v)
            (arts.head bytes).topology m.live.version theirs mine in
            omega (arith, all, kept)
      ]
    where
      -- the boot that is known then is at most the greater of both, and where it rises, or is that of the frame, it is the frame's
      left_boot : LinkHeard (link_in q v) (link_after arts q v bytes) (arts.head bytes) (reply_at arts q v bytes)
          → ((link_after arts q v bytes).peer_boot ≤ max (link_in q v).peer_boot (arts.head bytes).boot)
          × ((rises arts q v bytes ≡ true) ⊎ (((arts.head bytes).boot == (link_in q v).peer_boot) ≡ true)
          → (arts.head bytes).boot ≡ (link_after arts q v bytes).peer_boot)
      left_boot (Nothing boot seen) = (
        omega (arith, boot),
        λ which. elim which [
          | inl up ↦
              let rise : nat_lt (link_in q v).peer_boot (link_after arts q v bytes).peer_boot ≡ true = up in
              absurd (grind (arith, nat_tests, rise, boot))
          | inr known ↦ let is = eqb-true _ _ known in omega (arith, is, boot)
        ],
      )
      left_boot (Learns_boot tagged boot seen) = (
        omega (arith, boot),
        λ which. elim which [
          | inl up ↦
              let rise : nat_lt (link_in q v).peer_boot (link_after arts q v bytes).peer_boot ≡ true = up in
              let less : (link_in q v).peer_boot + 1 ≤ (link_after arts q v bytes).peer_boot = grind (arith, nat_tests, rise) in
              omega (arith, less, boot)
          | inr known ↦ let is = eqb-true _ _ known in omega (arith, is, boot)
        ],
      )
      left_boot (Takes tagged above boot seen) = (omega (arith, boot), λ which. sym boot)

  -- a step of u
  elim_step : (b q n : NodeState) → node_in old.nodes u ≡ Some b → (link_in q v).peer_boot ≡ (link_in b v).peer_boot
      → (link_in q v).seen.0 ≡ (link_in q v).peer_boot → version_of q v ≡ version_of b v → q.fixed.me ≡ u → changes q.fixed ≡ true
      → q.fixed.epochs ≡ x.epochs → list_any (is_heard_of v) q.heard ≡ true → (i : Input) (a : NodeState) → n ≡ a
      → has_forged_tag arts x (ready x old e) q i ≡ false → KeptAfter arts q i a v
      → (x.epochs ≡ true → (link_in n v).peer_boot ≡ m.fixed.boot) → version_of n v ≤ m.live.version
  elim_step b q n at link seen version me can epochs row i a after none (Same boot kept) same =
      as_was b n at (ap (λ (z : NodeState). (link_in z v).peer_boot) after ∙ boot ∙ link) (ap (λ (z : NodeState). version_of z v) after ∙ kept ∙ version) same
  elim_step b q n at link seen version me can epochs row i a after none (Comes bytes is left heard) same =
      let boot : (link_in n v).peer_boot ≡ (link_after arts q v bytes).peer_boot =
      ap (λ (z : NodeState). (link_in z v).peer_boot) after ∙ ap (λ (l : Link). l.peer_boot) left in
      elim (tells arts q v bytes can) [
        | Nothing_told stays told ↦
            as_was b n at (boot ∙ ap (λ (l : Link). l.peer_boot) stays ∙ link)
            (ap (λ (z : NodeState). version_of z v) after ∙ ap (λ (hs : List Heard). version_in hs v) (heard ∙ told) ∙ version) same
        | Version_told tagged told ↦
            came b q n at link seen version me bytes (subst (λ k. has_forged_tag arts x (ready x old e) q k ≡ false) is none) tagged boot
            (ap (λ (z : NodeState). version_of z v) after ∙ ap (λ (hs : List Heard). version_in hs v) (heard ∙ told)
            ∙ put_again v (version_after arts q v bytes) q.heard row)
            (λ on. sym epochs ∙ on) (λ on. epochs ∙ on) same
      ]

  kept_after : (n : NodeState) → Becomes arts x old e j new u n → (x.epochs ≡ true → (link_in n v).peer_boot ≡ m.fixed.boot) → version_of n v ≤ m.live.version
  kept_after n (Remains b at readied idle) same =
      as_was b n at (readied_keeps x old b n (λ q. (link_in q v).peer_boot ≡ (link_in b v).peer_boot) (λ upto is. is) readied refl)
      (readied_keeps x old b n (λ q. version_of q v ≡ version_of b v) (λ upto is. is) readied refl) same
  kept_after n (Begins on is start after none) same =
      let zero : version_of n v ≡ 0 = ap (λ (q : NodeState). version_of q v) after ∙ begun_kept arts x u v old on in omega (arith, zero)
  kept_after n (Acts acts b at move readied after none) same =
      let q = move.node in
      let rows = rows_are arts x es js old fits reads run u b at in
      let link_row = readied_keeps x old b q (λ z. list_any (is_link v) z.links ≡ true) (λ upto is. is) readied (link_there x u v b rows hop.joined) in
      let heard_row = readied_keeps x old b q (λ z. list_any (is_heard_of v) z.heard ≡ true) (λ upto is. is) readied
      (heard_there arts x es js old fits reads run u v hop.joined b at) in
      let its = (signs_there arts x es js old e fits reads run).nodes (acting e) q move.is_there in
      let me : q.fixed.me ≡ u = ap (λ (f : Fixed). f.me) its.fixed ∙ acts in
      let can : changes q.fixed ≡ true = ap changes its.fixed ∙ may in
      let epochs : q.fixed.epochs ≡ x.epochs = ap (λ (f : Fixed). f.epochs) its.fixed in
      let link = readied_keeps x old b q (λ z. (link_in z v).peer_boot ≡ (link_in b v).peer_boot) (λ upto is. is) readied refl in
      let seen = readied_keeps x old b q (λ z. (link_in z v).seen.0 ≡ (link_in z v).peer_boot) (λ upto is. is) readied (known_of b at).seen in
      let version = readied_keeps x old b q (λ z. version_of z v ≡ version_of b v) (λ upto is. is) readied refl in
      elim_step b q n at link seen version me can epochs heard_row move.input move.after after none
      (kept_step arts x q move.input move.output move.after v (next_frame (ready x old e) e) j.reply link_row move.step move.journal.reply) same

pub kept_below : (arts : Arts) (x : Setting) (es : List Event) (js : List Entry) (w : World) → SettingFits arts x → Carries x.topology.format arts
    → HeadsReadBack arts → may_change x ≡ true → Clean arts x es js w → (u v : NodeId) → IsHop x u v → KeptBelow x w u v
kept_below arts x es js w fits reads heads may Starts u v hop n m at there same =
    let zero : version_of n v ≡ 0 = ap (λ (q : NodeState). version_of q v) (at_boot x u n at) ∙ none_kept v (neighbours_of (fixed_of x u)) in
    omega (arith, zero)
kept_below arts x es js w fits reads heads may (Turned {es = es'} {js = js'} {old = old} {e = e} {j = j} run range turn unforged) u v hop n m at there same =
    kept_after arts x es' js' old w e j fits reads heads may run range turn unforged u v hop
    (λ a b at_a at_b is. kept_below arts x es' js' old fits reads heads may run u v hop a b at_a at_b is) m there n
    (becomes arts x es' js' old e j w fits reads run range turn unforged u n at) same
