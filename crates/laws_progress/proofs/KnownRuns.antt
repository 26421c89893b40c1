-- What a node knows of a correct neighbour in every state of a clean run: no boot that this one didn't take, and no frame that it didn't make.
use Rattle.laws_runs.proofs.Lives.{step_stays}
use Rattle.std.proofs.Common.{◌≡◌, ◌≤◌, ◌⊎◌, ℕ, ◌+◌, true, false, List, [], ◌∷◌, ◌++◌, map, zip, max, Some, refl, sym, ap, subst, ◌∙◌, inl, inr, arith, None}
use Rattle.std.proofs.Common.{nat_lt, cond, ltb-false}
use Rattle.std.specs.Prelude.{slice_get}
use Rattle.std.specs.List.{list_any}
use Rattle.std.proofs.lemmas.Bool.{cases_Bool}
use Rattle.sp_base.specs.Rows.{first_where}
use Rattle.sp_base.specs.declared.id.EdgeId.{EdgeId}
use Rattle.sp_base.specs.declared.id.NodeId.{NodeId}
use Rattle.sp_rules.specs.Arts.{Arts}
use Rattle.sp_rules.specs.Arrivals.{link_after, reply_at}
use Rattle.sp_rules.specs.Link.{Link, new_link}
use Rattle.sp_rules.specs.Node.{NodeState, is_link, link_in, link_of}
use Rattle.sp_rules.specs.Parts.{Fixed, neighbours_of}
use Rattle.sp_rules.specs.Steps.{Input, Datagram}
use Rattle.laws_runs.specs.Premises.{Carries}
use Rattle.std.proofs.lemmas.Option.{slice_get_within}
use Rattle.laws_runs.proofs.Ready.{ready_frames}
use Rattle.laws_runs.proofs.Signed.{signs_there}
use Rattle.sp_runs.specs.Forgery.{has_forged_tag, is_tagged}
use Rattle.sp_runs.specs.Inputs.{acting}
use Rattle.sp_runs.specs.Lives.{next_start, ready}
use Rattle.sp_runs.specs.Runs.{Clean, InRange, Starts, Turn, Turned, forged_in, next_frame, polls, is_hop}
use Rattle.sp_runs.specs.Settings.{Setting, SettingFits, fixed_at, fixed_of, link_keys, node_at_start}
use Rattle.sp_runs.specs.Worlds.{World, frames_in, node_in}
use Rattle.sp_journal.specs.declared.entry.Entry.{Entry}
use Rattle.sp_schedule_events.specs.declared.event.Event.{Event}
use Rattle.laws_progress.proofs.Becomes.{Acts, Becomes, Begins, Remains, becomes, readied_keeps, start_fixed}
use Rattle.laws_progress.proofs.Heads.{HeadsReadBack, Placed, heads_are, same_life, placed_on}
use Rattle.laws_progress.proofs.Known.{LinkHeard, Learns_boot, Nothing, Takes, after_is, is_made, known_rises}
use Rattle.laws_progress.proofs.LastBoots.{last_boot, last_rises, running_boot}
use Rattle.laws_progress.proofs.Links.{LinkAfter, Rests, Sends, Hears, link_step}
use Rattle.laws_progress.proofs.Made.{frames_count}
use Rattle.laws_progress.proofs.Polls.{both_ways, polls_rise}
use Rattle.laws_progress.proofs.Rows.{at_boot, link_there, rows_are}
use Rattle.laws_progress.proofs.States.{IsHop}

-- ---- at the start of a life

record KnowsNone (l : Link) : Type 0 where
  boot : l.peer_boot ≡ 0
  seen : l.seen ≡ (0, 0)
  sent : l.sent ≡ 0

none_known : (f : Fixed) (none : Link) (v : NodeId) (zs : List ((NodeId × EdgeId) × List ℕ)) → KnowsNone none
    → KnowsNone (first_where (is_link v) none (map (link_of f) zs))
none_known f none v [] h = h
none_known f none v (z ∷ zs) h = elim (cases_Bool (is_link v (link_of f z))) [
  | inl t ↦ rw t (record { boot = refl; seen = refl; sent = refl })
  | inr t ↦ rw t (none_known f none v zs h)
]

-- ---- in every state

-- what u knows of v by this link
pub record KnowsOf (x : Setting) (w : World) (u v : NodeId) (l : Link) : Type 0 where
  pub below : l.peer_boot ≤ last_boot x w v
  pub seen : l.seen.0 ≡ l.peer_boot
  -- of its present life it heard no frame that this one didn't make
  pub counted : (m : NodeState) → node_in w.nodes v ≡ Some m → m.fixed.boot ≡ l.peer_boot → l.seen.1 ≤ (link_in m u).sent

-- the links of a node that starts
first_link : (arts : Arts) (x : Setting) (u v : NodeId) (w : World) → x.epochs ≡ true
    → link_in (node_at_start arts x u (next_start x w u)) v
    ≡ first_where (is_link v) (new_link u v 0 []) (map (link_of (fixed_at x u (next_start x w u).boot)) (zip (neighbours_of (fixed_of x u)) (link_keys x u)))
first_link arts x u v w on = rw on refl

pub first_none : (arts : Arts) (x : Setting) (u v : NodeId) (w : World) → x.epochs ≡ true
    → (link_in (node_at_start arts x u (next_start x w u)) v).peer_boot ≡ 0
first_none arts x u v w on =
    ap (λ (l : Link). l.peer_boot) (first_link arts x u v w on)
    ∙ (none_known (fixed_at x u (next_start x w u).boot) (new_link u v 0 []) v (zip (neighbours_of (fixed_of x u)) (link_keys x u))
    (record { boot = refl; seen = refl; sent = refl })).boot

knows_none : (x : Setting) (w : World) (u v : NodeId) (l : Link) → KnowsNone l → KnowsOf x w u v l
knows_none x w u v l h =
    let boot = h.boot in
    let first = ap (λ (p : ℕ × ℕ). p.0) h.seen in
    let second = ap (λ (p : ℕ × ℕ). p.1) h.seen in
    record { below = omega (arith, boot); seen = first ∙ sym boot; counted = λ m at is. omega (arith, second) }

module _ (arts : Arts) (x : Setting) (es : List Event) (js : List Entry) (old new : World) (e : Event) (j : Entry) (fits : SettingFits arts x)
    (reads : Carries x.topology.format arts) (heads : HeadsReadBack arts) (run : Clean arts x es js old) (range : InRange x es e)
    (turn : Turn arts x old e j new)
    (unforged : forged_in arts x es js old e j new turn ≡ None) (u v : NodeId) (hop : IsHop x u v) where
  -- the neighbour goes on
  same_knows : (l k : Link) → k.peer_boot ≡ l.peer_boot → k.seen ≡ l.seen → KnowsOf x old u v l → KnowsOf x new u v k
  same_knows l k boot seen h =
      let first = ap (λ (p : ℕ × ℕ). p.0) seen in
      let second = ap (λ (p : ℕ × ℕ). p.1) seen in
      record {
        below = let low = h.below in let up = last_rises arts x old e j new turn v in omega (arith, low, up, boot);
        seen = first ∙ h.seen ∙ sym boot;
        counted = λ m at is.
            elim (same_life arts x es js old new e j fits reads run v u (both_ways x u v hop).joined m
            (becomes arts x es js old e j new fits reads run range turn unforged v m at)) [
              | inl it ↦
                  let was = h.counted it.0 it.1 (sym it.2 ∙ is ∙ boot) in
                  let count = it.3 in
                  let more = polls_rise es e v u in
                  omega (arith, was, second, count, more)
              | inr later ↦ absurd (let low = h.below in omega (arith, later, low, is, boot))
            ];
      }

  -- a datagram of it comes, which is none that it didn't make
  heard_knows : (n : NodeState) (bytes : List ℕ) → n.fixed.me ≡ u → has_forged_tag arts x (ready x old e) n (Datagram v bytes) ≡ false
      → (l k : Link) → l ≡ link_in n v → k ≡ link_after arts n v bytes → KnowsOf x old u v l → KnowsOf x new u v k
  heard_knows n bytes me none l k l_is k_is h = go (subst (λ q. LinkHeard l q (arts.head bytes) (reply_at arts n v bytes)) (sym k_is)
      (subst (λ q. LinkHeard q (link_after arts n v bytes) (arts.head bytes) (reply_at arts n v bytes)) (sym l_is) (after_is arts n v bytes)))
    where
      placed : is_tagged (reply_at arts n v bytes) ≡ true
          → (i : ℕ) × (slice_get (frames_in old.directions v u) i ≡ Some (Some bytes)) × Placed x es old v u i (arts.head bytes)
      placed tagged =
          let made = is_made arts x (ready x old e) n v bytes hop.second none tagged in
          let there : slice_get (frames_in old.directions v u) made.0 ≡ Some (Some bytes) =
          ap (λ ds. slice_get (frames_in ds v u) made.0) (sym (ready_frames x old e))
          ∙ ap (λ z. slice_get (frames_in (ready x old e).directions v z) made.0) (sym me) ∙ made.1 in
          (made.0, there, heads_are arts x es js old fits reads heads run v u (both_ways x u v hop).joined made.0 bytes there)

      go : LinkHeard l k (arts.head bytes) (reply_at arts n v bytes) → KnowsOf x new u v k
      go (Nothing boot seen) = same_knows l k boot seen h
      go (Learns_boot tagged boot seen) =
          let p = (placed tagged).2 in
          let low = h.below in
          let born = p.born in
          let its = p.head.boot_is in
          let up = last_rises arts x old e j new turn v in
          record {
            below = omega (arith, low, born, its, up, boot);
            seen = (known_rises l k (arts.head bytes) (reply_at arts n v bytes) h.seen (Learns_boot tagged boot seen)).0;
            counted = λ m at is. elim (cases_Bool (nat_lt l.peer_boot (max l.peer_boot (arts.head bytes).boot))) [
              | inl t ↦ let zero : k.seen.1 ≡ 0 = ap (λ (p : ℕ × ℕ). p.1) seen ∙ ap (λ t. (cond t (max l.peer_boot (arts.head bytes).boot, 0) l.seen).1) t in
                  omega (arith, zero)
              | inr t ↦
                  let same : k.seen ≡ l.seen = seen ∙ ap (λ t. cond t (max l.peer_boot (arts.head bytes).boot, 0) l.seen) t in
                  let stays : k.peer_boot ≡ l.peer_boot = let less = ltb-false l.peer_boot (max l.peer_boot (arts.head bytes).boot) t in
                  omega (arith, less, boot) in
                  (same_knows l k stays same h).counted m at is
            ];
          }
      go (Takes tagged above boot seen) =
          let it = placed tagged in
          let p = it.2 in
          let born = p.born in
          let its = p.head.boot_is in
          let up = last_rises arts x old e j new turn v in
          let counter = ap (λ (p : ℕ × ℕ). p.1) seen ∙ p.head.counter_is in
          let on = placed_on arts x es js old new e j fits reads run range turn unforged v u (both_ways x u v hop).joined it.0 (arts.head bytes) p in
          record {
            below = omega (arith, born, its, up, boot);
            seen = (known_rises l k (arts.head bytes) (reply_at arts n v bytes) h.seen (Takes tagged above boot seen)).0;
            counted = λ m at is.
                let same = on.head.boot_is in
                let count = on.number m at (is ∙ boot ∙ same) in
                let within = slice_get_within (frames_in old.directions v u) it.0 (Some bytes) it.1 in
                let long = frames_count arts x es js old run v u in
                let more = polls_rise es e v u in
                let c = ap (λ (p : ℕ × ℕ). p.1) seen ∙ on.head.counter_is in
                omega (arith, count, within, long, more, c);
          }

  knows_after : (n : NodeState) → ((b : NodeState) → node_in old.nodes u ≡ Some b → KnowsOf x old u v (link_in b v)) → Becomes arts x old e j new u n
      → KnowsOf x new u v (link_in n v)
  knows_after n before (Remains b at readied idle) =
      readied_keeps x old b n (λ q. KnowsOf x new u v (link_in q v)) (λ upto h. h) readied (same_knows (link_in b v) (link_in b v) refl refl (before b at))
  knows_after n before (Acts acts b at m readied after none) =
      let w = ready x old e in
      let rows = rows_are arts x es js old fits reads run u b at in
      let there = readied_keeps x old b m.node (λ q. list_any (is_link v) q.links ≡ true) (λ upto same. same) readied (link_there x u v b rows hop.joined) in
      let was = readied_keeps x old b m.node (λ q. KnowsOf x old u v (link_in q v)) (λ upto h. h) readied (before b at) in
      let step = link_step arts x m.node m.input m.output m.after v (next_frame w e) j.reply there m.step m.journal.reply in
      let me : m.node.fixed.me ≡ u =
      ap (λ (f : Fixed). f.me) ((signs_there arts x es js old e fits reads run).nodes (acting e) m.node m.is_there).fixed ∙ acts in
      subst (λ (q : NodeState). KnowsOf x new u v (link_in q v)) (sym after) (go m.node m.after m.input none me was step)
    where
      go : (n a : NodeState) (i : Input) → has_forged_tag arts x (ready x old e) n i ≡ false → n.fixed.me ≡ u → KnowsOf x old u v (link_in n v)
          → LinkAfter arts n i a v → KnowsOf x new u v (link_in a v)
      go n a i none me was (Rests quiet same) =
          same_knows (link_in n v) (link_in a v) (ap (λ (l : Link). l.peer_boot) same) (ap (λ (l : Link). l.seen) same) was
      go n a i none me was (Sends is same) = same_knows (link_in n v) (link_in a v) (ap (λ (l : Link). l.peer_boot) same) (ap (λ (l : Link). l.seen) same) was
      go n a i none me was (Hears bytes is same) =
          heard_knows n bytes me (subst (λ k. has_forged_tag arts x (ready x old e) n k ≡ false) is none) (link_in n v) (link_in a v) refl same was
  knows_after n before (Begins on is start after none) =
      let links : (link_in n v)
      ≡ first_where (is_link v) (new_link u v 0 [])
      (map (link_of (fixed_at x u (next_start x old u).boot)) (zip (neighbours_of (fixed_of x u)) (link_keys x u))) =
      ap (λ (q : NodeState). link_in q v) after ∙ first_link arts x u v old on in
      subst (KnowsOf x new u v) (sym links)
      (knows_none x new u v _
      (none_known (fixed_at x u (next_start x old u).boot) (new_link u v 0 []) v (zip (neighbours_of (fixed_of x u)) (link_keys x u))
      (record { boot = refl; seen = refl; sent = refl })))

pub knows_of : (arts : Arts) (x : Setting) (es : List Event) (js : List Entry) (w : World) → SettingFits arts x → Carries x.topology.format arts
    → HeadsReadBack arts → Clean arts x es js w → (u v : NodeId) → IsHop x u v → (n : NodeState) → node_in w.nodes u ≡ Some n → KnowsOf x w u v (link_in n v)
knows_of arts x es js w fits reads heads Starts u v hop n at =
    subst (λ (q : NodeState). KnowsOf x w u v (link_in q v)) (sym (at_boot x u n at))
    (knows_none x w u v _
    (none_known (fixed_of x u) (new_link u v 0 []) v (zip (neighbours_of (fixed_of x u)) (link_keys x u))
    (record { boot = refl; seen = refl; sent = refl })))
knows_of arts x es js w fits reads heads (Turned {es = es'} {js = js'} {old = old} {e = e} {j = j} run range turn unforged) u v hop n at =
    knows_after arts x es' js' old w e j fits reads heads run range turn unforged u v hop n
    (λ b was. knows_of arts x es' js' old fits reads heads run u v hop b was)
    (becomes arts x es' js' old e j w fits reads run range turn unforged u n at)

-- ---- of a life no more frames were sent than places are there

pub sent_within : (arts : Arts) (x : Setting) (es : List Event) (js : List Entry) (w : World) → SettingFits arts x → Carries x.topology.format arts
    → Clean arts x es js w → (u v : NodeId) → is_hop x u v ≡ true → (n : NodeState) → node_in w.nodes u ≡ Some n → (link_in n v).sent ≤ polls es u v
sent_within arts x es js w fits reads Starts u v hop n at =
    let none = (none_known (fixed_of x u) (new_link u v 0 []) v (zip (neighbours_of (fixed_of x u)) (link_keys x u))
    (record { boot = refl; seen = refl; sent = refl })).sent in
    let same = ap (λ (q : NodeState). (link_in q v).sent) (at_boot x u n at) in
    omega (arith, none, same)
sent_within arts x es js w fits reads (Turned {es = es'} {js = js'} {old = old} {e = e} {j = j} run range turn unforged) u v hop n at =
    elim (became n (becomes arts x es' js' old e j w fits reads run range turn unforged u n at)) [
      | inl it ↦ let was = sent_within arts x es' js' old fits reads run u v hop it.0 it.1 in let count = it.2 in omega (arith, was, count)
      | inr none ↦ omega (arith, none)
    ]
  where
    became : (n : NodeState) → Becomes arts x old e j w u n
        → ((b : NodeState) × (node_in old.nodes u ≡ Some b) × ((link_in n v).sent + polls es' u v ≡ (link_in b v).sent + polls (es' ++ e ∷ []) u v))
        ⊎ ((link_in n v).sent ≡ 0)
    became n (Begins on is start after none) =
        inr (ap (λ (q : NodeState). (link_in q v).sent) after ∙ ap (λ (l : Link). l.sent) (first_link arts x u v old on)
        ∙ (none_known (fixed_at x u (next_start x old u).boot) (new_link u v 0 []) v (zip (neighbours_of (fixed_of x u)) (link_keys x u))
        (record { boot = refl; seen = refl; sent = refl })).sent)
    became n (Remains b there readied why) =
        elim (same_life arts x es' js' old w e j fits reads run u v hop n (Remains b there readied why)) [
          | inl it ↦ inl (it.0, it.1, it.3)
          | inr later ↦ absurd
              (let same = readied_keeps x old b n (λ m. m.fixed.boot ≡ b.fixed.boot) (λ upto h. h) readied refl in let mine =
              running_boot arts x es' js' old fits reads run u b there in omega (arith, later, same, mine))
        ]
    became n (Acts acts b there m readied after none) =
        elim (same_life arts x es' js' old w e j fits reads run u v hop n (Acts acts b there m readied after none)) [
          | inl it ↦ inl (it.0, it.1, it.3)
          | inr later ↦ absurd (
              let same = readied_keeps x old b m.node (λ m. m.fixed.boot ≡ b.fixed.boot) (λ upto h. h) readied refl in
              let mine = running_boot arts x es' js' old fits reads run u b there in
              let stays = ap (λ (f : Fixed). f.boot) (step_stays arts m.node m.input m.output m.after m.step).fixed in
              let now = ap (λ (q : NodeState). q.fixed.boot) after in
              omega (arith, later, same, mine, stays, now))
        ]

-- each life has a boot
pub boot_some : (arts : Arts) (x : Setting) (es : List Event) (js : List Entry) (w : World) → SettingFits arts x → Carries x.topology.format arts
    → Clean arts x es js w → (u : NodeId) (n : NodeState) → node_in w.nodes u ≡ Some n → 1 ≤ n.fixed.boot
boot_some arts x es js w fits reads Starts u n at = let same = ap (λ (q : NodeState). q.fixed.boot) (at_boot x u n at) in omega (arith, same)
boot_some arts x es js w fits reads (Turned {es = es'} {js = js'} {old = old} {e = e} {j = j} run range turn unforged) u n at =
    go (λ b there. boot_some arts x es' js' old fits reads run u b there) (becomes arts x es' js' old e j w fits reads run range turn unforged u n at)
  where
    go : ((b : NodeState) → node_in old.nodes u ≡ Some b → 1 ≤ b.fixed.boot) → Becomes arts x old e j w u n → 1 ≤ n.fixed.boot
    go some (Remains b there readied why) =
        let same = readied_keeps x old b n (λ m. m.fixed.boot ≡ b.fixed.boot) (λ upto h. h) readied refl in
        let was = some b there in omega (arith, same, was)
    go some (Acts acts b there m readied after none) =
        let same = readied_keeps x old b m.node (λ m. m.fixed.boot ≡ b.fixed.boot) (λ upto h. h) readied refl in
        let was = some b there in
        let stays = ap (λ (f : Fixed). f.boot) (step_stays arts m.node m.input m.output m.after m.step).fixed in
        let now = ap (λ (q : NodeState). q.fixed.boot) after in
        omega (arith, same, was, stays, now)
    go some (Begins on is start after none) =
        let now = ap (λ (q : NodeState). q.fixed.boot) after ∙ ap (λ (f : Fixed). f.boot) (start_fixed arts x u old on) in omega (arith, now)
