-- The head of each frame that a correct node made for a neighbour: from whom to whom, at the boot of which life, and under which counter.
use Rattle.std.proofs.Common.{◌≡◌, ◌<◌, ◌≤◌, ◌⊎◌, ℕ, ◌+◌, Bool, true, false, List, [], ◌∷◌, ◌++◌, None, Some, refl, sym, ap, subst, ◌∙◌, inl, inr, arith}
use Rattle.std.specs.Prelude.{All, slice_get}
use Rattle.std.specs.List.{list_any}
use Rattle.std.proofs.lemmas.Bool.{cases_Bool}
use Rattle.std.proofs.lemmas.List.Elements.{All-head, All-tail}
use Rattle.std.proofs.lemmas.Option.{same_Some}
use Rattle.sp_base.proofs.ListLemmas.{get_push}
use Rattle.sp_base.specs.Rows.{first_where}
use Rattle.sp_base.specs.Formats.{IsFormat}
use Rattle.sp_base.specs.declared.id.NodeId.{NodeId}
use Rattle.sp_frame.specs.Ranges.{IsHead}
use Rattle.sp_frame.specs.declared.head.Head.{Head}
use Rattle.sp_frame.specs.Sections.{Contents}
use Rattle.sp_msg.specs.declared.kept.Kept.{Kept}
use Rattle.sp_rules.specs.Arts.{Arts}
use Rattle.sp_rules.specs.Link.{new_link}
use Rattle.sp_rules.specs.Node.{NodeState, is_link, link_in}
use Rattle.sp_rules.specs.Parts.{Fixed}
use Rattle.sp_rules.specs.Polls.{contents_at, frame_to, head_to}
use Rattle.laws_node.specs.Nodes.{LinkHolds, NodeHolds}
use Rattle.laws_runs.specs.Premises.{Carries}
use Rattle.laws_runs.specs.Signs.{Good, sizes_at}
use Rattle.laws_runs.proofs.Lives.{step_stays}
use Rattle.laws_runs.proofs.Signed.{signs}
use Rattle.sp_runs.specs.Lives.{ready}
use Rattle.sp_runs.specs.Runs.{Clean, InRange, Starts, Turn, Turned, forged_in, is_hop, next_frame, polls}
use Rattle.sp_runs.specs.Settings.{Setting, SettingFits}
use Rattle.sp_runs.specs.Worlds.{World, frames_in, node_in}
use Rattle.sp_journal.specs.declared.entry.Entry.{Entry}
use Rattle.sp_schedule_events.specs.declared.event.Event.{Event}
use Rattle.laws_runs.specs.Premises.{written}
use Rattle.laws_progress.proofs.Keys.{link_is}
use Rattle.laws_progress.proofs.Becomes.{Acts, Becomes, Begins, Remains, becomes, readied_keeps, start_fixed}
use Rattle.laws_progress.proofs.LastBoots.{last_boot, last_rises, running_boot, start_boot}
use Rattle.laws_progress.proofs.LinkRuns.{LinkAt, idle_poll, links_at, no_more, step_sent}
use Rattle.laws_progress.proofs.Links.{link_step}
use Rattle.laws_progress.proofs.Made.{FramesTurn, Leaves, Makes, Misses, frames_count, frames_turn}
use Rattle.laws_progress.proofs.Rows.{link_there, rows_are}

-- a head in its ranges is read back
abbrev pub HeadsReadBack : Arts → Type 0
HeadsReadBack arts = (h : Head) (s : Contents) (key : List ℕ) → IsHead h → arts.head (written arts h s key) ≡ h

-- the head that a frame of u for v has, which a life of u of this boot made under this counter
pub record HeadIs (u v : NodeId) (boot counter : ℕ) (h : Head) : Type 0 where
  pub from : h.from ≡ u
  pub to : h.to ≡ v
  pub boot_is : h.boot ≡ boot
  pub counter_is : h.counter ≡ counter

pub made_head : (arts : Arts) (n : NodeState) (u v : NodeId) → HeadsReadBack arts
    → IsHead (head_to n v) → LinkAt u n.fixed.boot (link_in n v)
    → HeadIs u v n.fixed.boot ((link_in n v).sent + 1) (arts.head (frame_to arts n v))
made_head arts n u v heads range l =
    subst (HeadIs u v n.fixed.boot ((link_in n v).sent + 1)) (sym (heads (head_to n v) (contents_at n v) (link_in n v).key range)) (record {
      from = l.me;
      to = link_is n v;
      boot_is = l.boot_is;
      counter_is = refl;
    })

pub first_there : {X : Type 0} (P : X → Type 0) (p : X → Bool) (none : X) (xs : List X) → All P xs → list_any p xs ≡ true → P (first_where p none xs)
first_there P p none [] all there = absurd (let e : false ≡ true = there in cc)
first_there P p none (x ∷ xs) all there = elim (cases_Bool (p x)) [
  | inl t ↦ rw t (All-head P x xs all)
  | inr t ↦ rw t (first_there P p none xs (All-tail P x xs all) (rw t at there))
]

small_format : (format : ℕ) → IsFormat format → format < 256
small_format format (inl one) = omega (arith, one)
small_format format (inr two) = omega (arith, two)

pub head_range : (x : Setting) (P : Kept → Type 0) (u : NodeId) (n : NodeState) (v : NodeId) → NodeHolds (sizes_at x P u) n
    → list_any (is_link v) n.links ≡ true → IsHead (head_to n v)
head_range x P u n v h there =
    let l = first_there (LinkHolds n.calls) (is_link v) (new_link n.fixed.me v 0 []) n.links h.links there in
    record {
      format = small_format n.fixed.topology.format h.fixed.topology.ranges.format;
      from = l.me;
      to = l.peer;
      boot = l.boot;
      echo = l.peer_boot;
      counter = let sent = l.sent in let calls = h.calls in omega (arith, sent, calls);
      topology = h.live.version;
    }

-- ---- over a run

pub frame_head : (arts : Arts) (x : Setting) (es : List Event) (js : List Entry) (w : World) → SettingFits arts x → Carries x.topology.format arts
    → HeadsReadBack arts → Clean arts x es js w → (u v : NodeId) → is_hop x u v ≡ true → (n : NodeState) → node_in w.nodes u ≡ Some n
    → HeadIs u v n.fixed.boot ((link_in n v).sent + 1) (arts.head (frame_to arts n v))
frame_head arts x es js w fits reads heads run u v hop n at =
    let is = (signs arts x es js w fits reads run).nodes u n at in
    let rows = rows_are arts x es js w fits reads run u n at in
    made_head arts n u v heads (head_range x (Good arts x es js) u n v is.holds (link_there x u v n rows hop))
    (links_at arts x es js w fits reads run u v hop n at)

-- the frame in this place, after these events: no later life than the last that u took made it, and in the present life of u places and counters go together
pub record Placed (x : Setting) (es : List Event) (w : World) (u v : NodeId) (k : ℕ) (h : Head) : Type 0 where
  pub boot : ℕ
  pub counter : ℕ
  pub head : HeadIs u v boot counter h
  pub born : boot ≤ last_boot x w u
  pub some : 1 ≤ counter
  pub number : (n : NodeState) → node_in w.nodes u ≡ Some n → n.fixed.boot ≡ boot → k + 1 + (link_in n v).sent ≡ polls es u v + counter

-- what a node sent in its life goes with the places of the direction, over one event
pub same_life : (arts : Arts) (x : Setting) (es : List Event) (js : List Entry) (old new : World) (e : Event) (j : Entry) → SettingFits arts x
    → Carries x.topology.format arts
    → Clean arts x es js old → (u v : NodeId) → is_hop x u v ≡ true → (n : NodeState) → Becomes arts x old e j new u n
    → ((b : NodeState) × (node_in old.nodes u ≡ Some b) × (n.fixed.boot ≡ b.fixed.boot)
    × ((link_in n v).sent + polls es u v ≡ (link_in b v).sent + polls (es ++ e ∷ []) u v)) ⊎ (n.fixed.boot ≡ last_boot x old u + 1)
same_life arts x es js old new e j fits reads run u v hop n (Remains b at readied idle) =
    let none = no_more es e u v (idle_poll old e u v idle) in
    let boot = readied_keeps x old b n (λ m. m.fixed.boot ≡ b.fixed.boot) (λ upto same. same) readied refl in
    let sent = readied_keeps x old b n (λ m. (link_in m v).sent ≡ (link_in b v).sent) (λ upto same. same) readied refl in
    inl (b, at, boot, omega (arith, sent, none))
same_life arts x es js old new e j fits reads run u v hop n (Acts acts b at m readied after unforged) =
    let w = ready x old e in
    let boot = readied_keeps x old b m.node (λ q. q.fixed.boot ≡ b.fixed.boot) (λ upto same. same) readied refl in
    let sent = readied_keeps x old b m.node (λ q. (link_in q v).sent ≡ (link_in b v).sent) (λ upto same. same) readied refl in
    let there = readied_keeps x old b m.node (λ q. list_any (is_link v) q.links ≡ true) (λ upto same. same) readied
    (link_there x u v b (rows_are arts x es js old fits reads run u b at) hop) in
    let step = link_step arts x m.node m.input m.output m.after v (next_frame w e) j.reply there m.step m.journal.reply in
    let count = step_sent arts x es w m.node m.after e m.input u v acts m.reaches step in
    let stays = ap (λ (f : Fixed). f.boot) (step_stays arts m.node m.input m.output m.after m.step).fixed in
    let same = ap (λ (q : NodeState). (link_in q v).sent) after in
    inl (b, at, ap (λ (q : NodeState). q.fixed.boot) after ∙ stays ∙ boot, omega (arith, count, sent, same))
same_life arts x es js old new e j fits reads run u v hop n (Begins on is start after none) =
    inr (ap (λ (q : NodeState). q.fixed.boot) after ∙ ap (λ (f : Fixed). f.boot) (start_fixed arts x u old on) ∙ start_boot x old u on)

pub placed_on : (arts : Arts) (x : Setting) (es : List Event) (js : List Entry) (old new : World) (e : Event) (j : Entry) → SettingFits arts x
    → Carries x.topology.format arts
    → Clean arts x es js old → (range : InRange x es e) → (turn : Turn arts x old e j new) → forged_in arts x es js old e j new turn ≡ None
    → (u v : NodeId) → is_hop x u v ≡ true → (k : ℕ) (h : Head) → Placed x es old u v k h → Placed x (es ++ e ∷ []) new u v k h
placed_on arts x es js old new e j fits reads run range turn unforged u v hop k h p = record {
  boot = p.boot;
  counter = p.counter;
  head = p.head;
  born = let up = last_rises arts x old e j new turn u in let low = p.born in omega (arith, up, low);
  some = p.some;
  number = λ n at is. elim
      (same_life arts x es js old new e j fits reads run u v hop n (becomes arts x es js old e j new fits reads run range turn unforged u n at)) [
        | inl it ↦ let was = p.number it.0 it.1 (sym it.2 ∙ is) in let same = it.3 in omega (arith, was, same)
        | inr later ↦ absurd (let low = p.born in omega (arith, later, low, is))
      ];
}

-- a frame that is made goes in the last place
placed_now : (arts : Arts) (x : Setting) (es : List Event) (js : List Entry) (old new : World) (e : Event) (j : Entry) → SettingFits arts x
    → Carries x.topology.format arts
    → HeadsReadBack arts → Clean arts x es js old → (range : InRange x es e) → (turn : Turn arts x old e j new) → forged_in arts x es js old e j new turn ≡ None
    → (u v : NodeId) → is_hop x u v ≡ true → (b : NodeState) → node_in old.nodes u ≡ Some b → (k : ℕ) → k ≡ polls es u v
    → Placed x (es ++ e ∷ []) new u v k (arts.head (frame_to arts b v))
placed_now arts x es js old new e j fits reads heads run range turn unforged u v hop b there k place = record {
  boot = b.fixed.boot;
  counter = (link_in b v).sent + 1;
  head = frame_head arts x es js old fits reads heads run u v hop b there;
  born = let up = last_rises arts x old e j new turn u in let is = running_boot arts x es js old fits reads run u b there in omega (arith, up, is);
  some = omega arith;
  number = λ n at is. elim
      (same_life arts x es js old new e j fits reads run u v hop n (becomes arts x es js old e j new fits reads run range turn unforged u n at)) [
        | inl it ↦
            let same : it.0 ≡ b = same_Some it.0 b (sym it.1 ∙ there) in
            let sent = ap (λ (q : NodeState). (link_in q v).sent) same in
            let count = it.3 in
            omega (arith, count, sent, place)
        | inr later ↦ absurd (let mine = running_boot arts x es js old fits reads run u b there in omega (arith, later, mine, is))
      ];
}

heads_more : (arts : Arts) (x : Setting) (es : List Event) (js : List Entry) (old new : World) (e : Event) (j : Entry) → SettingFits arts x
    → Carries x.topology.format arts
    → HeadsReadBack arts → Clean arts x es js old → (range : InRange x es e) → (turn : Turn arts x old e j new) → forged_in arts x es js old e j new turn ≡ None
    → (u v : NodeId) → is_hop x u v ≡ true
    → ((k : ℕ) (bytes : List ℕ) → slice_get (frames_in old.directions u v) k ≡ Some (Some bytes) → Placed x es old u v k (arts.head bytes))
    → (k : ℕ) (bytes : List ℕ) → slice_get (frames_in new.directions u v) k ≡ Some (Some bytes) → FramesTurn arts old e new u v
    → Placed x (es ++ e ∷ []) new u v k (arts.head bytes)
heads_more arts x es js old new e j fits reads heads run range turn unforged u v hop holds k bytes at (Makes on b there is) =
    elim (get_push (frames_in old.directions u v) (Some (frame_to arts b v)) k (Some bytes) (ap (λ fs. slice_get fs k) (sym is) ∙ at)) [
      | inl was ↦ placed_on arts x es js old new e j fits reads run range turn unforged u v hop k (arts.head bytes) (holds k bytes was)
      | inr last ↦
          let place : k ≡ polls es u v = let count = frames_count arts x es js old run u v in let end = last.0 in omega (arith, count, end) in
          subst (λ bs. Placed x (es ++ e ∷ []) new u v k (arts.head bs)) (sym (same_Some bytes (frame_to arts b v) last.1))
          (placed_now arts x es js old new e j fits reads heads run range turn unforged u v hop b there k place)
    ]
heads_more arts x es js old new e j fits reads heads run range turn unforged u v hop holds k bytes at (Misses on down is) =
    elim (get_push (frames_in old.directions u v) None k (Some bytes) (ap (λ fs. slice_get fs k) (sym is) ∙ at)) [
      | inl was ↦ placed_on arts x es js old new e j fits reads run range turn unforged u v hop k (arts.head bytes) (holds k bytes was)
      | inr last ↦ absurd (let f : Some bytes ≡ None = last.1 in cc)
    ]
heads_more arts x es js old new e j fits reads heads run range turn unforged u v hop holds k bytes at (Leaves off is) =
    placed_on arts x es js old new e j fits reads run range turn unforged u v hop k (arts.head bytes) (holds k bytes (ap (λ fs. slice_get fs k) (sym is) ∙ at))

pub heads_are : (arts : Arts) (x : Setting) (es : List Event) (js : List Entry) (w : World) → SettingFits arts x → Carries x.topology.format arts
    → HeadsReadBack arts → Clean arts x es js w
    → (u v : NodeId) → is_hop x u v ≡ true → (k : ℕ) (bytes : List ℕ) → slice_get (frames_in w.directions u v) k ≡ Some (Some bytes)
    → Placed x es w u v k (arts.head bytes)
heads_are arts x es js w fits reads heads Starts u v hop k bytes at = absurd cc
heads_are arts x es js w fits reads heads (Turned {es = es'} {js = js'} {old = old} {e = e} {j = j} run range turn unforged) u v hop k bytes at =
    heads_more arts x es' js' old w e j fits reads heads run range turn unforged u v hop
    (λ i frame was. heads_are arts x es' js' old fits reads heads run u v hop i frame was)
    k bytes at (frames_turn arts x old e j w turn u v)
