-- The frames of a direction: each poll adds the one that it made, or an empty place where its node doesn't run, and nothing else changes them. So there are
-- as many places as polls.
use Rattle.std.proofs.Common.{◌≡◌, ◌≤◌, ◌⊎◌, ℕ, zero, suc, ◌==◌, ◌&&◌, ◌||◌, Bool, true, false, eqb, List, [], ◌∷◌, ◌++◌, length, Option, None, Some, refl, sym}
use Rattle.std.proofs.Common.{ap, subst, ◌∙◌, inl, inr, arith}
use Rattle.std.specs.Prelude.{not, option_and_then, slice_get}
use Rattle.std.proofs.lemmas.Bool.{cases_Bool, eqb-true, eq-eqb}
use Rattle.sp_base.proofs.RowLemmas.{first_where-put, first_where-put_other}
use Rattle.sp_base.specs.declared.id.NodeId.{NodeId}
use Rattle.sp_rules.specs.Arts.{Arts}
use Rattle.sp_rules.specs.Node.{NodeState, call_refusal}
use Rattle.sp_rules.specs.Polls.{frame_to}
use Rattle.sp_rules.specs.Steps as steps
use Rattle.sp_rules.specs.Steps.{Input, NodeStep, Output, Poll, poll_output, refused_call, replied}
use Rattle.sp_rules.specs.declared.node.NodeRefused.{NodeRefused}
use Rattle.laws_runs.proofs.Lists.{both}
use Rattle.laws_runs.proofs.LifeCases.{Exhausts, LifeCase, Nobody, Starts_now, Stops, life_case}
use Rattle.laws_runs.proofs.Ready.{Readied, ready_frames, was_there}
use Rattle.laws_runs.proofs.Tables.{same_node}
use Rattle.sp_runs.specs.Inputs.{acting, input_of}
use Rattle.sp_runs.specs.Lives.{comes_to_nobody, directions_missed, ready}
use Rattle.sp_runs.specs.Journals.{Says, reply_word}
use Rattle.sp_runs.specs.Runs.{Clean, IsCraftOf, Lives, Moves, Stays, Turn, directions_after, next_frame, polls}
use Rattle.sp_runs.specs.Settings.{Setting}
use Rattle.sp_runs.specs.Worlds.{Direction, World, frame_in, frames_in, is_from_to, is_running, node_in, with_frame}
use Rattle.sp_journal.specs.declared.entry.Entry.{Entry}
use Rattle.sp_schedule_events.specs.declared.event.Event.{Event}
use Rattle.sp_schedule_events.specs.declared.event.Event.TheVariants as events
use Rattle.sp_runs.specs.Runs.{is_poll}
use Rattle.laws_progress.proofs.States.{Follows, Follow, State}
use Rattle.laws_progress.proofs.Places.{get_front}
use Rattle.laws_runs.proofs.Counts.{frames_are_counted}
use Rattle.laws_progress.proofs.Becomes.{readied_keeps}
use Rattle.laws_progress.proofs.Polls.{answered, poll_is}

-- ---- one frame more

put_same : (a b : NodeId) (ds : List Direction) (frame : Option (List ℕ)) → frames_in (with_frame ds a b frame) a b ≡ frames_in ds a b ++ frame ∷ []
put_same a b ds frame =
    let row : Direction = record { from = a; to = b; frames = frames_in ds a b ++ frame ∷ [] } in
    let is : is_from_to a b row ≡ true = rw (eq-eqb a.0 a.0 refl, eq-eqb b.0 b.0 refl) refl in
    ap (λ (d : Direction). d.frames) (first_where-put (is_from_to a b) (record { from = a; to = b; frames = [] }) row ds is)

put_other : (u v a b : NodeId) (ds : List Direction) (frame : Option (List ℕ)) → ((a.0 == u.0) && (b.0 == v.0)) ≡ false
    → frames_in (with_frame ds a b frame) u v ≡ frames_in ds u v
put_other u v a b ds frame off =
    let row : Direction = record { from = a; to = b; frames = frames_in ds a b ++ frame ∷ [] } in
    ap (λ (d : Direction). d.frames) (first_where-put_other (is_from_to a b) (is_from_to u v) (record { from = u; to = v; frames = [] }) row ds
    (λ d is.
    let t = both _ _ is in
    ap (λ n. eqb n u.0 && eqb d.to.0 v.0) (eqb-true _ _ t.0) ∙ ap (λ n. eqb a.0 u.0 && eqb n v.0) (eqb-true _ _ t.1) ∙ off) off)

-- ---- a step

abbrev pub FramesAfter : Arts → World → NodeState → Event → steps.Reply → NodeId → NodeId → Type 0
FramesAfter arts w n e reply u v =
    ((is_poll u v e ≡ true) × (frames_in (directions_after w.directions e reply) u v ≡ frames_in w.directions u v ++ Some (frame_to arts n v) ∷ []))
    ⊎ ((is_poll u v e ≡ false) × (frames_in (directions_after w.directions e reply) u v ≡ frames_in w.directions u v))

polled_frames : (arts : Arts) (w : World) (n : NodeState) (a b : NodeId) (u v : NodeId)
    → FramesAfter arts w n (events.Poll a b) (steps.Frame (frame_to arts n b)) u v
polled_frames arts w n a b u v = elim (cases_Bool ((a.0 == u.0) && (b.0 == v.0))) [
  | inl t ↦
      let ends = both _ _ t in
      let au : a ≡ u = same_node a u (eqb-true _ _ ends.0) in
      let bv : b ≡ v = same_node b v (eqb-true _ _ ends.1) in
      inl (
        t,
        ap (λ z. frames_in (with_frame w.directions z b (Some (frame_to arts n b))) u v) au
            ∙ ap (λ z. frames_in (with_frame w.directions u z (Some (frame_to arts n z))) u v) bv ∙ put_same u v w.directions (Some (frame_to arts n v)),
      )
  | inr t ↦ inr (t, put_other u v a b w.directions (Some (frame_to arts n b)) t)
]

pub frames_step : (arts : Arts) (x : Setting) (w : World) (n : NodeState) (e : Event) (i : Input) (o : Output) (m : NodeState) (j : Entry) (u v : NodeId)
    → input_of arts x w n e ≡ Some i → NodeStep arts n i o m → Says x (next_frame w e) o j → FramesAfter arts w n e o.reply u v
frames_step arts x w n (events.Poll a b) i o m j u v reaches step says =
    let input : i ≡ Poll b = cc in
    let made : NodeStep arts n (Poll b) o m = subst (λ k. NodeStep arts n k o m) input step in
    let word = ap (λ (p : Output). reply_word x (next_frame w (events.Poll a b)) p.reply) (sym made.0) ∙ says.reply in
    let free = answered x (next_frame w (events.Poll a b)) (call_refusal n b) (replied (steps.Frame (frame_to arts n b))) j.reply word in
    let reply : o.reply ≡ steps.Frame (frame_to arts n b) =
    ap (λ (p : Output). p.reply) made.0 ∙ ap (λ (r : Option NodeRefused). (refused_call r (replied (steps.Frame (frame_to arts n b)))).reply) free in
    subst (λ r. FramesAfter arts w n (events.Poll a b) r u v) (sym reply) (polled_frames arts w n a b u v)
frames_step arts x w n (events.Rel a b c) i o m j u v reaches step says = inr (refl, refl)
frames_step arts x w n (events.Prio a b c f g h) i o m j u v reaches step says = inr (refl, refl)
frames_step arts x w n (events.Take a b) i o m j u v reaches step says = inr (refl, refl)
frames_step arts x w n (events.Krel a b c f) i o m j u v reaches step says = inr (refl, refl)
frames_step arts x w n (events.KTake a b) i o m j u v reaches step says = inr (refl, refl)
frames_step arts x w n (events.TakePrio a) i o m j u v reaches step says = inr (refl, refl)
frames_step arts x w n (events.Tick a b) i o m j u v reaches step says = inr (refl, refl)
frames_step arts x w n (events.Weight a b c) i o m j u v reaches step says = inr (refl, refl)
frames_step arts x w n (events.Pass a b c) i o m j u v reaches step says = inr (refl, refl)
frames_step arts x w n (events.Flip a b c f g) i o m j u v reaches step says = inr (refl, refl)
frames_step arts x w n (events.Inject a b c) i o m j u v reaches step says = inr (refl, refl)
frames_step arts x w n (events.Craft a b c f) i o m j u v reaches step says = inr (refl, refl)
frames_step arts x w n (events.CraftStatus a b c f g h) i o m j u v reaches step says = inr (refl, refl)
frames_step arts x w n (events.Start a) i o m j u v reaches step says = inr (refl, refl)
frames_step arts x w n (events.Publish a b) i o m j u v reaches step says = inr (refl, refl)
frames_step arts x w n (events.CraftDocument a b c f g) i o m j u v reaches step says = inr (refl, refl)
frames_step arts x w n (events.Stop a) i o m j u v reaches step says = inr (refl, refl)

-- ---- an event

-- a direction after one event: its node made a frame, it was polled where it didn't run, or nothing changes
pub data FramesTurn (arts : Arts) (old : World) (e : Event) (new : World) (u v : NodeId) : Type 0 where
  Makes : is_poll u v e ≡ true → (b : NodeState) → node_in old.nodes u ≡ Some b
      → frames_in new.directions u v ≡ frames_in old.directions u v ++ Some (frame_to arts b v) ∷ [] → FramesTurn arts old e new u v
  Misses : is_poll u v e ≡ true → is_running old.nodes u ≡ false → frames_in new.directions u v ≡ frames_in old.directions u v ++ None ∷ []
      → FramesTurn arts old e new u v
  Leaves : is_poll u v e ≡ false → frames_in new.directions u v ≡ frames_in old.directions u v → FramesTurn arts old e new u v

pub poll_off : (u v : NodeId) (e : Event) → (events.Poll u v ≡ e → ⊥) → is_poll u v e ≡ false
poll_off u v e never = elim (cases_Bool (is_poll u v e)) [
  | inl on ↦ absurd (never (sym (poll_is u v e on)))
  | inr off ↦ off
]

-- a node makes the frame that it would make without the indexes that it reserved before
same_frame : (arts : Arts) (x : Setting) (w : World) (b n : NodeState) (v : NodeId) → Readied x w b n → frame_to arts n v ≡ frame_to arts b v
same_frame arts x w b n v is = readied_keeps x w b n (λ m. frame_to arts m v ≡ frame_to arts b v) (λ upto same. same) is refl

-- a poll that comes to nobody leaves an empty place
missed : (arts : Arts) (old new : World) (e : Event) (u v : NodeId) → comes_to_nobody old e ≡ true
    → new.directions ≡ directions_missed old.directions e → FramesTurn arts old e new u v
missed arts old new e u v nobody after = elim (cases_Bool (is_poll u v e)) [
  | inl on ↦
      let poll = poll_is u v e on in
      let down : not (is_running old.nodes u) || false ≡ true = subst (λ y. comes_to_nobody old y ≡ true) poll nobody in
      Misses on (stopped (is_running old.nodes u) down)
      (ap (λ ds. frames_in ds u v) (after ∙ ap (directions_missed old.directions) poll) ∙ put_same u v old.directions None)
  | inr off ↦ Leaves off (ap (λ ds. frames_in ds u v) after ∙ others e off)
]
  where
    stopped : (t : Bool) → not t || false ≡ true → t ≡ false
    stopped true is = absurd (let f : false ≡ true = is in cc)
    stopped false is = refl

    others : (y : Event) → is_poll u v y ≡ false → frames_in (directions_missed old.directions y) u v ≡ frames_in old.directions u v
    others (events.Poll a b) off = put_other u v a b old.directions None off
    others (events.Rel a b c) off = refl
    others (events.Prio a b c f g h) off = refl
    others (events.Take a b) off = refl
    others (events.Krel a b c f) off = refl
    others (events.KTake a b) off = refl
    others (events.TakePrio a) off = refl
    others (events.Tick a b) off = refl
    others (events.Weight a b c) off = refl
    others (events.Pass a b c) off = refl
    others (events.Flip a b c f g) off = refl
    others (events.Inject a b c) off = refl
    others (events.Craft a b c f) off = refl
    others (events.CraftStatus a b c f g h) off = refl
    others (events.Publish a b) off = refl
    others (events.CraftDocument a b c f g) off = refl
    others (events.Start a) off = refl
    others (events.Stop a) off = refl

pub frames_turn : (arts : Arts) (x : Setting) (old : World) (e : Event) (j : Entry) (new : World) → Turn arts x old e j new → (u v : NodeId)
    → FramesTurn arts old e new u v
frames_turn arts x old e j new (Moves m) u v =
    let ready_is = ready_frames x old e in
    let after : frames_in new.directions u v ≡ frames_in (directions_after (ready x old e).directions e m.output.reply) u v =
    ap (λ (z : World). frames_in z.directions u v) m.world in
    let before : frames_in (ready x old e).directions u v ≡ frames_in old.directions u v = ap (λ ds. frames_in ds u v) ready_is in
    elim (frames_step arts x (ready x old e) m.node e m.input m.output m.after j u v m.reaches m.step m.journal) [
      | inl grown ↦
          let was = was_there x old e (acting e) m.node m.is_there in
          let acts : acting e ≡ u = ap acting (poll_is u v e grown.0) in
          Makes grown.0 was.before (ap (node_in old.nodes) (sym acts) ∙ was.is_there)
          (after ∙ grown.1 ∙ ap (λ fs. fs ++ Some (frame_to arts m.node v) ∷ []) before
          ∙ ap (λ f. frames_in old.directions u v ++ Some f ∷ []) (same_frame arts x old was.before m.node v was.readied))
      | inr same ↦ Leaves same.0 (after ∙ same.1 ∙ before)
    ]
frames_turn arts x old e j new (Stays s) u v =
    Leaves (poll_off u v e (λ is. subst (IsCraftOf s.key) (sym is) s.is_craft)) (ap (λ (z : World). frames_in z.directions u v) s.world)
frames_turn arts x old e j new (Lives on life) u v = go (life_case arts x old e j new life)
  where
    go : LifeCase arts x old e j new → FramesTurn arts old e new u v
    go (Starts_now a is start) =
        Leaves (poll_off u v e (λ z. absurd (let f : events.Poll u v ≡ events.Start a = z ∙ is in cc)))
        (ap (λ (z : World). frames_in z.directions u v) start.world)
    go (Exhausts a is none) =
        Leaves (poll_off u v e (λ z. absurd (let f : events.Poll u v ≡ events.Start a = z ∙ is in cc)))
        (ap (λ (z : World). frames_in z.directions u v) none.world)
    go (Stops a is stop) =
        Leaves (poll_off u v e (λ z. absurd (let f : events.Poll u v ≡ events.Stop a = z ∙ is in cc)))
        (ap (λ (z : World). frames_in z.directions u v) stop.world ∙ ap (λ ds. frames_in ds u v) (ready_frames x old (events.Stop a)))
    go (Nobody other down) = missed arts old new e u v down.nobody (ap (λ (z : World). z.directions) down.world)

-- ---- over a run: as many as polls

pub frames_count : (arts : Arts) (x : Setting) (es : List Event) (js : List Entry) (w : World) → Clean arts x es js w → (u v : NodeId)
    → length (frames_in w.directions u v) ≡ polls es u v
frames_count arts x es js w run = (frames_are_counted arts x es js w run).frames

-- ---- a frame that was made stays

stays_in : (ds es : List Direction) (u v : NodeId) (more : List (Option (List ℕ))) (k : ℕ) → frames_in es u v ≡ frames_in ds u v ++ more
    → k ≤ length (frames_in ds u v) → frame_in es u v k ≡ frame_in ds u v k
stays_in ds es u v more zero same low = refl
stays_in ds es u v more (suc k) same low =
    ap (option_and_then (λ frame. frame)) (ap (λ fs. slice_get fs k) same ∙ get_front (frames_in ds u v) more k (omega (arith, low)))

at_same : (ds es : List Direction) (u v : NodeId) (k : ℕ) → frames_in es u v ≡ frames_in ds u v → frame_in es u v k ≡ frame_in ds u v k
at_same ds es u v zero same = refl
at_same ds es u v (suc k) same = ap (λ fs. option_and_then (λ frame. frame) (slice_get fs k)) same

pub frames_kept : (arts : Arts) (x : Setting) (es : List Event) (js : List Entry) (old : World) (e : Event) (j : Entry) (new : World) → Clean arts x es js old
    → Turn arts x old e j new → (u v : NodeId) (k : ℕ) → k ≤ polls es u v → frame_in new.directions u v k ≡ frame_in old.directions u v k
frames_kept arts x es js old e j new run turn u v k low =
    let count = frames_count arts x es js old run u v in
    go count (frames_turn arts x old e j new turn u v)
  where
    go : length (frames_in old.directions u v) ≡ polls es u v → FramesTurn arts old e new u v → frame_in new.directions u v k ≡ frame_in old.directions u v k
    go count (Makes on b at is) = stays_in old.directions new.directions u v (Some (frame_to arts b v) ∷ []) k is (omega (arith, low, count))
    go count (Misses on down is) = stays_in old.directions new.directions u v (None ∷ []) k is (omega (arith, low, count))
    go count (Leaves off is) = at_same old.directions new.directions u v k is

pub frames_stay : (arts : Arts) (x : Setting) (all : List Event) → (w y : State arts x all) (e : Event) (u v : NodeId) (k : ℕ)
    → Follows arts x all w e y → k ≤ polls w.events u v → frame_in y.world.directions u v k ≡ frame_in w.world.directions u v k
frames_stay arts x all w y e u v k (Follow j events journal range turn unforged) low =
    frames_kept arts x w.events w.journal w.world e j y.world w.run turn u v k low
