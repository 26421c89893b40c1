-- Counts over a run: the calls of a node, the frames of a direction.
use Rattle.std.proofs.Common.{◌≡◌, ◌≤◌, ℕ, ◌+◌, ◌==◌, ◌&&◌, Bool, true, false, cond, eqb, List, [], ◌∷◌, ◌++◌, length, Option, Some, None, refl, sym, ap, subst}
use Rattle.std.proofs.Common.{◌∙◌, inl, inr, arith}
use Rattle.std.proofs.lemmas.Bool.{eqb-true, eq-eqb}
use Rattle.std.proofs.lemmas.List.{length_push}
use Rattle.std.proofs.lemmas.List.Sums.{sum_by_push}
use Rattle.sp_base.proofs.RowLemmas.{first_where-put, first_where-put_other}
use Rattle.sp_base.specs.declared.id.NodeId.{NodeId}
use Rattle.sp_msg.specs.declared.body.Ack.{Ack}
use Rattle.sp_msg.specs.declared.refused.SendRefused.{SendRefused}
use Rattle.sp_rules.specs.Arts.{Arts}
use Rattle.sp_epoch.specs.declared.started.Started.{Started}
use Rattle.sp_rules.specs.Node.{NodeState, announced, booted, call_refusal, kept_or}
use Rattle.sp_rules.specs.KflowSends.{send_krel_refusal}
use Rattle.sp_rules.specs.Parts.{nodes_of}
use Rattle.sp_rules.specs.declared.kflow.FlowKind.{FlowKind}
use Rattle.sp_rules.specs.declared.kflow.FlowKind.TheVariants.{Plain, Paths}
use Rattle.sp_rules.specs.Sends.{rel_refusal, send_prio_refusal, signer_refusal, weight_refusal}
use Rattle.sp_rules.specs.Polls.{frame_to}
use Rattle.sp_rules.specs.Steps as steps
use Rattle.sp_rules.specs.Steps.{Input, NodeStep, Output}
use Rattle.sp_rules.specs.Ticks.{after_plain, at_time, due_now, second_refusal, settled_by}
use Rattle.sp_rules.specs.declared.node.NodeRefused.{NodeRefused}
use Rattle.sp_rules.specs.Arrivals.{before_document, document_at, read_by}
use Rattle.sp_runs.specs.Inputs.{acting, input_of}
use Rattle.sp_runs.specs.Journals.{reply_word}
use Rattle.sp_runs.specs.Lives.{directions_missed, next_start, ready}
use Rattle.sp_runs.specs.Runs.{Clean, Lives, Turn, Starts, Turned, Moves, Stays, directions_after, is_poll, next_frame, polls}
use Rattle.sp_runs.specs.Settings.{Setting, SettingFits, fixed_at, link_keys, node_at_start, signer_from}
use Rattle.sp_runs.specs.Worlds.{Direction, World, frames_in, is_from_to, node_in, with_frame}
use Rattle.sp_journal.specs.declared.entry.Entry.{Entry}
use Rattle.sp_journal.specs.declared.entry.Reply.{Reply as Words}
use Rattle.sp_schedule_events.specs.Documents.{list_in, with_list}
use Rattle.sp_schedule_events.specs.declared.event.Event.{Event}
use Rattle.sp_schedule_events.specs.declared.event.Event.TheVariants as events
use Rattle.laws_runs.specs.Calls.{FramesAreCounted}
use Rattle.laws_runs.specs.Premises.{Carries}
use Rattle.laws_runs.proofs.Goods.{plain_start, started}
use Rattle.laws_runs.proofs.Started.{of_craft}
use Rattle.laws_runs.proofs.KeyFiles.{key_files_stand, ready_once}
use Rattle.laws_runs.proofs.LifeCases.{Exhausts, LifeCase, Nobody, Starts_now, Stops, life_case}
use Rattle.laws_runs.proofs.Lists.{both}
use Rattle.laws_runs.proofs.Lives.{step_stays}
use Rattle.laws_runs.proofs.Ready.{As_was, Extended, Readied, ready_frames, was_there}
use Rattle.laws_runs.proofs.Running.{more_found, without_left}
use Rattle.laws_runs.proofs.SignedEvents.{even}
use Rattle.laws_runs.proofs.Tables.{node_is, node_put, same_node}
use Rattle.laws_node.proofs.Adopting.{publishing, reading}

-- ---- calls

-- a step that may be refused
either_calls : {X : Type 0} (o : Option X) (n m : NodeState) → m.calls ≤ n.calls + 1 → (kept_or o n m).calls ≤ n.calls + 1
either_calls None n m few = few
either_calls (Some refusal) n m few = omega arith

settled_calls : (arts : Arts) (kind : FlowKind) (n : NodeState) (o : Option Ack) (refusal : Option SendRefused)
    → (settled_by arts kind n o refusal).calls ≡ n.calls
settled_calls arts kind n None refusal = refl
settled_calls arts kind n (Some ack) (Some why) = refl
settled_calls arts kind n (Some ack) None = refl

-- a step is one call at most
step_calls : (arts : Arts) (n : NodeState) (input : Input) (output : Output) (after : NodeState) → NodeStep arts n input output after
    → after.calls ≤ n.calls + 1
step_calls arts n (steps.Poll v) output after s = subst (λ (m : NodeState). m.calls ≤ n.calls + 1) (sym s.1) (either_calls (call_refusal n v) n _ (omega arith))
step_calls arts n (steps.Datagram v bytes) output after s =
    let left = before_document arts n v bytes in
    let same = reading arts left (document_at arts n v bytes) (λ m told. m.calls ≡ left.calls) refl (λ document d is reads by. refl) in
    subst (λ (m : NodeState). m.calls ≤ n.calls + 1) (sym s.1)
    (either_calls (call_refusal n v) n (read_by arts left (document_at arts n v bytes)) (omega (arith, same)))
step_calls arts n (steps.Tick now) output after s =
    let one = settled_calls arts Plain (at_time n now) (due_now Plain n) (signer_refusal n.signer) in
    let two = settled_calls arts Paths (after_plain arts n now) (due_now Paths n) (second_refusal arts n now) in
    let is = ap (λ (m : NodeState). m.calls) s.1 in
    omega (arith, one, two, is)
step_calls arts n (steps.SendRel dst payload) output after s =
    subst (λ (m : NodeState). m.calls ≤ n.calls + 1) (sym s.1) (either_calls (rel_refusal n dst) n _ (omega arith))
step_calls arts n (steps.SendPrio m) output after s =
    subst (λ (m : NodeState). m.calls ≤ n.calls + 1) (sym s.new_is) (either_calls (send_prio_refusal n m s.choice) n _ (omega arith))
step_calls arts n (steps.SetWeight v weight) output after s =
    subst (λ (m : NodeState). m.calls ≤ n.calls + 1) (sym s.1) (either_calls (weight_refusal n v weight) n _ (omega arith))
step_calls arts n (steps.SendKrel m) output after s =
    subst (λ (y : NodeState). y.calls ≤ n.calls + 1) (sym s.new_is) (either_calls (send_krel_refusal n m s.choice) n _ (omega arith))
step_calls arts n (steps.TakeKrel src) output after s = let is = ap (λ (m : NodeState). m.calls) s.1 in omega (arith, is)
step_calls arts n (steps.TakeRel src) output after s = let is = ap (λ (m : NodeState). m.calls) s.1 in omega (arith, is)
step_calls arts n steps.TakePrio output after s = let is = ap (λ (m : NodeState). m.calls) s.1 in omega (arith, is)
step_calls arts n (steps.Publish document) output after s =
    let same = publishing arts n document (λ m told. m.calls ≡ n.calls) refl (λ d reads by. refl) in
    let is = ap (λ (m : NodeState). m.calls) s.1 in
    omega (arith, same, is)

-- what the nodes of a world answered, where they answered no more than this
abbrev Few : ℕ → World → Type 0
Few most w = (u : NodeId) (n : NodeState) → node_in w.nodes u ≡ Some n → n.calls ≤ most

-- one event is one call more at most
few_after : (arts : Arts) (x : Setting) (es' : List Event) (js' : List Entry) (old w : World) (e : Event) (j : Entry) → SettingFits arts x
    → Clean arts x es' js' old
    → Few (length es') old → Turn arts x old e j w → (u : NodeId) (n : NodeState) → node_in w.nodes u ≡ Some n → n.calls ≤ length (es' ++ e ∷ [])
few_after arts x es' js' old w e j fits run before turn u n at = go turn
  where
    more : length (es' ++ e ∷ []) ≡ length es' + 1
    more = length_push es' e

    readied_calls : (v : World) (b m : NodeState) → Readied x v b m → m.calls ≡ b.calls
    readied_calls v b m (As_was same) = ap (λ (k : NodeState). k.calls) same
    readied_calls v b m (Extended on few same) = ap (λ (k : NodeState). k.calls) same

    there : (f : Event) → Few (length es') (ready x old f)
    there f a m is =
        let was = was_there x old f a m is in
        let few = before a was.before was.is_there in
        let same = readied_calls old was.before m was.readied in
        omega (arith, few, same)

    in_old : (v : World) → Few (length es') v → node_in v.nodes u ≡ Some n → n.calls ≤ length (es' ++ e ∷ [])
    in_old v few is = let low = few u n is in let m = more in omega (arith, low, m)

    in_world : (v : World) → w ≡ v → node_in v.nodes u ≡ Some n
    in_world v same = subst (λ (y : World). node_in y.nodes u ≡ Some n) same at

    start_calls : (c : NodeId) (s : Started) → (node_at_start arts x c s).calls ≡ 0
    start_calls c s = by x.epochs
      where
        by : (on : Bool) → (cond on (announced arts (booted (fixed_at x c s.boot) (signer_from x c s.index s.bound) (link_keys x c) x.buffer x.store))
            (booted (fixed_at x c s.boot) (signer_from x c s.index s.bound) (link_keys x c) x.buffer x.store)).calls ≡ 0
        by true = refl
        by false = refl

    life : x.epochs ≡ true → LifeCase arts x old e j w → n.calls ≤ length (es' ++ e ∷ [])
    life on (Starts_now c is start) =
        elim (more_found u n (node_at_start arts x c (next_start x old c)) old.nodes (in_world _ start.world)) [
          | inl was ↦ in_old old before was
          | inr it ↦ let none = ap (λ (k : NodeState). k.calls) it.1 ∙ start_calls c (next_start x old c) in omega (arith, none)
        ]
    life on (Exhausts c is none) = in_old old before (in_world old none.world)
    life on (Stops c is stop) =
        in_old (ready x old (events.Stop c)) (there (events.Stop c))
        (without_left u c n (ready x old (events.Stop c)).nodes (in_world _ stop.world)
        (ready_once x es' old (events.Stop c) on (key_files_stand arts x es' js' old fits run)))
    life on (Nobody other d) =
        in_old old before
        (in_world (record old { directions = directions_missed old.directions e; published = with_list old.published (list_in e) }) d.world)

    go : Turn arts x old e j w → n.calls ≤ length (es' ++ e ∷ [])
    go (Moves m) =
        let v = ready x old e in
        let me : m.after.fixed.me ≡ acting e =
        ap (λ f. f.me) (step_stays arts m.node m.input m.output m.after m.step).fixed ∙ node_is v.nodes (acting e) m.node m.is_there in
        elim (node_put u (acting e) m.after n v.nodes me (in_world _ m.world)) [
          | inl here ↦
              let low = there e (acting e) m.node m.is_there in
              let one = step_calls arts m.node m.input m.output m.after m.step in
              let is = ap (λ (y : NodeState). y.calls) here.1 in
              let k = more in
              omega (arith, k, low, one, is)
          | inr other ↦ in_old v (there e) other.1
        ]
    go (Stays s) = in_old old before (in_world old s.world)
    go (Lives on l) = life on (life_case arts x old e j w l)

-- no node has answered more calls than there were events
pub few_calls : (arts : Arts) (x : Setting) (es : List Event) (js : List Entry) (w : World) → SettingFits arts x → Carries x.topology.format arts
    → Clean arts x es js w
    → (u : NodeId) (n : NodeState) → node_in w.nodes u ≡ Some n → n.calls ≤ length es
few_calls arts x es js w fits carries Starts u n at =
    let none = ap (λ (m : NodeState). m.calls) (started x (nodes_of x.topology) u n (plain_start x u n at).1).0 in
    omega (arith, none)
few_calls arts x es js w fits carries (Turned {es = es'} {js = js'} {old = old} {e = e} {j = j} run range turn unforged) u n at =
    few_after arts x es' js' old w e j fits run (few_calls arts x es' js' old fits carries run) turn u n at

-- ---- frames

together : (m n : ℕ) → ((m == m) && (n == n)) ≡ true
together m n = rw (eq-eqb m m refl, eq-eqb n n refl) refl

from_to : (u v : NodeId) (d : Direction) → is_from_to u v d ≡ true → (d.from.0 ≡ u.0) × (d.to.0 ≡ v.0)
from_to u v d t = let parts = both _ _ t in (eqb-true _ _ parts.0, eqb-true _ _ parts.1)

-- a frame more of one direction
one_frame : (ds : List Direction) (a b u v : NodeId) (frame : Option (List ℕ))
    → length (frames_in (with_frame ds a b frame) u v) ≡ length (frames_in ds u v) + cond ((a.0 == u.0) && (b.0 == v.0)) 1 0
one_frame ds a b u v frame = by ((a.0 == u.0) && (b.0 == v.0)) refl
  where
    row : Direction
    row = record { from = a; to = b; frames = frames_in ds a b ++ frame ∷ [] }

    apart : (d : Direction) → (d.from.0 ≡ a.0) × (d.to.0 ≡ b.0) → (eqb a.0 u.0 && eqb b.0 v.0) ≡ false → is_from_to u v d ≡ false
    apart d ends t = ap (λ n. eqb n u.0 && eqb d.to.0 v.0) ends.0 ∙ ap (λ n. eqb a.0 u.0 && eqb n v.0) ends.1 ∙ t

    here : length (frames_in (with_frame ds a b frame) a b) ≡ length (frames_in ds a b) + 1
    here =
        ap (λ (d : Direction). length d.frames) (first_where-put (is_from_to a b) (record { from = a; to = b; frames = [] }) row ds (together a.0 b.0))
        ∙ length_push (frames_in ds a b) frame

    by : (t : Bool) → ((a.0 == u.0) && (b.0 == v.0)) ≡ t → length (frames_in (with_frame ds a b frame) u v) ≡ length (frames_in ds u v) + cond t 1 0
    by true is =
        let parts = both (a.0 == u.0) (b.0 == v.0) is in
        let ua : a ≡ u = same_node a u (eqb-true _ _ parts.0) in
        let vb : b ≡ v = same_node b v (eqb-true _ _ parts.1) in
        subst (λ (n : NodeId). length (frames_in (with_frame ds a b frame) n v) ≡ length (frames_in ds n v) + 1) ua
        (subst (λ (n : NodeId). length (frames_in (with_frame ds a b frame) a n) ≡ length (frames_in ds a n) + 1) vb here)
    by false is =
        ap (λ (d : Direction). length d.frames) (first_where-put_other (is_from_to a b) (is_from_to u v) (record { from = u; to = v; frames = [] }) row ds
        (λ d on. apart d (from_to a b d on) is) is)
        ∙ omega arith

-- a poll gave a frame
abbrev MakesFrame : Event → steps.Reply → Type 0
MakesFrame (events.Poll a b) r = (made : List ℕ) × (r ≡ steps.Frame made)
MakesFrame _ r = Unit {0}

none_more : (n : ℕ) → n ≡ n + 0
none_more n = omega arith

frame_more : (ds : List Direction) (e : Event) (r : steps.Reply) (u v : NodeId) → MakesFrame e r
    → length (frames_in (directions_after ds e r) u v) ≡ length (frames_in ds u v) + cond (is_poll u v e) 1 0
frame_more ds (events.Poll a b) r u v made =
    subst (λ (q : steps.Reply). length (frames_in (directions_after ds (events.Poll a b) q) u v) ≡ length (frames_in ds u v)
    + cond (is_poll u v (events.Poll a b)) 1 0)
    (sym made.1) (one_frame ds a b u v (Some made.0))
frame_more ds (events.Rel a b p) r u v made = none_more (length (frames_in ds u v))
frame_more ds (events.Krel a b count p) r u v made = none_more (length (frames_in ds u v))
frame_more ds (events.Prio a b c d f p) r u v made = none_more (length (frames_in ds u v))
frame_more ds (events.Take a b) r u v made = none_more (length (frames_in ds u v))
frame_more ds (events.KTake a b) r u v made = none_more (length (frames_in ds u v))
frame_more ds (events.TakePrio a) r u v made = none_more (length (frames_in ds u v))
frame_more ds (events.Tick a b) r u v made = none_more (length (frames_in ds u v))
frame_more ds (events.Weight a b c) r u v made = none_more (length (frames_in ds u v))
frame_more ds (events.Pass a b c) r u v made = none_more (length (frames_in ds u v))
frame_more ds (events.Flip a b c d f) r u v made = none_more (length (frames_in ds u v))
frame_more ds (events.Inject a b c) r u v made = none_more (length (frames_in ds u v))
frame_more ds (events.Craft a b c d) r u v made = none_more (length (frames_in ds u v))
frame_more ds (events.CraftStatus a b c d f g) r u v made = none_more (length (frames_in ds u v))
frame_more ds (events.Publish u' weights) r u v made = none_more (length (frames_in ds u v))
frame_more ds (events.CraftDocument c' v' key' version weights) r u v made = none_more (length (frames_in ds u v))
frame_more ds (events.Start a) r u v made = none_more (length (frames_in ds u v))
frame_more ds (events.Stop a) r u v made = none_more (length (frames_in ds u v))

makes_frame : (arts : Arts) (x : Setting) (es : List Event) (w : World) (n : NodeState) (e : Event) (input : Input) (output : Output) (after : NodeState)
    (number : ℕ) (words : Words)
    → input_of arts x w n e ≡ Some input → NodeStep arts n input output after → reply_word x number output.reply ≡ Some words → MakesFrame e output.reply
makes_frame arts x es w n (events.Poll a b) input output after number words reaches step told =
    let same : input ≡ steps.Poll b = cc in
    let moves : NodeStep arts n (steps.Poll b) output after = subst (λ i. NodeStep arts n i output after) same step in
    go (call_refusal n b) (ap (λ (o : Output). o.reply) moves.0)
  where
    go : (r : Option NodeRefused) → output.reply ≡ (steps.refused_call r (steps.replied (steps.Frame (frame_to arts n b)))).reply
        → MakesFrame (events.Poll a b) output.reply
    go None is = (frame_to arts n b, is)
    go (Some why) is = absurd (let none : None ≡ Some words = ap (λ (q : steps.Reply). reply_word x number q) (sym is) ∙ told in cc)
makes_frame arts x es w n (events.Rel a b p) input output after number words reaches step told = tt
makes_frame arts x es w n (events.Krel a b count p) input output after number words reaches step told = tt
makes_frame arts x es w n (events.Prio a b c d f p) input output after number words reaches step told = tt
makes_frame arts x es w n (events.Take a b) input output after number words reaches step told = tt
makes_frame arts x es w n (events.KTake a b) input output after number words reaches step told = tt
makes_frame arts x es w n (events.TakePrio a) input output after number words reaches step told = tt
makes_frame arts x es w n (events.Tick a b) input output after number words reaches step told = tt
makes_frame arts x es w n (events.Weight a b c) input output after number words reaches step told = tt
makes_frame arts x es w n (events.Pass a b c) input output after number words reaches step told = tt
makes_frame arts x es w n (events.Flip a b c d f) input output after number words reaches step told = tt
makes_frame arts x es w n (events.Inject a b c) input output after number words reaches step told = tt
makes_frame arts x es w n (events.Craft a b c d) input output after number words reaches step told = tt
makes_frame arts x es w n (events.CraftStatus a b c d f g) input output after number words reaches step told = tt
makes_frame arts x es w n (events.Publish u' weights) input output after number words reaches step told = tt
makes_frame arts x es w n (events.CraftDocument c' v' key' version weights) input output after number words reaches step told = tt
makes_frame arts x es w n (events.Start a) input output after number words reaches step told = tt
makes_frame arts x es w n (events.Stop a) input output after number words reaches step told = tt

-- one more event counts as a poll where it is one
pub poll_more : (es : List Event) (e : Event) (u v : NodeId) → polls (es ++ e ∷ []) u v ≡ polls es u v + cond (is_poll u v e) 1 0
poll_more es e u v = sum_by_push (λ y. cond (is_poll u v y) 1 0) es e

-- a poll of a node that doesn't run counts too
missed_more : (ds : List Direction) (e : Event) (u v : NodeId)
    → length (frames_in (directions_missed ds e) u v) ≡ length (frames_in ds u v) + cond (is_poll u v e) 1 0
missed_more ds (events.Poll a b) u v = one_frame ds a b u v None
missed_more ds (events.Rel a b p) u v = none_more (length (frames_in ds u v))
missed_more ds (events.Krel a b count p) u v = none_more (length (frames_in ds u v))
missed_more ds (events.Prio a b c d f p) u v = none_more (length (frames_in ds u v))
missed_more ds (events.Take a b) u v = none_more (length (frames_in ds u v))
missed_more ds (events.KTake a b) u v = none_more (length (frames_in ds u v))
missed_more ds (events.TakePrio a) u v = none_more (length (frames_in ds u v))
missed_more ds (events.Tick a b) u v = none_more (length (frames_in ds u v))
missed_more ds (events.Weight a b c) u v = none_more (length (frames_in ds u v))
missed_more ds (events.Pass a b c) u v = none_more (length (frames_in ds u v))
missed_more ds (events.Flip a b c d f) u v = none_more (length (frames_in ds u v))
missed_more ds (events.Inject a b c) u v = none_more (length (frames_in ds u v))
missed_more ds (events.Craft a b c d) u v = none_more (length (frames_in ds u v))
missed_more ds (events.CraftStatus a b c d f g) u v = none_more (length (frames_in ds u v))
missed_more ds (events.Publish u' weights) u v = none_more (length (frames_in ds u v))
missed_more ds (events.CraftDocument c' v' key' version weights) u v = none_more (length (frames_in ds u v))
missed_more ds (events.Start a) u v = none_more (length (frames_in ds u v))
missed_more ds (events.Stop a) u v = none_more (length (frames_in ds u v))

-- one event more
counted_after : (arts : Arts) (x : Setting) (es' : List Event) (old w : World) (e : Event) (j : Entry) (u v : NodeId)
    → length (frames_in old.directions u v) ≡ polls es' u v → Turn arts x old e j w → length (frames_in w.directions u v) ≡ polls (es' ++ e ∷ []) u v
counted_after arts x es' old w e j u v before turn = go turn
  where
    Counts : List Direction → Type 0
    Counts ds = length (frames_in ds u v) ≡ length (frames_in old.directions u v) + cond (is_poll u v e) 1 0

    told : (ds : List Direction) → w.directions ≡ ds → Counts ds → length (frames_in w.directions u v) ≡ polls (es' ++ e ∷ []) u v
    told ds same more =
        ap (λ (k : List Direction). length (frames_in k u v)) same
        ∙ more
        ∙ ap (λ n. n + cond (is_poll u v e) 1 0) before
        ∙ sym (poll_more es' e u v)

    same_count : is_poll u v e ≡ false → Counts old.directions
    same_count none = none_more (length (frames_in old.directions u v)) ∙ ap (λ t. length (frames_in old.directions u v) + cond t 1 0) (sym none)

    no_poll : (f : Event) → e ≡ f → is_poll u v f ≡ false → Counts old.directions
    no_poll f is none = same_count (ap (is_poll u v) is ∙ none)

    life : LifeCase arts x old e j w → length (frames_in w.directions u v) ≡ polls (es' ++ e ∷ []) u v
    life (Starts_now c is start) = told old.directions (ap (λ (y : World). y.directions) start.world) (no_poll (events.Start c) is refl)
    life (Exhausts c is none) = told old.directions (ap (λ (y : World). y.directions) none.world) (no_poll (events.Start c) is refl)
    life (Stops c is stop) =
        told old.directions (ap (λ (y : World). y.directions) stop.world ∙ ready_frames x old (events.Stop c)) (no_poll (events.Stop c) is refl)
    life (Nobody other d) = told (directions_missed old.directions e) (ap (λ (y : World). y.directions) d.world) (missed_more old.directions e u v)

    go : Turn arts x old e j w → length (frames_in w.directions u v) ≡ polls (es' ++ e ∷ []) u v
    go (Moves m) =
        let there = ready x old e in
        let made = makes_frame arts x es' there m.node e m.input m.output m.after (next_frame there e) j.reply m.reaches m.step m.journal.reply in
        told (directions_after old.directions e m.output.reply)
        (ap (λ (y : World). y.directions) m.world ∙ ap (λ (ds : List Direction). directions_after ds e m.output.reply) (ready_frames x old e))
        (frame_more old.directions e m.output.reply u v made)
    go (Stays s) = told old.directions (ap (λ (y : World). y.directions) s.world)
        (same_count (of_craft (λ f. is_poll u v f ≡ false) (λ c v key object. refl) (λ c v key version weights. refl) s.key e s.is_craft))
    go (Lives on l) = life (life_case arts x old e j w l)

pub counted : (arts : Arts) (x : Setting) (es : List Event) (js : List Entry) (w : World) → Clean arts x es js w
    → (u v : NodeId) → length (frames_in w.directions u v) ≡ polls es u v
counted arts x es js w Starts u v = refl
counted arts x es js w (Turned {es = es'} {js = js'} {old = old} {e = e} {j = j} run range turn unforged) u v =
    counted_after arts x es' old w e j u v (counted arts x es' js' old run u v) turn

pub frames_are_counted : FramesAreCounted
frames_are_counted arts x es js w run = record { frames = counted arts x es js w run; entries = even arts x es js w run }
