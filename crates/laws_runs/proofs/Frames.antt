-- Each frame of a direction was made by its node, in a state within its bounds.
use Rattle.std.proofs.Common.{◌≡◌, ℕ, List, Option, Some, None, sym, ap, subst, ◌∙◌}
use Rattle.std.specs.Prelude.{IsTrue, slice_get}
use Rattle.sp_base.specs.declared.id.NodeId.{NodeId}
use Rattle.sp_msg.specs.declared.kept.Kept.{Kept}
use Rattle.sp_rules.specs.Arts.{Arts}
use Rattle.sp_rules.specs.Node.{NodeState, call_refusal}
use Rattle.sp_rules.specs.Parts.{Fixed, is_signed}
use Rattle.sp_rules.specs.Polls.{frame_to}
use Rattle.sp_rules.specs.Steps as steps
use Rattle.sp_rules.specs.Steps.{Output}
use Rattle.sp_rules.specs.declared.node.NodeRefused.{NodeRefused}
use Rattle.laws_node.specs.Nodes.{IsKept}
use Rattle.laws_node.proofs.Weaker.{node_weaker}
use Rattle.sp_runs.specs.Inputs.{acting, input_of}
use Rattle.sp_runs.specs.Lives.{directions_missed, ready}
use Rattle.sp_runs.specs.Runs.{AreFields, Clean, InRange, Lives, Move, Starts, Turn, Turned, Moves, Stays, directions_after}
use Rattle.sp_runs.specs.Settings.{Setting, SettingFits}
use Rattle.sp_runs.specs.Worlds.{Direction, World, frames_in}
use Rattle.sp_journal.specs.declared.entry.Entry.{Entry}
use Rattle.sp_schedule_events.specs.declared.event.Event.{Event}
use Rattle.sp_schedule_events.specs.declared.event.Event.TheVariants as events
use Rattle.laws_runs.specs.Premises.{Carries}
use Rattle.laws_runs.specs.Calls.{FramesAreMade, IsMadeFrame}
use Rattle.laws_runs.specs.Signs.{Good, NodeIs, sizes_at}
use Rattle.laws_runs.proofs.Kept.{read_off}
use Rattle.laws_runs.proofs.LifeCases.{Exhausts, LifeCase, Nobody, Starts_now, Stops, life_case}
use Rattle.laws_runs.proofs.Neighbours.{neighbour_there}
use Rattle.laws_runs.proofs.Ready.{ready_frames}
use Rattle.laws_runs.proofs.Signed.{signs_there}
use Rattle.laws_runs.proofs.SignedEvents.{EachFrame, frames_after, frames_missed, polled}

-- each message that the node keeps bears its signer's valid signature
is_kept : (arts : Arts) (x : Setting) (es : List Event) (js : List Entry) (u : NodeId) (n : NodeState) → NodeIs x (Good arts x es js) u n → IsKept arts n
is_kept arts x es js u n is =
    let Q : Kept → Type 0 = λ o. IsTrue (is_signed arts n.fixed o) in
    let right : (o : Kept) → Good arts x es js o → Q o = λ o good. subst (λ (f : Fixed). IsTrue (is_signed arts f o)) (sym is.fixed) good.right in
    read_off x Q u n (node_weaker (sizes_at x (Good arts x es js) u) Q right n is.holds)

pub gives : (arts : Arts) (n : NodeState) (v : NodeId) (made : List ℕ) (r : Option NodeRefused)
    → (steps.refused_call r (steps.replied (steps.Frame (frame_to arts n v)))).reply ≡ steps.Frame made → made ≡ frame_to arts n v
gives arts n v made None e = cc
gives arts n v made (Some why) e = absurd cc

-- one event more
made_after : (arts : Arts) (x : Setting) (es' : List Event) (js' : List Entry) (old w : World) (e : Event) (j : Entry) → SettingFits arts x
    → Carries x.topology.format arts
    → Clean arts x es' js' old → InRange x es' e → EachFrame (IsMadeFrame arts x) old.directions → Turn arts x old e j w
    → EachFrame (IsMadeFrame arts x) w.directions
made_after arts x es' js' old w e j fits carries run range was turn u v place bytes at = go turn
  where
    there : World
    there = ready x old e

    made_by : (n : NodeState) (output : Output) (a b : NodeId) (made : List ℕ) → AreFields x es' (events.Poll a b) → NodeIs x (Good arts x es' js') a n
        → output ≡ steps.poll_output arts n b
        → output.reply ≡ steps.Frame made → IsMadeFrame arts x a b made
    made_by n output a b made within is out reply = record {
      node = n;
      fixed = is.fixed;
      kept = is_kept arts x es' js' a n is;
      neighbour = neighbour_there x (Good arts x es' js') a b n is within.1;
      frame = gives arts n b made (call_refusal n b) (ap (λ (o : Output). o.reply) (sym out) ∙ reply);
    }

    moved : (m : Move arts x there e j w) (a b : NodeId) (made : List ℕ) → e ≡ events.Poll a b → m.output.reply ≡ steps.Frame made → IsMadeFrame arts x a b made
    moved m a b made poll reply =
        let is = (signs_there arts x es' js' old e fits carries run).nodes (acting e) m.node m.is_there in
        let reaches = subst (λ (y : Event). input_of arts x there m.node y ≡ Some m.input) poll m.reaches in
        made_by m.node m.output a b made (subst (AreFields x es') poll range.fields)
        (subst (λ (y : Event). NodeIs x (Good arts x es' js') (acting y) m.node) poll is)
        (polled arts x es' there m.node a b m.input m.output m.after made reaches m.step reply) reply

    stays : (ds : List Direction) → w.directions ≡ ds → EachFrame (IsMadeFrame arts x) ds → IsMadeFrame arts x u v bytes
    stays ds same all = all u v place bytes (subst (λ (k : List Direction). slice_get (frames_in k u v) place ≡ Some (Some bytes)) same at)

    life : LifeCase arts x old e j w → IsMadeFrame arts x u v bytes
    life (Starts_now c is start) = stays old.directions (ap (λ (y : World). y.directions) start.world) was
    life (Exhausts c is none) = stays old.directions (ap (λ (y : World). y.directions) none.world) was
    life (Stops c is stop) =
        stays (ready x old (events.Stop c)).directions (ap (λ (y : World). y.directions) stop.world)
        (subst (EachFrame (IsMadeFrame arts x)) (sym (ready_frames x old (events.Stop c))) was)
    life (Nobody other d) =
        stays (directions_missed old.directions e) (ap (λ (y : World). y.directions) d.world) (frames_missed (IsMadeFrame arts x) old.directions e was)

    go : Turn arts x old e j w → IsMadeFrame arts x u v bytes
    go (Moves m) = stays (directions_after there.directions e m.output.reply) (ap (λ (y : World). y.directions) m.world)
        (frames_after (IsMadeFrame arts x) there.directions e m.output.reply (moved m)
        (subst (EachFrame (IsMadeFrame arts x)) (sym (ready_frames x old e)) was))
    go (Stays s) = stays old.directions (ap (λ (y : World). y.directions) s.world) was
    go (Lives on l) = life (life_case arts x old e j w l)

pub frames_are_made : FramesAreMade
frames_are_made arts x es js w fits carries Starts u v place bytes at = absurd (cc)
frames_are_made arts x es js w fits carries (Turned {es = es'} {js = js'} {old = old} {e = e} {j = j} run range turn unforged) u v place bytes at =
    made_after arts x es' js' old w e j fits carries run range (frames_are_made arts x es' js' old fits carries run) turn u v place bytes at
