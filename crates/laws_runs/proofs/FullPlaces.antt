-- Without epochs each place of a direction has its frame.
use Rattle.std.proofs.Common.{◌≡◌, ℕ, false, List, Some, None, sym, subst, inl, inr}
use Rattle.std.specs.Prelude.{slice_get}
use Rattle.sp_base.specs.declared.id.NodeId.{NodeId}
use Rattle.sp_rules.specs.Arts.{Arts}
use Rattle.sp_rules.specs.Steps as steps
use Rattle.sp_runs.specs.Runs.{Clean, Starts, Turned, directions_after}
use Rattle.sp_runs.specs.Settings.{Setting}
use Rattle.sp_runs.specs.Worlds.{Direction, World, frames_in}
use Rattle.sp_journal.specs.declared.entry.Entry.{Entry}
use Rattle.sp_schedule_events.specs.declared.event.Event.{Event}
use Rattle.sp_schedule_events.specs.declared.event.Event.TheVariants as events
use Rattle.laws_runs.proofs.Plain.{Goes, Plain, Rests, plain_turn}
use Rattle.laws_runs.proofs.Tables.{frame_put}

-- no place is empty
abbrev pub AreFull : List Direction → Type 0
AreFull ds = (u v : NodeId) (k : ℕ) → slice_get (frames_in ds u v) k ≡ Some None → ⊥

full_after : (ds : List Direction) (e : Event) (r : steps.Reply) → AreFull ds → AreFull (directions_after ds e r)
full_after ds (events.Poll a b) (steps.Frame made) full u v k at = elim (frame_put u v a b ds (Some made) k None at) [
  | inl last ↦ absurd (let wrong : None ≡ Some made = last.2 in cc)
  | inr was ↦ full u v k was
]
full_after ds (events.Poll a b) (steps.Arrived link items) full u v k at = full u v k at
full_after ds (events.Poll a b) (steps.Ticked reply) full u v k at = full u v k at
full_after ds (events.Poll a b) (steps.Accepted number) full u v k at = full u v k at
full_after ds (events.Poll a b) (steps.Refused refused) full u v k at = full u v k at
full_after ds (events.Poll a b) (steps.NotCalled refused) full u v k at = full u v k at
full_after ds (events.Poll a b) (steps.Payload payload) full u v k at = full u v k at
full_after ds (events.Poll a b) (steps.Message entry) full u v k at = full u v k at
full_after ds (events.Poll a b) (steps.Replaced answer) full u v k at = full u v k at
full_after ds (events.Rel a b p) r full u v k at = full u v k at
full_after ds (events.Krel a b count p) r full u v k at = full u v k at
full_after ds (events.Prio a b c d f p) r full u v k at = full u v k at
full_after ds (events.Take a b) r full u v k at = full u v k at
full_after ds (events.KTake a b) r full u v k at = full u v k at
full_after ds (events.TakePrio a) r full u v k at = full u v k at
full_after ds (events.Tick a b) r full u v k at = full u v k at
full_after ds (events.Weight a b c) r full u v k at = full u v k at
full_after ds (events.Pass a b c) r full u v k at = full u v k at
full_after ds (events.Flip a b c d f) r full u v k at = full u v k at
full_after ds (events.Inject a b c) r full u v k at = full u v k at
full_after ds (events.Craft a b c d) r full u v k at = full u v k at
full_after ds (events.CraftStatus a b c d f g) r full u v k at = full u v k at
full_after ds (events.Publish u' weights) r full u v k at = full u v k at
full_after ds (events.CraftDocument c' v' key' version weights) r full u v k at = full u v k at
full_after ds (events.Start a) r full u v k at = full u v k at
full_after ds (events.Stop a) r full u v k at = full u v k at

pub places_are_full : (arts : Arts) (x : Setting) (es : List Event) (js : List Entry) (w : World) → x.epochs ≡ false
    → Clean arts x es js w → AreFull w.directions
places_are_full arts x es js w plain Starts = λ u v k at. absurd (cc)
places_are_full arts x es js w plain (Turned {es = es'} {js = js'} {old = old} {e = e} {j = j} run range turn unforged) =
    go (places_are_full arts x es' js' old plain run) (plain_turn arts x es' js' old w e j plain turn unforged)
  where
    go : AreFull old.directions → Plain arts x es' js' old e j w → AreFull w.directions
    go full (Goes m none) =
        subst (λ (y : World). AreFull y.directions) (sym m.world) (full_after old.directions e m.output.reply full)
    go full (Rests s) = subst (λ (y : World). AreFull y.directions) (sym s.world) full
