-- Each frame of a direction is one that its node made in an earlier state of the run.
use Rattle.std.proofs.Common.{◌≡◌, ℕ, ◌+◌, List, [], ◌∷◌, ◌++◌, append_assoc, Some, None, refl, sym, ap, ◌∙◌, inl, inr, arith}
use Rattle.std.specs.Prelude.{slice_get}
use Rattle.std.proofs.lemmas.Option.{same_Some}
use Rattle.sp_base.proofs.ListLemmas.{get_push}
use Rattle.sp_base.specs.declared.id.NodeId.{NodeId}
use Rattle.sp_rules.specs.Arts.{Arts}
use Rattle.sp_rules.specs.Node.{NodeState}
use Rattle.sp_rules.specs.Polls.{frame_to}
use Rattle.sp_runs.specs.Runs.{Clean, Starts, Turned, polls}
use Rattle.sp_runs.specs.Settings.{Setting}
use Rattle.sp_runs.specs.Worlds.{World, frames_in, node_in}
use Rattle.sp_journal.specs.declared.entry.Entry.{Entry}
use Rattle.sp_schedule_events.specs.declared.event.Event.{Event}
use Rattle.laws_progress.proofs.Made.{FramesTurn, Leaves, Makes, Misses, frames_count, frames_turn}

pub record Origin (arts : Arts) (x : Setting) (es : List Event) (u v : NodeId) (number : ℕ) (bytes : List ℕ) : Type 0 where
  pub events : List Event
  pub journal : List Entry
  pub world : World
  pub run : Clean arts x events journal world
  pub later : List Event
  pub whole : es ≡ events ++ later
  pub node : NodeState
  pub there : node_in world.nodes u ≡ Some node
  pub is : bytes ≡ frame_to arts node v
  pub number_is : polls events u v + 1 ≡ number

-- so it is one of an earlier state of a longer run
origin_later : (arts : Arts) (x : Setting) (es more : List Event) (u v : NodeId) (number : ℕ) (bytes : List ℕ) → Origin arts x es u v number bytes
    → Origin arts x (es ++ more) u v number bytes
origin_later arts x es more u v number bytes o = record {
  events = o.events;
  journal = o.journal;
  world = o.world;
  run = o.run;
  later = o.later ++ more;
  whole = ap (λ fs. fs ++ more) o.whole ∙ append_assoc o.events o.later more;
  node = o.node;
  there = o.there;
  is = o.is;
  number_is = o.number_is;
}

origin_more : (arts : Arts) (x : Setting) (es : List Event) (js : List Entry) (old new : World) (e : Event) → Clean arts x es js old
    → (u v : NodeId)
    → ((k : ℕ) (bytes : List ℕ) → slice_get (frames_in old.directions u v) k ≡ Some (Some bytes) → Origin arts x es u v (k + 1) bytes)
    → (k : ℕ) (bytes : List ℕ) → slice_get (frames_in new.directions u v) k ≡ Some (Some bytes) → FramesTurn arts old e new u v
    → Origin arts x (es ++ e ∷ []) u v (k + 1) bytes
origin_more arts x es js old new e run u v holds k bytes at (Makes on b there is) =
    elim (get_push (frames_in old.directions u v) (Some (frame_to arts b v)) k (Some bytes) (ap (λ fs. slice_get fs k) (sym is) ∙ at)) [
      | inl was ↦ origin_later arts x es (e ∷ []) u v (k + 1) bytes (holds k bytes was)
      | inr last ↦ record {
        events = es;
        journal = js;
        world = old;
        run = run;
        later = e ∷ [];
        whole = refl;
        node = b;
        there = there;
        is = same_Some bytes (frame_to arts b v) last.1;
        number_is = let count = frames_count arts x es js old run u v in let place = last.0 in omega (arith, count, place);
      }
    ]
origin_more arts x es js old new e run u v holds k bytes at (Misses on down is) =
    elim (get_push (frames_in old.directions u v) None k (Some bytes) (ap (λ fs. slice_get fs k) (sym is) ∙ at)) [
      | inl was ↦ origin_later arts x es (e ∷ []) u v (k + 1) bytes (holds k bytes was)
      | inr last ↦ absurd (let f : Some bytes ≡ None = last.1 in cc)
    ]
origin_more arts x es js old new e run u v holds k bytes at (Leaves off is) =
    origin_later arts x es (e ∷ []) u v (k + 1) bytes (holds k bytes (ap (λ fs. slice_get fs k) (sym is) ∙ at))

pub origin : (arts : Arts) (x : Setting) (es : List Event) (js : List Entry) (w : World) → Clean arts x es js w
    → (u v : NodeId) (k : ℕ) (bytes : List ℕ) → slice_get (frames_in w.directions u v) k ≡ Some (Some bytes)
    → Origin arts x es u v (k + 1) bytes
origin arts x es js w Starts u v k bytes at = absurd cc
origin arts x es js w (Turned {es = es'} {js = js'} {old = old} {e = e} {j = j} run range turn unforged) u v k bytes at =
    origin_more arts x es' js' old w e run u v (λ i frame was. origin arts x es' js' old run u v i frame was) k bytes at
    (frames_turn arts x old e j w turn u v)
