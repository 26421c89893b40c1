-- Weights of links over a run.
use Rattle.std.specs.Prelude.{ℕ, ◌≡◌, true, IsTrue, List, [], ◌∷◌, Some, slice_get, slice_index_or}
use Rattle.sp_base.specs.declared.id.NodeId.{NodeId}
use Rattle.sp_msg.specs.declared.body.Body.TheVariants as bodies
use Rattle.sp_msg.specs.declared.body.WeightBody.{WeightBody}
use Rattle.sp_msg.specs.declared.effect.Effect.{Effect}
use Rattle.sp_msg.specs.declared.effect.Effect.TheVariants as effects
use Rattle.sp_topology.specs.declared.topology.Edge.{Edge}
use Rattle.sp_rules.specs.Arts.{Arts}
use Rattle.sp_rules.specs.Node.{NodeState}
use Rattle.sp_rules.specs.Weights.{effective}
use Rattle.sp_runs.specs.Forgery.{is_among}
use Rattle.sp_runs.specs.Weights.{effective_weight}
use Rattle.sp_runs.specs.Runs.{Clean}
use Rattle.sp_runs.specs.Settings.{Setting, StaysUp, is_correct}
use Rattle.sp_runs.specs.Told.{effects_at, signed}
use Rattle.sp_runs.specs.Worlds.{World, node_in}
use Rattle.sp_journal.specs.declared.entry.Entry.{Entry}
use Rattle.sp_schedule_events.specs.declared.event.Event.{Event}
use Rattle.laws_runs.specs.Premises.{Carries}

-- this holds of each update that the effects say is held
abbrev pub EachHeld : (WeightBody → Type 0) → List Effect → Type 0
EachHeld P [] = Unit {0}
EachHeld P (effects.WeightHeld origin edge seq weight ∷ es) = P (record { origin = origin; edge = edge; seq = seq; weight = weight }) × EachHeld P es
EachHeld P (_ ∷ es) = EachHeld P es

-- its origin signed it, where that node is correct
abbrev pub IsSaid : Arts → Setting → List Event → List Entry → WeightBody → Type 0
IsSaid arts x es js u = IsTrue (is_correct x u.origin) → is_among (arts.spell (bodies.Weight u)) (signed es js u.origin) ≡ true

-- the weight of each edge at each node is the greatest of its minimum and what its ends said last
pub record WeightClaims (arts : Arts) (x : Setting) (es : List Event) (js : List Entry) (w : World) : Type 0 where
  -- at each node the weight of an edge is the greatest of its minimum in the topology that the node runs under and the last weight that it held of each end
  pub effective_is : (u : NodeId) (n : NodeState) (edge : ℕ) (e : Edge) → node_in w.nodes u ≡ Some n → slice_get x.topology.edges edge ≡ Some e
      → effective n.parts.weights edge ≡ effective_weight es js u edge (slice_index_or n.live.weights edge 0) e
  pub said : (u : NodeId) → EachHeld (IsSaid arts x es js) (effects_at es js u)

-- of each run without forgery
abbrev pub WeightsAreKept : Type 0
WeightsAreKept = (arts : Arts) (x : Setting) (es : List Event) (js : List Entry) (w : World) → StaysUp arts x → Carries x.topology.format arts
    → Clean arts x es js w
    → WeightClaims arts x es js w
