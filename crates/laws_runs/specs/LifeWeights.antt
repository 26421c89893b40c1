-- Weights of links over a run whose nodes may start and stop: a node holds no weight at its start. A weight names no boot, so what was said once counts in
-- each later life.
use Rattle.std.specs.Prelude.{ℕ, ◌≡◌, List, [], ◌∷◌, ◌++◌, None, Some, slice_get, slice_index_or}
use Rattle.sp_base.specs.declared.id.NodeId.{NodeId}
use Rattle.sp_topology.specs.declared.topology.Edge.{Edge}
use Rattle.sp_rules.specs.Arts.{Arts}
use Rattle.sp_rules.specs.Node.{NodeState}
use Rattle.sp_rules.specs.Weights.{effective, held_in, row_of, weight_of}
use Rattle.sp_runs.specs.Runs.{Clean, InRange, Turn, forged_in}
use Rattle.sp_runs.specs.Settings.{Setting, SettingFits}
use Rattle.sp_runs.specs.Told.{effects_at}
use Rattle.sp_runs.specs.Worlds.{World, node_in}
use Rattle.sp_journal.specs.declared.entry.Entry.{Entry}
use Rattle.sp_schedule_events.specs.declared.event.Event.{Event}
use Rattle.laws_node.specs.Lives.{last_told}
use Rattle.laws_runs.specs.KeyFiles.{KeysStand}
use Rattle.laws_runs.specs.Premises.{Carries}
use Rattle.laws_runs.specs.Signs.{Signs}
use Rattle.laws_runs.specs.Since.{effects_since, weight_since}
use Rattle.laws_runs.specs.Weights.{EachHeld, IsSaid}

pub record LifeWeightClaims (arts : Arts) (x : Setting) (es : List Event) (js : List Entry) (w : World) : Type 0 where
  -- at each node the weight of an edge is the greatest of its minimum in the topology that the node runs under and the last weight that the node
  -- held of each end since its last start
  pub effective_is : (u : NodeId) (n : NodeState) (edge : ℕ) (e : Edge) → node_in w.nodes u ≡ Some n → slice_get x.topology.edges edge ≡ Some e
      → effective n.parts.weights edge ≡ weight_since es js u edge (slice_index_or n.live.weights edge 0) e
  -- and whatever was held of a correct end in any life, that one said
  pub said : (u : NodeId) → EachHeld (IsSaid arts x es js) (effects_at es js u)

-- of each run without forgery, with epochs or without
abbrev pub LifeWeightsAreKept : Type 0
LifeWeightsAreKept = (arts : Arts) (x : Setting) (es : List Event) (js : List Entry) (w : World) → SettingFits arts x → Carries x.topology.format arts
    → Clean arts x es js w → LifeWeightClaims arts x es js w

-- ---- what turns keep of it

-- the claims of weights, with what carries them over starts and stops
pub record WeightPart (arts : Arts) (x : Setting) (es : List Event) (js : List Entry) (w : World) : Type 0 where
  -- what a node holds of an end of an edge is what it told last of it since its last start
  pub last : (u : NodeId) (n : NodeState) (edge : ℕ) (e : Edge) (end : NodeId) (row : ℕ) → node_in w.nodes u ≡ Some n
      → slice_get x.topology.edges edge ≡ Some e → row_of edge e end.0 ≡ Some row
      → weight_of (held_in n.parts.weights.rows row) ≡ last_told edge end.0 0 (effects_since es js u)
  pub said : (u : NodeId) → EachHeld (IsSaid arts x es js) (effects_at es js u)

-- each turn of which nothing is forged keeps it, where key files and signed objects are as they are in a run; and the claims follow
pub record TurnsKeepWeights : Type 0 where
  pub turn : (arts : Arts) (x : Setting) (es : List Event) (js : List Entry) (old : World) (e : Event) (j : Entry) (new : World)
      → SettingFits arts x → Carries x.topology.format arts
      → KeysStand x es old → Signs arts x es js old → InRange x es e → (turn : Turn arts x old e j new) → forged_in arts x es js old e j new turn ≡ None
      → WeightPart arts x es js old → WeightPart arts x (es ++ e ∷ []) (js ++ j ∷ []) new
  pub claims : (arts : Arts) (x : Setting) (es : List Event) (js : List Entry) (w : World) → SettingFits arts x → Signs arts x es js w
      → WeightPart arts x es js w → LifeWeightClaims arts x es js w
