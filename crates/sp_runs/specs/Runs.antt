-- A whole run: each event is a step of its acting node alone, and the adversary only brings bytes.
use Rattle.std.specs.Prelude.{ℕ, ◌≡◌, ◌+◌, ◌<◌, ◌≤◌, ◌^◌, ◌==◌, ◌&&◌, ◌||◌, Bool, true, false, not, is_some, IsTrue, List, [], ◌∷◌, ◌++◌, length, count_by}
use Rattle.std.specs.Prelude.{Option, None, Some, if◌then◌else◌}
use Rattle.std.specs.List.{All, list_any}
use Rattle.sp_base.specs.Spelling.{AreBytes}
use Rattle.sp_base.specs.declared.id.NodeId.{NodeId}
use Rattle.sp_base.specs.declared.limits.TheConstants.{MAX_EVENTS, MAX_PAYLOAD_BYTES, MAX_PRIORITY, MAX_WEIGHT}
use Rattle.sp_frame.specs.declared.frame.TheConstants.{MAX_FRAME_BYTES}
use Rattle.sp_msg.specs.Bodies.{HasGoodFieldsIn, payload_of}
use Rattle.sp_topology.specs.Neighbours.{joins}
use Rattle.sp_rules.specs.Arts.{Arts}
use Rattle.sp_rules.specs.Node.{NodeState}
use Rattle.sp_rules.specs.Steps as steps
use Rattle.sp_rules.specs.Steps.{Input, NodeStep, Output}
use Rattle.sp_runs.specs.Forgery.{forged}
use Rattle.sp_runs.specs.Inputs.{acting, input_of}
use Rattle.sp_runs.specs.Journals.{Says}
use Rattle.sp_runs.specs.Lives.{Life, ready}
use Rattle.sp_runs.specs.Settings.{Setting, has_paths, is_correct, is_node, may_change}
use Rattle.sp_runs.specs.Worlds.{Crafted, Direction, World, at_start, crafts, frames_in, is_running, node_in, with_craft, with_frame, with_node}
use Rattle.sp_journal.specs.declared.entry.Entry.{Entry}
use Rattle.sp_journal.specs.declared.entry.Reply.TheVariants as replies
use Rattle.sp_schedule_crafts.specs.Objects.{body_of}
use Rattle.sp_schedule_events.specs.Documents.{list_in, none_comes_back, published, with_list}
use Rattle.sp_schedule_events.specs.Lives.{may_act}
use Rattle.sp_schedule_events.specs.declared.published.Published.{Published}
use Rattle.sp_schedule_events.specs.declared.event.Event.{Event}
use Rattle.sp_schedule_events.specs.declared.event.Event.TheVariants as events
use Rattle.sp_runs.specs.declared.what.What.{What}

-- ---- one event

-- a frame that a poll gave is kept
abbrev pub directions_after : List Direction → Event → steps.Reply → List Direction
directions_after directions (events.Poll u v) (steps.Frame bytes) = with_frame directions u v (Some bytes)
directions_after directions _ _ = directions

-- an object that was crafted is counted, and a document under the key of a node
abbrev pub crafted_after : List Crafted → Event → List Crafted
crafted_after crafted (events.Craft c v key object) = with_craft crafted key
crafted_after crafted (events.CraftDocument c v key version weights) = if key == 0 then crafted else with_craft crafted (record { 0 = key })
crafted_after crafted _ = crafted

-- the number of the next frame of a poll's direction
abbrev pub next_frame : World → Event → ℕ
next_frame w (events.Poll u v) = length (frames_in w.directions u v) + 1
next_frame w _ = 0

-- The acting node makes one step. No other node changes, and no key file does.
pub record Move (arts : Arts) (x : Setting) (old : World) (event : Event) (entry : Entry) (new : World) : Type 0 where
  pub node : NodeState
  pub is_there : node_in old.nodes (acting event) ≡ Some node
  pub input : Input
  pub reaches : input_of arts x old node event ≡ Some input
  pub output : Output
  pub after : NodeState
  pub step : NodeStep arts node input output after
  pub journal : Says x (next_frame old event) output entry
  pub world : new ≡ record {
    keys = old.keys;
    nodes = with_node old.nodes (acting event) after;
    directions = directions_after old.directions event output.reply;
    crafted = crafted_after old.crafted event;
    published = with_list old.published (list_in event);
  }

-- the event crafts an object of this key
abbrev pub IsCraftOf : NodeId → Event → Type 0
IsCraftOf key (events.Craft c v k object) = k ≡ key
IsCraftOf key (events.CraftDocument c v k version weights) = (k ≡ key.0) × (1 ≤ k)
IsCraftOf key _ = ⊥

-- The signer for crafted objects of a key is spent, so nothing arrives at the node, which runs. No node moves.
pub record Spends (x : Setting) (old : World) (event : Event) (entry : Entry) (new : World) : Type 0 where
  pub key : NodeId
  pub is_craft : IsCraftOf key event
  pub runs : IsTrue (is_running old.nodes (acting event))
  pub spent : x.total ≤ crafts old.crafted key
  pub reply : entry.reply ≡ replies.Spent x.total
  pub effects : entry.effects ≡ []
  pub world : new ≡ old

-- ---- ranges

-- an edge joins them
abbrev pub is_hop : Setting → NodeId → NodeId → Bool
is_hop x u v = list_any (joins u.0 v.0) x.topology.edges

-- it is a node, and another one
abbrev pub is_other : Setting → NodeId → NodeId → Bool
is_other x u v = is_node x v && not (u.0 == v.0)

-- a poll of the direction from a to b
abbrev pub is_poll : NodeId → NodeId → Event → Bool
is_poll a b (events.Poll u v) = (u.0 == a.0) && (v.0 == b.0)
is_poll a b _ = false

-- how many frames u made for v
abbrev pub polls : List Event → NodeId → NodeId → ℕ
polls es u v = count_by (is_poll u v) es

-- a number of a frame that u made for v
abbrev pub IsMade : List Event → NodeId → NodeId → ℕ → Type 0
IsMade es u v number = (1 ≤ number) × (number ≤ polls es u v)

-- a weight in its range for each edge, or 0 for one that is withdrawn
abbrev pub AreWeights : Setting → List ℕ → Type 0
AreWeights x weights = (length weights ≡ length x.topology.edges) × All (λ weight. weight ≤ MAX_WEIGHT) weights

-- The administrator may publish this: the next version, by which no removed node comes back and for which an index is left; or the last one again
abbrev pub MayPublish : Setting → Published → Option (List ℕ) → Type 0
MayPublish x last None = IsTrue (is_some last.weights)
MayPublish x last (Some weights) =
    AreWeights x weights × (last.version < x.admin_total) × IsTrue (none_comes_back x.topology.edges last.weights weights)

-- A compromised node may craft a document with these weights, or with the last that were published. Removed nodes may come back by it
abbrev pub MayCraft : Setting → Published → Option (List ℕ) → Type 0
MayCraft x last None = IsTrue (is_some last.weights)
MayCraft x last (Some weights) = AreWeights x weights

-- What the fields of an event may be, after these events. Payloads are bytes, so whatever reaches a node is; and a key file counts the changes of as many
-- events as a schedule has
abbrev pub AreFields : Setting → List Event → Event → Type 0
AreFields x es (events.Rel s d payload) = IsTrue (is_correct x s) × IsTrue (is_other x s d) × (length payload ≤ MAX_PAYLOAD_BYTES) × AreBytes payload
AreFields x es (events.Prio s d prio expiry paths payload) =
    IsTrue (is_correct x s) × IsTrue (is_other x s d) × (1 ≤ prio) × (prio ≤ MAX_PRIORITY) × (expiry < 2 ^ 64) × (paths ≤ 8)
    × (length payload ≤ MAX_PAYLOAD_BYTES) × AreBytes payload
AreFields x es (events.Krel s d paths payload) =
    IsTrue (has_paths x) × IsTrue (is_correct x s) × IsTrue (is_other x s d) × (1 ≤ paths) × (paths ≤ 8)
    × (length payload ≤ MAX_PAYLOAD_BYTES) × AreBytes payload
AreFields x es (events.KTake d s) = IsTrue (has_paths x) × IsTrue (is_correct x d) × IsTrue (is_other x d s)
AreFields x es (events.Take d s) = IsTrue (is_correct x d) × IsTrue (is_other x d s)
AreFields x es (events.TakePrio d) = IsTrue (is_correct x d)
AreFields x es (events.Tick u now) = IsTrue (is_correct x u) × (now < 2 ^ 64)
AreFields x es (events.Weight u v weight) = IsTrue (is_correct x u) × IsTrue (is_hop x u v) × (1 ≤ weight) × (weight ≤ MAX_WEIGHT)
AreFields x es (events.Poll u v) = IsTrue (is_correct x u) × IsTrue (is_hop x u v)
AreFields x es (events.Pass u v number) = IsTrue (is_correct x u) × IsTrue (is_correct x v) × IsTrue (is_hop x u v) × IsMade es u v number
AreFields x es (events.Flip u v number back bit) =
    IsTrue (is_correct x u) × IsTrue (is_correct x v) × IsTrue (is_hop x u v) × IsMade es u v number × (1 ≤ back) × (back ≤ 64) × (bit ≤ 7)
AreFields x es (events.Inject u v bytes) = IsTrue (is_correct x v) × IsTrue (is_hop x u v) × (length bytes ≤ MAX_FRAME_BYTES) × AreBytes bytes
AreFields x es (events.Craft c v key object) =
    IsTrue (is_correct x v) × IsTrue (is_hop x c v) × IsTrue (is_node x key)
    × HasGoodFieldsIn x.topology.format (body_of object) × AreBytes (payload_of (body_of object))
AreFields x es (events.CraftStatus c v s d base have) =
    IsTrue (is_correct x v) × IsTrue (is_hop x c v) × IsTrue (is_node x s) × IsTrue (is_other x s d) × (base < 2 ^ 64) × (have < 2 ^ 64)
AreFields x es (events.Publish u weights) = IsTrue (is_correct x u) × IsTrue (may_change x) × MayPublish x (published es) weights
AreFields x es (events.CraftDocument c v key version weights) =
    IsTrue (is_correct x v) × IsTrue (is_hop x c v) × IsTrue ((key == 0) || is_node x (record { 0 = key })) × IsTrue (may_change x) × (1 ≤ version)
    × (version < 2 ^ 32) × (key ≡ 0 → version ≤ x.admin_total) × MayCraft x (published es) weights
AreFields x es (events.Start u) = IsTrue (is_correct x u) × (length es < MAX_EVENTS)
AreFields x es (events.Stop u) = IsTrue (is_correct x u)

-- what a schedule may say: events of these fields, by who is started
pub record InRange (x : Setting) (es : List Event) (e : Event) : Type 0 where
  pub fields : AreFields x es e
  pub may : may_act x.epochs es e ≡ true

-- ---- turns and runs

-- An event happens: its acting node moves, after it reserved indexes where it is short of them; or its crafting signer is spent; or, with epochs, a node
-- starts or stops, or the event comes to nobody
pub data Turn (arts : Arts) (x : Setting) (old : World) (event : Event) (entry : Entry) (new : World) : Type 0 where
  Moves : Move arts x (ready x old event) event entry new → Turn arts x old event entry new
  Stays : Spends x old event entry new → Turn arts x old event entry new
  Lives : x.epochs ≡ true → Life arts x old event entry new → Turn arts x old event entry new

-- what of it is forged, after these events and their journal. Nothing is where no node moves
abbrev pub forged_in : (arts : Arts) (x : Setting) (es : List Event) (js : List Entry) (old : World) (e : Event) (j : Entry) (new : World)
    → Turn arts x old e j new → Option What
forged_in arts x es js old e j new (Moves m) = forged arts x es js (ready x old e) m.node m.input m.output
forged_in arts x es js old e j new (Stays s) = None
forged_in arts x es js old e j new (Lives on life) = None

-- This of the event is forged there: what a world names when it ends.
pub record IsForgedAt (arts : Arts) (x : Setting) (es : List Event) (js : List Entry) (old : World) (event : Event) (what : What) : Type 0 where
  pub entry : Entry
  pub new : World
  pub turn : Turn arts x old event entry new
  pub is : forged_in arts x es js old event entry new turn ≡ Some what

-- The events, each in range, lead from the start to the world, and the entries are their journal.
pub data Run (arts : Arts) (x : Setting) : List Event → List Entry → World → Type 0 where
  Begins : Run arts x [] [] (at_start x)
  Goes_on : {es : List Event} {js : List Entry} {old new : World} {e : Event} {j : Entry}
      → Run arts x es js old → InRange x es e → Turn arts x old e j new → Run arts x (es ++ e ∷ []) (js ++ j ∷ []) new

-- A run of which no event is forged. This is what a world keeps.
pub data Clean (arts : Arts) (x : Setting) : List Event → List Entry → World → Type 0 where
  Starts : Clean arts x [] [] (at_start x)
  Turned : {es : List Event} {js : List Entry} {old new : World} {e : Event} {j : Entry}
      → Clean arts x es js old → InRange x es e → (turn : Turn arts x old e j new) → forged_in arts x es js old e j new turn ≡ None
      → Clean arts x (es ++ e ∷ []) (js ++ j ∷ []) new
