-- The claims of who is there, of priority messages, of weights, of what is signed and of lives, on three nodes in a row: what each says of a small run, and
-- what it refuses.
use Rattle.std.specs.Prelude.{ℕ, ◌≡◌, true, List, [], ◌∷◌, ◌++◌, map, Option, None, Some, option_map, replicate, slice_get, take}
use Rattle.sp_base.specs.declared.id.Flow.{Flow}
use Rattle.sp_base.specs.declared.id.NodeId.{NodeId}
use Rattle.sp_frame.specs.declared.head.Head.{Head}
use Rattle.sp_msg.specs.Bodies.{encoded}
use Rattle.sp_msg.specs.Masks.{mask_from}
use Rattle.sp_msg.specs.Views.{signer_of}
use Rattle.sp_msg.specs.declared.body.Body.TheVariants as bodies
use Rattle.sp_msg.specs.declared.effect.Effect.{Effect}
use Rattle.sp_msg.specs.declared.effect.Effect.TheVariants as effects
use Rattle.sp_msg.specs.declared.kept.Kept.{Kept}
use Rattle.sp_rules.specs.Arrivals.{arrival_at}
use Rattle.sp_rules.specs.Flow.{no_flow}
use Rattle.sp_rules.specs.Handle.{Handled, handle_all}
use Rattle.sp_rules.specs.Lives.{held, held_boot}
use Rattle.sp_rules.specs.Node.{NodeState}
use Rattle.sp_rules.specs.Pieces.{EpochPiece, PrioPiece}
use Rattle.sp_rules.specs.Rel.{put_flow}
use Rattle.sp_rules.specs.Weights.{effective}
use Rattle.sp_rules.specs.Topologies.{weights_in}
use Rattle.laws_node.specs.Story.{node, toy_frame, toys}
use Rattle.sp_runs.specs.Inputs.{slot_alone}
use Rattle.sp_runs.specs.Settings.{Setting, node_at_boot}
use Rattle.sp_runs.specs.Told.{Message}
use Rattle.sp_runs.specs.Worlds.{World, at_start, node_in}
use Rattle.sp_journal.specs.declared.entry.AnswerWord.TheVariants as answers
use Rattle.sp_journal.specs.declared.entry.Entry.{Entry}
use Rattle.sp_journal.specs.declared.entry.ItemWord.TheVariants as items
use Rattle.sp_journal.specs.declared.entry.LinkWord.TheVariants as links
use Rattle.sp_journal.specs.declared.entry.Reply.{Reply}
use Rattle.sp_journal.specs.declared.entry.Reply.TheVariants as replies
use Rattle.sp_schedule_events.specs.Documents.{none_published}
use Rattle.sp_schedule_events.specs.declared.event.Event.{Event}
use Rattle.sp_schedule_events.specs.declared.event.Event.TheVariants as events
use Rattle.sp_rules.specs.declared.kflow.FlowKind.TheVariants.{Plain}
use Rattle.laws_runs.specs.Flows.{flow_at}
use Rattle.laws_runs.specs.LifeKeys.{KeyClaims}
use Rattle.laws_runs.specs.LifePriority.{LifePrioClaims}
use Rattle.laws_runs.specs.Past.{Happened, prio_delivered_under}
use Rattle.laws_runs.specs.Priority.{PrioClaims}
use Rattle.laws_runs.specs.States.{NodeClaims, SignClaims, is_good_in}
use Rattle.laws_runs.specs.Story.{Played, line, object, play, send}
use Rattle.laws_runs.specs.Weights.{WeightClaims}
use Rattle.laws_runs.specs.WorkedBounds.{at_boot, update, with_flows, with_weights}

-- only these nodes are there, and no frame
abbrev pub world : List NodeState → World
world nodes = record { keys = []; nodes = nodes; directions = []; crafted = []; published = none_published }

-- what is told of an event
abbrev pub entry : Reply → List Effect → Entry
entry reply tells = record { reply = reply; effects = tells }

-- a frame arrived without an object, and this was told
abbrev pub arrives : List Effect → Entry
arrives tells = entry (replies.Arrived links.Fresh []) tells

-- a payload
abbrev pub hi : List ℕ
hi = 104 ∷ 105 ∷ []

-- ---- who is there, where the node in the middle is compromised

-- three nodes in a row of which 2 is compromised
abbrev pub half : Setting
half = line (node 2 ∷ [])

-- a node of them at its start
abbrev pub boots : ℕ → NodeState
boots u = node_at_boot half (node u)

-- who is there, and who isn't
pub record NodesAreWorked : Type 0 where
  -- 1 and 3, and not 2
  pub first : (w : World) → NodeClaims half w → (n : NodeState) × (node_in w.nodes (node 1) ≡ Some n)
  pub middle : (w : World) → NodeClaims half w → node_in w.nodes (node 2) ≡ None
  pub start : NodeClaims half (at_start half)
  -- one is missing, the compromised one is there, or one has another boot
  pub lacks : NodeClaims half (world (boots 1 ∷ [])) → ⊥
  pub invents : NodeClaims half (world (boots 1 ∷ boots 2 ∷ boots 3 ∷ [])) → ⊥
  pub changes : NodeClaims half (world (record (boots 1) { fixed = record (boots 1).fixed { boot = 2 } } ∷ boots 3 ∷ [])) → ⊥

-- ---- priority messages: 1 sends number 7 to 3, and then two frames arrive there

-- a priority message that arrives twice
abbrev pub alarms : List Event
alarms = events.Prio (node 1) (node 3) 5 1000 0 hi ∷ events.Pass (node 2) (node 3) 1 ∷ events.Pass (node 2) (node 3) 2 ∷ []

-- a priority message of 1 is delivered
abbrev pub alarm : ℕ → List ℕ → List Effect
alarm q payload = effects.DeliveredPrio (node 1) q payload ∷ []

-- so is this by the first frame, and this by the second
abbrev pub told : (one two : List Effect) → List Entry
told one two = entry (replies.Accepted 7) [] ∷ arrives one ∷ arrives two ∷ []

-- what is claimed at 3 of 1, which is correct unless it is among these
abbrev pub IsFine : (bad : List NodeId) → (one two : List Effect) → Type 0
IsFine bad one two = PrioClaims (line bad) (node 1) (node 3) alarms (told one two)

-- what may be told of a priority message, and what may not
pub record PriorityIsWorked : Type 0 where
  pub once : IsFine [] (alarm 7 hi) []
  -- twice, with another payload, under a number that wasn't sent
  pub twice : IsFine [] (alarm 7 hi) (alarm 7 hi) → ⊥
  pub other_payload : IsFine [] (alarm 7 []) [] → ⊥
  pub never_sent : IsFine [] (alarm 8 hi) [] → ⊥
  -- of a compromised source such a number may come, and still not twice
  pub invented : IsFine (node 1 ∷ []) (alarm 8 hi) []
  pub invented_twice : IsFine (node 1 ∷ []) (alarm 8 hi) (alarm 8 hi) → ⊥

-- ---- weights: 1 says 30 of its link to 2, and then 20. The minimum is 10

-- two updates of one edge
abbrev pub updates : List Event
updates = events.Weight (node 1) (node 2) 30 ∷ events.Weight (node 1) (node 2) 20 ∷ []

-- their story
abbrev pub weighed : Played
weighed = play (line []) updates

-- what is claimed of the two updates in this world
abbrev pub AreWeighed : World → Type 0
AreWeighed w = WeightClaims toys (line []) weighed.events weighed.journal w

-- 3 tells that it holds an update of 1, and holds it
abbrev pub hearsay : List Event
hearsay = events.Pass (node 2) (node 3) 1 ∷ []

-- what is told of an update that is held
abbrev pub holds_update : Effect
holds_update = effects.WeightHeld (node 1) (record { 0 = 0 }) 1 30

-- the entry that tells it
abbrev pub holds_it : List Entry
holds_it = arrives (holds_update ∷ []) ∷ []

-- a node that holds an update
abbrev pub believer : NodeState
believer = with_weights (Some (update 1) ∷ replicate 3 None) (node_at_boot (line []) (node 3))

-- a world of that node
abbrev pub believed : World
believed = world (believer ∷ [])

-- the last update counts, and what nobody said isn't held
pub record WeightsAreWorked : Type 0 where
  pub all_of_it : weighed.events ≡ updates
  -- the last one counts
  pub says : (w : World) (n : NodeState) → AreWeighed w → node_in w.nodes (node 1) ≡ Some n → n.live.weights ≡ weights_in (line []).topology.edges
      → effective n.parts.weights 0 ≡ 20
  pub is_so : option_map (λ n. effective n.parts.weights 0) (node_in weighed.world.nodes (node 1)) ≡ Some 20
  -- neither the minimum, nor the greatest
  pub minimum : AreWeighed (at_start (line [])) → ⊥
  pub greatest : AreWeighed (play (line []) (take 1 updates)).world → ⊥
  -- and no update that a correct node didn't sign
  pub never_said : WeightClaims toys (line []) hearsay holds_it believed → ⊥
  pub invented : WeightClaims toys (line (node 1 ∷ [])) hearsay holds_it believed

-- ---- what is signed: 1 sends a message to 3

-- the entry of a message that was signed
abbrev pub signed_one : List Entry
signed_one = entry (replies.Accepted 1) (effects.Signed object ∷ []) ∷ []

-- it, under this signature. That of a node is its id
abbrev pub message : List ℕ → Kept
message signature = record { body = bodies.Rel (record { src = node 1; dst = node 3; sboot = 0; dboot = 0; seq = 1; payload = hi }); signature = signature }

-- the flow from 1 to 3
abbrev pub flow : Flow
flow = record { src = node 1; dst = node 3 }

-- 2 keeps a message
abbrev pub keeps : Kept → World
keeps o =
    let kept = record (no_flow flow) { active = true; at = record { base = 0; have = 1; list = o ∷ [] } } in
    world (with_flows at_boot (put_flow at_boot.parts.rel.flows flow kept) ∷ [])

-- the head of a frame from 2 to 3
abbrev pub head : Head
head = record { from = node 2; to = node 3; boot = 1; echo = 1; counter = 1; topology = 1; format = 1 }

-- 2 made a frame with that message
abbrev pub sends : Kept → World
sends o = record {
  keys = [];
  nodes = [];
  directions = (record { from = node 2; to = node 3; frames = Some (toy_frame head (slot_alone [] flow 0 1 None (o ∷ []))) ∷ [] }) ∷ [];
  crafted = [];
  published = none_published;
}

-- what is kept of a correct node was signed by it, and nothing else is claimed
pub record SignaturesAreWorked : Type 0 where
  -- whatever of 1 stands in a list then is that message
  pub says : (w : World) (u : NodeId) (n : NodeState) (k : ℕ) (o : Kept) → SignClaims toys (line []) (send ∷ []) signed_one w → node_in w.nodes u ≡ Some n
      → slice_get (flow_at Plain n (node 1) (node 3)).at.list k ≡ Some o → signer_of o.body ≡ node 1 → encoded o.body ≡ object
  pub is_good : is_good_in toys (line []) (send ∷ []) signed_one (message (1 ∷ [])) ≡ true
  -- under the signature of another, or where 1 signed nothing
  pub other_signature : SignClaims toys (line []) (send ∷ []) signed_one (keeps (message (2 ∷ []))) → ⊥
  pub never_signed : SignClaims toys (line []) [] [] (keeps (message (1 ∷ []))) → ⊥
  pub sent_unsigned : SignClaims toys (line []) [] [] (sends (message (1 ∷ []))) → ⊥

-- ---- lives: with epochs, 1 starts, sends a message, and starts again

-- three nodes in a row, with epochs
abbrev pub with_epochs : Setting
with_epochs = record (line []) { epochs = true }

-- what v says of its start with this boot
abbrev pub word_of : (v boot : ℕ) → Kept
word_of v boot = record { body = bodies.Epoch (record { origin = node v; boot = boot }); signature = v ∷ [] }

-- an event with its entry and the node that acted
abbrev pub happens : Event → Entry → Option NodeState → Happened
happens e j mover = record { event = e; entry = j; mover = mover }

-- 1 starts with this boot, and signs it with this index
abbrev pub starts : (boot index : ℕ) → Happened
starts boot index =
    happens (events.Start (node 1)) (entry (replies.Started boot index) (effects.Signed (encoded (word_of 1 boot).body) ∷ [])) None

-- 1, and this is its next index
abbrev pub signs_next : ℕ → NodeState
signs_next index =
    let n = node_at_boot with_epochs (node 1) in
    record n { signer = record n.signer { index = index } }

-- it signs a message with that index
abbrev pub sends_with : ℕ → Happened
sends_with index = happens send (entry (replies.Accepted 1) (effects.Signed object ∷ [])) (Some (signs_next index))

-- the first life signs with 0 and 1. The second has this boot, and signs with this index
abbrev pub two_lives : (boot index : ℕ) → List Happened
two_lives boot index = starts 1 0 ∷ sends_with 1 ∷ starts boot index ∷ []

-- ---- lives: number 7 of the first life of 1 comes to 3 in a frame that may bring word of the second

-- u where it holds these boots of 1 and of 3
abbrev pub holds_boots : (u one three : ℕ) → NodeState
holds_boots u one three =
    let n = node_at_boot with_epochs (node u) in
    record n { parts = record n.parts { lives = held (held n.parts.lives (word_of 1 one)) (word_of 3 three) } }

-- a priority message
abbrev pub number_7 : Kept
number_7 = record {
  body = bodies.Prio (record { src = node 1; dst = node 3; sboot = 1; seq = 7; prio = 5; expiry = 1000; mask = mask_from 3; payload = hi });
  signature = 1 ∷ [];
}

-- what 3 does with a frame of 2 that brings the message, and behind it these words of starts
abbrev pub crossed : List Kept → NodeState → Handled
crossed words n = handle_all toys (arrival_at n (node 2)) n.parts (PrioPiece 1 number_7 ∷ map EpochPiece words)

-- a frame from 2 to 3 with that message and these starts
abbrev pub comes : List Kept → NodeState → Happened
comes words n =
    happens (events.Pass (node 2) (node 3) 1)
    (entry (replies.Arrived links.Fresh (items.Prio answers.New ∷ map (λ o. items.Epoch answers.New) words)) (crossed words n).effects) (Some n)

-- 1 sends it in its life of this boot
abbrev pub sent_in : ℕ → Happened
sent_in boot = happens (events.Prio (node 1) (node 3) 5 1000 0 hi) (entry (replies.Accepted 7) []) (Some (holds_boots 1 boot 1))

-- and it comes to 3, which holds the first boot of 1
abbrev pub across : ℕ → List Kept → List Happened
across boot words = sent_in boot ∷ comes words (holds_boots 3 1 1) ∷ []

-- what came to 3 in its first life, under this boot of 1
abbrev pub under_boot : ℕ → List Kept → List Message
under_boot boot words = prio_delivered_under (across 1 words) (node 1) boot (node 3) 1

-- word of the second start of 1
abbrev pub second : List Kept
second = word_of 1 2 ∷ []

-- what is claimed at 3 of 1
abbrev pub IsKept : List Happened → Type 0
IsKept happened = LifePrioClaims with_epochs (node 1) (node 3) happened

-- what may follow a life, and what may not
pub record LivesAreWorked : Type 0 where
  -- a later index, and a later boot
  pub later : KeyClaims (node 1) (two_lives 2 32)
  -- an index that signed in the first life, or its boot once more
  pub first_again : KeyClaims (node 1) (two_lives 2 0) → ⊥
  pub last_again : KeyClaims (node 1) (two_lives 2 1) → ⊥
  pub same_boot : KeyClaims (node 1) (two_lives 1 32) → ⊥
  -- the message counts under the boot that 3 held before it came: where nothing else comes, and where word of the second life does, after which 3 holds that
  pub alone : under_boot 1 [] ≡ (7, hi) ∷ []
  pub alone_later : under_boot 2 [] ≡ []
  pub next_held : held_boot (crossed second (holds_boots 3 1 1)).parts.lives (node 1) ≡ 2
  pub with_word : under_boot 1 second ≡ (7, hi) ∷ []
  pub with_word_later : under_boot 2 second ≡ []
  -- so it must have been sent in the first life, and comes once in each life of 3
  pub is_kept : IsKept (across 1 second)
  pub sent_later : IsKept (across 2 second) → ⊥
  pub twice : IsKept (across 1 [] ++ comes second (holds_boots 3 1 1) ∷ []) → ⊥
  pub other_life : IsKept (across 1 [] ++ comes second (holds_boots 3 1 2) ∷ [])
