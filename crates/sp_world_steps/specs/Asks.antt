-- What clients, the clock and the administrator ask of a node.
use Rattle.std.specs.Prelude.{ℕ, ◌≡◌, List, Option, None, Some}
use Rattle.sp_journal.specs.declared.entry.Entry.{Entry}
use Rattle.sp_rules.specs.Node.{NodeState}
use Rattle.sp_rules.specs.Steps.{Input, Publish, SendKrel, SendPrio, SendRel, SetWeight, TakeKrel, TakePrio, TakeRel, Tick}
use Rattle.sp_runs.specs.Runs.{AreFields}
use Rattle.sp_runs.specs.Settings.{Setting}
use Rattle.sp_schedule_events.specs.declared.event.Event.{Event}
use Rattle.sp_schedule_events.specs.declared.event.Event.TheVariants as events
use Rattle.sp_world_steps.specs.Gave.{Gave, HasWords}

-- what an event asks, where this is the document that the administrator hands out. None where it is a poll, or bytes come
abbrev pub asked : List ℕ → Event → Option Input
asked document (events.Rel s d payload) = Some (SendRel d payload)
asked document (events.Prio s d prio expiry paths payload) =
    Some (SendPrio (record { dst = d; prio = prio; expiry = expiry; paths = paths; payload = payload }))
asked document (events.Krel s d paths payload) = Some (SendKrel (record { dst = d; paths = paths; payload = payload }))
asked document (events.Take d s) = Some (TakeRel s)
asked document (events.KTake d s) = Some (TakeKrel s)
asked document (events.TakePrio d) = Some TakePrio
asked document (events.Tick u now) = Some (Tick now)
asked document (events.Weight u v weight) = Some (SetWeight v weight)
asked document (events.Publish u weights) = Some (Publish document)
asked document _ = None

-- it asks something of this node, its fields are in their ranges, topologies change at the node as in the setting, and whatever the answer is has its words
pub record MayAsk (n : NodeState) (event : Event) (document : List ℕ) : Type 0 where
  pub setting : Setting
  pub before : List Event
  pub fields : AreFields setting before event
  pub format : n.fixed.topology.format ≡ setting.topology.format
  pub asks : asked document event ≡ None → ⊥
  pub words : (input : Input) → asked document event ≡ Some input → HasWords n input

-- it was asked, and the entry tells the answer
pub record GaveAnswer (old : NodeState) (event : Event) (document : List ℕ) (entry : Entry) (new : NodeState) : Type 0 where
  pub input : Input
  pub asks : asked document event ≡ Some input
  pub gave : Gave old input entry new
