-- One call of a node, with what it answered, what it caused and the entry that tells both.
use Rattle.std.specs.Prelude.{ℕ, ◌≡◌, List, [], None}
use Rattle.sp_base.specs.declared.id.NodeId.{NodeId}
use Rattle.sp_journal.specs.declared.entry.Entry.{Entry}
use Rattle.sp_node_format.specs.Format.{format_of}
use Rattle.sp_node.specs.Calls.{taken_in}
use Rattle.sp_rules.specs.Node.{NodeState}
use Rattle.sp_rules.specs.Steps.{Datagram, Input, NodeStep, Output}
use Rattle.sp_rules.specs.declared.node.Step.{Step}
use Rattle.sp_rules.specs.declared.node.Taken.{Taken}
use Rattle.sp_runs.specs.Journals.{Says, reply_word}
use Rattle.sp_runs.specs.Scenarios.{setting_of}
use Rattle.sp_runs.specs.Settings.{Setting}
use Rattle.sp_schedule_events.specs.declared.scenario.Scenario.{Scenario}

-- whatever the rules answer to this, a journal has its words
pub record HasWords (n : NodeState) (input : Input) : Type 0 where
  pub setting : Setting
  pub words : (output : Output) (after : NodeState) → NodeStep (format_of n.fixed) n input output after → reply_word setting 0 output.reply ≡ None → ⊥

-- in whichever scenario, the entry is that of this output, whose frame has this number
abbrev pub Tells : ℕ → Output → Entry → Type 0
Tells number output entry = (s : Scenario) → Says (setting_of s) number output entry

-- a call that no frame came with: a step of the node, and its entry
pub record Gave (old : NodeState) (input : Input) (entry : Entry) (new : NodeState) : Type 0 where
  pub output : Output
  pub step : NodeStep (format_of old.fixed) old input output new
  pub tells : Tells 0 output entry
  pub no_object : output.answered ≡ []
  pub none_adopted : output.adopted ≡ None

-- the output of an arrival
abbrev pub taken : NodeState → NodeId → List ℕ → Step Taken → Output
taken old u bytes step = taken_in old u bytes step

-- an arrival: a step of the node
abbrev pub GaveTaken : NodeState → NodeId → List ℕ → Step Taken → NodeState → Type 0
GaveTaken old u bytes step new = NodeStep (format_of old.fixed) old (Datagram u bytes) (taken old u bytes step) new
