-- A node's state, what comes to it and what it answers and tells leave one state: the mask that was chosen stands in what it tells.
use Rattle.std.specs.Prelude.{◌≡◌}
use Rattle.sp_rules.specs.Arts.{Arts}
use Rattle.sp_rules.specs.Node.{NodeState}
use Rattle.sp_rules.specs.Steps.{Input, NodeStep, Output}
use Rattle.laws_node.specs.Inputs.{ArtsFit, InputFits, ReadsBack}
use Rattle.laws_node.specs.Nodes.{IsKept}

-- so what a run tells determines it, though the paths of a message are chosen freely among the cheapest ones
abbrev pub StepsAreDetermined : Type 0
StepsAreDetermined = (arts : Arts) (old : NodeState) (input : Input) (output : Output) (one two : NodeState)
    → ReadsBack arts → ArtsFit arts old.fixed old.signer → InputFits input → IsKept arts old → NodeStep arts old input output one
    → NodeStep arts old input output two → one ≡ two
