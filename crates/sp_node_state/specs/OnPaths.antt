-- What is ready before a send on paths changes anything: its edges, and all that it needs.
use Rattle.std.specs.Prelude.{ℕ, ◌≡◌, [], Option, None, Some, Result, Ok, Err}
use Rattle.sp_msg.specs.Masks.{bits}
use Rattle.sp_msg.specs.declared.mask.Mask.{Mask as EdgeSet}
use Rattle.sp_msg.specs.declared.refused.SendRefused.{SendRefused}
use Rattle.sp_msg.specs.declared.refused.SendRefused.TheVariants as refusals
use Rattle.sp_rel.specs.Seated.{IsSeated}
use Rattle.sp_rules.specs.Flow.{flow_said}
use Rattle.sp_rules.specs.Kflow.{IsNextOwn, waiting_mask}
use Rattle.sp_rules.specs.KflowSends.{KSend}
use Rattle.sp_rules.specs.Masks.{Choice, IsChoice, Mask, OnlyPaths, graph_of}
use Rattle.sp_rules.specs.Node.{NodeState}
use Rattle.sp_node_state.specs.ReadyStates.{IsReadyBlank}
use Rattle.sp_node_state.specs.declared.on_paths.ReadyKrel.{ReadyKrel}

-- a choice that the rules leave for a message
abbrev pub IsKrelChoice : NodeState → KSend → Choice → Type 0
IsKrelChoice n m choice = IsChoice n.parts.weights (graph_of n.fixed.topology n.parts.weights) n.fixed.me m.dst m.paths choice

-- the edges of a message: those of the messages that wait, or where none waits those of a choice
abbrev pub IsMaskTo : Option EdgeSet → NodeState → KSend → EdgeSet → Type 0
IsMaskTo (Some waiting) n m mask = mask ≡ waiting
IsMaskTo None n m mask = IsKrelChoice n m (Mask (bits mask))

-- how the search for its edges ends: with them, with fewer paths where none waits, or for want of memory
abbrev pub IsKrelMask : NodeState → KSend → Result EdgeSet SendRefused → Type 0
IsKrelMask n m (Ok mask) = IsMaskTo (waiting_mask n.parts.kflow m.dst) n m mask
IsKrelMask n m (Err (refusals.NoPaths found)) = (waiting_mask n.parts.kflow m.dst ≡ None) × IsKrelChoice n m (OnlyPaths found)
IsKrelMask n m (Err refused) = refused ≡ refusals.Memory

-- a message on paths that waits for its signature alone, with the memory of its flow
pub record IsReadyKrel (n : NodeState) (count : ℕ) (ready : ReadyKrel) : Type 0 where
  pub blank : IsReadyBlank n ready.blank
  pub next : IsNextOwn n.parts.kflow count ready.blank.kept.body
  pub seat : IsSeated n.parts.kflow.flows (flow_said ready.blank.kept.body) ready.seat
  pub room : ready.effects ≡ record { list = []; room = 1 }
