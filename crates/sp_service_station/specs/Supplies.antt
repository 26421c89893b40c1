-- That a node is asked to sign only where an index is reserved for it, or its key has none left.
use Rattle.std.specs.Prelude.{ℕ, ◌≢◌, ◌≤◌, List, Option}
use Rattle.sp_msg.specs.declared.refused.SendRefused.TheVariants as refusals
use Rattle.sp_node_format.specs.Format.{format_of}
use Rattle.sp_rules.specs.Node.{NodeState}
use Rattle.sp_rules.specs.Steps as steps
use Rattle.sp_rules.specs.declared.node.TickReply.TheVariants as ticks
use Rattle.sp_service_station.specs.Stations.{Station, StationStep, indexes_in, node_of}
use Rattle.sp_service_turns.specs.Turns.{Moves, Turn}
use Rattle.sp_service_turns.specs.declared.peer.Peer.{Peer}

-- no step from here answers a tick or a send that an index isn't reserved
abbrev pub IsSupplied : NodeState → Type 0
IsSupplied n = (input : steps.Input) (output : steps.Output) (new : NodeState) → steps.NodeStep (format_of n.fixed) n input output new → (bound : ℕ)
    → (output.reply ≢ steps.Ticked (ticks.TickNotReserved bound)) × (output.reply ≢ steps.Refused (refusals.NotReserved bound))

-- in each turn the node is so where it ticks, and where a client is heard
abbrev pub TurnsAreSupplied : Type 0
TurnsAreSupplied = (peers : List Peer) (polled : Option Peer) (t : Turn) (old new : Station) → (indexes_in old).bound ≤ (indexes_in old).total
    → (moves : Moves StationStep indexes_in peers polled t old new) → IsSupplied (node_of moves.after_reserve) × IsSupplied (node_of moves.after_overlay)
