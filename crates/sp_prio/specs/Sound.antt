-- What always holds of the table: each node has its window, there is room for all nodes among the removed ones, and there are no more neighbours than ids.
use Rattle.std.specs.Prelude.{ℕ, ◌≡◌, ◌≤◌, List, length}
use Rattle.sp_base.specs.declared.id.NodeId.{NodeId}
use Rattle.sp_rules.specs.PrioPeer.{PrioPeer}
use Rattle.sp_rules.specs.declared.store.TheConstants.{IDS}

pub record IsSound (nodes : List NodeId) (room : ℕ) (peers : List PrioPeer) (windows : List (List ℕ)) : Type 0 where
  pub roomy : length nodes ≤ room
  pub windowed : length windows ≡ length nodes
  pub few : length peers ≤ IDS
