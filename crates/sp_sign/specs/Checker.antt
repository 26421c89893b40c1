-- What a checker is to a contract: the keys of nodes, and how many signature checks it made.
use Rattle.std.specs.Prelude.{ℕ, ◌≡◌, ◌<◌, List, Some, length, map, slice_index_or}
use Rattle.sp_topology.specs.Keys.{key_of}
use Rattle.sp_topology.specs.declared.topology.NodeKey.{NodeKey}
use Rattle.sp_sign.specs.declared.checker.NodeVerifier.{NodeVerifier}

-- a node with the bytes of its key
abbrev pub as_key : NodeVerifier → NodeKey
as_key n = record { id = n.id; key = n.key }

-- the nodes with their keys, and the number of signatures that were checked, which stands still at the end of its type
pub record Checking : Type 0 where
  pub nodes : List NodeKey
  pub checks : ℕ

-- at this place stands the key that the nodes have for the id
pub record IsKeyAt (id : ℕ) (nodes : List NodeVerifier) (place : ℕ) : Type 0 where
  pub within : place < length nodes
  pub key : (n : NodeVerifier) → key_of id (map as_key nodes) ≡ Some (slice_index_or nodes place n).key
