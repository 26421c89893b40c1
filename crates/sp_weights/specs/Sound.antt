-- What always holds of the weights at a node: each edge has its minimum and each of its ends a row, no number is above those of messages, and the weight
-- that is kept of each edge is the one in effect.
use Rattle.std.specs.Prelude.{◌≡◌, ◌*◌, ◌≤◌, ℕ, Bool, List, [], All, length, map, slice_index_or, Option, is_some}
use Rattle.sp_base.specs.declared.limits.TheConstants.{MAX_EDGES_2, MAX_SEQ}
use Rattle.sp_msg.specs.declared.kept.Kept.{Kept}
use Rattle.sp_rules.specs.Weights.{effective, seq_of}

-- the weight of an edge that is in effect, by the minima and the rows alone
abbrev pub effective_by : List ℕ → List (Option Kept) → ℕ → ℕ
effective_by least rows edge = effective (record { edges = []; least = least; rows = rows; cycles = [] }) edge

-- of so many edges
pub record IsSound (edges : ℕ) (least : List ℕ) (rows : List (Option Kept)) (active : List Bool) (weights : List ℕ) : Type 0 where
  pub few : edges ≤ MAX_EDGES_2
  pub each_edge_has_a_minimum : length least ≡ edges
  pub each_end_has_a_row : length rows ≡ 2 * edges
  pub active_rows : active ≡ map is_some rows
  pub numbers : All (λ held. seq_of held ≤ MAX_SEQ) rows
  pub each_edge_has_a_weight : length weights ≡ edges
  pub in_effect : (edge : ℕ) → slice_index_or weights edge 0 ≡ effective_by least rows edge
