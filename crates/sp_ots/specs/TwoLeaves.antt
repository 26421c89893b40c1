-- The chains of two leaves, those of the second behind those of the first: what their messages begin with, and where they end.
use Rattle.std.specs.Prelude.{ℕ, zero, suc, ◌+◌, ◌-◌, nat_lt, List, [], ◌++◌, length, map, slice_index, slice_index_or, if◌then◌else◌}
use Rattle.std.specs.List.{range_with_len}
use Rattle.sha2.specs.Sha256.{sha256}
use Rattle.sp_ots.specs.declared.two_leaves.TwoLeaves.{TwoLeaves}
use Rattle.sp_ots.specs.Strings.{u8str}
use Rattle.sp_ots.specs.Leaves.{front_of}

-- what the messages of the chain in a place begin with
unfoldable pub front_in : TwoLeaves → ℕ → List ℕ
front_in leaves place =
    if nat_lt place leaves.split then front_of leaves.first.id leaves.first.q place else front_of leaves.second.id leaves.second.q (place - leaves.split)

-- the element that stands `count` steps after the one at step `from` of a chain whose messages begin with `front`
unfoldable pub stepped_behind : List ℕ → ℕ → ℕ → List ℕ → List ℕ
stepped_behind front from zero element = element
stepped_behind front from (suc count) element = sha256 (front ++ u8str (from + count) ++ stepped_behind front from count element)

-- the element at step j of the chain in a place, from the first of its own steps
abbrev pub element_at : (ℕ → List ℕ) → List ℕ → List (List ℕ) → ℕ → ℕ → List ℕ
element_at front from elements i j = stepped_behind (front i) (slice_index from i) (j - slice_index from i) (slice_index_or elements i [])

-- the ends of all of them
unfoldable pub run_ends : (ℕ → List ℕ) → List ℕ → List ℕ → List (List ℕ) → List (List ℕ)
run_ends front from to elements = map (λ i. element_at front from elements i (slice_index to i)) (range_with_len 0 (length elements))
