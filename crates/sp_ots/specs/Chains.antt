-- Chains of elements of 32 bytes, each the hash of the one before (RFC 8554, section 4.3, algorithm 1).
use Rattle.std.specs.Prelude.{ℕ, zero, suc, ◌+◌, ◌-◌, List, [], ◌++◌, length, map, slice_index, slice_index_or}
use Rattle.std.specs.List.{range_with_len}
use Rattle.sha2.specs.Sha256.{sha256}
use Rattle.sp_ots.specs.Strings.{u8str, u16str, u32str}

-- the element of chain i at step j + 1, from the one at step j: I is the tree's id, and q the leaf's number
unfoldable pub next_element : List ℕ → ℕ → ℕ → ℕ → List ℕ → List ℕ
next_element id q i j element = sha256 (id ++ u32str q ++ u16str i ++ u8str j ++ element)

-- the element of chain i that stands `count` steps after the one at step `from`
unfoldable pub stepped : List ℕ → ℕ → ℕ → ℕ → ℕ → List ℕ → List ℕ
stepped id q i from zero element = element
stepped id q i from (suc count) element = next_element id q i (from + count) (stepped id q i from count element)

-- the element of chain i at step `to`, from the one at step `from`
abbrev pub chain_end : List ℕ → ℕ → ℕ → ℕ → ℕ → List ℕ → List ℕ
chain_end id q i from to element = stepped id q i from (to - from) element

-- those of all chains, each between its own steps
unfoldable pub chain_ends : List ℕ → ℕ → List ℕ → List ℕ → List (List ℕ) → List (List ℕ)
chain_ends id q from to elements =
    map (λ i. chain_end id q i (slice_index from i) (slice_index to i) (slice_index_or elements i []))
    (range_with_len 0 (length elements))
