-- Trees of hashes (RFC 8554, sections 5.2 and 5.3). The nodes are numbered: the root is 1, and 2 r and 2 r + 1 stand below r.
--
--               1
--           /       \
--         2           3          a tree of height h = 2: leaf q is node 2^h + q
--       /   \       /   \
--      4     5     6     7
use Rattle.std.specs.Prelude.{ℕ, zero, suc, ◌+◌, ◌-◌, ◌*◌, ◌/◌, ◌%◌, ◌^◌, ◌==◌, List, [], ◌++◌, map, slice_index_or, if◌then◌else◌}
use Rattle.std.specs.List.{range_with_len}
use Rattle.sha2.specs.Sha256.{sha256}
use Rattle.sp_ots.specs.Strings.{u16str, u32str}

-- the node of a leaf, from its one-time public key (section 5.3)
unfoldable pub leaf_hash : List ℕ → ℕ → List ℕ → List ℕ
leaf_hash id r key = sha256 (id ++ u32str r ++ u16str 0x8282 ++ key)

-- node r, from the two below it (section 5.3)
unfoldable pub inner_hash : List ℕ → ℕ → List ℕ → List ℕ → List ℕ
inner_hash id r left right = sha256 (id ++ u32str r ++ u16str 0x8383 ++ left ++ right)

-- node r, which stands so many levels above the leaves: T[r]. The nodes of the leaves are given
unfoldable pub tree_node : List ℕ → (ℕ → List ℕ) → ℕ → ℕ → List ℕ
tree_node id leaf zero r = leaf r
tree_node id leaf (suc level) r = inner_hash id r (tree_node id leaf level (2 * r)) (tree_node id leaf level (2 * r + 1))

-- the other node that stands below the same one
abbrev pub sibling : ℕ → ℕ
sibling r = if r % 2 == 0 then r + 1 else r - 1

-- the siblings of node r and of those above it, one on each of so many levels (section 5.4.1)
unfoldable pub path : List ℕ → (ℕ → List ℕ) → ℕ → ℕ → List (List ℕ)
path id leaf height r = map (λ level. tree_node id leaf level (sibling (r / 2 ^ level))) (range_with_len 0 height)

-- the node above node r, from r and its sibling
abbrev pub above : List ℕ → ℕ → List ℕ → List ℕ → List ℕ
above id r node other = if r % 2 == 0 then inner_hash id (r / 2) node other else inner_hash id (r / 2) other node

-- the node that stands so many levels above node r, from r and the siblings on the way (section 5.4.2)
unfoldable pub ancestor : List ℕ → List (List ℕ) → ℕ → List ℕ → ℕ → List ℕ
ancestor id siblings r node zero = node
ancestor id siblings r node (suc level) =
    above id (r / 2 ^ level) (ancestor id siblings r node level) (slice_index_or siblings level [])
