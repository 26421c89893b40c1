-- The messages of several leaves, one after another.
use Rattle.std.specs.Prelude.{ℕ, List, ◌++◌, map}
use Rattle.std.specs.List.{concat, range_with_len}
use Rattle.sp_ots.specs.Strings.{u16str, u32str}
use Rattle.sp_ots.specs.Chains.{chain_end}
use Rattle.sp_ots.specs.Keys.{private_start}

-- what a message begins with: the tree's id, the leaf, and the number of a chain or another one
abbrev pub front_of : List ℕ → ℕ → ℕ → List ℕ
front_of id q number = id ++ u32str q ++ u16str number

-- the end of chain i, from its private start
abbrev pub end_of_start : List ℕ → ℕ → ℕ → ℕ → List ℕ → List ℕ
end_of_start id q i last seed = chain_end id q i 0 last (private_start id q seed i)

-- the ends of the first n chains behind the front of the message that a public key is the hash of
abbrev pub ends_behind : List ℕ → ℕ → ℕ → List ℕ → ℕ → List ℕ
ends_behind id q last seed n = front_of id q 0x8080 ++ concat (map (λ i. end_of_start id q i last seed) (range_with_len 0 n))
