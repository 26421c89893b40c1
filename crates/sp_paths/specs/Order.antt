-- The order of paths: that of their nodes as numbers, from the first on, so 1 2 4 stands before 1 3, and 1 2 4 before 1 10 4.
use Rattle.std.specs.Prelude.{◌≡◌, ◌<◌, ◌⊎◌, List, [], ◌∷◌}
use Rattle.sp_base.specs.declared.id.NodeId.{NodeId}

-- the first path stands before the second in lexical order
abbrev pub IsBefore : List NodeId → List NodeId → Type 0
IsBefore [] [] = ⊥
IsBefore [] (v ∷ q) = Unit {0}
IsBefore (u ∷ p) [] = ⊥
IsBefore (u ∷ p) (v ∷ q) = (u.0 < v.0) ⊎ ((u ≡ v) × IsBefore p q)
