-- Lists: one is the front of another.
use Rattle.std.specs.Prelude.{◌≡◌, List, ◌++◌}

-- the first list is the front of the second
abbrev pub IsPrefix : {X : Type 0} → List X → List X → Type 0
IsPrefix {X} xs ys = (rest : List X) × (ys ≡ xs ++ rest)
