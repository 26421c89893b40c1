-- Choosing from a list: the first by an order, and the list without the first that passes a test.
use Rattle.std.specs.Prelude.{Bool, List, [], ◌∷◌, Option, Some, None, if◌then◌else◌}

-- x, or what was chosen of those after it where that goes before x
abbrev pub sooner : {X : Type 0} → (X → X → Bool) → X → Option X → X
sooner goes_before x None = x
sooner goes_before x (Some y) = if goes_before y x then y else x

-- of those before which no other goes, the one that stands first in the list
abbrev pub first_by : {X : Type 0} → (X → X → Bool) → List X → Option X
first_by goes_before [] = None
first_by goes_before (x ∷ xs) = Some (sooner goes_before x (first_by goes_before xs))

-- the list without the first that passes
abbrev pub less_first : {X : Type 0} → (X → Bool) → List X → List X
less_first test [] = []
less_first test (x ∷ xs) = if test x then xs else x ∷ less_first test xs
