-- Up to four values as their list.
use Rattle.std.specs.Prelude.{List, [], ◌∷◌, Option, None, Some}
use Rattle.sp_base.specs.declared.four.Few.{Few}
use Rattle.sp_base.specs.declared.four.Few.TheVariants as few

abbrev pub as_items : {X : Type 0} → Few X → List X
as_items few.Zero = []
as_items (few.One a) = a ∷ []
as_items (few.Two a b) = a ∷ b ∷ []
as_items (few.Three a b c) = a ∷ b ∷ c ∷ []
as_items (few.All a b c d) = a ∷ b ∷ c ∷ d ∷ []

-- the first and those after it
abbrev pub split_first : {X : Type 0} → List X → Option (X × List X)
split_first [] = None
split_first (x ∷ xs) = Some (x, xs)
