-- What a list ends as, where its values were lent to be changed.
use Rattle.std.specs.Prelude.{List, ◌++◌, length, take, drop}
use Rattle.std.specs.Borrow.{Lends, Fml, RattleType, MutBor, Array}
use Rattle.sp_base.specs.contracts.listed.Listed.{the_row}

-- the list with these values in the place of its own, from the first on. Its length stays
abbrev pub with_values : {X : Type 0} → List X → List X → List X
with_values xs ys = take (length xs) (ys ++ drop (length ys) xs)

-- once the borrow r ends, the list has the values that r shows last
module _ (T : RattleType) (s : MutBor (List T.Denot)) where
  -- the list ends as its values, lent one by one, were left
  abbrev pub lends_values : MutBor (List T.Denot) → Fml
  lends_values r = Lends (the_row T) (Array T 0) s r (with_values s.now)
