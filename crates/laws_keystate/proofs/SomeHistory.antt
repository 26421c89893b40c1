-- A history of one start, which reserves 32 indexes and signs with the first.
use Rattle.std.proofs.Common.{ℕ, List, [], ◌∷◌, refl, lit<, lit≤}
use Rattle.sp_lms.specs.declared.param.LmsParam.{LmsParam}
use Rattle.sp_keystate.specs.declared.slot.Slot.TheVariants.{First}
use Rattle.sp_keystate.specs.States.{first_numbers}
use Rattle.sp_keystate.proofs.Standing.{formatted_in_use}
use Rattle.laws_keystate.specs.Starts.{And_then, Between, DoesAll, Extends, IsChange, Nothing_more, Reserves, Signs, Standing, with_bound, written}
use Rattle.laws_keystate.specs.Histories.{formatted}
use Rattle.laws_keystate.specs.Laws.{AHistorySigns}

abbrev at_first : LmsParam → List ℕ → Standing
at_first height seed =
    record { file = formatted; slot = First; numbers = first_numbers; signer = record { height = height; seed = seed; index = 0; bound = 0 } }

abbrev reserved : LmsParam → List ℕ → Standing
reserved height seed = written (at_first height seed) (with_bound first_numbers 32)

abbrev extended : LmsParam → List ℕ → Standing
extended height seed = record (reserved height seed) { signer = record { height = height; seed = seed; index = 0; bound = 32 } }

abbrev signed : LmsParam → List ℕ → Standing
signed height seed = record (reserved height seed) { signer = record { height = height; seed = seed; index = 1; bound = 32 } }

change : IsChange first_numbers (with_bound first_numbers 32)
change = record { range = record { serial = lit< tt; bound = lit< tt; boot = lit< tt }; serial = refl; bound = lit≤ tt; boot = lit≤ tt }

does : (height : LmsParam) (seed message : List ℕ) → DoesAll (at_first height seed) (Reserves 32 ∷ Extends 32 ∷ Signs 0 message ∷ []) (signed height seed)
does height seed message =
    And_then (at_first height seed) (reserved height seed) (signed height seed) (Reserves 32) (Extends 32 ∷ Signs 0 message ∷ []) (change, refl)
    (And_then (reserved height seed) (extended height seed) (signed height seed) (Extends 32) (Signs 0 message ∷ []) (lit≤ tt, lit≤ tt, refl)
    (And_then (extended height seed) (signed height seed) (signed height seed) (Signs 0 message) [] (refl, lit< tt, refl) (Nothing_more (signed height seed))))

pub a_history_signs : AHistorySigns
a_history_signs height seed message = (
  record {
    begin = at_first height seed;
    acts = Reserves 32 ∷ Extends 32 ∷ Signs 0 message ∷ [];
    end = signed height seed;
    left = (signed height seed).file;
  } ∷ [],
  (record { begins = record { file = refl; opens = formatted_in_use [] refl; signer = refl }; does = does height seed message; leaves = Between refl }, tt),
  refl,
)
