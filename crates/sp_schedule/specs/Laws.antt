-- A text that is read to its end is the schedule that was read, the text of a schedule is read to its end, a text has one reading, and its
-- pieces have the same.
use Rattle.std.specs.Prelude.{ℕ, ◌≡◌, ◌++◌, Bool, false, List, [], ◌∷◌, take}
use Rattle.std.specs.List.{flat_map}
use Rattle.sp_schedule.specs.Feeds.{Fed, IsReadAs, TakesLine, TakesPiece, unfed}
use Rattle.sp_schedule.specs.Readings.{IsReading}
use Rattle.sp_schedule.specs.Scenarios.{IsSchedule}
use Rattle.sp_schedule.specs.Spelling.{schedule_text}
use Rattle.sp_schedule.specs.declared.parsed.Parsed.{Parsed}
use Rattle.sp_schedule.specs.declared.stage.Ending.{Ending}
use Rattle.sp_schedule.specs.declared.stage.Ending.TheVariants as endings
use Rattle.sp_schedule.specs.declared.stage.Reading.{Reading}
use Rattle.sp_schedule.specs.declared.stage.Stage.TheVariants as stages
use Rattle.sp_schedule_events.specs.declared.scenario.Scenario.{Scenario}
use Rattle.sp_schedule_events.specs.declared.event.Event.{Event}

-- what was read of a whole text is what the text spells
abbrev pub ReadingsAreOfTheirText : Type 0
ReadingsAreOfTheirText =
    (text : List ℕ) (reading : Reading) (s : Scenario) (es : List Event) → IsReading text false reading
    → reading.ending ≡ endings.Whole → reading.stage ≡ stages.End s es → IsSchedule s es × (text ≡ schedule_text s es)

-- the text of a schedule is read whole, to just this schedule
abbrev pub GoodTextsAreRead : Type 0
GoodTextsAreRead =
    (s : Scenario) (es : List Event) → IsSchedule s es → IsReading (schedule_text s es) false (record { stage = stages.End s es; ending = endings.Whole })

-- a text leads to one stage and has one ending: one first bad line, and one kind
abbrev pub OneReading : Type 0
OneReading = (text : List ℕ) (is_cut : Bool) (a b : Reading) → IsReading text is_cut a → IsReading text is_cut b → a ≡ b

-- where a text begins with the text of a schedule, it begins with that of no other, whatever follows
abbrev pub NoOtherBeginsThere : Type 0
NoOtherBeginsThere =
    (s t : Scenario) (es fs : List Event) (rest others : List ℕ) → IsSchedule s es → IsSchedule t fs → schedule_text s es ++ rest ≡ schedule_text t fs ++ others
    → (s ≡ t) × (es ≡ fs)

-- these pieces came to a feed, and some of their lines were read
pub data IsFedWith : List (List ℕ) → Fed → Type 0 where
  Unfed : IsFedWith [] unfed
  Pushed : {pieces : List (List ℕ)} {old new : Fed} (piece : List ℕ) (count : ℕ) → IsFedWith pieces old → TakesPiece old piece count new
      → IsFedWith (pieces ++ take count piece ∷ []) new
  Read : {pieces : List (List ℕ)} {old new : Fed} (parsed : Parsed) → IsFedWith pieces old → TakesLine old parsed new → IsFedWith pieces new

-- however a text is cut, what a feed reads of its pieces is the reading of the whole, by whomever that is read
abbrev pub PiecesAreReadAsOne : Type 0
PiecesAreReadAsOne =
    (pieces : List (List ℕ)) (fed : Fed) (is_cut : Bool) (ending : Ending) (reading : Reading) → IsFedWith pieces fed → IsReadAs fed is_cut ending
    → IsReading (flat_map (λ piece. piece) pieces) is_cut reading → reading ≡ record { stage = fed.stage; ending = ending }
