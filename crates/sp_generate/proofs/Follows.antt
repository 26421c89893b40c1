-- Events that may come one after another, after those before them.
use Rattle.std.proofs.Common.{◌≡◌, ℕ, ◌+◌, List, [], ◌∷◌, ◌++◌, length, filter, sym, ap, ◌∙◌, subst, append_assoc, append-nil, length-append}
use Rattle.std.specs.List.{All}
use Rattle.std.proofs.lemmas.List.Elements.{All-head, All-tail, filter-append}
use Rattle.sp_schedule.specs.Scenarios.{AreInRange, One_more}
use Rattle.sp_schedule_events.specs.EventLines.{InRange}
use Rattle.sp_schedule_events.specs.Events.{is_poll, polls}
use Rattle.sp_schedule_events.specs.declared.event.Event.{Event}
use Rattle.sp_schedule_events.specs.declared.scenario.Scenario.{Scenario}

-- each of the later events may come after those before it
abbrev pub Follow : Scenario → List Event → List Event → Type 0
Follow s before [] = Unit {0}
Follow s before (e ∷ later) = InRange s before e × Follow s (before ++ e ∷ []) later

pub all_in_range : (s : Scenario) (before later : List Event) → AreInRange s before → Follow s before later → AreInRange s (before ++ later)
all_in_range s before [] good follow = subst (λ (xs : List Event). AreInRange s xs) (sym (append-nil before)) good
all_in_range s before (e ∷ later) good follow =
    subst (λ (xs : List Event). AreInRange s xs) (append_assoc before (e ∷ []) later)
    (all_in_range s (before ++ e ∷ []) later (One_more e good follow.0) follow.1)

pub follow_on : (s : Scenario) (before xs ys : List Event) → Follow s before xs → Follow s (before ++ xs) ys → Follow s before (xs ++ ys)
follow_on s before [] ys first rest = subst (λ (zs : List Event). Follow s zs ys) (append-nil before) rest
follow_on s before (e ∷ xs) ys first rest =
    (first.0, follow_on s (before ++ e ∷ []) xs ys first.1 (subst (λ (zs : List Event). Follow s zs ys) (sym (append_assoc before (e ∷ []) xs)) rest))

-- the event may come after any others
abbrev pub IsFree : Scenario → Event → Type 0
IsFree s e = (before : List Event) → InRange s before e

pub follow_free : (s : Scenario) (before xs : List Event) → All (IsFree s) xs → Follow s before xs
follow_free s before [] free = tt
follow_free s before (e ∷ xs) free = (All-head (IsFree s) e xs free before, follow_free s (before ++ e ∷ []) xs (All-tail (IsFree s) e xs free))

pub polls-append : (xs ys : List Event) (u v : ℕ) → polls (xs ++ ys) u v ≡ polls xs u v + polls ys u v
polls-append xs ys u v = ap length (filter-append (is_poll u v) xs ys) ∙ length-append (filter (is_poll u v) xs) (filter (is_poll u v) ys)
