-- The events of a number's schedule are harmless, so none is forged.
use Rattle.std.proofs.Common.{◌≡◌, ℕ, zero, suc, ◌+◌, Bool, true, false, List, [], ◌∷◌, ◌++◌, replicate, refl}
use Rattle.std.specs.Prelude.{◌&&◌, not}
use Rattle.std.specs.List.{All, flat_map, range_with_len}
use Rattle.std.proofs.lemmas.List.Elements.{All-append, All-cons, All-nil}
use Rattle.sp_base.specs.declared.id.NodeId.{NodeId}
use Rattle.sp_frame.specs.declared.frame.TheConstants.{MIN_FRAME_BYTES}
use Rattle.sp_frame.specs.declared.refused.FrameRefused.TheVariants as frames
use Rattle.sp_generate.specs.Generated.{both_ways, by_priority, crafted, cycle, directions, frame, generated_events, generated_scenario, hostile, node, payload}
use Rattle.sp_generate.specs.Generated.{takes}
use Rattle.sp_generate.proofs.Schedules.{are_schedules}
use Rattle.sp_runs.specs.Scenarios.{setting_of}
use Rattle.sp_runs.specs.Settings.{Setting, is_correct, is_node, is_one_of}
use Rattle.sp_schedule_events.specs.declared.event.Event.{Event}
use Rattle.sp_schedule_events.specs.declared.event.Event.TheVariants as events
use Rattle.sp_schedule_events.specs.declared.scenario.Scenario.{Scenario}
use Rattle.laws_runs_format.specs.Unforged.{GeneratedForgeNothing, IsHarmless}
use Rattle.laws_runs_format.proofs.Unforged.{harmless_schedules_forge_nothing}

-- ---- events that bring nothing of the adversary's

both_harmless : (x : Setting) (number turn : ℕ) → All (IsHarmless x) (both_ways number turn)
both_harmless x number turn =
    All-cons (IsHarmless x) (events.Rel (node 1) (node 7) (payload number turn)) (events.Rel (node 7) (node 1) (payload number turn) ∷ []) tt
    (All-cons (IsHarmless x) (events.Rel (node 7) (node 1) (payload number turn)) [] tt (All-nil (IsHarmless x)))

prio_harmless : (x : Setting) (number turn : ℕ) → All (IsHarmless x) (by_priority number turn)
prio_harmless x number turn =
    All-cons (IsHarmless x) (events.Prio (node 2) (node 6) 5 1000000 0 (payload number turn))
    (events.Prio (node 1) (node 7) 3 1000000 2 (payload number turn) ∷ []) tt
    (All-cons (IsHarmless x) (events.Prio (node 1) (node 7) 3 1000000 2 (payload number turn)) [] tt (All-nil (IsHarmless x)))

frames_harmless : (x : Setting) (turn : ℕ) (ds : List (ℕ × ℕ)) → All (IsHarmless x) (flat_map (frame turn) ds)
frames_harmless x turn [] = All-nil (IsHarmless x)
frames_harmless x turn (d ∷ ds) =
    All-cons (IsHarmless x) (events.Poll (node d.0) (node d.1)) (events.Pass (node d.0) (node d.1) turn ∷ flat_map (frame turn) ds) tt
    (All-cons (IsHarmless x) (events.Pass (node d.0) (node d.1) turn) (flat_map (frame turn) ds) tt (frames_harmless x turn ds))

cycle_harmless : (x : Setting) (turn : ℕ) → All (IsHarmless x) (cycle turn)
unfolding cycle
cycle_harmless x turn =
    All-append (IsHarmless x) (flat_map (frame turn) directions) (events.Tick (node 1) turn ∷ events.Tick (node 7) turn ∷ [])
    (frames_harmless x turn directions)
    (All-cons (IsHarmless x) (events.Tick (node 1) turn) (events.Tick (node 7) turn ∷ []) tt
    (All-cons (IsHarmless x) (events.Tick (node 7) turn) [] tt (All-nil (IsHarmless x))))

takes_of : (x : Setting) (d s : NodeId) (count : ℕ) → All (IsHarmless x) (replicate count (events.Take d s))
takes_of x d s zero = All-nil (IsHarmless x)
takes_of x d s (suc count) = All-cons (IsHarmless x) (events.Take d s) (replicate count (events.Take d s)) tt (takes_of x d s count)

takes_harmless : (x : Setting) → All (IsHarmless x) takes
takes_harmless x =
    All-append (IsHarmless x) (replicate 16 (events.Take (node 7) (node 1))) (replicate 16 (events.Take (node 1) (node 7))) (takes_of x (node 7) (node 1) 16)
    (takes_of x (node 1) (node 7) 16)

turns_harmless : (x : Setting) (f : ℕ → List Event) → ((turn : ℕ) → All (IsHarmless x) (f turn)) → (first count : ℕ)
    → All (IsHarmless x) (flat_map f (range_with_len first count))
turns_harmless x f each first zero = All-nil (IsHarmless x)
turns_harmless x f each first (suc count) =
    All-append (IsHarmless x) (f first) (flat_map f (range_with_len (first + 1) count)) (each first) (turns_harmless x f each (first + 1) count)

-- ---- those that do

neither : (a b : Bool) → b ≡ true → (a && not b) ≡ false
neither true true e = refl
neither true false e = absurd cc
neither false b e = refl

-- a node that the header calls compromised is not correct
compromised : (s : Scenario) (u : NodeId) → is_one_of s.bad u ≡ true → is_correct (setting_of s) u ≡ false
compromised s u bad = neither (is_node (setting_of s) u) (is_one_of s.bad u) bad

four_is_bad : (number : ℕ) → is_one_of (generated_scenario number).bad (node 4) ≡ true
unfolding generated_scenario
four_is_bad number = refl

craft_harmless : (x : Setting) (number v key : ℕ) → is_correct x (node 4) ≡ false → IsHarmless x (crafted number v key)
craft_harmless x number v key bad = (bad, bad)

hostile_harmless : (x : Setting) (number : ℕ) → is_correct x (node 4) ≡ false → All (IsHarmless x) (hostile number)
hostile_harmless x number bad =
    All-cons (IsHarmless x) (crafted number 3 4) (crafted number 5 8 ∷ events.Inject (node 8) (node 1) (255 ∷ 255 ∷ []) ∷ []) (craft_harmless x number 3 4 bad)
    (All-cons (IsHarmless x) (crafted number 5 8) (events.Inject (node 8) (node 1) (255 ∷ 255 ∷ []) ∷ []) (craft_harmless x number 5 8 bad)
    (All-cons (IsHarmless x) (events.Inject (node 8) (node 1) (255 ∷ 255 ∷ [])) [] (frames.Short (record { need = MIN_FRAME_BYTES; left = 2 }), refl)
    (All-nil (IsHarmless x))))

all_harmless : (x : Setting) (number : ℕ) → is_correct x (node 4) ≡ false → All (IsHarmless x) (generated_events number)
unfolding generated_events
all_harmless x number bad =
    let P = IsHarmless x in
    let first = flat_map (both_ways number) (range_with_len 1 16) in
    let second = flat_map (by_priority number) (range_with_len 1 4) in
    let cycles = flat_map cycle (range_with_len 1 130) in
    All-append P first (second ++ (hostile number ++ (cycles ++ takes))) (turns_harmless x (both_ways number) (both_harmless x number) 1 16)
    (All-append P second (hostile number ++ (cycles ++ takes)) (turns_harmless x (by_priority number) (prio_harmless x number) 1 4)
    (All-append P (hostile number) (cycles ++ takes) (hostile_harmless x number bad)
    (All-append P cycles takes (turns_harmless x cycle (cycle_harmless x) 1 130) (takes_harmless x))))

no_epochs : (number : ℕ) → (generated_scenario number).epochs ≡ false
unfolding generated_scenario
no_epochs number = refl

pub generated_forge_nothing : GeneratedForgeNothing
generated_forge_nothing number =
    harmless_schedules_forge_nothing (generated_scenario number) (generated_events number) (are_schedules number) (no_epochs number)
    (all_harmless (setting_of (generated_scenario number)) number (compromised (generated_scenario number) (node 4) (four_is_bad number)))
