-- Directions between correct neighbours: frames that are made there arrive.
use Rattle.std.proofs.Common.{◌≡◌, ◌<◌, ◌≤◌, ℕ, zero, suc, ◌+◌, ◌^◌, ◌==◌, ◌&&◌, Bool, true, false, nat_le, List, [], ◌∷◌, ◌++◌, refl, ◌∙◌, arith}
use Rattle.std.specs.List.{All, flat_map, range_with_len}
use Rattle.std.proofs.lemmas.Bool.{and_from, and_parts, eq-eqb, eqb-true, leb-true, le-leb}
use Rattle.std.proofs.lemmas.List.Elements.{All-cons, All-head, All-nil, All-tail}
use Rattle.sp_schedule_events.specs.EventLines.{InRange}
use Rattle.sp_schedule_events.specs.Events.{is_poll, polls}
use Rattle.sp_schedule_events.specs.Scenarios.{are_joined, is_correct}
use Rattle.sp_schedule_events.specs.declared.event.Event.{Event}
use Rattle.sp_schedule_events.specs.declared.event.Event.TheVariants as events
use Rattle.sp_schedule_events.specs.declared.scenario.Scenario.{Scenario}
use Rattle.sp_generate.specs.Generated.{cycle, directions, frame, generated_scenario, node}
use Rattle.sp_generate.proofs.Follows.{Follow, IsFree, follow_free, follow_on, polls-append}
use Rattle.sp_generate.proofs.HeaderLemmas.{all_mean}

-- both ends are correct nodes, and an edge joins them
pub record IsOpen (s : Scenario) (d : ℕ × ℕ) : Type 0 where
  pub from : (1 ≤ d.0) × (d.0 ≤ s.graph.nodes) × (is_correct s d.0 ≡ true)
  pub to : (1 ≤ d.1) × (d.1 ≤ s.graph.nodes) × (is_correct s d.1 ≡ true)
  pub joined : are_joined s d.0 d.1 ≡ true

abbrev is_open : Scenario → ℕ × ℕ → Bool
is_open s d =
    (nat_le 1 d.0 && (nat_le d.0 s.graph.nodes && is_correct s d.0))
    && ((nat_le 1 d.1 && (nat_le d.1 s.graph.nodes && is_correct s d.1)) && are_joined s d.0 d.1)

three : (a b : ℕ) (n : ℕ) (t : Bool) → (nat_le a b && (nat_le b n && t)) ≡ true → (a ≤ b) × (b ≤ n) × (t ≡ true)
three a b n t is =
    let one = and_parts (nat_le a b) (nat_le b n && t) is in
    let two = and_parts (nat_le b n) t one.1 in
    (leb-true a b one.0, leb-true b n two.0, two.1)

open_means : (s : Scenario) (d : ℕ × ℕ) → is_open s d ≡ true → IsOpen s d
open_means s d is =
    let one = and_parts (nat_le 1 d.0 && (nat_le d.0 s.graph.nodes && is_correct s d.0))
    ((nat_le 1 d.1 && (nat_le d.1 s.graph.nodes && is_correct s d.1)) && are_joined s d.0 d.1) is in
    let two = and_parts (nat_le 1 d.1 && (nat_le d.1 s.graph.nodes && is_correct s d.1)) (are_joined s d.0 d.1) one.1 in
    record { from = three 1 d.0 s.graph.nodes (is_correct s d.0) one.0; to = three 1 d.1 s.graph.nodes (is_correct s d.1) two.0; joined = two.1 }

pub all_open : (number : ℕ) → All (IsOpen (generated_scenario number)) directions
unfolding generated_scenario
all_open number = all_mean (is_open (generated_scenario number)) (IsOpen (generated_scenario number)) (open_means (generated_scenario number)) directions refl

-- ---- one frame

poll_in_range : (s : Scenario) (before : List Event) (d : ℕ × ℕ) → s.epochs ≡ false → IsOpen s d → InRange s before (events.Poll (node d.0) (node d.1))
poll_in_range s before d off is = record { values = (is.from.0, is.from.1, is.from.2, (is.to.0, is.to.1, tt)); joined = is.joined; may = rw off refl }

polled : (before : List Event) (d : ℕ × ℕ) → polls (before ++ events.Poll (node d.0) (node d.1) ∷ []) d.0 d.1 ≡ polls before d.0 d.1 + 1
polled before d =
    let same : is_poll d.0 d.1 (events.Poll (node d.0) (node d.1)) ≡ true = and_from (d.0 == d.0) (d.1 == d.1) (eq-eqb d.0 d.0 refl) (eq-eqb d.1 d.1 refl) in
    polls-append before (events.Poll (node d.0) (node d.1) ∷ []) d.0 d.1 ∙ rw same refl

pass_in_range : (s : Scenario) (before : List Event) (turn : ℕ) (d : ℕ × ℕ) → IsOpen s d → 1 ≤ turn → turn < 2 ^ 64 → turn ≤ polls before d.0 d.1 + 1
    → InRange s (before ++ events.Poll (node d.0) (node d.1) ∷ []) (events.Pass (node d.0) (node d.1) turn)
pass_in_range s before turn d is first most made = record {
  values = (is.from.0, is.from.1, is.from.2, (is.to.0, is.to.1, is.to.2, (omega arith, omega (arith, most), tt)));
  joined =
      and_from (nat_le 1 turn) (nat_le turn (polls (before ++ events.Poll (node d.0) (node d.1) ∷ []) d.0 d.1)) (le-leb 1 turn first)
      (le-leb turn (polls (before ++ events.Poll (node d.0) (node d.1) ∷ []) d.0 d.1) (rw (polled before d) made));
  may = refl;
}

-- ---- a frame of each direction

-- each direction has so many frames at least
abbrev pub HaveMade : ℕ → List Event → List (ℕ × ℕ) → Type 0
HaveMade least before ds = All (λ d. least ≤ polls before d.0 d.1) ds

made_more : (least : ℕ) (before later : List Event) (ds : List (ℕ × ℕ)) → HaveMade least before ds → HaveMade least (before ++ later) ds
made_more least before later [] made = All-nil (λ (d : ℕ × ℕ). least ≤ polls (before ++ later) d.0 d.1)
made_more least before later (d ∷ ds) made =
    All-cons (λ (d : ℕ × ℕ). least ≤ polls (before ++ later) d.0 d.1) d ds
    (rw (polls-append before later d.0 d.1) (omega (arith, All-head (λ (d : ℕ × ℕ). least ≤ polls before d.0 d.1) d ds made)))
    (made_more least before later ds (All-tail (λ (d : ℕ × ℕ). least ≤ polls before d.0 d.1) d ds made))

frames_follow : (s : Scenario) (least : ℕ) (before : List Event) (ds : List (ℕ × ℕ)) → s.epochs ≡ false → least + 1 < 2 ^ 64 → All (IsOpen s) ds
    → HaveMade least before ds
    → Follow s before (flat_map (frame (least + 1)) ds)
frames_follow s least before [] off small opened made = tt
frames_follow s least before (d ∷ ds) off small opened made =
    let here = All-head (IsOpen s) d ds opened in
    let enough : least ≤ polls before d.0 d.1 = All-head (λ (d : ℕ × ℕ). least ≤ polls before d.0 d.1) d ds made in
    let poll = events.Poll (node d.0) (node d.1) in
    let pass = events.Pass (node d.0) (node d.1) (least + 1) in
    let later = made_more least (before ++ poll ∷ []) (pass ∷ []) ds
    (made_more least before (poll ∷ []) ds (All-tail (λ (d : ℕ × ℕ). least ≤ polls before d.0 d.1) d ds made)) in (
      poll_in_range s before d off here,
      (
        pass_in_range s before (least + 1) d here (omega arith) small (omega (arith, enough)),
        frames_follow s least ((before ++ poll ∷ []) ++ pass ∷ []) ds off small (All-tail (IsOpen s) d ds opened) later,
      ),
    )

-- ---- cycles

tick_free : (number turn u : ℕ) → turn < 2 ^ 64 → (1 ≤ u) × (u ≤ 8) × (is_correct (generated_scenario number) u ≡ true)
    → IsFree (generated_scenario number) (events.Tick (node u) turn)
unfolding generated_scenario
tick_free number turn u small is before = record { values = (is.0, is.1, is.2, (omega arith, omega (arith, small), tt)); joined = refl; may = refl }

ticks_free : (number turn : ℕ) → turn < 2 ^ 64 → All (IsFree (generated_scenario number)) (events.Tick (node 1) turn ∷ events.Tick (node 7) turn ∷ [])
unfolding generated_scenario
ticks_free number turn small =
    All-cons (IsFree (generated_scenario number)) (events.Tick (node 1) turn) (events.Tick (node 7) turn ∷ [])
    (tick_free number turn 1 small (leb-true 1 1 refl, leb-true 1 8 refl, refl))
    (All-cons (IsFree (generated_scenario number)) (events.Tick (node 7) turn) [] (tick_free number turn 7 small (leb-true 1 7 refl, leb-true 7 8 refl, refl))
    (All-nil (IsFree (generated_scenario number))))

no_epochs : (number : ℕ) → (generated_scenario number).epochs ≡ false
unfolding generated_scenario
no_epochs number = refl

one_cycle : (number least : ℕ) (before : List Event) → least + 1 < 2 ^ 64 → HaveMade least before directions
    → Follow (generated_scenario number) before (cycle (least + 1))
unfolding cycle
one_cycle number least before small made =
    follow_on (generated_scenario number) before (flat_map (frame (least + 1)) directions)
    (events.Tick (node 1) (least + 1) ∷ events.Tick (node 7) (least + 1) ∷ [])
    (frames_follow (generated_scenario number) least before directions (no_epochs number) small (all_open number) made)
    (follow_free (generated_scenario number) (before ++ flat_map (frame (least + 1)) directions)
    (events.Tick (node 1) (least + 1) ∷ events.Tick (node 7) (least + 1) ∷ []) (ticks_free number (least + 1) small))

-- in a cycle each direction makes one frame
makes_one : (turn : ℕ) → All (λ (d : ℕ × ℕ). polls (cycle turn) d.0 d.1 ≡ 1) directions
unfolding cycle
makes_one turn =
    all_mean (λ d. polls (cycle turn) d.0 d.1 == 1) (λ d. polls (cycle turn) d.0 d.1 ≡ 1) (λ d is. eqb-true (polls (cycle turn) d.0 d.1) 1 is) directions refl

one_more : (least : ℕ) (before made : List Event) (ds : List (ℕ × ℕ)) → HaveMade least before ds → All (λ (d : ℕ × ℕ). polls made d.0 d.1 ≡ 1) ds
    → HaveMade (least + 1) (before ++ made) ds
one_more least before made [] enough one = All-nil (λ (d : ℕ × ℕ). least + 1 ≤ polls (before ++ made) d.0 d.1)
one_more least before made (d ∷ ds) enough one =
    All-cons (λ (d : ℕ × ℕ). least + 1 ≤ polls (before ++ made) d.0 d.1) d ds
    (rw (polls-append before made d.0 d.1, All-head (λ (d : ℕ × ℕ). polls made d.0 d.1 ≡ 1) d ds one)
    (omega (arith, All-head (λ (d : ℕ × ℕ). least ≤ polls before d.0 d.1) d ds enough)))
    (one_more least before made ds (All-tail (λ (d : ℕ × ℕ). least ≤ polls before d.0 d.1) d ds enough)
    (All-tail (λ (d : ℕ × ℕ). polls made d.0 d.1 ≡ 1) d ds one))

pub cycles_follow : (number least count : ℕ) (before : List Event) → least + count < 1000 → HaveMade least before directions
    → Follow (generated_scenario number) before (flat_map cycle (range_with_len (least + 1) count))
cycles_follow number least zero before few made = tt
cycles_follow number least (suc count) before few made =
    follow_on (generated_scenario number) before (cycle (least + 1)) (flat_map cycle (range_with_len (least + 1 + 1) count))
    (one_cycle number least before (omega (arith, few)) made)
    (cycles_follow number (least + 1) count (before ++ cycle (least + 1)) (omega (arith, few))
    (one_more least before (cycle (least + 1)) directions made (makes_one (least + 1))))

-- none is made at first
pub none_made : (before : List Event) → HaveMade 0 before directions
none_made before = none directions
  where
    none : (ds : List (ℕ × ℕ)) → HaveMade 0 before ds
    none [] = All-nil (λ (d : ℕ × ℕ). 0 ≤ polls before d.0 d.1)
    none (d ∷ ds) = All-cons (λ (d : ℕ × ℕ). 0 ≤ polls before d.0 d.1) d ds (omega arith) (none ds)
