-- The schedule of a number is a good one, of 3,975 events.
use Rattle.std.proofs.Common.{◌≡◌, ℕ, zero, suc, ◌+◌, ◌*◌, List, [], ◌∷◌, ◌++◌, length, refl, ap, ap₂, ◌∙◌, arith, replicate, length-append}
use Rattle.std.specs.List.{All, flat_map, range_with_len}
use Rattle.std.proofs.lemmas.Bool.{leb-true}
use Rattle.std.proofs.lemmas.List.Elements.{All-append, All-cons, All-nil}
use Rattle.byteorder.specs.Endian.{big_bytes}
use Rattle.sp_base.proofs.NumberLemmas.{AreBytes-big_bytes}
use Rattle.sp_lines.specs.Cells.{AreSoMany}
use Rattle.sp_schedule.specs.Scenarios.{None_yet}
use Rattle.sp_schedule_events.specs.declared.event.Event.{Event}
use Rattle.sp_schedule_events.specs.declared.event.Event.TheVariants as events
use Rattle.sp_generate.specs.Generated.{both_ways, by_priority, crafted, cycle, generated_events, generated_scenario, hostile, node, payload, takes}
use Rattle.sp_generate.specs.Laws.{GeneratedAreSchedules, GeneratedHaveTheirLength}
use Rattle.sp_generate.proofs.Follows.{Follow, IsFree, all_in_range, follow_free, follow_on}
use Rattle.sp_generate.proofs.HeaderLemmas.{bytes_joined, scenario_is, small}
use Rattle.sp_generate.proofs.Open.{cycles_follow, none_made}

-- ---- how many

length-turns : {X : Type 0} (f : ℕ → List X) (each : ℕ) → ((n : ℕ) → length (f n) ≡ each) → (first count : ℕ)
    → length (flat_map f (range_with_len first count)) ≡ count * each
length-turns f each is first zero = omega arith
length-turns f each is first (suc count) =
    length-append (f first) (flat_map f (range_with_len (first + 1) count))
    ∙ ap₂ (λ (a b : ℕ). a + b) (is first) (length-turns f each is (first + 1) count)
    ∙ more each count
  where
    more : (a b : ℕ) → a + b * a ≡ suc b * a
    more a b = omega arith

length-cycle : (turn : ℕ) → length (cycle turn) ≡ 30
unfolding cycle
length-cycle turn = refl

pub have_their_length : GeneratedHaveTheirLength
unfolding generated_events
have_their_length number =
    let first = flat_map (both_ways number) (range_with_len 1 16) in
    let second = flat_map (by_priority number) (range_with_len 1 4) in
    let cycles = flat_map cycle (range_with_len 1 130) in
    let cycled : length cycles ≡ 3900 = length-turns cycle 30 length-cycle 1 130 in
    let rest : length (cycles ++ takes) ≡ 3932 = length-append cycles takes ∙ ap (λ (n : ℕ). n + 32) cycled in
    length-append first (second ++ (hostile number ++ (cycles ++ takes)))
    ∙ ap (λ (n : ℕ). 32 + n)
    (length-append second (hostile number ++ (cycles ++ takes))
    ∙ ap (λ (n : ℕ). 8 + n) (length-append (hostile number) (cycles ++ takes) ∙ ap (λ (n : ℕ). 3 + n) rest))

-- ---- events that may come anywhere

payload_is : (number turn : ℕ) → AreSoMany 0 1024 (payload number turn)
payload_is number turn =
    (leb-true 0 8 refl, leb-true 8 1024 refl, bytes_joined (big_bytes 4 number) (big_bytes 4 turn) (AreBytes-big_bytes 4 number) (AreBytes-big_bytes 4 turn))

both_free : (number turn : ℕ) → All (IsFree (generated_scenario number)) (both_ways number turn)
unfolding generated_scenario
both_free number turn =
    All-cons (IsFree (generated_scenario number)) (events.Rel (node 1) (node 7) (payload number turn)) (events.Rel (node 7) (node 1) (payload number turn) ∷ [])
    (λ before. record {
      values = (leb-true 1 1 refl, leb-true 1 8 refl, refl, (leb-true 1 7 refl, leb-true 7 8 refl, (payload_is number turn, tt)));
      joined = refl;
      may =
          refl;
    })
    (All-cons (IsFree (generated_scenario number)) (events.Rel (node 7) (node 1) (payload number turn)) []
    (λ before. record {
      values = (leb-true 1 7 refl, leb-true 7 8 refl, refl, (leb-true 1 1 refl, leb-true 1 8 refl, (payload_is number turn, tt)));
      joined = refl;
      may =
          refl;
    })
    (All-nil (IsFree (generated_scenario number))))

-- and by priority
prio_free : (number turn : ℕ) → All (IsFree (generated_scenario number)) (by_priority number turn)
unfolding generated_scenario
prio_free number turn =
    All-cons (IsFree (generated_scenario number)) (events.Prio (node 2) (node 6) 5 1000000 0 (payload number turn))
    (events.Prio (node 1) (node 7) 3 1000000 2 (payload number turn) ∷ [])
    (λ before. record {
      values = (
        leb-true 1 2 refl,
        leb-true 2 8 refl,
        refl,
        (
          leb-true 1 6 refl,
          leb-true 6 8 refl,
          (leb-true 1 5 refl, leb-true 5 10 refl, (omega arith, omega arith, (omega arith, omega arith, (payload_is number turn, tt)))),
        ),
      );
      joined = refl;
      may = refl;
    })
    (All-cons (IsFree (generated_scenario number)) (events.Prio (node 1) (node 7) 3 1000000 2 (payload number turn)) []
    (λ before. record {
      values = (
        leb-true 1 1 refl,
        leb-true 1 8 refl,
        refl,
        (
          leb-true 1 7 refl,
          leb-true 7 8 refl,
          (leb-true 1 3 refl, leb-true 3 10 refl, (omega arith, omega arith, (omega arith, omega arith, (payload_is number turn, tt)))),
        ),
      );
      joined = refl;
      may = refl;
    })
    (All-nil (IsFree (generated_scenario number))))

-- what the compromised nodes send
hostile_free : (number : ℕ) → All (IsFree (generated_scenario number)) (hostile number)
unfolding generated_scenario
hostile_free number =
    All-cons (IsFree (generated_scenario number)) (crafted number 3 4) (crafted number 5 8 ∷ events.Inject (node 8) (node 1) (255 ∷ 255 ∷ []) ∷ [])
    (λ before. record {
      values = (
        leb-true 1 4 refl,
        leb-true 4 8 refl,
        (
          leb-true 1 3 refl,
          leb-true 3 8 refl,
          refl,
          (
            leb-true 1 4 refl,
            leb-true 4 8 refl,
            (leb-true 1 4 refl, leb-true 4 16 refl, (leb-true 1 6 refl, leb-true 6 16 refl, (omega arith, omega arith, (payload_is number 1, tt)))),
          ),
        ),
      );
      joined = refl;
      may = refl;
    })
    (All-cons (IsFree (generated_scenario number)) (crafted number 5 8) (events.Inject (node 8) (node 1) (255 ∷ 255 ∷ []) ∷ [])
    (λ before. record {
      values = (
        leb-true 1 4 refl,
        leb-true 4 8 refl,
        (
          leb-true 1 5 refl,
          leb-true 5 8 refl,
          refl,
          (
            leb-true 1 8 refl,
            leb-true 8 8 refl,
            (leb-true 1 4 refl, leb-true 4 16 refl, (leb-true 1 6 refl, leb-true 6 16 refl, (omega arith, omega arith, (payload_is number 1, tt)))),
          ),
        ),
      );
      joined = refl;
      may = refl;
    })
    (All-cons (IsFree (generated_scenario number)) (events.Inject (node 8) (node 1) (255 ∷ 255 ∷ [])) []
    (λ before. record {
      values = (
        leb-true 1 8 refl,
        leb-true 8 8 refl,
        (leb-true 1 1 refl, leb-true 1 8 refl, refl, ((leb-true 0 2 refl, leb-true 2 65507 refl, small (255 ∷ 255 ∷ []) refl), tt)),
      );
      joined = refl;
      may = refl;
    })
    (All-nil (IsFree (generated_scenario number)))))

same_free : (number count : ℕ) (e : Event) → IsFree (generated_scenario number) e → All (IsFree (generated_scenario number)) (replicate count e)
same_free number zero e free = All-nil (IsFree (generated_scenario number))
same_free number (suc count) e free = All-cons (IsFree (generated_scenario number)) e (replicate count e) free (same_free number count e free)

there : (number : ℕ) → IsFree (generated_scenario number) (events.Take (node 7) (node 1))
unfolding generated_scenario
there number before = record { values = (leb-true 1 7 refl, leb-true 7 8 refl, refl, (leb-true 1 1 refl, leb-true 1 8 refl, tt)); joined = refl; may = refl }

back : (number : ℕ) → IsFree (generated_scenario number) (events.Take (node 1) (node 7))
unfolding generated_scenario
back number before = record { values = (leb-true 1 1 refl, leb-true 1 8 refl, refl, (leb-true 1 7 refl, leb-true 7 8 refl, tt)); joined = refl; may = refl }

takes_free : (number : ℕ) → All (IsFree (generated_scenario number)) takes
takes_free number =
    All-append (IsFree (generated_scenario number)) (replicate 16 (events.Take (node 7) (node 1))) (replicate 16 (events.Take (node 1) (node 7)))
    (same_free number 16 (events.Take (node 7) (node 1)) (there number))
    (same_free number 16 (events.Take (node 1) (node 7)) (back number))

turns_free : (number : ℕ) (f : ℕ → List Event) → ((turn : ℕ) → All (IsFree (generated_scenario number)) (f turn)) → (first count : ℕ)
    → All (IsFree (generated_scenario number)) (flat_map f (range_with_len first count))
turns_free number f free first zero = All-nil (IsFree (generated_scenario number))
turns_free number f free first (suc count) =
    All-append (IsFree (generated_scenario number)) (f first) (flat_map f (range_with_len (first + 1) count)) (free first)
    (turns_free number f free (first + 1) count)

-- ---- all of them

all_follow : (number : ℕ) → Follow (generated_scenario number) [] (generated_events number)
unfolding generated_events
all_follow number =
    let s = generated_scenario number in
    let first = flat_map (both_ways number) (range_with_len 1 16) in
    let second = flat_map (by_priority number) (range_with_len 1 4) in
    let cycles = flat_map cycle (range_with_len 1 130) in
    let end = follow_free s (((first ++ second) ++ hostile number) ++ cycles) takes (takes_free number) in
    let turning = cycles_follow number 0 130 ((first ++ second) ++ hostile number) (leb-true 131 1000 refl) (none_made ((first ++ second) ++ hostile number)) in
    let later = follow_on s ((first ++ second) ++ hostile number) cycles takes turning end in
    let bad = follow_on s (first ++ second) (hostile number) (cycles ++ takes) (follow_free s (first ++ second) (hostile number) (hostile_free number)) later in
    let prio = follow_on s first second (hostile number ++ (cycles ++ takes))
    (follow_free s first second (turns_free number (by_priority number) (prio_free number) 1 4)) bad in
    follow_on s [] first (second ++ (hostile number ++ (cycles ++ takes)))
    (follow_free s [] first (turns_free number (both_ways number) (both_free number) 1 16)) prio

pub are_schedules : GeneratedAreSchedules
are_schedules number = record {
  scenario = scenario_is number;
  events = all_in_range (generated_scenario number) [] (generated_events number) None_yet (all_follow number);
  count = rw (have_their_length number) (leb-true 3975 16384 refl);
}
