-- The worked examples are computed.
use Rattle.std.proofs.Common.{◌≡◌, ℕ, zero, suc, ◌*◌, false, true, List, [], ◌∷◌, ◌++◌, refl, sym, ap, arith, ◌∙◌}
use Rattle.std.specs.Prelude.{◌≢◌, IsTrue}
use Rattle.std.specs.List.{All, AllPairs}
use Rattle.std.proofs.lemmas.List.Elements.{All-cons, All-head, All-nil, All-tail}
use Rattle.sp_base.specs.declared.id.NodeId.{NodeId}
use Rattle.std.proofs.lemmas.List.Folds.{Any-from_list_any}
use Rattle.sp_graph.specs.Walks.{Joined, steps}
use Rattle.sp_topology.specs.Neighbours.{joins}
use Rattle.sp_runs.specs.Paths.{IsCorrectPath, graph_in}
use Rattle.sp_runs.specs.Rounds.{CompleteRounds, IsCompleteRound, IsHopServed, IsSweep, None_left, Round, are_passed}
use Rattle.sp_runs.specs.Runs.{is_hop, polls}
use Rattle.sp_runs.specs.Settings.{Setting, is_correct}
use Rattle.sp_schedule_events.specs.declared.event.Event.{Event}
use Rattle.laws_progress.specs.Worked.{FirstMessage, RoundsAreCounted, first_rounds, four_rounds, frames, later_rounds, line, line_path, line_round}
use Rattle.laws_progress.specs.Worked.{line_weights, node}
use Rattle.laws_progress.specs.Worked.{send, square, square_path, square_round, square_weights, take_it, tick}
use Rattle.laws_progress.specs.Worked.{OnTwoPaths, send_twice, take_on_paths, two_paths, upper_round, upper_rounds}
use Rattle.laws_progress.specs.Within.{HasEdge, IsOpenHop, IsPathUnder}
use Rattle.sp_msg.specs.Masks.{bits}
use Rattle.sp_msg.specs.Views.{names_edge}
use Rattle.sp_msg.specs.declared.mask.Mask.{Mask}
use Rattle.sp_rules.specs.declared.kflow.FlowKind.TheVariants.{Plain, Paths}
use Rattle.sp_rules.specs.declared.kflow.FlowKind.{FlowKind}

-- ---- paths of three nodes

three_pairs : (a b c : NodeId) → a ≢ b → a ≢ c → b ≢ c → AllPairs (λ u v. u ≢ v) (a ∷ b ∷ c ∷ [])
three_pairs a b c ab ac bc zero zero d below within = absurd (omega (arith, below))
three_pairs a b c ab ac bc zero (suc zero) d below within = ab
three_pairs a b c ab ac bc zero (suc (suc zero)) d below within = ac
three_pairs a b c ab ac bc zero (suc (suc (suc j))) d below within = absurd (omega (arith, within))
three_pairs a b c ab ac bc (suc i) zero d below within = absurd (omega (arith, below))
three_pairs a b c ab ac bc (suc zero) (suc zero) d below within = absurd (omega (arith, below))
three_pairs a b c ab ac bc (suc zero) (suc (suc zero)) d below within = bc
three_pairs a b c ab ac bc (suc (suc i)) (suc zero) d below within = absurd (omega (arith, below))
three_pairs a b c ab ac bc (suc (suc i)) (suc (suc zero)) d below within = absurd (omega (arith, below))
three_pairs a b c ab ac bc (suc i) (suc (suc (suc j))) d below within = absurd (omega (arith, within))

differ : (a b : ℕ) → (a ≡ b → ⊥) → node a ≢ node b
differ a b other = λ same. other (ap (λ (n : NodeId). n.0) same)

pub three_path : (x : Setting) (a b c : ℕ) → (a ≡ b → ⊥) → (a ≡ c → ⊥) → (b ≡ c → ⊥) → is_correct x (node a) ≡ true → is_correct x (node b) ≡ true
    → is_correct x (node c) ≡ true
    → is_hop x (node a) (node b) ≡ true → is_hop x (node b) (node c) ≡ true → IsCorrectPath x (node a) (node c) (node a ∷ node b ∷ node c ∷ [])
three_path x a b c ab ac bc one two three first second =
    let Correct = λ (u : NodeId). IsTrue (is_correct x u) in
    let On = Joined (graph_in x) in
    record {
      walks = record {
        ends = (node b ∷ [], refl);
        joined = All-cons On (node a, node b) ((node b, node c) ∷ []) (Any-from_list_any (joins a b) x.topology.edges first)
            (All-cons On (node b, node c) [] (Any-from_list_any (joins b c) x.topology.edges second) (All-nil On));
        once = three_pairs (node a) (node b) (node c) (differ a b ab) (differ a c ac) (differ b c bc);
      };
      correct = All-cons Correct (node a) (node b ∷ node c ∷ []) one
          (All-cons Correct (node b) (node c ∷ []) two (All-cons Correct (node c) [] three (All-nil Correct)));
    }

-- and one of a version
pub three_under : (x : Setting) (weights : List ℕ) (a b c : ℕ) → IsCorrectPath x (node a) (node c) (node a ∷ node b ∷ node c ∷ [])
    → IsOpenHop x weights (node a, node b) → IsOpenHop x weights (node b, node c) → IsPathUnder x weights (node a) (node c) (node a ∷ node b ∷ node c ∷ [])
three_under x weights a b c walks first second =
    let Open = IsOpenHop x weights in
    record {
      walks = walks;
      open_hops = All-cons Open (node a, node b) ((node b, node c) ∷ []) first (All-cons Open (node b, node c) [] second (All-nil Open));
    }

-- ---- rounds of a path of three nodes

pub sweep : (least : ℕ) (u v : NodeId) (before during : List Event) → polls during u v ≡ least → are_passed u v (polls before u v) during ≡ true
    → IsSweep least u v before during
sweep least u v before during enough passed = record { enough = omega (arith, enough); passed = passed }

two_hops : (kind : FlowKind) (least : ℕ) (s d a b c : NodeId) (before during : List Event) → IsHopServed kind least s d a b before during
    → IsHopServed kind least s d b c before during
    → IsCompleteRound kind least s d (a ∷ b ∷ c ∷ []) before during
two_hops kind least s d a b c before during one two =
    let Served = λ (hop : NodeId × NodeId). IsHopServed kind least s d hop.0 hop.1 before during in
    All-cons Served (a, b) ((b, c) ∷ []) one (All-cons Served (b, c) [] two (All-nil Served))

-- a round after so many, where the counts before it are these
pub line_is : (before : List Event) (k : ℕ)
    → are_passed (node 2) (node 1) (polls (before ++ []) (node 2) (node 1)) (frames 2 1 k 1) ≡ true
    → are_passed (node 1) (node 2) (polls (before ++ frames 2 1 k 1) (node 1) (node 2)) (frames 1 2 k 1) ≡ true
    → are_passed (node 3) (node 2) (polls (before ++ (frames 2 1 k 1 ++ frames 1 2 k 1)) (node 3) (node 2)) (frames 3 2 k 1) ≡ true
    → are_passed (node 2) (node 3) (polls (before ++ ((frames 2 1 k 1 ++ frames 1 2 k 1) ++ (frames 3 2 k 1 ++ take_it))) (node 2) (node 3)) (frames 2 3 k 1)
    ≡ true
    → IsCompleteRound Plain 1 (node 1) (node 3) line_path before (line_round k)
line_is before k one two three four = two_hops Plain 1 (node 1) (node 3) (node 1) (node 2) (node 3) before (line_round k)
    (record {
      early = [];
      back = frames 2 1 k 1;
      between = [];
      forth = frames 1 2 k 1;
      late = frames 3 2 k 1 ++ (take_it ++ frames 2 3 k 1);
      parts = refl;
      is_back = sweep 1 (node 2) (node 1) (before ++ []) (frames 2 1 k 1) refl one;
      is_forth = sweep 1 (node 1) (node 2) (before ++ frames 2 1 k 1) (frames 1 2 k 1) refl two;
      take = λ same. absurd (differ 2 3 (λ e. omega (arith, e)) same);
    })
    (record {
      early = frames 2 1 k 1 ++ frames 1 2 k 1;
      back = frames 3 2 k 1;
      between = take_it;
      forth = frames 2 3 k 1;
      late = [];
      parts = refl;
      is_back = sweep 1 (node 3) (node 2) (before ++ (frames 2 1 k 1 ++ frames 1 2 k 1)) (frames 3 2 k 1) refl three;
      is_forth = sweep 1 (node 2) (node 3) (before ++ ((frames 2 1 k 1 ++ frames 1 2 k 1) ++ (frames 3 2 k 1 ++ take_it))) (frames 2 3 k 1) refl four;
      take = λ same. refl;
    })

first_are : CompleteRounds Plain 1 (node 1) (node 3) line_path 4 send first_rounds
first_are =
    Round [] (line_round 0) (line_is (send ++ []) 0 refl refl refl refl)
    (Round [] (line_round 1) (line_is _ 1 refl refl refl refl)
    (Round [] (line_round 2) (line_is _ 2 refl refl refl refl)
    (Round [] (line_round 3) (line_is _ 3 refl refl refl refl) None_left)))

later_are : CompleteRounds Plain 1 (node 1) (node 3) line_path 3 (send ++ (first_rounds ++ tick)) later_rounds
later_are =
    Round [] (line_round 4) (line_is ((send ++ (first_rounds ++ tick)) ++ []) 4 refl refl refl refl)
    (Round [] (line_round 5) (line_is _ 5 refl refl refl refl)
    (Round [] (line_round 6) (line_is _ 6 refl refl refl refl) None_left))

line_is_path : IsCorrectPath line (node 1) (node 3) line_path
line_is_path = three_path line 1 2 3 (λ e. omega (arith, e)) (λ e. omega (arith, e)) (λ e. omega (arith, e)) refl refl refl refl refl

line_under : IsPathUnder line line_weights (node 1) (node 3) line_path
line_under = three_under line line_weights 1 2 3 line_is_path refl refl

first_message : FirstMessage
first_message = record {
  path = line_under;
  two_hops = refl;
  one_flow = refl;
  there = first_are;
  is_delivered = λ arts js more w v n promise early run under at has.
      let it =
      promise Plain send js w first_rounds more v early run 1 line_weights (node 1) (node 3) line_path line_under under n at tt 1 1 (omega arith) has
      (omega arith) 1
      (omega arith)
      first_are in
      (it.payload, it.sent.there, it.delivered.there);
  back = later_are;
  has_returned = λ arts js more w v n promise early run under at is.
      let before = send ++ (first_rounds ++ tick) in
      let it = promise Plain before js w later_rounds more v early run 1 line_weights (node 1) (node 3) line_path line_under under n at 1 (omega arith)
      later_are in
      (omega (arith, it.base, is), λ low. it.room (omega (arith, low, is)));
}

-- a round after so many, where the counts before it are these
square_is : (before : List Event) (k : ℕ)
    → are_passed (node 4) (node 1) (polls (before ++ []) (node 4) (node 1)) (frames 4 1 (7 * k) 7) ≡ true
    → are_passed (node 1) (node 4) (polls (before ++ frames 4 1 (7 * k) 7) (node 1) (node 4)) (frames 1 4 (7 * k) 7) ≡ true
    → are_passed (node 3) (node 4) (polls (before ++ (frames 4 1 (7 * k) 7 ++ frames 1 4 (7 * k) 7)) (node 3) (node 4)) (frames 3 4 (7 * k) 7) ≡ true
    → are_passed (node 4) (node 3) (polls (before ++ ((frames 4 1 (7 * k) 7 ++ frames 1 4 (7 * k) 7) ++ (frames 3 4 (7 * k) 7 ++ take_it))) (node 4) (node 3))
    (frames 4 3 (7 * k) 7) ≡ true
    → IsCompleteRound Plain 7 (node 1) (node 3) square_path before (square_round k)
square_is before k one two three four = two_hops Plain 7 (node 1) (node 3) (node 1) (node 4) (node 3) before (square_round k)
    (record {
      early = [];
      back = frames 4 1 (7 * k) 7;
      between = [];
      forth = frames 1 4 (7 * k) 7;
      late = frames 3 4 (7 * k) 7 ++ (take_it ++ frames 4 3 (7 * k) 7);
      parts = refl;
      is_back = sweep 7 (node 4) (node 1) (before ++ []) (frames 4 1 (7 * k) 7) refl one;
      is_forth = sweep 7 (node 1) (node 4) (before ++ frames 4 1 (7 * k) 7) (frames 1 4 (7 * k) 7) refl two;
      take = λ same. absurd (differ 4 3 (λ e. omega (arith, e)) same);
    })
    (record {
      early = frames 4 1 (7 * k) 7 ++ frames 1 4 (7 * k) 7;
      back = frames 3 4 (7 * k) 7;
      between = take_it;
      forth = frames 4 3 (7 * k) 7;
      late = [];
      parts = refl;
      is_back = sweep 7 (node 3) (node 4) (before ++ (frames 4 1 (7 * k) 7 ++ frames 1 4 (7 * k) 7)) (frames 3 4 (7 * k) 7) refl three;
      is_forth = sweep 7 (node 4) (node 3) (before ++ ((frames 4 1 (7 * k) 7 ++ frames 1 4 (7 * k) 7) ++ (frames 3 4 (7 * k) 7 ++ take_it)))
          (frames 4 3 (7 * k) 7) refl four;
      take = λ same. refl;
    })

four_are : CompleteRounds Plain 7 (node 1) (node 3) square_path 4 send four_rounds
four_are =
    Round [] (square_round 0) (square_is (send ++ []) 0 refl refl refl refl)
    (Round [] (square_round 1) (square_is _ 1 refl refl refl refl)
    (Round [] (square_round 2) (square_is _ 2 refl refl refl refl)
    (Round [] (square_round 3) (square_is _ 3 refl refl refl refl) None_left)))

square_is_path : IsCorrectPath square (node 1) (node 3) square_path
square_is_path = three_path square 1 4 3 (λ e. omega (arith, e)) (λ e. omega (arith, e)) (λ e. omega (arith, e)) refl refl refl refl refl

square_under : (weights : List ℕ) → IsOpenHop square weights (node 1, node 4) → IsOpenHop square weights (node 4, node 3)
    → IsPathUnder square weights (node 1) (node 3) square_path
square_under weights first second = three_under square weights 1 4 3 square_is_path first second

-- ---- a message on two paths

upper_is : (before : List Event) (k : ℕ)
    → are_passed (node 4) (node 1) (polls (before ++ []) (node 4) (node 1)) (frames 4 1 k 1) ≡ true
    → are_passed (node 1) (node 4) (polls (before ++ frames 4 1 k 1) (node 1) (node 4)) (frames 1 4 k 1) ≡ true
    → are_passed (node 3) (node 4) (polls (before ++ (frames 4 1 k 1 ++ frames 1 4 k 1)) (node 3) (node 4)) (frames 3 4 k 1) ≡ true
    → are_passed (node 4) (node 3) (polls (before ++ ((frames 4 1 k 1 ++ frames 1 4 k 1) ++ (frames 3 4 k 1 ++ take_on_paths))) (node 4) (node 3))
    (frames 4 3 k 1) ≡ true
    → IsCompleteRound Paths 1 (node 1) (node 3) square_path before (upper_round k)
upper_is before k one two three four = two_hops Paths 1 (node 1) (node 3) (node 1) (node 4) (node 3) before (upper_round k)
    (record {
      early = [];
      back = frames 4 1 k 1;
      between = [];
      forth = frames 1 4 k 1;
      late = frames 3 4 k 1 ++ (take_on_paths ++ frames 4 3 k 1);
      parts = refl;
      is_back = sweep 1 (node 4) (node 1) (before ++ []) (frames 4 1 k 1) refl one;
      is_forth = sweep 1 (node 1) (node 4) (before ++ frames 4 1 k 1) (frames 1 4 k 1) refl two;
      take = λ same. absurd (differ 4 3 (λ e. omega (arith, e)) same);
    })
    (record {
      early = frames 4 1 k 1 ++ frames 1 4 k 1;
      back = frames 3 4 k 1;
      between = take_on_paths;
      forth = frames 4 3 k 1;
      late = [];
      parts = refl;
      is_back = sweep 1 (node 3) (node 4) (before ++ (frames 4 1 k 1 ++ frames 1 4 k 1)) (frames 3 4 k 1) refl three;
      is_forth = sweep 1 (node 4) (node 3) (before ++ ((frames 4 1 k 1 ++ frames 1 4 k 1) ++ (frames 3 4 k 1 ++ take_on_paths))) (frames 4 3 k 1) refl four;
      take = λ same. refl;
    })

upper_are : CompleteRounds Paths 1 (node 1) (node 3) square_path 4 send_twice upper_rounds
upper_are =
    Round [] (upper_round 0) (upper_is (send_twice ++ []) 0 refl refl refl refl)
    (Round [] (upper_round 1) (upper_is _ 1 refl refl refl refl)
    (Round [] (upper_round 2) (upper_is _ 2 refl refl refl refl)
    (Round [] (upper_round 3) (upper_is _ 3 refl refl refl refl) None_left)))

upper_under : IsPathUnder two_paths square_weights (node 1) (node 3) square_path
upper_under =
    three_under two_paths square_weights 1 4 3
    (three_path two_paths 1 4 3 (λ e. omega (arith, e)) (λ e. omega (arith, e)) (λ e. omega (arith, e)) refl refl refl refl refl) refl refl

all_edges : (mask : Mask) → bits mask ≡ 15 → All (HasEdge two_paths mask) (steps square_path)
all_edges mask is =
    let Has = HasEdge two_paths mask in
    All-cons Has (node 1, node 4) ((node 4, node 3) ∷ []) (ap (λ m. names_edge m 1) is)
    (All-cons Has (node 4, node 3) [] (ap (λ m. names_edge m 3) is) (All-nil Has))

on_paths : OnTwoPaths
on_paths = record {
  path = upper_under;
  one_flow = refl;
  rounds = upper_are;
  silent = refl;
  both_paths = all_edges;
  other_path = λ mask is has.
      let Has = HasEdge two_paths mask in
      let first : names_edge (bits mask) 1 ≡ true = All-head Has (node 1, node 4) ((node 4, node 3) ∷ []) has in
      (let f : true ≡ false = sym first ∙ ap (λ m. names_edge m 1) is in cc);
  is_delivered = λ arts js more w v n promise early run under at waits has.
      let it =
      promise Paths send_twice js w upper_rounds more v early run 1 square_weights (node 1) (node 3) square_path upper_under under n at
      (λ mask is. all_edges mask (waits mask is)) 1 1 (omega arith) has (omega arith) 1 (omega arith) upper_are in
      (it.payload, it.sent.there, it.delivered.there);
}

pub rounds_are_counted : RoundsAreCounted
rounds_are_counted = record {
  first_message = first_message;
  compromised = record {
    path = square_under square_weights refl refl;
    two_hops = refl;
    seven_flows = refl;
    rounds = four_are;
    is_delivered = λ arts js more w v n promise early run under at has.
        let it =
        promise Plain send js w four_rounds more v early run 1 square_weights (node 1) (node 3) square_path (square_under square_weights refl refl) under n at
        tt 1 1
        (omega arith) has (omega arith) 7
        (omega arith) four_are in
        (it.payload, it.sent.there, it.delivered.there);
    events = refl;
    frames = refl;
  };
  on_paths = on_paths;
  version = record {
    left = square_under (0 ∷ 10 ∷ 0 ∷ 10 ∷ []) refl refl;
    first_hop = λ is.
        let Open = IsOpenHop line (0 ∷ 10 ∷ []) in
        (let f : true ≡ false = All-head Open (node 1, node 2) ((node 2, node 3) ∷ []) is.open_hops in cc);
    last_hop = λ is.
        let Open = IsOpenHop line (10 ∷ 0 ∷ []) in
        (let f : true ≡ false = All-head Open (node 2, node 3) [] (All-tail Open (node 1, node 2) ((node 2, node 3) ∷ []) is.open_hops) in cc);
  };
  stays = record {
    rounds = refl;
    crafted = refl;
    handed = refl;
    published = λ stays. some stays;
    published_late = λ stays. some stays;
    published_between = λ stays. some stays;
  };
}
  where
    some : {X : Type 0} {z : X} {zs : List X} → z ∷ zs ≡ [] → ⊥
    some e = cc
