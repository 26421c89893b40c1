-- The worked rounds that tell starts are computed, and what is none is refused.
use Rattle.std.proofs.Common.{◌≡◌, ◌<◌, ◌≤◌, ℕ, ◌+◌, ◌*◌, true, false, List, [], ◌∷◌, ◌++◌, refl, Some, get_or, sym, ap, subst, inl, inr, arith}
use Rattle.std.specs.Prelude.{◌&&◌, not}
use Rattle.std.proofs.lemmas.Bool.{cases_Bool}
use Rattle.std.proofs.lemmas.List.Elements.{All-cons, All-head, All-nil, All-tail}
use Rattle.sp_base.specs.declared.id.NodeId.{NodeId}
use Rattle.sp_runs.specs.Rounds.{are_passed, is_pass, is_passed}
use Rattle.sp_runs.specs.Runs.{is_poll, polls}
use Rattle.sp_runs.specs.Worlds.{World, node_in}
use Rattle.sp_rules.specs.Lives.{held_boot}
use Rattle.sp_rules.specs.Node.{NodeState}
use Rattle.sp_schedule_events.specs.declared.event.Event.{Event}
use Rattle.laws_progress.specs.Calm.{KnowEachOther, StaysUpIn}
use Rattle.laws_progress.specs.Telling.{HasSweep, IsTellingRound, None_left, Round, TellingRounds}
use Rattle.laws_progress.specs.Within.{IsPathUnder}
use Rattle.laws_progress.specs.Worked.{line_weights, frames, line_path, node}
use Rattle.laws_progress.specs.WorkedTelling.{TellingIsWorked, booted_at, late_round, row, short_round, starts, telling_round, three_rounds, untold}
use Rattle.laws_progress.proofs.Along.{polls_append}
use Rattle.laws_progress.proofs.Places.{nobody}
use Rattle.laws_progress.proofs.Sweeps.{both, either, no_more, one_more}
use Rattle.laws_progress.proofs.Worked.{sweep, three_path, three_under}

-- ---- a sweep that has all polls of its interval

passed_more : (u v : NodeId) (number : ℕ) (es late : List Event) → is_passed u v number es ≡ true → is_passed u v number (es ++ late) ≡ true
passed_more u v number [] late is = absurd (let f : false ≡ true = is in cc)
passed_more u v number (e ∷ es) late is = elim (either (is_pass u v number e) (not (is_poll u v e) && is_passed u v number es) is) [
  | inl here ↦ rw here refl
  | inr later ↦
      let parts = both (not (is_poll u v e)) (is_passed u v number es) later.1 in
      let rest = passed_more u v number es late parts.1 in
      rw (later.0, parts.0, rest) refl
]

none_passed : (u v : NodeId) (made : ℕ) (es : List Event) → polls es u v ≡ 0 → are_passed u v made es ≡ true
none_passed u v made [] none = refl
none_passed u v made (e ∷ es) none = elim (cases_Bool (is_poll u v e)) [
  | inl t ↦ absurd (let one = one_more u v e es t in omega (arith, one, none))
  | inr t ↦ let same = no_more u v e es t in rw t (none_passed u v made es (omega (arith, same, none)))
]

late_none : (u v : NodeId) (made : ℕ) (es late : List Event) → polls late u v ≡ 0 → are_passed u v made es ≡ true → are_passed u v made (es ++ late) ≡ true
late_none u v made [] late none passed = none_passed u v made late none
late_none u v made (e ∷ es) late none passed = elim (cases_Bool (is_poll u v e)) [
  | inl t ↦
      let parts = both (is_passed u v (made + 1) es) (are_passed u v (made + 1) es) (rw t at passed) in
      let first = passed_more u v (made + 1) es late parts.0 in
      let rest = late_none u v (made + 1) es late none parts.1 in
      rw (t, first, rest) refl
  | inr t ↦ rw t (late_none u v made es late none (rw t at passed))
]

early_none : (u v : NodeId) (made : ℕ) (early es : List Event) → polls early u v ≡ 0 → are_passed u v made es ≡ true → are_passed u v made (early ++ es) ≡ true
early_none u v made [] es none passed = passed
early_none u v made (e ∷ early) es none passed = elim (cases_Bool (is_poll u v e)) [
  | inl t ↦ absurd (let one = one_more u v e early t in omega (arith, one, none))
  | inr t ↦ let same = no_more u v e early t in rw t (early_none u v made early es (omega (arith, same, none)) passed)
]

-- then each of its frames is passed at once
whole : (least : ℕ) (u v : NodeId) (before during : List Event) → HasSweep least u v before during → polls during u v ≤ least
    → (least ≤ polls during u v) × (are_passed u v (polls before u v) during ≡ true)
whole least u v before during h few =
    let count = ap (λ (es : List Event). polls es u v) h.parts in
    let first = polls_append u v h.early (h.sweep ++ h.late) in
    let last = polls_append u v h.sweep h.late in
    let enough = h.is_sweep.enough in
    let early : polls h.early u v ≡ 0 = omega (arith, count, first, last, enough, few) in
    let late : polls h.late u v ≡ 0 = omega (arith, count, first, last, enough, few) in
    let made : polls (before ++ h.early) u v ≡ polls before u v = let p = polls_append u v before h.early in omega (arith, p, early) in
    let passed : are_passed u v (polls before u v) h.sweep ≡ true = rw made at h.is_sweep.passed in (
      omega (arith, count, first, last, enough),
      subst (λ (es : List Event). are_passed u v (polls before u v) es ≡ true) (sym h.parts)
          (early_none u v (polls before u v) h.early (h.sweep ++ h.late) early (late_none u v (polls before u v) h.sweep h.late late passed)),
    )

-- ---- the rounds

abbrev Serves : List Event → List Event → NodeId × NodeId → Type 0
Serves before during hop = HasSweep 3 hop.0 hop.1 before during × HasSweep 3 hop.1 hop.0 before during

-- a round after so many, where the counts before it are these
round_is : (before : List Event) (k : ℕ)
    → are_passed (node 1) (node 2) (polls (before ++ []) (node 1) (node 2)) (frames 1 2 (3 * k) 3) ≡ true
    → are_passed (node 2) (node 1) (polls (before ++ frames 1 2 (3 * k) 3) (node 2) (node 1)) (frames 2 1 (3 * k) 3) ≡ true
    → are_passed (node 3) (node 2) (polls (before ++ (frames 1 2 (3 * k) 3 ++ frames 2 1 (3 * k) 3)) (node 3) (node 2)) (frames 3 2 (3 * k) 3) ≡ true
    → are_passed (node 2) (node 3) (polls (before ++ (frames 1 2 (3 * k) 3 ++ (frames 2 1 (3 * k) 3 ++ frames 3 2 (3 * k) 3))) (node 2) (node 3))
    (frames 2 3 (3 * k) 3) ≡ true
    → IsTellingRound 3 line_path before (telling_round k)
round_is before k one two three four =
    let a = frames 1 2 (3 * k) 3 in
    let b = frames 2 1 (3 * k) 3 in
    let c = frames 3 2 (3 * k) 3 in
    let d = frames 2 3 (3 * k) 3 in
    All-cons (Serves before (telling_round k)) (node 1, node 2) ((node 2, node 3) ∷ []) (
      record { early = []; sweep = a; late = b ++ (c ++ d); parts = refl; is_sweep = sweep 3 (node 1) (node 2) (before ++ []) a refl one },
      record { early = a; sweep = b; late = c ++ d; parts = refl; is_sweep = sweep 3 (node 2) (node 1) (before ++ a) b refl two },
    )
    (All-cons (Serves before (telling_round k)) (node 2, node 3) [] (
      record { early = a ++ (b ++ c); sweep = d; late = []; parts = refl; is_sweep = sweep 3 (node 2) (node 3) (before ++ (a ++ (b ++ c))) d refl four },
      record { early = a ++ b; sweep = c; late = d; parts = refl; is_sweep = sweep 3 (node 3) (node 2) (before ++ (a ++ b)) c refl three },
    )
    (All-nil (Serves before (telling_round k))))

pub rounds_are : TellingRounds 3 line_path 3 starts three_rounds
rounds_are =
    Round [] (telling_round 0) (round_is (starts ++ []) 0 refl refl refl refl)
    (Round [] (telling_round 1) (round_is _ 1 refl refl refl refl)
    (Round [] (telling_round 2) (round_is _ 2 refl refl refl refl) None_left))

-- the nodes of the path
abbrev place : ℕ → NodeId
place i = get_or line_path i nobody

pub row_path : IsPathUnder row line_weights (node 1) (node 3) line_path
row_path = three_under row line_weights 1 2 3
    (three_path row 1 2 3 (λ e. omega (arith, e)) (λ e. omega (arith, e)) (λ e. omega (arith, e)) refl refl refl refl refl) refl refl

-- what is known at a place of another
at_place : (w : World) → KnowEachOther w line_path → (i j : ℕ) → i < 3 → j < 3 → (n m : NodeState) → node_in w.nodes (place i) ≡ Some n
    → node_in w.nodes (place j) ≡ Some m → held_boot n.parts.lives (place j) ≡ m.fixed.boot
at_place w known i j low close n m at_n at_m = known i nobody low j nobody close n m at_n at_m

pub telling_is_worked : TellingIsWorked
telling_is_worked = record {
  path = row_path;
  two_hops = refl;
  three_nodes = refl;
  rounds = rounds_are;
  events = refl;
  polls = refl;
  told = λ arts js more w v one two three n m promise early run under at_one at_two at_three at_n at_m.
      let Up = StaysUpIn w three_rounds in
      let ups = All-cons Up (node 1) (node 2 ∷ node 3 ∷ []) (record { node = one; runs = at_one; stays = refl })
      (All-cons Up (node 2) (node 3 ∷ []) (record { node = two; runs = at_two; stays = refl })
      (All-cons Up (node 3) [] (record { node = three; runs = at_three; stays = refl }) (All-nil Up))) in
      let known = promise starts js w three_rounds more v early run 1 line_weights (node 1) (node 3) line_path row_path under ups 3 (omega arith) rounds_are in
      (at_place v known 2 0 (omega arith) (omega arith) m n at_m at_n, at_place v known 0 2 (omega arith) (omega arith) n m at_n at_m);
  short = λ round.
      let sweeps = All-head (Serves starts short_round) (node 1, node 2) ((node 2, node 3) ∷ []) round in
      let count : polls short_round (node 1) (node 2) ≡ 2 = refl in
      let many = (whole 3 (node 1) (node 2) starts short_round sweeps.0 (omega (arith, count))).0 in
      omega (arith, many, count);
  late = λ round.
      let rest = All-tail (Serves starts late_round) (node 1, node 2) ((node 2, node 3) ∷ []) round in
      let sweeps = All-head (Serves starts late_round) (node 2, node 3) [] rest in
      let count : polls late_round (node 2) (node 3) ≡ 3 = refl in
      let passed : false ≡ true = (whole 3 (node 2) (node 3) starts late_round sweeps.0 (omega (arith, count))).1 in
      cc;
  restarts = λ w up. let e : true ≡ false = up.stays in cc;
  unknown = λ known. let e : ◌≡◌ {A = ℕ} 0 2 = at_place untold known 0 1 (omega arith) (omega arith) (booted_at 1 1) (booted_at 2 2) refl refl in omega
      (arith, e);
}
