use Rattle.std.proofs.Common.{◌≡◌, ◌≤◌, ◌+◌, ◌-◌, ℕ, suc, List, [], ◌++◌, arith, length, length-append, length-drop, drop, replicate, take, take-add, sym, ap}
use Rattle.std.proofs.Common.{subst, ◌∙◌}
use Rattle.sp_base.specs.declared.limits.TheConstants.{MAX_EVENTS}
use Rattle.sp_rules.specs.declared.kflow.FlowKind.TheVariants.{Plain}
use Rattle.sp_runs.specs.Rounds.{CompleteRounds, None_left}
use Rattle.sp_schedule_events.specs.declared.event.Event.{Event}
use Rattle.sp_audit.specs.Ends.{AreMade}
use Rattle.sp_audit.proofs.Greedy.{not_empty, round_back, round_on}
use Rattle.sp_audit.proofs.MadeLemmas.{none_made}
use Rattle.sp_audit.proofs.Walks.{take_drop}
use Rattle.sp_audit.proofs.counted.count_rounds.Goals as goal

pub returns-then-events-at-clause-counted : goal.returns-then-events-at-clause-counted
returns-then-events-at-clause-counted c =
    let same : c.rounds.round + 0 ≡ c.rounds.round = omega arith in
    subst (λ (n : ℕ). CompleteRounds Plain c.args.least c.args.flow.src c.args.flow.dst c.args.path.now n (take c.args.from c.args.events.now)
    (drop c.args.from c.args.events.now)) same
    (c.rounds.invariant.on 0 None_left)

pub returns-then-events-at-clause-no_more : goal.returns-then-events-at-clause-no_more
returns-then-events-at-clause-no_more c = λ rounds.
    let last = round_back c.args.least c.args.flow.src c.args.flow.dst c.args.path.now c.args.events.now c.rounds.at c.round_end-end.result 0
    c.round_end-end.ensures (c.rounds.invariant.back 1 rounds) in
    let long = length-drop c.rounds.at c.args.events.now in
    absurd (omega (arith, last.0, long, c.if-events-at.true))

-- the events before a round and those of it
up_to : (es : List Event) (at end : ℕ) → take at es ++ take (at + end - at) (drop at es) ≡ take (at + end) es
up_to es at end =
    let same : at + end - at ≡ end = omega arith in
    ap (λ (n : ℕ). take at es ++ take n (drop at es)) same ∙ sym (take-add at end es)

few : (es : List Event) (at end : ℕ) → length es ≤ MAX_EVENTS → length (take at es) + length (take (at + end - at) (drop at es)) ≤ MAX_EVENTS
few es at end most =
    let both = length-append (take at es) (take (at + end - at) (drop at es)) in
    let same = ap (λ (xs : List Event). length xs) (up_to es at end) in
    let all = ap (λ (xs : List Event). length xs) (take_drop es (at + end)) in
    let sum = length-append (take (at + end) es) (drop (at + end) es) in
    omega (arith, both, same, all, sum, most)

pub rounds-init : goal.rounds-init
rounds-init c =
    let es = c.args.events.now in
    let path = c.args.path.now in
    let none : AreMade c.none-made.result.forth c.none-made.result.back path [] =
    subst (λ (fs : List ℕ). AreMade fs c.none-made.result.back path []) (sym c.none-made.ensures.forth)
    (subst (λ (bs : List ℕ). AreMade (replicate 256 0) bs path []) (sym c.none-made.ensures.back) (none_made path)) in
    let counted = λ (n : ℕ). CompleteRounds Plain c.args.least c.args.flow.src c.args.flow.dst path n (take c.args.from es) (drop c.args.from es) in
    record {
      there = c.requires.there;
      past = omega arith;
      made = c.count.ensures [] (front_few es c.args.from c.requires.few) none;
      on = λ n rounds. subst counted (plus n) rounds;
      back = λ n rounds. subst counted (sym (plus n)) rounds;
    }
  where
    plus : (n : ℕ) → n ≡ 0 + n
    plus n = omega arith

    front_few : (es : List Event) (from : ℕ) → length es ≤ MAX_EVENTS → 0 + length (take from es) ≤ MAX_EVENTS
    front_few es from most =
        let all = ap (λ (xs : List Event). length xs) (take_drop es from) in
        let sum = length-append (take from es) (drop from es) in
        omega (arith, all, sum, most)

pub rounds-preserved : goal.rounds-preserved
rounds-preserved c =
    let s = c.args.flow.src in
    let d = c.args.flow.dst in
    let es = c.args.events.now in
    let at = c.rounds.at in
    let end = c.round_end-end.result in
    let long = length-drop at es in
    let some = not_empty c.args.least s d c.args.path.now (take at es) (drop at es) end c.requires.some c.requires.hops c.round_end-end.ensures in
    let within : end ≤ length (drop at es) = omega (arith, long, c.if-events-at.false, c.rounds.invariant.there) in
    let next = λ (n : ℕ). step c.rounds.round n in
    let counted = λ (n : ℕ). CompleteRounds Plain c.args.least s d c.args.path.now n (take c.args.from es) (drop c.args.from es) in
    record {
      there = omega (arith, long, within, c.rounds.invariant.there);
      past = omega (arith, some, c.rounds.invariant.past);
      made = subst (AreMade c.count-in-rounds.new.self.forth c.count-in-rounds.new.self.back c.args.path.now) (up_to es at end)
          (c.count-in-rounds.ensures (take at es) (few es at end c.requires.few) c.rounds.invariant.made);
      on = λ n rounds. subst counted (next n)
          (c.rounds.invariant.on (suc n) (round_on c.args.least s d c.args.path.now es at end n c.round_end-end.ensures within rounds));
      back = λ n rounds.
          (round_back c.args.least s d c.args.path.now es at end n c.round_end-end.ensures
          (c.rounds.invariant.back (suc n) (subst counted (sym (next n)) rounds))).1;
    }
  where
    step : (round n : ℕ) → round + suc n ≡ round + 1 + n
    step round n = omega arith
