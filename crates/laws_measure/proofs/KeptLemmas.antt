-- What each end keeps of its own, whatever happens: its costs, its publications and its openings.
use Rattle.std.proofs.Common.{◌≡◌, ◌≤◌, ℕ, ◌+◌, Bool, true, false, cond, List, [], ◌∷◌, ◌++◌, length, Option, Some, None, refl, sym, ap, ◌∙◌, arith}
use Rattle.std.proofs.Common.{length-append}
use Rattle.std.specs.Prelude.{is_some, slice_get}
use Rattle.std.proofs.lemmas.List.{append-nil}
use Rattle.sp_base.specs.declared.id.NodeId.{NodeId}
use Rattle.sp_frame.specs.declared.probe.Probe.{Probe}
use Rattle.sp_measure.specs.Costs.{last_of, with_cost}
use Rattle.sp_measure.specs.Meters.{MeterState, after_probe, due_weight, echo_taken, has_rested, judge_probe, one_more_frame, opened, probe_of, probe_taken}
use Rattle.sp_measure.specs.Proofs.{Hashes, Sender}
use Rattle.sp_measure.specs.declared.answers.EchoAnswer.{EchoAnswer}
use Rattle.sp_measure.specs.declared.answers.EchoAnswer.TheVariants as echoes
use Rattle.sp_measure.specs.declared.answers.ProbeAnswer.{ProbeAnswer}
use Rattle.sp_measure.specs.declared.answers.ProbeAnswer.TheVariants as probes
use Rattle.sp_measure.specs.declared.opening.Opening.{Opening}
use Rattle.sp_measure.specs.declared.weight.TheConstants.{WEIGHED_COSTS}
use Rattle.laws_measure.specs.Ends.{End, Ends, Move, Makes, Meets, Ticks, after, at_start, cost_told, echo_met, end_of, made_at, met_where, moved, new_end}
use Rattle.laws_measure.specs.Ends.{published_where, sender_at, ticked}
use Rattle.laws_measure.specs.Laws.{AreApart}
use Rattle.laws_measure.proofs.CostLemmas.{due_facts, last_more, rested_is}

abbrev pub last_time : List ℕ → Option ℕ
last_time [] = None
last_time (last ∷ times) = Some last

-- a meter beside how many frames were made, the costs that were measured, and the times of publications
pub record IsBeside (interval : ℕ) (m : MeterState) (frames_made : ℕ) (measured times : List ℕ) : Type 0 where
  pub costs : m.costs ≡ last_of WEIGHED_COSTS measured
  pub last : m.published ≡ last_time times
  pub apart : AreApart interval times
  pub number : m.number ≤ frames_made
  pub frames : (o : Opening) → m.opening ≡ Some o → o.frames ≤ frames_made

-- an end keeps what it tells
abbrev pub IsKept : ℕ → End → Type 0
IsKept interval e = IsBeside interval e.meter (length e.made) e.costs e.published

new_is_kept : (interval : ℕ) (s : Sender) → IsKept interval (new_end s)
new_is_kept interval s = record { costs = refl; last = refl; apart = tt; number = omega arith; frames = λ o is. absurd (cc) }

-- ---- a frame is made

one_more : (m : MeterState) (old : Option Opening) (now n : ℕ) → m.opening ≡ old → ((o : Opening) → m.opening ≡ Some o → o.frames ≤ n)
    → (o : Opening) → Some (one_more_frame old now) ≡ Some o → o.frames ≤ n + 1
one_more m None now n is frames o same =
    let here : record { since = now; frames = 1 } ≡ o = cc in
    let one : o.frames ≡ 1 = sym (ap (λ (x : Opening). x.frames) here) in
    omega (arith, one)
one_more m (Some old) now n is frames o same =
    let here : record old { frames = old.frames + 1 } ≡ o = cc in
    let one : o.frames ≡ old.frames + 1 = sym (ap (λ (x : Opening). x.frames) here) in
    omega (arith, one, frames old is)

next_number : (o : Option Opening) (number n : ℕ) → number ≤ n → cond (is_some o) number (number + 1) ≤ n + 1
next_number None number n low = omega (arith, low)
next_number (Some o) number n low = omega (arith, low)

made_is_kept : (interval : ℕ) (h : Hashes) (now : ℕ) (e : End) → IsKept interval e → IsKept interval (made_at h now e)
made_is_kept interval h now e is =
    let n : length (made_at h now e).made ≡ length e.made + 1 = length-append e.made (probe_of h (opened e.meter now) ∷ []) in
    record {
      costs = is.costs;
      last = is.last;
      apart = is.apart;
      number = omega (arith, n, next_number e.meter.opening e.meter.number (length e.made) is.number);
      frames = λ o same. omega (arith, n, one_more e.meter e.meter.opening now (length e.made) refl is.frames o same);
    }

-- ---- a frame arrives

probe_is_kept : (interval made : ℕ) (costs times : List ℕ) (h : Hashes) (m : MeterState) (p : Probe) (a : ProbeAnswer) → IsBeside interval m made costs times
    → IsBeside interval (probe_taken h m p a) made costs times
probe_is_kept interval made costs times h m p probes.New is =
    record { costs = is.costs; last = is.last; apart = is.apart; number = is.number; frames = is.frames }
probe_is_kept interval made costs times h m p probes.Nothing is = is
probe_is_kept interval made costs times h m p probes.Old is = is
probe_is_kept interval made costs times h m p probes.Gap is = is

none_told : (interval made : ℕ) (costs times : List ℕ) (m : MeterState) → IsBeside interval m made costs times → IsBeside interval m made (costs ++ []) times
none_told interval made costs times m is =
    record { costs = is.costs ∙ ap (last_of WEIGHED_COSTS) (sym (append-nil costs)); last = is.last; apart = is.apart; number = is.number; frames = is.frames }

echo_is_kept : (interval made : ℕ) (costs times : List ℕ) (m : MeterState) (a : EchoAnswer) → IsBeside interval m made costs times
    → IsBeside interval (echo_taken m a) made (costs ++ cost_told a) times
echo_is_kept interval made costs times m (echoes.New number cost) is = record {
  costs = ap (λ (xs : List ℕ). with_cost xs cost) is.costs ∙ last_more WEIGHED_COSTS costs cost;
  last = is.last;
  apart = is.apart;
  number = is.number;
  frames = λ o same. absurd (cc);
}
echo_is_kept interval made costs times m echoes.Nothing is = none_told interval made costs times m is
echo_is_kept interval made costs times m echoes.Old is = none_told interval made costs times m is
echo_is_kept interval made costs times m echoes.Bad is = none_told interval made costs times m is

met_is_kept : (interval : ℕ) (h : Hashes) (now : ℕ) (o : Option Probe) (e : End) → IsKept interval e → IsKept interval (met_where h now o e)
met_is_kept interval h now None e is = is
met_is_kept interval h now (Some p) e is =
    echo_is_kept interval (length e.made) e.costs e.published (after_probe h e.meter p) (echo_met h now p e)
    (probe_is_kept interval (length e.made) e.costs e.published h e.meter p (judge_probe e.meter p) is)

-- ---- a weight is published

one_more_time : (interval now : ℕ) (times : List ℕ) → has_rested (last_time times) now interval ≡ true → AreApart interval times
    → AreApart interval (now ∷ times)
one_more_time interval now [] rested apart = tt
one_more_time interval now (last ∷ times) rested apart = (rested_is last now interval rested, apart)

tick_is_kept : (interval minimum held now : ℕ) (e : End) → IsKept interval e → IsKept interval (ticked minimum held now interval e)
tick_is_kept interval minimum held now e is = go (due_weight e.meter minimum held now interval) refl
  where
    go : (due : Option ℕ) → due_weight e.meter minimum held now interval ≡ due → IsKept interval (published_where now due e)
    go None due = is
    go (Some weight) due =
        let rested = (due_facts e.meter minimum held now interval weight due).rested in
        record {
          costs = is.costs;
          last = refl;
          apart = one_more_time interval now e.published (ap (λ (o : Option ℕ). has_rested o now interval) (sym is.last) ∙ rested) is.apart;
          number = is.number;
          frames = is.frames;
        }

-- ---- whatever happens

record AreKept (interval : ℕ) (w : Ends) : Type 0 where
  one : IsKept interval w.one
  two : IsKept interval w.two

move_is_kept : (interval : ℕ) (h : Hashes) (w : Ends) (m : Move) → AreKept interval w → AreKept interval (moved h interval w m)
move_is_kept interval h w (Makes true now) is = record { one = made_is_kept interval h now w.one is.one; two = is.two }
move_is_kept interval h w (Makes false now) is = record { one = is.one; two = made_is_kept interval h now w.two is.two }
move_is_kept interval h w (Meets true place now) is =
    record { one = met_is_kept interval h now (slice_get w.two.made place) w.one is.one; two = is.two }
move_is_kept interval h w (Meets false place now) is =
    record { one = is.one; two = met_is_kept interval h now (slice_get w.one.made place) w.two is.two }
move_is_kept interval h w (Ticks true minimum held now) is = record { one = tick_is_kept interval minimum held now w.one is.one; two = is.two }
move_is_kept interval h w (Ticks false minimum held now) is = record { one = is.one; two = tick_is_kept interval minimum held now w.two is.two }

moves_are_kept : (interval : ℕ) (h : Hashes) (w : Ends) (moves : List Move) → AreKept interval w → AreKept interval (after h interval w moves)
moves_are_kept interval h w [] is = is
moves_are_kept interval h w (m ∷ moves) is = moves_are_kept interval h (moved h interval w m) moves (move_is_kept interval h w m is)

-- so it is of each end after any moves from the start
pub each_is_kept : (h : Hashes) (key : List ℕ) (u v : NodeId) (b c interval : ℕ) (moves : List Move) (first : Bool)
    → IsKept interval (end_of first (after h interval (at_start key u v b c) moves))
each_is_kept h key u v b c interval moves first = go first
  where
    kept : AreKept interval (after h interval (at_start key u v b c) moves)
    kept = moves_are_kept interval h (at_start key u v b c) moves
        (record { one = new_is_kept interval (sender_at key u b); two = new_is_kept interval (sender_at key v c) })

    go : (first : Bool) → IsKept interval (end_of first (after h interval (at_start key u v b c) moves))
    go true = kept.one
    go false = kept.two
