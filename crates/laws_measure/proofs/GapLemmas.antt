-- An end opens its next probe once the other took the one before, so no probe leaves a gap.
use Rattle.std.proofs.Common.{◌≡◌, ◌≤◌, ℕ, ◌+◌, ◌==◌, Bool, true, false, not, cond, List, [], ◌∷◌, Option, Some, None, refl, ap, ◌∙◌, arith, nat_le}
use Rattle.std.specs.Prelude.{is_some, slice_get}
use Rattle.std.proofs.lemmas.Bool.Decides.{nat_tests}
use Rattle.sp_base.specs.declared.id.NodeId.{NodeId}
use Rattle.sp_frame.specs.declared.probe.Probe.{Probe}
use Rattle.sp_measure.specs.Meters.{MeterState, after_probe, due_weight, echo_taken, judge_echo, judge_probe, open_number, probe_taken}
use Rattle.sp_measure.specs.Proofs.{Hashes, Sender}
use Rattle.sp_measure.specs.declared.answers.EchoAnswer.{EchoAnswer}
use Rattle.sp_measure.specs.declared.answers.EchoAnswer.TheVariants as echoes
use Rattle.sp_measure.specs.declared.answers.ProbeAnswer.{ProbeAnswer}
use Rattle.sp_measure.specs.declared.answers.ProbeAnswer.TheVariants as probes
use Rattle.sp_measure.specs.declared.opening.Opening.{Opening}
use Rattle.laws_measure.specs.Ends.{End, Ends, Move, Makes, Meets, Ticks, after, at_start, end_of, met, met_where, moved, published_where, sender_at}
use Rattle.laws_measure.proofs.EchoLemmas.{new_is_its}
use Rattle.laws_measure.proofs.EndLemmas.{Both, EndIs, Sound, both_move, end_is_new, made_there, new_probe}

-- ---- a frame arrives

-- a probe leaves what is open, and what was taken is no less
record IsAfterProbe (m n : MeterState) : Type 0 where
  number : n.number ≡ m.number
  opening : n.opening ≡ m.opening
  taken : m.taken ≤ n.taken

probe_leaves : (h : Hashes) (m : MeterState) (p : Probe) (a : ProbeAnswer) → (a ≡ probes.New → p.number ≡ m.taken + 1) → IsAfterProbe m (probe_taken h m p a)
probe_leaves h m p probes.New next = let is : p.number ≡ m.taken + 1 = next refl in record { number = refl; opening = refl; taken = omega (arith, is) }
probe_leaves h m p probes.Nothing next = record { number = refl; opening = refl; taken = omega arith }
probe_leaves h m p probes.Old next = record { number = refl; opening = refl; taken = omega arith }
probe_leaves h m p probes.Gap next = record { number = refl; opening = refl; taken = omega arith }

-- where an echo closes the open probe its number was taken
echo_leaves : (m : MeterState) (a : EchoAnswer) (echo taken : ℕ) → ((n c : ℕ) → a ≡ echoes.New n c → echo ≡ m.number) → echo ≤ taken
    → open_number m ≤ taken + 1 → (open_number (echo_taken m a) ≤ taken + 1) × ((echo_taken m a).taken ≡ m.taken)
echo_leaves m (echoes.New n c) echo taken its low is = let same : echo ≡ m.number = its n c refl in (omega (arith, same, low), refl)
echo_leaves m echoes.Nothing echo taken its low is = (is, refl)
echo_leaves m echoes.Old echo taken its low is = (is, refl)
echo_leaves m echoes.Bad echo taken its low is = (is, refl)

meets : (h : Hashes) (mine theirs : Sender) (top taken now : ℕ) (p : Probe) (e : End) → Sound h theirs mine top taken p → open_number e.meter ≤ taken + 1
    → (open_number (met h now p e).meter ≤ taken + 1) × (e.meter.taken ≤ (met h now p e).meter.taken)
meets h mine theirs top taken now p e sound is =
    let m = after_probe h e.meter p in
    let left = probe_leaves h e.meter p (judge_probe e.meter p) (new_probe e.meter p) in
    let same : open_number m ≡ open_number e.meter =
    ap (λ (o : Option Opening). cond (is_some o) m.number (m.number + 1)) left.opening
    ∙ ap (λ (n : ℕ). cond (is_some e.meter.opening) n (n + 1)) left.number in
    let last = echo_leaves m (judge_echo h m p now) p.echo taken (λ n c new. (new_is_its h m p now n c new).0) sound.echo (omega (arith, same, is)) in
    (last.0, omega (arith, last.1, left.taken))

-- ---- both ends

-- each end's open number is at most the one after those that the other took
record ArePaced (h : Hashes) (s t : Sender) (w : Ends) : Type 0 where
  both : Both h s t w
  one : open_number w.one.meter ≤ w.two.meter.taken + 1
  two : open_number w.two.meter ≤ w.one.meter.taken + 1

tick_leaves : (now : ℕ) (due : Option ℕ) (e : End)
    → (open_number (published_where now due e).meter ≡ open_number e.meter) × ((published_where now due e).meter.taken ≡ e.meter.taken)
tick_leaves now None e = (refl, refl)
tick_leaves now (Some weight) e = (refl, refl)

paced_move : (h : Hashes) (interval : ℕ) (s t : Sender) (w : Ends) (m : Move) → ArePaced h s t w → ArePaced h s t (moved h interval w m)
paced_move h interval s t w (Makes true now) is = record { both = both_move h interval s t w (Makes true now) is.both; one = is.one; two = is.two }
paced_move h interval s t w (Makes false now) is = record { both = both_move h interval s t w (Makes false now) is.both; one = is.one; two = is.two }
paced_move h interval s t w (Meets true place now) is = go (slice_get w.two.made place) refl (both_move h interval s t w (Meets true place now) is.both)
  where
    go : (o : Option Probe) → slice_get w.two.made place ≡ o → Both h s t (record w { one = met_where h now o w.one })
        → ArePaced h s t (record w { one = met_where h now o w.one })
    go None there both = is
    go (Some p) there both =
        let sound = made_there h t s w.one.meter.number w.two place p is.both.two there in
        let left = meets h s t w.two.meter.number w.two.meter.taken now p w.one sound is.one in
        record { both = both; one = left.0; two = omega (arith, is.two, left.1) }
paced_move h interval s t w (Meets false place now) is = go (slice_get w.one.made place) refl (both_move h interval s t w (Meets false place now) is.both)
  where
    go : (o : Option Probe) → slice_get w.one.made place ≡ o → Both h s t (record w { two = met_where h now o w.two })
        → ArePaced h s t (record w { two = met_where h now o w.two })
    go None there both = is
    go (Some p) there both =
        let sound = made_there h s t w.two.meter.number w.one place p is.both.one there in
        let left = meets h t s w.one.meter.number w.one.meter.taken now p w.two sound is.two in
        record { both = both; one = omega (arith, is.one, left.1); two = left.0 }
paced_move h interval s t w (Ticks true minimum held now) is =
    let left = tick_leaves now (due_weight w.one.meter minimum held now interval) w.one in
    record { both = both_move h interval s t w (Ticks true minimum held now) is.both; one = omega (arith, is.one, left.0); two = omega (arith, is.two, left.1) }
paced_move h interval s t w (Ticks false minimum held now) is =
    let left = tick_leaves now (due_weight w.two.meter minimum held now interval) w.two in
    record {
      both = both_move h interval s t w (Ticks false minimum held now) is.both;
      one = omega (arith, is.one, left.1);
      two = omega (arith, is.two, left.0);
    }

paced_after : (h : Hashes) (interval : ℕ) (s t : Sender) (w : Ends) (moves : List Move) → ArePaced h s t w → ArePaced h s t (after h interval w moves)
paced_after h interval s t w [] is = is
paced_after h interval s t w (m ∷ moves) is = paced_after h interval s t (moved h interval w m) moves (paced_move h interval s t w m is)

paced_ends : (h : Hashes) (key : List ℕ) (u v : NodeId) (b c interval : ℕ) (moves : List Move)
    → ArePaced h (sender_at key u b) (sender_at key v c) (after h interval (at_start key u v b c) moves)
paced_ends h key u v b c interval moves =
    let s = sender_at key u b in
    let t = sender_at key v c in
    paced_after h interval s t (at_start key u v b c) moves
    (record { both = record { one = end_is_new h s t; two = end_is_new h t s }; one = omega arith; two = omega arith })

-- ---- so there is no gap

within_open : (o : Option Opening) (number : ℕ) → number ≤ cond (is_some o) number (number + 1)
within_open None number = omega arith
within_open (Some o) number = omega arith

not_gap : (number taken : ℕ) → number ≤ taken + 1
    → cond (number == 0) probes.Nothing (cond (nat_le number taken) probes.Old (cond (number == taken + 1) probes.New probes.Gap)) ≡ probes.Gap → ⊥
not_gap number taken low gap = zero (number == 0) gap
  where
    next : (a b : Bool) → nat_le number taken ≡ a → (number == taken + 1) ≡ b → cond a probes.Old (cond b probes.New probes.Gap) ≡ probes.Gap → ⊥
    next true b taken_is is e = absurd (cc)
    next false true taken_is is e = absurd (cc)
    next false false taken_is is e = grind (arith, nat_tests)

    zero : (t : Bool) → cond t probes.Nothing (cond (nat_le number taken) probes.Old (cond (number == taken + 1) probes.New probes.Gap)) ≡ probes.Gap → ⊥
    zero true e = absurd (cc)
    zero false e = next (nat_le number taken) (number == taken + 1) refl refl e

no_gap : (h : Hashes) (mine theirs : Sender) (this that : End) (place : ℕ) (p : Probe) → EndIs h theirs mine this.meter.number that
    → open_number that.meter ≤ this.meter.taken + 1 → slice_get that.made place ≡ Some p → judge_probe this.meter p ≡ probes.Gap → ⊥
no_gap h mine theirs this that place p there paced is gap =
    let part = made_there h theirs mine this.meter.number that place p there is in
    not_gap p.number this.meter.taken (omega (arith, part.number, within_open that.meter.opening that.meter.number, paced)) gap

pub no_gap_at : (h : Hashes) (key : List ℕ) (u v : NodeId) (b c interval : ℕ) (moves : List Move) (first : Bool) (place : ℕ) (p : Probe)
    → slice_get (end_of (not first) (after h interval (at_start key u v b c) moves)).made place ≡ Some p
    → judge_probe (end_of first (after h interval (at_start key u v b c) moves)).meter p ≡ probes.Gap → ⊥
no_gap_at h key u v b c interval moves true place p is gap =
    let w : Ends = after h interval (at_start key u v b c) moves in
    let paced = paced_ends h key u v b c interval moves in
    no_gap h (sender_at key u b) (sender_at key v c) w.one w.two place p paced.both.two paced.two is gap
no_gap_at h key u v b c interval moves false place p is gap =
    let w : Ends = after h interval (at_start key u v b c) moves in
    let paced = paced_ends h key u v b c interval moves in
    no_gap h (sender_at key v c) (sender_at key u b) w.two w.one place p paced.both.one paced.one is gap
