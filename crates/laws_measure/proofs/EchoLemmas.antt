-- The answer to an echo that the other end made.
use Rattle.std.proofs.Common.{◌≡◌, ◌≤◌, ℕ, ◌+◌, ◌==◌, ◌&&◌, Bool, true, false, cond, List, [], ◌∷◌, Option, Some, None, refl, sym, ap, ◌∙◌, arith, nat_lt}
use Rattle.std.proofs.Common.{nat_eq}
use Rattle.std.specs.Prelude.{is_some}
use Rattle.std.specs.Cmp.Lexicographic.{pointwise}
use Rattle.std.proofs.lemmas.Bool.{eq-eqb, eqb-true}
use Rattle.std.proofs.lemmas.Bool.Decides.{nat_tests}
use Rattle.sp_frame.specs.declared.probe.Probe.{Probe}
use Rattle.sp_measure.specs.Costs.{cost_at}
use Rattle.sp_measure.specs.Meters.{MeterState, after_probe, judge_echo, judge_open, judge_probe, probe_taken}
use Rattle.sp_measure.specs.Proofs.{Hashes, Sender, is_proof, nonces, proof_of}
use Rattle.sp_measure.specs.declared.answers.EchoAnswer.{EchoAnswer}
use Rattle.sp_measure.specs.declared.answers.EchoAnswer.TheVariants as echoes
use Rattle.sp_measure.specs.declared.answers.ProbeAnswer.{ProbeAnswer}
use Rattle.sp_measure.specs.declared.answers.ProbeAnswer.TheVariants as probes
use Rattle.sp_measure.specs.declared.opening.Opening.{Opening}
use Rattle.laws_measure.specs.Ends.{End, echo_met}
use Rattle.laws_measure.proofs.EndLemmas.{Sound}

-- a list is the same as itself
same_bytes : (xs : List ℕ) → pointwise nat_eq xs xs ≡ true
same_bytes [] = refl
same_bytes (x ∷ xs) = rw (eq-eqb x x refl, same_bytes xs) refl

-- ---- by cases: which probe is open, if one is

-- the answer by what is open
pub judged : Hashes → MeterState → Probe → Option Opening → ℕ → EchoAnswer
judged h m p o now =
    cond (p.echo == 0) echoes.Nothing (cond (nat_lt p.echo (cond (is_some o) m.number (m.number + 1))) echoes.Old (judge_open h m p o now))

late_bad : (h : Hashes) (m : MeterState) (p : Probe) (o : Option Opening) (now : ℕ) → p.echo ≤ m.number → (p.echo ≡ m.number
    → is_proof h m.sender m.number p.proof ≡ true)
    → cond (nat_lt p.echo (cond (is_some o) m.number (m.number + 1))) echoes.Old (judge_open h m p o now) ≡ echoes.Bad → ⊥
late_bad h m p None now low proof bad =
    let below : nat_lt p.echo (m.number + 1) ≡ true = grind (arith, nat_tests) in
    let clash : echoes.Old ≡ echoes.Bad = rw below at bad in
    cc
late_bad h m p (Some o) now low proof bad = at_open (nat_lt p.echo m.number) refl bad
  where
    at_open : (t : Bool) → nat_lt p.echo m.number ≡ t
        → cond t echoes.Old (cond ((p.echo == m.number) && is_proof h m.sender m.number p.proof) (echoes.New m.number (cost_at o now)) echoes.Bad)
        ≡ echoes.Bad → ⊥
    at_open true is b = absurd (cc)
    at_open false is b =
        let same : p.echo ≡ m.number = grind (arith, nat_tests) in
        let clash : echoes.New m.number (cost_at o now) ≡ echoes.Bad = rw (eq-eqb p.echo m.number same, proof same) at b in
        cc

judged_bad : (h : Hashes) (m : MeterState) (p : Probe) (o : Option Opening) (now : ℕ) → p.echo ≤ m.number → (p.echo ≡ m.number
    → is_proof h m.sender m.number p.proof ≡ true)
    → judged h m p o now ≡ echoes.Bad → ⊥
unfolding judged
judged_bad h m p o now low proof bad = zero (p.echo == 0) bad
  where
    zero : (t : Bool)
        → cond t echoes.Nothing (cond (nat_lt p.echo (cond (is_some o) m.number (m.number + 1))) echoes.Old (judge_open h m p o now)) ≡ echoes.Bad → ⊥
    zero true b = absurd (cc)
    zero false b = late_bad h m p o now low proof b

open_new : (h : Hashes) (m : MeterState) (p : Probe) (o : Option Opening) (now n c : ℕ) → judge_open h m p o now ≡ echoes.New n c
    → (p.echo ≡ m.number) × (m.number ≡ n)
open_new h m p None now n c new = absurd (cc)
open_new h m p (Some o) now n c new = last ((p.echo == m.number) && is_proof h m.sender m.number p.proof) refl new
  where
    first_true : (a b : Bool) → (a && b) ≡ true → a ≡ true
    first_true true b e = refl
    first_true false b e = absurd (cc)

    last : (t : Bool) → ((p.echo == m.number) && is_proof h m.sender m.number p.proof) ≡ t
        → cond t (echoes.New m.number (cost_at o now)) echoes.Bad ≡ echoes.New n c → (p.echo ≡ m.number) × (m.number ≡ n)
    last true is b =
        let same : m.number ≡ n = cc in
        (eqb-true p.echo m.number (first_true (p.echo == m.number) (is_proof h m.sender m.number p.proof) is), same)
    last false is b = absurd (cc)

judged_new : (h : Hashes) (m : MeterState) (p : Probe) (o : Option Opening) (now n c : ℕ) → judged h m p o now ≡ echoes.New n c
    → (p.echo ≡ m.number) × (m.number ≡ n)
unfolding judged
judged_new h m p o now n c new = zero (p.echo == 0) new
  where
    old : (t : Bool) → cond t echoes.Old (judge_open h m p o now) ≡ echoes.New n c → (p.echo ≡ m.number) × (m.number ≡ n)
    old true b = absurd (cc)
    old false b = open_new h m p o now n c b

    zero : (t : Bool)
        → cond t echoes.Nothing (cond (nat_lt p.echo (cond (is_some o) m.number (m.number + 1))) echoes.Old (judge_open h m p o now))
        ≡ echoes.New n c → (p.echo ≡ m.number) × (m.number ≡ n)
    zero true b = absurd (cc)
    zero false b = old (nat_lt p.echo (cond (is_some o) m.number (m.number + 1))) b

-- ---- of a meter

never_bad : (h : Hashes) (m : MeterState) (p : Probe) (now : ℕ) → p.echo ≤ m.number → p.proof ≡ proof_of h (nonces h m.sender p.echo)
    → judge_echo h m p now ≡ echoes.Bad → ⊥
unfolding judged
never_bad h m p now low proof bad =
    judged_bad h m p m.opening now low
    (λ same. ap (λ (xs : List ℕ). pointwise nat_eq xs (proof_of h (nonces h m.sender m.number))) (proof ∙ ap (λ (k : ℕ). proof_of h (nonces h m.sender k)) same)
    ∙ same_bytes (proof_of h (nonces h m.sender m.number))) bad

-- a new echo's number is that of the open probe, and of its answer
pub new_is_its : (h : Hashes) (m : MeterState) (p : Probe) (now n c : ℕ) → judge_echo h m p now ≡ echoes.New n c → (p.echo ≡ m.number) × (m.number ≡ n)
unfolding judged
new_is_its h m p now n c new = judged_new h m p m.opening now n c new

-- what the probe of the same part left
probed_keeps : (h : Hashes) (m : MeterState) (p : Probe) → ((after_probe h m p).sender ≡ m.sender) × ((after_probe h m p).number ≡ m.number)
probed_keeps h m p = go (judge_probe m p)
  where
    go : (a : ProbeAnswer) → ((probe_taken h m p a).sender ≡ m.sender) × ((probe_taken h m p a).number ≡ m.number)
    go probes.New = (refl, refl)
    go probes.Nothing = (refl, refl)
    go probes.Old = (refl, refl)
    go probes.Gap = (refl, refl)

-- the echo of a part that its maker made isn't bad
pub met_never_bad : (h : Hashes) (mine theirs : Sender) (made taken now : ℕ) (p : Probe) (e : End) → e.meter.sender ≡ mine → taken ≤ e.meter.number
    → Sound h theirs mine made taken p → echo_met h now p e ≡ echoes.Bad → ⊥
met_never_bad h mine theirs made taken now p e sender low s bad =
    let k = probed_keeps h e.meter p in
    never_bad h (after_probe h e.meter p) p now (omega (arith, k.1, s.echo, low))
    (s.proof ∙ ap (λ (x : Sender). proof_of h (nonces h x p.echo)) (sym (k.0 ∙ sender))) bad
