-- What a round of a path does to the numbers of a flow: the law on rounds with nothing of the system in it.
use Rattle.std.specs.Prelude.{ℕ, zero, suc, ◌+◌, ◌<◌, ◌≤◌, min}
use Rattle.std.proofs.Common.{◌≡◌, ℕ, zero, suc, ◌+◌, ◌-◌, ◌≤◌, min, inl, inr, arith}
use Rattle.std.proofs.lemmas.Bool.{cases_lt}

-- where a flow stands at each place of a path, the source at place 0
pub record Numbers : Type 0 where
  pub base : ℕ → ℕ
  pub have : ℕ → ℕ

-- what is acknowledged is had
abbrev pub AreSound : ℕ → Numbers → Type 0
AreSound h x = (i : ℕ) → i ≤ h → x.base i ≤ x.have i

-- nothing falls
pub record IsLater (h : ℕ) (old new : Numbers) : Type 0 where
  pub base : (i : ℕ) → i ≤ h → old.base i ≤ new.base i
  pub have : (i : ℕ) → i ≤ h → old.have i ≤ new.have i

-- what a round of a path with h hops leaves, where the ends of each hop knew each other's boot. Only messages above low, up to high, are sure to go on
pub record IsRound (h low high : ℕ) (old new : Numbers) : Type 0 where
  pub sound : AreSound h new
  pub later : IsLater h old new
  -- acknowledgements go on, and so does the next message
  pub base_on : (i : ℕ) → i < h → old.base i ≤ new.base (suc i)
  pub have_on : (i : ℕ) → i < h → low ≤ old.base i → min (min high (old.have i)) (old.have (suc i) + 1) ≤ new.have (suc i)
  -- acknowledgements come back
  pub base_back : (i : ℕ) → i < h → old.base (suc i) ≤ new.base i

-- so many rounds lead from old to new
pub data Rounds (h low high : ℕ) : ℕ → Numbers → Numbers → Type 0 where
  Begun : {x : Numbers} → Rounds h low high zero x x
  Then : {n : ℕ} {x y z : Numbers} → Rounds h low high n x y → IsRound h low high y z → Rounds h low high (suc n) x z

-- A number up to high that the source has, at most b above low, is had at the end of the path after h + b rounds, where the source's base is at low.
abbrev pub ArrivesLaw : Type 0
ArrivesLaw = (h low high b q : ℕ) (x y : Numbers) → AreSound h x → q ≤ x.have 0 → low ≤ x.base 0 → q ≤ high → q ≤ low + b
    → Rounds h low high (h + b) x y → q ≤ y.have h

-- A number that is acknowledged at the end of the path is acknowledged at the source after h rounds.
abbrev pub ReturnsLaw : Type 0
ReturnsLaw = (h low high a : ℕ) (x y : Numbers) → a ≤ x.base h → Rounds h low high h x y → a ≤ y.base 0

-- ---- the proofs

-- how far a number has come after t rounds
pub record Reached (h low q t : ℕ) (x : Numbers) : Type 0 where
  pub base : (i : ℕ) → i ≤ h → i ≤ t → low ≤ x.base i
  pub have : (i : ℕ) → i ≤ h → i ≤ t → min q (low + (t - i)) ≤ x.have i

base_then : (h low high q t : ℕ) (x y : Numbers) → Reached h low q t x → IsRound h low high x y → (i : ℕ) → i ≤ h → i ≤ suc t → low ≤ y.base i
base_then h low high q t x y r z zero within now = let old = r.base 0 within (omega arith) in let up = z.later.base 0 within in omega (arith, old, up)
base_then h low high q t x y r z (suc j) within now =
    let old = r.base j (omega (arith, within)) (omega (arith, now)) in
    let up = z.base_on j (omega (arith, within)) in
    omega (arith, old, up)

have_then : (h low high q t : ℕ) (x y : Numbers) → q ≤ high → q ≤ y.have 0 → Reached h low q t x → IsRound h low high x y → (i : ℕ) → i ≤ h → i ≤ suc t
    → min q (low + (suc t - i)) ≤ y.have i
have_then h low high q t x y top first r z zero within now = omega (arith, first)
have_then h low high q t x y top first r z (suc j) within now =
    let fore = r.have j (omega (arith, within)) (omega (arith, now)) in
    let base = base_then h low high q t x y r z (suc j) within now in
    let on = z.have_on j (omega (arith, within)) (r.base j (omega (arith, within)) (omega (arith, now))) in
    let sound = z.sound (suc j) within in
    elim (cases_lt t (suc j)) [
      | inl gt ↦ omega (arith, gt, now, base, sound)
      | inr le ↦ let here = r.have (suc j) within le in omega (arith, fore, on, here, le, top)
    ]

reached : (h low high q n : ℕ) (x y : Numbers) → AreSound h x → q ≤ high → q ≤ x.have 0 → low ≤ x.base 0 → Rounds h low high n x y
    → (q ≤ y.have 0) × Reached h low q n y
reached h low high q zero x y sound top first base Begun = (
  first,
  record {
    base = λ i within now. let z : i ≡ 0 = omega (arith, now) in rw z base;
    have = λ i within now. let z : i ≡ 0 = omega (arith, now) in let s = sound 0 (omega arith) in rw z (omega (arith, s, base));
  },
)
reached h low high q (suc n) x z sound top first base (Then {y} rounds round) =
    let old = reached h low high q n x y sound top first base rounds in
    let up = round.later.have 0 (omega arith) in
    let more : q ≤ z.have 0 = omega (arith, old.0, up) in
    (more, record { base = base_then h low high q n y z old.1 round; have = have_then h low high q n y z top more old.1 round })

pub arrives : ArrivesLaw
arrives h low high b q x y sound first base top near rounds =
    let r = reached h low high q (h + b) x y sound top first base rounds in
    let it = r.1.have h (omega arith) (omega arith) in
    omega (arith, it, near)

-- the way back: after t rounds the place i has base at least a where i + t is at least h
back : (h low high a n : ℕ) (x y : Numbers) → a ≤ x.base h → Rounds h low high n x y → (i : ℕ) → i ≤ h → h ≤ i + n → a ≤ y.base i
back h low high a zero x y has Begun i within near = let z : i ≡ h = omega (arith, within, near) in rw z has
back h low high a (suc n) x z has (Then {y} rounds round) i within near =
    elim (cases_lt i h) [
      | inl lt ↦ let old = back h low high a n x y has rounds (suc i) (omega (arith, lt)) (omega (arith, near)) in let on = round.base_back i lt in
          omega (arith, old, on)
      | inr ge ↦ let old = back h low high a n x y has rounds i within (omega (arith, ge)) in let on = round.later.base i within in omega (arith, old, on)
    ]

pub returns : ReturnsLaw
returns h low high a x y has rounds = back h low high a h x y has rounds 0 (omega arith) (omega arith)
