-- Progress along a path: what is accepted at its source is had at its end after hops plus buffered messages plus one rounds.
use Rattle.std.proofs.Common.{◌≡◌, ℕ, zero, suc, ◌+◌, ◌<◌, ◌≤◌, true, List, ◌++◌, length, get_or, Some, arith}
use Rattle.sp_base.specs.declared.id.NodeId.{NodeId}
use Rattle.std.specs.Prelude.{slice_get}
use Rattle.std.proofs.lemmas.Option.{slice_get-get_or, get_or_from_slice_get}
use Rattle.sp_schedule_events.specs.declared.event.Event.{Event}
use Rattle.laws_progress.proofs.Numbers.{Numbers, IsRound, Rounds, Begun, Then}
use Rattle.sp_runs.specs.Rounds.{IsCompleteRound, IsHopServed, CompleteRounds, None_left, Round}
use Rattle.laws_progress.proofs.Facts.{Goes, Sight, Facts}
use Rattle.laws_progress.proofs.Places.{hop_at, nobody}
use Rattle.laws_progress.proofs.Numbers.{arrives, returns}
use Rattle.laws_progress.proofs.Sweeps.{joined, apart, rises, stays}
use Rattle.laws_progress.proofs.Along.{AreCounted, counted_on, HopRound, hop_round, hop_known}
use Rattle.laws_progress.proofs.Facts.{AreHops, AreInner}

-- the numbers of a flow at the places of a path
abbrev pub numbers : (W : Type 0) → Sight W → List NodeId → W → Numbers
numbers W at path w = record { base = λ i. at.base w (get_or path i nobody); have = λ i. at.have w (get_or path i nobody) }

-- the ends of each hop know each other's boot
abbrev pub AreKnown : (W : Type 0) → Sight W → List NodeId → W → Type 0
AreKnown W at path w = (i : ℕ) (u v : NodeId) → slice_get path i ≡ Some u → slice_get path (suc i) ≡ Some v → (at.knows w u v ≡ true) × (at.knows w v u ≡ true)

known_on : (W : Type 0) (Next : W → Event → W → Type 0) (Hop : NodeId → NodeId → Type 0) (at : Sight W) (place bound least : ℕ) (s d : NodeId)
    → Facts W Next Hop at place bound least s d
    → (path : List NodeId) → AreHops Hop path → (es : List Event) (w y : W) → Goes W Next w es y → AreKnown W at path w → AreKnown W at path y
known_on W Next Hop at place bound least s d facts path hops es w y g known = λ i u v a b.
    let k = known i u v a b in
    let h = hops i u v a b in (
      stays W Next (λ x. at.knows x u v) (λ p q e n. facts.known p q e u v h.0 n) es w y g k.0,
      stays W Next (λ x. at.knows x v u) (λ p q e n. facts.known p q e v u h.1 n) es w y g k.1,
    )

-- a complete round is a round of the numbers
one_round : (W : Type 0) (Next : W → Event → W → Type 0) (Hop : NodeId → NodeId → Type 0) (at : Sight W) (place bound least : ℕ) (s d : NodeId)
    → Facts W Next Hop at place bound least s d → 1 ≤ least
    → (path : List NodeId) (h : ℕ) → AreHops Hop path → AreInner d path h → length path ≡ suc h → (before gap during : List Event) (w x y : W)
    → Goes W Next w gap x → Goes W Next x during y → AreCounted W at Hop (before ++ gap) x
    → AreKnown W at path x → IsCompleteRound at.kind least s d path (before ++ gap) during
    → IsRound h at.low at.high (numbers W at path w) (numbers W at path y)
one_round W Next Hop at place bound least s d facts one path h hops inner long before gap during w x y to_x to_y counted known round =
    let all = joined W Next gap during w x y to_x to_y in
    let hop : (i : ℕ) → i < h → HopRound W at (get_or path i nobody) (get_or path (suc i) nobody) x y = λ i lt.
    let a = slice_get-get_or path i nobody (omega (arith, lt, long)) in
    let b = slice_get-get_or path (suc i) nobody (omega (arith, lt, long)) in
    let both = hops i _ _ a b in
    let k = known i _ _ a b in
    hop_round W Next Hop at place bound least s d facts (get_or path i nobody) (get_or path (suc i) nobody) both.0 both.1 (inner i lt) (before ++ gap) during x
    y to_y counted one (hop_at (λ u v. IsHopServed at.kind least s d u v (before ++ gap) during) path round i _ _ a b) k.0 k.1 in
    let base = λ (u : NodeId). rises W Next (λ z. at.base z u) (λ p q e n. facts.base_rises p q e u n) gap w x to_x in
    let have = λ (u : NodeId). rises W Next (λ z. at.have z u) (λ p q e n. facts.have_rises p q e u n) gap w x to_x in
    record {
      sound = λ i le. facts.sound y (get_or path i nobody);
      later = record {
        base = λ i le. rises W Next (λ z. at.base z (get_or path i nobody)) (λ p q e n. facts.base_rises p q e (get_or path i nobody) n) (gap ++ during) w y
            all;
        have = λ i le. rises W Next (λ z. at.have z (get_or path i nobody)) (λ p q e n. facts.have_rises p q e (get_or path i nobody) n) (gap ++ during) w y
            all;
      };
      base_on = λ i lt. let r = (hop i lt).base_on in let b = base (get_or path i nobody) in omega (arith, r, b);
      have_on = λ i lt ready. let r = (hop i lt).have_on (let b = base (get_or path i nobody) in omega (arith, ready, b)) in let a = have (get_or path i nobody)
          in let b = have (get_or path (suc i) nobody) in
          omega (arith, r, a, b);
      base_back = λ i lt. let r = (hop i lt).base_back in let b = base (get_or path (suc i) nobody) in omega (arith, r, b);
    }

first_then : (h low high n : ℕ) (x y z : Numbers) → IsRound h low high x y → Rounds h low high n y z → Rounds h low high (suc n) x z
first_then h low high zero x y z r Begun = Then Begun r
first_then h low high (suc n) x y z r (Then {y = m} rs last) = Then (first_then h low high n x y m r rs) last

-- where complete rounds lead, and what is left of the events
pub record After (W : Type 0) (Next : W → Event → W → Type 0) (at : Sight W) (path : List NodeId) (h n : ℕ) (w y : W) : Type 0 where
  pub there : W
  pub rest : List Event
  pub rounds : Rounds h at.low at.high n (numbers W at path w) (numbers W at path there)
  pub then_ : Goes W Next there rest y

pub all_rounds : (W : Type 0) (Next : W → Event → W → Type 0) (Hop : NodeId → NodeId → Type 0) (at : Sight W) (place bound least : ℕ) (s d : NodeId)
    → Facts W Next Hop at place bound least s d → 1 ≤ least
    → (path : List NodeId) (h : ℕ) → AreHops Hop path → AreInner d path h → length path ≡ suc h → (n : ℕ) (before after : List Event) (w y : W)
    → Goes W Next w after y → AreCounted W at Hop before w
    → AreKnown W at path w → CompleteRounds at.kind least s d path n before after → After W Next at path h n w y
all_rounds W Next Hop at place bound least s d facts one path h hops inner long zero before after w y g counted known None_left =
    record { there = w; rest = after; rounds = Begun; then_ = g }
all_rounds W Next Hop at place bound least s d facts one path h hops inner long (suc n) before all w y g counted known
    (Round gap during {after = after} round rounds) =
    let p = apart W Next gap (during ++ after) w y g in
    let q = apart W Next during after p.mid y p.then_ in
    let c = counted_on W Next Hop at place bound least s d facts before gap w p.mid p.first counted in
    let both = joined W Next gap during w p.mid q.mid p.first q.first in
    let c2 = counted_on W Next Hop at place bound least s d facts before (gap ++ during) w q.mid both counted in
    let k = known_on W Next Hop at place bound least s d facts path hops gap w p.mid p.first known in
    let k2 = known_on W Next Hop at place bound least s d facts path hops during p.mid q.mid q.first k in
    let r = one_round W Next Hop at place bound least s d facts one path h hops inner long before gap during w p.mid q.mid p.first q.first c k round in
    let rest = all_rounds W Next Hop at place bound least s d facts one path h hops inner long n (before ++ (gap ++ during)) after q.mid y q.then_ c2 k2
    rounds in
    record { there = rest.there; rest = rest.rest; rounds = first_then h at.low at.high n _ _ _ r rest.rounds; then_ = rest.then_ }

-- the first round makes the boots known
pub record First (W : Type 0) (Next : W → Event → W → Type 0) (Hop : NodeId → NodeId → Type 0) (at : Sight W) (least : ℕ) (s d : NodeId) (path : List NodeId)
    (n : ℕ) (w y : W) : Type 0 where
  pub there : W
  pub before : List Event
  pub events : List Event
  pub rest : List Event
  pub first : Goes W Next w events there
  pub then_ : Goes W Next there rest y
  pub counted : AreCounted W at Hop before there
  pub known : AreKnown W at path there
  pub rounds : CompleteRounds at.kind least s d path n before rest

pub first_round : (W : Type 0) (Next : W → Event → W → Type 0) (Hop : NodeId → NodeId → Type 0) (at : Sight W) (place bound least : ℕ) (s d : NodeId)
    → Facts W Next Hop at place bound least s d → 1 ≤ least
    → (path : List NodeId) → AreHops Hop path → (n : ℕ) (before after : List Event) (w y : W) → Goes W Next w after y → AreCounted W at Hop before w
    → CompleteRounds at.kind least s d path (suc n) before after → First W Next Hop at least s d path n w y
first_round W Next Hop at place bound least s d facts one path hops n before all w y g counted (Round gap during {after = after} round rounds) =
    let p = apart W Next gap (during ++ after) w y g in
    let q = apart W Next during after p.mid y p.then_ in
    let c = counted_on W Next Hop at place bound least s d facts before gap w p.mid p.first counted in
    let both = joined W Next gap during w p.mid q.mid p.first q.first in
    let c2 = counted_on W Next Hop at place bound least s d facts before (gap ++ during) w q.mid both counted in
    record {
      there = q.mid;
      before = before ++ (gap ++ during);
      events = gap ++ during;
      rest = after;
      first = both;
      then_ = q.then_;
      counted = c2;
      known = λ i u v a b. let h = hops i u v a b in
          hop_known W Next Hop at place bound least s d facts u v h.0 h.1 (before ++ gap) during p.mid q.mid q.first c one
          (hop_at (λ u v. IsHopServed at.kind least s d u v (before ++ gap) during) path round i u v a b);
      rounds = rounds;
    }

-- a number of the window that the source has, at most b above its beginning, is had at the end after h + b + 1 complete rounds
pub progress : (W : Type 0) (Next : W → Event → W → Type 0) (Hop : NodeId → NodeId → Type 0) (at : Sight W) (place bound least : ℕ) (s d : NodeId)
    → Facts W Next Hop at place bound least s d → 1 ≤ least
    → (path : List NodeId) (h : ℕ) → AreHops Hop path → AreInner d path h → length path ≡ suc h → slice_get path 0 ≡ Some s → slice_get path h ≡ Some d
    → (b q : ℕ) (before after : List Event) (w y : W) → Goes W Next w after y → AreCounted W at Hop before w
    → at.low ≤ at.base w s → q ≤ at.high → q ≤ at.have w s → q ≤ at.low + b → CompleteRounds at.kind least s d path (suc (h + b)) before after → q ≤ at.have y d
progress W Next Hop at place bound least s d facts one path h hops inner long from to b q before after w y g counted ready within has near rounds =
    let f = first_round W Next Hop at place bound least s d facts one path hops (h + b) before after w y g counted rounds in
    let it = all_rounds W Next Hop at place bound least s d facts one path h hops inner long (h + b) f.before f.rest f.there y f.then_ f.counted f.known
    f.rounds in
    let s_is : get_or path 0 nobody ≡ s = get_or_from_slice_get path 0 s nobody from in
    let d_is : get_or path h nobody ≡ d = get_or_from_slice_get path h d nobody to in
    let have_0 = rises W Next (λ z. at.have z s) (λ p r e n. facts.have_rises p r e s n) f.events w f.there f.first in
    let base_0 = rises W Next (λ z. at.base z s) (λ p r e n. facts.base_rises p r e s n) f.events w f.there f.first in
    let end = rises W Next (λ z. at.have z d) (λ p r e n. facts.have_rises p r e d n) it.rest it.there y it.then_ in
    let law : q ≤ at.have it.there (get_or path h nobody) =
    arrives h at.low at.high b q (numbers W at path f.there) (numbers W at path it.there) (λ i le. facts.sound f.there (get_or path i nobody))
    (rw s_is (omega (arith, has, have_0))) (rw s_is (omega (arith, ready, base_0))) within near it.rounds in
    let law_d : q ≤ at.have it.there d = rw d_is at law in
    omega (arith, law_d, end)

-- a number that is acknowledged at the end is acknowledged at the source after h + 1 complete rounds
pub acknowledged : (W : Type 0) (Next : W → Event → W → Type 0) (Hop : NodeId → NodeId → Type 0) (at : Sight W) (place bound least : ℕ) (s d : NodeId)
    → Facts W Next Hop at place bound least s d → 1 ≤ least
    → (path : List NodeId) (h : ℕ) → AreHops Hop path → AreInner d path h → length path ≡ suc h → slice_get path 0 ≡ Some s → slice_get path h ≡ Some d
    → (a : ℕ) (before after : List Event) (w y : W) → Goes W Next w after y → AreCounted W at Hop before w
    → a ≤ at.base w d → CompleteRounds at.kind least s d path (suc h) before after → a ≤ at.base y s
acknowledged W Next Hop at place bound least s d facts one path h hops inner long from to a before after w y g counted has rounds =
    let f = first_round W Next Hop at place bound least s d facts one path hops h before after w y g counted rounds in
    let it = all_rounds W Next Hop at place bound least s d facts one path h hops inner long h f.before f.rest f.there y f.then_ f.counted f.known f.rounds in
    let s_is : get_or path 0 nobody ≡ s = get_or_from_slice_get path 0 s nobody from in
    let d_is : get_or path h nobody ≡ d = get_or_from_slice_get path h d nobody to in
    let base_d = rises W Next (λ z. at.base z d) (λ p r e n. facts.base_rises p r e d n) f.events w f.there f.first in
    let end = rises W Next (λ z. at.base z s) (λ p r e n. facts.base_rises p r e s n) it.rest it.there y it.then_ in
    let law : a ≤ at.base it.there (get_or path 0 nobody) =
    returns h at.low at.high a (numbers W at path f.there) (numbers W at path it.there) (rw d_is (omega (arith, has, base_d))) it.rounds in
    let law_s : a ≤ at.base it.there s = rw s_is at law in
    omega (arith, law_s, end)
