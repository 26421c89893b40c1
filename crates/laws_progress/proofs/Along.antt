-- What a complete round of a path leaves, hop by hop.
use Rattle.std.proofs.Common.{ap, cond, ◌≡◌, ℕ, ◌+◌, ◌<◌, ◌≤◌, true, false, List, [], ◌∷◌, ◌++◌, min, inl, inr, arith}
use Rattle.sp_base.specs.declared.id.NodeId.{NodeId}
use Rattle.std.proofs.lemmas.Bool.{cases_Bool, cases_lt}
use Rattle.sp_schedule_events.specs.declared.event.Event.{Event}
use Rattle.sp_runs.specs.Runs.{is_poll, polls}
use Rattle.laws_progress.proofs.Service.{is_on}
use Rattle.sp_runs.specs.Rounds.{is_take, are_passed, IsHopServed}
use Rattle.laws_progress.proofs.Facts.{Goes, Stays, Steps, Sight, IsHeard, Facts}
use Rattle.std.specs.List.{list_any}
use Rattle.std.proofs.lemmas.List.Sums.{sum_by-append}
use Rattle.laws_progress.proofs.Places.{cases_node, counts_one}
use Rattle.laws_progress.proofs.Sweeps as sweeps
use Rattle.laws_progress.proofs.Sweeps.{Turning, joined, apart, rises, stays}

-- ---- the slots of a flow go in turn

abbrev slots : (W : Type 0) (Next : W → Event → W → Type 0) (Hop : NodeId → NodeId → Type 0) (at : Sight W) (place bound least : ℕ) (s d : NodeId)
    → Facts W Next Hop at place bound least s d → Turning
slots W Next Hop at place bound least s d facts = record {
  State = W;
  Next = Next;
  Hop = Hop;
  polled = at.polled;
  actives = at.actives;
  last = at.last;
  among = facts.among;
  place = place;
  Holds = λ w u. is_on (at.actives w u) place ≡ true;
  Serves = λ w u v. at.knows w u v ≡ true;
  Heard = λ w z u v. IsHeard W at place bound d w z u v;
  one_polled = facts.one_polled;
  none_polled = facts.none_polled;
  serves = facts.serves;
  serves_none = facts.serves_none;
  within = λ w u v hop. facts.within w u;
  active = λ w u v hop on. on;
  holds_on = λ w x e u v hop next on. facts.stays_active w x e u next on;
  serves_on = λ w x e u v hop next known. facts.known w x e u v hop next known;
  heard = facts.heard;
}

-- a sweep of at least as many polls as flows are ever active serves a flow that is active when it begins
swept : (W : Type 0) (Next : W → Event → W → Type 0) (Hop : NodeId → NodeId → Type 0) (at : Sight W) (place bound least : ℕ) (s d : NodeId)
    → (facts : Facts W Next Hop at place bound least s d) → (u v : NodeId) → Hop u v
    → (es : List Event) (w y : W) → Goes W Next w es y → are_passed u v (at.polled w u v) es ≡ true
    → 1 ≤ least → least ≤ polls es u v
    → is_on (at.actives w u) place ≡ true → at.knows w u v ≡ true → sweeps.Served (slots W Next Hop at place bound least s d facts) u v w y
swept W Next Hop at place bound least s d facts u v hop es w y g passes one enough on knows =
    let few = facts.few in
    sweeps.swept (slots W Next Hop at place bound least s d facts) u v hop es w y g passes (omega (arith, one, enough)) (omega (arith, few, enough)) on knows

-- one frame at least
some_heard : (W : Type 0) (Next : W → Event → W → Type 0) (Hop : NodeId → NodeId → Type 0) (at : Sight W) (place bound least : ℕ) (s d : NodeId)
    → (facts : Facts W Next Hop at place bound least s d) → (u v : NodeId) → Hop u v
    → (es : List Event) (w y : W) → Goes W Next w es y → are_passed u v (at.polled w u v) es ≡ true
    → 1 ≤ polls es u v
    → sweeps.Heard (slots W Next Hop at place bound least s d facts) u v w y
some_heard W Next Hop at place bound least s d facts u v hop es w y g passes one =
    sweeps.some_heard (slots W Next Hop at place bound least s d facts) u v hop es w y g passes one

-- what is active stays so
active_later : (W : Type 0) (Next : W → Event → W → Type 0) (Hop : NodeId → NodeId → Type 0) (at : Sight W) (place bound least : ℕ) (s d : NodeId)
    → Facts W Next Hop at place bound least s d → (u : NodeId) (es : List Event) (w y : W) → Goes W Next w es y → is_on (at.actives w u) place ≡ true
    → is_on (at.actives y u) place ≡ true
active_later W Next Hop at place bound least s d facts u es w y g on =
    stays W Next (λ x. is_on (at.actives x u) place) (λ p q e n. facts.stays_active p q e u n) es w y g on

-- ---- how many polls there were

pub polls_append : (u v : NodeId) (es fs : List Event) → polls (es ++ fs) u v ≡ polls es u v + polls fs u v
polls_append u v es fs = sum_by-append (λ e. cond (is_poll u v e) 1 0) es fs

-- the states know how many frames were made
pub counts : (W : Type 0) (Next : W → Event → W → Type 0) (Hop : NodeId → NodeId → Type 0) (at : Sight W) (place bound least : ℕ) (s d : NodeId)
    → Facts W Next Hop at place bound least s d
    → (u v : NodeId) → Hop u v → (es : List Event) (w y : W) → Goes W Next w es y → at.polled y u v ≡ at.polled w u v + polls es u v
counts W Next Hop at place bound least s d facts u v hop [] w y Stays = omega arith
counts W Next Hop at place bound least s d facts u v hop (e ∷ es) w y (Steps {x = x} step g) =
    let h = counts W Next Hop at place bound least s d facts u v hop es x y g in
    let c = counts_one (is_poll u v) e es in
    elim (cases_Bool (is_poll u v e)) [
      | inl t ↦ let n = facts.one_polled w x e u v hop step t in let one = ap {B = ℕ} (λ z. cond z 1 0) t in omega (arith, h, n, c, one)
      | inr t ↦ let n = facts.none_polled w x e u v hop step t in let none = ap {B = ℕ} (λ z. cond z 1 0) t in omega (arith, h, n, c, none)
    ]

-- ---- what is given of the state before an interval

-- as many frames were made as these events have polls
abbrev pub AreCounted : (W : Type 0) → Sight W → (NodeId → NodeId → Type 0) → List Event → W → Type 0
AreCounted W at Hop before w = (u v : NodeId) → Hop u v → at.polled w u v ≡ polls before u v

pub counted_on : (W : Type 0) (Next : W → Event → W → Type 0) (Hop : NodeId → NodeId → Type 0) (at : Sight W) (place bound least : ℕ) (s d : NodeId)
    → Facts W Next Hop at place bound least s d
    → (before es : List Event) (w y : W) → Goes W Next w es y → AreCounted W at Hop before w → AreCounted W at Hop (before ++ es) y
counted_on W Next Hop at place bound least s d facts before es w y g c = λ u v hop.
    let n = counts W Next Hop at place bound least s d facts u v hop es w y g in
    let o = c u v hop in
    let p = polls_append u v before es in omega (arith, n, o, p)

-- ---- a client's take

room : (W : Type 0) (Next : W → Event → W → Type 0) (Hop : NodeId → NodeId → Type 0) (at : Sight W) (place bound least : ℕ) (s d : NodeId)
    → Facts W Next Hop at place bound least s d
    → (es : List Event) (w y : W) → Goes W Next w es y → list_any (is_take at.kind d s) es ≡ true → at.have w d < at.taken y + bound
room W Next Hop at place bound least s d facts [] w y g is = absurd (let f : false ≡ true = is in cc)
room W Next Hop at place bound least s d facts (e ∷ es) w y (Steps {x = x} step g) is =
    elim (cases_Bool (is_take at.kind d s e)) [
      | inl t ↦
          let made = facts.makes_room w x e step t in
          let up = rises W Next at.taken facts.taken_rises es x y g in
          omega (arith, made, up)
      | inr t ↦
          let h = room W Next Hop at place bound least s d facts es x y g (rw t at is) in
          let up = facts.have_rises w x e d step in
          omega (arith, h, up)
    ]

-- ---- one hop in a round

-- the states between the parts of a round
pub record Stations (W : Type 0) (Next : W → Event → W → Type 0) (early back between forth late : List Event) (w y : W) : Type 0 where
  pub a : W
  pub b : W
  pub c : W
  pub e : W
  pub to_a : Goes W Next w early a
  pub to_b : Goes W Next a back b
  pub to_c : Goes W Next b between c
  pub to_e : Goes W Next c forth e
  pub to_y : Goes W Next e late y

stations : (W : Type 0) (Next : W → Event → W → Type 0) (early back between forth late : List Event) (w y : W)
    → Goes W Next w (early ++ (back ++ (between ++ (forth ++ late)))) y → Stations W Next early back between forth late w y
stations W Next early back between forth late w y g =
    let p = apart W Next early _ w y g in
    let q = apart W Next back _ p.mid y p.then_ in
    let r = apart W Next between _ q.mid y q.then_ in
    let t = apart W Next forth late r.mid y r.then_ in
    record { a = p.mid; b = q.mid; c = r.mid; e = t.mid; to_a = p.first; to_b = q.first; to_c = r.first; to_e = t.first; to_y = t.then_ }

-- what a round leaves of a hop
pub record HopRound (W : Type 0) (at : Sight W) (u v : NodeId) (w y : W) : Type 0 where
  pub base_on : at.base w u ≤ at.base y v
  pub base_back : at.base w v ≤ at.base y u
  pub have_on : at.low ≤ at.base w u → min (min at.high (at.have w u)) (at.have w v + 1) ≤ at.have y v

-- the numbers that the way back gives
record Back (W : Type 0) (at : Sight W) (place : ℕ) (u v : NodeId) (w y : W) : Type 0 where
  base : at.base w v ≤ at.base y u
  view_have : is_on (at.actives w u) place ≡ true → at.have w v ≤ at.view_have y u v

off_zero : (W : Type 0) (Next : W → Event → W → Type 0) (Hop : NodeId → NodeId → Type 0) (at : Sight W) (place bound least : ℕ) (s d : NodeId)
    → Facts W Next Hop at place bound least s d
    → (w : W) (u : NodeId) → is_on (at.actives w u) place ≡ false → at.have w u ≡ 0
off_zero W Next Hop at place bound least s d facts w u off = elim (cases_lt 0 (at.have w u)) [
  | inl lt ↦ absurd (let on = facts.is_active w u lt in cc)
  | inr le ↦ omega (arith, le)
]

-- a sweep of v to u: what v had is known at u
went_back : (W : Type 0) (Next : W → Event → W → Type 0) (Hop : NodeId → NodeId → Type 0) (at : Sight W) (place bound least : ℕ) (s d : NodeId)
    → Facts W Next Hop at place bound least s d
    → (u v : NodeId) → Hop u v → Hop v u → (es : List Event) (w y : W) → Goes W Next w es y → are_passed v u (at.polled w v u) es ≡ true → 1 ≤ least
    → least ≤ polls es v u
    → at.knows w v u ≡ true → Back W at place u v w y
went_back W Next Hop at place bound least s d facts u v hop pho es w y g passes one enough knows = elim (cases_Bool (is_on (at.actives w v) place)) [
  | inl on ↦
      let t = swept W Next Hop at place bound least s d facts v u pho es w y g passes one enough on knows in
      let it = t.it in
      let k = stays W Next (λ x. at.knows x v u) (λ p q e n. facts.known p q e v u pho n) it.before w it.made it.first knows in
      let b0 = rises W Next (λ x. at.base x v) (λ p q e n. facts.base_rises p q e v n) it.before w it.made it.first in
      let h0 = rises W Next (λ x. at.have x v) (λ p q e n. facts.have_rises p q e v n) it.before w it.made it.first in
      let b1 = it.heard.base k t.turn in
      let b2 = rises W Next (λ x. at.base x u) (λ p q e n. facts.base_rises p q e u n) it.after it.came y it.then_ in
      let h2 = rises W Next (λ x. at.view_have x u v) (λ p q e n. facts.view_have_rises p q e u v hop n) it.after it.came y it.then_ in
      record {
        base = omega (arith, b0, b1, b2);
        view_have = λ on_u.
            let h1 = it.heard.view_have k t.turn (active_later W Next Hop at place bound least s d facts u it.before w it.made it.first on_u) in
            omega (arith, h0, h1, h2);
      }
  | inr off ↦
      let none = off_zero W Next Hop at place bound least s d facts w v off in
      let sound = facts.sound w v in
      record { base = omega (arith, none, sound); view_have = λ on. omega (arith, none) }
]

-- a sweep of u to v after it: the acknowledgement and the next message are at v
went_forth : (W : Type 0) (Next : W → Event → W → Type 0) (Hop : NodeId → NodeId → Type 0) (at : Sight W) (place bound least : ℕ) (s d : NodeId)
    → Facts W Next Hop at place bound least s d
    → (u v : NodeId) (have_u have_v : ℕ) → Hop u v → (u ≡ d → ⊥) → (es : List Event) (w y : W) → Goes W Next w es y → are_passed u v (at.polled w u v) es ≡ true
    → 1 ≤ least → least ≤ polls es u v
    → at.knows w u v ≡ true → have_u ≤ at.have w u → (0 < have_u → have_v ≤ at.view_have w u v) → (v ≡ d → have_v < at.taken w + bound)
    → (at.base w u ≤ at.base y v) × (at.low ≤ at.base w u → min (min at.high have_u) (have_v + 1) ≤ at.have y v)
went_forth W Next Hop at place bound least s d facts u v have_u have_v hop inner es w y g passes one enough knows has view room =
    elim (cases_Bool (is_on (at.actives w u) place)) [
      | inl on ↦
          let t = swept W Next Hop at place bound least s d facts u v hop es w y g passes one enough on knows in
          let it = t.it in
          let k = stays W Next (λ x. at.knows x u v) (λ p q e n. facts.known p q e u v hop n) it.before w it.made it.first knows in
          let b0 = rises W Next (λ x. at.base x u) (λ p q e n. facts.base_rises p q e u n) it.before w it.made it.first in
          let h0 = rises W Next (λ x. at.have x u) (λ p q e n. facts.have_rises p q e u n) it.before w it.made it.first in
          let v0 = rises W Next (λ x. at.view_have x u v) (λ p q e n. facts.view_have_rises p q e u v hop n) it.before w it.made it.first in
          let t0 = rises W Next at.taken facts.taken_rises it.before w it.made it.first in
          let b1 = it.heard.base k t.turn in
          let b2 = rises W Next (λ x. at.base x v) (λ p q e n. facts.base_rises p q e v n) it.after it.came y it.then_ in
          let h2 = rises W Next (λ x. at.have x v) (λ p q e n. facts.have_rises p q e v n) it.after it.came y it.then_ in (
            omega (arith, b0, b1, b2),
            λ ready. elim (cases_lt 0 have_u) [
              | inr none ↦ omega (arith, none)
              | inl some ↦
                  let seen = view some in
                  elim (cases_node v d) [
                    | inl is ↦ let h1 = it.heard.have_at_end k t.turn inner is (omega (arith, ready, b0)) in let r = room is in omega
                        (arith, h0, h1, h2, v0, seen, has, r, t0)
                    | inr other ↦ let h1 = it.heard.have k t.turn inner other (omega (arith, ready, b0)) in omega (arith, h0, h1, h2, v0, seen, has)
                  ]
            ],
          )
      | inr off ↦
          let none = off_zero W Next Hop at place bound least s d facts w u off in
          let sound = facts.sound w u in
          (omega (arith, none, sound), λ ready. omega (arith, none, has))
    ]

pub hop_round : (W : Type 0) (Next : W → Event → W → Type 0) (Hop : NodeId → NodeId → Type 0) (at : Sight W) (place bound least : ℕ) (s d : NodeId)
    → Facts W Next Hop at place bound least s d
    → (u v : NodeId) → Hop u v → Hop v u → (u ≡ d → ⊥) → (before during : List Event) (w y : W) → Goes W Next w during y → AreCounted W at Hop before w
    → 1 ≤ least → IsHopServed at.kind least s d u v before during
    → at.knows w u v ≡ true → at.knows w v u ≡ true → HopRound W at u v w y
hop_round W Next Hop at place bound least s d facts u v hop pho inner before during w y g counted one served known_u known_v =
    let t = stations W Next served.early served.back served.between served.forth served.late w y (rw served.parts at g) in
    let na : at.polled t.a v u ≡ polls (before ++ served.early) v u =
    counted_on W Next Hop at place bound least s d facts before served.early w t.a t.to_a counted v u pho in
    let to_c = joined W Next served.early (served.back ++ served.between) w t.a t.c t.to_a
    (joined W Next served.back served.between t.a t.b t.c t.to_b t.to_c) in
    let nc : at.polled t.c u v ≡ polls (before ++ (served.early ++ (served.back ++ served.between))) u v =
    counted_on W Next Hop at place bound least s d facts before _ w t.c to_c counted u v hop in
    let ka = stays W Next (λ x. at.knows x v u) (λ p q e n. facts.known p q e v u pho n) served.early w t.a t.to_a known_v in
    let kc = stays W Next (λ x. at.knows x u v) (λ p q e n. facts.known p q e u v hop n) _ w t.c to_c known_u in
    let back = went_back W Next Hop at place bound least s d facts u v hop pho served.back t.a t.b t.to_b (rw na served.is_back.passed) one
    served.is_back.enough ka in
    let base_u = rises W Next (λ x. at.base x u) (λ p q e n. facts.base_rises p q e u n) _ w t.c to_c in
    let have_u = rises W Next (λ x. at.have x u) (λ p q e n. facts.have_rises p q e u n) _ w t.c to_c in
    let base_v = rises W Next (λ x. at.base x v) (λ p q e n. facts.base_rises p q e v n) served.early w t.a t.to_a in
    let have_v = rises W Next (λ x. at.have x v) (λ p q e n. facts.have_rises p q e v n) served.early w t.a t.to_a in
    let from_b = joined W Next served.between (served.forth ++ served.late) t.b t.c y t.to_c (joined W Next served.forth served.late t.c t.e y t.to_e t.to_y) in
    let base_b = rises W Next (λ x. at.base x u) (λ p q e n. facts.base_rises p q e u n) _ t.b y from_b in
    let view_b = rises W Next (λ x. at.view_have x u v) (λ p q e n. facts.view_have_rises p q e u v hop n) served.between t.b t.c t.to_c in
    let forth = went_forth W Next Hop at place bound least s d facts u v (at.have w u) (at.have w v) hop inner served.forth t.c t.e t.to_e
    (rw nc served.is_forth.passed) one served.is_forth.enough kc have_u
    (λ some.
    let on = active_later W Next Hop at place bound least s d facts u served.early w t.a t.to_a (facts.is_active w u some) in
    let seen = back.view_have on in omega (arith, seen, have_v, view_b))
    (λ is. let r = room W Next Hop at place bound least s d facts _ w t.c to_c (served.take is) in rw is r) in
    let base_e = rises W Next (λ x. at.base x v) (λ p q e n. facts.base_rises p q e v n) served.late t.e y t.to_y in
    let have_e = rises W Next (λ x. at.have x v) (λ p q e n. facts.have_rises p q e v n) served.late t.e y t.to_y in
    record {
      base_on = let f = forth.0 in omega (arith, base_u, f, base_e);
      base_back = let f = back.base in omega (arith, base_v, f, base_b);
      have_on = λ ready. let f = forth.1 (omega (arith, ready, base_u)) in omega (arith, f, have_e);
    }

-- after any round both ends of a hop know each other's boot
pub hop_known : (W : Type 0) (Next : W → Event → W → Type 0) (Hop : NodeId → NodeId → Type 0) (at : Sight W) (place bound least : ℕ) (s d : NodeId)
    → Facts W Next Hop at place bound least s d
    → (u v : NodeId) → Hop u v → Hop v u → (before during : List Event) (w y : W) → Goes W Next w during y → AreCounted W at Hop before w → 1 ≤ least
    → IsHopServed at.kind least s d u v before during
    → (at.knows y u v ≡ true) × (at.knows y v u ≡ true)
hop_known W Next Hop at place bound least s d facts u v hop pho before during w y g counted one served =
    let t = stations W Next served.early served.back served.between served.forth served.late w y (rw served.parts at g) in
    let na : at.polled t.a v u ≡ polls (before ++ served.early) v u =
    counted_on W Next Hop at place bound least s d facts before served.early w t.a t.to_a counted v u pho in
    let to_c = joined W Next served.early (served.back ++ served.between) w t.a t.c t.to_a
    (joined W Next served.back served.between t.a t.b t.c t.to_b t.to_c) in
    let nc : at.polled t.c u v ≡ polls (before ++ (served.early ++ (served.back ++ served.between))) u v =
    counted_on W Next Hop at place bound least s d facts before _ w t.c to_c counted u v hop in
    let b = some_heard W Next Hop at place bound least s d facts v u pho served.back t.a t.b t.to_b (rw na served.is_back.passed)
    (let z = served.is_back.enough in omega (arith, one, z)) in
    let f = some_heard W Next Hop at place bound least s d facts u v hop served.forth t.c t.e t.to_e (rw nc served.is_forth.passed)
    (let z = served.is_forth.enough in omega (arith, one, z)) in
    let from_b = joined W Next served.between (served.forth ++ served.late) t.b t.c y t.to_c (joined W Next served.forth served.late t.c t.e y t.to_e t.to_y) in
    let from_came = joined W Next b.after _ b.came t.b y b.then_ from_b in
    let from_went = joined W Next f.after served.late f.came t.e y f.then_ t.to_y in (
      stays W Next (λ x. at.knows x u v) (λ p q e n. facts.known p q e u v hop n) _ b.came y from_came b.heard.learned,
      stays W Next (λ x. at.knows x v u) (λ p q e n. facts.known p q e v u pho n) _ f.came y from_went f.heard.learned,
    )
