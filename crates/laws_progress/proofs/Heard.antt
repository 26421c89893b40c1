-- A frame that is passed before the next is made leaves at its end what it says.
use Rattle.std.proofs.Common.{◌≡◌, ℕ, ◌+◌, ◌<◌, ◌≤◌, ◌⊎◌, true, false, List, [], ◌∷◌, min, max, refl, ap, ◌∙◌, inl, inr, arith}
use Rattle.sp_base.specs.declared.id.NodeId.{NodeId}
use Rattle.std.proofs.lemmas.Bool.{cases_lt}
use Rattle.sp_schedule_events.specs.declared.event.Event.{Event}
use Rattle.sp_schedule_events.specs.declared.event.Event.TheVariants as events
use Rattle.sp_runs.specs.Runs.{is_poll}
use Rattle.laws_progress.proofs.Service.{is_on}
use Rattle.sp_runs.specs.Rounds.{is_pass}
use Rattle.laws_progress.proofs.Facts.{Goes, Stays, Steps, AreNoPolls, Sight, IsTurn, IsHeard, Facts}
use Rattle.laws_progress.proofs.Hops.{IsBehind, IsFit, IsHeeded, IsMade, IsServed, Steady, Told, Wires}

-- what is known of a neighbour never falls
views_rise : (W : Type 0) (Next : W → Event → W → Type 0) (Hop : NodeId → NodeId → Type 0) (at : Sight W) (on : Wires W) (place bound least : ℕ) (s d : NodeId)
    → Steady W Next Hop at on place bound least s d
    → (w x : W) (e : Event) (u v : NodeId) → Hop u v → Next w e x → (at.view_base w u v ≤ at.view_base x u v) × (at.view_have w u v ≤ at.view_have x u v)
views_rise W Next Hop at on place bound least s d steady w x e u v hop step =
    let pho = steady.both_ways u v hop in
    let h = steady.holds w v u pho in
    elim (steady.hears w x e v u pho step) [
      | inl deaf ↦ let b = deaf.views.base in let c = deaf.views.have in (omega (arith, b), omega (arith, c))
      | inr hearing ↦ elim hearing.1.views [
        | inl stay ↦ let b = stay.base in let c = stay.have in (omega (arith, b), omega (arith, c))
        | inr got ↦
            let a = h.ahead hearing.0 hearing.1.after hearing.1.made got.0 in
            let a0 = a.0 in let a1 = a.1 in let b = got.1 in let c = got.2 in (omega (arith, a0, b), omega (arith, a1, c))
      ]
    ]

-- what the frame says is had at v, and stays so
record IsLeft (W : Type 0) (at : Sight W) (place bound : ℕ) (d : NodeId) (w y : W) (u v : NodeId) (f : Told) : Type 0 where
  base : f.base ≤ at.base y v
  have : (v ≡ d → ⊥) → f.next ≤ at.have y v
  have_at_end : v ≡ d → min f.next (at.taken w + bound) ≤ at.have y v
  view : is_on (at.actives w v) place ≡ true → (f.base ≤ at.view_base y v u) × (f.have ≤ at.view_have y v u)

-- since frame n was made in w: it wasn't heard yet, or it is the last that was heard and is left
record Since (W : Type 0) (at : Sight W) (on : Wires W) (place bound : ℕ) (d : NodeId) (w y : W) (u v : NodeId) (n : ℕ) (f : Told) : Type 0 where
  number : at.polled y u v ≡ n
  frame : on.told y u v n ≡ f
  taken : at.taken w ≤ at.taken y
  active : is_on (at.actives w v) place ≡ true → is_on (at.actives y v) place ≡ true
  heard : (on.seen y v u < n) ⊎ ((on.seen y v u ≡ n) × (f.here ≡ true → f.mine ≡ true → IsLeft W at place bound d w y u v f))

-- each frame that is there is fit
fit : (W : Type 0) (Next : W → Event → W → Type 0) (Hop : NodeId → NodeId → Type 0) (at : Sight W) (on : Wires W) (place bound least : ℕ) (s d : NodeId)
    → Steady W Next Hop at on place bound least s d
    → (w x : W) (e : Event) (u v : NodeId) → Next w e x → (f : Told) → IsBehind W at bound w u v f → IsFit W at bound s d w v f
fit W Next Hop at on place bound least s d steady w x e u v step f h = record {
  base = let a = h.base in let b = steady.acknowledged w x e u step in omega (arith, a, b);
  have = let a = h.have in let b = steady.sent w x e u step in omega (arith, a, b);
  window = h.window;
  no_ack = h.no_ack;
  next_there = h.next_there;
  next_near = h.next_near;
}

since_step : (W : Type 0) (Next : W → Event → W → Type 0) (Hop : NodeId → NodeId → Type 0) (at : Sight W) (on : Wires W) (place bound least : ℕ) (s d : NodeId)
    → Steady W Next Hop at on place bound least s d
    → (w x y : W) (e : Event) (u v : NodeId) (n : ℕ) (f : Told) → Hop u v → 0 < n → Next x e y → is_poll u v e ≡ false → Since W at on place bound d w x u v n f
    → Since W at on place bound d w y u v n f
since_step W Next Hop at on place bound least s d steady w x y e u v n f hop pos step quiet h =
    let h_number = h.number in
    let count = steady.none_polled x y e u v hop step quiet in
    let stay = steady.frames_stay x y e u v n hop step (omega (arith, h_number)) in
    let up = steady.taken_rises x y e step in
    let b = steady.base_rises x y e v step in
    let c = steady.have_rises x y e v step in
    let views = views_rise W Next Hop at on place bound least s d steady x y e v u (steady.both_ways u v hop) step in
    let vb = views.0 in
    let vh = views.1 in
    let old = h.taken in
    let later : IsLeft W at place bound d w x u v f → IsLeft W at place bound d w y u v f = λ l. record {
      base = let z = l.base in omega (arith, z, b);
      have = λ other. let z = l.have other in omega (arith, z, c);
      have_at_end = λ is. let z = l.have_at_end is in omega (arith, z, c);
      view = λ on_v. let z = l.view on_v in let z0 = z.0 in let z1 = z.1 in (omega (arith, z0, vb), omega (arith, z1, vh));
    } in
    record {
      number = count ∙ h.number;
      frame = stay ∙ h.frame;
      taken = omega (arith, old, up);
      active = λ is. steady.stays_active x y e v step (h.active is);
      heard = elim (steady.hears x y e u v hop step) [
        | inl deaf ↦ let z = deaf.seen in elim h.heard [
          | inl before ↦ inl (omega (arith, z, before))
          | inr there ↦ inr (z ∙ there.0, λ here mine. later (there.1 here mine))
        ]
        | inr hearing ↦
            let k = hearing.0 in
            let it = hearing.1 in
            let z = it.seen in
            let after = it.after in
            let made = it.made in
            elim (cases_lt k n) [
              | inl lt ↦ inl (omega (arith, z, lt))
              | inr ge ↦
                  let is : k ≡ n = omega (arith, ge, made, h_number) in
                  let told : on.told x u v k ≡ f = ap (λ j. on.told x u v j) is ∙ h.frame in
                  inr (
                    z ∙ is,
                    λ here mine.
                        let holds = steady.holds x u v hop in
                        let here_k : (on.told x u v k).here ≡ true = rw told here in
                        let mine_k : (on.told x u v k).mine ≡ true = rw told mine in
                        let behind = holds.frames k (omega (arith, is, pos)) made mine_k in
                        let heeded : IsHeeded W at place bound d x y u v f = rw told at
                        (hearing.2 here_k mine_k (fit W Next Hop at on place bound least s d steady x y e u v step (on.told x u v k) behind)) in
                        record {
                          base = heeded.base;
                          have = heeded.have;
                          have_at_end = λ at_d. let m = heeded.have_at_end at_d in omega (arith, m, old);
                          view = λ on_v. let m = heeded.view (h.active on_v) in let m0 = m.0 in let m1 = m.1 in (omega (arith, m0), omega (arith, m1));
                        },
                  )
            ]
      ];
    }

since_on : (W : Type 0) (Next : W → Event → W → Type 0) (Hop : NodeId → NodeId → Type 0) (at : Sight W) (on : Wires W) (place bound least : ℕ) (s d : NodeId)
    → Steady W Next Hop at on place bound least s d
    → (w : W) (u v : NodeId) (n : ℕ) (f : Told) → Hop u v → 0 < n → (es : List Event) (x y : W) → Goes W Next x es y → AreNoPolls u v es
    → Since W at on place bound d w x u v n f → Since W at on place bound d w y u v n f
since_on W Next Hop at on place bound least s d steady w u v n f hop pos [] x y Stays quiet h = h
since_on W Next Hop at on place bound least s d steady w u v n f hop pos (e ∷ es) x y (Steps {x = m} step g) quiet h =
    since_on W Next Hop at on place bound least s d steady w u v n f hop pos es m y g quiet.1
    (since_step W Next Hop at on place bound least s d steady w x m e u v n f hop pos step quiet.0 h)

-- a pass is no poll
pass_no_poll : (u v a b : NodeId) (k : ℕ) (p : Event) → is_pass u v k p ≡ true → is_poll a b p ≡ false
pass_no_poll u v a b k (events.Poll x y) is = absurd (let f : false ≡ true = is in cc)
pass_no_poll u v a b k p is = refl

-- what is left at v gives the message that v wants
wanted : (W : Type 0) (at : Sight W) (place : ℕ) (d : NodeId) (w z : W) (u v : NodeId) (f : Told) → IsMade W at w u v f → IsServed W at place d w u v f
    → f.mine ≡ true → (u ≡ d → ⊥) → at.low ≤ at.base w u → at.view_have w u v ≤ at.have w v → at.have w v ≤ at.have z v → at.base z v ≤ at.have z v
    → (more : ℕ) → min f.next more ≤ at.have z v → f.base ≤ at.base z v
    → min (min (min at.high (at.have w u)) (max (at.view_have w u v) (at.base w u) + 1)) more ≤ at.have z v
wanted W at place d w z u v f made now mine inner ready view up sound more got base =
    let b = made.base mine in
    elim (now.next_is mine inner ready) [
      | inl low ↦ omega (arith, low, view, up, sound, base, b)
      | inr is ↦ omega (arith, is, got)
    ]

have_on : (W : Type 0) (Next : W → Event → W → Type 0) (Hop : NodeId → NodeId → Type 0) (at : Sight W) (on : Wires W) (place bound least : ℕ) (s d : NodeId)
    → Steady W Next Hop at on place bound least s d
    → (v : NodeId) (es : List Event) (x y : W) → Goes W Next x es y → at.have x v ≤ at.have y v
have_on W Next Hop at on place bound least s d steady v [] x y Stays = omega arith
have_on W Next Hop at on place bound least s d steady v (e ∷ es) x y (Steps {x = m} step g) = let a = steady.have_rises x m e v step in let b =
    have_on W Next Hop at on place bound least s d steady v es m y g in omega (arith, a, b)

heard : (W : Type 0) (Next : W → Event → W → Type 0) (Hop : NodeId → NodeId → Type 0) (at : Sight W) (on : Wires W) (place bound least : ℕ) (s d : NodeId)
    → Steady W Next Hop at on place bound least s d
    → (w x y z : W) (e p : Event) (es : List Event) (u v : NodeId) → Hop u v → Next w e x → is_poll u v e ≡ true
    → Goes W Next x es y → AreNoPolls u v es → Next y p z → is_pass u v (at.polled x u v) p ≡ true → IsHeard W at place bound d w z u v
heard W Next Hop at on place bound least s d steady w x y z e p es u v hop step poll g quiet pass is =
    let n = at.polled x u v in
    let f = on.told x u v n in
    let count = steady.one_polled w x e u v hop step poll in
    let made = steady.makes w x e u v hop step poll in
    let now = steady.made_now w x e u v hop step poll in
    let here = steady.holds w u v hop in
    let back = steady.holds w v u (steady.both_ways u v hop) in
    let low = here.seen in
    let before : on.seen x v u < n = elim (steady.hears w x e u v hop step) [
      | inl deaf ↦ let q = deaf.seen in omega (arith, q, low, count)
      | inr hearing ↦ let q = hearing.1.seen in let m = hearing.1.made in omega (arith, q, m, count)
    ] in
    let start : Since W at on place bound d w x u v n f = record {
      number = refl;
      frame = refl;
      taken = steady.taken_rises w x e step;
      active = λ is. steady.stays_active w x e v step is;
      heard = inl before;
    } in
    let pos : 0 < n = omega (arith, count) in
    let at_y = since_on W Next Hop at on place bound least s d steady w u v n f hop pos es x y g quiet start in
    let at_z = since_step W Next Hop at on place bound least s d steady w y z p u v n f hop pos pass (pass_no_poll u v u v n p is) at_y in
    let frame_y = at_y.frame in
    let known : at.knows w u v ≡ true → n ≤ on.seen z v u = λ k.
    let echo : (on.told y u v n).echo ≡ true = rw frame_y (now.echo k) in
    steady.comes y z p u v n hop pass is pos echo in
    let left : at.knows w u v ≡ true → IsTurn W at place w u v → IsLeft W at place bound d w z u v f = λ k turn.
    let late = known k in
    elim at_z.heard [
      | inl not_yet ↦ absurd (omega (arith, late, not_yet))
      | inr there ↦ there.1 now.here (now.mine k turn)
    ] in
    let have_up : at.have w v ≤ at.have z v =
    let a = steady.have_rises w x e v step in
    let b = have_on W Next Hop at on place bound least s d steady v es x y g in
    let c = steady.have_rises y z p v pass in omega (arith, a, b, c) in
    let sound = steady.sound z v in
    let view = back.view_have in
    record {
      learned = steady.learns y z p u v n hop pass is (rw frame_y now.here);
      base = λ k turn. let l = left k turn in let b = made.base (now.mine k turn) in let c = l.base in omega (arith, b, c);
      view_base = λ k turn on_v. let l = left k turn in let b = made.base (now.mine k turn) in let c = (l.view on_v).0 in omega (arith, b, c);
      view_have = λ k turn on_v. let l = left k turn in let b = made.have (now.mine k turn) in let c = (l.view on_v).1 in omega (arith, b, c);
      have = λ k turn inner other ready.
          let l = left k turn in
          let got = l.have other in
          let all = wanted W at place d w z u v f made now (now.mine k turn) inner ready view have_up sound (at.have w u) (omega (arith, got)) l.base in
          omega (arith, all);
      have_at_end = λ k turn inner at_d ready.
          let l = left k turn in
          let got = l.have_at_end at_d in
          wanted W at place d w z u v f made now (now.mine k turn) inner ready view have_up sound (at.taken w + bound) got l.base;
    }

-- one-step facts give the facts on which progress rests
pub facts_of : (W : Type 0) (Next : W → Event → W → Type 0) (Hop : NodeId → NodeId → Type 0) (at : Sight W) (on : Wires W) (place bound least : ℕ)
    (s d : NodeId) → Steady W Next Hop at on place bound least s d → Facts W Next Hop at place bound least s d
facts_of W Next Hop at on place bound least s d steady = record {
  base_rises = steady.base_rises;
  have_rises = steady.have_rises;
  taken_rises = steady.taken_rises;
  view_base_rises = λ w x e u v hop step. (views_rise W Next Hop at on place bound least s d steady w x e u v hop step).0;
  view_have_rises = λ w x e u v hop step. (views_rise W Next Hop at on place bound least s d steady w x e u v hop step).1;
  known = steady.known;
  stays_active = steady.stays_active;
  one_polled = steady.one_polled;
  none_polled = steady.none_polled;
  serves = steady.serves;
  serves_none = steady.serves_none;
  makes_room = steady.makes_room;
  sound = steady.sound;
  is_active = steady.is_active;
  among = steady.among;
  within = steady.within;
  few = steady.few;
  heard = heard W Next Hop at on place bound least s d steady;
}
