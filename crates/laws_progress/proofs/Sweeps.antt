-- What a sweep contains, of whatever goes in turn: a frame with its place, if that is active when it begins and stays so.
use Rattle.std.proofs.Common.{cond, ◌≡◌, ℕ, suc, ◌+◌, ◌≤◌, ◌⊎◌, Bool, true, false, List, [], ◌∷◌, ◌++◌, Option, Some, refl, ap, ◌∙◌, inl, inr, arith}
use Rattle.sp_base.specs.Cursor.{next_after}
use Rattle.sp_base.specs.declared.id.NodeId.{NodeId}
use Rattle.std.specs.Prelude.{◌&&◌, ◌||◌, not}
use Rattle.std.proofs.lemmas.Bool.{cases_Bool, cases_eq}
use Rattle.sp_schedule_events.specs.declared.event.Event.{Event}
use Rattle.sp_runs.specs.Runs.{is_poll, polls}
use Rattle.laws_progress.proofs.Places.{counts_one}
use Rattle.sp_runs.specs.Rounds.{is_pass, is_passed, are_passed}
use Rattle.laws_progress.proofs.Facts.{Goes, Stays, Steps, AreNoPolls}
use Rattle.laws_progress.proofs.Service.{IsWithin, distance, distance_all, distance_one, is_on, number_on, serves_nearer}

-- ---- runs

pub joined : (W : Type 0) (Next : W → Event → W → Type 0) (es fs : List Event) (w x y : W) → Goes W Next w es x → Goes W Next x fs y
    → Goes W Next w (es ++ fs) y
joined W Next [] fs w x y Stays g = g
joined W Next (e ∷ es) fs w x y (Steps {x = m} step f) g = Steps step (joined W Next es fs m x y f g)

pub record Apart (W : Type 0) (Next : W → Event → W → Type 0) (es fs : List Event) (w y : W) : Type 0 where
  pub mid : W
  pub first : Goes W Next w es mid
  pub then_ : Goes W Next mid fs y

pub apart : (W : Type 0) (Next : W → Event → W → Type 0) (es fs : List Event) (w y : W) → Goes W Next w (es ++ fs) y → Apart W Next es fs w y
apart W Next [] fs w y g = record { mid = w; first = Stays; then_ = g }
apart W Next (e ∷ es) fs w y (Steps {x = x} step g) = let h = apart W Next es fs x y g in record { mid = h.mid; first = Steps step h.first; then_ = h.then_ }

-- what never falls in a step never falls
pub rises : (W : Type 0) (Next : W → Event → W → Type 0) (f : W → ℕ) → ((w x : W) (e : Event) → Next w e x → f w ≤ f x)
    → (es : List Event) (w y : W) → Goes W Next w es y → f w ≤ f y
rises W Next f step [] w y Stays = omega arith
rises W Next f step (e ∷ es) w y (Steps {x = x} s g) = let a = step w x e s in let b = rises W Next f step es x y g in omega (arith, a, b)

pub stays : (W : Type 0) (Next : W → Event → W → Type 0) (f : W → Bool) → ((w x : W) (e : Event) → Next w e x → f w ≡ true → f x ≡ true)
    → (es : List Event) (w y : W) → Goes W Next w es y → f w ≡ true → f y ≡ true
stays W Next f step [] w y Stays is = is
stays W Next f step (e ∷ es) w y (Steps {x = x} s g) is = stays W Next f step es x y g (step w x e s is)

-- ---- the pass of a frame

-- the frame came, and what was before and after
pub record Passed (W : Type 0) (Next : W → Event → W → Type 0) (u v : NodeId) (number : ℕ) (x y : W) : Type 0 where
  pub way : List Event
  pub came : W
  pub pass : Event
  pub after : W
  pub rest : List Event
  pub first : Goes W Next x way came
  pub no_poll : AreNoPolls u v way
  pub step : Next came pass after
  pub is_it : is_pass u v number pass ≡ true
  pub then_ : Goes W Next after rest y

pub either : (a b : Bool) → a || b ≡ true → (a ≡ true) ⊎ ((a ≡ false) × (b ≡ true))
either true b e = inl refl
either false b e = inr (refl, e)

pub both : (a b : Bool) → a && b ≡ true → (a ≡ true) × (b ≡ true)
both true true e = (refl, refl)
both true false e = absurd (let f : false ≡ true = e in cc)
both false b e = absurd (let f : false ≡ true = e in cc)

not_true : (a : Bool) → not a ≡ true → a ≡ false
not_true true e = absurd (let f : false ≡ true = e in cc)
not_true false e = refl

pub passed : (W : Type 0) (Next : W → Event → W → Type 0) (u v : NodeId) (number : ℕ) (es : List Event) (x y : W) → Goes W Next x es y
    → is_passed u v number es ≡ true → Passed W Next u v number x y
passed W Next u v number [] x y g is = absurd (let f : false ≡ true = is in cc)
passed W Next u v number (e ∷ es) x y (Steps {x = m} s g) is = elim (either (is_pass u v number e) _ is) [
  | inl here ↦ record { way = []; came = x; pass = e; after = m; rest = es; first = Stays; no_poll = tt; step = s; is_it = here; then_ = g }
  | inr later ↦
      let parts = both _ _ later.1 in
      let it = passed W Next u v number es m y g parts.1 in
      record {
        way = e ∷ it.way;
        came = it.came;
        pass = it.pass;
        after = it.after;
        rest = it.rest;
        first = Steps s it.first;
        no_poll = (not_true _ parts.0, it.no_poll);
        step = it.step;
        is_it = it.is_it;
        then_ = it.then_;
      }
]

-- ---- what goes in turn

-- how many polls there are, by the first event
pub one_more : (u v : NodeId) (e : Event) (es : List Event) → is_poll u v e ≡ true → polls (e ∷ es) u v ≡ suc (polls es u v)
one_more u v e es is = let c = counts_one (is_poll u v) e es in let one = ap {B = ℕ} (λ t. cond t 1 0) is in omega (arith, c, one)

pub no_more : (u v : NodeId) (e : Event) (es : List Event) → is_poll u v e ≡ false → polls (e ∷ es) u v ≡ polls es u v
no_more u v e es is = let c = counts_one (is_poll u v) e es in let none = ap {B = ℕ} (λ t. cond t 1 0) is in omega (arith, c, none)

-- Places of a node of which its frames for a neighbour serve one each, in turn; one of them, which stays active while its node holds something there; and
-- what a frame leaves that is passed before the next is made.
pub record Turning : Type 1 where
  pub State : Type 0
  pub Next : State → Event → State → Type 0
  pub Hop : NodeId → NodeId → Type 0
  -- how many frames a node made for a neighbour, which places are active, and the one that was served last
  pub polled : State → NodeId → NodeId → ℕ
  pub actives : State → NodeId → List Bool
  pub last : State → NodeId → NodeId → Option ℕ
  -- all that are ever active are among these
  pub among : List Bool
  pub place : ℕ
  pub Holds : State → NodeId → Type 0
  -- the node serves its places in its frames for a neighbour
  pub Serves : State → NodeId → NodeId → Type 0
  -- what a frame leaves, that is made in the first state and came in the second
  pub Heard : State → State → NodeId → NodeId → Type 0
  pub one_polled : (w x : State) (e : Event) (u v : NodeId) → Hop u v → Next w e x → is_poll u v e ≡ true → polled x u v ≡ polled w u v + 1
  pub none_polled : (w x : State) (e : Event) (u v : NodeId) → Hop u v → Next w e x → is_poll u v e ≡ false → polled x u v ≡ polled w u v
  pub serves : (w x : State) (e : Event) (u v : NodeId) (p : ℕ) → Hop u v → Next w e x → is_poll u v e ≡ true → Serves w u v
      → next_after (last w u v) (actives w u) ≡ Some p → last x u v ≡ Some p
  pub serves_none : (w x : State) (e : Event) (u v : NodeId) → Hop u v → Next w e x → is_poll u v e ≡ false → last x u v ≡ last w u v
  pub within : (w : State) (u v : NodeId) → Hop u v → IsWithin (actives w u) among
  pub active : (w : State) (u v : NodeId) → Hop u v → Holds w u → is_on (actives w u) place ≡ true
  pub holds_on : (w x : State) (e : Event) (u v : NodeId) → Hop u v → Next w e x → Holds w u → Holds x u
  pub serves_on : (w x : State) (e : Event) (u v : NodeId) → Hop u v → Next w e x → Serves w u v → Serves x u v
  pub heard : (w x y z : State) (e p : Event) (es : List Event) (u v : NodeId) → Hop u v → Next w e x → is_poll u v e ≡ true
      → Goes State Next x es y → AreNoPolls u v es → Next y p z → is_pass u v (polled x u v) p ≡ true → Heard w z u v

-- ---- a sweep

module _ (t : Turning) where
  abbrev Path : t.State → List Event → t.State → Type 0
  Path w es y = Goes t.State t.Next w es y

  -- a frame of u that was made in this interval was heard by v in it
  pub record Heard (u v : NodeId) (w y : t.State) : Type 0 where
    pub made : t.State
    pub came : t.State
    pub before : List Event
    pub after : List Event
    pub first : Goes t.State t.Next w before made
    pub heard : t.Heard made came u v
    pub then_ : Goes t.State t.Next came after y

  -- ... and it served the place
  pub record Served (u v : NodeId) (w y : t.State) : Type 0 where
    pub it : Heard u v w y
    pub turn : next_after (t.last it.made u v) (t.actives it.made u) ≡ Some t.place

  later_heard : (u v : NodeId) (w x y : t.State) (e : Event) → t.Next w e x → Heard u v x y → Heard u v w y
  later_heard u v w x y e s h =
      record { made = h.made; came = h.came; before = e ∷ h.before; after = h.after; first = Steps s h.first; heard = h.heard; then_ = h.then_ }

  -- the frame that is made here is heard
  heard_here : (u v : NodeId) → t.Hop u v → (w x y : t.State) (e : Event) (es : List Event) → t.Next w e x → is_poll u v e ≡ true → Path x es y
      → are_passed u v (t.polled w u v) (e ∷ es) ≡ true → Heard u v w y
  heard_here u v hop w x y e es step poll g passes =
      let number = t.one_polled w x e u v hop step poll in
      let is = (both (is_passed u v (t.polled w u v + 1) es) (are_passed u v (t.polled w u v + 1) es) (rw poll at passes)).0 in
      let p = passed t.State t.Next u v (t.polled x u v) es x y g (rw number is) in
      record {
        made = w;
        came = p.after;
        before = [];
        after = p.rest;
        first = Stays;
        heard = t.heard w x p.came p.after e p.pass p.way u v hop step poll p.first p.no_poll p.step p.is_it;
        then_ = p.then_;
      }

  -- one frame at least
  pub some_heard : (u v : NodeId) → t.Hop u v → (es : List Event) (w y : t.State) → Path w es y → are_passed u v (t.polled w u v) es ≡ true
      → 1 ≤ polls es u v → Heard u v w y
  some_heard u v hop [] w y g passes one = absurd (omega (arith, one))
  some_heard u v hop (e ∷ es) w y (Steps {x = x} step g) passes one = elim (cases_Bool (is_poll u v e)) [
    | inl poll ↦ heard_here u v hop w x y e es step poll g passes
    | inr other ↦
        let same = t.none_polled w x e u v hop step other in
        later_heard u v w x y e step (some_heard u v hop es x y g (rw same (rw other at passes)) (rw (no_more u v e es other) at one))
  ]

  -- a frame that serves the place, where its distance is at most the number of frames
  served_soon : (u v : NodeId) → t.Hop u v → (es : List Event) (w y : t.State) → Path w es y → are_passed u v (t.polled w u v) es ≡ true → t.Holds w u
      → t.Serves w u v
      → 1 ≤ polls es u v → distance t.among (t.last w u v) t.place ≤ polls es u v → Served u v w y
  unfolding heard_here later_heard
  served_soon u v hop [] w y g passes holds serves one near = absurd (omega (arith, one))
  served_soon u v hop (e ∷ es) w y (Steps {x = x} step g) passes holds serves one near =
      let within = t.within w u v hop in
      let on = t.active w u v hop holds in
      let holds_next = t.holds_on w x e u v hop step holds in
      let serves_next = t.serves_on w x e u v hop step serves in
      elim (cases_Bool (is_poll u v e)) [
        | inl poll ↦
            let next = serves_nearer (t.last w u v) (t.actives w u) t.among t.place on within in
            elim (cases_eq next.0 t.place) [
              | inl is ↦ record { it = heard_here u v hop w x y e es step poll g passes; turn = next.1 ∙ ap (λ (q : ℕ). Some q) is }
              | inr other ↦
                  let less = next.2 other in
                  let last = t.serves w x e u v next.0 hop step poll serves next.1 in
                  let number = t.one_polled w x e u v hop step poll in
                  let some = distance_one t.among (Some next.0) t.place (within t.place on) in
                  let near_now : distance t.among (t.last w u v) t.place ≤ suc (polls es u v) = rw (one_more u v e es poll) at near in
                  let parts = both (is_passed u v (t.polled w u v + 1) es) (are_passed u v (t.polled w u v + 1) es) (rw poll at passes) in
                  let rest = served_soon u v hop es x y g (rw number parts.1) holds_next serves_next (omega (arith, less, some, near_now))
                  (rw last (omega (arith, less, near_now))) in
                  record { it = later_heard u v w x y e step rest.it; turn = rest.turn }
            ]
        | inr other ↦
            let same = t.none_polled w x e u v hop step other in
            let last = t.serves_none w x e u v hop step other in
            let count = no_more u v e es other in
            let rest = served_soon u v hop es x y g (rw same (rw other at passes)) holds_next serves_next (rw count at one) (rw last (rw count at near)) in
            record { it = later_heard u v w x y e step rest.it; turn = rest.turn }
      ]

  -- a sweep of at least as many polls as places are ever active serves one that its node holds when it begins
  pub swept : (u v : NodeId) → t.Hop u v → (es : List Event) (w y : t.State) → Path w es y → are_passed u v (t.polled w u v) es ≡ true
      → 1 ≤ polls es u v → number_on t.among ≤ polls es u v → t.Holds w u → t.Serves w u v → Served u v w y
  swept u v hop es w y g passes one enough holds serves =
      let far = distance_all t.among (t.last w u v) t.place in
      served_soon u v hop es w y g passes holds serves one (omega (arith, far, enough))
