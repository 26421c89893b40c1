-- How boots spread along a path: after the first round both ends of each hop know each other's boot, and each round after it takes what is held one hop on,
-- in both directions.
use Rattle.std.proofs.Common.{◌≡◌, ◌≤◌, ◌<◌, ℕ, zero, suc, ◌+◌, true, List, [], ◌∷◌, ◌++◌, length, get_or, Some, inl, inr, arith}
use Rattle.std.specs.Prelude.{slice_get}
use Rattle.std.proofs.lemmas.Bool.{cases_Bool, cases_lt}
use Rattle.std.proofs.lemmas.Option.{slice_get-get_or}
use Rattle.sp_base.specs.declared.id.NodeId.{NodeId}
use Rattle.sp_runs.specs.Rounds.{are_passed}
use Rattle.sp_runs.specs.Runs.{is_poll, polls}
use Rattle.sp_schedule_events.specs.declared.event.Event.{Event}
use Rattle.laws_progress.proofs.Along.{polls_append}
use Rattle.laws_progress.proofs.Facts.{AreHops, Goes, Stays, Steps}
use Rattle.laws_progress.proofs.Places.{hop_at, nobody}
use Rattle.laws_progress.proofs.Service.{number_on}
use Rattle.laws_progress.proofs.SpreadFacts.{Spreading}
use Rattle.laws_progress.proofs.SpreadSweeps.{sweep_learned, sweep_told}
use Rattle.laws_progress.proofs.Sweeps.{apart, joined, no_more, one_more, rises, stays}
use Rattle.laws_progress.specs.Telling.{HasSweep, IsTellingRound, None_left, Round, TellingRounds}

-- a boot comes one hop nearer in each round
one_nearer : (h n i j : ℕ) (f g : ℕ → ℕ) (end : ℕ) → f j ≤ g j → ((k : ℕ) → k < h → (f k ≤ g (suc k)) × (f (suc k) ≤ g k))
    → ((k : ℕ) → k ≤ h → i ≤ k + n → k ≤ i + n → g k ≤ end) → i ≤ h → j ≤ h → i ≤ j + suc n → j ≤ i + suc n → f j ≤ end
one_nearer h n i j f g end stays on rest low_i low_j near close = elim (cases_lt i j) [
  | inl less ↦ back j less low_j close
  | inr least ↦ elim (cases_lt j i) [
    | inl more ↦
        let step = (on j (omega (arith, more, low_i))).0 in
        let then_ = rest (suc j) (omega (arith, more, low_i)) (omega (arith, near)) (omega (arith, more)) in
        omega (arith, step, then_)
    | inr most ↦ let then_ = rest j low_j (omega (arith, most)) (omega (arith, least)) in omega (arith, stays, then_)
  ]
]
  where
    back : (k : ℕ) → i < k → k ≤ h → k ≤ i + suc n → f k ≤ end
    back zero less low close = absurd (omega (arith, less))
    back (suc k) less low close =
        let step = (on k (omega (arith, low))).1 in
        let then_ = rest k (omega (arith, low)) (omega (arith, less)) (omega (arith, close)) in
        omega (arith, step, then_)

-- each node of the path stays up
abbrev pub AreUp : (NodeId → Type 0) → List NodeId → Type 0
AreUp Up path = (i : ℕ) (u : NodeId) → slice_get path i ≡ Some u → Up u

module _ (r : Spreading) where
  abbrev Path : r.State → List Event → r.State → Type 0
  Path w es y = Goes r.State r.Next w es y

  -- ---- how many polls there were

  -- as many frames were made as these events have polls
  abbrev pub AreCounted : List Event → r.State → Type 0
  AreCounted before w = (u v : NodeId) → r.Hop u v → r.at.polled w u v ≡ polls before u v

  counts : (u v : NodeId) → r.Hop u v → (es : List Event) (w y : r.State) → Path w es y → r.at.polled y u v ≡ r.at.polled w u v + polls es u v
  counts u v hop [] w y Stays = omega arith
  counts u v hop (e ∷ es) w y (Steps {x = x} step g) =
      let h = counts u v hop es x y g in
      elim (cases_Bool (is_poll u v e)) [
        | inl t ↦ let n = r.one_polled w x e u v hop step t in let c = one_more u v e es t in omega (arith, h, n, c)
        | inr t ↦ let n = r.none_polled w x e u v hop step t in let c = no_more u v e es t in omega (arith, h, n, c)
      ]

  counted_on : (before es : List Event) (w y : r.State) → Path w es y → AreCounted before w → AreCounted (before ++ es) y
  counted_on before es w y g c = λ u v hop.
      let n = counts u v hop es w y g in let o = c u v hop in let p = polls_append u v before es in omega (arith, n, o, p)

  -- ---- what never falls

  held_later : (u o : NodeId) → r.Up u → (es : List Event) (w y : r.State) → Path w es y → r.at.held w u o ≤ r.at.held y u o
  held_later u o up es w y g = rises r.State r.Next (λ x. r.at.held x u o) (λ p q e n. r.held_rises p q e u o up n) es w y g

  known_later : (u v : NodeId) → r.Hop u v → (es : List Event) (w y : r.State) → Path w es y → r.at.knows w u v ≡ true → r.at.knows y u v ≡ true
  known_later u v hop es w y g k = stays r.State r.Next (λ x. r.at.knows x u v) (λ p q e n. r.known p q e u v hop n) es w y g k

  -- the ends of each hop know each other's boot
  abbrev AreKnown : List NodeId → r.State → Type 0
  AreKnown path w = (i : ℕ) (u v : NodeId) → slice_get path i ≡ Some u → slice_get path (suc i) ≡ Some v → (r.at.knows w u v ≡ true) × (r.at.knows w v u ≡ true)

  known_on : (path : List NodeId) → AreHops r.Hop path → (es : List Event) (w y : r.State) → Path w es y → AreKnown path w → AreKnown path y
  known_on path hops es w y g known = λ i u v a b.
      let k = known i u v a b in let h = hops i u v a b in (known_later u v h.0 es w y g k.0, known_later v u h.1 es w y g k.1)

  -- ---- one direction of a hop in a round

  record Swept (u v : NodeId) (w y : r.State) : Type 0 where
    learned : r.at.knows y v u ≡ true
    told : (o : NodeId) → r.at.knows w u v ≡ true → r.at.held w u o ≤ r.at.held y v o

  one_way : (least : ℕ) → 1 ≤ least → number_on r.all ≤ least → (u v : NodeId) → r.Hop u v → r.Hop v u → (before during : List Event) (w y : r.State)
      → Path w during y → AreCounted before w → HasSweep least u v before during → Swept u v w y
  one_way least one many u v hop pho before during w y g counted h =
      let p = apart r.State r.Next h.early (h.sweep ++ h.late) w y (rw h.parts at g) in
      let q = apart r.State r.Next h.sweep h.late p.mid y p.then_ in
      let number : r.at.polled p.mid u v ≡ polls (before ++ h.early) u v = counted_on before h.early w p.mid p.first counted u v hop in
      let passes : are_passed u v (r.at.polled p.mid u v) h.sweep ≡ true = rw number h.is_sweep.passed in
      let enough = h.is_sweep.enough in
      let some : 1 ≤ polls h.sweep u v = omega (arith, one, enough) in
      record {
        learned = known_later v u pho h.late q.mid y q.then_ (sweep_learned r u v hop pho h.sweep p.mid q.mid q.first passes some);
        told = λ o k.
            let first = held_later u o (r.is_up u v hop) h.early w p.mid p.first in
            let now = sweep_told r o u v hop pho h.sweep p.mid q.mid q.first passes some (omega (arith, many, enough))
            (known_later u v hop h.early w p.mid p.first k) in
            let last = held_later v o (r.is_up v u pho) h.late q.mid y q.then_ in
            omega (arith, first, now, last);
      }

  -- ---- rounds

  module _ (least : ℕ) (one : 1 ≤ least) (many : number_on r.all ≤ least) (path : List NodeId) (hops : AreHops r.Hop path) (ups : AreUp r.Up path)
      (h : ℕ) (long : length path ≡ suc h) where
    abbrev node : ℕ → NodeId
    node i = get_or path i nobody

    there : (i : ℕ) → i ≤ h → slice_get path i ≡ Some (node i)
    there i low = slice_get-get_or path i nobody (omega (arith, low, long))

    known_first : (before during : List Event) (w y : r.State) → Path w during y → AreCounted before w → IsTellingRound least path before during
        → AreKnown path y
    known_first before during w y g counted round = λ i u v a b.
        let both = hops i u v a b in
        let sweeps = hop_at (λ u v. HasSweep least u v before during × HasSweep least v u before during) path round i u v a b in (
          (one_way least one many v u both.1 both.0 before during w y g counted sweeps.1).learned,
          (one_way least one many u v both.0 both.1 before during w y g counted sweeps.0).learned,
        )

    -- what a round leaves at the other end of each hop
    on : (before during : List Event) (w y : r.State) → Path w during y → AreCounted before w → AreKnown path w → IsTellingRound least path before during
        → (o : NodeId) (i : ℕ) → i < h → (r.at.held w (node i) o ≤ r.at.held y (node (suc i)) o) × (r.at.held w (node (suc i)) o ≤ r.at.held y (node i) o)
    on before during w y g counted known round o i low =
        let a = there i (omega (arith, low)) in
        let b = there (suc i) (omega (arith, low)) in
        let both = hops i (node i) (node (suc i)) a b in
        let sweeps = hop_at (λ u v. HasSweep least u v before during × HasSweep least v u before during) path round i (node i) (node (suc i)) a b in
        let k = known i (node i) (node (suc i)) a b in (
          (one_way least one many (node i) (node (suc i)) both.0 both.1 before during w y g counted sweeps.0).told o k.0,
          (one_way least one many (node (suc i)) (node i) both.1 both.0 before during w y g counted sweeps.1).told o k.1,
        )

    -- what is held at one place is held at each place that is at most as many hops away as rounds
    spreads : (n : ℕ) (before after : List Event) (w y : r.State) → Path w after y → AreCounted before w → AreKnown path w
        → TellingRounds least path n before after
        → (o : NodeId) (i j : ℕ) → i ≤ h → j ≤ h → i ≤ j + n → j ≤ i + n → r.at.held w (node j) o ≤ r.at.held y (node i) o
    spreads zero before after w y g counted known None_left o i j low_i low_j near close =
        let same : i ≡ j = omega (arith, near, close) in
        rw same (held_later (node j) o (ups j (node j) (there j low_j)) after w y g)
    spreads (suc n) before all w y g counted known (Round gap during {after = after} round rounds) o i j low_i low_j near close =
        let p = apart r.State r.Next gap (during ++ after) w y g in
        let q = apart r.State r.Next during after p.mid y p.then_ in
        let c = counted_on before gap w p.mid p.first counted in
        let first = joined r.State r.Next gap during w p.mid q.mid p.first q.first in
        let c2 = counted_on before (gap ++ during) w q.mid first counted in
        let k = known_on path hops gap w p.mid p.first known in
        let k2 = known_on path hops during p.mid q.mid q.first k in
        let up = ups j (node j) (there j low_j) in
        let come = held_later (node j) o up gap w p.mid p.first in
        let round_on = on (before ++ gap) during p.mid q.mid q.first c k round o in
        let rest = spreads n (before ++ (gap ++ during)) after q.mid y q.then_ c2 k2 rounds o i in
        let end = one_nearer h n i j (λ k. r.at.held p.mid (node k) o) (λ k. r.at.held q.mid (node k) o) (r.at.held y (node i) o)
        (held_later (node j) o up during p.mid q.mid q.first) (on (before ++ gap) during p.mid q.mid q.first c k round o)
        (λ k low around far. spreads n (before ++ (gap ++ during)) after q.mid y q.then_ c2 k2 rounds o i k low_i low around far) low_i low_j near close in
        omega (arith, come, end)

    -- after one round more than the path has hops, each node holds what any of them held
    pub all_told : (before after : List Event) (w y : r.State) → Path w after y → AreCounted before w → TellingRounds least path (suc h) before after
        → (o : NodeId) (i j : ℕ) → i ≤ h → j ≤ h → r.at.held w (node j) o ≤ r.at.held y (node i) o
    all_told before all w y g counted (Round gap during {after = after} round rounds) o i j low_i low_j =
        let p = apart r.State r.Next gap (during ++ after) w y g in
        let q = apart r.State r.Next during after p.mid y p.then_ in
        let c = counted_on before gap w p.mid p.first counted in
        let first = joined r.State r.Next gap during w p.mid q.mid p.first q.first in
        let c2 = counted_on before (gap ++ during) w q.mid first counted in
        let known = known_first (before ++ gap) during p.mid q.mid q.first c round in
        let come = held_later (node j) o (ups j (node j) (there j low_j)) (gap ++ during) w q.mid first in
        let end = spreads h (before ++ (gap ++ during)) after q.mid y q.then_ c2 known rounds o i j low_i low_j (omega (arith, low_i)) (omega (arith, low_j)) in
        omega (arith, come, end)
