-- What a sweep of a run leaves: each boot that its maker held at its beginning is held at the other end, if the maker knew that one's boot.
use Rattle.std.proofs.Common.{◌≡◌, ◌≤◌, ◌<◌, true, List, inl, inr, arith}
use Rattle.std.proofs.lemmas.Bool.{cases_lt}
use Rattle.sp_base.specs.declared.id.NodeId.{NodeId}
use Rattle.sp_runs.specs.Rounds.{are_passed}
use Rattle.sp_runs.specs.Runs.{polls}
use Rattle.sp_schedule_events.specs.declared.event.Event.{Event}
use Rattle.laws_progress.proofs.Facts.{Goes}
use Rattle.laws_progress.proofs.Service.{number_on}
use Rattle.laws_progress.proofs.SpreadFacts.{IsTold, Spreading}
use Rattle.laws_progress.proofs.Sweeps.{Turning, rises, some_heard, stays, swept}

module _ (r : Spreading) where
  abbrev Path : r.State → List Event → r.State → Type 0
  Path w es y = Goes r.State r.Next w es y

  -- what is held of starts goes in turn
  abbrev starts : NodeId → Turning
  starts o = record {
    State = r.State;
    Next = r.Next;
    Hop = r.Hop;
    polled = r.at.polled;
    actives = r.at.rows;
    last = r.at.last;
    among = r.all;
    place = r.place o;
    Holds = λ w u. 0 < r.at.held w u o;
    Serves = λ w u v. r.at.knows w u v ≡ true;
    Heard = λ w z u v. IsTold r.State r.at r.place w z u v;
    one_polled = r.one_polled;
    none_polled = r.none_polled;
    serves = r.carries;
    serves_none = r.carries_none;
    within = λ w u v hop. r.within w u (r.is_up u v hop);
    active = λ w u v hop some. r.row_there w u o (r.is_up u v hop) some;
    holds_on = λ w x e u v hop next some. let rise = r.held_rises w x e u o (r.is_up u v hop) next in omega (arith, some, rise);
    serves_on = λ w x e u v hop next knows. r.known w x e u v hop next knows;
    heard = r.told;
  }

  -- after a sweep its other end knows its maker's boot
  pub sweep_learned : (u v : NodeId) → r.Hop u v → r.Hop v u → (es : List Event) (w y : r.State) → Path w es y
      → are_passed u v (r.at.polled w u v) es ≡ true → 1 ≤ polls es u v → r.at.knows y v u ≡ true
  sweep_learned u v hop pho es w y g passes one =
      let t = some_heard (starts u) u v hop es w y g passes one in
      stays r.State r.Next (λ x. r.at.knows x v u) (λ p q e n. r.known p q e v u pho n) t.after t.came y t.then_ t.heard.learned

  -- and where its maker knew the other end's, that one holds each boot that the maker held
  pub sweep_told : (o u v : NodeId) → r.Hop u v → r.Hop v u → (es : List Event) (w y : r.State) → Path w es y
      → are_passed u v (r.at.polled w u v) es ≡ true → 1 ≤ polls es u v → number_on r.all ≤ polls es u v → r.at.knows w u v ≡ true
      → r.at.held w u o ≤ r.at.held y v o
  sweep_told o u v hop pho es w y g passes one enough knows = elim (cases_lt 0 (r.at.held w u o)) [
    | inr none ↦ omega (arith, none)
    | inl some ↦
        let t = swept (starts o) u v hop es w y g passes one enough some knows in
        let it = t.it in
        let k = stays r.State r.Next (λ x. r.at.knows x u v) (λ p q e n. r.known p q e u v hop n) it.before w it.made it.first knows in
        let before = rises r.State r.Next (λ x. r.at.held x u o) (λ p q e n. r.held_rises p q e u o (r.is_up u v hop) n) it.before w it.made it.first in
        let now = it.heard.told o k t.turn in
        let after = rises r.State r.Next (λ x. r.at.held x v o) (λ p q e n. r.held_rises p q e v o (r.is_up v u pho) n) it.after it.came y it.then_ in
        omega (arith, before, now, after)
  ]
