-- The count of flows never falls.
use Rattle.std.proofs.Common.{cond, ◌≡◌, ◌≤◌, ℕ, Bool, true, false, List, [], ◌∷◌, ◌++◌, refl, ap, inl, inr, arith}
use Rattle.std.specs.Prelude.{◌&&◌, count_by}
use Rattle.std.specs.List.{list_any}
use Rattle.std.proofs.lemmas.Bool.{cases_Bool}
use Rattle.sp_base.specs.declared.id.Flow.{Flow}
use Rattle.sp_rules.specs.Parts.{nodes_of}
use Rattle.sp_rules.specs.Rel.{pairs_of}
use Rattle.sp_runs.specs.Rounds.{has_correct_ends, is_send}
use Rattle.sp_schedule_events.specs.declared.event.Event.{Event}
use Rattle.laws_progress.proofs.Places.{counts_one}
use Rattle.laws_progress.specs.Counts.{FlowCountNeverFalls}

any_more : (p : Event → Bool) (es later : List Event) → list_any p es ≡ true → list_any p (es ++ later) ≡ true
any_more p [] later is = absurd (let e : false ≡ true = is in cc)
any_more p (e ∷ es) later is = elim (cases_Bool (p e)) [
  | inl t ↦ rw t refl
  | inr t ↦ rw t (any_more p es later (rw t at is))
]

counts_more : (p q : Flow → Bool) → ((f : Flow) → p f ≡ true → q f ≡ true) → (fs : List Flow) → count_by p fs ≤ count_by q fs
counts_more p q less [] = omega arith
counts_more p q less (f ∷ fs) =
    let rest = counts_more p q less fs in
    let one = counts_one p f fs in
    let two = counts_one q f fs in
    elim (cases_Bool (p f)) [
      | inl t ↦
          let p_is = ap {B = ℕ} (λ z. cond z 1 0) t in
          let q_is = ap {B = ℕ} (λ z. cond z 1 0) (less f t) in
          omega (arith, rest, one, two, p_is, q_is)
      | inr t ↦ let p_is = ap {B = ℕ} (λ z. cond z 1 0) t in omega (arith, rest, one, two, p_is)
    ]

and_more : (a b c : Bool) → (b ≡ true → c ≡ true) → (a && b) ≡ true → (a && c) ≡ true
and_more true b c less is = less is
and_more false b c less is = is

pub flow_counts_never_fall : FlowCountNeverFalls
flow_counts_never_fall kind x es later =
    let more = counts_more (λ flow. has_correct_ends x flow && list_any (is_send kind flow) es)
    (λ flow. has_correct_ends x flow && list_any (is_send kind flow) (es ++ later))
    (λ flow is. and_more (has_correct_ends x flow) (list_any (is_send kind flow) es) (list_any (is_send kind flow) (es ++ later))
    (any_more (is_send kind flow) es later) is)
    (pairs_of (nodes_of x.topology)) in
    omega (arith, more)
