-- A client's take makes room at the destination.
use Rattle.std.proofs.Common.{◌≡◌, ◌≤◌, ◌<◌, ℕ, ◌+◌, ◌-◌, true, false, List, [], ◌∷◌, length, drop, refl, ap, ◌∙◌, inl, inr, arith}
use Rattle.std.proofs.lemmas.Bool.{cases_Bool, eqb-true}
use Rattle.sp_base.specs.declared.id.Flow.{Flow}
use Rattle.sp_base.specs.declared.id.NodeId.{NodeId}
use Rattle.sp_rules.proofs.FlowJudged.{found_ends}
use Rattle.sp_rules.specs.Flow.{FlowState, after_take, is_flow, no_flow}
use Rattle.sp_rules.specs.Rel.{flow_in, put_flow}
use Rattle.laws_runs.proofs.FlowFacts.{is_its}
use Rattle.laws_runs.proofs.Lists.{both}
use Rattle.laws_runs.proofs.Tables.{same_node}
use Rattle.sp_schedule_events.specs.declared.event.Event.{Event}
use Rattle.sp_schedule_events.specs.declared.event.Event.TheVariants as events
use Rattle.sp_runs.specs.Rounds.{is_take}
use Rattle.sp_rules.specs.declared.kflow.FlowKind.TheVariants.{Plain}
use Rattle.sp_rules.specs.declared.kflow.FlowKind.{FlowKind}
use Rattle.sp_rules.specs.declared.kflow.FlowKind.TheVariants.{Paths}

-- the event by which a client takes, of flows of a kind
abbrev pub take_event : FlowKind → NodeId → NodeId → Event
take_event Plain d s = events.Take d s
take_event Paths d s = events.KTake d s

pub take_is : (kind : FlowKind) (d s : NodeId) (e : Event) → is_take kind d s e ≡ true → e ≡ take_event kind d s
take_is Plain d s (events.Take a b) is =
    let t = both _ _ is in
    ap (λ z. events.Take z b) (same_node a d (eqb-true _ _ t.0)) ∙ ap (events.Take d) (same_node b s (eqb-true _ _ t.1))
take_is Paths d s (events.KTake a b) is =
    let t = both _ _ is in
    ap (λ z. events.KTake z b) (same_node a d (eqb-true _ _ t.0)) ∙ ap (events.KTake d) (same_node b s (eqb-true _ _ t.1))
take_is Plain d s (events.Rel a b c) is = absurd (let e : false ≡ true = is in cc)
take_is Plain d s (events.Prio a b c f g h) is = absurd (let e : false ≡ true = is in cc)
take_is Plain d s (events.Krel a b c f) is = absurd (let e : false ≡ true = is in cc)
take_is Plain d s (events.KTake a b) is = absurd (let e : false ≡ true = is in cc)
take_is Plain d s (events.TakePrio a) is = absurd (let e : false ≡ true = is in cc)
take_is Plain d s (events.Tick a b) is = absurd (let e : false ≡ true = is in cc)
take_is Plain d s (events.Weight a b c) is = absurd (let e : false ≡ true = is in cc)
take_is Plain d s (events.Poll a b) is = absurd (let e : false ≡ true = is in cc)
take_is Plain d s (events.Pass a b c) is = absurd (let e : false ≡ true = is in cc)
take_is Plain d s (events.Flip a b c f g) is = absurd (let e : false ≡ true = is in cc)
take_is Plain d s (events.Inject a b c) is = absurd (let e : false ≡ true = is in cc)
take_is Plain d s (events.Craft a b c f) is = absurd (let e : false ≡ true = is in cc)
take_is Plain d s (events.CraftStatus a b c f g h) is = absurd (let e : false ≡ true = is in cc)
take_is Plain d s (events.Start a) is = absurd (let e : false ≡ true = is in cc)
take_is Plain d s (events.Publish a b) is = absurd (let e : false ≡ true = is in cc)
take_is Plain d s (events.CraftDocument a b c f g) is = absurd (let e : false ≡ true = is in cc)
take_is Plain d s (events.Stop a) is = absurd (let e : false ≡ true = is in cc)
take_is Paths d s (events.Rel a b c) is = absurd (let e : false ≡ true = is in cc)
take_is Paths d s (events.Prio a b c f g h) is = absurd (let e : false ≡ true = is in cc)
take_is Paths d s (events.Take a b) is = absurd (let e : false ≡ true = is in cc)
take_is Paths d s (events.Krel a b c f) is = absurd (let e : false ≡ true = is in cc)
take_is Paths d s (events.TakePrio a) is = absurd (let e : false ≡ true = is in cc)
take_is Paths d s (events.Tick a b) is = absurd (let e : false ≡ true = is in cc)
take_is Paths d s (events.Weight a b c) is = absurd (let e : false ≡ true = is in cc)
take_is Paths d s (events.Poll a b) is = absurd (let e : false ≡ true = is in cc)
take_is Paths d s (events.Pass a b c) is = absurd (let e : false ≡ true = is in cc)
take_is Paths d s (events.Flip a b c f g) is = absurd (let e : false ≡ true = is in cc)
take_is Paths d s (events.Inject a b c) is = absurd (let e : false ≡ true = is in cc)
take_is Paths d s (events.Craft a b c f) is = absurd (let e : false ≡ true = is in cc)
take_is Paths d s (events.CraftStatus a b c f g h) is = absurd (let e : false ≡ true = is in cc)
take_is Paths d s (events.Start a) is = absurd (let e : false ≡ true = is in cc)
take_is Paths d s (events.Publish a b) is = absurd (let e : false ≡ true = is in cc)
take_is Paths d s (events.CraftDocument a b c f g) is = absurd (let e : false ≡ true = is in cc)
take_is Paths d s (events.Stop a) is = absurd (let e : false ≡ true = is in cc)

put_or : (P : FlowState → Type 0) (flow : Flow) (g : FlowState) (fs : List FlowState) → is_flow flow g ≡ true → P g
    → (flow_in fs flow ≡ no_flow flow → P (no_flow flow)) → P (flow_in (put_flow fs flow g) flow)
put_or P flow g [] is p none = none refl
put_or P flow g (f ∷ fs) is p none = elim (cases_Bool (is_flow flow f)) [
  | inl t ↦ rw (t, is) p
  | inr t ↦ let later : flow_in fs flow ≡ no_flow flow → P (no_flow flow) = λ e. none (rw t e) in rw (t, t) (put_or P flow g fs is p later)
]

less_one : (xs : List (List ℕ)) (bound : ℕ) → 1 ≤ bound → length xs ≤ bound → length (drop 1 xs) < bound
less_one [] bound some most = omega (arith, some)
less_one (x ∷ xs) bound some most = omega (arith, most)

pub room_at : (flow : Flow) (fs : List FlowState) (bound : ℕ) → 1 ≤ bound → length (flow_in fs flow).inbox ≤ bound
    → (flow_in fs flow).at.have < (flow_in (put_flow fs flow (after_take (flow_in fs flow))) flow).at.have
    - length (flow_in (put_flow fs flow (after_take (flow_in fs flow))) flow).inbox + bound
room_at flow fs bound some most =
    let f = flow_in fs flow in
    put_or (λ g. f.at.have < g.at.have - length g.inbox + bound) flow (after_take f) fs (is_its (after_take f) flow (found_ends fs flow))
    (let less = less_one f.inbox bound some most in omega (arith, less))
    (λ e. let none = ap (λ (g : FlowState). g.at.have) e in omega (arith, none, some))
