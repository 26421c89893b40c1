-- Every run without forgery breaks no promise that an auditor asks for.
use Rattle.std.proofs.Common.{◌≡◌, ◌≤◌, ℕ, zero, suc, ◌==◌, true, false, List, [], ◌∷◌, ◌++◌, length, refl, sym, ap, subst, ◌∙◌, inl, inr, arith}
use Rattle.std.specs.Prelude.{IsTrue}
use Rattle.std.specs.List.{All}
use Rattle.std.proofs.lemmas.Bool.{cases_Bool, cases_eq, eqb-true}
use Rattle.std.proofs.lemmas.List.{length-map}
use Rattle.std.proofs.lemmas.List.Elements.{All-head, All-tail}
use Rattle.sp_base.specs.Lists.{IsPrefix}
use Rattle.sp_base.specs.declared.id.NodeId.{NodeId}
use Rattle.sp_msg.specs.declared.effect.Effect.{Effect}
use Rattle.sp_rules.specs.Arts.{Arts}
use Rattle.sp_rules.specs.declared.kflow.FlowKind.{FlowKind}
use Rattle.sp_rules.specs.PrioPeer.{PrioPeer}
use Rattle.sp_rules.specs.Prio.{PrioState}
use Rattle.sp_runs.specs.Held.{Held, held, held_in}
use Rattle.sp_runs.specs.Inputs.{acting}
use Rattle.sp_runs.specs.Runs.{Clean, Starts, Turned}
use Rattle.sp_runs.specs.Settings.{Setting, StaysUp, is_correct}
use Rattle.sp_runs.specs.Told.{Message, delivered, effects_at, sent, told_at}
use Rattle.sp_runs.specs.Worlds.{World}
use Rattle.sp_journal.specs.declared.entry.Entry.{Entry}
use Rattle.sp_schedule_events.specs.declared.event.Event.{Event}
use Rattle.laws_runs.specs.Good.{IsGood, RunsAreGood}
use Rattle.laws_runs.specs.Places.{PlacesAre, Shelf, StoreIs, all_held, as_held, played, row_store, store_at}
use Rattle.laws_runs.specs.Premises.{Carries}
use Rattle.laws_runs.specs.Signs.{Signs}
use Rattle.laws_runs.proofs.Beginnings.{beginnings_are_clean}
use Rattle.laws_runs.proofs.FlowPlain.{flows_are_kept}
use Rattle.laws_runs.proofs.Lists.{both, here_is, nothing_told, told_more}
use Rattle.laws_runs.proofs.OwnDeliveries.{none_of_its_own}
use Rattle.laws_runs.proofs.PlaceFacts.{row_here, row_there}
use Rattle.laws_runs.proofs.PlaceRuns.{evictions_leave_shares, places_are_told}
use Rattle.laws_runs.proofs.Plain.{Goes, Plain, Rests, plain_turn}
use Rattle.laws_runs.proofs.Played.{held_from_start}
use Rattle.laws_runs.proofs.PrioRuns.{priority_is_kept}
use Rattle.laws_runs.proofs.Signed.{signs}
use Rattle.laws_runs.proofs.Tables.{same_node}
use Rattle.laws_runs.proofs.There.{correct_nodes_are_there}

-- ---- what was delivered

in_order : (kind : FlowKind) (arts : Arts) (x : Setting) (es : List Event) (js : List Entry) (w : World) → StaysUp arts x → Carries x.topology.format arts
    → Clean arts x es js w
    → (s d : NodeId) → IsTrue (is_correct x s) → IsTrue (is_correct x d) → IsPrefix (delivered kind es js s d) (sent kind es js s d)
in_order kind arts x es js w fits reads run s d from to = elim (cases_eq s.0 d.0) [
  | inl same ↦
      let is : s ≡ d = same_node s d same in
      subst (λ (v : NodeId). IsPrefix (delivered kind es js s v) (sent kind es js s v)) is
      (subst (λ (ms : List Message). IsPrefix ms (sent kind es js s s)) (sym (none_of_its_own kind arts x es js w fits reads run s))
      (sent kind es js s s, refl))
  | inr other ↦ (flows_are_kept kind arts x es js w fits reads run s d (both _ _ from).0 to (λ same. other (ap (λ (v : NodeId). v.0) same))).prefix from
]

-- ---- what a place holds

-- a node that isn't correct makes no step, so no effect is told of it
no_effects : (arts : Arts) (x : Setting) (es : List Event) (js : List Entry) (w : World) → StaysUp arts x → Carries x.topology.format arts
    → Clean arts x es js w
    → (u : NodeId) → is_correct x u ≡ false → effects_at es js u ≡ []
no_effects arts x es js w fits reads Starts u wrong = refl
no_effects arts x es js w fits reads (Turned {es = es'} {js = js'} {old = old} {e = e} {j = j} run range turn unforged) u wrong =
    go (no_effects arts x es' js' old fits reads run u wrong) (plain_turn arts x es' js' old w e j fits.plain turn unforged)
  where
    are : Signs arts x es' js' old
    are = signs arts x es' js' old fits.fits reads run

    go : effects_at es' js' u ≡ [] → Plain arts x es' js' old e j w → effects_at (es' ++ e ∷ []) (js' ++ j ∷ []) u ≡ []
    go before (Goes m none) =
        told_more (told_at u (λ y. y ∷ [])) es' js' e j are.entries
        ∙ ap (λ (t : List Effect). t ++ told_at u (λ y. y ∷ []) (e, j)) before
        ∙ here_is u (λ y. y ∷ []) e j m.output.effects m.journal.effects
        ∙ elim (cases_Bool ((acting e).0 == u.0)) [
          | inl t ↦
              let right : is_correct x u ≡ true =
              subst (λ (v : NodeId). is_correct x v ≡ true) (same_node (acting e) u (eqb-true (acting e).0 u.0 t))
              (are.nodes (acting e) m.node m.is_there).correct in
              absurd (let f : true ≡ false = sym right ∙ wrong in cc)
          | inr t ↦ rw t refl
        ]
    go before (Rests s) = nothing_told u (λ y. y ∷ []) es' js' e j are.entries s.effects ∙ before

row_few : (capacity place : ℕ) (qs : List PrioPeer) → All (λ q. StoreIs capacity q.store) qs → length (row_store qs place).entries ≤ capacity
row_few capacity place [] all = omega arith
row_few capacity place (q ∷ qs) all = elim (cases_Bool (q.peer == place)) [
  | inl t ↦
      let is = All-head (λ (r : PrioPeer). StoreIs capacity r.store) q qs all in
      rw (row_here place q qs t) (omega (arith, is.few, is.capacity_is))
  | inr t ↦ rw (row_there place q qs t) (row_few capacity place qs (All-tail (λ (r : PrioPeer). StoreIs capacity r.store) q qs all))
]

place_few : (capacity : ℕ) (p : PrioState) (place : ℕ) → PlacesAre capacity p → length (all_held (store_at p place).entries) ≤ capacity
place_few capacity p zero are = omega (arith, length-map p.inbox.entries as_held, are.inbox.few, are.inbox.capacity_is)
place_few capacity p (suc v) are = omega (arith, length-map (row_store p.peers (suc v)).entries as_held, row_few capacity (suc v) p.peers are.peers)

in_bounds : (arts : Arts) (x : Setting) (es : List Event) (js : List Entry) (w : World) → StaysUp arts x → Carries x.topology.format arts
    → Clean arts x es js w
    → (u : NodeId) (place : ℕ) → length (held es js u place) ≤ x.store
in_bounds arts x es js w fits reads run u place = elim (cases_Bool (is_correct x u)) [
  | inl right ↦
      let at = (correct_nodes_are_there arts x es js w fits reads run).there u right in
      let part = places_are_told arts x es js w fits reads run in
      let told : held es js u place ≡ (played es js u place).held = held_from_start x.store place (effects_at es js u) (part.shares u place) in
      let has : held es js u place ≡ all_held (store_at at.0.parts.prio place).entries = told ∙ ap (λ (st : Shelf). st.held) (part.held_is u at.0 place at.1) in
      subst (λ (hs : List Held). length hs ≤ x.store) (sym has) (place_few x.store at.0.parts.prio place (part.nodes u at.0 at.1))
  | inr wrong ↦ subst (λ (es : List Effect). length (held_in place es) ≤ x.store) (sym (no_effects arts x es js w fits reads run u wrong)) (omega arith)
]

-- ---- all promises

-- a run without forgery is good in every state
pub is_good : (arts : Arts) (x : Setting) (es : List Event) (js : List Entry) (w : World) → StaysUp arts x → Carries x.topology.format arts
    → Clean arts x es js w → IsGood x es js
is_good arts x es js w fits reads run = record {
  prefix = λ kind s d from to. in_order kind arts x es js w fits reads run s d from to;
  once = λ s d to. (priority_is_kept arts x es js w fits reads run s d to).once;
  bounded = λ u place. in_bounds arts x es js w fits reads run u place;
  shares = λ u place. evictions_leave_shares arts x es js w fits reads run u place;
}

pub runs_are_good : RunsAreGood
runs_are_good arts x es js w fits reads run n =
    let beginning = beginnings_are_clean arts x es js w run n in
    is_good arts x _ _ beginning.0 fits reads beginning.1
