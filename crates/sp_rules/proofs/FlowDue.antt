-- The acknowledgement that is due: its flow ends here, and something came of it.
use Rattle.std.proofs.Common.{◌≡◌, ◌<◌, ◌≤◌, ℕ, ◌+◌, ◌==◌, ◌&&◌, Bool, true, false, List, length, map, drop, get_or, Option, Some, None, refl, sym, ap, ◌∙◌}
use Rattle.std.proofs.Common.{subst, arith, nat_lt, length-drop}
use Rattle.std.specs.List.{position, slice_get}
use Rattle.std.specs.Option.{option_and_then, option_map}
use Rattle.std.proofs.lemmas.List.{get_or-map, length-map, get_or-drop}
use Rattle.std.proofs.lemmas.List.Quantifiers.{position-Some}
use Rattle.std.proofs.lemmas.Option.{get_or_from_slice_get}
use Rattle.sp_base.specs.Cursor.{first_active_from, next_after, or_else}
use Rattle.sp_base.specs.declared.id.Flow.{Flow}
use Rattle.sp_base.specs.declared.id.NodeId.{NodeId}
use Rattle.sp_msg.proofs.GoodFields.{good_ack, good_kack}
use Rattle.sp_msg.specs.declared.body.Ack.{Ack}
use Rattle.sp_msg.specs.declared.body.Body.{Body}
use Rattle.sp_msg.specs.declared.body.Body.TheVariants as bodies
use Rattle.sp_rules.specs.Changes.{CanConclude, FitsAFormat}
use Rattle.sp_rules.specs.Flow.{FlowState, IsStanding, ends, flow_said}
use Rattle.sp_rules.specs.Rel.{AreStanding, RelState, ack_of, due, due_place, flow_at, flow_in, is_due, plain, plain_ack, undated}
use Rattle.sp_rules.proofs.FlowJudged.{found_ends}
use Rattle.sp_rules.proofs.Standing.{standing_in}

-- ---- the place that a cycle gives is active

-- the flag in this place is set
record IsOn (active : List Bool) (place : ℕ) : Type 0 where
  pub within : place < length active
  pub on : get_or active place false ≡ true

first_is_on : (from place : ℕ) (active : List Bool) → first_active_from from active ≡ Some place → IsOn active place
first_is_on from place active e = go (position (λ on. on) (drop from active)) refl e
  where
    go : (o : Option ℕ) → position (λ on. on) (drop from active) ≡ o → option_map (λ k. from + k) o ≡ Some place → IsOn active place
    go None found e = absurd (cc)
    go (Some k) found e =
        let at : from + k ≡ place = cc in
        let facts = position-Some (λ on. on) (drop from active) k false found in
        subst (IsOn active) at (record {
          within = omega (arith, facts.0, length-drop from active);
          on = sym (get_or-drop from active k false) ∙ facts.1;
        })

either_is_on : (first second : Option ℕ) (place : ℕ) (active : List Bool) → (first ≡ Some place → IsOn active place) → (second ≡ Some place
    → IsOn active place) → or_else first second ≡ Some place → IsOn active place
either_is_on None second place active one two e = two e
either_is_on (Some x) second place active one two e = one e

next_is_on : (last : Option ℕ) (place : ℕ) (active : List Bool) → next_after last active ≡ Some place → IsOn active place
next_is_on None place active e = first_is_on 0 place active e
next_is_on (Some last) place active e =
    either_is_on (first_active_from (last + 1) active) (first_active_from 0 active) place active (first_is_on (last + 1) place active)
    (first_is_on 0 place active) e

-- ---- the flow in a due place ends here

both_true : (a b : Bool) → (a && b) ≡ true → a ≡ true
both_true true b e = refl
both_true false b e = absurd (cc)

-- the flow in whose place an acknowledgement is due has one due
pub is_due_at : (r : RelState) (place : ℕ) (f : FlowState) → due_place r ≡ Some place → slice_get r.flows place ≡ Some f → is_due r.me f ≡ true
is_due_at r place f turn there =
    let on = next_is_on r.signed place (map (is_due r.me) r.flows) turn in
    let flag : is_due r.me (get_or r.flows place f) ≡ true =
    sym (get_or-map (is_due r.me) r.flows place f false (omega (arith, on.within, length-map r.flows (is_due r.me)))) ∙ on.on in
    ap (is_due r.me) (sym (get_or_from_slice_get r.flows place f f there)) ∙ flag

due_at : (r : RelState) (place : ℕ) (f : FlowState) → due_place r ≡ Some place → slice_get r.flows place ≡ Some f → (f.dst.0 == r.me.0) ≡ true
due_at r place f turn there = both_true (f.dst.0 == r.me.0) (nat_lt f.at.base f.at.have) (is_due_at r place f turn there)

ends_here : (r : RelState) (flow : Flow) → option_and_then (flow_at r.flows) (due_place r) ≡ Some flow → (flow.dst.0 == r.me.0) ≡ true
ends_here r flow e = go (due_place r) refl e
  where
    row : (place : ℕ) → due_place r ≡ Some place → (o : Option FlowState) → slice_get r.flows place ≡ o → option_map ends o ≡ Some flow
        → (flow.dst.0 == r.me.0) ≡ true
    row place turn None there e = absurd (cc)
    row place turn (Some f) there e =
        let same : ends f ≡ flow = cc in
        ap (λ (fl : Flow). fl.dst.0 == r.me.0) (sym same) ∙ due_at r place f turn there

    go : (o : Option ℕ) → due_place r ≡ o → option_and_then (flow_at r.flows) o ≡ Some flow → (flow.dst.0 == r.me.0) ≡ true
    go None turn e = absurd (cc)
    go (Some place) turn e = row place turn (slice_get r.flows place) refl e

-- ---- it may be concluded

-- what came is active
came : (me : NodeId) (bound : ℕ) (f : FlowState) → IsStanding me bound f → 1 ≤ f.at.have → f.active ≡ true
came me bound f s some = go f.active refl
  where
    go : (t : Bool) → f.active ≡ t → f.active ≡ true
    go true is = is
    go false is = absurd (let none : f.at.have ≡ 0 = ap (λ g. g.at.have) (s.idle is) in omega (arith, none, some))

conclude_at : (r : RelState) (flow : Flow) → (flow.dst.0 == r.me.0) ≡ true → 1 ≤ (flow_in r.flows flow).at.have → AreStanding r
    → CanConclude r.me (flow_in r.flows flow)
conclude_at r flow end some standing =
    let s = standing_in r.me r.bound r.flows flow standing in
    record {
      end = ap (λ e. e.dst.0 == r.me.0) (found_ends r.flows flow) ∙ end;
      active = came r.me r.bound (flow_in r.flows flow) s some;
      sound = s.sound;
    }

-- where an acknowledgement is due, its flow can be concluded with it
pub can_conclude : (r : RelState) (body : Body) → option_map bodies.Ack (due r) ≡ Some (plain body) → FitsAFormat body → AreStanding r
    → CanConclude r.me (flow_in r.flows (flow_said body))
can_conclude r body is good standing = go (option_and_then (flow_at r.flows) (due_place r)) refl is
  where
    numbered : (body : Body) (a : Ack) → bodies.Ack a ≡ plain body → FitsAFormat body
        → (record { src = a.src; dst = a.dst } ≡ flow_said body) × (1 ≤ a.seq)
    numbered (bodies.Ack b) a is good =
        let same : a ≡ undated b = cc in
        (ap (λ (x : Ack). record { src = x.src; dst = x.dst }) same, subst (λ (x : Ack). 1 ≤ x.seq) (sym same) (good_ack good.0 b good.1).seq.0)
    numbered (bodies.Kack b) a is good =
        let same : a ≡ plain_ack b = cc in
        (ap (λ (x : Ack). record { src = x.src; dst = x.dst }) same, subst (λ (x : Ack). 1 ≤ x.seq) (sym same) (good_kack good.0 b good.1).seq.0)
    numbered (bodies.Rel b) a is good = absurd (cc)
    numbered (bodies.Krel b) a is good = absurd (cc)
    numbered (bodies.Prio b) a is good = absurd (cc)
    numbered (bodies.Weight b) a is good = absurd (cc)
    numbered (bodies.Epoch b) a is good = absurd (cc)

    go : (o : Option Flow) → option_and_then (flow_at r.flows) (due_place r) ≡ o → option_map bodies.Ack (option_map (ack_of r) o) ≡ Some (plain body)
        → CanConclude r.me (flow_in r.flows (flow_said body))
    go None turn is = absurd (cc)
    go (Some flow) turn is =
        let same : bodies.Ack (ack_of r flow) ≡ plain body = cc in
        let said = numbered body (ack_of r flow) same good in
        subst (λ (fl : Flow). CanConclude r.me (flow_in r.flows fl)) said.0 (conclude_at r flow (ends_here r flow turn) said.1 standing)
