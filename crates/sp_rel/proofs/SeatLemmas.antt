-- For the callers of a table: a seat stays good whatever makes flows active after it.
use Rattle.std.proofs.Common.{◌≡◌, ℕ, ◌==◌, ◌&&◌, Bool, true, false, List, [], ◌∷◌, refl, sym, ap, ◌∙◌, subst, arith, cond, not}
use Rattle.std.proofs.lemmas.Bool.Decides.{nat_tests}
use Rattle.sp_base.specs.declared.id.Flow.{Flow}
use Rattle.sp_base.specs.declared.id.NodeId.{NodeId}
use Rattle.sp_msg.specs.declared.body.Body.{Body}
use Rattle.sp_msg.specs.declared.body.Body.TheVariants as bodies
use Rattle.sp_rel.specs.Seats.{SeatState}
use Rattle.sp_rules.specs.Flow.{FlowState, ends, flow_said, is_flow}
use Rattle.sp_rules.specs.Rel.{RelState, are_ends, flow_in, is_node, judge_ack, judge_ack_of, judge_rel, judge_rel_of, put_flow, with_flow}
use Rattle.sp_rules.specs.declared.rel.AckJudged.{AckJudged}
use Rattle.sp_rules.specs.declared.rel.AckJudged.TheVariants as acks
use Rattle.sp_rules.specs.declared.rel.RelJudged.{RelJudged}
use Rattle.sp_rules.specs.declared.rel.RelJudged.TheVariants as rels
use Rattle.sp_rel.specs.Seated.{IsSeated}

same_row : (k flow : Flow) (x : FlowState) → is_flow k x ≡ true → is_flow flow x ≡ true → (f : FlowState) → ends f ≡ k → is_flow flow f ≡ true
same_row k flow x at there f is = go (x.src.0 == k.src.0) refl (x.dst.0 == k.dst.0) refl (x.src.0 == flow.src.0) refl (x.dst.0 == flow.dst.0) refl at there
  where
    go : (a : Bool) → (x.src.0 == k.src.0) ≡ a → (b : Bool) → (x.dst.0 == k.dst.0) ≡ b → (c : Bool) → (x.src.0 == flow.src.0) ≡ c → (d : Bool)
        → (x.dst.0 == flow.dst.0) ≡ d
        → (a && b) ≡ true → (c && d) ≡ true → is_flow flow f ≡ true
    go true a true b true c true d one two =
        let src : (f.src.0 == flow.src.0) ≡ true = grind (arith, nat_tests, ap (λ (e : Flow). e.src.0) is) in
        let dst : (f.dst.0 == flow.dst.0) ≡ true = grind (arith, nat_tests, ap (λ (e : Flow). e.dst.0) is) in
        rw (src, dst) refl
    go false a b is_b c is_c d is_d one two = absurd (cc)
    go true a false b c is_c d is_d one two = absurd (cc)
    go true a true b false c d is_d one two = absurd (cc)
    go true a true b true c false d one two = absurd (cc)

-- where an active row was put, what isn't active wasn't before
was_idle : (flows : List FlowState) (k flow : Flow) (f : FlowState) → ends f ≡ k → f.active ≡ true
    → (flow_in (put_flow flows k f) flow).active ≡ false → (flow_in flows flow).active ≡ false
was_idle [] k flow f is on off = off
was_idle (x ∷ flows) k flow f is on off = go (is_flow k x) refl (is_flow flow x) refl (was_idle flows k flow f is on) off
  where
    put : (u : Bool) → is_flow flow f ≡ u → is_flow flow x ≡ false → (cond u f (flow_in flows flow)).active ≡ false → (flow_in flows flow).active ≡ false
    put true there other off = absurd (let both : true ≡ false = sym on ∙ off in cc)
    put false there other off = off

    go : (t : Bool) → is_flow k x ≡ t → (u : Bool) → is_flow flow x ≡ u → ((flow_in (put_flow flows k f) flow).active ≡ false
        → (flow_in flows flow).active ≡ false)
        → (flow_in (cond t (f ∷ flows) (x ∷ put_flow flows k f)) flow).active ≡ false → (cond u x (flow_in flows flow)).active ≡ false
    go true at true there others off = absurd (let mine = same_row k flow x at there f is in let first : f.active ≡ false =
        rw mine at off in let both : true ≡ false = sym on ∙ first in cc)
    go true at false there others off = put (is_flow flow f) refl there off
    go false at true there others off = rw there at off
    go false at false there others off = others (rw there at off)

-- a seat in a table of flows stays one where an active flow's row is put back
pub stays_seated : (r : RelState) (k flow : Flow) (f : FlowState) (seat : SeatState) → ends f ≡ k → f.active ≡ true → IsSeated r flow seat
    → IsSeated (with_flow r k f) flow seat
stays_seated r k flow f seat is on seated off = seated (was_idle r.flows k flow f is on off)
