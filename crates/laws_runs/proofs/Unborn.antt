-- In a run without epochs all boots that nodes hold stay 0, and so are those that their messages name.
use Rattle.std.proofs.Common.{◌≡◌, ◌==◌, ℕ, Bool, true, false, List, [], ◌∷◌, Option, Some, None, refl, ap, ◌∙◌}
use Rattle.std.specs.Prelude.{IfSome}
use Rattle.std.specs.List.{All}
use Rattle.std.proofs.lemmas.List.Elements.{All-nil}
use Rattle.sp_base.specs.declared.id.Flow.{Flow}
use Rattle.sp_base.specs.declared.id.NodeId.{NodeId}
use Rattle.sp_msg.specs.declared.body.Body.{Body}
use Rattle.sp_msg.specs.declared.body.Body.TheVariants as bodies
use Rattle.sp_msg.specs.declared.kept.Kept.{Kept}
use Rattle.sp_rules.specs.Arrivals.{arrival_at, parts_met, before_document, document_at, read_by}
use Rattle.sp_rules.specs.Arts.{Arts}
use Rattle.sp_rules.specs.Flow.{FlowState, ends, is_flow, no_flow}
use Rattle.sp_rules.specs.Handle.{Arrival, handle, handle_all}
use Rattle.sp_rules.specs.Lives.{are_held, held_boot, is_dated, start}
use Rattle.sp_rules.specs.KflowSends.{send_krel_refusal}
use Rattle.sp_rules.specs.Node.{NodeState, call_refusal, kept_or, called, link_in, with_link}
use Rattle.sp_rules.specs.Parts.{Parts, flows_of}
use Rattle.sp_rules.specs.Pieces.{Piece}
use Rattle.sp_rules.specs.Rel.{RelState, flow_in}
use Rattle.sp_rules.specs.Sends.{rel_refusal, send_prio_refusal, signer_refusal, weight_refusal}
use Rattle.sp_rules.specs.Steps.{Input, NodeStep, Output, Poll, Datagram, Tick, SendRel, SendPrio, SetWeight, TakeRel, TakePrio, SendKrel, TakeKrel, Publish}
use Rattle.sp_rules.specs.Ticks.{after_plain, at_time, due_now, second_refusal}
use Rattle.sp_rules.specs.declared.kflow.FlowKind.TheVariants.{Plain, Paths}
use Rattle.sp_rules.specs.declared.lives.Life.{Life}
use Rattle.sp_rules.specs.Link.{advanced}
use Rattle.sp_rules.specs.Polls.{is_served, parts_after, polled}
use Rattle.laws_node.proofs.Tables.{all_first, all_weaker, cond_either}
use Rattle.laws_node.proofs.Adopting.{publishing, reading}
use Rattle.laws_runs.specs.Dated.{AreDated, FlowDated, NamesHeld}
use Rattle.laws_runs.specs.Unborn.{FlowUnborn, HoldNone, NamesNone, Unborn}
use Rattle.laws_runs.proofs.EachKind.{settled_lives}
use Rattle.laws_runs.proofs.NoStarts.{NoStarts, met_as_it_was, no_starts_at, pieces_at}
use Rattle.laws_runs.proofs.StartPieces.{same_lives}

-- ---- boots

-- where no start is known, the boots that a message names are held where they are 0
pub none_held : (lives : List Life) → HoldNone lives → (flow : Flow) (sboot dboot : ℕ) → sboot ≡ 0 → dboot ≡ 0 → are_held lives flow sboot dboot ≡ true
none_held lives none flow sboot dboot s d = rw (s, d, none flow.src, none flow.dst) refl

pub none_dated : (lives : List Life) → HoldNone lives → (body : Body) → NamesNone body → is_dated lives body ≡ true
none_dated lives none (bodies.Prio p) names = rw (names, none p.src) refl
none_dated lives none (bodies.Rel r) names = none_held lives none (record { src = r.src; dst = r.dst }) r.sboot r.dboot names.0 names.1
none_dated lives none (bodies.Ack a) names = none_held lives none (record { src = a.src; dst = a.dst }) a.sboot a.dboot names.0 names.1
none_dated lives none (bodies.Krel r) names = none_held lives none (record { src = r.src; dst = r.dst }) r.sboot r.dboot names.0 names.1
none_dated lives none (bodies.Kack a) names = none_held lives none (record { src = a.src; dst = a.dst }) a.sboot a.dboot names.0 names.1
none_dated lives none (bodies.Weight w) names = refl
none_dated lives none (bodies.Epoch x) names = refl

-- ---- flows

none_unborn : (flow : Flow) → FlowUnborn (no_flow flow)
none_unborn flow = record { messages = All-nil (λ o. NamesNone o.body); ack = tt }

pub flow_unborn : (r : RelState) (flow : Flow) → All FlowUnborn r.flows → FlowUnborn (flow_in r.flows flow)
flow_unborn r flow h = all_first FlowUnborn (is_flow flow) (no_flow flow) r.flows h (none_unborn flow)

-- what names the boots that are held names none
held_none : (lives : List Life) → HoldNone lives → (flow : Flow) (body : Body) → NamesHeld lives flow body → NamesNone body
held_none lives none flow (bodies.Rel r) h = (h.source ∙ none flow.src, h.end ∙ none flow.dst)
held_none lives none flow (bodies.Ack a) h = (h.source ∙ none flow.src, h.end ∙ none flow.dst)
held_none lives none flow (bodies.Krel r) h = (h.source ∙ none flow.src, h.end ∙ none flow.dst)
held_none lives none flow (bodies.Kack a) h = (h.source ∙ none flow.src, h.end ∙ none flow.dst)
held_none lives none flow (bodies.Prio p) h = absurd h
held_none lives none flow (bodies.Weight w) h = absurd h
held_none lives none flow (bodies.Epoch x) h = absurd h

pub unborn_of : (p : Parts) → HoldNone p.lives → AreDated p → Unborn p
unborn_of p none dated = record { lives = none; flows = λ kind. all_weaker (FlowDated p.lives) FlowUnborn (flows_of kind p).flows one (dated kind) }
  where
    kept : {P Q : Kept → Type 0} (ack : Option Kept) → ((o : Kept) → P o → Q o) → IfSome ack P → IfSome ack Q
    kept None less is = tt
    kept (Some o) less is = less o is

    one : (f : FlowState) → FlowDated p.lives f → FlowUnborn f
    one f h = record {
      messages = all_weaker (λ o. NamesHeld p.lives (ends f) o.body) (λ o. NamesNone o.body) f.at.list (λ o. held_none p.lives none (ends f) o.body) h.messages;
      ack = kept f.ack (λ o. held_none p.lives none (ends f) o.body) h.ack;
    }

-- ---- steps

pieces_stay : (arts : Arts) (at : Arrival) (p : Parts) (pieces : List Piece) → NoStarts pieces → (handle_all arts at p pieces).parts.lives ≡ p.lives
pieces_stay arts at p [] none = refl
pieces_stay arts at p (piece ∷ pieces) none = pieces_stay arts at (handle arts at p piece).parts pieces none.1 ∙ same_lives arts at p piece none.0

kept_lives : {X : Type 0} (r : Option X) (n m : NodeState) → m.parts.lives ≡ n.parts.lives → (kept_or r n m).parts.lives ≡ n.parts.lives
kept_lives None n m same = same
kept_lives (Some x) n m same = refl

-- without epochs no held boot changes
pub lives_stay : (arts : Arts) (n : NodeState) (input : Input) (output : Output) (new : NodeState) → NodeStep arts n input output new → n.fixed.epochs ≡ false
    → new.parts.lives ≡ n.parts.lives
lives_stay arts n (Poll v) output new s without =
    ap (λ (m : NodeState). m.parts.lives) s.1
    ∙ kept_lives (call_refusal n v) n (called n (with_link n v (advanced (link_in n v))) (parts_after n v))
    (cond_either (λ (p : Parts). p.lives ≡ n.parts.lives) (is_served n v) (polled n.fixed n.parts v) n.parts refl refl)
lives_stay arts n (Datagram v bytes) output new s without =
    let left = before_document arts n v bytes in
    let first : left.parts.lives ≡ n.parts.lives =
    pieces_stay arts (arrival_at n v) (parts_met arts n v bytes) (pieces_at arts n v bytes) (no_starts_at arts n v bytes without)
    ∙ ap (λ (p : Parts). p.lives) (met_as_it_was arts n v bytes without) in
    ap (λ (m : NodeState). m.parts.lives) s.1 ∙ kept_lives (call_refusal n v) n (read_by arts left (document_at arts n v bytes))
    (reading arts left (document_at arts n v bytes) (λ m told. m.parts.lives ≡ n.parts.lives) first (λ document d is reads by. first))
lives_stay arts n (Tick now) output new s without =
    ap (λ (m : NodeState). m.parts.lives) s.1 ∙ settled_lives arts Paths (after_plain arts n now) (due_now Paths n) (second_refusal arts n now)
    ∙ settled_lives arts Plain (at_time n now) (due_now Plain n) (signer_refusal n.signer)
lives_stay arts n (SendRel dst payload) output new s without = ap (λ (m : NodeState). m.parts.lives) s.1 ∙ kept_lives (rel_refusal n dst) n _ refl
lives_stay arts n (SendPrio m) output new s without = ap (λ (y : NodeState). y.parts.lives) s.new_is ∙ kept_lives (send_prio_refusal n m s.choice) n _ refl
lives_stay arts n (SetWeight v weight) output new s without = ap (λ (m : NodeState). m.parts.lives) s.1 ∙ kept_lives (weight_refusal n v weight) n _ refl
lives_stay arts n (TakeRel src) output new s without = ap (λ (m : NodeState). m.parts.lives) s.1
lives_stay arts n (SendKrel m) output new s without = ap (λ (y : NodeState). y.parts.lives) s.new_is ∙ kept_lives (send_krel_refusal n m s.choice) n _ refl
lives_stay arts n (TakeKrel src) output new s without = ap (λ (m : NodeState). m.parts.lives) s.1
lives_stay arts n TakePrio output new s without = ap (λ (m : NodeState). m.parts.lives) s.1
lives_stay arts n (Publish document) output new s without =
    ap (λ (m : NodeState). m.parts.lives) s.1 ∙ publishing arts n document (λ m told. m.parts.lives ≡ n.parts.lives) refl (λ d reads by. refl)

-- ---- the start

pub none_at_start : (nodes : List NodeId) → HoldNone (start nodes)
none_at_start [] v = refl
none_at_start (u ∷ nodes) v = go (u.0 == v.0) refl (none_at_start nodes v)
  where
    go : (t : Bool) → (u.0 == v.0) ≡ t → held_boot (start nodes) v ≡ 0 → held_boot (start (u ∷ nodes)) v ≡ 0
    go true e others = rw e refl
    go false e others = rw e others
