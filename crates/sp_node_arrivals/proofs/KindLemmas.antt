-- Flows of both kinds are handled alike: a piece of a slot changes the flows of its kind alone.
use Rattle.std.proofs.Common.{◌≡◌, ◌∙◌, ℕ, Bool, true, false, List, Option, refl, sym, ap, subst, cond}
use Rattle.std.specs.Prelude.{IfSome}
use Rattle.laws_node.proofs.FlowKinds.{lives_beside}
use Rattle.sp_base.specs.declared.id.Flow.{Flow}
use Rattle.sp_base.specs.declared.id.NodeId.{NodeId}
use Rattle.sp_frame.specs.declared.sections.Slot.{Slot}
use Rattle.sp_msg.specs.declared.kept.Kept.{Kept}
use Rattle.sp_rules.specs.Answers.{is_new}
use Rattle.sp_rules.specs.Handle.{Arrival, ack_handled, ack_item, rel_handled, rel_item, reported_where}
use Rattle.sp_rules.specs.Kflow.{KState, came_over}
use Rattle.sp_rules.specs.Parts.{Parts, flows_of, with_flows}
use Rattle.sp_rules.specs.Rel.{RelState, admit_ack, admit_rel, reported}
use Rattle.sp_rules.specs.declared.answers.AckAnswer.{AckAnswer}
use Rattle.sp_rules.specs.declared.answers.RelAnswer.{RelAnswer}
use Rattle.sp_rules.specs.declared.kflow.FlowKind.{FlowKind}
use Rattle.sp_rules.specs.declared.kflow.FlowKind.TheVariants.{Plain, Paths}
use Rattle.sp_rules.specs.declared.lives.Life.{Life}
use Rattle.sp_node_arrivals.specs.Rel.{Ground, ground_of}
use Rattle.sp_node_arrivals.specs.Slot.{IsSlotReady}
use Rattle.sp_node_arrivals.specs.declared.slot.SlotReady.{SlotReady}

-- the flows of a kind, where others of that kind may have taken their place
pub flows_where : (kind : FlowKind) (t : Bool) (r : RelState) (p : Parts) → flows_of kind (cond t (with_flows kind r p) p) ≡ cond t r (flows_of kind p)
flows_where Plain true r p = refl
flows_where Plain false r p = refl
flows_where Paths true r p = refl
flows_where Paths false r p = refl

-- ---- what stands beside the flows of a kind

-- all but the flows of this kind is as before
abbrev pub StaysBeside : FlowKind → Parts → Parts → Type 0
StaysBeside kind old new = (r : RelState) → with_flows kind r new ≡ with_flows kind r old

pub nothing_beside : (kind : FlowKind) (p : Parts) → StaysBeside kind p p
nothing_beside kind p r = refl

pub both_beside : (kind : FlowKind) (old between new : Parts) → StaysBeside kind old between → StaysBeside kind between new → StaysBeside kind old new
both_beside kind old between new one two r = two r ∙ one r

put_beside : (kind : FlowKind) (s : RelState) (p : Parts) → StaysBeside kind p (with_flows kind s p)
put_beside Plain s p r = refl
put_beside Paths s p r = refl

where_beside : (kind : FlowKind) (t : Bool) (s : RelState) (p : Parts) → StaysBeside kind p (cond t (with_flows kind s p) p)
where_beside kind true s p = put_beside kind s p
where_beside kind false s p = nothing_beside kind p

-- no piece of a slot changes it
pub report_beside : (kind : FlowKind) (held : Bool) (v : NodeId) (flow : Flow) (base have : ℕ) (p : Parts)
    → StaysBeside kind p (reported_where kind held v flow base have p)
report_beside kind held v flow base have p = where_beside kind held (reported (flows_of kind p) v flow base have) p

pub ack_beside : (kind : FlowKind) (answer : AckAnswer) (o : Kept) (p : Parts) → StaysBeside kind p (ack_handled kind answer o p).parts
ack_beside kind answer o p = where_beside kind (is_new (ack_item kind answer)) (admit_ack (flows_of kind p) o) p

pub rel_beside : (kind : FlowKind) (answer : RelAnswer) (o : Kept) (p : Parts) → StaysBeside kind p (rel_handled kind answer o p).parts
rel_beside kind answer o p = where_beside kind (is_new (rel_item kind answer)) (admit_rel (flows_of kind p) o) p

-- so the lives that are held stay
pub lives_stay : (kind : FlowKind) (old new : Parts) → StaysBeside kind old new → new.lives ≡ old.lives
lives_stay kind old new beside =
    let r = flows_of kind old in
    sym (lives_beside kind r new) ∙ ap (λ (p : Parts). p.lives) (beside r) ∙ lives_beside kind r old

ground_put : (at : Arrival) (kind : FlowKind) (r : RelState) (p : Parts) → ground_of at (with_flows kind r p) ≡ ground_of at p
ground_put at Plain r p = refl
ground_put at Paths r p = refl

-- and what messages are judged by beside their flows
pub ground_stays : (at : Arrival) (kind : FlowKind) (old new : Parts) → StaysBeside kind old new → ground_of at new ≡ ground_of at old
ground_stays at kind old new beside =
    let r = flows_of kind old in
    sym (ground_put at kind r new) ∙ ap (ground_of at) (beside r) ∙ ground_put at kind r old

-- what is ready of a slot stays so where neither its flows nor what messages are judged by beside them changed
pub slot_follows : (at : Arrival) (old new : Parts) (was now : RelState) (slot : Option Slot) (ready : SlotReady) → new.lives ≡ old.lives
    → new.kflow ≡ old.kflow → now ≡ was → IfSome slot (λ s. IsSlotReady (ground_of at old) was s ready)
    → IfSome slot (λ s. IsSlotReady (ground_of at new) now s ready)
slot_follows at old new was now slot ready lives kflow same is =
    let over = λ (k : KState). came_over k at.from in
    let ground : ground_of at new ≡ ground_of at old =
    ap (λ (ls : List Life). let g : Ground = record { fixed = at.fixed; lives = ls; over = over new.kflow } in g) lives
    ∙ ap (λ (k : KState). let g : Ground = record { fixed = at.fixed; lives = old.lives; over = over k } in g) kflow in
    subst (λ (g : Ground). IfSome slot (λ s. IsSlotReady g now s ready)) (sym ground)
    (subst (λ (r : RelState). IfSome slot (λ s. IsSlotReady (ground_of at old) r s ready)) (sym same) is)
