use Rattle.std.proofs.Common.{◌≡◌, ◌∙◌, false, List, ap, map, refl, subst, sym}
use Rattle.std.specs.Prelude.{IfSome, is_some, option_map}
use Rattle.sp_base.specs.declared.id.Flow.{Flow}
use Rattle.sp_frame.specs.Views.{as_list, as_object}
use Rattle.sp_rules.specs.Handle.{handle_all, reported_where}
use Rattle.sp_rules.specs.Lives.{are_held}
use Rattle.sp_rules.specs.Parts.{Parts, flows_of}
use Rattle.sp_rules.specs.Pieces.{AckPiece, Piece, RelPiece, ReportPiece}
use Rattle.sp_rules.specs.declared.kflow.FlowKind.{FlowKind}
use Rattle.sp_rules.specs.declared.lives.Life.{Life}
use Rattle.sp_node_arrivals.proofs.DoneLemmas.{quiet_then}
use Rattle.sp_node_arrivals.proofs.KindLemmas.{ground_stays, lives_stay, report_beside}
use Rattle.sp_node_arrivals.proofs.RelLemmas.{ack_where, slot_stays}
use Rattle.sp_node_arrivals.specs.Ack.{IsAckReady}
use Rattle.sp_node_arrivals.specs.Arrival.{as_arrival}
use Rattle.sp_node_arrivals.specs.Done.{IsDone}
use Rattle.sp_node_arrivals.specs.Rel.{AreRelsReady, Ground, StaysReady, ground_of}
use Rattle.sp_node_format.specs.Format.{format_of}
use Rattle.sp_node_arrivals.proofs.slot.admit_slot.Goals as goal

pub admit-ack-requires-clause-ready : goal.admit-ack-requires-clause-ready
admit-ack-requires-clause-ready c =
    let s = c.args.slot.now in
    let p = c.args.parts.now in
    let row = c.row_of-row.result in
    let f = c.args.at.now.fixed.now in
    let from = c.args.at.now.from in
    let ack = option_map as_object s.ack in
    let held = are_held p.lives s.flow s.sboot s.dboot in
    let left : Parts = reported_where row.kind held from s.flow s.base s.have p in
    let own : IfSome ack (λ o. IsAckReady f p.lives (flows_of row.kind p) row.place.flow o c.args.ready.ack) =
    subst (λ (k : FlowKind). IfSome ack (λ o. IsAckReady f p.lives (flows_of k p) row.place.flow o c.args.ready.ack)) (sym c.row_of-row.ensures.kind)
    (subst (λ (g : Flow). IfSome ack (λ o. IsAckReady f p.lives (flows_of c.args.kind p) g o c.args.ready.ack)) (sym c.row_of-row.ensures.flow)
    c.requires.ready.acknowledgement) in
    let ready : IfSome ack (λ o. IsAckReady f p.lives (flows_of row.kind left) row.place.flow o c.args.ready.ack) =
    ack_where row.kind held f p.lives p from s.flow s.base s.have row.place.flow ack c.args.ready.ack own in
    let dated : IfSome ack (λ o. IsAckReady f left.lives (flows_of row.kind left) row.place.flow o c.args.ready.ack) =
    subst (λ (lives : List Life). IfSome ack (λ o. IsAckReady f lives (flows_of row.kind left) row.place.flow o c.args.ready.ack))
    (sym (lives_stay row.kind p left (report_beside row.kind held from s.flow s.base s.have p))) ready in
    subst (λ (q : Parts). IfSome ack (λ o. IsAckReady f q.lives (flows_of row.kind q) row.place.flow o c.args.ready.ack)) (sym c.report.ensures.parts) dated

pub admit_from-rels-requires-clause-ready : goal.admit_from-rels-requires-clause-ready
admit_from-rels-requires-clause-ready c =
    let s = c.args.slot.now in
    let p = c.args.parts.now in
    let row = c.row_of-row.result in
    let at = as_arrival c.args.at.now in
    let new = c.admit-ack.new.parts in
    let acked = is_some c.args.ready.ack in
    let os = map as_object s.rels in
    let held = are_held p.lives s.flow s.sboot s.dboot in
    let left : Parts = reported_where row.kind held at.from s.flow s.base s.have p in
    let same : ground_of at c.report.new.parts ≡ ground_of at p =
    ap (ground_of at) c.report.ensures.parts ∙ ground_stays at row.kind p left (report_beside row.kind held at.from s.flow s.base s.have p) in
    let stays : StaysReady acked (ground_of at p) row.place.flow (flows_of row.kind c.report.new.parts) (flows_of row.kind new) =
    subst (λ (g : Ground). StaysReady acked g row.place.flow (flows_of row.kind c.report.new.parts) (flows_of row.kind new)) same c.admit-ack.ensures.stays in
    let own : AreRelsReady acked (ground_of at p) (flows_of row.kind p) row.place.flow os c.args.ready.rels =
    subst (λ (k : FlowKind). AreRelsReady acked (ground_of at p) (flows_of k p) row.place.flow os c.args.ready.rels) (sym c.row_of-row.ensures.kind)
    (subst (λ (g : Flow). AreRelsReady acked (ground_of at p) (flows_of c.args.kind p) g os c.args.ready.rels) (sym c.row_of-row.ensures.flow)
    c.requires.ready.messages) in
    subst (λ (g : Ground). AreRelsReady false g (flows_of row.kind new) row.place.flow os c.args.ready.rels) (sym (c.admit-ack.ensures.ground ∙ same))
    (slot_stays row.kind acked held (ground_of at p) p (flows_of row.kind c.report.new.parts) (flows_of row.kind new) at.from s.flow s.base s.have
    row.place.flow os c.args.ready.rels (ap (λ (q : Parts). flows_of row.kind q) c.report.ensures.parts) stays own)

-- all that was done of the row's flow was done of the slot's
pub returns-clause-done : goal.returns-clause-done
returns-clause-done c =
    let at = as_arrival c.args.at.now in
    let arts = format_of c.args.at.now.fixed.now in
    let s = c.args.slot.now in
    let p = c.args.parts.now in
    let row = c.row_of-row.result in
    let kind = c.args.kind in
    let out = c.args.out.now in
    let mid = c.admit-ack.new.parts in
    let last = c.admit_from-rels.new in
    let held = are_held p.lives s.flow s.sboot s.dboot in
    let acks = λ (k : FlowKind) (f : Flow). map (AckPiece k f) (as_list (option_map as_object s.ack)) in
    let rels = λ (k : FlowKind) (f : Flow). map (RelPiece k f) (map as_object s.rels) in
    let left : Parts = reported_where kind held at.from s.flow s.base s.have p in
    let reported : c.report.new.parts ≡ left =
    c.report.ensures.parts ∙ ap (λ (k : FlowKind). reported_where k held at.from s.flow s.base s.have p) c.row_of-row.ensures.kind in
    let of_kind : acks row.kind row.place.flow ≡ acks kind s.flow =
    ap (λ (k : FlowKind). acks k row.place.flow) c.row_of-row.ensures.kind ∙ ap (λ (f : Flow). acks kind f) c.row_of-row.ensures.flow in
    let the_rels : rels row.kind row.place.flow ≡ rels kind s.flow =
    ap (λ (k : FlowKind). rels k row.place.flow) c.row_of-row.ensures.kind ∙ ap (λ (f : Flow). rels kind f) c.row_of-row.ensures.flow in
    let acked : IsDone (handle_all arts at left (acks kind s.flow)) mid (as_list c.admit-ack.result) out out =
    subst (λ (q : Parts). IsDone (handle_all arts at q (acks kind s.flow)) mid (as_list c.admit-ack.result) out out) reported
    (subst (λ (ps : List Piece). IsDone (handle_all arts at c.report.new.parts ps) mid (as_list c.admit-ack.result) out out) of_kind
    (c.admit-ack.ensures.done out)) in
    let taken : IsDone (handle_all arts at mid (rels kind s.flow)) last.parts c.admit_from-rels.result out last.out =
    subst (λ (ps : List Piece). IsDone (handle_all arts at mid ps) last.parts c.admit_from-rels.result out last.out) the_rels
    c.admit_from-rels.ensures.done in
    quiet_then arts at p left mid last.parts (ReportPiece kind s.flow s.sboot s.dboot s.base s.have) (acks kind s.flow) (rels kind s.flow)
    (as_list c.admit-ack.result) c.admit_from-rels.result out last.out refl acked taken
