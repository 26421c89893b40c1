use Rattle.std.proofs.Common.{◌≡◌, ◌∙◌, refl, ap}
use Rattle.sp_base.specs.declared.id.NodeId.{NodeId}
use Rattle.sp_node.specs.Arrived.{heard_with, met_by}
use Rattle.sp_node.specs.declared.datagram.Passage.{Passage}
use Rattle.sp_node_state.proofs.Published.{told_is}
use Rattle.sp_node_state.specs.Publications.{told_of}
use Rattle.sp_rules.specs.Arrivals.{greeted}
use Rattle.sp_rules.specs.Node.{NodeState, called, with_link}
use Rattle.sp_node.proofs.Greeted.{fits_greeted}
use Rattle.sp_node.proofs.datagram.take_document.Goals as goal

-- the node before its document: met, answered and heard
left_so : (n met answers hears : NodeState) (v : NodeId) (p : Passage) → met ≡ record n { parts = greeted n.fixed.epochs p.risen v n.parts }
    → answers ≡ called met (with_link met v p.link) met.parts → hears ≡ record answers { heard = heard_with answers.heard v p.heard }
    → hears ≡ met_by n v p
left_so n met answers hears v p meets answered heard =
    heard ∙ ap (λ (m : NodeState). record m { heard = heard_with m.heard v p.heard })
    (answered ∙ ap (λ (m : NodeState). called m (with_link m v p.link) m.parts) meets)

pub adopt-effects-requires : goal.adopt-effects-requires
adopt-effects-requires c =
    let n = c.args.state.now in
    let p = c.args.passage.now in
    let left = left_so n c.meet.new.state c.answered.new.state c.note.new.state c.args.from p c.meet.ensures c.answered.ensures c.note.ensures in
    fits_greeted n c.note.new.state c.in_ok-publication.publication p.risen c.args.from (ap (λ (m : NodeState). m.parts) left)
    c.in_ok-publication.ensures.judged.fits

pub returns-clause-told : goal.returns-clause-told
returns-clause-told c =
    let n = c.args.state.now in
    let p = c.args.passage.now in
    let left = left_so n c.meet.new.state c.answered.new.state c.note.new.state c.args.from p c.meet.ensures c.answered.ensures c.note.ensures in
    c.adopt-effects.ensures.told ∙ ap (λ (m : NodeState). told_of m c.in_ok-publication.publication.version) left
    ∙ told_is n (met_by n c.args.from p) c.args.document.now c.in_ok-publication.publication c.in_ok-publication.ensures.judged refl
