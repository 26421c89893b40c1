use Rattle.std.proofs.Common.{◌+◌, ◌≤◌, ◌∙◌, ap, sym, subst, arith}
use Rattle.sp_frame.specs.Frames.{opened_in}
use Rattle.sp_link.specs.Sealing.{is_right}
use Rattle.sp_rules.specs.Arrivals.{pieces_in, sections_in}
use Rattle.sp_rules.specs.Node.{NodeState}
use Rattle.sp_link.specs.Work.{tags_after}
use Rattle.sp_rules.specs.declared.node.LinkReply.{LinkReply}
use Rattle.sp_node.specs.Arrived.{pieces_with}
use Rattle.sp_node.specs.Life.{reply_tags}
use Rattle.sp_node.proofs.Passed.{no_document, no_pieces, no_reply, none_heard_of, none_rises, passed_document, passed_heard, passed_link, passed_pieces}
use Rattle.sp_node.proofs.Passed.{passed_reply, passed_risen, same_link, tag_is_counted}
use Rattle.sp_node_format.specs.Format.{format_of}
use Rattle.sp_node.proofs.datagram.passed.Goals as goal

-- ---- no frame of the node's format

pub returns-in-Err-clause-reply : goal.returns-in-Err-clause-reply
returns-in-Err-clause-reply c =
    no_reply c.args.state.now c.args.from c.args.bytes.now c.in-Err.refused c.no_frame.result
    (ap (λ (m : NodeState). opened_in m.fixed.topology.format c.args.bytes.now) (sym c.state.view_is) ∙ c.in-Err.ensures.opened) c.no_frame.ensures

pub returns-in-Err-clause-link : goal.returns-in-Err-clause-link
returns-in-Err-clause-link c =
    c.link_at-link.ensures
    ∙ same_link c.args.state.now c.args.from c.args.bytes.now c.in-Err.refused
    (ap (λ (m : NodeState). opened_in m.fixed.topology.format c.args.bytes.now) (sym c.state.view_is) ∙ c.in-Err.ensures.opened)

pub returns-in-Err-clause-heard : goal.returns-in-Err-clause-heard
returns-in-Err-clause-heard c =
    none_heard_of c.args.state.now c.args.from c.args.bytes.now c.in-Err.refused
    (ap (λ (m : NodeState). opened_in m.fixed.topology.format c.args.bytes.now) (sym c.state.view_is) ∙ c.in-Err.ensures.opened)

pub returns-in-Err-clause-pieces : goal.returns-in-Err-clause-pieces
returns-in-Err-clause-pieces c =
    let n = c.args.state.now in
    no_pieces n c.args.from c.args.bytes.now c.in-Err.refused (pieces_in n.fixed (sections_in (format_of n.fixed) n.fixed c.args.bytes.now))
    (ap (λ (m : NodeState). opened_in m.fixed.topology.format c.args.bytes.now) (sym c.state.view_is) ∙ c.in-Err.ensures.opened)

pub returns-in-Err-clause-document : goal.returns-in-Err-clause-document
returns-in-Err-clause-document c =
    no_document c.args.state.now c.args.from c.args.bytes.now c.in-Err.refused
    (ap (λ (m : NodeState). opened_in m.fixed.topology.format c.args.bytes.now) (sym c.state.view_is) ∙ c.in-Err.ensures.opened)

pub returns-in-Err-clause-risen : goal.returns-in-Err-clause-risen
returns-in-Err-clause-risen c =
    none_rises c.args.state.now c.args.from c.args.bytes.now c.in-Err.refused
    (ap (λ (m : NodeState). opened_in m.fixed.topology.format c.args.bytes.now) (sym c.state.view_is) ∙ c.in-Err.ensures.opened)

-- ---- a frame of the node's format

pub after_link-met-requires-clause-format : goal.after_link-met-requires-clause-format
after_link-met-requires-clause-format c = c.in-Ok.ensures.of_format ∙ ap (λ (n : NodeState). n.fixed.topology.format) c.state.view_is

pub returns-clause-reply : goal.returns-clause-reply
unfolding is_right
returns-clause-reply c =
    passed_reply c.args.state.now c.args.from c.args.bytes.now c.in-Ok.frame c.link_at-link.result c.accept-answer.result c.after_link-met.result.reply
    (ap (λ (m : NodeState). opened_in m.fixed.topology.format c.args.bytes.now) (sym c.state.view_is) ∙ c.in-Ok.ensures.opened)
    c.link_at-link.ensures c.accept-answer.ensures.answer c.after_link-met.ensures.reply

pub returns-clause-link : goal.returns-clause-link
unfolding is_right
returns-clause-link c =
    passed_link c.args.state.now c.args.from c.args.bytes.now c.in-Ok.frame c.link_at-link.result c.accept-answer.new.self
    (ap (λ (m : NodeState). opened_in m.fixed.topology.format c.args.bytes.now) (sym c.state.view_is) ∙ c.in-Ok.ensures.opened)
    c.link_at-link.ensures c.accept-answer.ensures.link

pub returns-clause-risen : goal.returns-clause-risen
returns-clause-risen c =
    passed_risen c.args.state.now c.args.from c.args.bytes.now c.link_at-link.result c.accept-answer.new.self c.has_risen-risen.result c.link_at-link.ensures
    (returns-clause-link c) c.has_risen-risen.ensures

pub returns-clause-heard : goal.returns-clause-heard
unfolding is_right
returns-clause-heard c =
    passed_heard c.args.state.now c.args.from c.args.bytes.now c.in-Ok.frame c.link_at-link.result c.accept-answer.result c.has_risen-risen.result
    c.head.result c.version_told-heard.result
    (ap (λ (m : NodeState). opened_in m.fixed.topology.format c.args.bytes.now) (sym c.state.view_is) ∙ c.in-Ok.ensures.opened)
    c.link_at-link.ensures c.accept-answer.ensures.answer (returns-clause-risen c) c.head.ensures c.version_told-heard.ensures

pub returns-clause-pieces : goal.returns-clause-pieces
returns-clause-pieces c =
    passed_pieces c.args.state.now c.args.from c.args.bytes.now c.in-Ok.frame c.after_link-met.result.reply (pieces_with c.after_link-met.result.sections)
    (ap (λ (m : NodeState). opened_in m.fixed.topology.format c.args.bytes.now) (sym c.state.view_is) ∙ c.in-Ok.ensures.opened)
    (returns-clause-reply c) c.after_link-met.ensures.pieces

pub returns-clause-document : goal.returns-clause-document
returns-clause-document c =
    passed_document c.args.state.now c.args.from c.args.bytes.now c.in-Ok.frame c.after_link-met.result.reply _
    (ap (λ (m : NodeState). opened_in m.fixed.topology.format c.args.bytes.now) (sym c.state.view_is) ∙ c.in-Ok.ensures.opened)
    (returns-clause-reply c) c.after_link-met.ensures.document

pub returns-clause-formats : goal.returns-clause-formats
returns-clause-formats c = c.after_link-met.ensures.formats

pub returns-clause-work : goal.returns-clause-work
returns-clause-work c =
    let once : tags_after c.args.tags.now c.accept-answer.result ≤ c.args.tags.now + reply_tags c.after_link-met.result.reply =
    subst (λ (r : LinkReply). tags_after c.args.tags.now c.accept-answer.result ≤ c.args.tags.now + reply_tags r) (sym c.after_link-met.ensures.reply)
    (tag_is_counted c.args.tags.now c.accept-answer.result _ _ _ _ _) in
    omega (arith, once, c.accept-answer.ensures.work, ap reply_tags (returns-clause-reply c))
