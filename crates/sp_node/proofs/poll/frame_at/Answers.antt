use Rattle.std.proofs.Common.{◌<◌, ◌≤◌, ◌^◌, ◌∙◌, ℕ, List, length, sym, ap, subst}
use Rattle.sp_frame.specs.declared.head.Head.{Head}
use Rattle.sp_link.specs.Sealing.{sealed}
use Rattle.sp_rules.specs.Link.{Link}
use Rattle.sp_node.proofs.Frames.{frame_is, long_enough}
use Rattle.sp_node.proofs.Kept.{link_low}
use Rattle.sp_node.proofs.poll.frame_at.Goals as goal

pub unsealed-requires-clause-format : goal.unsealed-requires-clause-format
unsealed-requires-clause-format c = ap (λ (h : Head). h.format) c.head_for-head.ensures

pub seal-requires : goal.seal-requires
seal-requires c = subst (λ (bytes : List ℕ). 32 ≤ length bytes) (sym c.in_ok-frame.ensures) (long_enough _ _)

pub head_for-head-requires : goal.head_for-head-requires
head_for-head-requires c =
    subst (λ (l : Link). l.sent < 2 ^ 60) (sym c.link_at-link.ensures) (link_low c.args.state.now c.args.v c.requires.kept c.requires.answered.left)

pub returns : goal.returns
returns c =
    frame_is c.args.state.now c.args.v c.link_at-link.result c.head_for-head.result c.seal.new.frame c.link_at-link.ensures c.head_for-head.ensures
    (c.seal.ensures ∙ ap (sealed c.link_at-link.result.key) c.in_ok-frame.ensures)
