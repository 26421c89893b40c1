use Rattle.std.proofs.Common.{◌∙◌, sym}
use Rattle.sp_service.proofs.Judging.{all_played, all_unindexed, may_open}
use Rattle.sp_service.proofs.verifying.verify_text.Goals as goal

pub verify_opened-requires-clause-opening : goal.verify_opened-requires-clause-opening
verify_opened-requires-clause-opening c =
    may_open c.args.fitted.topology c.deref.result.now c.in_ok-reading.reading.stage c.in-Some.opening
    (rw (c.total.ensures) at c.in_ok-reading.ensures.good_stage)
    (sym c.opening_in.ensures ∙ c.in-Some.is) (c.can_announce.ensures.0 c.if-not-can_announce.false)

pub returns-then-not-can_announce : goal.returns-then-not-can_announce
returns-then-not-can_announce c =
    all_unindexed c.args.config.now c.args.fitted.topology c.args.before c.args.text.now c.in_ok-reading.reading c.in-Some.opening c.no_first_index.result
    (rw (c.total.ensures, c.deref.ensures.value, c.in_ok-near.ensures) at c.in_ok-reading.ensures.reading) (sym c.opening_in.ensures ∙ c.in-Some.is)
    (λ can. absurd (let yes = c.can_announce.ensures.1 can in let no = c.if-not-can_announce.true in cc)) c.no_first_index.ensures.verdict
    c.no_first_index.ensures.line

pub returns : goal.returns
returns c =
    all_played c.args.config.now c.args.fitted.topology c.args.before c.args.text.now c.in_ok-reading.reading c.in-Some.opening c.verify_opened.result
    (rw (c.total.ensures, c.deref.ensures.value, c.in_ok-near.ensures) at c.in_ok-reading.ensures.reading) (sym c.opening_in.ensures ∙ c.in-Some.is)
    (c.can_announce.ensures.0 c.if-not-can_announce.false) c.verify_opened.ensures
