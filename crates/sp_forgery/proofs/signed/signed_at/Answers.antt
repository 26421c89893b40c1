use Rattle.std.proofs.Common.{sym, ◌∙◌, arith}
use Rattle.sp_forgery.proofs.SignedThere.{signed_there}
use Rattle.sp_forgery.proofs.signed.signed_at.Goals as goal

pub returns : goal.returns
returns c = λ is.
    signed_there c.args.message.now c.args.node c.args.events.now c.args.journal.now c.args.place c.index-events-place.result c.index-journal-place.result
    (omega (arith, c.if-place-events.false)) c.requires c.index-events-place.is c.index-journal-place.is (sym c.signs_in.ensures ∙ is)
