use Rattle.std.proofs.Common.{false, refl, true}
use Rattle.sp_service.proofs.Beginnings.{begins, map_err, map_ok}
use Rattle.sp_service.proofs.Endings.{daemon, told}
use Rattle.sp_service.proofs.daemon.start.Goals as goal

pub returns-then-is_cut-clause-ended : goal.returns-then-is_cut-clause-ended
returns-then-is_cut-clause-ended g c = λ clock turns.
    rw c.if-is_cut.true (told c.args.text.now true turns _ c.refuse.result _ clock _ _ _ refl c.refuse.ensures.told)

pub returns-in-Ok-Refused-clause-ended : goal.returns-in-Ok-Refused-clause-ended
returns-in-Ok-Refused-clause-ended g c = λ clock turns.
    rw c.if-is_cut.false
    (told c.args.text.now false turns c.in-Ok-Refused.line c.refuse-in-Ok-Refused.result _ clock _ _ _
    (rw c.in-Ok-Refused.field-0-is at c.in-Ok-Refused.ensures) (rw c.as_slice.ensures at c.refuse-in-Ok-Refused.ensures.told))

pub returns-in-Ok-Fits-clause-begins : goal.returns-in-Ok-Fits-clause-begins
returns-in-Ok-Fits-clause-begins g c = λ clock.
    map_ok c.start_configured.result _ _
    (λ started begun. begins c.args.text.now c.args.is_cut c.in-Ok-Fits.config c.in-Ok-Fits.fitted.topology _ _ started c.if-is_cut.false
    (rw c.in-Ok-Fits.field-0-is at c.in-Ok-Fits.ensures).0 begun)
    (c.start_configured.ensures.begins clock)

pub returns-in-Ok-Fits-clause-ended : goal.returns-in-Ok-Fits-clause-ended
returns-in-Ok-Fits-clause-ended g c = λ clock turns.
    map_err c.start_configured.result _ _
    (λ ended ends. daemon c.args.text.now c.args.is_cut turns c.in-Ok-Fits.config c.in-Ok-Fits.fitted.topology ended _ _ c.if-is_cut.false
    (rw c.in-Ok-Fits.field-0-is at c.in-Ok-Fits.ensures).0 ends)
    (c.start_configured.ensures.ended clock turns)
