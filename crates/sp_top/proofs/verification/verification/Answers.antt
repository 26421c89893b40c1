use Rattle.sp_top.proofs.Outputs.{judged_begun, judged_written}
use Rattle.sp_top.proofs.Whole.{verified_whole}
use Rattle.sp_top.proofs.verification.verification.Goals as goal

pub returns-in-Ok-write_all-clause-wrote : goal.returns-in-Ok-write_all-clause-wrote
returns-in-Ok-write_all-clause-wrote g c =
    rw (c.ended-in-Ok-write_all.ensures, c.status_of.ensures)
    (judged_written _ c.in-Ok-verify.judged.verdict c.in-Ok-verify.judged.line c.in-Ok.input.bytes.items c.in-Ok.input.is_cut _ _ c.in-Ok.ensures.bytes
    (rw c.as_slice.ensures.value at c.in-Ok-verify.ensures) (rw c.as_slice-2.ensures at c.in-Ok-write_all.ensures.whole))

pub returns-clause-wrote : goal.returns-clause-wrote
returns-clause-wrote g c =
    rw c.ended-in-Err.ensures
    (judged_begun _ c.in-Ok-verify.judged.verdict c.in-Ok-verify.judged.line c.in-Ok.input.bytes.items c.in-Ok.input.is_cut _ _ c.in-Ok.ensures.bytes
    (rw c.as_slice.ensures.value at c.in-Ok-verify.ensures) (rw c.as_slice-2.ensures at c.write_all.ensures.front))

pub returns-in-Ok-write_all-clause-ended : goal.returns-in-Ok-write_all-clause-ended
returns-in-Ok-write_all-clause-ended g c = λ done.
    c.in-Ok.ensures.rest
    (verified_whole c.in-Ok.input.bytes.items c.in-Ok.input.is_cut c.in-Ok-verify.judged.verdict c.in-Ok-verify.judged.line
    (rw c.as_slice.ensures.value at c.in-Ok-verify.ensures) (rw (c.ended-in-Ok-write_all.ensures, c.status_of.ensures) at done))
