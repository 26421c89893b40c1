use Rattle.std.proofs.Common.{Err, ap, ◌∙◌}
use Rattle.sp_top.proofs.Services.{made, unmade}
use Rattle.sp_top.proofs.key_file.format_key_file.Goals as goal

pub returns-in-Ok-clause-ends : goal.returns-in-Ok-clause-ends
returns-in-Ok-clause-ends g c = λ wire clock. made wire clock _ _ _ _ _ c.in-Ok.ensures.file c.tell.ensures.told

pub returns-in-Err-clause-ends : goal.returns-in-Err-clause-ends
returns-in-Err-clause-ends g c = λ wire clock.
    unmade wire clock _ _ _ _ c.in-Err.refused c.as_bytes.result.now _ c.in-Err.ensures.answer (λ is. c.in-Err.ensures.formatted (ap Err is))
    (c.as_bytes.ensures.value ∙ c.line_of.ensures) (rw c.key_status.ensures at c.tell-in-Err.ensures.told)
