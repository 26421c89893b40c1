use Rattle.std.proofs.Common.{sym, ◌∙◌}
use Rattle.sp_keystate.proofs.StateLemmas.{format_changing, format_finding, format_stands, formats, formats_safely}
use Rattle.sp_keystate.proofs.opening.format.Goals as goal

pub returns-clause-moments : goal.returns-clause-moments
returns-clause-moments g c = format_changing _ _ _ _ _ _ c.in-Ok.ensures.found c.in-Ok.ensures.moments c.change.ensures.moments

pub returns-then-is_some-clause-moments : goal.returns-then-is_some-clause-moments
returns-then-is_some-clause-moments g c = format_finding _ _ _ c.in-Ok.ensures.moments

pub returns-clause-file : goal.returns-clause-file
returns-clause-file g c = formats _ _ _ c.in-Ok.found c.in-Ok.ensures.found (sym c.is_some.ensures ∙ c.if-is_some.false) c.in-Ok-change.ensures.done

pub returns-clause-stands : goal.returns-clause-stands
returns-clause-stands g c =
    format_stands _ _ c.found.result
    (formats _ _ _ c.in-Ok.found c.in-Ok.ensures.found (sym c.is_some.ensures ∙ c.if-is_some.false) c.in-Ok-change.ensures.done)
    c.found.ensures.state c.found.ensures.current

pub returns-in_default-change-clause-moments : goal.returns-in_default-change-clause-moments
returns-in_default-change-clause-moments g c = format_changing _ _ _ _ _ _ c.in-Ok.ensures.found c.in-Ok.ensures.moments c.change.ensures.moments

pub returns-clause-safe : goal.returns-clause-safe
returns-clause-safe g c =
    formats_safely _ _ c.found.result
    (formats _ _ _ c.in-Ok.found c.in-Ok.ensures.found (sym c.is_some.ensures ∙ c.if-is_some.false) c.in-Ok-change.ensures.done) c.found.ensures.state
