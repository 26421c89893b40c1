use Rattle.std.proofs.Common.{None, Some, ap, sym, refl, ◌∙◌, arith}
use Rattle.std.specs.Option.{option_copied}
use Rattle.sp_base.proofs.FewLemmas.{drop_past}
use Rattle.sp_frame.proofs.LengthLemmas.{numbered_from}
use Rattle.sp_frame.proofs.lengths.+numbered_len.Goals as goal

pub returns-in-None-clause-exact : goal.returns-in-None-clause-exact
returns-in-None-clause-exact t c =
    let none = sym c.get.ensures.value ∙ ap option_copied c.in-None.is in
    rw (drop_past c.args.prios.now c.args.place none) refl

pub returns-in-Some-clause-exact : goal.returns-in-Some-clause-exact
returns-in-Some-clause-exact t c =
    let at = sym c.get.ensures.value ∙ ap option_copied c.in-Some.is in
    omega (
      arith,
      numbered_from c.args.format c.args.prios.now (λ q. (q.0, q.1.now)) c.args.place c.in-Some.field-0.now at,
      c.object_len.ensures.exact,
      c.numbered_len.ensures.exact,
    )
