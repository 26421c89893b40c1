use Rattle.std.proofs.Common.{None, Some, ap, sym, refl, ◌∙◌, arith}
use Rattle.std.specs.Option.{option_copied}
use Rattle.sp_base.proofs.FewLemmas.{drop_past}
use Rattle.sp_frame.proofs.LengthLemmas.{objects_from}
use Rattle.sp_frame.proofs.lengths.+objects_len.Goals as goal

pub returns-in-None-clause-exact : goal.returns-in-None-clause-exact
returns-in-None-clause-exact t c =
    let none = sym c.get.ensures.value ∙ ap option_copied c.in-None.is in
    rw (drop_past c.args.rels.now c.args.place none) refl

pub returns-in-Some-clause-exact : goal.returns-in-Some-clause-exact
returns-in-Some-clause-exact t c =
    let at = sym c.get.ensures.value ∙ ap option_copied c.in-Some.is in
    omega (
      arith,
      objects_from c.args.format c.args.rels.now (λ o. o.now) c.args.place c.in-Some.message.now at,
      c.object_len.ensures.exact,
      c.objects_len.ensures.exact,
    )
