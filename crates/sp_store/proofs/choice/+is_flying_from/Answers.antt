use Rattle.std.proofs.Common.{refl, sym, ap, ◌∙◌}
use Rattle.std.specs.Option.{option_copied}
use Rattle.sp_base.proofs.FewLemmas.{drop_past}
use Rattle.sp_store.proofs.FreeLemmas.{flying_here}
use Rattle.sp_store.proofs.choice.+is_flying_from.Goals as goal

pub returns-then-entry-pair : goal.returns-then-entry-pair
returns-then-entry-pair t c =
    flying_here c.args.flight.now c.args.place c.in-Some.pair.now c.args.entry.now (sym c.get.ensures.value ∙ ap option_copied c.in-Some.is)
    c.if-entry-pair.true

pub returns-in-None : goal.returns-in-None
returns-in-None t c =
    let none = sym c.get.ensures.value ∙ ap option_copied c.in-None.is in
    rw (drop_past c.args.flight.now c.args.place none) refl
