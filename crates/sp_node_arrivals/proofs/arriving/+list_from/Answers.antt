use Rattle.std.proofs.Common.{ap, sym, ◌∙◌, append-nil}
use Rattle.std.specs.Option.{option_copied}
use Rattle.sp_base.proofs.FewLemmas.{drop_past}
use Rattle.sp_node_arrivals.proofs.arriving.+list_from.Goals as goal

pub returns-in_default-clause-items : goal.returns-in_default-clause-items
returns-in_default-clause-items t c =
    let none = sym c.get.ensures.value ∙ ap option_copied c.in_default.is in
    rw (drop_past c.args.answers.now c.args.place none) (sym (append-nil c.args.items.now.items))
