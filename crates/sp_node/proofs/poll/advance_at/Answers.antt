use Rattle.std.proofs.Common.{◌∙◌, sym, ap}
use Rattle.std.specs.Prelude.{slice_set}
use Rattle.sp_base.proofs.RowLemmas.{first_where-read, replace_where-position}
use Rattle.sp_rules.specs.Link.{Link, advanced}
use Rattle.sp_rules.specs.Node.{is_link}
use Rattle.sp_node.proofs.poll.advance_at.Goals as goal

pub returns : goal.returns
returns c = λ (none : Link).
    let links = c.args.links.now.items in
    let read = first_where-read (is_link c.args.v) none links c.args.place c.index_mut-link.result.now c.requires.place c.index_mut-link.ensures.value in
    ap (slice_set links c.args.place) (c.advance.ensures ∙ ap advanced (sym read))
    ∙ sym (replace_where-position (is_link c.args.v) _ links c.args.place c.requires.place)
