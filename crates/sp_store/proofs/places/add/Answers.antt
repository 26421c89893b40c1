use Rattle.std.proofs.Common.{◌∙◌, nat_eq}
use Rattle.indexmap.proofs.CallerLemmas.{insert_entry-new}
use Rattle.sp_store.proofs.places.add.Goals as goal

pub returns-clause-places : goal.returns-clause-places
returns-clause-places c =
    (rw c.unwrap.ensures at c.insert.ensures.entries) ∙ insert_entry-new nat_eq c.args.map.now c.args.id c.args.slot c.requires.fresh
