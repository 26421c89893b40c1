use Rattle.std.proofs.Common.{◌∙◌, arith, sym}
use Rattle.sp_rules.specs.Store.{has_id}
use Rattle.sp_store.proofs.CountLemmas.{counted_once, one_uncounted}
use Rattle.sp_store.proofs.LeftLemmas.{none_left}
use Rattle.sp_store.proofs.counted.remove.Goals as goal

pub overflow_sub-counts : goal.overflow_sub-counts
overflow_sub-counts c =
    counted_once c.args.places.now.entries c.args.counts.now (has_id c.args.id) c.in-Some.entry c.source.result c.requires.counted
    (sym c.remove.ensures.entry ∙ c.in-Some.is) c.source.ensures (omega arith)

pub returns-in-Some-clause-counted : goal.returns-in-Some-clause-counted
returns-in-Some-clause-counted c =
    rw c.remove.ensures.store (one_uncounted c.args.places.now.entries c.args.counts.now (has_id c.args.id) c.in-Some.entry c.source.result
    c.requires.counted (sym c.remove.ensures.entry ∙ c.in-Some.is) c.source.ensures (omega arith))

pub returns-in-None-clause-counted : goal.returns-in-None-clause-counted
returns-in-None-clause-counted c =
    rw (c.remove.ensures.store, none_left (has_id c.args.id) c.args.places.now.entries (sym c.remove.ensures.entry ∙ c.in-None.is)) c.requires.counted
