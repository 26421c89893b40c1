use Rattle.toml.specs.View.{table_view}
use Rattle.sp_config.specs.declared.keys.Form.TheVariants as forms
use Rattle.sp_config.proofs.GoodLemmas.{good, good_edges, good_nodes}
use Rattle.sp_config.proofs.draft.draft_in.Goals as goal

pub draft_from-requires-clause-good : goal.draft_from-requires-clause-good
draft_from-requires-clause-good c = good forms.Draft _ (table_view c.args.table.now) c.in_ok-refuse_keys.ensures c.in_ok-refuse.ensures

pub draft_from-requires-clause-nodes : goal.draft_from-requires-clause-nodes
draft_from-requires-clause-nodes c = good_nodes _ (table_view c.args.table.now) c.in_ok-refuse_keys.ensures c.in_ok-refuse.ensures

pub draft_from-requires-clause-edges : goal.draft_from-requires-clause-edges
draft_from-requires-clause-edges c = good_edges _ (table_view c.args.table.now) c.in_ok-refuse_keys.ensures c.in_ok-refuse.ensures
