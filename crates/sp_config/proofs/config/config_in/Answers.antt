use Rattle.toml.specs.View.{table_view}
use Rattle.sp_config.specs.declared.keys.Form.TheVariants as forms
use Rattle.sp_config.specs.Keys.{own_keys, running_keys}
use Rattle.sp_config.proofs.GoodLemmas.{good, good_first, good_peers, good_rest}
use Rattle.sp_config.proofs.config.config_in.Goals as goal

pub config_from-requires-clause-own : goal.config_from-requires-clause-own
config_from-requires-clause-own c =
    good_first own_keys running_keys _ (table_view c.args.table.now)
    (good forms.Config _ (table_view c.args.table.now) c.in_ok-refuse_keys.ensures c.in_ok-refuse.ensures)

pub config_from-requires-clause-running : goal.config_from-requires-clause-running
config_from-requires-clause-running c =
    good_rest own_keys running_keys _ (table_view c.args.table.now)
    (good forms.Config _ (table_view c.args.table.now) c.in_ok-refuse_keys.ensures c.in_ok-refuse.ensures)

pub config_from-requires-clause-peers : goal.config_from-requires-clause-peers
config_from-requires-clause-peers c =
    good_peers _ (table_view c.args.table.now) c.in_ok-refuse_keys.ensures c.in_ok-refuse.ensures
