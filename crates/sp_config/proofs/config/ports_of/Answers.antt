use Rattle.std.proofs.Common.{◌≤◌, arith, codes, false}
use Rattle.toml.specs.Data.{get_member}
use Rattle.toml.specs.View.{table_view}
use Rattle.sp_config.specs.Good.{IsGood}
use Rattle.sp_config.specs.Values.{number_at}
use Rattle.sp_config.proofs.GoodLemmas.{number_below}
use Rattle.sp_config.proofs.config.ports_of.Goals as goal

pub short_at-requires-2 : goal.short_at-requires-2
unfolding IsGood
short_at-requires-2 c =
    let ms = table_view c.args.table.now in
    let below : number_at (codes "client_port") ms ≤ 65535 =
    number_below c.args.ranges 1 65535 (codes "client_port") false (get_member (codes "client_port") ms) c.requires.1.1.1.1.1.0 in
    omega (arith, below)
