use Rattle.std.proofs.Common.{refl}
use Rattle.sp_node_parts.proofs.parts.tables_of.Goals as goal

pub returns : goal.returns
returns c =
    rw (c.in_ok-weights.ensures, c.in_ok-prio.ensures, c.in-Ok.ensures.table, c.in_ok-kflow.ensures.table, c.in_ok-lives.ensures, c.in_ok-origins.ensures) refl
