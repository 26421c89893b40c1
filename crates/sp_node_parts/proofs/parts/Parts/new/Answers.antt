use Rattle.std.proofs.Common.{ap, arith}
use Rattle.sp_rules.specs.Parts.{Parts}
use Rattle.sp_node_parts.proofs.Closing.{nothing_closes}
use Rattle.sp_node_parts.specs.Closing.{bare_fixed, closing_room}
use Rattle.sp_node_parts.proofs.parts.Parts.new.Goals as goal

pub close-requires-clause-room : goal.close-requires-clause-room
close-requires-clause-room c =
    omega (
      arith,
      ap (λ (p : Parts). closing_room p) c.in_ok-parts.ensures,
      nothing_closes (bare_fixed c.args.me c.args.topology.now) c.args.limits.buffer c.args.limits.store,
    )
