use Rattle.std.proofs.Common.{◌≡◌, take}
use Rattle.std.specs.List.{flat_map}
use Rattle.sp_rel.specs.Fates.{ended_row}
use Rattle.sp_rules.specs.Told.{told}
use Rattle.sp_rel.proofs.fates.tell_ended.Given as goal

abbrev pub invariant-rows : goal.invariant-rows
invariant-rows l = l.effects ≡ told l.fn.effects (flat_map (ended_row l.kind l.fate) (take l.row-index l.rows))
