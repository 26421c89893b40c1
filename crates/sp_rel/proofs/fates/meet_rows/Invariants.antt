use Rattle.std.proofs.Common.{◌≡◌, ◌++◌, length, map, take, drop}
use Rattle.sp_rel.specs.Fates.{AreSoundStill, row_after}
use Rattle.sp_rel.proofs.fates.meet_rows.Given as goal

abbrev pub invariant-rows : goal.invariant-rows
invariant-rows l = record {
  rows : l.rows.items ≡ map (row_after l.fate) (take l.at l.fn.rows.items) ++ drop l.at l.fn.rows.items;
  count : length l.rows.items ≡ length l.fn.rows.items;
  active : length l.active.items ≡ length l.fn.rows.items;
  due : length l.due.items ≡ length l.fn.rows.items;
  sound : AreSoundStill l.fn.rows.items l.fn.active.items l.fn.due.items l.rows.items l.active.items l.due.items;
}
