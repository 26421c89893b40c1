use Rattle.std.proofs.Common.{◌≡◌, ◌++◌, take}
use Rattle.std.specs.List.{flat_map}
use Rattle.sp_generate.specs.Generated.{frame}
use Rattle.sp_generate.proofs.happenings.push_frames.Given as goal

abbrev pub invariant-directions : goal.invariant-directions
invariant-directions l = l.events.items ≡ l.fn.events.items ++ flat_map (frame l.number) (take l.direction-index l.directions)
