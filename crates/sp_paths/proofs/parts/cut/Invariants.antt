use Rattle.std.proofs.Common.{◌≡◌, ◌++◌, drop, filter}
use Rattle.sp_paths.specs.Lanes.{is_in}
use Rattle.sp_paths.specs.Parts.{number}
use Rattle.sp_paths.proofs.parts.cut.Given as goal

abbrev pub invariant-loop-part : goal.invariant-loop-part
invariant-loop-part l =
    l.cut.items ++ filter (λ part. is_in l.reached (number part)) (drop l.part-index l.parts) ≡ filter (λ part. is_in l.reached (number part)) l.parts
