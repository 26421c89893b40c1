use Rattle.std.proofs.Common.{◌≡◌, ◌++◌, drop, map, pos}
use Rattle.sp_paths.specs.Lanes.{at}
use Rattle.sp_paths.specs.Parts.{number}
use Rattle.sp_paths.proofs.parts.potentials.Given as goal

abbrev pub invariant-loop-part : goal.invariant-loop-part
invariant-loop-part l =
    l.numbers.items ++ map (λ part. pos (at l.potential (number part))) (drop l.part-index l.parts) ≡ map (λ part. pos (at l.potential (number part))) l.parts
