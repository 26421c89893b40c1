use Rattle.std.proofs.Common.{length, ◌-◌, ◌≤◌}
use Rattle.spinesd.proofs.key_file.read_from.Given as goal

abbrev pub invariant-pieces : goal.invariant-pieces
invariant-pieces l = l.done ≤ length l.buf

abbrev pub decreases-pieces : goal.decreases-pieces
decreases-pieces l = length l.initial.buf - l.done
