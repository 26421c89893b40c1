-- The worked replacement, by computing.
use Rattle.std.proofs.Common.{refl}
use Rattle.laws_node.specs.Replaced.{IsReplaced}

pub replaced : IsReplaced
replaced = record { adopted = refl; refused = refl; again = refl; unsigned = refl; returned = refl }
