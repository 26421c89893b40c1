-- What becomes of a neighbour's row, the copies and the effects where a message is given to it.
use Rattle.std.specs.Prelude.{ℕ, ◌≡◌, ◌&&◌, Bool, List, Option, length, not, replicate}
use Rattle.sp_base.specs.declared.id.NodeId.{NodeId}
use Rattle.sp_msg.specs.Caused.{Caused}
use Rattle.sp_msg.specs.declared.kept.Kept.{Kept}
use Rattle.sp_msg.specs.Views.{names_edge}
use Rattle.sp_rules.specs.PrioPeer.{PrioPeer, given, given_effects, is_from}
use Rattle.sp_rules.specs.Told.{told}

-- a message with this mask goes to the neighbour
abbrev pub goes_along : ℕ → Option NodeId → PrioPeer → Bool
goes_along mask came q = not (is_from came q.peer) && names_edge mask q.edge && not q.shut

-- a neighbour's store after it was given a copy of a message, and what is told of it
pub record IsGiven (kept : Kept) (came : Option NodeId) (old new : PrioPeer) (copies : List Kept) (was now : Caused) : Type 0 where
  pub peer : new ≡ given kept came old
  pub told_is : now ≡ told was (given_effects kept came old)
  pub alike : copies ≡ replicate (length copies) kept
