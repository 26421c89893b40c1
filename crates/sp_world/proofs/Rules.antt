-- The lemmas that a function of events needs together.
use Rattle.sp_world.proofs.Coming.{craft_may, flip_comes, flip_there, frame_is_long, pass_comes, pass_there, said_good, status_may, version_may}
use Rattle.sp_world.proofs.Crafting.{administrator_comes, administrator_left, node_comes, node_left, node_of, node_spent}
use Rattle.sp_world.proofs.Crafting.{crafted_is_short, list_is_signed, list_is_written, needs_last, same_list, signed_comes, signed_is_short, unsigned_is_short}
use Rattle.sp_world.proofs.Crafting.{signed_left, signed_of, spent_is}
use Rattle.sp_world.proofs.Publishing.{document_may, is_handed, last_signs, last_there}
use Rattle.sp_world.proofs.Starting.{can_reserve, has_enough, is_reserved, no_epochs, runs_not, some_left}
use Rattle.sp_world.proofs.Moving.{life_is_told}
use Rattle.sp_world.proofs.Standing.{are_filed, even}

pub ruleset lives = (are_filed, life_is_told)

pub ruleset came = (are_filed, even)

pub ruleset brought = (pass_there, flip_there, frame_is_long, craft_may, status_may, said_good, pass_comes, flip_comes, version_may, document_may)

pub ruleset crafted = (spent_is, signed_left, signed_of, signed_comes)

pub ruleset crafted_documents = (
  needs_last,
  list_is_written,
  list_is_signed,
  signed_is_short,
  unsigned_is_short,
  crafted_is_short,
  same_list,
  administrator_comes,
  administrator_left,
  node_comes,
  node_left,
  node_of,
  node_spent,
)

pub ruleset handed_out = (is_handed, last_signs, last_there)

pub ruleset reserving = (no_epochs, runs_not, has_enough, is_reserved, can_reserve, some_left)
