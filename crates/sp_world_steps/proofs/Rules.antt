-- The lemmas that a call of one node among all needs together.
use Rattle.sp_base.proofs.RowLemmas.{placed}
use Rattle.sp_world_steps.proofs.Among.{answers_at, asked_at, asked_has_place, called_has_place, heard_at, may_ask_at, polled_at, same_among, short_at}
use Rattle.sp_world_steps.proofs.Among.{forward_at, reserve_has_place, reserved_at, within_at}

pub ruleset asked = (placed, same_among, asked_at, asked_has_place, may_ask_at)

pub ruleset polled = (placed, same_among, polled_at, called_has_place, answers_at, short_at)

pub ruleset heard = (placed, same_among, heard_at, called_has_place, answers_at)

pub ruleset reserved = (placed, reserved_at, reserve_has_place, forward_at, within_at)
