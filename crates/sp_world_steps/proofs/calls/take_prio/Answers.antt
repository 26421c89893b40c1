use Rattle.sp_world_steps.proofs.Stepping.{words_by_take_prio}
use Rattle.sp_world_steps.proofs.calls.take_prio.Goals as goal

pub payload_word-requires : goal.payload_word-requires
payload_word-requires c = words_by_take_prio _ _ _ c.requires.words c.in-Some.ensures.step
