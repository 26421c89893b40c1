use Rattle.sp_world_steps.proofs.Stepping.{words_by_publish}
use Rattle.sp_world_steps.proofs.calls.publish.Goals as goal

pub replaced_word-requires : goal.replaced_word-requires
replaced_word-requires c = words_by_publish _ _ c.in-Ok.field-0 _ c.requires.words c.in-Ok.ensures.step
