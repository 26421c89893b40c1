use Rattle.sp_replay.proofs.Lines.{note_event}
use Rattle.sp_replay.proofs.line.play_event.Goals as goal

pub returns-in-Ok-clause-notes : goal.returns-in-Ok-clause-notes
returns-in-Ok-clause-notes g c =
    note_event c.args.world.now c.step-stepped.new.self c.args.event _ _ c.write_last.result c.in-Ok.ensures.ok c.write_last.ensures.notes
