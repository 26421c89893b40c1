use Rattle.sp_replay.proofs.Begun.{nothing_begun}
use Rattle.sp_replay.proofs.pieces.play_input.Goals as goal

pub returns-in_default-clause-halts : goal.returns-in_default-clause-halts
returns-in_default-clause-halts g c = record { buffers = tt; begun = nothing_begun (g.S.Source.left c.args.source.now) (g.K.Sink.contents c.args.sink.now) }

pub returns-in_default-new-clause-halts : goal.returns-in_default-new-clause-halts
returns-in_default-new-clause-halts g c = record { buffers = tt; begun = nothing_begun (g.S.Source.left c.args.source.now) (g.K.Sink.contents c.args.sink.now) }

pub play_pieces-requires-clause-room : goal.play_pieces-requires-clause-room
play_pieces-requires-clause-room g c = rw c.as_mut_slice.ensures.value c.in-Ok.ensures
