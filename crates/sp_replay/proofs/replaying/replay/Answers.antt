use Rattle.sp_replay.proofs.Ends.{end_complete, end_wrote, forged_output, forged_written, read_output}
use Rattle.sp_replay.proofs.replaying.replay.Goals as goal

pub returns-in-Read-clause-wrote : goal.returns-in-Read-clause-wrote
returns-in-Read-clause-wrote g c =
    end_wrote _ _ _ c.play_input.new.world _ _ _ (read_output _ _ _ c.play_input.new.world c.in-Read.ending c.in-Read.ensures.halts c.tell_end.ensures.claims)
    c.tell_end.result.world
    c.tell_end.result.status c.tell_end.ensures.claims c.in-Read.ensures.halts.written c.tell_end.ensures.tells

pub returns-in-Read-clause-complete : goal.returns-in-Read-clause-complete
returns-in-Read-clause-complete g c = λ read written.
    end_complete _ _ _ c.play_input.new.world (g.K.Sink.contents c.args.sink.now) _ _
    (read_output _ _ _ c.play_input.new.world c.in-Read.ending c.in-Read.ensures.halts c.tell_end.ensures.claims) c.tell_end.result.world
    c.tell_end.result.status c.tell_end.ensures.tells written

pub returns-in-Forged-clause-wrote : goal.returns-in-Forged-clause-wrote
returns-in-Forged-clause-wrote g c =
    end_wrote _ _ _ c.play_input.new.world _ _ _ (forged_output _ _ _ c.play_input.new.world c.in-Forged.ensures.halts c.tell_end-in-Forged.ensures.claims)
    c.tell_end-in-Forged.result.world
    c.tell_end-in-Forged.result.status c.tell_end-in-Forged.ensures.claims (forged_written _ _ _ _ c.in-Forged.ensures.halts) c.tell_end-in-Forged.ensures.tells

pub returns-in-Forged-clause-complete : goal.returns-in-Forged-clause-complete
returns-in-Forged-clause-complete g c = λ read written.
    end_complete _ _ _ c.play_input.new.world (g.K.Sink.contents c.args.sink.now) _ _
    (forged_output _ _ _ c.play_input.new.world c.in-Forged.ensures.halts c.tell_end-in-Forged.ensures.claims) c.tell_end-in-Forged.result.world
    c.tell_end-in-Forged.result.status c.tell_end-in-Forged.ensures.tells written
