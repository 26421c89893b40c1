use Rattle.sp_flow.proofs.flow_buf.FlowBuffer.+from.Given as goal

abbrev pub decreases-from : goal.decreases-from
decreases-from g l = l.room
