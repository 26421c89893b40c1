use Rattle.sp_msg.proofs.encoding.push_body.Goals as goal

pub returns-in-Prio-clause-bytes : goal.returns-in-Prio-clause-bytes
returns-in-Prio-clause-bytes c = rw (c.in-Prio.is, ← c.reserve.ensures.items) c.push_prio.ensures.bytes

pub returns-in-Rel-clause-bytes : goal.returns-in-Rel-clause-bytes
returns-in-Rel-clause-bytes c = rw (c.in-Rel.is, ← c.reserve.ensures.items) c.push_rel.ensures.bytes

pub returns-in-Ack-clause-bytes : goal.returns-in-Ack-clause-bytes
returns-in-Ack-clause-bytes c = rw (c.in-Ack.is, ← c.reserve.ensures.items) c.push_ack.ensures.bytes

pub returns-in-Weight-clause-bytes : goal.returns-in-Weight-clause-bytes
returns-in-Weight-clause-bytes c = rw (c.in-Weight.is, ← c.reserve.ensures.items) c.push_weight.ensures.bytes
