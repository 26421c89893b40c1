use Rattle.std.proofs.Common.{◌+◌, rules}
use Rattle.sp_world_steps.proofs.FrameRows.{is_framed}
use Rattle.sp_world_steps.proofs.frames.add_frame.Goals as goal

pub returns-clause-framed : goal.returns-clause-framed
returns-clause-framed c =
    is_framed c.args.nodes.now.items c.poll.new.nodes.items c.args.u c.args.v c.args.frames.now.items c.push_in_room.new.items.items c.in_ok-bytes.bytes
    c.frame-entry.result (c.len.result + 1) c.in_ok-bytes.ensures.polled (rw c.as_slice.ensures at c.frame-entry.ensures)
    (search rules)
    (rw c.in_ok-reserve.ensures.items at c.push_in_room.ensures.items)
