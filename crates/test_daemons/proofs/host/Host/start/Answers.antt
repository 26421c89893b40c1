use Rattle.std.proofs.Common.{None}
use Rattle.test_daemons.proofs.host.Host.start.Goals as goal

-- at its start the key file stands for its keys, whatever its clock tells
pub invariant_of-result : goal.invariant_of-result
invariant_of-result c =
    let held = (c.in-Ok-start.ensures.begins None).begins.held in
    record { current = λ over. held.stands.is_current; bound = λ over. held.bound; serial = λ over. held.serial }
