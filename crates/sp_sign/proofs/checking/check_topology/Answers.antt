use Rattle.sp_sign.proofs.checking.check_topology.Goals as goal

pub returns : goal.returns
returns c = rw c.as_slice.ensures at c.verify.ensures
