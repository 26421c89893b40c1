use Rattle.std.proofs.Common.{ap, arith, length}
use Rattle.sp_rules.specs.PrioPeer.{PrioPeer}
use Rattle.sp_store.specs.Leaving.{leaves}
use Rattle.sp_prio.proofs.TellLemmas.{few_leave}
use Rattle.sp_prio.proofs.peer.Peer.close.Goals as goal

pub leave_all-requires : goal.leave_all-requires
leave_all-requires c =
    let few = few_leave (leaves c.leaving_where-leaving.result) c.self.inside.store in
    let view = ap (λ (q : PrioPeer). length q.store.entries) c.self.view_is in
    omega (arith, few, view, c.requires)
