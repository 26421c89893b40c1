use Rattle.std.proofs.Common.{set, refl, ap}
use Rattle.sp_ots.proofs.UnderWay.{advanced}
use Rattle.sp_ots.proofs.lanes.Lanes.advance.Goals as goal

pub returns-clause-under_way : goal.returns-clause-under_way
returns-clause-under_way c = λ front from old long hashed u.
    let was = c.args.self.now in
    advanced front from c.args.to.now old c.args.elements.now _ was _ c.args.k c.args.digest.now
    long u c.requires.lane c.requires.busy hashed refl refl refl refl refl (ap (set was.messages c.args.k) c.renew.ensures)
