use Rattle.std.proofs.Common.{◌≡◌, sym, subst}
use Rattle.std.specs.Prelude.{is_ok}
use Rattle.sp_outside.specs.Disk.{bytes_of, still}
use Rattle.sp_outside.specs.KeeperRecord.{Record, after_call, disk_of}
use Rattle.sp_outside.proofs.RecordLemmas.{kept_bytes}
use Rattle.sp_outside.proofs.recorded.Recorded.keep.Goals as goal

pub invariant_of-self : goal.invariant_of-self
invariant_of-self c =
    kept_bytes (is_ok c.push.result) (still c.self.inside.first.now) c.self.inside.calls.items c.push.new.self.items c.args.call c.self.inside.file
    c.push.ensures.items (subst (λ (r : Record). bytes_of (after_call (disk_of r) c.args.call) ≡ bytes_of (disk_of r)) (sym c.self.view_is) c.requires)
    c.self.invariant
