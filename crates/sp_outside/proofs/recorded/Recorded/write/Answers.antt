use Rattle.std.proofs.Common.{ℕ, List, sym, ap, ◌∙◌}
use Rattle.std.specs.Prelude.{is_ok}
use Rattle.sp_outside.specs.declared.keeper_calls.KeeperCall.TheVariants.{Written}
use Rattle.sp_outside.specs.Disk.{after_write, still}
use Rattle.sp_outside.specs.KeeperRecord.{after_calls}
use Rattle.sp_outside.proofs.RecordLemmas.{wrote_bytes}
use Rattle.sp_outside.proofs.recorded.Recorded.write.Goals as goal

pub invariant_of-self : goal.invariant_of-self
invariant_of-self c =
    c.write.ensures
    ∙ wrote_bytes (is_ok c.push.result) (still c.self.inside.first.now) c.self.inside.calls.items c.push.new.self.items
    (Written c.args.at c.in-Ok.bytes c.args.is_done) c.args.at c.args.piece.now c.self.inside.file (sym c.is_ok-is_kept.ensures.value ∙ c.if-is_kept.true)
    c.push.ensures.items
    (ap (λ (bs : List ℕ). after_write (after_calls (still c.self.inside.first.now) c.self.inside.calls.items) c.args.at bs) c.in-Ok.ensures.items)
    c.self.invariant
