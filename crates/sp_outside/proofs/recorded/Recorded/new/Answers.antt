use Rattle.std.proofs.Common.{sym, ◌∙◌}
use Rattle.sp_outside.proofs.DiskLemmas.{bytes_of-still}
use Rattle.sp_outside.proofs.recorded.Recorded.new.Goals as goal

pub invariant_of-result : goal.invariant_of-result
invariant_of-result c = rw (c.new.ensures.items) (c.copy.ensures ∙ sym (bytes_of-still c.args.first.now))
