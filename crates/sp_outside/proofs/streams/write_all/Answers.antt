use Rattle.std.proofs.Common.{rules, arith, ◌∙◌}
use Rattle.std.proofs.Math.Seq.{take-add}
use Rattle.std.proofs.lemmas.List.{take_rest}
use Rattle.std.proofs.KnownBytes.{Appends-trans}
use Rattle.sp_outside.proofs.streams.write_all.Goals as goal

pub pieces-preserved : goal.pieces-preserved
pieces-preserved g c = record {
  within = search rules;
  written = rw take-add (Appends-trans _ _ _ _ _ c.pieces.invariant.written (rw take_rest at c.in_ok-done.ensures.bytes));
  same = c.in_ok-done.ensures.cause.fine ∙ c.pieces.invariant.same;
  later = omega (arith, c.pieces.invariant.later, c.in_ok-done.ensures.cause.later);
}
