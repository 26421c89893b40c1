use Rattle.std.proofs.Common.{ℕ, ◌∙◌, sym, ap, ◌/◌, refl}
use Rattle.std.proofs.Math.Nat.{div-one}
use Rattle.sp_lms.specs.Trees.{ancestor}
use Rattle.sp_lms.proofs.Ancestors.{ancestor_more, half_more}
use Rattle.sp_lms.proofs.path.ancestor.Goals as goal

pub levels-init : goal.levels-init
unfolding ancestor
levels-init c = record { number_is = sym (div-one c.args.r); value_is = refl }

pub levels-preserved : goal.levels-preserved
levels-preserved c = record {
  number_is = ap (λ (n : ℕ). n / 2) c.levels.invariant.number_is ∙ half_more c.args.r c.levels.level;
  value_is = c.above-value.ensures
      ∙ rw (c.levels.invariant.number_is, c.levels.invariant.value_is)
      (sym (ancestor_more c.args.id.now c.args.siblings.now c.args.r c.args.node.now c.levels.level));
}
