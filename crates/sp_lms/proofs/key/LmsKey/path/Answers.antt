use Rattle.std.proofs.Common.{◌≡◌, ◌*◌, ◌/◌, ◌<◌, ◌≤◌, ◌∙◌, ℕ, ap, arith}
use Rattle.std.proofs.lemmas.List.{length-set}
use Rattle.sp_ots.proofs.Places.{filled_more}
use Rattle.sp_lms.specs.Parameters.{height, leaf_count}
use Rattle.sp_lms.specs.Trees.{path}
use Rattle.sp_lms.specs.Keys.{seed_leaf}
use Rattle.sp_lms.specs.Key.{Key}
use Rattle.sp_lms.proofs.Ancestors.{half_more}
use Rattle.sp_lms.proofs.Siblings.{sibling_read}
use Rattle.sp_lms.proofs.key.LmsKey.path.Goals as goal

pub levels-preserved : goal.levels-preserved
levels-preserved c =
    let k = c.self.inside in
    let same : leaf_count k.lms ≡ leaf_count c.args.self.now.lms = ap (λ (key : Key). leaf_count key.lms) c.self.view_is in
    let low : leaf_count k.lms ≤ c.args.r = omega (arith, same, c.requires.low) in
    let high : c.args.r < 2 * leaf_count k.lms = omega (arith, same, c.requires.high) in
    record {
      long = length-set c.levels.path c.levels.level c.index.result.now ∙ c.levels.invariant.long;
      number_is = ap (λ (n : ℕ). n / 2) c.levels.invariant.number_is ∙ half_more c.args.r c.levels.level;
      made =
          filled_more _ c.levels.path c.levels.level c.index.result.now (omega arith) c.levels.invariant.made
          (sibling_read (height k.lms) k.id (seed_leaf k.lms k.ots k.id k.seed) k.nodes.items c.levels.level c.args.r c.levels.number c.sibling.result
          c.index.result.now
          c.self.invariant.tree (omega (arith, c.height-level-end.ensures.value)) low high c.levels.invariant.number_is c.sibling.ensures c.index.ensures);
    }

pub returns : goal.returns
unfolding path
returns c =
    let k = c.self.inside in
    let end : c.levels.level ≡ height k.lms = omega (arith, c.height-level-end.ensures.value) in
    rw (← c.self.view_is, ← end) c.levels.invariant.made
