use Rattle.std.proofs.Common.{refl}
use Rattle.std.proofs.lemmas.Bool.{iff_false}
use Rattle.sp_paths.proofs.CheckLemmas.{apart_read, cost_read, paths_read}
use Rattle.sp_paths.proofs.checked.check.Goals as goal

pub returns-then-not-are_paths : goal.returns-then-not-are_paths
returns-then-not-are_paths c = (
  λ e. absurd (let x = e in cc),
  λ good. absurd
      (iff_false (paths_read c.args.graph.now c.args.s c.args.t c.as_slice-edges.result.now c.as_slice-set.result.now c.args.paths.now.paths
      c.as_slice-edges.ensures c.as_slice-set.ensures c.are_paths.result c.are_paths.ensures) c.if-not-are_paths.true good.disjoint.are_paths),
)

pub returns-then-not-are_apart : goal.returns-then-not-are_apart
returns-then-not-are_apart c = (
  λ e. absurd (let x = e in cc),
  λ good. absurd
      (iff_false (apart_read c.args.graph.now c.args.s c.args.t c.as_slice-edges.result.now c.as_slice-set.result.now c.args.paths.now.paths
      c.as_slice-edges.ensures c.as_slice-set.ensures c.are_apart.result c.are_apart.ensures) c.if-not-are_apart.true good.disjoint.apart),
)

pub returns-then-not-is_cost : goal.returns-then-not-is_cost
returns-then-not-is_cost c = (
  λ e. absurd (let x = e in cc),
  λ good. absurd
      (iff_false (cost_read c.args.graph.now c.args.s c.args.t c.as_slice-edges.result.now c.as_slice-set.result.now c.args.paths.now.paths
      c.as_slice-edges.ensures c.as_slice-set.ensures c.is_cost.result c.args.paths.now.cost c.is_cost.ensures) c.if-not-is_cost.true good.cost),
)

pub returns : goal.returns
returns c = (
  λ e. record {
    ends = c.are_ends.ensures.0 c.if-not-are_ends.false;
    disjoint = record {
      count = refl;
      are_paths = (paths_read c.args.graph.now c.args.s c.args.t c.as_slice-edges.result.now c.as_slice-set.result.now c.args.paths.now.paths
          c.as_slice-edges.ensures c.as_slice-set.ensures c.are_paths.result c.are_paths.ensures).0 c.if-not-are_paths.false;
      apart = (apart_read c.args.graph.now c.args.s c.args.t c.as_slice-edges.result.now c.as_slice-set.result.now c.args.paths.now.paths
          c.as_slice-edges.ensures c.as_slice-set.ensures c.are_apart.result c.are_apart.ensures).0 c.if-not-are_apart.false;
    };
    cost = (cost_read c.args.graph.now c.args.s c.args.t c.as_slice-edges.result.now c.as_slice-set.result.now c.args.paths.now.paths c.as_slice-edges.ensures
        c.as_slice-set.ensures c.is_cost.result c.args.paths.now.cost c.is_cost.ensures).0 c.if-not-is_cost.false;
    certificate = c.is_certificate.ensures.0 e;
  },
  λ good. c.is_certificate.ensures.1 good.certificate,
)
