use Rattle.std.proofs.Common.{List, ap, sym, ◌∙◌, length}
use Rattle.std.specs.Prelude.{ℤ}
use Rattle.std.proofs.lemmas.Bool.{iff_false}
use Rattle.sp_paths.proofs.FitLemmas.{certificate_when, count_when, edges_when, nodes_when}
use Rattle.sp_paths.proofs.certified.is_certificate.Goals as goal

pub returns-then-as_slice-graph : goal.returns-then-as_slice-graph
returns-then-as_slice-graph c = (
  λ e. absurd (let x = e in cc),
  λ good. absurd
      (c.if-as_slice-graph.true
      (ap (λ (ps : List ℤ). length ps) c.as_slice.ensures ∙ count_when c.args.graph.now c.args.s c.args.t c.args.paths.now c.requires.ends good)),
)

pub returns-then-not-nodes_fit : goal.returns-then-not-nodes_fit
returns-then-not-nodes_fit c = (
  λ e. absurd (let x = e in cc),
  λ good. absurd (iff_false c.nodes_fit.ensures c.if-not-nodes_fit.true (nodes_when c.args.graph.now c.args.s c.args.t c.args.paths.now good)),
)

pub returns : goal.returns
returns c = (
  λ e.
      certificate_when c.args.graph.now c.args.s c.args.t c.args.paths.now c.requires.ends
      (ap (λ (ps : List ℤ). length ps) (sym c.as_slice.ensures) ∙ c.if-as_slice-graph.false) (c.nodes_fit.ensures.0 c.if-not-nodes_fit.false)
      (c.edges_fit.ensures.0 e),
  λ good. c.edges_fit.ensures.1 (edges_when c.args.graph.now c.args.s c.args.t c.args.paths.now good),
)
