use Rattle.std.proofs.Common.{ap, inl, inr, refl}
use Rattle.sp_graph.specs.declared.stage.Stage.TheVariants as stages
use Rattle.std.proofs.lemmas.Bool.{iff_false}
use Rattle.sp_graph.specs.Lines.{Edge_line, End_line, No_form}
use Rattle.sp_graph.proofs.ReadingLemmas.{bad_edge}
use Rattle.sp_graph.proofs.line.after_edges.Goals as goal

pub returns-then-is_end : goal.returns-then-is_end
returns-then-is_end c = End_line (c.is_end.ensures.0 c.if-is_end.true)

pub returns-in_default : goal.returns-in_default
returns-in_default c =
    No_form (λ form. elim form
    [ inl edge ↦ c.in_default.ensures.none edge.0 edge.1 edge.2 edge.3 | inr end ↦ iff_false c.is_end.ensures c.if-is_end.false end ])

pub returns-in_err-edge : goal.returns-in_err-edge
returns-in_err-edge c =
    bad_edge c.args.format c.args.graph _ _ c.in-Some.low.now c.in-Some.high.now c.in-Some.weight.now c.from_residual.result c.in_err-edge.field-0.0
    c.from_residual.ensures.1
    c.in-Some.ensures.found c.in_err-edge.ensures.fields

pub returns-then-not-is_next : goal.returns-then-not-is_next
returns-then-not-is_next c =
    Edge_line c.in-Some.low.now c.in-Some.high.now c.in-Some.weight.now c.in-Some.ensures.found
    (inr (c.in_ok-edge.edge, c.in_ok-edge.ensures.fields, iff_false c.is_next.ensures c.if-not-is_next.true, refl))

pub returns : goal.returns
returns c =
    Edge_line c.in-Some.low.now c.in-Some.high.now c.in-Some.weight.now c.in-Some.ensures.found
    (c.in_ok-edge.edge, c.in_ok-edge.ensures.fields, c.is_next.ensures.0 c.if-not-is_next.false, ap stages.Edges c.in_ok-with_edge.ensures)
