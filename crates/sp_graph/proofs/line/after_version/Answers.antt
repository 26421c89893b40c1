use Rattle.std.proofs.Common.{◌∙◌, List, ap}
use Rattle.sp_topology.specs.declared.topology.Edge.{Edge}
use Rattle.sp_graph.specs.declared.stage.Stage.{Stage}
use Rattle.sp_graph.specs.declared.stage.Stage.TheVariants as stages
use Rattle.sp_graph.specs.Lines.{No_form, Nodes_line}
use Rattle.sp_graph.proofs.ReadingLemmas.{bad_nodes}
use Rattle.sp_graph.proofs.line.after_version.Goals as goal

pub returns-in_default : goal.returns-in_default
returns-in_default c = No_form (λ form. c.in_default.ensures.none form.0 form.1)

pub returns-in_err-nodes : goal.returns-in_err-nodes
returns-in_err-nodes c =
    bad_nodes c.args.format _ _ c.in-Some.word.now c.from_residual.result c.in_err-nodes.field-0.0 c.from_residual.ensures.1 c.in-Some.ensures.found
    c.in_err-nodes.ensures.field

pub returns : goal.returns
returns c =
    let none : List Edge → Stage = λ edges. stages.Edges (record { nodes = c.in_ok-nodes.nodes; edges = edges }) in
    Nodes_line c.in-Some.word.now c.in-Some.ensures.found (c.in_ok-nodes.nodes, c.in_ok-nodes.ensures.field, ap none (c.from_vec.ensures ∙ c.new.ensures.items))
