use Rattle.std.proofs.Common.{◌≡◌, ◌∙◌, ℕ, sym, ap, subst}
use Rattle.std.specs.Prelude.{pos, slice_index_or}
use Rattle.std.proofs.Common.{w64}
use Rattle.std.proofs.lemmas.Bool.{iff_false}
use Rattle.std.proofs.lemmas.Int.{to_z-of_z}
use Rattle.sp_graph.specs.Certificates.{number_of}
use Rattle.sp_graph.specs.Split.{parts_of}
use Rattle.sp_paths.specs.Cheapest.{IsNode}
use Rattle.sp_paths.proofs.Placed.{no_number, number_by_place}
use Rattle.sp_paths.proofs.certified.potential_of.Goals as goal

pub returns-then-not-is_node : goal.returns-then-not-is_node
returns-then-not-is_node c =
    no_number c.args.graph.now c.args.s c.args.t c.args.potentials.now c.args.part
    (λ inside. iff_false c.is_node.ensures c.if-not-is_node.true (subst (IsNode c.args.graph.now) (sym c.node_of.ensures) inside))

pub returns : goal.returns
returns c =
    let inside = subst (IsNode c.args.graph.now) c.node_of.ensures (c.is_node.ensures.0 c.if-not-is_node.false) in
    let is : c.number_at.result ≡ number_of (parts_of c.args.graph.now c.args.s c.args.t) c.args.potentials.now c.args.part =
    c.number_at.ensures ∙ ap (λ (k : ℕ). slice_index_or c.args.potentials.now k (pos 0)) c.place.ensures
    ∙ sym (number_by_place c.args.graph.now c.args.s c.args.t c.args.potentials.now c.args.part c.requires.ends c.requires.there inside) in
    to_z-of_z w64 c.number_at.result (record { sfits = c.number_at.type_inv }) ∙ is
