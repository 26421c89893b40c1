use Rattle.std.proofs.Common.{◌<◌, ◌≤◌, ◌∙◌, ℕ, List, length, filter, sym, ap, subst}
use Rattle.std.specs.List.{All}
use Rattle.sp_base.specs.declared.limits.TheConstants.{MAX_NODES_2}
use Rattle.sp_graph.specs.declared.part.Part.{Part}
use Rattle.sp_graph.specs.Split.{parts_of}
use Rattle.sp_paths.specs.Fewer.{AreFewer}
use Rattle.sp_paths.specs.Lanes.{is_in}
use Rattle.sp_paths.specs.Parts.{node_of, number}
use Rattle.sp_paths.proofs.CutLists.{cut_is}
use Rattle.sp_paths.proofs.Ranges.{parts_small}
use Rattle.sp_paths.proofs.fewer.cut_found.Goals as goal

pub cut-requires : goal.cut-requires
cut-requires c =
    let small = parts_small c.args.graph.now c.args.s c.args.t c.requires.graph in
    let long = subst (λ (n : ℕ). All (λ part. ((node_of part).0 ≤ MAX_NODES_2) × (number part < n)) (parts_of c.args.graph.now c.args.s c.args.t))
    (sym c.requires.marks) small in
    record {
      parts =
          subst (λ (ps : List Part). All (λ part. ((node_of part).0 ≤ MAX_NODES_2) × (number part < length c.args.few.now.reached)) ps)
          (sym (c.as_slice.ensures.value ∙ c.in_ok-parts.ensures)) long;
    }

pub returns : goal.returns
returns c = λ k few.
    let these = c.from_vec.ensures ∙ c.in_ok-cut.ensures
    ∙ ap (filter (λ part. is_in c.args.few.now.reached (number part))) (c.as_slice.ensures.value ∙ c.in_ok-parts.ensures) in
    subst (AreFewer c.args.graph.now c.args.s c.args.t k c.args.few.now.found) (sym these)
    (cut_is c.args.graph.now c.args.s c.args.t k c.args.few.now.found c.args.few.now.reached c.requires.graph c.requires.ends few)
