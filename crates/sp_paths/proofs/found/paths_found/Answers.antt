use Rattle.std.proofs.Common.{◌≡◌, ◌<◌, ◌≤◌, ◌∙◌, ℕ, List, length, map, pos, sym, ap, subst}
use Rattle.std.specs.Prelude.{ℤ}
use Rattle.std.specs.List.{All}
use Rattle.sp_base.specs.declared.limits.TheConstants.{MAX_NODES_2}
use Rattle.sp_graph.specs.declared.part.Part.{Part}
use Rattle.sp_graph.specs.Certificates.{IsCertificate}
use Rattle.sp_graph.specs.Split.{parts_of}
use Rattle.sp_paths.specs.Lanes.{at}
use Rattle.sp_paths.specs.Parts.{node_of, number}
use Rattle.sp_paths.proofs.CertificateLemmas.{certificate_is}
use Rattle.sp_paths.proofs.Ranges.{parts_small, paths_short}
use Rattle.sp_paths.proofs.found.paths_found.Goals as goal

pub potentials-requires-clause-parts : goal.potentials-requires-clause-parts
potentials-requires-clause-parts c =
    let small = parts_small c.args.graph.now c.args.s c.args.t c.requires.graph in
    let long = subst (λ (n : ℕ). All (λ part. ((node_of part).0 ≤ MAX_NODES_2) × (number part < n)) (parts_of c.args.graph.now c.args.s c.args.t))
    (sym c.requires.found.numbers) small in
    subst (λ (ps : List Part). All (λ part. ((node_of part).0 ≤ MAX_NODES_2) × (number part < length c.args.found.potential)) ps)
    (sym (c.as_slice.ensures.value ∙ c.in_ok-parts.ensures)) long

pub cost-cost-requires-clause-short : goal.cost-cost-requires-clause-short
cost-cost-requires-clause-short c =
    rw c.as_slice-3.ensures
    (paths_short c.args.graph.now c.args.s c.args.t c.args.count c.args.found.paths c.requires.graph c.requires.ends.0 c.requires.ends.1
    c.requires.found.disjoint)

pub returns : goal.returns
returns c =
    let f : Part → ℤ = λ part. pos (at c.args.found.potential (number part)) in
    let numbers : c.from_vec.result ≡ map f (parts_of c.args.graph.now c.args.s c.args.t) =
    c.from_vec.ensures ∙ c.in_ok-numbers.ensures ∙ ap (map f) (c.as_slice.ensures.value ∙ c.in_ok-parts.ensures) in
    let best = certificate_is c.args.graph.now c.args.s c.args.t c.args.found.paths f c.requires.graph c.requires.found.optimal in
    record {
      ends = c.requires.ends;
      disjoint = c.requires.found.disjoint;
      ordered = c.requires.found.ordered;
      cost = rw (sym c.as_slice-3.ensures, sym c.as_slice-2.ensures) c.cost-cost.ensures;
      certificate = subst (IsCertificate c.args.graph.now c.args.s c.args.t c.args.found.paths) (sym numbers) best;
      least = c.requires.found.least;
    }
