-- What holds of the trap graph, by computing.
use Rattle.std.proofs.Common.{◌≡◌, List, [], ◌∷◌, refl, arith}
use Rattle.std.specs.Prelude.{ℤ, pos}
use Rattle.std.specs.List.{AllPairs}
use Rattle.std.proofs.lemmas.List.Elements.{All-cons, All-nil, All-from_recursion}
use Rattle.std.proofs.lemmas.List.Kept.{AllPairs-cons}
use Rattle.sp_base.specs.declared.id.NodeId.{NodeId}
use Rattle.sp_graph.specs.declared.part.Part.{Part}
use Rattle.sp_graph.specs.declared.part.Part.TheVariants as parts
use Rattle.sp_graph.specs.Certificates.{IsOptimal, number_of}
use Rattle.sp_graph.specs.Cuts.{IsCut, is_among, leaving}
use Rattle.sp_graph.specs.Disjoint.{Apart, Disjoint}
use Rattle.sp_graph.specs.Edges.{IsEdge, IsGraph}
use Rattle.sp_graph.specs.Split.{parts_of}
use Rattle.sp_graph.specs.Walks.{IsPath}
use Rattle.laws_paths.specs.TrapGraph.{TrapHolds, node, one_path, trap, two_paths}
use Rattle.laws_paths.proofs.Computed.{apart_by, optimal_by, order_by, path_by}
use Rattle.laws_paths.proofs.Crossings.{small_cut_proves_fewer}
use Rattle.laws_paths.proofs.Duality.{certified_is_least}

no_pairs : {X : Type 0} (R : X → X → Type 0) → AllPairs R []
no_pairs R i j d less inside = absurd (omega (arith, inside))

in_range : IsGraph trap
in_range = record {
  nodes = (omega arith, omega arith);
  few = omega arith;
  edges = All-from_recursion (IsEdge 4) trap.edges (
    (omega arith, omega arith, omega arith, (omega arith, omega arith)),
    (
      (omega arith, omega arith, omega arith, (omega arith, omega arith)),
      (
        (omega arith, omega arith, omega arith, (omega arith, omega arith)),
        (
          (omega arith, omega arith, omega arith, (omega arith, omega arith)),
          ((omega arith, omega arith, omega arith, (omega arith, omega arith)), tt),
        ),
      ),
    ),
  );
  ascend = order_by trap.edges refl;
}

-- the least potentials: of node 1, then of the parts of 2 and 3, then of node 4
of_one : Part → ℤ
of_one = number_of (parts_of trap (node 1) (node 4)) (pos 0 ∷ pos 1 ∷ pos 1 ∷ pos 2 ∷ pos 2 ∷ pos 3 ∷ [])

of_two : Part → ℤ
of_two = number_of (parts_of trap (node 1) (node 4)) (pos 0 ∷ pos 1 ∷ pos 3 ∷ pos 4 ∷ pos 4 ∷ pos 7 ∷ [])

one_is_optimal : IsOptimal trap (node 1) (node 4) one_path of_one
unfolding of_one
one_is_optimal = optimal_by trap (node 1) (node 4) one_path of_one refl

two_is_optimal : IsOptimal trap (node 1) (node 4) two_paths of_two
unfolding of_two
two_is_optimal = optimal_by trap (node 1) (node 4) two_paths of_two refl

one : Disjoint trap (node 1) (node 4) 1 one_path
one =
    let p = path_by trap (node 1) (node 4) (node 2 ∷ node 3 ∷ []) refl refl in
    let over_both : List NodeId = node 1 ∷ node 2 ∷ node 3 ∷ node 4 ∷ [] in
    let paths = IsPath trap (node 1) (node 4) in
    let apart = Apart (node 1) (node 4) in
    record {
      count = refl;
      are_paths = All-cons paths over_both [] p (All-nil paths);
      apart =
          AllPairs-cons apart over_both [] (All-nil (apart over_both)) (no_pairs apart);
    }

two : Disjoint trap (node 1) (node 4) 2 two_paths
two =
    let p = path_by trap (node 1) (node 4) (node 2 ∷ []) refl refl in
    let q = path_by trap (node 1) (node 4) (node 3 ∷ []) refl refl in
    let over_2 : List NodeId = node 1 ∷ node 2 ∷ node 4 ∷ [] in
    let over_3 : List NodeId = node 1 ∷ node 3 ∷ node 4 ∷ [] in
    let paths = IsPath trap (node 1) (node 4) in
    let apart = Apart (node 1) (node 4) in
    record {
      count = refl;
      are_paths = All-cons paths over_2 (over_3 ∷ []) p (All-cons paths over_3 [] q (All-nil paths));
      apart = AllPairs-cons apart over_2 (over_3 ∷ [])
          (All-cons (apart over_2) over_3 [] (apart_by (node 1) (node 4) over_2 over_3 refl) (All-nil (apart over_2)))
          (AllPairs-cons apart over_3 [] (All-nil (apart over_3)) (no_pairs apart));
    }

is_cut : IsCut (node 1) (node 4) (is_among (parts.Out (node 1) ∷ []))
is_cut = record { source = refl; destination = refl }

size : leaving trap (node 1) (node 4) (is_among (parts.Out (node 1) ∷ [])) ≡ 2
size = refl

pub trap_holds : TrapHolds
trap_holds = record {
  in_range = in_range;
  one = one;
  one_cost = refl;
  one_least = certified_is_least trap (node 1) (node 4) 1 one_path of_one in_range one one_is_optimal;
  two = two;
  two_cost = refl;
  two_least = certified_is_least trap (node 1) (node 4) 2 two_paths of_two in_range two two_is_optimal;
  is_cut = is_cut;
  size = size;
  no_three = small_cut_proves_fewer trap (node 1) (node 4) 3 (is_among (parts.Out (node 1) ∷ [])) in_range is_cut (omega (arith, size));
}
