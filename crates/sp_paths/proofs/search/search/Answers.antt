use Rattle.std.proofs.Common.{◌≡◌, ◌+◌, ◌*◌, List, map, refl, ap, ◌∙◌, arith}
use Rattle.sp_graph.specs.Split.{arcs_of}
use Rattle.sp_paths.specs.declared.lane.Lane.{Lane}
use Rattle.sp_paths.specs.Parts.{arc_of}
use Rattle.sp_paths.specs.Routes.{HasAll, HasOnly}
use Rattle.sp_paths.proofs.Searches.{few_is, found_is, fresh_ready, paths_same, places_inside, same_arcs, zeros, zeros_read}
use Rattle.sp_paths.proofs.search.search.Goals as goal

pub route-requires-clause-ready : goal.route-requires-clause-ready
route-requires-clause-ready c =
    rw c.as_mut_slice-slots.ensures.value
    (fresh_ready (2 * c.args.s.0 + 1) c.in_ok-lanes.lanes.items zeros c.in_ok-lanes.ensures.fresh refl (zeros_read zeros refl)
    (omega (arith, c.requires.ends.0, c.requires.graph.nodes.1)))

pub route-requires-clause-zero : goal.route-requires-clause-zero
route-requires-clause-zero c = zeros_read zeros refl

pub paths_of-requires : goal.paths_of-requires
paths_of-requires c =
    let taken = c.in_ok-taken-in-All.ensures.apart.taken in
    record {
      inside =
          rw c.as_slice.ensures.value
          (places_inside (λ walk. walk.items) c.in_ok-taken-in-All.taken.items _ (λ i h. omega (arith, taken.inside i h, taken.long)));
    }

pub returns-in-All : goal.returns-in-All
returns-in-All c =
    let all : HasAll (2 * c.args.s.0 + 1) (2 * c.args.t.0) c.args.count c.route.new.lanes c.route.new.potential =
    rw c.in-All.is at c.in_ok-route.ensures.routed in
    let arcs : map arc_of c.route.new.lanes ≡ arcs_of c.args.graph.now c.args.s c.args.t =
    same_arcs c.as_mut_slice-slots.result.now c.route.new.lanes c.in_ok-route.ensures.same
    ∙ ap (λ (lanes : List Lane). map arc_of lanes) c.as_mut_slice-slots.ensures.value ∙ c.in_ok-lanes.ensures.arcs in
    found_is c.args.graph.now c.args.s c.args.t c.args.count c.route.new.lanes c.walks.new.lanes c.route.new.potential _ _ c.requires.ends.2 c.requires.graph
    arcs all
    c.in_ok-taken-in-All.ensures.apart c.in_ok-taken-in-All.ensures.flow
    (c.in_ok-paths-in-All.ensures
    ∙ rw c.as_slice.ensures.value
    (paths_same (λ walk. walk.items) c.in_ok-taken-in-All.taken.items c.route.new.lanes c.walks.new.lanes c.args.s _
    c.in_ok-taken-in-All.ensures.apart.taken))
    (omega (arith, c.in_ok-route.ensures.lengths.0))

pub returns : goal.returns
returns c =
    let only : HasOnly (2 * c.args.s.0 + 1) (2 * c.args.t.0) c.in-Only.found c.args.count c.route.new.lanes c.route.new.reached =
    rw c.in-Only.is at c.in_ok-route.ensures.routed in
    let arcs : map arc_of c.route.new.lanes ≡ arcs_of c.args.graph.now c.args.s c.args.t =
    same_arcs c.as_mut_slice-slots.result.now c.route.new.lanes c.in_ok-route.ensures.same
    ∙ ap (λ (lanes : List Lane). map arc_of lanes) c.as_mut_slice-slots.ensures.value ∙ c.in_ok-lanes.ensures.arcs in
    few_is c.args.graph.now c.args.s c.args.t c.args.count c.in-Only.found c.route.new.lanes c.route.new.reached c.requires.ends.2 c.requires.graph arcs only
    (omega (arith, c.in_ok-route.ensures.lengths.1))
