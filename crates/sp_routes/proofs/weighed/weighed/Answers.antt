use Rattle.std.proofs.Common.{Vec, Global, ◌≡◌, ◌++◌, ◌∷◌, [], ◌+◌, ℕ, List, sym, ap, subst, ◌∙◌, arith, drop}
use Rattle.std.specs.Prelude.{slice_index_or}
use Rattle.sp_topology.specs.declared.topology.Edge.{Edge}
use Rattle.sp_rules.specs.Masks.{weighed}
use Rattle.sp_routes.proofs.WeighedLemmas.{left_out, put_in}
use Rattle.sp_routes.proofs.weighed.weighed.Goals as goal
use Rattle.sp_routes.proofs.weighed.weighed.Goals.{then-not-is_withdrawn+in_ok-push, else-not-is_withdrawn}

pub edges-preserved : goal.edges-preserved
edges-preserved c =
    let edges = c.args.edges.now in
    let weights = c.args.weights.now in
    let k = c.edges.edge-index in
    let place = c.edges.place in
    let none : Edge = record { low = record { 0 = 0 }; high = record { 0 = 0 }; weight = 0 } in
    let inside = c.edges-test.true in
    let far = weighed weights (place + 1) (drop (k + 1) edges) in
    let next : place + 1 ≡ k + 1 = omega (arith, c.edges.invariant.place) in
    elim c.if-not-is_withdrawn.branch [
      | then-not-is_withdrawn+in_ok-push w ↦
          let e : Edge = slice_index_or edges k none in
          let made = ap (λ (v : Vec Edge Global). v.items) w.made-is ∙ w.in_ok-push.ensures.items
          ∙ ap (λ (n : ℕ). c.edges.made.items ++ record { low = e.low; high = e.high; weight = n } ∷ []) w.effective.ensures in
          record {
            place = next;
            so_far = ap (λ (xs : List Edge). xs ++ far) made
                ∙ put_in weights place edges c.edges.made.items (weighed weights 0 edges) k none inside
                (sym c.is_withdrawn.ensures ∙ w.if-not-is_withdrawn.true) c.edges.invariant.so_far;
          }
      | else-not-is_withdrawn w ↦ record {
        place = next;
        so_far = ap (λ (v : Vec Edge Global). v.items ++ far) w.made-is
            ∙ left_out weights place edges c.edges.made.items (weighed weights 0 edges) k none inside (sym c.is_withdrawn.ensures ∙ w.if-not-is_withdrawn.false)
            c.edges.invariant.so_far;
      }
    ]
