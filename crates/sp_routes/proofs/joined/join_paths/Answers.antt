use Rattle.std.proofs.Common.{◌≡◌, ◌+◌, Some, List, [], ◌∷◌, drop, refl, sym, ap, subst, ◌∙◌}
use Rattle.std.proofs.lemmas.List.{drop_more, drop_all}
use Rattle.sp_base.specs.declared.id.NodeId.{NodeId}
use Rattle.sp_graph.specs.Masks.{is_walked}
use Rattle.sp_rules.specs.Masks.{is_used}
use Rattle.sp_routes.proofs.JoinedLemmas.{AddsAll, all_added, one_added}
use Rattle.sp_routes.proofs.joined.join_paths.Goals as goal

pub paths-preserved : goal.paths-preserved
paths-preserved c =
    let paths = c.args.paths.now in
    let path = c.path-item.result in
    let rest = drop (c.paths.path-index + 1) paths in
    let split = drop_more paths c.paths.path-index path c.paths-test.true ∙ ap (λ (first : List NodeId). first ∷ rest) (sym c.path-item.is) in
    let so_far = subst (λ (left : List (List NodeId)). AddsAll c.args.flags.now c.paths.flags (λ e. is_used left (Some e)) (λ e. is_used paths (Some e))) split
    c.paths.invariant.so_far in
    record {
      long = c.join_steps.ensures.length;
      so_far = one_added c.args.flags.now c.paths.flags c.join_steps.new.flags (λ e. is_used (path ∷ rest) (Some e)) (λ e. is_walked e path)
          (λ e. is_used rest (Some e)) (λ e. is_used paths (Some e)) so_far (λ e. refl) (rw c.as_slice.ensures at c.join_steps.ensures.adds);
    }

pub returns : goal.returns
returns c =
    let paths = c.args.paths.now in
    let none : drop c.paths.path-index paths ≡ [] = drop_all c.paths.path-index paths c.paths-test.false in
    record {
      length = c.paths.invariant.long;
      adds = all_added c.args.flags.now c.paths.flags (λ e. is_used (drop c.paths.path-index paths) (Some e)) (λ e. is_used paths (Some e))
          c.paths.invariant.so_far (λ e. ap (λ (left : List (List NodeId)). is_used left (Some e)) none);
    }
