-- No path goes along an edge that isn't there.
use Rattle.std.proofs.Common.{◌≡◌, false, List, None, refl}
use Rattle.std.proofs.lemmas.List.Folds.{list_any_none}
use Rattle.sp_base.specs.declared.id.NodeId.{NodeId}
use Rattle.sp_graph.specs.Masks.{is_walked_at}
use Rattle.sp_rules.specs.Masks.{is_used}

-- no path uses an edge that isn't there
pub none_used : (paths : List (List NodeId)) → is_used paths None ≡ false
none_used paths = list_any_none (is_walked_at None) paths (λ k path inside. refl)
