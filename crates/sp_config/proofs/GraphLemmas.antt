-- The ids of a draft's nodes, taken in one step or in two.
use Rattle.std.proofs.Common.{◌≡◌, List, [], ◌∷◌, map, refl, ap}
use Rattle.sp_config.specs.declared.draft.DraftNode.{DraftNode}

pub ids_of_nodes : (nodes : List DraftNode) → map (λ id. id.0) (map (λ node. node.id) nodes) ≡ map (λ node. node.id.0) nodes
ids_of_nodes [] = refl
ids_of_nodes (node ∷ nodes) = ap (λ ids. node.id.0 ∷ ids) (ids_of_nodes nodes)
