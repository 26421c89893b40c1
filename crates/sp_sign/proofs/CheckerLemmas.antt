-- The key that stands where a node was found.
use Rattle.std.proofs.Common.{◌≡◌, ℕ, ◌<◌, List, Some, length, drop, map, slice_index_or, sym, ◌∙◌, ap, arith}
use Rattle.std.proofs.lemmas.List.{drop_more, get_or_default}
use Rattle.sp_topology.specs.Keys.{key_of}
use Rattle.sp_sign.specs.Checker.{as_key}
use Rattle.sp_sign.specs.declared.checker.NodeVerifier.{NodeVerifier}

-- the first of the nodes from this place on is the one that is looked for
pub found_at : (id : ℕ) (nodes : List NodeVerifier) (place : ℕ) (d n : NodeVerifier) → place < length nodes → (slice_index_or nodes place d).id.0 ≡ id
    → key_of id (map as_key (drop place nodes)) ≡ Some (slice_index_or nodes place n).key
found_at id nodes place d n within same =
    let at : slice_index_or nodes place d ≡ slice_index_or nodes place n = get_or_default nodes place d n within in
    let id_is : (slice_index_or nodes place n).id.0 ≡ id = ap (λ (k : NodeVerifier). k.id.0) (sym at) ∙ same in
    grind (arith, drop_more nodes place n within, id_is)
