-- How much a format may have at most.
use Rattle.std.proofs.Common.{◌≡◌, ◌≤◌, ◌==◌, ℕ, Bool, true, false, if◌then◌else◌, arith}
use Rattle.sp_base.specs.Formats.{max_edges, max_nodes}
use Rattle.sp_base.specs.declared.format.TheConstants.{FORMAT_1}
use Rattle.sp_base.specs.declared.limits.TheConstants.{MAX_EDGES, MAX_EDGES_2, MAX_NODES, MAX_NODES_2}

-- each format has at most 32 nodes
pub few_nodes : (format : ℕ) → max_nodes format ≤ 32
few_nodes format = go (format == FORMAT_1)
  where
    go : (b : Bool) → (if b then MAX_NODES else MAX_NODES_2) ≤ 32
    go true = omega arith
    go false = omega arith

-- each format has at most 256 edges
pub few_edges : (format : ℕ) → max_edges format ≤ 256
few_edges format = go (format == FORMAT_1)
  where
    go : (b : Bool) → (if b then MAX_EDGES else MAX_EDGES_2) ≤ 256
    go true = omega arith
    go false = omega arith
