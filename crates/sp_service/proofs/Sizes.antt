-- The document is a front of the bytes.
use Rattle.std.proofs.Common.{◌≡◌, ℕ, ◌≤◌, List, length, Result, Ok, Err, refl, arith, ap}
use Rattle.std.specs.Prelude.{◌-◌}
use Rattle.sp_base.specs.Refusals.{◌>>=◌}
use Rattle.sp_topology.specs.Documents.{read_of, topology_at}
use Rattle.sp_topology.specs.declared.topology.Topology.{Topology}
use Rattle.sp_topology.specs.declared.refused.TopologyRefused.{TopologyRefused}

abbrev size_in : Result (Topology × ℕ) TopologyRefused → ℕ
size_in (Ok read) = read.1
size_in (Err refused) = 0

pub size_is_within : (bytes : List ℕ) (t : Topology) (size : ℕ) → read_of bytes ≡ Ok (t, size) → size ≤ length bytes
size_is_within bytes t size = go (topology_at bytes)
  where
    sized : Topology × List ℕ → Result (Topology × ℕ) TopologyRefused
    sized read = Ok (read.0, length bytes - length read.1)

    go : (x : Result (Topology × List ℕ) TopologyRefused) → (x >>= sized) ≡ Ok (t, size) → size ≤ length bytes
    go (Ok read) is = let e : length bytes - length read.1 ≡ size = ap size_in is in omega (arith, e)
    go (Err refused) is = let e : 0 ≡ size = ap size_in is in omega (arith, e)
