-- The crafting signers as they stand in memory.
use Rattle.std.specs.Prelude.{ℕ, ◌≡◌, ◌<◌, ◌+◌, ◌==◌, Bool, List, Result, Ok, Err}
use Rattle.std.specs.List.{All}
use Rattle.sp_base.specs.declared.id.NodeId.{NodeId}
use Rattle.sp_base.specs.declared.memory.Memory.{Memory}
use Rattle.sp_hss.specs.KeyTree.{signature}
use Rattle.sp_hss.specs.Signer.{Signer}
use Rattle.sp_runs.specs.Worlds as worlds
use Rattle.sp_topology.specs.declared.topology.LmsHeight.{LmsHeight}
use Rattle.sp_adversary.specs.Keys.{whole_signer}
use Rattle.sp_adversary.specs.declared.crafters.Crafted.{Crafted}
use Rattle.sp_adversary.specs.declared.crafters.Crafted.TheVariants as answers
use Rattle.sp_adversary.specs.declared.crafters.Crafter.{Crafter}

-- the key, and the index that comes next
abbrev pub used_of : Crafter → worlds.Crafted
used_of c = record { key = c.key; count = c.signer.index }

-- the signer is that of the key, with all its indexes
abbrev pub IsWhole : LmsHeight → (seed : List ℕ) → Crafter → Type 0
IsWhole height seed c = c.signer ≡ record (whole_signer height seed c.key) { index = c.signer.index }

-- crafting signers of this seed, each whole
abbrev pub AreWhole : LmsHeight → (seed : List ℕ) → List Crafter → Type 0
AreWhole height seed cs = All (IsWhole height seed) cs

-- the signer is that of this key
abbrev pub is_crafter : NodeId → Crafter → Bool
is_crafter key c = c.key.0 == key.0

-- one signature: the signer's next, or none is left, or there was no memory
abbrev pub Signs : Signer → (message : List ℕ) → Result (Crafted (List ℕ)) Memory → Signer → Type 0
Signs old message (Ok (answers.Signed signed)) new =
    (old.index < old.bound) × (signed ≡ signature old.height old.seed old.index message) × (new ≡ record old { index = old.index + 1 })
Signs old message (Ok (answers.Spent total)) new = (old.index ≡ old.bound) × (total ≡ old.bound) × (new ≡ old)
Signs old message (Err refused) new = new ≡ old
