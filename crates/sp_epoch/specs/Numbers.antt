-- What starts and reserves make of the numbers that a node's key file stands for: how many changes led to them, the bound below which indexes are
-- reserved, and the boot of the last start.
use Rattle.std.specs.Prelude.{ℕ, ◌+◌, ◌-◌, ◌≤◌, min, List, length, slice_index_or, slice_set}
use Rattle.sp_base.specs.declared.id.NodeId.{NodeId}
use Rattle.sp_keystate.specs.declared.numbers.Numbers.{Numbers}
use Rattle.sp_keystate.specs.declared.starts.TheConstants.{RESERVED}
use Rattle.sp_keystate.specs.Starting.{booted}
use Rattle.sp_keystate.specs.States.{first_numbers}
use Rattle.sp_epoch.specs.declared.started.Started.{Started}

-- the bound after a reserve: 32 indexes more, of this total
abbrev pub next_bound : (total : ℕ) → Numbers → ℕ
next_bound total n = min (n.bound + RESERVED) total

-- after a reserve, which is one change
abbrev pub after_more : (total : ℕ) → Numbers → Numbers
after_more total n = record { serial = n.serial + 1; bound = next_bound total n; boot = n.boot }

-- after a start, which takes the next boot and then reserves
abbrev pub after_start : (total : ℕ) → Numbers → Numbers
after_start total n = after_more total (booted n)

-- what a start gives: the next boot, and the indexes from the old bound on, below the new one
abbrev pub started_at : (total : ℕ) → Numbers → Started
started_at total n = record { boot = n.boot + 1; index = n.bound; bound = next_bound total n }

-- ---- the numbers of all nodes, those of node 1 first

-- a node that these numbers are of
abbrev pub IsOneOf : List Numbers → NodeId → Type 0
IsOneOf all u = (1 ≤ u.0) × (u.0 ≤ length all)

-- the numbers of a node's key file
abbrev pub numbers_at : List Numbers → NodeId → Numbers
numbers_at all u = slice_index_or all (u.0 - 1) first_numbers

-- all numbers where those of a node became these
abbrev pub with_numbers : List Numbers → NodeId → Numbers → List Numbers
with_numbers all u n = slice_set all (u.0 - 1) n
