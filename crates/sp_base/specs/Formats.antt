-- The two formats of the overlay, by their numbers, and how much each may have.
use Rattle.std.specs.Prelude.{ℕ, ◌≡◌, ◌⊎◌, ◌==◌, if◌then◌else◌}
use Rattle.sp_base.specs.declared.format.TheConstants.{FORMAT_1, FORMAT_2}
use Rattle.sp_base.specs.declared.limits.TheConstants.{MAX_EDGES, MAX_EDGES_2, MAX_MESSAGES, MAX_NODES, MAX_NODES_2, MAX_RELS_2}

abbrev pub IsFormat : ℕ → Type 0
IsFormat format = (format ≡ FORMAT_1) ⊎ (format ≡ FORMAT_2)

-- the first in format 1, and else the second
abbrev pub by_format : {X : Type 0} → ℕ → X → X → X
by_format format one two = if format == FORMAT_1 then one else two

-- how many nodes a format has at most
abbrev pub max_nodes : ℕ → ℕ
max_nodes format = by_format format MAX_NODES MAX_NODES_2

-- how many edges a format has at most
abbrev pub max_edges : ℕ → ℕ
max_edges format = by_format format MAX_EDGES MAX_EDGES_2

-- how many messages a slot has at most
abbrev pub max_rels : ℕ → ℕ
max_rels format = by_format format MAX_MESSAGES MAX_RELS_2
