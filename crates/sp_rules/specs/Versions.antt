-- The versions of the topology that a node knows: the one that it runs under, and of each neighbour the one that it keeps. So it knows whom to offer its
-- document.
--
-- What a frame with a right tag makes of the version that is kept of its sender, where nodes run with epochs:
--
--     the known boot rises by it      it becomes the version of its head, since the sender may have started again with its first document
--     it has the known boot           it becomes that version where it is greater
--     else                            it stays
--
-- Without epochs each such frame is as one of the known boot.
use Rattle.std.specs.Prelude.{ℕ, ◌==◌, max, Bool, not, List, if◌then◌else◌}
use Rattle.sp_base.specs.Rows.{first_where, replace_where}
use Rattle.sp_base.specs.declared.id.NodeId.{NodeId}

-- the version that a node runs under, the weight of each edge in it, 0 where the edge is withdrawn, and the document that says so
pub record Live : Type 0 where
  pub version : ℕ
  pub weights : List ℕ
  pub document : List ℕ

-- the version that is kept of a neighbour
pub record Heard : Type 0 where
  pub peer : NodeId
  pub version : ℕ

-- no frame of it came
abbrev pub none_heard : NodeId → Heard
none_heard v = record { peer = v; version = 0 }

-- whether this was heard of that neighbour
abbrev pub is_heard_of : NodeId → Heard → Bool
is_heard_of v h = h.peer.0 == v.0

-- the version that a neighbour was heard to run under
abbrev pub version_in : List Heard → NodeId → ℕ
version_in heard v = (first_where (is_heard_of v) (none_heard v) heard).version

-- what was heard, with another version of a neighbour
abbrev pub with_version : List Heard → NodeId → ℕ → List Heard
with_version heard v version = replace_where (is_heard_of v) (record { peer = v; version = version }) heard

-- the version that is kept, by whether nodes run with epochs, the known boot rises, and the frame has it
abbrev pub kept_version : (epochs rises known : Bool) → (kept theirs : ℕ) → ℕ
kept_version epochs rises known kept theirs =
    if not epochs then max kept theirs else if rises then theirs else if known then max kept theirs else kept
