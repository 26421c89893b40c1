-- Whether an object is signed, and how its check is counted: what the kinds of objects share.
use Rattle.std.specs.Prelude.{ℕ, Bool, true, false, Option, None, Some}
use Rattle.sp_msg.specs.declared.kept.Kept.{Kept}
use Rattle.sp_node_format.specs.Format.{format_of}
use Rattle.sp_rules.specs.Parts.{Fixed, is_signed}

-- the object's signer has a key in the node's topology, and under it the signature is valid of the object's bytes in the topology's format
abbrev pub is_right : Fixed → Kept → Bool
is_right f o = is_signed (format_of f) f o

-- one check where the object may be new
abbrev pub one_if : Bool → ℕ
one_if true = 1
one_if false = 0

-- the checks for an object, where there is one
abbrev pub of_some : {A : Type 0} → (A → ℕ) → Option A → ℕ
of_some checks None = 0
of_some checks (Some o) = checks o
