-- The keys of each kind of table, in the order in which they are judged: its name, whether it may be absent, what its value may be.
use Rattle.std.specs.Prelude.{ℕ, ◌-◌, ◌^◌, Bool, true, false, List, [], ◌∷◌, ◌++◌, codes}
use Rattle.sp_base.specs.declared.format.TheConstants.{FORMAT_1, FORMAT_2}
use Rattle.sp_base.specs.declared.limits.TheConstants.{MAX_BUFFER, MAX_STORE}
use Rattle.sp_config.specs.declared.keys.Form.{Form}
use Rattle.sp_config.specs.declared.keys.Form.TheVariants as forms
use Rattle.sp_config.specs.declared.keys.Key.{Key}
use Rattle.sp_config.specs.declared.keys.Key.TheVariants.{Must, May}
use Rattle.sp_config.specs.declared.keys.Shape.{Shape}
use Rattle.sp_config.specs.declared.keys.Shape.TheVariants.{Number, Height, Index, Id, Digits, AnyDigits, Tables}

-- a row of a table of keys
pub record Row : Type 0 where
  pub name : List ℕ
  pub optional : Bool
  pub shape : Shape

-- a key that must be there
abbrev pub must : List ℕ → Shape → Row
must name shape = record { name = name; optional = false; shape = shape }

-- a key that may be away
abbrev pub may : List ℕ → Shape → Row
may name shape = record { name = name; optional = true; shape = shape }

-- a key of the program as a row
abbrev pub row_of : Key → Row
row_of (Must name shape) = must name.now shape
row_of (May name shape) = may name.now shape

-- who a daemon is, and where it listens
abbrev pub own_keys : List Row
own_keys =
    must (codes "node") Id
    ∷ must (codes "seed") (Digits 32)
    ∷ must (codes "admin") (Digits 60)
    ∷ must (codes "topology") AnyDigits
    ∷ must (codes "port") (Number 1 (2 ^ 16 - 1))
    ∷ must (codes "client_port") (Number 1 (2 ^ 16 - 1))
    ∷ []

-- its bounds, and its neighbours
abbrev pub running_keys : List Row
running_keys =
    may (codes "buffer") (Number 1 MAX_BUFFER)
    ∷ may (codes "store") (Number 1 MAX_STORE)
    ∷ may (codes "peer") Tables
    ∷ []

-- the keys of a configuration: those that must be there first
abbrev pub config_keys : List Row
config_keys = own_keys ++ running_keys

-- the keys of a neighbour in a configuration
abbrev pub peer_keys : List Row
peer_keys = must (codes "id") Id ∷ must (codes "port") (Number 1 (2 ^ 16 - 1)) ∷ must (codes "key") (Digits 32) ∷ []

-- the keys of a draft
abbrev pub draft_keys : List Row
draft_keys =
    may (codes "format") (Number FORMAT_1 FORMAT_2)
    ∷ must (codes "version") (Number 0 (2 ^ 32 - 1))
    ∷ must (codes "height") Height
    ∷ must (codes "admin_seed") (Digits 32)
    ∷ must (codes "admin_index") Index
    ∷ must (codes "node") Tables
    ∷ must (codes "edge") Tables
    ∷ []

-- the keys of a node in a draft
abbrev pub node_keys : List Row
node_keys = must (codes "id") Id ∷ must (codes "seed") (Digits 32) ∷ []

-- the keys of an edge in a draft
abbrev pub edge_keys : List Row
edge_keys = must (codes "a") (Number 0 255) ∷ must (codes "b") (Number 0 255) ∷ must (codes "weight") (Number 0 (2 ^ 32 - 1)) ∷ []

-- the keys of each kind of table
abbrev pub keys_of : Form → List Row
keys_of forms.Config = config_keys
keys_of forms.Peer = peer_keys
keys_of forms.Draft = draft_keys
keys_of forms.Node = node_keys
keys_of forms.Edge = edge_keys

-- the arrays of tables in a table, each with the kind of its tables
abbrev pub arrays_of : Form → List (List ℕ × Form)
arrays_of forms.Config = (codes "peer", forms.Peer) ∷ []
arrays_of forms.Draft = (codes "node", forms.Node) ∷ (codes "edge", forms.Edge) ∷ []
arrays_of _ = []
