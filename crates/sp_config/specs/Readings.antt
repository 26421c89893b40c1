-- What a text says: the four refusals in their order, and the values.
use Rattle.std.specs.Prelude.{ℕ, ◌≡◌, ◌≢◌, ◌-◌, ◌^◌, ◌==◌, List, map, Option, Some, None, Result, Ok, Err, codes, if◌then◌else◌}
use Rattle.sp_base.specs.Refusals.{◌>>=◌, as_refusal}
use Rattle.sp_base.specs.declared.format.TheConstants.{FORMAT_1, FORMAT_2}
use Rattle.sp_topology.specs.Documents.{read_of}
use Rattle.sp_topology.specs.Faults.{graph_fault}
use Rattle.sp_topology.specs.declared.topology.Edge.{Edge}
use Rattle.sp_topology.specs.declared.topology.LmsHeight.{LmsHeight}
use Rattle.sp_topology.specs.declared.topology.LmsHeight.TheVariants.{Five, Ten}
use Rattle.sp_topology.specs.declared.refused.TopologyRefused.{TopologyRefused}
use Rattle.toml.specs.Data.{Members, get_member}
use Rattle.toml.specs.Parse.{parse_document}
use Rattle.sp_config.specs.declared.config.Config.{Config}
use Rattle.sp_config.specs.declared.config.TheConstants.{NO_INDEX}
use Rattle.sp_config.specs.declared.config.Peer.{Peer}
use Rattle.sp_config.specs.declared.draft.Draft.{Draft}
use Rattle.sp_config.specs.declared.draft.DraftEdge.{DraftEdge}
use Rattle.sp_config.specs.declared.draft.DraftNode.{DraftNode}
use Rattle.sp_config.specs.declared.keys.Form.{Form}
use Rattle.sp_config.specs.declared.keys.Form.TheVariants as forms
use Rattle.sp_config.specs.declared.keys.Ranges.{Ranges}
use Rattle.sp_config.specs.declared.refused.ConfigRefused.{ConfigRefused}
use Rattle.sp_config.specs.declared.refused.ConfigRefused.TheVariants as refusals
use Rattle.sp_config.specs.declared.walks.Wrong.{Wrong}
use Rattle.sp_config.specs.declared.walks.Wrong.TheVariants.{Unknown, Missing, Range}
use Rattle.sp_config.specs.Values.{bytes_at, format_said, number_at, number_or, tables_at, text_at}
use Rattle.sp_config.specs.Walks.{first_wrong}

-- ---- refusals

abbrev pub refusal_of : Wrong → List ℕ → ConfigRefused
refusal_of Unknown key = refusals.Unknown key
refusal_of Missing key = refusals.Missing key
refusal_of (Range ranges) key = refusals.Range key

-- a refusal where there is a fault
abbrev pub unless : {F : Type 0} → (F → ConfigRefused) → Option F → Result (Unit {0}) ConfigRefused
unless refusal None = Ok tt
unless refusal (Some fault) = Err (refusal fault)

-- the refusal of the first key that is wrong in this way
abbrev pub refused_by : Wrong → Form → Members → Result (Unit {0}) ConfigRefused
refused_by wrong form ms = unless (refusal_of wrong) (first_wrong wrong form ms)

-- an unknown key comes before a missing one
abbrev pub refused_keys : Form → Members → Result (Unit {0}) ConfigRefused
refused_keys form ms = refused_by Unknown form ms >>= λ _. refused_by Missing form ms

-- how many messages a key of two levels of this height signs
abbrev pub total : LmsHeight → ℕ
total Five = 2 ^ 10
total Ten = 2 ^ 20

-- ---- a configuration

-- whether the bytes begin with a document, or why they are refused
abbrev pub document_in : List ℕ → Result (Unit {0}) TopologyRefused
document_in bytes = read_of bytes >>= λ read. Ok tt

-- the neighbour that a table says
abbrev pub peer_of : Members → Peer
peer_of ms = record { id = record { 0 = number_at (codes "id") ms }; port = number_at (codes "port") ms; key = bytes_at (codes "key") ms }

-- the configuration that a table says
abbrev pub config_from : Members → Config
config_from ms = record {
  node = record { 0 = number_at (codes "node") ms };
  seed = bytes_at (codes "seed") ms;
  admin = bytes_at (codes "admin") ms;
  topology = bytes_at (codes "topology") ms;
  port = number_at (codes "port") ms;
  client_port = number_at (codes "client_port") ms;
  buffer = number_or 16 (get_member (codes "buffer") ms);
  store = number_or 64 (get_member (codes "store") ms);
  peers = map peer_of (tables_at (codes "peer") ms);
}

-- a configuration is under the format of its topology, and no key of it is an index
abbrev pub config_ranges : Members → Ranges
config_ranges ms = record { format = format_said (text_at (codes "topology") ms); index = NO_INDEX }

-- the configuration in a table, or the first refusal
unfoldable pub config_in : Members → Result Config ConfigRefused
config_in ms = do
  _ ← refused_keys forms.Config ms
  _ ← refused_by (Range (config_ranges ms)) forms.Config ms
  _ ← as_refusal refusals.Topology (document_in (bytes_at (codes "topology") ms))
  Ok (config_from ms)

-- ---- a draft

-- 1 where it isn't said. That of a draft whose format is out of range doesn't count
abbrev pub format_in : Members → ℕ
format_in ms = if number_at (codes "format") ms == FORMAT_2 then FORMAT_2 else FORMAT_1

-- that of a draft whose height is out of range doesn't count
abbrev pub height_in : Members → LmsHeight
height_in ms = if number_at (codes "height") ms == 10 then Ten else Five

-- its indexes are those of the administrator's key
abbrev pub draft_ranges : Members → Ranges
draft_ranges ms = record { format = format_in ms; index = total (height_in ms) - 1 }

-- the node of a draft that a table says
abbrev pub node_of : Members → DraftNode
node_of ms = record { id = record { 0 = number_at (codes "id") ms }; seed = bytes_at (codes "seed") ms }

-- the edge of a draft that a table says
abbrev pub edge_of : Members → DraftEdge
edge_of ms = record { a = number_at (codes "a") ms; b = number_at (codes "b") ms; weight = number_at (codes "weight") ms }

-- the edge of a draft as one of a topology
abbrev pub as_edge : DraftEdge → Edge
as_edge e = record { low = record { 0 = e.a }; high = record { 0 = e.b }; weight = e.weight }

-- the draft that a table says
abbrev pub draft_from : Members → Draft
draft_from ms = record {
  format = format_in ms;
  version = number_at (codes "version") ms;
  height = height_in ms;
  admin_seed = bytes_at (codes "admin_seed") ms;
  admin_index = number_at (codes "admin_index") ms;
  nodes = map node_of (tables_at (codes "node") ms);
  edges = map edge_of (tables_at (codes "edge") ms);
}

-- the first fault of the document that the draft would give
abbrev pub fault_of : Draft → Option TopologyRefused
fault_of draft = graph_fault draft.format (map (λ n. n.id.0) draft.nodes) (map as_edge draft.edges)

-- the draft in a table, or the first refusal
unfoldable pub draft_in : Members → Result Draft ConfigRefused
draft_in ms = do
  _ ← refused_keys forms.Draft ms
  _ ← refused_by (Range (draft_ranges ms)) forms.Draft ms
  _ ← unless refusals.Topology (fault_of (draft_from ms))
  Ok (draft_from ms)

-- ---- texts

-- the table that a text is (TOML 1.0), or its refusal
abbrev pub table_of : List ℕ → Result Members ConfigRefused
table_of text = elim (parse_document text) [ None ↦ Err refusals.Toml | Some ms ↦ Ok ms ]

-- the configuration that a text says, or its refusal
abbrev pub config_of : List ℕ → Result Config ConfigRefused
config_of text = table_of text >>= config_in

-- the draft that a text says, or its refusal
abbrev pub draft_of : List ℕ → Result Draft ConfigRefused
draft_of text = table_of text >>= draft_in

-- what a call answered, seen by view, is what reading gives, unless memory was wanting
abbrev pub GivesInMemory : {X Y : Type 0} → (X → Y) → Result X ConfigRefused → Result Y ConfigRefused → Type 0
GivesInMemory view (Ok x) read = read ≡ Ok (view x)
GivesInMemory view (Err refused) read = refused ≢ refusals.Memory → read ≡ Err refused
