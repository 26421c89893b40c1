-- A document that a datagram brings, with the topology that it says, and whether it is forged.
use Rattle.std.specs.Prelude.{ℕ, ◌&&◌, Bool, true, false, List, [], ◌∷◌, Option, None, Some, option_map, Result, Ok, Err, if◌then◌else◌}
use Rattle.sp_frame.specs.Sections.{Contents}
use Rattle.sp_frame.specs.declared.refused.FrameRefused.{FrameRefused}
use Rattle.sp_frame.specs.declared.refused.SectionRefused.{SectionRefused}
use Rattle.sp_node_format.specs.Format.{document_in}
use Rattle.sp_rules.specs.Topologies.{weights_in}
use Rattle.sp_rules.specs.declared.answers.DocumentAnswer.{DocumentAnswer}
use Rattle.sp_rules.specs.declared.answers.DocumentAnswer.TheVariants as documents
use Rattle.sp_rules.specs.declared.answers.Item.{Item}
use Rattle.sp_rules.specs.declared.answers.Item.TheVariants as items
use Rattle.sp_rules.specs.declared.node.LinkReply.{LinkReply}
use Rattle.sp_rules.specs.declared.node.LinkReply.TheVariants as links
use Rattle.sp_runs.specs.Forgery.{is_published}
use Rattle.sp_schedule_events.specs.declared.event.Event.{Event}
use Rattle.sp_topology.specs.declared.topology.Topology.{Topology}
use Rattle.sp_forgery.specs.declared.documents.Brought.{Brought}

-- ---- what is brought

abbrev pub as_brought : Brought → List ℕ × Topology
as_brought b = (b.document.now, b.topology)

-- the topology that bytes say as a document
abbrev pub topology_in : List ℕ → Option Topology
topology_in bytes = option_map (λ d. d.topology) (document_in bytes)

-- a document with what it says
abbrev pub saying : (document : List ℕ) → Option Topology → Option (List ℕ × Topology)
saying document None = None
saying document (Some topology) = Some (document, topology)

-- the document that is there, with its topology
abbrev pub read_there : Option (List ℕ) → Option (List ℕ × Topology)
read_there None = None
read_there (Some document) = saying document (topology_in document)

-- that of bytes that open so and have these sections
abbrev pub brought_at : Result (List ℕ) FrameRefused → Result Contents SectionRefused → Option (List ℕ × Topology)
brought_at (Ok frame) (Ok contents) = read_there contents.document
brought_at (Ok frame) (Err refused) = None
brought_at (Err refused) sections = None

-- ---- whether it is forged

-- whether a link says fresh
abbrev pub is_fresh : LinkReply → Bool
is_fresh links.Fresh = true
is_fresh _ = false

-- whether a document is taken
abbrev pub adopts : DocumentAnswer → Bool
adopts (documents.Adopted version) = true
adopts _ = false

-- whether an answer says that a document is taken
abbrev pub is_adoption : Item → Bool
is_adoption (items.Document answer) = adopts answer
is_adoption _ = false

-- the answers are that a document was adopted
abbrev pub is_adopted : List Item → Bool
is_adopted [] = false
is_adopted (item ∷ others) = is_adoption item

-- the document, unless an event published its version with its weights
abbrev pub unless_published : List Event → List ℕ × Topology → Option (List ℕ)
unless_published es b = if is_published es b.1.version (weights_in b.1.edges) then None else Some b.0

-- the document of a datagram that was answered so, where it is forged
abbrev pub unpublished : List Event → LinkReply → List Item → Option (List ℕ × Topology) → Option (List ℕ)
unpublished es link answers None = None
unpublished es link answers (Some b) = if is_fresh link && is_adopted answers then unless_published es b else None
