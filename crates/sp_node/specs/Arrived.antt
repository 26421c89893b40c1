-- What became of a datagram at its link, and what its sender leaves at a node before its document is handled.
use Rattle.std.specs.Prelude.{ℕ, ◌≡◌, List, [], IfSome, Option, None, Some, option_map}
use Rattle.sp_base.specs.declared.id.NodeId.{NodeId}
use Rattle.sp_frame.specs.Frames.{head_of}
use Rattle.sp_frame.specs.OfFormat.{AreOf}
use Rattle.sp_frame.specs.Views.{as_contents}
use Rattle.sp_frame.specs.declared.sections.Sections.{Sections}
use Rattle.sp_node_format.specs.Format.{format_of}
use Rattle.sp_rules.specs.Arrivals.{document_in, document_where, greeted, not_taken, or_fresh, pieces_in, pieces_where, sections_in}
use Rattle.sp_rules.specs.Node.{NodeState, called, is_shut_to, with_link}
use Rattle.sp_rules.specs.Pieces.{Piece, pieces_of}
use Rattle.sp_rules.specs.Versions.{Heard, with_version}
use Rattle.sp_rules.specs.declared.node.LinkReply.{LinkReply}
use Rattle.sp_node.specs.declared.datagram.Passage.{Passage}
use Rattle.sp_node.specs.declared.met.Met.{Met}

-- the pieces of sections that are to be handled
abbrev pub pieces_with : Option Sections → List Piece
pieces_with None = []
pieces_with (Some sections) = pieces_of (as_contents sections)

-- this version is kept of a neighbour, where it told one
abbrev pub heard_with : List Heard → NodeId → Option ℕ → List Heard
heard_with heard v None = heard
heard_with heard v (Some version) = with_version heard v version

-- all tests after those of the link
abbrev pub tests_after : NodeState → NodeId → List ℕ → Option LinkReply
tests_after n v frame =
    let arts = format_of n.fixed in
    not_taken n.live.version (head_of frame).topology (arts.is_document frame) (sections_in arts n.fixed frame) (is_shut_to n v)

-- what became of a frame by the first test that isn't passed
pub record IsMet (n : NodeState) (v : NodeId) (frame : List ℕ) (failed : Option LinkReply) (met : Met) : Type 0 where
  pub reply : met.reply ≡ or_fresh failed
  pub pieces : pieces_with met.sections ≡ pieces_where met.reply (pieces_in n.fixed (sections_in (format_of n.fixed) n.fixed frame))
  pub document : option_map (λ d. d.now) met.document ≡ document_where met.reply (document_in (sections_in (format_of n.fixed) n.fixed frame))
  pub formats : IfSome met.sections (AreOf n.fixed.topology.format)

-- the node as the link of a frame with a document leaves it
abbrev pub met_by : NodeState → NodeId → Passage → NodeState
met_by n v p =
    record (called n (with_link n v p.link) (greeted n.fixed.epochs p.risen v n.parts)) { heard = heard_with n.heard v p.heard }
