-- A datagram arrives: the tests of its link in their order, and where it passes them all, its document, or else its pieces.
--
--     its length, its name, its version      TooLong, Short, Magic, Version     nothing changes
--     the link                               NotForMe, BadTag                   nothing changes
--                                            Learned                            the neighbour's boot is known; with epochs, where
--                                                                               it rises, what that one reported is forgotten
--                                            Stale                              nothing changes
--     the topology, the sections, the edge   OtherTopology, Section, Withdrawn  the link keeps it as its last frame
--     none of these                          Fresh                              the same, and its document or its pieces are handled
--
-- From the test of its tag on, the version of its head counts.
use Rattle.std.specs.Prelude.{ℕ, ◌==◌, ◌&&◌, nat_lt, Bool, true, false, not, List, [], Option, None, Some, is_none, option_map, unwrap_or, Result, Ok, Err}
use Rattle.std.specs.Prelude.{if◌then◌else◌}
use Rattle.std.specs.Result.{result_err}
use Rattle.sp_base.specs.Cursor.{or_else}
use Rattle.sp_base.specs.declared.id.NodeId.{NodeId}
use Rattle.sp_frame.specs.Sections.{Contents}
use Rattle.sp_frame.specs.declared.refused.FrameRefused.{FrameRefused}
use Rattle.sp_frame.specs.declared.refused.FrameRefused.TheVariants as frames
use Rattle.sp_frame.specs.declared.refused.SectionRefused.{SectionRefused}
use Rattle.sp_rules.specs.Arts.{Arts, is_right}
use Rattle.sp_rules.specs.Documents.{after_publish}
use Rattle.sp_rules.specs.Handle.{Arrival, Handled, handle_all}
use Rattle.sp_rules.specs.Kflow as kflow
use Rattle.sp_rules.specs.Link.{Link, after_frame, link_answer}
use Rattle.sp_rules.specs.Node.{NodeState, call_refusal, called, is_shut_to, kept_or, link_in, version_of, with_link}
use Rattle.sp_rules.specs.Parts.{Fixed, Parts, changes}
use Rattle.sp_rules.specs.Pieces.{Piece, pieces_of}
use Rattle.sp_rules.specs.Prio as prio
use Rattle.sp_rules.specs.Rel as rel
use Rattle.sp_rules.specs.Versions.{Heard, kept_version, with_version}
use Rattle.sp_rules.specs.declared.link.LinkAnswer.{LinkAnswer}
use Rattle.sp_rules.specs.declared.link.LinkAnswer.TheVariants as answers
use Rattle.sp_rules.specs.declared.node.LinkReply.{LinkReply}
use Rattle.sp_rules.specs.declared.node.LinkReply.TheVariants as replies

-- ---- the tests, in three groups. None where the tests of a group are passed

abbrev pub no_frame : Result (List ℕ) FrameRefused → Option LinkReply
no_frame (Err frames.TooLong) = Some replies.TooLong
no_frame (Err (frames.Short short)) = Some (replies.Short short)
no_frame (Err frames.Magic) = Some replies.Magic
no_frame (Err frames.Version) = Some replies.Version
no_frame (Ok frame) = None

-- what ends a frame that isn't fresh
abbrev pub not_fresh : LinkAnswer → Option LinkReply
not_fresh answers.NotForMe = Some replies.NotForMe
not_fresh answers.BadTag = Some replies.BadTag
not_fresh (answers.Learned boot) = Some (replies.Learned boot)
not_fresh (answers.Stale boot counter) = Some (replies.Stale boot counter)
not_fresh answers.Fresh = None

-- by the topology version of this node and that of the sender, where it doesn't begin as a frame with a document does
abbrev pub not_read : (mine theirs : ℕ) → (documents : Bool) → Result Contents SectionRefused → Option LinkReply
not_read mine theirs documents sections =
    if not (theirs == mine) && not documents then Some (replies.OtherTopology theirs) else option_map replies.Section (result_err sections)

-- the document of sections that could be read
abbrev pub document_in : Result Contents SectionRefused → Option (List ℕ)
document_in (Ok contents) = contents.document
document_in (Err refused) = None

-- over an edge that is withdrawn only a document comes
abbrev pub not_open : Option (List ℕ) → (shut : Bool) → Option LinkReply
not_open document shut = if shut && is_none document then Some replies.Withdrawn else None

-- all tests after those of the link
abbrev pub not_taken : (mine theirs : ℕ) → (documents : Bool) → Result Contents SectionRefused → (shut : Bool) → Option LinkReply
not_taken mine theirs documents sections shut = or_else (not_read mine theirs documents sections) (not_open (document_in sections) shut)

-- ---- what becomes of a datagram

-- what the link says of a frame
abbrev pub link_says : Arts → Link → List ℕ → LinkAnswer
link_says arts l bytes = link_answer l (arts.head bytes) (is_right arts l.key bytes)

-- the sections of a frame under the topology of this node
abbrev pub sections_in : Arts → Fixed → List ℕ → Result Contents SectionRefused
sections_in arts f bytes = arts.sections f.signature_len bytes

-- what is told of the first test that isn't passed, or that all are
abbrev pub or_fresh : Option LinkReply → LinkReply
or_fresh told = unwrap_or told replies.Fresh

-- what a datagram is to the node: the first test that it fails, or fresh
abbrev pub reply_at : Arts → NodeState → NodeId → List ℕ → LinkReply
reply_at arts n v bytes =
    or_fresh
    (or_else (no_frame (arts.opened bytes))
    (or_else (not_fresh (link_says arts (link_in n v) bytes))
    (not_taken n.live.version (arts.head bytes).topology (arts.is_document bytes) (sections_in arts n.fixed bytes) (is_shut_to n v))))

-- what it makes of the link
abbrev pub link_after : Arts → NodeState → NodeId → List ℕ → Link
link_after arts n v bytes =
    kept_or (no_frame (arts.opened bytes)) (link_in n v) (after_frame (link_in n v) (arts.head bytes) (is_right arts (link_in n v).key bytes))

-- another life of the neighbour began: its boot, as it is known, rises, also from 0
abbrev pub has_risen : (old new : Link) → Bool
has_risen old new = nat_lt old.peer_boot new.peer_boot

-- whether a datagram tells a later start of the neighbour
abbrev pub rises : Arts → NodeState → NodeId → List ℕ → Bool
rises arts n v bytes = has_risen (link_in n v) (link_after arts n v bytes)

-- ---- the version of its sender

-- the tag is right
abbrev pub is_tagged : LinkAnswer → Bool
is_tagged answers.NotForMe = false
is_tagged answers.BadTag = false
is_tagged _ = true

-- it passed the tests of its bytes, its ends and its tag
abbrev pub is_from_peer : Option LinkReply → LinkAnswer → Bool
is_from_peer (Some refused) answer = false
is_from_peer None answer = is_tagged answer

-- it is told, where topologies may change
abbrev pub is_told : Arts → NodeState → NodeId → List ℕ → Bool
is_told arts n v bytes = changes n.fixed && is_from_peer (no_frame (arts.opened bytes)) (link_says arts (link_in n v) bytes)

-- the version that is kept then, by the boot that was known before the frame
abbrev pub version_after : Arts → NodeState → NodeId → List ℕ → ℕ
version_after arts n v bytes =
    let h = arts.head bytes in
    kept_version n.fixed.epochs (rises arts n v bytes) (h.boot == (link_in n v).peer_boot) (version_of n v) h.topology

-- the versions that were heard, with what this datagram tells
abbrev pub heard_after : Arts → NodeState → NodeId → List ℕ → List Heard
heard_after arts n v bytes = if is_told arts n v bytes then with_version n.heard v (version_after arts n v bytes) else n.heard

-- ---- its pieces

-- where nodes run without epochs, no Epoch object is handled
abbrev pub heeded : Fixed → Contents → Contents
heeded f contents = if f.epochs then contents else record contents { epoch = None }

-- none beside a document
abbrev pub pieces_beside : Option (List ℕ) → List Piece → List Piece
pieces_beside None pieces = pieces
pieces_beside (Some document) pieces = []

-- the pieces of sections that could be read
abbrev pub pieces_in : Fixed → Result Contents SectionRefused → List Piece
pieces_in f (Ok contents) = pieces_beside contents.document (pieces_of (heeded f contents))
pieces_in f (Err refused) = []

-- the pieces that are handled: all where the datagram passed, and else none
abbrev pub pieces_where : LinkReply → List Piece → List Piece
pieces_where replies.Fresh pieces = pieces
pieces_where _ pieces = []

-- where and when a datagram comes
abbrev pub arrival_at : NodeState → NodeId → Arrival
arrival_at n v = record { fixed = n.fixed; now = n.now; from = v }

-- what a neighbour reported and acknowledged is forgotten
abbrev pub unheard : NodeId → Parts → Parts
unheard v p = record p {
  prio = prio.unheard p.prio v.0;
  rel = rel.unheard p.rel v;
  kflow = kflow.with_flows p.kflow (rel.unheard p.kflow.flows v);
}

-- with epochs, so is what it did in its life before, where another one began
abbrev pub greeted : (epochs risen : Bool) → NodeId → Parts → Parts
greeted epochs risen v p = if epochs && risen then unheard v p else p

-- before the pieces are handled
abbrev pub parts_met : Arts → NodeState → NodeId → List ℕ → Parts
parts_met arts n v bytes = greeted n.fixed.epochs (rises arts n v bytes) v n.parts

-- what the node does with the pieces of a datagram
abbrev pub handled : Arts → NodeState → NodeId → List ℕ → Handled
handled arts n v bytes =
    handle_all arts (arrival_at n v) (parts_met arts n v bytes) (pieces_where (reply_at arts n v bytes) (pieces_in n.fixed (sections_in arts n.fixed bytes)))

-- ---- its document

-- the one that is handled
abbrev pub document_where : LinkReply → Option (List ℕ) → Option (List ℕ)
document_where replies.Fresh document = document
document_where _ document = None

-- the document of a datagram that passes all tests
abbrev pub document_at : Arts → NodeState → NodeId → List ℕ → Option (List ℕ)
document_at arts n v bytes = document_where (reply_at arts n v bytes) (document_in (sections_in arts n.fixed bytes))

-- the node before it is handled: its link, the version that it keeps, and what its parts made of the pieces
abbrev pub before_document : Arts → NodeState → NodeId → List ℕ → NodeState
before_document arts n v bytes =
    record (called n (with_link n v (link_after arts n v bytes)) (handled arts n v bytes).parts) { heard = heard_after arts n v bytes }

-- the node after it read a document, if there is one
abbrev pub read_by : Arts → NodeState → Option (List ℕ) → NodeState
read_by arts n None = n
read_by arts n (Some document) = after_publish arts n document

-- ---- all of it

-- the node after a datagram; what is no call changes nothing
abbrev pub after_datagram : Arts → NodeState → NodeId → List ℕ → NodeState
after_datagram arts n v bytes = kept_or (call_refusal n v) n (read_by arts (before_document arts n v bytes) (document_at arts n v bytes))
