-- What a contract sees of a node: its state by the rules, and how many signatures and tags it has checked in this life.
use Rattle.std.specs.Prelude.{ℕ, ◌≡◌, ◌+◌, List, Option, None, Some}
use Rattle.laws_node.specs.Nodes.{IsKept}
use Rattle.laws_node.specs.Withdrawals.{Obeys}
use Rattle.sp_base.specs.declared.id.NodeId.{NodeId}
use Rattle.sp_node_arrivals.specs.Work.{frame_checks}
use Rattle.sp_node_format.specs.Format.{format_of}
use Rattle.sp_node_state.specs.Publications.{document_checks}
use Rattle.sp_rules.specs.Arrivals.{arrival_at, document_at, pieces_in, pieces_where, reply_at, sections_in}
use Rattle.sp_rules.specs.Node.{NodeState}
use Rattle.sp_rules.specs.declared.node.LinkReply.{LinkReply}
use Rattle.sp_rules.specs.declared.node.LinkReply.TheVariants as replies
use Rattle.sp_topology.specs.declared.topology.NodeKey.{NodeKey}

-- the state, the number of signature checks, and that of tag checks, which stand still at the end of their type
pub record Life : Type 0 where
  pub state : NodeState
  pub checks : ℕ
  pub tags : ℕ

-- no signature and no tag was checked
pub record IsIdle (old new : Life) : Type 0 where
  pub checks : new.checks ≡ old.checks
  pub tags : new.tags ≡ old.tags

-- what always holds: the bounds, ranges and signatures of what is kept, that nothing is kept which the topology withdraws, and that signatures are checked
-- under the keys of the topology
pub record IsLife (n : NodeState) (keys : List NodeKey) : Type 0 where
  pub kept : IsKept (format_of n.fixed) n
  pub obeys : Obeys n
  pub known : keys ≡ n.fixed.topology.nodes

-- how many signatures may be checked for its document: one where its version is above that of the node, and else none
abbrev pub checks_with : NodeState → Option (List ℕ) → ℕ
checks_with n None = 0
checks_with n (Some document) = document_checks n document

-- how many signatures may be checked for a datagram: none where it isn't fresh and whole; else one for each object that may be new, or for its document
abbrev pub datagram_checks : NodeState → NodeId → List ℕ → ℕ
datagram_checks n v bytes =
    frame_checks (arrival_at n v) n.parts
    (pieces_where (reply_at (format_of n.fixed) n v bytes) (pieces_in n.fixed (sections_in (format_of n.fixed) n.fixed bytes)))
    + checks_with n (document_at (format_of n.fixed) n v bytes)

-- how many tags are checked for a datagram, by what became of it at its link: one of a frame that names the link's ends, and none of any other
abbrev pub reply_tags : LinkReply → ℕ
reply_tags replies.TooLong = 0
reply_tags (replies.Short short) = 0
reply_tags replies.Magic = 0
reply_tags replies.Version = 0
reply_tags replies.NotForMe = 0
reply_tags _ = 1

-- how many tags are checked of a datagram
abbrev pub datagram_tags : NodeState → NodeId → List ℕ → ℕ
datagram_tags n v bytes = reply_tags (reply_at (format_of n.fixed) n v bytes)
