-- How a document goes from a node to its neighbour: a poll offers it, and who meets it runs under its version at least. Over withdrawn edges too.
use Rattle.std.specs.Prelude.{ℕ, ◌≡◌, ◌<◌, ◌≤◌, ◌⊎◌, max, true, IsTrue, List, ◌++◌, None, Some, Ok}
use Rattle.std.specs.List.{list_any}
use Rattle.sp_base.specs.declared.id.NodeId.{NodeId}
use Rattle.sp_frame.specs.Sections.{Contents, with_document}
use Rattle.sp_rules.specs.Arrivals.{after_datagram, is_tagged, link_says, rises, sections_in}
use Rattle.sp_rules.specs.Arts.{Arts, Document}
use Rattle.sp_rules.specs.Node.{NodeState, call_refusal, link_in, topology_now, version_of}
use Rattle.sp_rules.specs.Parts.{changes}
use Rattle.sp_rules.specs.Polls.{frame_to, head_to}
use Rattle.sp_rules.specs.Topologies.{succeeds}
use Rattle.sp_rules.specs.Versions.{is_heard_of}
use Rattle.sp_rules.specs.declared.link.LinkAnswer.TheVariants as answers

-- ---- what is heard

-- A frame of a neighbour passes the tests of its bytes, its ends and its tag, whatever its link then says of it. With epochs it is of the known boot, or that
-- rises by it.
pub record IsHeard (arts : Arts) (n : NodeState) (v : NodeId) (bytes : List ℕ) : Type 0 where
  pub called : call_refusal n v ≡ None
  pub opened : arts.opened bytes ≡ Ok bytes
  pub tagged : IsTrue (is_tagged (link_says arts (link_in n v) bytes))
  pub lately : n.fixed.epochs ≡ true → (rises arts n v bytes ≡ true) ⊎ ((arts.head bytes).boot ≡ (link_in n v).peer_boot)
  -- the node has a row for the neighbour's version
  pub row : IsTrue (list_any (is_heard_of v) n.heard)

-- then at least the version of its head is kept
abbrev pub VersionsAreHeard : Type 0
VersionsAreHeard = (arts : Arts) (n : NodeState) (v : NodeId) (bytes : List ℕ) → changes n.fixed ≡ true → IsHeard arts n v bytes
    → (arts.head bytes).topology ≤ version_of (after_datagram arts n v bytes) v

-- ---- what is offered

-- to a neighbour that runs under an older version, as far as was heard, a poll gives the document and nothing else, whether their edge is withdrawn or not
abbrev pub OlderIsOffered : Type 0
OlderIsOffered = (arts : Arts) (n : NodeState) (v : NodeId) → changes n.fixed ≡ true → 1 ≤ version_of n v → version_of n v < n.live.version
    → frame_to arts n v ≡ (let untagged = arts.frame (head_to n v) (with_document n.live.document) in untagged ++ arts.tag (link_in n v).key untagged)

-- ---- what is taken

-- a fresh frame has this document, which the administrator signed, and it follows the node's topology where it is above it
pub record IsOffer (arts : Arts) (n : NodeState) (v : NodeId) (bytes document : List ℕ) (d : Document) : Type 0 where
  pub called : call_refusal n v ≡ None
  pub opened : arts.opened bytes ≡ Ok bytes
  pub fresh : link_says arts (link_in n v) bytes ≡ answers.Fresh
  pub begins : IsTrue (arts.is_document bytes)
  pub contents : Contents
  pub sections : sections_in arts n.fixed bytes ≡ Ok contents
  pub carried : contents.document ≡ Some document
  pub reads : arts.read_document document ≡ Some d
  pub signed : IsTrue (arts.valid n.fixed.admin d.message d.signature)
  pub follows : n.live.version < d.topology.version → IsTrue (succeeds (topology_now n) d.topology)

-- then the node runs under the greater version of both, whatever edges are withdrawn
abbrev pub OffersAreTaken : Type 0
OffersAreTaken = (arts : Arts) (n : NodeState) (v : NodeId) (bytes document : List ℕ) (d : Document) → IsOffer arts n v bytes document d
    → (after_datagram arts n v bytes).live.version ≡ max n.live.version d.topology.version
