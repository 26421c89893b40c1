-- What a node keeps gives the conditions of the calls of its parts.
use Rattle.std.proofs.Common.{◌≡◌, ◌<◌, ◌≤◌, ◌+◌, ◌^◌, ◌&&◌, ◌||◌, if◌then◌else◌, Bool, true, false, not, [], Some, refl, arith}
use Rattle.std.specs.List.{All}
use Rattle.sp_base.specs.declared.id.NodeId.{NodeId}
use Rattle.sp_base.specs.declared.limits.TheConstants.{MAX_MESSAGES}
use Rattle.sp_node_format.specs.Format.{format_of}
use Rattle.sp_frame.specs.Ranges.{IsContentsIn}
use Rattle.sp_frame.specs.Sections.{with_document}
use Rattle.sp_msg.specs.Bodies.{HasGoodFieldsIn}
use Rattle.sp_msg.specs.declared.body.Ack.{Ack}
use Rattle.sp_msg.specs.Views.{signer_of}
use Rattle.sp_rules.specs.Kflow.{ack_body}
use Rattle.sp_rules.specs.Link.{Link, new_link}
use Rattle.sp_rules.specs.Node.{NodeState, is_behind, is_link, is_shut_to, link_in}
use Rattle.sp_rules.specs.Polls.{contents_at, contents_to, no_contents, parts_after, polled}
use Rattle.sp_rules.specs.Prio.{is_peer, no_peer, peer_in}
use Rattle.sp_rules.specs.Ticks.{due_now}
use Rattle.sp_rules.specs.declared.kflow.FlowKind.{FlowKind}
use Rattle.sp_rules.specs.declared.kflow.FlowKind.TheVariants as kinds
use Rattle.laws_node.proofs.Frames.{frames_fit}
use Rattle.laws_node.proofs.Priority.{no_peer_holds}
use Rattle.laws_node.proofs.Reliable.{due_now_fits}
use Rattle.laws_node.proofs.Tables.{all_first, all_weaker}
use Rattle.laws_node.specs.Nodes.{IsKept, LinkHolds}
use Rattle.laws_node.specs.Sizes.{numbers_after}
use Rattle.laws_node.specs.Stores.{PrioPeerHolds}
use Rattle.sp_node_state.proofs.Sizes.{sizes}

-- ---- a poll

-- what is in turn, where it goes
pub contents_kept : (n : NodeState) (v : NodeId) → IsKept (format_of n.fixed) n → is_behind n v ≡ false → is_shut_to n v ≡ false
    → IsContentsIn n.fixed.topology.format n.fixed.signature_len (contents_to n.fixed n.parts v)
contents_kept n v kept level there = go (is_behind n v) (is_shut_to n v) level there (frames_fit (format_of n.fixed) n v kept)
  where
    go : (behind shut : Bool) → behind ≡ false → shut ≡ false
        → IsContentsIn n.fixed.topology.format n.fixed.signature_len
        (if behind then with_document n.live.document else if shut then no_contents else contents_to n.fixed n.parts v)
        → IsContentsIn n.fixed.topology.format n.fixed.signature_len (contents_to n.fixed n.parts v)
    go true shut level there fits = absurd (cc)
    go false true level there fits = absurd (cc)
    go false false level there fits = fits

-- the three kinds of frame
pub behind_is : (n : NodeState) (v : NodeId) → is_behind n v ≡ true → with_document n.live.document ≡ contents_at n v
behind_is n v behind = rw behind refl

pub shut_is : (n : NodeState) (v : NodeId) → is_behind n v ≡ false → is_shut_to n v ≡ true → no_contents ≡ contents_at n v
shut_is n v level shut = rw (level, shut) refl

pub served_is : (n : NodeState) (v : NodeId) → is_behind n v ≡ false → is_shut_to n v ≡ false → contents_to n.fixed n.parts v ≡ contents_at n v
served_is n v level there = rw (level, there) refl

-- what goes on of the parts
pub unserved : (n : NodeState) (v : NodeId) → (is_behind n v || is_shut_to n v) ≡ true → n.parts ≡ parts_after n v
unserved n v not_served = go (is_behind n v) (is_shut_to n v) not_served
  where
    go : (behind shut : Bool) → (behind || shut) ≡ true → n.parts ≡ (if not behind && not shut then polled n.fixed n.parts v else n.parts)
    go true shut is = refl
    go false true is = refl
    go false false is = absurd (cc)

pub served : (n : NodeState) (v : NodeId) → is_behind n v ≡ false → is_shut_to n v ≡ false → polled n.fixed n.parts v ≡ parts_after n v
served n v level there = rw (level, there) refl

pub number_low : (n : NodeState) (v : NodeId) → IsKept (format_of n.fixed) n → (peer_in n.parts.prio v.0).number + MAX_MESSAGES ≤ 2 ^ 63
number_low n v kept =
    let most = numbers_after n.calls in
    let row = all_first (PrioPeerHolds (sizes n) most _) (is_peer v.0) no_peer n.parts.prio.peers kept.parts.prio.peers (no_peer_holds (sizes n) most _) in
    omega (arith, row.number, kept.calls)

pub links_low : (n : NodeState) → IsKept (format_of n.fixed) n → n.calls < 2 ^ 60 → All (λ (l : Link). l.sent < 2 ^ 60) n.links
links_low n kept left = all_weaker (LinkHolds n.calls) (λ (l : Link). l.sent < 2 ^ 60) n.links (λ l h. omega (arith, h.sent, left)) kept.links

pub link_low : (n : NodeState) (v : NodeId) → IsKept (format_of n.fixed) n → n.calls < 2 ^ 60 → (link_in n v).sent < 2 ^ 60
link_low n v kept left = all_first (λ (l : Link). l.sent < 2 ^ 60) (is_link v) (new_link n.fixed.me v 0 []) n.links (links_low n kept left) (omega arith)

-- ---- an acknowledgement

pub due_fields : (kind : FlowKind) (n : NodeState) (ack : Ack) → IsKept (format_of n.fixed) n → due_now kind n ≡ Some ack
    → HasGoodFieldsIn n.fixed.topology.format (ack_body kind ack)
due_fields kind n ack kept is = (due_now_fits kind (sizes n) n ack is kept.parts).fields

pub due_mine : (kind : FlowKind) (n : NodeState) (ack : Ack) → IsKept (format_of n.fixed) n → due_now kind n ≡ Some ack
    → signer_of (ack_body kind ack) ≡ n.fixed.me
due_mine kinds.Plain n ack kept is = (due_now_fits kinds.Plain (sizes n) n ack is kept.parts).mine
due_mine kinds.Paths n ack kept is = (due_now_fits kinds.Paths (sizes n) n ack is kept.parts).mine
