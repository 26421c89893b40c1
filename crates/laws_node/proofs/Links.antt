-- What each frame keeps of a link.
use Rattle.std.proofs.Common.{◌≡◌, ◌<◌, ◌≤◌, ℕ, ◌+◌, ◌^◌, ◌==◌, ◌&&◌, not, max, Bool, true, List, [], Result, Ok, Err, arith, subst, sym}
use Rattle.std.specs.List.{All}
use Rattle.std.proofs.lemmas.Bool.Decides.{nat_tests}
use Rattle.sp_base.specs.Spelling.{AreBytes}
use Rattle.sp_base.specs.declared.id.NodeId.{NodeId}
use Rattle.sp_frame.specs.Ranges.{IsHead}
use Rattle.sp_frame.specs.declared.head.Head.{Head}
use Rattle.sp_frame.specs.declared.refused.FrameRefused.{FrameRefused}
use Rattle.sp_rules.proofs.ArrivalLemmas.{link_stays, link_with}
use Rattle.sp_rules.specs.Arrivals.{link_after}
use Rattle.sp_rules.specs.Arts.{Arts, is_right}
use Rattle.sp_rules.specs.Link.{Link, advanced, after_answer, after_frame, is_above, new_link, pair_of}
use Rattle.sp_rules.specs.Node.{NodeState, is_link, link_in, with_link}
use Rattle.sp_rules.specs.declared.link.LinkAnswer.{LinkAnswer}
use Rattle.sp_rules.specs.declared.link.LinkAnswer.TheVariants as answers
use Rattle.laws_node.specs.Nodes.{LinkHolds}
use Rattle.laws_node.proofs.Tables.{all_first, all_replaced, cond_either}

pub link_more : (calls more : ℕ) (l : Link) → calls ≤ more → LinkHolds calls l → LinkHolds more l
link_more calls more l up h = record { me = h.me; peer = h.peer; boot = h.boot; peer_boot = h.peer_boot; sent = omega (arith, up, h.sent) }

pub advanced_holds : (calls : ℕ) (l : Link) → LinkHolds calls l → LinkHolds (calls + 1) (advanced l)
advanced_holds calls l h = record { me = h.me; peer = h.peer; boot = h.boot; peer_boot = h.peer_boot; sent = omega (arith, h.sent) }

after_frame_holds : (calls : ℕ) (l : Link) (h : Head) (right : Bool) → h.boot < 2 ^ 64 → LinkHolds calls l → LinkHolds calls (after_frame l h right)
after_frame_holds calls l h right small holds =
    let after = λ (answer : LinkAnswer). LinkHolds calls (after_answer l h answer) in
    let learned : after (answers.Learned (max l.peer_boot h.boot)) =
    record { me = holds.me; peer = holds.peer; boot = holds.boot; peer_boot = omega (arith, small, holds.peer_boot); sent = holds.sent } in
    let kept : after answers.Fresh = record { me = holds.me; peer = holds.peer; boot = holds.boot; peer_boot = small; sent = holds.sent } in
    cond_either after (not ((h.from.0 == l.peer.0) && (h.to.0 == l.me.0))) answers.NotForMe _ holds
    (cond_either after (not right) answers.BadTag _ holds
    (cond_either after (not (h.echo == l.boot)) (answers.Learned (max l.peer_boot h.boot)) _ learned
    (cond_either after (not (is_above (pair_of h) l.seen)) (answers.Stale l.seen.0 l.seen.1) answers.Fresh holds kept)))

link_with_holds : (arts : Arts) → ((bytes : List ℕ) → AreBytes bytes → IsHead (arts.head bytes)) → (calls : ℕ) (l : Link) (bytes : List ℕ)
    → AreBytes bytes → LinkHolds calls l → (o : Result (List ℕ) FrameRefused) → LinkHolds calls (link_with arts l bytes o)
link_with_holds arts heads calls l bytes are h (Err refused) = subst (LinkHolds calls) (sym (link_stays arts l bytes refused)) h
link_with_holds arts heads calls l bytes are h (Ok frame) =
    after_frame_holds calls l (arts.head bytes) (is_right arts l.key bytes) (heads bytes are).boot h

-- ---- the links of a node

link_read : (n : NodeState) (calls : ℕ) (v : NodeId) (x : Link) → n.fixed.me.0 < 256 → is_link v x ≡ true → LinkHolds calls x → All (LinkHolds calls) n.links
    → LinkHolds calls (link_in n v)
link_read n calls v x me is there all =
    let same : x.peer.0 ≡ v.0 = grind (arith, nat_tests, is) in
    all_first (LinkHolds calls) (is_link v) (new_link n.fixed.me v 0 []) n.links all
    (record { me = me; peer = omega (arith, same, there.peer); boot = omega arith; peer_boot = omega arith; sent = omega arith })

-- one link changes, and all hold after one more call
pub with_link_holds : (n : NodeState) (calls : ℕ) (v : NodeId) (l : Link) → n.fixed.me.0 < 256 → All (LinkHolds calls) n.links
    → (LinkHolds calls (link_in n v) → LinkHolds (calls + 1) l) → All (LinkHolds (calls + 1)) (with_link n v l)
with_link_holds n calls v l me all new =
    all_replaced (LinkHolds calls) (LinkHolds (calls + 1)) (is_link v) l n.links (λ x. link_more calls (calls + 1) x (omega arith))
    (λ x is there. new (link_read n calls v x me is there all)) all

pub link_after_holds : (arts : Arts) (n : NodeState) (calls : ℕ) (v : NodeId) (bytes : List ℕ)
    → ((bs : List ℕ) → AreBytes bs → IsHead (arts.head bs)) → AreBytes bytes → LinkHolds calls (link_in n v)
    → LinkHolds (calls + 1) (link_after arts n v bytes)
link_after_holds arts n calls v bytes heads are h =
    link_more calls (calls + 1) (link_after arts n v bytes) (omega arith) (link_with_holds arts heads calls (link_in n v) bytes are h (arts.opened bytes))
