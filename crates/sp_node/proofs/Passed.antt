-- What its link makes of a datagram is what the rules say.
use Rattle.std.proofs.Common.{rules, ◌≡◌, ◌≤◌, ◌+◌, ◌==◌, ◌∙◌, ℕ, ◌&&◌, Bool, true, false, not, List, [], Option, None, Some, Result, Ok, Err, refl, sym, ap}
use Rattle.std.proofs.Common.{cond, arith, nat_lt}
use Rattle.std.proofs.lemmas.Bool.Decides.{nat_tests}
use Rattle.std.specs.Prelude.{is_none, option_map, unwrap_or}
use Rattle.std.specs.Result.{result_err}
use Rattle.sp_base.specs.Cursor.{or_else}
use Rattle.sp_base.specs.declared.id.NodeId.{NodeId}
use Rattle.sp_node_format.specs.Format.{format_of}
use Rattle.sp_frame.specs.Frames.{head_of, opened_in}
use Rattle.sp_frame.specs.declared.head.Head.{Head}
use Rattle.sp_frame.specs.Sections.{Contents}
use Rattle.sp_frame.specs.declared.refused.SectionRefused.{SectionRefused}
use Rattle.sp_link.specs.Work.{tags_after}
use Rattle.sp_node.specs.Life.{reply_tags}
use Rattle.sp_frame.specs.declared.refused.FrameRefused.{FrameRefused}
use Rattle.sp_frame.specs.declared.refused.FrameRefused.TheVariants as frames
use Rattle.sp_rules.proofs.ArrivalLemmas.{link_stays, link_with, of_frame, of_link}
use Rattle.sp_node.specs.Arrived.{heard_with, tests_after}
use Rattle.sp_rules.specs.Arrivals.{document_at, document_in, document_where, has_risen, heard_after, is_from_peer, is_tagged, link_after, link_says, no_frame}
use Rattle.sp_rules.specs.Arrivals.{not_taken, pieces_in, pieces_where, reply_at, sections_in, version_after}
use Rattle.sp_rules.specs.Link.{Link}
use Rattle.sp_rules.specs.Node.{NodeState, is_shut_to, link_in, version_of}
use Rattle.sp_rules.specs.Parts.{changes}
use Rattle.sp_rules.specs.Versions.{Heard, kept_version, with_version}
use Rattle.sp_rules.specs.Pieces.{Piece}
use Rattle.sp_rules.specs.declared.link.LinkAnswer.{LinkAnswer}
use Rattle.sp_rules.specs.declared.link.LinkAnswer.TheVariants as answers
use Rattle.sp_rules.specs.declared.node.LinkReply.{LinkReply}
use Rattle.sp_rules.specs.declared.node.LinkReply.TheVariants as replies

-- four tests, of which none refuses
none_refuses : (bytes frame : List ℕ) (a b c d : Bool) (e f g h : FrameRefused)
    → cond a (Err e) (cond b (Err f) (cond c (Err g) (cond d (Err h) (Ok bytes)))) ≡ Ok frame → frame ≡ bytes
none_refuses bytes frame true b c d e f g h is = absurd (cc)
none_refuses bytes frame false true c d e f g h is = absurd (cc)
none_refuses bytes frame false false true d e f g h is = absurd (cc)
none_refuses bytes frame false false false true e f g h is = absurd (cc)
none_refuses bytes frame false false false false e f g h is = cc

-- a datagram that is a frame is all of it
pub opened_whole : (format : ℕ) (bytes frame : List ℕ) → opened_in format bytes ≡ Ok frame → frame ≡ bytes
opened_whole format bytes frame is = search (rules, none_refuses)

-- ---- one that is no frame

-- the reply, by what the bytes are
abbrev reply_by : NodeState → NodeId → List ℕ → Result (List ℕ) FrameRefused → LinkReply
reply_by n v bytes frame = of_frame (format_of n.fixed) n.fixed n.live.version (is_shut_to n v) (link_in n v) bytes frame

pub no_reply : (n : NodeState) (v : NodeId) (bytes : List ℕ) (refused : FrameRefused) (reply : LinkReply)
    → opened_in n.fixed.topology.format bytes ≡ Err refused → Some reply ≡ no_frame (Err refused) → reply ≡ reply_at (format_of n.fixed) n v bytes
no_reply n v bytes refused reply is says = says_it refused reply says ∙ sym (ap (reply_by n v bytes) is)
  where
    says_it : (refused : FrameRefused) (reply : LinkReply) → Some reply ≡ no_frame (Err refused) → reply ≡ reply_by n v bytes (Err refused)
    says_it frames.TooLong reply e = cc
    says_it (frames.Short short) reply e = cc
    says_it frames.Magic reply e = cc
    says_it frames.Version reply e = cc

pub same_link : (n : NodeState) (v : NodeId) (bytes : List ℕ) (refused : FrameRefused) → opened_in n.fixed.topology.format bytes ≡ Err refused
    → link_in n v ≡ link_after (format_of n.fixed) n v bytes
same_link n v bytes refused is = sym (ap (link_with (format_of n.fixed) (link_in n v) bytes) is ∙ link_stays (format_of n.fixed) (link_in n v) bytes refused)

none_of : (n : NodeState) (v : NodeId) (bytes : List ℕ) (refused : FrameRefused) (pieces : List Piece)
    → [] ≡ pieces_where (reply_by n v bytes (Err refused)) pieces
none_of n v bytes frames.TooLong pieces = refl
none_of n v bytes (frames.Short short) pieces = refl
none_of n v bytes frames.Magic pieces = refl
none_of n v bytes frames.Version pieces = refl

pub no_pieces : (n : NodeState) (v : NodeId) (bytes : List ℕ) (refused : FrameRefused) (pieces : List Piece)
    → opened_in n.fixed.topology.format bytes ≡ Err refused → [] ≡ pieces_where (reply_at (format_of n.fixed) n v bytes) pieces
no_pieces n v bytes refused pieces is =
    none_of n v bytes refused pieces ∙ ap (λ (r : LinkReply). pieces_where r pieces) (sym (ap (reply_by n v bytes) is))

none_with : (n : NodeState) (v : NodeId) (bytes : List ℕ) (refused : FrameRefused) (document : Option (List ℕ))
    → None ≡ document_where (reply_by n v bytes (Err refused)) document
none_with n v bytes frames.TooLong document = refl
none_with n v bytes (frames.Short short) document = refl
none_with n v bytes frames.Magic document = refl
none_with n v bytes frames.Version document = refl

pub no_document : (n : NodeState) (v : NodeId) (bytes : List ℕ) (refused : FrameRefused) → opened_in n.fixed.topology.format bytes ≡ Err refused
    → None ≡ document_at (format_of n.fixed) n v bytes
no_document n v bytes refused is =
    let document = document_in (sections_in (format_of n.fixed) n.fixed bytes) in
    none_with n v bytes refused document ∙ ap (λ (r : LinkReply). document_where r document) (sym (ap (reply_by n v bytes) is))

pub none_heard_of : (n : NodeState) (v : NodeId) (bytes : List ℕ) (refused : FrameRefused) → opened_in n.fixed.topology.format bytes ≡ Err refused
    → n.heard ≡ heard_after (format_of n.fixed) n v bytes
none_heard_of n v bytes refused is =
    by (changes n.fixed) refused ∙ ap (λ (o : Result (List ℕ) FrameRefused). told (changes n.fixed && is_from_peer (no_frame o) answer)) (sym is)
  where
    answer : LinkAnswer
    answer = link_says (format_of n.fixed) (link_in n v) bytes

    told : Bool → List Heard
    told t = cond t (with_version n.heard v (version_after (format_of n.fixed) n v bytes)) n.heard

    by : (c : Bool) (refused : FrameRefused) → n.heard ≡ told (c && is_from_peer (no_frame (Err refused)) answer)
    by true frames.TooLong = refl
    by true (frames.Short short) = refl
    by true frames.Magic = refl
    by true frames.Version = refl
    by false refused = refl

-- ---- a frame

pub reply_is : (n : NodeState) (v : NodeId) (bytes frame : List ℕ) → opened_in n.fixed.topology.format bytes ≡ Ok frame
    → reply_by n v bytes (Ok frame) ≡ reply_at (format_of n.fixed) n v bytes
reply_is n v bytes frame is = sym (ap (reply_by n v bytes) is)

pub link_is : (n : NodeState) (v : NodeId) (bytes frame : List ℕ) → opened_in n.fixed.topology.format bytes ≡ Ok frame
    → link_with (format_of n.fixed) (link_in n v) bytes (Ok frame) ≡ link_after (format_of n.fixed) n v bytes
link_is n v bytes frame is = sym (ap (link_with (format_of n.fixed) (link_in n v) bytes) is)

pub passed_reply : (n : NodeState) (v : NodeId) (bytes frame : List ℕ) (l : Link) (answer : LinkAnswer) (reply : LinkReply)
    → opened_in n.fixed.topology.format bytes ≡ Ok frame → l ≡ link_in n v → answer ≡ link_says (format_of n.fixed) l frame
    → reply ≡ of_link answer (tests_after n v frame) → reply ≡ reply_at (format_of n.fixed) n v bytes
passed_reply n v bytes frame l answer reply is link says gives =
    gives
    ∙ ap (λ (a : LinkAnswer). of_link a (tests_after n v frame)) says
    ∙ ap (λ (k : Link). of_link (link_says (format_of n.fixed) k frame) (tests_after n v frame)) link
    ∙ ap (λ (b : List ℕ). of_link (link_says (format_of n.fixed) (link_in n v) b) (tests_after n v b)) (opened_whole n.fixed.topology.format bytes frame is)
    ∙ reply_is n v bytes frame is

pub passed_link : (n : NodeState) (v : NodeId) (bytes frame : List ℕ) (l left : Link) → opened_in n.fixed.topology.format bytes ≡ Ok frame
    → l ≡ link_in n v → left ≡ link_with (format_of n.fixed) l frame (Ok frame) → left ≡ link_after (format_of n.fixed) n v bytes
passed_link n v bytes frame l left is link gives =
    gives
    ∙ ap (λ (k : Link). link_with (format_of n.fixed) k frame (Ok frame)) link
    ∙ ap (λ (b : List ℕ). link_with (format_of n.fixed) (link_in n v) b (Ok frame)) (opened_whole n.fixed.topology.format bytes frame is)
    ∙ link_is n v bytes frame is

-- the boot of the neighbour as it was known rises with this datagram, or doesn't
pub passed_risen : (n : NodeState) (v : NodeId) (bytes : List ℕ) (l left : Link) (risen : Bool) → l ≡ link_in n v
    → left ≡ link_after (format_of n.fixed) n v bytes → risen ≡ has_risen l left
    → risen ≡ has_risen (link_in n v) (link_after (format_of n.fixed) n v bytes)
passed_risen n v bytes l left risen link is rises =
    rises ∙ ap (λ (k : Link). has_risen k left) link ∙ ap (has_risen (link_in n v)) is

pub none_rises : (n : NodeState) (v : NodeId) (bytes : List ℕ) (refused : FrameRefused) → opened_in n.fixed.topology.format bytes ≡ Err refused
    → false ≡ has_risen (link_in n v) (link_after (format_of n.fixed) n v bytes)
none_rises n v bytes refused is =
    sym (not_above (link_in n v).peer_boot) ∙ ap (has_risen (link_in n v)) (same_link n v bytes refused is)
  where
    not_above : (boot : ℕ) → nat_lt boot boot ≡ false
    not_above boot = grind (arith, nat_tests)

pub passed_pieces : (n : NodeState) (v : NodeId) (bytes frame : List ℕ) (reply : LinkReply) (pieces : List Piece)
    → opened_in n.fixed.topology.format bytes ≡ Ok frame → reply ≡ reply_at (format_of n.fixed) n v bytes
    → pieces ≡ pieces_where reply (pieces_in n.fixed (sections_in (format_of n.fixed) n.fixed frame))
    → pieces ≡ pieces_where (reply_at (format_of n.fixed) n v bytes) (pieces_in n.fixed (sections_in (format_of n.fixed) n.fixed bytes))
passed_pieces n v bytes frame reply pieces is replied gives =
    gives
    ∙ ap (λ (r : LinkReply). pieces_where r (pieces_in n.fixed (sections_in (format_of n.fixed) n.fixed frame))) replied
    ∙ ap (λ (b : List ℕ). pieces_where (reply_at (format_of n.fixed) n v bytes) (pieces_in n.fixed (sections_in (format_of n.fixed) n.fixed b)))
    (opened_whole n.fixed.topology.format bytes frame is)

pub passed_document : (n : NodeState) (v : NodeId) (bytes frame : List ℕ) (reply : LinkReply) (document : Option (List ℕ))
    → opened_in n.fixed.topology.format bytes ≡ Ok frame → reply ≡ reply_at (format_of n.fixed) n v bytes
    → document ≡ document_where reply (document_in (sections_in (format_of n.fixed) n.fixed frame)) → document ≡ document_at (format_of n.fixed) n v bytes
passed_document n v bytes frame reply document is replied gives =
    gives
    ∙ ap (λ (r : LinkReply). document_where r (document_in (sections_in (format_of n.fixed) n.fixed frame))) replied
    ∙ ap (λ (b : List ℕ). document_where (reply_at (format_of n.fixed) n v bytes) (document_in (sections_in (format_of n.fixed) n.fixed b)))
    (opened_whole n.fixed.topology.format bytes frame is)

-- the version that is kept of the neighbour then, by whether the frame told one
kept_by : (h : List Heard) (v : NodeId) (t : Bool) (x : ℕ) (told : Option ℕ) → told ≡ cond t (Some x) None
    → heard_with h v told ≡ cond t (with_version h v x) h
kept_by h v true x told e = ap (heard_with h v) e
kept_by h v false x told e = ap (heard_with h v) e

pub passed_heard : (n : NodeState) (v : NodeId) (bytes frame : List ℕ) (l : Link) (answer : LinkAnswer) (risen : Bool) (h : Head) (told : Option ℕ)
    → opened_in n.fixed.topology.format bytes ≡ Ok frame → l ≡ link_in n v → answer ≡ link_says (format_of n.fixed) l frame
    → risen ≡ has_risen (link_in n v) (link_after (format_of n.fixed) n v bytes) → h ≡ head_of frame
    → told ≡ cond (changes n.fixed && is_tagged answer) (Some (kept_version n.fixed.epochs risen (h.boot == l.peer_boot) (version_of n v) h.topology)) None
    → heard_with n.heard v told ≡ heard_after (format_of n.fixed) n v bytes
passed_heard n v bytes frame l answer risen h told is link says rises head gives =
    let arts = format_of n.fixed in
    let with : LinkAnswer → Link → Head → Bool → List Heard = λ a k hd r. cond (changes n.fixed && is_tagged a)
    (with_version n.heard v (kept_version n.fixed.epochs r (hd.boot == k.peer_boot) (version_of n v) hd.topology)) n.heard in
    kept_by n.heard v (changes n.fixed && is_tagged answer) (kept_version n.fixed.epochs risen (h.boot == l.peer_boot) (version_of n v) h.topology) told gives
    ∙ ap (λ (a : LinkAnswer). with a l h risen) says
    ∙ ap (λ (k : Link). with (link_says arts k frame) k h risen) link
    ∙ ap (λ (hd : Head). with (link_says arts (link_in n v) frame) (link_in n v) hd risen) head
    ∙ ap (λ (b : List ℕ). with (link_says arts (link_in n v) b) (link_in n v) (head_of b) risen) (opened_whole n.fixed.topology.format bytes frame is)
    ∙ ap (with (link_says arts (link_in n v) bytes) (link_in n v) (head_of bytes)) rises
    ∙ ap (λ (o : Result (List ℕ) FrameRefused). cond (changes n.fixed && is_from_peer (no_frame o) (link_says arts (link_in n v) bytes))
    (with_version n.heard v (version_after arts n v bytes)) n.heard) (sym is)

-- ---- the tag of a frame

of_fresh_once : (differs documents shut : Bool) (theirs : ℕ) (sections : Result Contents SectionRefused)
    → reply_tags (unwrap_or (or_else (cond (differs && not documents) (Some (replies.OtherTopology theirs)) (option_map replies.Section (result_err sections)))
    (cond (shut && is_none (document_in sections)) (Some replies.Withdrawn) None)) replies.Fresh) ≡ 1
of_fresh_once true false shut theirs sections = refl
of_fresh_once true true shut theirs (Ok contents) = opened shut (is_none contents.document)
  where
    opened : (a b : Bool) → reply_tags (unwrap_or (cond (a && b) (Some replies.Withdrawn) None) replies.Fresh) ≡ 1
    opened true true = refl
    opened true false = refl
    opened false b = refl
of_fresh_once true true shut theirs (Err refused) = refl
of_fresh_once false documents shut theirs (Ok contents) = opened shut (is_none contents.document)
  where
    opened : (a b : Bool) → reply_tags (unwrap_or (cond (a && b) (Some replies.Withdrawn) None) replies.Fresh) ≡ 1
    opened true true = refl
    opened true false = refl
    opened false b = refl
of_fresh_once false documents shut theirs (Err refused) = refl

-- it is checked once, whatever the link answers but that the frame isn't for it
pub tag_is_counted : (tags : ℕ) (answer : LinkAnswer) (mine theirs : ℕ) (documents shut : Bool) (sections : Result Contents SectionRefused)
    → tags_after tags answer ≤ tags + reply_tags (of_link answer (not_taken mine theirs documents sections shut))
tag_is_counted tags answers.NotForMe mine theirs documents shut sections = omega arith
tag_is_counted tags answers.BadTag mine theirs documents shut sections = omega arith
tag_is_counted tags (answers.Learned boot) mine theirs documents shut sections = omega arith
tag_is_counted tags (answers.Stale boot counter) mine theirs documents shut sections = omega arith
tag_is_counted tags answers.Fresh mine theirs documents shut sections =
    omega (arith, of_fresh_once (not (theirs == mine)) documents shut theirs sections)
