-- What a poll and a datagram keep.
use Rattle.std.proofs.Common.{◌≡◌, ◌<◌, ◌≤◌, ℕ, ◌+◌, List, Option, Result, Ok, Err, refl, ◌∙◌, arith}
use Rattle.std.specs.Prelude.{IfSome}
use Rattle.sp_base.specs.Cursor.{or_else}
use Rattle.sp_base.specs.Spelling.{AreBytes}
use Rattle.sp_base.specs.declared.id.NodeId.{NodeId}
use Rattle.sp_base.specs.declared.limits.TheConstants.{MAX_MESSAGES}
use Rattle.sp_base.proofs.FormatLemmas.{few_nodes}
use Rattle.sp_frame.specs.Sections.{Contents}
use Rattle.sp_frame.specs.declared.refused.FrameRefused.{FrameRefused}
use Rattle.sp_frame.specs.declared.refused.FrameRefused.TheVariants as frames
use Rattle.sp_frame.specs.declared.refused.SectionRefused.{SectionRefused}
use Rattle.sp_rules.specs.Arrivals.{arrival_at, before_document, document_at, document_in, document_where, handled, link_after, link_says, no_frame, not_fresh}
use Rattle.sp_rules.specs.Arrivals.{not_taken, or_fresh, parts_met, pieces_in, pieces_where, read_by, reply_at, rises, sections_in}
use Rattle.sp_rules.specs.Arts.{Arts}
use Rattle.sp_rules.specs.Link.{advanced}
use Rattle.sp_rules.specs.Lives.{next_row}
use Rattle.sp_rules.specs.Node.{NodeState, Signer, called, is_shut_to, link_in, with_link}
use Rattle.sp_rules.specs.Parts.{Fixed, Parts, place_of}
use Rattle.sp_rules.specs.Polls.{is_served, parts_after, polled}
use Rattle.sp_rules.specs.declared.kflow.FlowKind.TheVariants.{Plain, Paths}
use Rattle.sp_rules.specs.declared.node.LinkReply.{LinkReply}
use Rattle.sp_rules.specs.declared.node.LinkReply.TheVariants as replies
use Rattle.sp_rules.specs.declared.node.TheConstants.{MAX_CALLS}
use Rattle.laws_node.specs.Asked.{NewKeep}
use Rattle.laws_node.specs.Inputs.{ArtsFit}
use Rattle.laws_node.specs.Nodes.{FitsAFrame, NodeHolds, PartsHold}
use Rattle.laws_node.specs.Sizes.{Sizes, ids_after, numbers_after}
use Rattle.laws_node.proofs.Arrived.{sections_fit, where_fits}
use Rattle.laws_node.proofs.Handles.{all_hold}
use Rattle.laws_node.proofs.Links.{advanced_holds, link_after_holds, with_link_holds}
use Rattle.laws_node.proofs.Priority.{carried_holds, prio_more}
use Rattle.laws_node.proofs.Reliable.{served_holds}
use Rattle.laws_node.proofs.Restarts.{greeted_holds}
use Rattle.laws_node.proofs.RowShapes.{cycles_length}
use Rattle.laws_node.proofs.Tables.{cond_either}
use Rattle.laws_node.proofs.Updates.{moved_holds}
use Rattle.laws_node.proofs.Versions.{read_holds}

-- ---- a poll

pub small_me : (k : Sizes) (n : NodeState) → NodeHolds k n → n.fixed.me.0 < 256
small_me k n h = omega (arith, h.fixed.is_node, few_nodes k.format)

-- the parts, where more may have been given
pub parts_more : (k : Sizes) (numbers more ids further index : ℕ) (p : Parts) → numbers ≤ more → ids ≤ further → PartsHold k numbers ids index p
    → PartsHold k more further index p
parts_more k numbers more ids further index p one two h = record {
  weights = h.weights;
  prio = prio_more k numbers more ids further index index p.prio one two (omega arith) h.prio;
  rel = h.rel;
  kflow = h.kflow;
  lives = h.lives;
  origins = h.origins;
}

-- they hold what parts hold after one more call
abbrev HoldsLater : Sizes → NodeState → Parts → Type 0
HoldsLater k n p = PartsHold k (numbers_after (n.calls + 1)) (ids_after (n.calls + 1) n.signer.index) n.signer.index p

polled_keeps : (k : Sizes) (n : NodeState) (v : NodeId) → NodeHolds k n → HoldsLater k n (polled n.fixed n.parts v)
polled_keeps k n v h =
    parts_more k (numbers_after n.calls + MAX_MESSAGES) (numbers_after (n.calls + 1)) (ids_after n.calls n.signer.index)
    (ids_after (n.calls + 1) n.signer.index) n.signer.index (polled n.fixed n.parts v) (omega arith) (omega arith) (record {
      weights = moved_holds k n.signer.index n.parts.weights (place_of n.fixed v) h.parts.weights;
      prio = carried_holds k (numbers_after n.calls) (ids_after n.calls n.signer.index) n.signer.index n.parts.prio v.0 h.parts.prio;
      rel = served_holds Plain k n.signer.index n.parts.rel v h.parts.rel;
      kflow = served_holds Paths k n.signer.index n.parts.kflow.flows v h.parts.kflow;
      lives = h.parts.lives;
      origins = cycles_length n.parts.origins (place_of n.fixed v) (next_row n.parts.lives n.parts.origins (place_of n.fixed v)) ∙ h.parts.origins;
    })

same_keeps : (k : Sizes) (n : NodeState) → NodeHolds k n → HoldsLater k n n.parts
same_keeps k n h =
    parts_more k (numbers_after n.calls) (numbers_after (n.calls + 1)) (ids_after n.calls n.signer.index) (ids_after (n.calls + 1) n.signer.index)
    n.signer.index n.parts (omega arith) (omega arith) h.parts

pub poll_keeps : (k : Sizes) (n : NodeState) (v : NodeId) → n.calls + 1 ≤ MAX_CALLS → NodeHolds k n
    → NodeHolds k (called n (with_link n v (advanced (link_in n v))) (parts_after n v))
poll_keeps k n v most h = record {
  fixed = h.fixed;
  live = h.live;
  now = h.now;
  calls = most;
  links = with_link_holds n n.calls v (advanced (link_in n v)) (small_me k n h) h.links (advanced_holds n.calls (link_in n v));
  signer = h.signer;
  parts = cond_either (HoldsLater k n) (is_served n v) (polled n.fixed n.parts v) n.parts (polled_keeps k n v h) (same_keeps k n h);
}

-- ---- a datagram

datagram_keeps : (k : Sizes) (arts : Arts) (n : NodeState) (v : NodeId) (bytes : List ℕ) → ArtsFit arts n.fixed n.signer → AreBytes bytes
    → NewKeep k.keeps (handled arts n v bytes).answered → n.calls + 1 ≤ MAX_CALLS → NodeHolds k n
    → NodeHolds k (before_document arts n v bytes)
datagram_keeps k arts n v bytes fits are new most h =
    let pieces = where_fits k (pieces_in n.fixed (sections_in arts n.fixed bytes)) (reply_at arts n v bytes)
    (sections_fit k arts n.fixed n.signer bytes fits are h.fixed.format h.fixed.signature_len (sections_in arts n.fixed bytes) refl) in
    let done = all_hold k arts (arrival_at n v) h.fixed.me (numbers_after n.calls) (ids_after n.calls n.signer.index) n.signer.index (parts_met arts n v bytes)
    (pieces_where (reply_at arts n v bytes) (pieces_in n.fixed (sections_in arts n.fixed bytes))) new pieces.fit
    (greeted_holds k (numbers_after n.calls) (ids_after n.calls n.signer.index) n.signer.index n.fixed.epochs (rises arts n v bytes) v n.parts h.parts) in
    record {
      fixed = h.fixed;
      live = h.live;
      now = h.now;
      calls = most;
      links = with_link_holds n n.calls v (link_after arts n v bytes) (small_me k n h) h.links (link_after_holds arts n n.calls v bytes fits.heads are);
      signer = h.signer;
      parts = parts_more k (numbers_after n.calls) (numbers_after (n.calls + 1)) _ (ids_after (n.calls + 1) n.signer.index) n.signer.index
          (handled arts n v bytes).parts (omega arith) (omega (arith, pieces.few)) done;
    }

-- a document that a frame brought is one of its sections, and the bytes were a frame
handled_document : (k : Sizes) (arts : Arts) (f : Fixed) (signer : Signer) (bytes : List ℕ) → ArtsFit arts f signer → AreBytes bytes
    → (after : Option LinkReply) (o : Result (List ℕ) FrameRefused) → arts.opened bytes ≡ o
    → (s : Result Contents SectionRefused) → sections_in arts f bytes ≡ s
    → IfSome (document_where (or_fresh (or_else (no_frame o) after)) (document_in s)) FitsAFrame
handled_document k arts f signer bytes fits are after (Err frames.TooLong) is s at = tt
handled_document k arts f signer bytes fits are after (Err (frames.Short short)) is s at = tt
handled_document k arts f signer bytes fits are after (Err frames.Magic) is s at = tt
handled_document k arts f signer bytes fits are after (Err frames.Version) is s at = tt
handled_document k arts f signer bytes fits are after (Ok frame) is s at = where_fresh (or_fresh after) (document_in s) (of_sections s at)
  where
    of_sections : (s : Result Contents SectionRefused) → sections_in arts f bytes ≡ s → IfSome (document_in s) FitsAFrame
    of_sections (Ok contents) at = fits.carried bytes frame contents are is at
    of_sections (Err refused) at = tt

    where_fresh : (reply : LinkReply) (document : Option (List ℕ)) → IfSome document FitsAFrame → IfSome (document_where reply document) FitsAFrame
    where_fresh replies.Fresh document h = h
    where_fresh replies.TooLong document h = tt
    where_fresh (replies.Short short) document h = tt
    where_fresh replies.Magic document h = tt
    where_fresh replies.Version document h = tt
    where_fresh replies.NotForMe document h = tt
    where_fresh replies.BadTag document h = tt
    where_fresh (replies.Learned boot) document h = tt
    where_fresh (replies.Stale boot counter) document h = tt
    where_fresh (replies.OtherTopology theirs) document h = tt
    where_fresh (replies.Section refused) document h = tt
    where_fresh replies.Withdrawn document h = tt

-- what a datagram leaves, with the document that it brought
pub arrival_keeps : (k : Sizes) (arts : Arts) (n : NodeState) (v : NodeId) (bytes : List ℕ) → ArtsFit arts n.fixed n.signer → AreBytes bytes
    → NewKeep k.keeps (handled arts n v bytes).answered → n.calls + 1 ≤ MAX_CALLS → NodeHolds k n
    → NodeHolds k (read_by arts (before_document arts n v bytes) (document_at arts n v bytes))
arrival_keeps k arts n v bytes fits are new most h =
    let after = or_else (not_fresh (link_says arts (link_in n v) bytes))
    (not_taken n.live.version (arts.head bytes).topology (arts.is_document bytes) (sections_in arts n.fixed bytes) (is_shut_to n v)) in
    read_holds k arts (before_document arts n v bytes) (document_at arts n v bytes)
    (handled_document k arts n.fixed n.signer bytes fits are after (arts.opened bytes) refl (sections_in arts n.fixed bytes) refl)
    (λ document d is reads. fits.documents document d is.0 reads) (datagram_keeps k arts n v bytes fits are new most h)
