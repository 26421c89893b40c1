-- A node without epochs handles nothing that says of a start, and meets each frame with the parts that it has.
use Rattle.std.proofs.Common.{◌≡◌, ℕ, Bool, true, false, cond, List, [], ◌∷◌, ◌++◌, map, Option, Some, None, Result, Ok, Err, refl, sym, subst, ap, ◌∙◌}
use Rattle.sp_base.specs.declared.id.NodeId.{NodeId}
use Rattle.sp_frame.specs.Reliable.{Report}
use Rattle.sp_frame.specs.Sections.{Contents}
use Rattle.sp_frame.specs.Views.{as_list}
use Rattle.sp_frame.specs.declared.refused.SectionRefused.{SectionRefused}
use Rattle.sp_msg.specs.declared.kept.Kept.{Kept}
use Rattle.sp_rules.specs.Arrivals.{pieces_beside, greeted, has_risen, heeded, link_after, parts_met, pieces_in, pieces_where, reply_at, sections_in}
use Rattle.sp_rules.specs.Arts.{Arts}
use Rattle.sp_rules.specs.Node.{NodeState, link_in}
use Rattle.sp_rules.specs.Parts.{Fixed, Parts}
use Rattle.sp_rules.specs.Pieces.{Piece, WeightPiece, PrioAckPiece, AckPiece, RelPiece, EpochPiece, pieces_of, prio_piece, slot_pieces}
use Rattle.sp_rules.specs.Sends.{is_unmet}
use Rattle.sp_rules.specs.declared.kflow.FlowKind.{FlowKind}
use Rattle.sp_rules.specs.declared.kflow.FlowKind.TheVariants.{Plain, Paths}
use Rattle.sp_rules.specs.declared.node.LinkReply.{LinkReply}
use Rattle.sp_rules.specs.declared.node.LinkReply.TheVariants as links
use Rattle.laws_node.proofs.Carried.{AllKeep}
use Rattle.sp_runs.specs.Settings.{Setting}
use Rattle.laws_runs.specs.Signs.{NodeIs}

-- the nodes of a run without epochs are such
pub without : (x : Setting) (P : Kept → Type 0) (u : NodeId) (n : NodeState) → x.epochs ≡ false → NodeIs x P u n → n.fixed.epochs ≡ false
without x P u n plain is = ap (λ (f : Fixed). f.epochs) is.fixed ∙ plain

-- ---- pieces

abbrev pub NoStart : Piece → Type 0
NoStart (EpochPiece o) = ⊥
NoStart _ = Unit {0}

abbrev pub NoStarts : List Piece → Type 0
NoStarts [] = Unit {0}
NoStarts (piece ∷ pieces) = NoStart piece × NoStarts pieces

-- pieces of which none says of a start say of none
pub none_map : {X : Type 0} (f : X → Piece) → ((x : X) → NoStart (f x)) → (xs : List X) → NoStarts (map f xs)
none_map f each [] = tt
none_map f each (x ∷ xs) = (each x, none_map f each xs)

none_both : (xs ys : List Piece) → NoStarts xs → NoStarts ys → NoStarts (xs ++ ys)
none_both [] ys one two = two
none_both (x ∷ xs) ys one two = (one.0, none_both xs ys one.1 two)

none_slot : (kind : FlowKind) (slot : Option Report) → NoStarts (slot_pieces kind slot)
none_slot kind None = tt
none_slot kind (Some r) = (
  tt,
  none_both (map (AckPiece kind r.flow) (as_list r.ack)) (map (RelPiece kind r.flow) r.rels)
      (none_map (AckPiece kind r.flow) (λ o. tt) (as_list r.ack)) (none_map (RelPiece kind r.flow) (λ o. tt) r.rels),
)

-- those of contents without an Epoch object
pub no_starts_of : (s : Contents) → s.epoch ≡ None → NoStarts (pieces_of s)
no_starts_of s none =
    let last = map EpochPiece (as_list s.epoch) in
    let paths = slot_pieces Paths s.paths ++ last in
    let slots = slot_pieces Plain s.slot ++ paths in
    none_both (map WeightPiece s.weights) (PrioAckPiece s.prio_ack ∷ (map prio_piece s.prios ++ slots)) (none_map WeightPiece (λ o. tt) s.weights) (
      tt,
      none_both (map prio_piece s.prios) slots (none_map prio_piece (λ m. tt) s.prios)
          (none_both (slot_pieces Plain s.slot) paths (none_slot Plain s.slot) (none_both (slot_pieces Paths s.paths) last (none_slot Paths s.paths)
          (subst (λ (o : Option Kept). NoStarts (map EpochPiece (as_list o))) (sym none) tt))),
    )

-- what is heeded of contents has the slots, and no Epoch object
pub heeded_slot : (f : Fixed) (s : Contents) → (heeded f s).slot ≡ s.slot
heeded_slot f s = go f.epochs
  where
    go : (epochs : Bool) → (cond epochs s (record s { epoch = None })).slot ≡ s.slot
    go true = refl
    go false = refl

pub heeded_paths : (f : Fixed) (s : Contents) → (heeded f s).paths ≡ s.paths
heeded_paths f s = go f.epochs
  where
    go : (epochs : Bool) → (cond epochs s (record s { epoch = None })).paths ≡ s.paths
    go true = refl
    go false = refl

pub heeded_epoch : (f : Fixed) (s : Contents) → f.epochs ≡ false → (heeded f s).epoch ≡ None
heeded_epoch f s plain = rw plain refl

heeded_none : (epochs : Bool) (s : Contents) → epochs ≡ false → NoStarts (pieces_of (cond epochs s (record s { epoch = None })))
heeded_none true s plain = absurd (cc)
heeded_none false s plain = no_starts_of (record s { epoch = None }) refl

-- none are handled beside a document
pub beside : (P : List Piece → Type 0) (document : Option (List ℕ)) (pieces : List Piece) → P [] → P pieces → P (pieces_beside document pieces)
beside P None pieces none all = all
beside P (Some document) pieces none all = none

pub no_starts_in : (f : Fixed) (r : Result Contents SectionRefused) → f.epochs ≡ false → NoStarts (pieces_in f r)
no_starts_in f (Ok s) plain = beside NoStarts s.document (pieces_of (heeded f s)) tt (heeded_none f.epochs s plain)
no_starts_in f (Err refused) plain = tt

no_starts_where : (reply : LinkReply) (pieces : List Piece) → NoStarts pieces → NoStarts (pieces_where reply pieces)
no_starts_where links.Fresh pieces h = h
no_starts_where links.TooLong pieces h = tt
no_starts_where (links.Short short) pieces h = tt
no_starts_where links.Magic pieces h = tt
no_starts_where links.Version pieces h = tt
no_starts_where links.NotForMe pieces h = tt
no_starts_where links.BadTag pieces h = tt
no_starts_where (links.Learned boot) pieces h = tt
no_starts_where (links.Stale boot counter) pieces h = tt
no_starts_where (links.OtherTopology theirs) pieces h = tt
no_starts_where (links.Section refused) pieces h = tt
no_starts_where links.Withdrawn pieces h = tt

-- the pieces that a node handles of a datagram
abbrev pub pieces_at : Arts → NodeState → NodeId → List ℕ → List Piece
pieces_at arts n v bytes = pieces_where (reply_at arts n v bytes) (pieces_in n.fixed (sections_in arts n.fixed bytes))

pub no_starts_at : (arts : Arts) (n : NodeState) (v : NodeId) (bytes : List ℕ) → n.fixed.epochs ≡ false → NoStarts (pieces_at arts n v bytes)
no_starts_at arts n v bytes plain =
    no_starts_where (reply_at arts n v bytes) (pieces_in n.fixed (sections_in arts n.fixed bytes)) (no_starts_in n.fixed (sections_in arts n.fixed bytes) plain)

-- ---- what is asked of all objects of contents holds of what is heeded of them

less_at_end : (P : Kept → Type 0) (xs ys zs : List Piece) → (AllKeep P ys → AllKeep P zs) → AllKeep P (xs ++ ys) → AllKeep P (xs ++ zs)
less_at_end P [] ys zs less h = less h
less_at_end P (x ∷ xs) ys zs less h = (h.0, less_at_end P xs ys zs less h.1)

heeded_keep : (P : Kept → Type 0) (epochs : Bool) (s : Contents) → AllKeep P (pieces_of s) → AllKeep P (pieces_of (cond epochs s (record s { epoch = None })))
heeded_keep P true s h = h
heeded_keep P false s h =
    let plain = slot_pieces Plain s.slot in
    let paths = slot_pieces Paths s.paths in
    let old = map EpochPiece (as_list s.epoch) in
    less_at_end P (map WeightPiece s.weights) (PrioAckPiece s.prio_ack ∷ (map prio_piece s.prios ++ (plain ++ (paths ++ old))))
    (PrioAckPiece s.prio_ack ∷ (map prio_piece s.prios ++ (plain ++ (paths ++ []))))
    (λ k. (
      k.0,
      less_at_end P (map prio_piece s.prios) (plain ++ (paths ++ old)) (plain ++ (paths ++ []))
          (less_at_end P plain (paths ++ old) (paths ++ []) (less_at_end P paths old [] (λ e. tt))) k.1,
    )) h

pub in_keep : (P : Kept → Type 0) (f : Fixed) (s : Contents) → AllKeep P (pieces_of s) → AllKeep P (pieces_in f (Ok s))
in_keep P f s h = beside (AllKeep P) s.document (pieces_of (heeded f s)) tt (heeded_keep P f.epochs s h)

-- ---- the parts that a frame meets

greeted_as_it_was : (epochs risen : Bool) (v : NodeId) (p : Parts) → epochs ≡ false → greeted epochs risen v p ≡ p
greeted_as_it_was true risen v p plain = absurd (cc)
greeted_as_it_was false risen v p plain = refl

-- without epochs a datagram tells no start
pub met_as_it_was : (arts : Arts) (n : NodeState) (v : NodeId) (bytes : List ℕ) → n.fixed.epochs ≡ false → parts_met arts n v bytes ≡ n.parts
met_as_it_was arts n v bytes plain = greeted_as_it_was n.fixed.epochs (has_risen (link_in n v) (link_after arts n v bytes)) v n.parts plain

-- ---- sends

pub none_unmet : (n : NodeState) (dst : NodeId) → n.fixed.epochs ≡ false → is_unmet n dst ≡ false
none_unmet n dst plain = rw plain refl
