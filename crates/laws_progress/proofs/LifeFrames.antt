-- What a frame carries of starts, and what it leaves at a node that takes it: that one holds the boot that was said, or a later one.
use Rattle.std.proofs.Common.{◌≡◌, ◌<◌, ◌≤◌, ℕ, ◌==◌, Bool, true, false, cond, List, Option, Some, None, Result, Ok, sym, ap, subst, ◌∙◌}
use Rattle.std.specs.Prelude.{IfSome}
use Rattle.std.specs.List.{list_any}
use Rattle.sp_base.specs.declared.id.NodeId.{NodeId}
use Rattle.sp_frame.specs.Sections.{Contents}
use Rattle.sp_frame.specs.declared.refused.SectionRefused.{SectionRefused}
use Rattle.sp_msg.specs.declared.body.Body.{Body}
use Rattle.sp_msg.specs.declared.body.Body.TheVariants as bodies
use Rattle.sp_msg.specs.declared.kept.Kept.{Kept}
use Rattle.sp_rules.specs.Arrivals.{arrival_at, handled, parts_met, pieces_in, pieces_where, reply_at, sections_in, heeded, pieces_beside}
use Rattle.sp_rules.specs.Arts.{Arts}
use Rattle.sp_rules.specs.Handle.{handle, handle_all}
use Rattle.sp_rules.specs.Lives.{boot_said, held_boot, is_life, next_row, origin_said}
use Rattle.sp_rules.specs.Node.{NodeState}
use Rattle.sp_rules.specs.Parts.{Parts, is_signed, place_in, place_of}
use Rattle.sp_rules.specs.Pieces.{EpochPiece, pieces_of}
use Rattle.sp_rules.specs.Polls.{contents_to}
use Rattle.sp_rules.specs.declared.node.LinkReply.{LinkReply}
use Rattle.sp_rules.specs.declared.node.LinkReply.TheVariants as replies
use Rattle.laws_node.specs.HeldBoots.{EpochKept, IsEpochOf, LifeHolds}
use Rattle.laws_node.specs.Shapes.{Shape}
use Rattle.laws_node.proofs.Tables.{all_get}
use Rattle.laws_runs.specs.Signs.{NodeIs, sizes_at}
use Rattle.laws_runs.proofs.Tables.{same_node}
use Rattle.sp_runs.specs.Settings.{Setting}
use Rattle.laws_progress.proofs.LifePieces.{last_piece, piece_told}
use Rattle.laws_progress.proofs.LifeRows.{AreRowsOf, held_row, next_is, row_node}

-- ---- what is carried

-- what a node holds of o's start goes in the frame
pub record IsSent (x : Setting) (P : Kept → Type 0) (n : NodeState) (v o : NodeId) : Type 0 where
  pub object : Kept
  pub carried : (contents_to n.fixed n.parts v).epoch ≡ Some object
  pub kind : IsEpochOf o object.body
  pub keeps : P object
  pub boot : boot_said object.body ≡ held_boot n.parts.lives o
  pub there : list_any (λ k. k.id.0 == o.0) x.topology.nodes ≡ true

kept_object : (x : Setting) (P : Kept → Type 0) (u v : NodeId) (found : Option Kept) (object : Kept) → found ≡ Some object
    → IfSome found (EpochKept (sizes_at x P u) v)
    → EpochKept (sizes_at x P u) v object
kept_object x P u v found object is h = subst (λ (f : Option Kept). IfSome f (EpochKept (sizes_at x P u) v)) is h

pub is_sent : (x : Setting) (P : Kept → Type 0) (u : NodeId) (n : NodeState) (v o : NodeId) → NodeIs x P u n → 0 < held_boot n.parts.lives o
    → next_row n.parts.lives n.parts.origins (place_of n.fixed v) ≡ Some (place_in x.topology.nodes o) → IsSent x P n v o
is_sent x P u n v o is some next =
    let rows : AreRowsOf x.topology.nodes n.parts.lives = ap (λ (s : Shape). s.lives) is.shape in
    let h = held_row x.topology.nodes n.parts.lives o rows some in
    let mine : h.life.node ≡ o = same_node h.life.node o h.of_node in
    let holds = all_get (LifeHolds (sizes_at x P u)) n.parts.lives (place_in x.topology.nodes o) h.life is.holds.parts.lives h.there in
    let kept = kept_object x P u h.life.node h.life.object h.object h.holds holds.object in
    record {
      object = h.object;
      carried = next_is n.parts.lives n.parts.origins (place_of n.fixed v) (place_in x.topology.nodes o) o h next;
      kind = subst (λ (z : NodeId). IsEpochOf z h.object.body) mine kept.kind;
      keeps = kept.fits.holds;
      boot = h.boot;
      there = subst (λ (z : NodeId). list_any (λ k. k.id.0 == z.0) x.topology.nodes ≡ true) mine
          (row_node x.topology.nodes n.parts.lives (place_in x.topology.nodes o) h.life rows h.there);
    }

-- ---- who takes it

pub origin_is : (v : NodeId) (body : Body) → IsEpochOf v body → origin_said body ≡ v
origin_is v (bodies.Epoch e) is = is
origin_is v (bodies.Prio b) is = absurd is
origin_is v (bodies.Rel b) is = absurd is
origin_is v (bodies.Ack b) is = absurd is
origin_is v (bodies.Weight b) is = absurd is
origin_is v (bodies.Krel b) is = absurd is
origin_is v (bodies.Kack b) is = absurd is

-- with epochs all pieces of a fresh frame without a document are handled
taken_parts : (arts : Arts) (m : NodeState) (u : NodeId) (bytes : List ℕ) (s : Contents) → s.document ≡ None → reply_at arts m u bytes ≡ replies.Fresh
    → sections_in arts m.fixed bytes ≡ Ok s → m.fixed.epochs ≡ true
    → (handled arts m u bytes).parts ≡ (handle_all arts (arrival_at m u) (parts_met arts m u bytes) (pieces_of s)).parts
taken_parts arts m u bytes s plain fresh sections on =
    let at = arrival_at m u in
    let p = parts_met arts m u bytes in
    ap (λ (r : LinkReply). (handle_all arts at p (pieces_where r (pieces_in m.fixed (sections_in arts m.fixed bytes)))).parts) fresh
    ∙ ap (λ (c : Result Contents SectionRefused). (handle_all arts at p (pieces_in m.fixed c)).parts) sections
    ∙ ap (λ (o : Option (List ℕ)). (handle_all arts at p (pieces_beside o (pieces_of (heeded m.fixed s)))).parts) plain
    ∙ ap (λ (t : Bool). (handle_all arts at p (pieces_of (cond t s (record s { epoch = None })))).parts) on

pub taken_told : (arts : Arts) (m : NodeState) (u o : NodeId) (bytes : List ℕ) (s : Contents) (object : Kept) → s.document ≡ None
    → reply_at arts m u bytes ≡ replies.Fresh
    → sections_in arts m.fixed bytes ≡ Ok s → m.fixed.epochs ≡ true → s.epoch ≡ Some object → IsEpochOf o object.body → is_signed arts m.fixed object ≡ true
    → (o.0 == m.fixed.me.0) ≡ false → list_any (is_life o) (handled arts m u bytes).parts.lives ≡ true
    → boot_said object.body ≤ held_boot (handled arts m u bytes).parts.lives o
taken_told arts m u o bytes s object plain fresh sections on carried kind right away known =
    let at = arrival_at m u in
    let last = last_piece arts at (parts_met arts m u bytes) s object carried in
    let whole : (handled arts m u bytes).parts ≡ (handle arts at last.0 (EpochPiece object)).parts =
    taken_parts arts m u bytes s plain fresh sections on ∙ last.1 in
    let mine = origin_is o object.body kind in
    let end = (handle arts at last.0 (EpochPiece object)).parts.lives in
    let told : boot_said object.body ≤ held_boot end (origin_said object.body) =
    piece_told arts at last.0 o object kind right (ap (λ (z : NodeId). z.0 == m.fixed.me.0) mine ∙ away)
    (ap (λ (z : NodeId). list_any (is_life z) end) mine ∙ ap (λ (q : Parts). list_any (is_life o) q.lives) (sym whole) ∙ known) in
    subst (λ (q : Parts). boot_said object.body ≤ held_boot q.lives o) (sym whole)
    (subst (λ (z : NodeId). boot_said object.body ≤ held_boot end z) mine told)
