-- What correct nodes keep and send was signed, as tests say it.
use Rattle.std.proofs.Common.{◌≡◌, Bool, true, false, List, refl, sym, subst}
use Rattle.std.specs.Prelude.{◌&&◌, ◌||◌, not, IsTrue}
use Rattle.sp_base.specs.declared.id.NodeId.{NodeId}
use Rattle.sp_msg.specs.Views.{signer_of}
use Rattle.sp_msg.specs.declared.kept.Kept.{Kept}
use Rattle.sp_rules.specs.Arts.{Arts}
use Rattle.sp_rules.specs.Node.{NodeState}
use Rattle.sp_rules.specs.Parts.{nodes_of}
use Rattle.sp_rules.specs.Pieces.{Piece, pieces_of}
use Rattle.laws_node.specs.Nodes.{NodeHolds, sizes_of}
use Rattle.laws_node.specs.Sizes.{Sizes}
use Rattle.laws_node.proofs.Carried.{AllKeep, all_less}
use Rattle.laws_node.proofs.Weaker.{node_weaker}
use Rattle.sp_runs.specs.Forgery.{is_among}
use Rattle.sp_runs.specs.Settings.{Setting, is_correct}
use Rattle.sp_runs.specs.Told.{signed}
use Rattle.sp_journal.specs.declared.entry.Entry.{Entry}
use Rattle.sp_schedule_events.specs.declared.event.Event.{Event}
use Rattle.laws_runs.specs.States.{WhatIsKeptWasSigned, is_good_in, is_known_in, is_valid_in}
use Rattle.laws_runs.specs.Signs.{Good, sizes_at}
use Rattle.laws_runs.proofs.Goods.{all_of, of_all}
use Rattle.laws_runs.proofs.Signed.{signs}

both : (a b : Bool) → a ≡ true → b ≡ true → (a && b) ≡ true
both a b p q = rw (p, q) refl

unless : (a b : Bool) → (a ≡ true → b ≡ true) → (not a || b) ≡ true
unless true b h = h refl
unless false b h = refl

good : (arts : Arts) (x : Setting) (es : List Event) (js : List Entry) (o : Kept) → Good arts x es js o → IsTrue (is_good_in arts x es js o)
good arts x es js o h =
    both (is_valid_in arts x o) (is_known_in arts x es js o) h.right
    (unless (is_correct x (signer_of o.body)) (is_among (arts.spell o.body) (signed es js (signer_of o.body))) h.known)

-- the same sizes are read off the node
pub read_off : (x : Setting) (P : Kept → Type 0) (u : NodeId) (n : NodeState) → NodeHolds (sizes_at x P u) n → NodeHolds (sizes_of P n) n
read_off x P u n h =
    subst (λ (k : Sizes). NodeHolds k n)
    (same h.fixed.me h.fixed.format h.fixed.nodes h.fixed.edges h.fixed.signature_len h.parts.rel.bound h.parts.prio.capacity) h
  where
    same : n.fixed.me ≡ u → n.fixed.topology.format ≡ x.topology.format → nodes_of n.fixed.topology ≡ nodes_of x.topology
        → n.fixed.topology.edges ≡ x.topology.edges → n.fixed.signature_len ≡ x.signature_len
        → n.parts.rel.bound ≡ x.buffer → n.parts.prio.inbox.capacity ≡ x.store → sizes_at x P u ≡ sizes_of P n
    same a b c d e f g = sym (rw (a, b, c, d, e, f, g) refl)

all_good : (arts : Arts) (x : Setting) (es : List Event) (js : List Entry) (pieces : List Piece) → AllKeep (Good arts x es js) pieces
    → AllKeep (λ o. IsTrue (is_good_in arts x es js o)) pieces
all_good arts x es js pieces h = all_less (Good arts x es js) (λ o. IsTrue (is_good_in arts x es js o)) (good arts x es js) pieces h

pub what_is_kept_was_signed : WhatIsKeptWasSigned
what_is_kept_was_signed arts x es js w fits reads run =
    let h = signs arts x es js w fits reads run in
    let Q : Kept → Type 0 = λ o. IsTrue (is_good_in arts x es js o) in
    record {
      kept = λ u n at.
          let is = h.nodes u n at in
          read_off x Q u n (node_weaker (sizes_at x (Good arts x es js) u) Q (good arts x es js) n is.holds);
      sent = λ u v k bytes s at read. all_of Q (pieces_of s)
          (all_good arts x es js (pieces_of s) (of_all (Good arts x es js) (pieces_of s) (h.frames u v k bytes s at read)));
    }
