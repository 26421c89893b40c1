-- The start of a life with epochs: the node signs its boot, and holds all that it keeps.
use Rattle.std.proofs.Common.{◌≡◌, ◌<◌, ℕ, ◌+◌, ◌^◌, Bool, true, false, refl, sym, subst, arith, cond}
use Rattle.std.specs.Prelude.{IsTrue}
use Rattle.sp_base.specs.declared.format.TheConstants.{FORMAT_2}
use Rattle.sp_msg.specs.Bodies.{HasGoodFieldsIn}
use Rattle.sp_rules.specs.Arts.{Arts}
use Rattle.sp_rules.specs.Node.{NodeState, Signer, announced, booted, own_epoch, signed_now}
use Rattle.sp_rules.specs.Parts.{Fixed, is_signed}
use Rattle.sp_rules.specs.declared.kflow.FlowKind.TheVariants.{Plain, Paths}
use Rattle.laws_node.specs.About.{IsAbout}
use Rattle.laws_node.specs.Inputs.{ArtsFit}
use Rattle.laws_node.specs.Laws.{StartKeeps}
use Rattle.laws_node.specs.Nodes.{IsKept, NodeHolds, sizes_of}
use Rattle.laws_node.specs.Sizes.{IsNode, Sizes}
use Rattle.laws_node.proofs.About.{me_is_there}
use Rattle.laws_node.proofs.Boot.{boot_holds}
use Rattle.laws_node.proofs.HeldBoots.{held_epoch_holds}
use Rattle.laws_node.proofs.Own.{own_fits, own_is_signed}
use Rattle.laws_node.proofs.FlowRows.{rel_more}
use Rattle.laws_node.proofs.Signing.{signed_beside, signed_once_holds}
use Rattle.laws_node.proofs.Updates.{weights_more}

-- what a node says of its start is in its ranges
pub epoch_fields : (f : Fixed) (format : ℕ) → format ≡ FORMAT_2 → IsNode format f.me → f.boot < 2 ^ 64 → HasGoodFieldsIn format (own_epoch f)
epoch_fields f format two me boot =
    subst (λ (n : ℕ). HasGoodFieldsIn n (own_epoch f)) (sym two)
    (in_two (subst (λ (n : ℕ). IsNode n f.me) two me))
  where
    in_two : IsNode FORMAT_2 f.me → HasGoodFieldsIn FORMAT_2 (own_epoch f)
    in_two node = (refl, (node, (omega (arith, boot), tt)))

-- and it speaks of a node
pub epoch_about : (arts : Arts) (f : Fixed) (signer : Signer) → ArtsFit arts f signer → IsAbout f.topology (own_epoch f)
epoch_about arts f signer fits = me_is_there arts f signer fits

-- whatever is asked of messages, where it holds of that one
pub announced_holds : (k : Sizes) (arts : Arts) (n : NodeState) → ArtsFit arts n.fixed n.signer → n.signer.index < n.signer.bound → k.format ≡ FORMAT_2
    → k.keeps (signed_now arts n (own_epoch n.fixed)) → NodeHolds k n → NodeHolds k (announced arts n)
announced_holds k arts n fits below two keeps h =
    let o = signed_now arts n (own_epoch n.fixed) in
    let me : IsNode k.format n.fixed.me = h.fixed.is_node in
    let own = own_fits arts n k (own_epoch n.fixed) fits h.fixed.signature_len keeps (epoch_fields n.fixed k.format two me h.fixed.boot) in
    record {
      fixed = h.fixed;
      live = h.live;
      now = h.now;
      calls = h.calls;
      links = h.links;
      signer = signed_once_holds n.signer below h.signer;
      parts = record {
        weights = weights_more k n.signer.index (n.signer.index + 1) n.parts.weights (omega arith) h.parts.weights;
        prio = signed_beside k n h.parts.prio;
        rel = rel_more Plain k n.signer.index (n.signer.index + 1) n.parts.rel (omega arith) h.parts.rel;
        kflow = rel_more Paths k n.signer.index (n.signer.index + 1) n.parts.kflow.flows (omega arith) h.parts.kflow;
        lives = held_epoch_holds k n.parts.lives o refl own h.parts.lives;
        origins = h.parts.origins;
      };
    }

pub start_keeps : StartKeeps
start_keeps arts f signer keys buffer store boots fits can = go f.epochs refl
  where
    n : NodeState
    n = booted f signer keys buffer store

    kept : NodeHolds (sizes_of (λ o. IsTrue (is_signed arts f o)) n) n
    kept = boot_holds (λ o. IsTrue (is_signed arts f o)) f signer keys buffer store boots

    go : (epochs : Bool) → f.epochs ≡ epochs → IsKept arts (cond epochs (announced arts n) n)
    go false is = kept
    go true is =
        let below = (can is).0 in
        announced_holds (sizes_of (λ o. IsTrue (is_signed arts f o)) n) arts n fits below (can is).1
        (own_is_signed arts n (own_epoch f) fits (let bound = boots.signer.bound in omega (arith, below, bound)) refl) kept
