-- What all pieces of a frame keep of a flow between its ends: the Epoch object comes last.
use Rattle.std.proofs.Common.{◌≡◌, ◌<◌, ◌≤◌, ℕ, Bool, true, false, List, [], ◌∷◌, ◌++◌, length, refl, sym, ap, subst, ◌∙◌, inl, inr, append_assoc}
use Rattle.std.proofs.lemmas.List.{append-nil}
use Rattle.sp_base.specs.Lists.{IsPrefix}
use Rattle.sp_base.specs.declared.id.NodeId.{NodeId}
use Rattle.sp_msg.specs.declared.effect.Effect.{Effect}
use Rattle.sp_msg.specs.declared.kept.Kept.{Kept}
use Rattle.sp_rules.specs.Answers.{epoch_answer, is_new}
use Rattle.sp_rules.specs.Arts.{Arts}
use Rattle.sp_rules.specs.Handle.{Arrival, epoch_handled, handle, handle_all, met, met_effects}
use Rattle.sp_rules.specs.Lives.{held_boot, judge_epoch, origin_said}
use Rattle.sp_rules.specs.Parts.{Parts, flows_of, is_signed}
use Rattle.sp_rules.specs.Pieces.{Piece, WeightPiece, PrioAckPiece, PrioPiece, ReportPiece, AckPiece, RelPiece, EpochPiece}
use Rattle.sp_rules.specs.declared.answers.EpochAnswer.{EpochAnswer}
use Rattle.sp_rules.specs.declared.answers.Item.TheVariants as items
use Rattle.sp_rules.specs.declared.lives.Life.{Life}
use Rattle.laws_node.specs.Asked.{NewKeep}
use Rattle.laws_node.proofs.AskedLemmas.{new_left, new_right}
use Rattle.laws_node.proofs.Handles as judged
use Rattle.laws_node.proofs.Handles.{AllFit, PieceFits}
use Rattle.laws_node.specs.Sizes.{Sizes}
use Rattle.sp_rules.specs.declared.kflow.FlowKind.{FlowKind}
use Rattle.sp_runs.specs.Told.{Message}
use Rattle.laws_runs.proofs.FlowFacts.{RelIs}
use Rattle.laws_runs.proofs.FlowPieces.{Holding, Vouched, one_handled, told_both, told_here, told_quiet}
use Rattle.laws_runs.proofs.FlowStarts.{EndsUp, Same, of_other, renewed_is}
use Rattle.laws_runs.proofs.NoStarts.{NoStart}
use Rattle.laws_runs.proofs.Quiet.{Quiet, quiet_met, quiet_none}
use Rattle.laws_runs.proofs.StartPieces.{StartLast, same_lives, start_follows}

pub record Arrived (kind : FlowKind) (C : Type 0) (s d : NodeId) (bs bd : ℕ) (S D : List Message) (c : ℕ) (SF DF : ℕ → ℕ → List Message) (cF : ℕ → ℕ → ℕ)
    (u : NodeId)
    (p p2 : Parts) (es : List Effect) : Type 0 where
  pub ends : EndsUp C s d bs bd S (D ++ told_here kind u s d es) c SF DF cF u p2.lives (flows_of kind p2)
  pub prefix : C → IsPrefix (D ++ told_here kind u s d es) S
  pub low : c ≤ length (D ++ told_here kind u s d es)

module _ (kind : FlowKind) (C : Type 0) (s d : NodeId) (bs bd : ℕ) (S : List Message) (c : ℕ) (SF DF : ℕ → ℕ → List Message) (cF : ℕ → ℕ → ℕ) (u : NodeId)
    (different : s ≡ d → ⊥) (fresh_source : C → u ≡ s → (y : ℕ) → bd < y → SF bs y ≡ [])
    (fresh_end : u ≡ d → (x : ℕ) → bs < x → (DF x bd ≡ []) × (cF x bd ≡ 0)) where
  abbrev Done : List Message → Parts → Parts → List Effect → Type 0
  Done D p p2 es = Arrived kind C s d bs bd S D c SF DF cF u p p2 es

  of_quiet : (D : List Message) (p p2 : Parts) (es : List Effect) → Quiet es → EndsUp C s d bs bd S D c SF DF cF u p2.lives (flows_of kind p2)
      → (C → IsPrefix D S) → c ≤ length D → Done D p p2 es
  of_quiet D p p2 es quiet ends prefix low =
      let none : D ++ told_here kind u s d es ≡ D = ap (λ t. D ++ t) (told_quiet kind u s d es quiet) ∙ append-nil D in
      record {
        ends = subst (λ X. EndsUp C s d bs bd S X c SF DF cF u p2.lives (flows_of kind p2)) (sym none) ends;
        prefix = subst (λ X. C → IsPrefix X S) (sym none) prefix;
        low = subst (λ (X : List Message). c ≤ length X) (sym none) low;
      }

  unchanged : (D : List Message) (p : Parts) → Holding s d bs bd p.lives → RelIs C s d S D c u (flows_of kind p) → (C → IsPrefix D S) → c ≤ length D
      → Done D p p []
  unchanged D p holding h prefix low = of_quiet D p p [] quiet_none (Same holding.src holding.dst h) prefix low

  met_is : (D : List Message) (arts : Arts) (at : Arrival) (p : Parts) (o : Kept) → at.fixed.me ≡ u → Holding s d bs bd p.lives
      → RelIs C s d S D c u (flows_of kind p) → (C → IsPrefix D S) → c ≤ length D
      → Done D p (handle arts at p (EpochPiece o)).parts (handle arts at p (EpochPiece o)).effects
  met_is D arts at p o me holding h prefix low = go (is_new (items.Epoch answer)) refl
    where
      answer : EpochAnswer
      answer = epoch_answer (is_signed arts at.fixed o) (judge_epoch at.fixed.me p.lives o.body)

      go : (t : Bool) → is_new (items.Epoch answer) ≡ t → Done D p (epoch_handled answer o p).parts (epoch_handled answer o p).effects
      go false is = rw is (unchanged D p holding h prefix low)
      go true is =
          let judge = (judged.new_start (is_signed arts at.fixed o) (judge_epoch at.fixed.me p.lives o.body) is).1 in
          let done : Done D p (met p o) (met_effects p (origin_said o.body)) =
          of_quiet D p (met p o) (met_effects p (origin_said o.body)) (quiet_met p (origin_said o.body))
          (renewed_is kind C s d bs bd S D c SF DF cF u different fresh_source fresh_end p o holding
          (λ z. of_other at.fixed.me p.lives o.body judge (z ∙ sym me)) (start_follows arts at p o is) h) prefix low in
          rw is done

  plain_one : (D : List Message) (arts : Arts) (at : Arrival) (p : Parts) (piece : Piece) (k : Sizes) → PieceFits k piece → NoStart piece
      → Holding s d bs bd p.lives
      → NewKeep (Vouched kind C s d bs bd S c) (handle arts at p piece).answered
      → RelIs C s d S D c u (flows_of kind p) → (C → IsPrefix D S) → c ≤ length D → Done D p (handle arts at p piece).parts (handle arts at p piece).effects
  plain_one D arts at p piece k fits plain holding new h prefix low =
      let one = one_handled kind C s d bs bd S c u different D arts at p piece k fits plain holding new h prefix low in
      let e = same_lives arts at p piece plain in
      record {
        ends = Same (ap (λ (x : List Life). held_boot x s) e ∙ holding.src) (ap (λ (x : List Life). held_boot x d) e ∙ holding.dst) one.rel;
        prefix = one.prefix;
        low = one.low;
      }

  any_one : (D : List Message) (arts : Arts) (at : Arrival) (p : Parts) (piece : Piece) (k : Sizes) → PieceFits k piece → at.fixed.me ≡ u
      → Holding s d bs bd p.lives
      → NewKeep (Vouched kind C s d bs bd S c) (handle arts at p piece).answered
      → RelIs C s d S D c u (flows_of kind p) → (C → IsPrefix D S) → c ≤ length D → Done D p (handle arts at p piece).parts (handle arts at p piece).effects
  any_one D arts at p (EpochPiece o) k fits me holding new h prefix low = met_is D arts at p o me holding h prefix low
  any_one D arts at p (WeightPiece o) k fits me holding new h prefix low = plain_one D arts at p (WeightPiece o) k fits tt holding new h prefix low
  any_one D arts at p (PrioAckPiece number) k fits me holding new h prefix low = plain_one D arts at p (PrioAckPiece number) k fits tt holding new h prefix low
  any_one D arts at p (PrioPiece number o) k fits me holding new h prefix low = plain_one D arts at p (PrioPiece number o) k fits tt holding new h prefix low
  any_one D arts at p (ReportPiece kind2 flow sboot dboot base have) k fits me holding new h prefix low =
      plain_one D arts at p (ReportPiece kind2 flow sboot dboot base have) k fits tt holding new h prefix low
  any_one D arts at p (AckPiece kind2 flow o) k fits me holding new h prefix low =
      plain_one D arts at p (AckPiece kind2 flow o) k fits tt holding new h prefix low
  any_one D arts at p (RelPiece kind2 flow o) k fits me holding new h prefix low =
      plain_one D arts at p (RelPiece kind2 flow o) k fits tt holding new h prefix low

  pub all_arrived : (D : List Message) (arts : Arts) (at : Arrival) (p : Parts) (pieces : List Piece) (k : Sizes) → AllFit k pieces → StartLast pieces
      → at.fixed.me ≡ u
      → Holding s d bs bd p.lives → NewKeep (Vouched kind C s d bs bd S c) (handle_all arts at p pieces).answered
      → RelIs C s d S D c u (flows_of kind p) → (C → IsPrefix D S) → c ≤ length D
      → Done D p (handle_all arts at p pieces).parts (handle_all arts at p pieces).effects
  all_arrived D arts at p [] k fit last me holding new h prefix low = unchanged D p holding h prefix low
  all_arrived D arts at p (piece ∷ pieces) k fit (inr none) me holding new h prefix low =
      let first = handle arts at p piece in
      let one = any_one D arts at p piece k fit.0 me holding (new_left (Vouched kind C s d bs bd S c) first.answered
      (handle_all arts at first.parts pieces).answered new) h prefix low in
      let none_more : Done D p first.parts (first.effects ++ []) = subst (λ es. Done D p first.parts es) (sym (append-nil first.effects)) one in
      subst (λ ps. Done D p (handle_all arts at first.parts ps).parts (first.effects ++ (handle_all arts at first.parts ps).effects)) (sym none) none_more
  all_arrived D arts at p (piece ∷ pieces) k fit (inl (plain, last)) me holding new h prefix low =
      let first = handle arts at p piece in
      let others = handle_all arts at first.parts pieces in
      let one = one_handled kind C s d bs bd S c u different D arts at p piece k fit.0 plain holding
      (new_left (Vouched kind C s d bs bd S c) first.answered others.answered new) h prefix low in
      let e = same_lives arts at p piece plain in
      let here : Holding s d bs bd first.parts.lives =
      record { src = ap (λ (x : List Life). held_boot x s) e ∙ holding.src; dst = ap (λ (x : List Life). held_boot x d) e ∙ holding.dst } in
      let rest = all_arrived (D ++ told_here kind u s d first.effects) arts at first.parts pieces k fit.1 last me here
      (new_right (Vouched kind C s d bs bd S c) first.answered others.answered new) one.rel one.prefix one.low in
      let both : D ++ told_here kind u s d (first.effects ++ others.effects) ≡ (D ++ told_here kind u s d first.effects)
      ++ told_here kind u s d others.effects =
      ap (λ t. D ++ t) (told_both kind u s d first.effects others.effects)
      ∙ sym (append_assoc D (told_here kind u s d first.effects) (told_here kind u s d others.effects)) in
      record {
        ends = subst (λ X. EndsUp C s d bs bd S X c SF DF cF u others.parts.lives (flows_of kind others.parts)) (sym both) rest.ends;
        prefix = subst (λ X. C → IsPrefix X S) (sym both) rest.prefix;
        low = subst (λ (X : List Message). c ≤ length X) (sym both) rest.low;
      }
