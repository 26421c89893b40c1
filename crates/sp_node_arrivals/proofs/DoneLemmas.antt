-- What is done of pieces, and then of others, is done of all of them.
use Rattle.std.proofs.Common.{◌≡◌, ℕ, Bool, true, false, List, [], ◌∷◌, ◌++◌, map, refl, sym, ap, ◌∙◌, subst, append-nil, append_assoc, cond}
use Rattle.std.proofs.lemmas.List.{map-append}
use Rattle.sp_msg.specs.Caused.{Caused}
use Rattle.sp_msg.specs.declared.effect.Effect.{Effect}
use Rattle.sp_msg.specs.declared.kept.Kept.{Kept}
use Rattle.sp_rules.proofs.ToldLemmas.{told_both, told_none}
use Rattle.sp_rules.specs.Arts.{Arts}
use Rattle.sp_rules.specs.Answers.{is_new}
use Rattle.sp_rules.specs.Handle.{Arrival, Handled, ack_handled, ack_item, handle, handle_all, quietly}
use Rattle.sp_rules.specs.Parts.{Parts}
use Rattle.sp_rules.specs.Pieces.{Piece}
use Rattle.sp_rules.specs.Told.{told}
use Rattle.sp_rules.specs.declared.answers.AckAnswer.{AckAnswer}
use Rattle.sp_rules.specs.declared.answers.Item.{Item}
use Rattle.sp_rules.specs.declared.kflow.FlowKind.{FlowKind}
use Rattle.sp_node_arrivals.specs.Done.{IsDone}
use Rattle.sp_node_arrivals.specs.Admitted.{IsAdmitted}

handled : Parts → List (Kept × Item) → List Effect → Handled
handled parts answered effects = record { parts = parts; answered = answered; effects = effects }

-- one after the other
after : Handled → Handled → Handled
after a b = record { parts = b.parts; answered = a.answered ++ b.answered; effects = a.effects ++ b.effects }

all_then : (arts : Arts) (at : Arrival) (p : Parts) (ps qs : List Piece) → handle_all arts at p (ps ++ qs)
    ≡ after (handle_all arts at p ps) (handle_all arts at (handle_all arts at p ps).parts qs)
unfolding handled after
all_then arts at p [] qs = refl
all_then arts at p (piece ∷ ps) qs =
    let first = handle arts at p piece in
    let a = handle_all arts at first.parts ps in
    let b = handle_all arts at a.parts qs in
    ap (λ (h : Handled). handled h.parts (first.answered ++ h.answered) (first.effects ++ h.effects)) (all_then arts at first.parts ps qs)
    ∙ ap (λ (xs : List (Kept × Item)). handled b.parts xs (first.effects ++ (a.effects ++ b.effects))) (sym (append_assoc first.answered a.answered b.answered))
    ∙ ap (handled b.parts ((first.answered ++ a.answered) ++ b.answered)) (sym (append_assoc first.effects a.effects b.effects))

pub done_then : (arts : Arts) (at : Arrival) (p mid new : Parts) (ps qs : List Piece) (xs ys : List Item) (before between now : Caused)
    → IsDone (handle_all arts at p ps) mid xs before between → IsDone (handle_all arts at mid qs) new ys between now
    → IsDone (handle_all arts at p (ps ++ qs)) new (xs ++ ys) before now
unfolding handled after
done_then arts at p mid new ps qs xs ys before between now one two =
    let a = handle_all arts at p ps in
    let b = handle_all arts at a.parts qs in
    let all = all_then arts at p ps qs in
    let moved : handle_all arts at mid qs ≡ b = ap (λ (m : Parts). handle_all arts at m qs) one.parts in
    record {
      parts = two.parts ∙ ap (λ (h : Handled). h.parts) moved ∙ sym (ap (λ (h : Handled). h.parts) all);
      items = ap (λ (zs : List Item). zs ++ ys) one.items
          ∙ ap (λ (zs : List Item). map (λ x. x.1) a.answered ++ zs) (two.items ∙ ap (λ (h : Handled). map (λ x. x.1) h.answered) moved)
          ∙ sym (map-append (λ (x : Kept × Item). x.1) a.answered b.answered)
          ∙ sym (ap (λ (h : Handled). map (λ x. x.1) h.answered) all);
      effects = two.effects
          ∙ ap (λ (h : Handled). told between h.effects) moved
          ∙ ap (λ (c : Caused). told c b.effects) one.effects
          ∙ told_both before a.effects b.effects
          ∙ sym (ap (λ (h : Handled). told before h.effects) all);
    }

-- a piece that says nothing, then others, then others again
pub quiet_then : (arts : Arts) (at : Arrival) (p reported mid new : Parts) (piece : Piece) (ps qs : List Piece) (xs ys : List Item) (before now : Caused)
    → handle arts at p piece ≡ quietly reported [] → IsDone (handle_all arts at reported ps) mid xs before before
    → IsDone (handle_all arts at mid qs) new ys before now → IsDone (handle_all arts at p (piece ∷ (ps ++ qs))) new (xs ++ ys) before now
unfolding handled
quiet_then arts at p reported mid new piece ps qs xs ys before now quiet one two =
    let all = done_then arts at reported mid new ps qs xs ys before before now one two in
    let same : handle_all arts at p (piece ∷ (ps ++ qs)) ≡ handle_all arts at reported (ps ++ qs) =
    ap (λ (h : Handled). let others = handle_all arts at h.parts (ps ++ qs) in
    handled others.parts (h.answered ++ others.answered) (h.effects ++ others.effects)) quiet in
    subst (λ (h : Handled). IsDone h new (xs ++ ys) before now) (sym same) all

-- one piece alone
pub one_done : (arts : Arts) (at : Arrival) (p new : Parts) (piece : Piece) (xs : List Item) (before now : Caused)
    → IsDone (handle arts at p piece) new xs before now → IsDone (handle_all arts at p (piece ∷ [])) new xs before now
one_done arts at p new piece xs before now one =
    let h = handle arts at p piece in
    record {
      parts = one.parts;
      items = one.items ∙ ap (λ (zs : List (Kept × Item)). map (λ x. x.1) zs) (sym (append-nil h.answered));
      effects = one.effects ∙ ap (told before) (sym (append-nil h.effects));
    }

-- no piece
pub none_done : (arts : Arts) (at : Arrival) (p : Parts) (c : Caused) → IsDone (handle_all arts at p []) p [] c c
none_done arts at p c = record { parts = refl; items = refl; effects = sym (told_none c) }

-- where nothing was told before, all that was told is what was caused
pub all_taken : (done : Handled) (left : Parts) (answers : List Item) (before now : Caused) (room : ℕ) → IsDone done left answers before now
    → before ≡ record { list = []; room = room } → IsAdmitted done left answers now.list
all_taken done left answers before now room all none = record {
  parts = all.parts;
  items = all.items;
  effects = ap (λ (c : Caused). c.list) all.effects ∙ ap (λ (c : Caused). c.list ++ done.effects) none;
}

-- an acknowledgement tells nothing
pub ack_tells_nothing : (kind : FlowKind) (answer : AckAnswer) (o : Kept) (p : Parts) (c : Caused) → c ≡ told c (ack_handled kind answer o p).effects
ack_tells_nothing kind answer o p c = go (is_new (ack_item kind answer))
  where
    go : (t : Bool) → c ≡ told c (cond t [] [])
    go true = sym (told_none c)
    go false = sym (told_none c)
