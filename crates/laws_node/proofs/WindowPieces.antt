-- What the pieces of a frame mark of a source.
use Rattle.std.proofs.Common.{Bool, true, false, ◌≡◌, ℕ, ◌==◌, true, false, cond, List, [], ◌∷◌, ◌++◌, length, Option, Some, None}
use Rattle.std.proofs.Common.{refl, sym, ap, subst, ◌∙◌, inl, inr}
use Rattle.std.specs.Prelude.{fold}
use Rattle.std.specs.List.{flat_map}
use Rattle.std.proofs.lemmas.Bool.{cases_Bool, eqb-true, eq-eqb}
use Rattle.std.proofs.lemmas.List.{append-nil}
use Rattle.std.proofs.lemmas.List.Concat.{flat_map-append}
use Rattle.std.proofs.lemmas.List.Sums.{fold-append}
use Rattle.sp_base.specs.declared.id.Flow.{Flow}
use Rattle.sp_base.specs.declared.id.NodeId.{NodeId}
use Rattle.sp_msg.specs.declared.body.Body.{Body}
use Rattle.sp_msg.specs.declared.body.Body.TheVariants as bodies
use Rattle.sp_msg.specs.declared.kept.Kept.{Kept}
use Rattle.sp_rules.specs.Answers.{ack_answer, epoch_answer, is_new, prio_answer, rel_answer, weight_answer}
use Rattle.sp_rules.specs.Arrivals.{greeted}
use Rattle.sp_rules.specs.Arts.{Arts}
use Rattle.sp_rules.specs.Handle.{Arrival, ack_item, handle, handle_all, heard_where, met, offer_to, rel_item, reported_where}
use Rattle.sp_rules.specs.Kflow.{came_over}
use Rattle.sp_rules.specs.Lives.{are_held, is_dated, judge_epoch, origin_said}
use Rattle.sp_rules.specs.Parts.{Parts, flows_of, is_signed, with_flows}
use Rattle.sp_rules.specs.Pieces.{Piece, WeightPiece, PrioAckPiece, PrioPiece, ReportPiece, AckPiece, RelPiece, EpochPiece}
use Rattle.sp_rules.specs.Prio as prio
use Rattle.sp_rules.specs.Prio.{PrioState, admit_prio, is_here, is_node, judge_prio, marked, place_of, spread, window_at, window_in, windows_less, windows_with}
use Rattle.sp_rules.specs.Rel.{RelState, admit_ack, admit_rel, judge_ack_of, judge_rel_of, reported}
use Rattle.sp_rules.specs.Store.{put, said}
use Rattle.sp_rules.specs.Weights.{WeightState, held}
use Rattle.sp_rules.specs.declared.answers.Item.{Item}
use Rattle.sp_rules.specs.declared.answers.Item.TheVariants as items
use Rattle.sp_rules.specs.declared.answers.PrioAnswer.{PrioAnswer}
use Rattle.sp_rules.specs.declared.answers.PrioAnswer.TheVariants as prios
use Rattle.sp_rules.specs.declared.kflow.FlowKind.{FlowKind}
use Rattle.sp_rules.specs.declared.prio.PrioJudged.TheVariants as judged
use Rattle.sp_rules.specs.declared.rel.AckJudged.TheVariants as acks
use Rattle.sp_rules.specs.declared.rel.RelJudged.TheVariants as rels
use Rattle.sp_rules.specs.declared.weights.Offer.TheVariants as offers
use Rattle.laws_node.specs.HeldBoots.{IsEpochOf}
use Rattle.laws_node.specs.Lives.{mark_told, number_of}
use Rattle.laws_node.proofs.FlowKinds.{prio_beside}
use Rattle.laws_node.proofs.Handles.{new_ack, new_prio, new_rel, new_start, new_weight}
use Rattle.laws_node.proofs.HeldBoots.{new_epoch}
use Rattle.laws_node.proofs.LifeMarks.{mark_on}
use Rattle.laws_node.proofs.WindowPlaces.{less_here, less_there, long_less, long_with, mark_here, mark_there}

-- ---- what was marked of a source

-- a window for each node
pub record HasWindows (s : PrioState) : Type 0 where
  pub long : length s.windows ≡ length s.nodes

pub record Marks (src : ℕ) (old : PrioState) (qs : List (Option ℕ)) (new : PrioState) : Type 0 where
  pub nodes : new.nodes ≡ old.nodes
  pub long : length new.windows ≡ length old.windows
  pub window : window_in new src ≡ fold mark_on (window_in old src) qs

module _ (src : ℕ) where
  pub none : (old new : PrioState) → new.nodes ≡ old.nodes → new.windows ≡ old.windows → Marks src old [] new
  none old new nodes windows = record {
    nodes = nodes;
    long = ap (λ (ws : List (List ℕ)). length ws) windows;
    window = ap (λ (ws : List (List ℕ)). window_at ws (place_of new.nodes src)) windows
        ∙ ap (λ (ns : List NodeId). window_at old.windows (place_of ns src)) nodes;
  }

  pub on : (old mid new : PrioState) (xs ys : List (Option ℕ)) → Marks src old xs mid → Marks src mid ys new → Marks src old (xs ++ ys) new
  on old mid new xs ys one two = record {
    nodes = two.nodes ∙ one.nodes;
    long = two.long ∙ one.long;
    window = two.window ∙ ap (λ (w : List ℕ). fold mark_on w ys) one.window ∙ sym (fold-append mark_on (window_in old src) xs ys);
  }

  pub windows_on : (old new : PrioState) (qs : List (Option ℕ)) → Marks src old qs new → HasWindows old → HasWindows new
  windows_on old new qs m h = record { long = m.long ∙ h.long ∙ ap (λ (ns : List NodeId). length ns) (sym m.nodes) }

  -- ---- a message comes

  spread_marks : (s : PrioState) (o : Kept) (came : Option NodeId) → Marks src s [] (spread s o came)
  spread_marks s o came =
      elim (cases_Bool (is_here s o.body)) [ inl t ↦ rw t (none s (record s { inbox = put s.inbox o }) refl refl) | inr t ↦ rw t (none s _ refl refl) ]

  marked_marks : (s : PrioState) (body : Body) (came : Option NodeId) → HasWindows s → is_node s.nodes src ≡ true
      → Marks src s (cond (said (λ p. p.src.0) body == src) (Some (said (λ p. p.seq) body) ∷ []) []) (marked s body came)
  marked_marks s body came h there =
      let id = said (λ p. p.src.0) body in
      let q = said (λ p. p.seq) body in
      let long = long_with s.windows (place_of s.nodes id) q in
      elim (cases_Bool (id == src)) [
        | inl t ↦
            let same : id ≡ src = eqb-true id src t in
            let here = ap (λ (x : ℕ). window_at (windows_with s.windows (place_of s.nodes x) q) (place_of s.nodes src)) same
            ∙ mark_here s.windows s.nodes src q h.long there in
            rw t (record { nodes = refl; long = long; window = here })
        | inr t ↦
            let other : id ≡ src → ⊥ = λ same. absurd (let wrong : true ≡ false = sym (eq-eqb id src same) ∙ t in cc) in
            rw t (record { nodes = refl; long = long; window = mark_there s.windows s.nodes id src q other })
      ]

  pub admitted : (s : PrioState) (o : Kept) (came : Option NodeId) → HasWindows s → is_node s.nodes src ≡ true
      → Marks src s (cond (said (λ p. p.src.0) o.body == src) (Some (said (λ p. p.seq) o.body) ∷ []) []) (admit_prio s o came)
  admitted s o came h there =
      let qs = cond (said (λ p. p.src.0) o.body == src) (Some (said (λ p. p.seq) o.body) ∷ []) [] in
      subst (λ (xs : List (Option ℕ)). Marks src s xs (admit_prio s o came)) (append-nil qs)
      (on s (marked s o.body came) (admit_prio s o came) qs [] (marked_marks s o.body came h there) (spread_marks (marked s o.body came) o came))

  number_is : (s : PrioState) (body : Body) (now : ℕ) → judge_prio s body now ≡ judged.New
      → cond (said (λ p. p.src.0) body == src) (Some (said (λ p. p.seq) body) ∷ []) [] ≡ number_of src body
  number_is s (bodies.Prio p) now new = refl
  number_is s (bodies.Rel r) now new = absurd (cc)
  number_is s (bodies.Ack a) now new = absurd (cc)
  number_is s (bodies.Weight u) now new = absurd (cc)
  number_is s (bodies.Krel u) now new = absurd (cc)
  number_is s (bodies.Kack u) now new = absurd (cc)
  number_is s (bodies.Epoch u) now new = absurd (cc)

  -- what else is new has no such number
  ack_number : (r : RelState) (flow : Flow) (body : Body) → judge_ack_of r flow body ≡ acks.New → number_of src body ≡ []
  ack_number r flow (bodies.Ack a) new = refl
  ack_number r flow (bodies.Prio p) new = absurd (cc)
  ack_number r flow (bodies.Rel m) new = refl
  ack_number r flow (bodies.Weight u) new = refl
  ack_number r flow (bodies.Krel u) new = refl
  ack_number r flow (bodies.Kack u) new = refl
  ack_number r flow (bodies.Epoch u) new = absurd (cc)

  rel_number_of : (r : RelState) (flow : Flow) (body : Body) → judge_rel_of r flow body ≡ rels.New → number_of src body ≡ []
  rel_number_of r flow (bodies.Ack a) new = refl
  rel_number_of r flow (bodies.Prio p) new = absurd (cc)
  rel_number_of r flow (bodies.Rel m) new = refl
  rel_number_of r flow (bodies.Weight u) new = refl
  rel_number_of r flow (bodies.Krel u) new = refl
  rel_number_of r flow (bodies.Kack u) new = refl
  rel_number_of r flow (bodies.Epoch u) new = absurd (cc)

  weight_number_of : (me : NodeId) (w : WeightState) (body : Body) → offer_to me w body ≡ offers.New → number_of src body ≡ []
  weight_number_of me w (bodies.Ack a) new = refl
  weight_number_of me w (bodies.Prio p) new = absurd (cc)
  weight_number_of me w (bodies.Rel m) new = refl
  weight_number_of me w (bodies.Weight u) new = refl
  weight_number_of me w (bodies.Krel u) new = refl
  weight_number_of me w (bodies.Kack u) new = refl
  weight_number_of me w (bodies.Epoch u) new = absurd (cc)

  -- ---- a datagram

  abbrev pub told : List (Kept × Item) → List (Option ℕ)
  told answered = flat_map (mark_told src) answered

  -- another life of a source began
  renewed_marks : (s : PrioState) (id : ℕ) → HasWindows s → is_node s.nodes src ≡ true → Marks src s (cond (id == src) (None ∷ []) []) (prio.renewed s id)
  renewed_marks s id h there =
      let long = long_less s.windows (place_of s.nodes id) in
      elim (cases_Bool (id == src)) [
        | inl t ↦
            let same : id ≡ src = eqb-true id src t in
            let here = ap (λ (x : ℕ). window_at (windows_less s.windows (place_of s.nodes x)) (place_of s.nodes src)) same
            ∙ less_here s.windows s.nodes src h.long there in
            rw t (record { nodes = refl; long = long; window = here })
        | inr t ↦
            let other : id ≡ src → ⊥ = λ same. absurd (let wrong : true ≡ false = sym (eq-eqb id src same) ∙ t in cc) in
            rw t (record { nodes = refl; long = long; window = less_there s.windows s.nodes id src other })
      ]

  began : (body : Body) → IsEpochOf (origin_said body) body → cond ((origin_said body).0 == src) (None ∷ []) [] ≡ number_of src body
  began (bodies.Epoch e) is = refl
  began (bodies.Prio p) is = absurd is
  began (bodies.Rel p) is = absurd is
  began (bodies.Ack p) is = absurd is
  began (bodies.Weight p) is = absurd is
  began (bodies.Krel p) is = absurd is
  began (bodies.Kack p) is = absurd is

  one_told : (o : Kept) (item : Item) → told ((o, item) ∷ []) ≡ cond (is_new item) (number_of src o.body) []
  one_told o item = append-nil (mark_told src (o, item))

  unmarked : (p : Parts) (o : Kept) (item : Item) (new old : Parts) → new.prio ≡ p.prio → old.prio ≡ p.prio → (is_new item ≡ true → number_of src o.body ≡ [])
      → Marks src p.prio (told ((o, item) ∷ [])) (cond (is_new item) new old).prio
  unmarked p o item new old one two number = elim (cases_Bool (is_new item)) [
    | inl t ↦
        let qs : told ((o, item) ∷ []) ≡ [] = one_told o item ∙ rw t (number t) in
        subst (λ (xs : List (Option ℕ)). Marks src p.prio xs (cond (is_new item) new old).prio) (sym qs)
        (rw t (subst (λ (s : PrioState). Marks src p.prio [] s) (sym one) (none p.prio p.prio refl refl)))
    | inr t ↦
        let qs : told ((o, item) ∷ []) ≡ [] = one_told o item ∙ rw t refl in
        subst (λ (xs : List (Option ℕ)). Marks src p.prio xs (cond (is_new item) new old).prio) (sym qs)
        (rw t (subst (λ (s : PrioState). Marks src p.prio [] s) (sym two) (none p.prio p.prio refl refl)))
  ]

  heard : (answer : PrioAnswer) (v : NodeId) (number : ℕ) (p : Parts) → Marks src p.prio [] (heard_where answer v number p).prio
  heard prios.New v number p = none p.prio (prio.heard p.prio v.0 number) refl refl
  heard prios.Seen v number p = none p.prio (prio.heard p.prio v.0 number) refl refl
  heard prios.BadEnd v number p = none p.prio p.prio refl refl
  heard prios.Expired v number p = none p.prio p.prio refl refl
  heard prios.BadSig v number p = none p.prio p.prio refl refl
  heard prios.Epoch v number p = none p.prio p.prio refl refl

  -- other flows of a kind mark nothing
  pub beside : (kind : FlowKind) (r : RelState) (p : Parts) → Marks src p.prio [] (with_flows kind r p).prio
  beside kind r p = subst (λ (s : PrioState). Marks src p.prio [] s) (sym (prio_beside kind r p)) (none p.prio p.prio refl refl)

  one_piece : (arts : Arts) (at : Arrival) (p : Parts) (piece : Piece) → HasWindows p.prio → is_node p.prio.nodes src ≡ true
      → Marks src p.prio (told (handle arts at p piece).answered) (handle arts at p piece).parts.prio
  one_piece arts at p (WeightPiece o) h there =
      let right = is_signed arts at.fixed o in
      let offer = offer_to at.fixed.me p.weights o.body in
      unmarked p o (items.Weight (weight_answer right offer)) (record p { weights = held p.weights o }) p refl refl
      (λ new. weight_number_of at.fixed.me p.weights o.body (new_weight right offer new).1)
  one_piece arts at p (PrioAckPiece number) h there = none p.prio (prio.acked p.prio at.from.0 number) refl refl
  one_piece arts at p (PrioPiece number o) h there =
      let right = is_signed arts at.fixed o in
      let answer = prio_answer right (is_dated p.lives o.body) (judge_prio p.prio o.body at.now) in
      let new = record p { prio = admit_prio p.prio o (Some at.from) } in
      let t = is_new (items.Prio answer) in
      let qs = told ((o, items.Prio answer) ∷ []) in
      let first : Marks src p.prio qs (cond t new p).prio =
      elim (cases_Bool t) [
        | inl is ↦
            let judge = (new_prio right (is_dated p.lives o.body) (judge_prio p.prio o.body at.now) is).1 in
            let same : cond (said (λ p. p.src.0) o.body == src) (Some (said (λ p. p.seq) o.body) ∷ []) [] ≡ qs =
            number_is p.prio o.body at.now judge ∙ sym (one_told o (items.Prio answer) ∙ rw is refl) in
            subst (λ (xs : List (Option ℕ)). Marks src p.prio xs (cond t new p).prio) same (rw is (admitted p.prio o (Some at.from) h there))
        | inr is ↦
            let same : [] ≡ qs = sym (one_told o (items.Prio answer) ∙ rw is refl) in
            subst (λ (xs : List (Option ℕ)). Marks src p.prio xs (cond t new p).prio) same (rw is (none p.prio p.prio refl refl))
      ] in
      subst (λ (xs : List (Option ℕ)). Marks src p.prio xs (heard_where answer at.from number (cond t new p)).prio) (append-nil qs)
      (on p.prio (cond t new p).prio (heard_where answer at.from number (cond t new p)).prio qs [] first (heard answer at.from number (cond t new p)))
  one_piece arts at p (ReportPiece kind flow sboot dboot base have) h there = by (are_held p.lives flow sboot dboot)
    where
      by : (t : Bool) → Marks src p.prio [] (reported_where kind t at.from flow base have p).prio
      by true = beside kind (reported (flows_of kind p) at.from flow base have) p
      by false = none p.prio p.prio refl refl
  one_piece arts at p (AckPiece kind flow o) h there =
      let right = is_signed arts at.fixed o in
      let dated = is_dated p.lives o.body in
      let r = flows_of kind p in
      let j = judge_ack_of r flow o.body in
      unmarked p o (ack_item kind (ack_answer right dated j)) (with_flows kind (admit_ack r o) p) p (prio_beside kind (admit_ack r o) p) refl
      (λ new. ack_number r flow o.body (new_ack kind right dated j new).1)
  one_piece arts at p (RelPiece kind flow o) h there =
      let right = is_signed arts at.fixed o in
      let dated = is_dated p.lives o.body in
      let over = came_over p.kflow at.from o.body in
      let r = flows_of kind p in
      let j = judge_rel_of r flow o.body in
      unmarked p o (rel_item kind (rel_answer right dated over j)) (with_flows kind (admit_rel r o) p) p (prio_beside kind (admit_rel r o) p) refl
      (λ new. rel_number_of r flow o.body (new_rel kind right dated over j new).1)
  one_piece arts at p (EpochPiece o) h there =
      let right = is_signed arts at.fixed o in
      let judge = judge_epoch at.fixed.me p.lives o.body in
      let item = items.Epoch (epoch_answer right judge) in
      elim (cases_Bool (is_new item)) [
        | inl t ↦
            let start = new_epoch at.fixed.me p.lives o.body (new_start right judge t).1 in
            let qs : cond ((origin_said o.body).0 == src) (None ∷ []) [] ≡ told ((o, item) ∷ []) = began o.body start ∙ sym (one_told o item ∙ rw t refl) in
            subst (λ (xs : List (Option ℕ)). Marks src p.prio xs (cond (is_new item) (met p o) p).prio) qs
            (rw t (renewed_marks p.prio (origin_said o.body).0 h there))
        | inr t ↦
            let qs : [] ≡ told ((o, item) ∷ []) = sym (one_told o item ∙ rw t refl) in
            subst (λ (xs : List (Option ℕ)). Marks src p.prio xs (cond (is_new item) (met p o) p).prio) qs (rw t (none p.prio p.prio refl refl))
      ]

  pub greeted_marks : (epochs risen : Bool) (v : NodeId) (p : Parts) → Marks src p.prio [] (greeted epochs risen v p).prio
  greeted_marks true true v p = none p.prio (prio.unheard p.prio v.0) refl refl
  greeted_marks true false v p = none p.prio p.prio refl refl
  greeted_marks false risen v p = none p.prio p.prio refl refl

  pub all_pieces : (arts : Arts) (at : Arrival) (p : Parts) (pieces : List Piece) → HasWindows p.prio → is_node p.prio.nodes src ≡ true
      → Marks src p.prio (told (handle_all arts at p pieces).answered) (handle_all arts at p pieces).parts.prio
  all_pieces arts at p [] h there = none p.prio p.prio refl refl
  all_pieces arts at p (piece ∷ pieces) h there =
      let first = handle arts at p piece in
      let others = handle_all arts at first.parts pieces in
      let one = one_piece arts at p piece h there in
      let rest = all_pieces arts at first.parts pieces (windows_on p.prio first.parts.prio (told first.answered) one h)
      (ap (λ (ns : List NodeId). is_node ns src) one.nodes ∙ there) in
      subst (λ (xs : List (Option ℕ)). Marks src p.prio xs others.parts.prio) (sym (flat_map-append (mark_told src) first.answered others.answered))
      (on p.prio first.parts.prio others.parts.prio (told first.answered) (told others.answered) one rest)
