-- What the pieces of a frame tell and keep of the numbers of a source that were told at d, under the boot that d holds of it.
use Rattle.std.proofs.Common.{◌≡◌, ◌<◌, ℕ, ◌==◌, Bool, true, false, cond, List, [], ◌∷◌, ◌++◌, map, Option, Some, refl, sym, ap, subst, ◌∙◌, inl, inr, arith}
use Rattle.std.proofs.Common.{append_assoc, not, nat_lt}
use Rattle.std.specs.Prelude.{◌||◌}
use Rattle.std.specs.List.{All, Contains, flat_map}
use Rattle.std.proofs.lemmas.Bool.{cases_Bool, cases_eq, eqb-true}
use Rattle.std.proofs.lemmas.List.{append-nil, map-append}
use Rattle.std.proofs.lemmas.List.Concat.{flat_map-append}
use Rattle.std.proofs.lemmas.List.Elements.{All-append, All-cons, All-nil}
use Rattle.sp_base.specs.declared.id.NodeId.{NodeId}
use Rattle.sp_msg.specs.declared.body.Body.{Body}
use Rattle.sp_msg.specs.declared.body.Body.TheVariants as bodies
use Rattle.sp_msg.specs.declared.body.Prio.{Prio}
use Rattle.sp_msg.specs.declared.effect.Effect.{Effect}
use Rattle.sp_msg.specs.declared.kept.Kept.{Kept}
use Rattle.sp_rules.specs.Answers.{ack_answer, epoch_answer, is_new, prio_answer, weight_answer}
use Rattle.sp_rules.specs.Arts.{Arts}
use Rattle.sp_rules.specs.Handle.{Arrival, ack_item, handle, handle_all, heard_where, met, met_effects, offer_to, rel_answer_to, rel_item, weight_effects}
use Rattle.sp_rules.specs.Lives.{are_held, held_boot, is_dated, judge_epoch, origin_said}
use Rattle.sp_rules.specs.Parts.{Parts, flows_of, is_signed, with_flows}
use Rattle.sp_rules.specs.Pieces.{Piece, WeightPiece, PrioAckPiece, PrioPiece, ReportPiece, AckPiece, RelPiece, EpochPiece}
use Rattle.sp_rules.specs.Prio as prio
use Rattle.sp_rules.specs.Prio.{PrioState, admit_prio, acked_effects, is_here, is_node, judge_prio, marked, place_of, prio_effects, window_in, windows_with}
use Rattle.sp_rules.specs.Prio.{is_there}
use Rattle.sp_rules.specs.PrioPeer as rows
use Rattle.sp_rules.specs.Rel.{RelState, admit_ack, admit_rel, is_to, judge_ack_of, judge_rel_of, rel_effects, reported}
use Rattle.sp_rules.specs.Flow.{flow_said}
use Rattle.sp_rules.specs.Store.{said}
use Rattle.sp_rules.specs.Weights.{held}
use Rattle.sp_rules.specs.Window.{is_seen}
use Rattle.sp_rules.specs.declared.answers.Item.{Item}
use Rattle.sp_rules.specs.declared.answers.Item.TheVariants as items
use Rattle.sp_rules.specs.declared.answers.PrioAnswer.{PrioAnswer}
use Rattle.sp_rules.specs.declared.answers.PrioAnswer.TheVariants as prios
use Rattle.sp_rules.specs.declared.kflow.FlowKind.{FlowKind}
use Rattle.sp_rules.specs.declared.lives.Life.{Life}
use Rattle.sp_rules.specs.declared.prio.PrioJudged.{PrioJudged}
use Rattle.sp_rules.specs.declared.prio.PrioJudged.TheVariants as judgements
use Rattle.laws_node.specs.Asked.{NewKeep}
use Rattle.laws_node.proofs.AskedLemmas.{new_left, new_right}
use Rattle.laws_node.proofs.FlowKinds.{prio_beside}
use Rattle.laws_node.proofs.Handles as judged
use Rattle.laws_node.proofs.Tables.{cond_either}
use Rattle.sp_runs.specs.Told.{Message, prio_by}
use Rattle.laws_runs.specs.Priority.{AreOnce}
use Rattle.laws_runs.proofs.NoStarts.{NoStart}
use Rattle.laws_runs.proofs.PrioFacts.{Mute, PrioIs, begun, marks, marks_told, mute_acked, mute_given, mute_met, mute_none, mute_put, mute_rel}
use Rattle.laws_runs.proofs.PrioFacts.{mute_weight, other_begun, prio_numbers, same_windows, spread_same}
use Rattle.laws_runs.proofs.StartPieces.{StartLast, same_lives, start_follows}
use Rattle.laws_runs.proofs.Tables.{same_node}
use Rattle.laws_runs.proofs.Lists.{both}

-- ---- a message comes

pub record NewPrio (p : PrioState) (body : Body) : Type 0 where
  pub b : Prio
  pub is : body ≡ bodies.Prio b
  pub node : is_node p.nodes b.src.0 ≡ true
  pub unseen : is_seen (window_in p b.src.0) b.seq ≡ false

passes : (t : Bool) (a b : PrioJudged) → (a ≡ judgements.New → ⊥) → cond t a b ≡ judgements.New → (t ≡ false) × (b ≡ judgements.New)
passes true a b other e = absurd (other e)
passes false a b other e = (refl, e)

neither : (x y : Bool) → (x || y) ≡ false → (x ≡ false) × (y ≡ false)
neither false false e = (refl, refl)
neither false true e = absurd (cc)
neither true y e = absurd (cc)

not_not : (t : Bool) → not t ≡ false → t ≡ true
not_not true e = refl
not_not false e = absurd (cc)

pub new_prio : (p : PrioState) (body : Body) (now : ℕ) → judge_prio p body now ≡ judgements.New → NewPrio p body
new_prio p (bodies.Prio b) now e =
    let one = passes (not (is_there p b.src.0) || not (is_there p b.dst.0) || (b.src.0 == b.dst.0)) judgements.BadEnd _ (λ f. cc) e in
    let two = passes (nat_lt b.expiry now) judgements.Expired _ (λ f. cc) one.1 in
    let three = passes ((b.src.0 == p.me) || is_seen (window_in p b.src.0) b.seq) judgements.Seen judgements.New (λ f. cc) two.1 in
    record {
      b = b;
      is = refl;
      node = (both (is_node p.nodes b.src.0) _ (not_not (is_there p b.src.0) (neither _ _ (neither _ _ one.0).0).0)).0;
      unseen = (neither _ _ three.0).1;
    }
new_prio p (bodies.Rel b) now e = absurd (cc)
new_prio p (bodies.Ack b) now e = absurd (cc)
new_prio p (bodies.Weight b) now e = absurd (cc)
new_prio p (bodies.Krel b) now e = absurd (cc)
new_prio p (bodies.Kack b) now e = absurd (cc)
new_prio p (bodies.Epoch b) now e = absurd (cc)

-- a new object from s for d, which names the boot that is held of s, was sent under that boot
pub record VouchedPrio (C : Type 0) (s d : NodeId) (boot : ℕ) (S : List Message) (o : Kept) : Type 0 where
  pub message : C → (b : Prio) → o.body ≡ bodies.Prio b → b.src ≡ s → b.dst ≡ d → b.sboot ≡ boot → Contains S (b.seq, b.payload)

pub record PrioDone (C : Type 0) (s d : NodeId) (S : List Message) (told : List ℕ) (p : PrioState) (es : List Effect) : Type 0 where
  pub at : PrioIs s d (told ++ prio_numbers s es) p
  pub sent : C → All (Contains S) (flat_map (prio_by s) es)

-- where it leads to: the boot that is held of s is the same, or it rose, and no number of the new life was told
pub data PrioEnds (s d : NodeId) (boot : ℕ) (told : List ℕ) (lives : List Life) (p : PrioState) : Type 0 where
  Same_life : held_boot lives s ≡ boot → PrioIs s d told p → PrioEnds s d boot told lives p
  Next_life : boot < held_boot lives s → PrioIs s d [] p → PrioEnds s d boot told lives p

pub record PrioCame (C : Type 0) (s d : NodeId) (boot : ℕ) (S : List Message) (told : List ℕ) (lives : List Life) (p : PrioState)
    (es : List Effect) : Type 0 where
  pub ends : PrioEnds s d boot (told ++ prio_numbers s es) lives p
  pub once : AreOnce (told ++ prio_numbers s es)
  pub sent : C → All (Contains S) (flat_map (prio_by s) es)

module _ (C : Type 0) (s d : NodeId) (boot : ℕ) (S : List Message) where
  pub muted : (told : List ℕ) (p : PrioState) (es : List Effect) → Mute es → PrioIs s d told p → PrioDone C s d S told p es
  muted told p es mute h =
      let none : told ++ prio_numbers s es ≡ told = ap (λ (ms : List Message). told ++ map (λ (m : Message). m.0) ms) (mute.none s) ∙ append-nil told in
      record {
        at = subst (λ t. PrioIs s d t p) (sym none) h;
        sent = λ k. subst (All (Contains S)) (sym (mute.none s)) (All-nil (Contains S));
      }

  -- a message that is new here
  admitted : (told : List ℕ) (p : PrioState) (o : Kept) (came : Option NodeId) → NewPrio p o.body
      → ((b : Prio) → o.body ≡ bodies.Prio b → b.src ≡ s → b.sboot ≡ boot) → VouchedPrio C s d boot S o → PrioIs s d told p
      → PrioDone C s d S told (admit_prio p o came) (prio_effects p o came)
  admitted told p o came new names vouched h =
      let b = new.b in
      let p2 = admit_prio p o came in
      let same = spread_same (marked p o.body came) o came in
      let src : said (λ r. r.src.0) o.body ≡ b.src.0 = ap (said (λ r. r.src.0)) new.is in
      let seq : said (λ r. r.seq) o.body ≡ b.seq = ap (said (λ r. r.seq)) new.is in
      let windows : p2.windows ≡ windows_with p.windows (place_of p.nodes b.src.0) b.seq =
      same.2 ∙ ap (λ n. windows_with p.windows (place_of p.nodes n) (said (λ r. r.seq) o.body)) src
      ∙ ap (windows_with p.windows (place_of p.nodes b.src.0)) seq in
      let put = mute_put 0 p.inbox o in
      elim (cases_Bool (is_here p o.body)) [
        | inl here ↦
            let dst : b.dst ≡ d = same_node b.dst d (sym (ap (said (λ r. r.dst.0)) new.is) ∙ eqb-true _ _ here ∙ h.me) in
            let effects_are : prio_effects p o came ≡ prio.delivered o.body ++ rows.put_effects 0 p.inbox o = rw here refl in
            let told_are : flat_map (prio_by s) (prio_effects p o came) ≡ flat_map (prio_by s) (prio.delivered (bodies.Prio b)) =
            ap (flat_map (prio_by s)) effects_are ∙ flat_map-append (prio_by s) (prio.delivered o.body) (rows.put_effects 0 p.inbox o)
            ∙ ap (λ t. flat_map (prio_by s) (prio.delivered o.body) ++ t) (put.none s) ∙ append-nil (flat_map (prio_by s) (prio.delivered o.body))
            ∙ ap (λ y. flat_map (prio_by s) (prio.delivered y)) new.is in
            elim (cases_Bool (b.src.0 == s.0)) [
              | inl mine ↦
                  let is_s : b.src ≡ s = same_node b.src s (eqb-true _ _ mine) in
                  let one : flat_map (prio_by s) (prio_effects p o came) ≡ (b.seq, b.payload) ∷ [] = told_are ∙ rw mine refl in
                  let numbers : prio_numbers s (prio_effects p o came) ≡ b.seq ∷ [] = ap (map (λ (m : Message). m.0)) one in
                  record {
                    at = subst (λ t. PrioIs s d (told ++ t) p2) (sym numbers)
                        (marks_told s d told p p2 b.seq same.0 same.1 (windows ∙ ap (λ (v : NodeId). windows_with p.windows (place_of p.nodes v.0) b.seq) is_s)
                        (subst (λ (v : NodeId). is_node p.nodes v.0 ≡ true) is_s new.node)
                        (subst (λ (v : NodeId). is_seen (window_in p v.0) b.seq ≡ false) is_s new.unseen) h);
                    sent = λ k. subst (All (Contains S)) (sym one)
                        (All-cons (Contains S) (b.seq, b.payload) [] (vouched.message k b new.is is_s dst (names b new.is is_s)) (All-nil (Contains S)));
                  }
              | inr other ↦
                  let none : flat_map (prio_by s) (prio_effects p o came) ≡ [] = told_are ∙ rw other refl in
                  record {
                    at = subst (λ t. PrioIs s d t p2) (sym (ap (λ (ms : List Message). told ++ map (λ (m : Message). m.0) ms) none ∙ append-nil told))
                        (marks s d told p p2 b.src.0 b.seq same.0 same.1 windows h);
                    sent = λ k. subst (All (Contains S)) (sym none) (All-nil (Contains S));
                  }
            ]
        | inr away ↦
            muted told p2 (prio_effects p o came) (rw away (mute_given p o came)) (marks s d told p p2 b.src.0 b.seq same.0 same.1 windows h)
      ]

  heard_same : (answer : PrioAnswer) (v : NodeId) (number : ℕ) (p : Parts)
      → ((heard_where answer v number p).prio.me ≡ p.prio.me) × ((heard_where answer v number p).prio.nodes ≡ p.prio.nodes)
      × ((heard_where answer v number p).prio.windows ≡ p.prio.windows)
  heard_same prios.New v number p = (refl, refl, refl)
  heard_same prios.Seen v number p = (refl, refl, refl)
  heard_same prios.BadEnd v number p = (refl, refl, refl)
  heard_same prios.Expired v number p = (refl, refl, refl)
  heard_same prios.BadSig v number p = (refl, refl, refl)
  heard_same prios.Epoch v number p = (refl, refl, refl)

  chosen : (told : List ℕ) (answer : Item) (new old : Parts) (es : List Effect) → (is_new answer ≡ true → PrioDone C s d S told new.prio es)
      → PrioDone C s d S told old.prio []
      → PrioDone C s d S told (cond (is_new answer) new old).prio (cond (is_new answer) es [])
  chosen told answer new old es here otherwise = elim (cases_Bool (is_new answer)) [
    | inl t ↦ rw t (here t)
    | inr t ↦ rw t otherwise
  ]

  done_same : (told : List ℕ) (p p2 : PrioState) (es : List Effect) → p2.me ≡ p.me → p2.nodes ≡ p.nodes → p2.windows ≡ p.windows → PrioDone C s d S told p es
      → PrioDone C s d S told p2 es
  done_same told p p2 es e f g h = record { at = same_windows s d (told ++ prio_numbers s es) p p2 e f g h.at; sent = h.sent }

  -- a message of s that is dated names the boot that is held of s
  names_held : (lives : List Life) (o : Kept) → is_dated lives o.body ≡ true → held_boot lives s ≡ boot → (b : Prio) → o.body ≡ bodies.Prio b → b.src ≡ s
      → b.sboot ≡ boot
  names_held lives o dated holding b is src =
      let names : b.sboot ≡ held_boot lives b.src = eqb-true b.sboot (held_boot lives b.src) (subst (λ (y : Body). is_dated lives y ≡ true) is dated) in
      names ∙ ap (held_boot lives) src ∙ holding

  -- where flows change beside it
  beside : (told : List ℕ) (kind : FlowKind) (r : RelState) (p : Parts) (es : List Effect) → PrioDone C s d S told p.prio es
      → PrioDone C s d S told (with_flows kind r p).prio es
  beside told kind r p es done = subst (λ (q : PrioState). PrioDone C s d S told q es) (sym (prio_beside kind r p)) done

  one_handled : (told : List ℕ) (arts : Arts) (at : Arrival) (p : Parts) (piece : Piece) → NoStart piece → held_boot p.lives s ≡ boot
      → NewKeep (VouchedPrio C s d boot S) (handle arts at p piece).answered → PrioIs s d told p.prio
      → PrioDone C s d S told (handle arts at p piece).parts.prio (handle arts at p piece).effects
  one_handled told arts at p (WeightPiece o) none holding new h =
      chosen told (items.Weight (weight_answer (is_signed arts at.fixed o) (offer_to at.fixed.me p.weights o.body)))
      (record p { weights = held p.weights o }) p (weight_effects o.body)
      (λ t. muted told p.prio (weight_effects o.body) (mute_weight o.body) h) (muted told p.prio [] mute_none h)
  one_handled told arts at p (PrioAckPiece number) none holding new h =
      muted told (prio.acked p.prio at.from.0 number) (acked_effects p.prio at.from.0 number) (mute_acked p.prio at.from.0 number)
      (same_windows s d told p.prio _ refl refl refl h)
  one_handled told arts at p (PrioPiece number o) none holding new h =
      let answer = prio_answer (is_signed arts at.fixed o) (is_dated p.lives o.body) (judge_prio p.prio o.body at.now) in
      let admitted_to = record p { prio = admit_prio p.prio o (Some at.from) } in
      let after = cond (is_new (items.Prio answer)) admitted_to p in
      let same = heard_same answer at.from number after in
      done_same told after.prio (heard_where answer at.from number after).prio
      (cond (is_new (items.Prio answer)) (prio_effects p.prio o (Some at.from)) []) same.0 same.1 same.2
      (chosen told (items.Prio answer) admitted_to p (prio_effects p.prio o (Some at.from))
      (λ t.
      let right = judged.new_prio (is_signed arts at.fixed o) (is_dated p.lives o.body) (judge_prio p.prio o.body at.now) t in
      admitted told p.prio o (Some at.from) (new_prio p.prio o.body at.now right.1) (names_held p.lives o right.2 holding) (new.0 t) h)
      (muted told p.prio [] mute_none h))
  one_handled told arts at p (ReportPiece kind flow sboot dboot base have) none holding new h =
      let r = reported (flows_of kind p) at.from flow base have in
      let same = muted told p.prio [] mute_none h in
      cond_either (λ (q : Parts). PrioDone C s d S told q.prio []) (are_held p.lives flow sboot dboot) (with_flows kind r p) p
      (beside told kind r p [] same) same
  one_handled told arts at p (AckPiece kind flow o) none holding new h =
      let r = flows_of kind p in
      chosen told (ack_item kind (ack_answer (is_signed arts at.fixed o) (is_dated p.lives o.body) (judge_ack_of r flow o.body)))
      (with_flows kind (admit_ack r o) p) p []
      (λ t. beside told kind (admit_ack r o) p [] (muted told p.prio [] mute_none h)) (muted told p.prio [] mute_none h)
  one_handled told arts at p (RelPiece kind flow o) none holding new h =
      let r = flows_of kind p in
      chosen told (rel_item kind (rel_answer_to arts at p (judge_rel_of r flow o.body) o))
      (with_flows kind (admit_rel r o) p) p (rel_effects r o)
      (λ t. beside told kind (admit_rel r o) p (rel_effects r o) (muted told p.prio (rel_effects r o) (mute_rel (is_to r (flow_said o.body)) o.body) h))
      (muted told p.prio [] mute_none h)
  one_handled told arts at p (EpochPiece o) none holding new h = absurd none

  -- ---- what says of a start

  came_muted : (told : List ℕ) (lives : List Life) (p : PrioState) (es : List Effect) → Mute es → AreOnce told → PrioEnds s d boot told lives p
      → PrioCame C s d boot S told lives p es
  came_muted told lives p es mute once ends =
      let none : told ++ prio_numbers s es ≡ told = ap (λ (ms : List Message). told ++ map (λ (m : Message). m.0) ms) (mute.none s) ∙ append-nil told in
      record {
        ends = subst (λ t. PrioEnds s d boot t lives p) (sym none) ends;
        once = subst AreOnce (sym none) once;
        sent = λ k. subst (All (Contains S)) (sym (mute.none s)) (All-nil (Contains S));
      }

  -- where nothing else is known of it
  pub came_same : (told : List ℕ) (lives : List Life) (p : PrioState) (es : List Effect) → held_boot lives s ≡ boot → PrioDone C s d S told p es
      → PrioCame C s d boot S told lives p es
  came_same told lives p es holding done = record { ends = Same_life holding done.at; once = done.at.once; sent = done.sent }

  start_came : (told : List ℕ) (arts : Arts) (at : Arrival) (p : Parts) (o : Kept) → held_boot p.lives s ≡ boot → PrioIs s d told p.prio
      → PrioCame C s d boot S told (handle arts at p (EpochPiece o)).parts.lives (handle arts at p (EpochPiece o)).parts.prio
      (handle arts at p (EpochPiece o)).effects
  start_came told arts at p o holding h =
      elim (cases_Bool (is_new (items.Epoch (epoch_answer (is_signed arts at.fixed o) (judge_epoch at.fixed.me p.lives o.body))))) [
        | inl t ↦
            let v = origin_said o.body in
            let after = start_follows arts at p o t in
            let ends : PrioEnds s d boot told (met p o).lives (met p o).prio = elim (cases_eq s.0 v.0) [
              | inl same ↦
                  let is : v ≡ s = sym (same_node s v same) in
                  let above : boot < held_boot (met p o).lives s =
                  subst (λ (w : NodeId). held_boot p.lives w ≡ boot → boot < held_boot (met p o).lives w) is
                  (λ was. let up = after.above in let now = after.held in omega (arith, was, up, now)) holding in
                  Next_life above (begun s d v told p.prio h)
              | inr other ↦ Same_life (after.others s other ∙ holding) (other_begun s d v told p.prio (λ same. other (sym same)) h)
            ] in
            let done = came_muted told (met p o).lives (met p o).prio (met_effects p v) (mute_met p v) h.once ends in
            rw t done
        | inr t ↦ let done = came_muted told p.lives p.prio [] mute_none h.once (Same_life holding h) in rw t done
      ]

  plain_came : (told : List ℕ) (arts : Arts) (at : Arrival) (p : Parts) (piece : Piece) → NoStart piece → held_boot p.lives s ≡ boot
      → NewKeep (VouchedPrio C s d boot S) (handle arts at p piece).answered → PrioIs s d told p.prio
      → PrioCame C s d boot S told (handle arts at p piece).parts.lives (handle arts at p piece).parts.prio (handle arts at p piece).effects
  plain_came told arts at p piece none holding new h =
      came_same told (handle arts at p piece).parts.lives (handle arts at p piece).parts.prio (handle arts at p piece).effects
      (ap (λ (lives : List Life). held_boot lives s) (same_lives arts at p piece none) ∙ holding) (one_handled told arts at p piece none holding new h)

  any_came : (told : List ℕ) (arts : Arts) (at : Arrival) (p : Parts) (piece : Piece) → held_boot p.lives s ≡ boot
      → NewKeep (VouchedPrio C s d boot S) (handle arts at p piece).answered → PrioIs s d told p.prio
      → PrioCame C s d boot S told (handle arts at p piece).parts.lives (handle arts at p piece).parts.prio (handle arts at p piece).effects
  any_came told arts at p (EpochPiece o) holding new h = start_came told arts at p o holding h
  any_came told arts at p (WeightPiece o) holding new h = plain_came told arts at p (WeightPiece o) tt holding new h
  any_came told arts at p (PrioAckPiece number) holding new h = plain_came told arts at p (PrioAckPiece number) tt holding new h
  any_came told arts at p (PrioPiece number o) holding new h = plain_came told arts at p (PrioPiece number o) tt holding new h
  any_came told arts at p (ReportPiece kind flow sboot dboot base have) holding new h =
      plain_came told arts at p (ReportPiece kind flow sboot dboot base have) tt holding new h
  any_came told arts at p (AckPiece kind flow o) holding new h = plain_came told arts at p (AckPiece kind flow o) tt holding new h
  any_came told arts at p (RelPiece kind flow o) holding new h = plain_came told arts at p (RelPiece kind flow o) tt holding new h

  -- ---- all pieces

  abbrev Came : List ℕ → Parts → List Effect → Type 0
  Came told p es = PrioCame C s d boot S told p.lives p.prio es

  pub all_came : (told : List ℕ) (arts : Arts) (at : Arrival) (p : Parts) (pieces : List Piece) → StartLast pieces → held_boot p.lives s ≡ boot
      → NewKeep (VouchedPrio C s d boot S) (handle_all arts at p pieces).answered → PrioIs s d told p.prio
      → PrioCame C s d boot S told (handle_all arts at p pieces).parts.lives (handle_all arts at p pieces).parts.prio (handle_all arts at p pieces).effects
  all_came told arts at p [] last holding new h = came_muted told p.lives p.prio [] mute_none h.once (Same_life holding h)
  all_came told arts at p (piece ∷ pieces) (inr none) holding new h =
      let first = handle arts at p piece in
      let one = any_came told arts at p piece holding
      (new_left (VouchedPrio C s d boot S) first.answered (handle_all arts at first.parts pieces).answered new) h in
      let alone : Came told first.parts (first.effects ++ []) = subst (Came told first.parts) (sym (append-nil first.effects)) one in
      subst (λ ps. Came told (handle_all arts at first.parts ps).parts (first.effects ++ (handle_all arts at first.parts ps).effects)) (sym none) alone
  all_came told arts at p (piece ∷ pieces) (inl (none, last)) holding new h =
      let first = handle arts at p piece in
      let others = handle_all arts at first.parts pieces in
      let one = one_handled told arts at p piece none holding (new_left (VouchedPrio C s d boot S) first.answered others.answered new) h in
      let rest = all_came (told ++ prio_numbers s first.effects) arts at first.parts pieces last
      (ap (λ (lives : List Life). held_boot lives s) (same_lives arts at p piece none) ∙ holding)
      (new_right (VouchedPrio C s d boot S) first.answered others.answered new) one.at in
      let both : told ++ prio_numbers s (first.effects ++ others.effects) ≡ (told ++ prio_numbers s first.effects) ++ prio_numbers s others.effects =
      ap (λ (ms : List Message). told ++ map (λ (m : Message). m.0) ms) (flat_map-append (prio_by s) first.effects others.effects)
      ∙ ap (λ t. told ++ t) (map-append (λ (m : Message). m.0) (flat_map (prio_by s) first.effects) (flat_map (prio_by s) others.effects))
      ∙ sym (append_assoc told (prio_numbers s first.effects) (prio_numbers s others.effects)) in
      record {
        ends = subst (λ t. PrioEnds s d boot t others.parts.lives others.parts.prio) (sym both) rest.ends;
        once = subst AreOnce (sym both) rest.once;
        sent = λ k. subst (All (Contains S)) (sym (flat_map-append (prio_by s) first.effects others.effects))
            (All-append (Contains S) (flat_map (prio_by s) first.effects) (flat_map (prio_by s) others.effects) (one.sent k) (rest.sent k));
      }
