-- What each piece of a frame but an Epoch object keeps of a flow between its ends, under the boots that the node holds of them.
use Rattle.std.proofs.Common.{◌≡◌, ◌≤◌, ℕ, ◌+◌, true, false, cond, List, [], ◌∷◌, ◌++◌, length, Some, refl, sym, ap, subst, ◌∙◌, inl, inr, arith, ap₂}
use Rattle.std.specs.Prelude.{◌==◌}
use Rattle.std.specs.List.{flat_map}
use Rattle.std.proofs.lemmas.Bool.{cases_Bool, eq-eqb, eqb-true, ne_eqb}
use Rattle.std.proofs.lemmas.List.{append-nil, length-append}
use Rattle.std.proofs.lemmas.List.Concat.{flat_map-append}
use Rattle.sp_base.specs.Lists.{IsPrefix}
use Rattle.sp_base.specs.declared.id.Flow.{Flow}
use Rattle.sp_base.specs.declared.id.NodeId.{NodeId}
use Rattle.sp_msg.specs.Bodies.{payload_of}
use Rattle.sp_msg.specs.declared.body.Body.{Body}
use Rattle.sp_msg.specs.declared.effect.Effect.{Effect}
use Rattle.sp_msg.specs.declared.kept.Kept.{Kept}
use Rattle.sp_rules.proofs.FlowJudged.{found_ends}
use Rattle.sp_rules.specs.Answers.{ack_answer, is_new, prio_answer, rel_answer, weight_answer}
use Rattle.sp_rules.specs.Arts.{Arts}
use Rattle.sp_rules.specs.Flow.{acknowledged_by, boots_said, flow_said, number_said, pushed, received}
use Rattle.sp_rules.specs.Handle.{Arrival, ack_item, handle, heard_where, offer_to, rel_answer_to, rel_item, weight_effects}
use Rattle.sp_rules.specs.Kflow.{came_over}
use Rattle.sp_rules.specs.Lives.{are_held, held_boot, is_dated}
use Rattle.sp_rules.specs.Parts.{Parts, flows_of, is_signed, with_flows}
use Rattle.sp_rules.specs.Pieces.{Piece, WeightPiece, PrioAckPiece, PrioPiece, ReportPiece, AckPiece, RelPiece, EpochPiece}
use Rattle.sp_rules.specs.Prio.{admit_prio, judge_prio, prio_effects}
use Rattle.sp_rules.specs.Rel.{RelState, admit_ack, admit_rel, delivery, flow_in, is_to, judge_ack_of, judge_rel_of, rel_effects, reported, with_flow}
use Rattle.sp_rules.specs.Rel.{with_peer, told as told_peer, peer_in, is_over}
use Rattle.sp_rules.specs.Weights.{held}
use Rattle.sp_rules.specs.declared.kflow.FlowKind.{FlowKind}
use Rattle.sp_rules.specs.declared.lives.Life.{Life}
use Rattle.sp_rules.specs.declared.answers.Item.{Item}
use Rattle.sp_rules.specs.declared.answers.Item.TheVariants as items
use Rattle.sp_rules.specs.declared.answers.PrioAnswer.{PrioAnswer}
use Rattle.sp_rules.specs.declared.answers.PrioAnswer.TheVariants as prios
use Rattle.sp_rules.specs.declared.rel.AckJudged.TheVariants as acks
use Rattle.sp_rules.specs.declared.rel.RelJudged.TheVariants as rels
use Rattle.laws_node.specs.Asked.{NewKeep}
use Rattle.laws_node.specs.Flows.{IsAckOf, IsRelOf}
use Rattle.laws_node.specs.Sizes.{Sizes}
use Rattle.laws_node.proofs.FlowKinds.{ack_kind, is_ack_of, is_rel_of, rel_kind}
use Rattle.laws_node.proofs.Handles as judged
use Rattle.laws_node.proofs.Handles.{PieceFits}
use Rattle.sp_frame.specs.Objects.{is_of}
use Rattle.laws_node.proofs.Tables.{cond_either}
use Rattle.sp_runs.specs.Told.{Message, delivered_by}
use Rattle.laws_runs.specs.Flows.{IsIn}
use Rattle.laws_runs.proofs.FlowFacts.{FlowAt, RelIs, cases_flow, delivered_next, flow_acked, flow_of, flow_received, flow_took, prefix_length, same_rows_is}
use Rattle.laws_runs.proofs.FlowFacts.{with_flow_is, live, seated}
use Rattle.laws_runs.proofs.KindFacts.{GotRel, cases_kind, delivered_apart, delivered_is, flows_apart, flows_own, flows_same, got_ack, got_rel}
use Rattle.laws_runs.proofs.NoStarts.{NoStart}
use Rattle.laws_runs.proofs.Quiet.{Quiet, quiet_acked, quiet_none, quiet_prio, quiet_weight}
use Rattle.laws_runs.proofs.Tables.{same_node}

-- ---- what the effects at u say was delivered at d of what s sent

abbrev pub told_here : FlowKind → NodeId → NodeId → NodeId → List Effect → List Message
told_here kind u s d es = cond (u.0 == d.0) (flat_map (delivered_by kind s) es) []

-- what delivers nothing tells nothing
told_none : (kind : FlowKind) (u s d : NodeId) (es : List Effect) → flat_map (delivered_by kind s) es ≡ [] → told_here kind u s d es ≡ []
told_none kind u s d es none = elim (cases_Bool (u.0 == d.0)) [ inl t ↦ rw t none | inr t ↦ rw t refl ]

pub told_quiet : (kind : FlowKind) (u s d : NodeId) (es : List Effect) → Quiet es → told_here kind u s d es ≡ []
told_quiet kind u s d es h = told_none kind u s d es (h.no_delivery kind s)

pub told_both : (kind : FlowKind) (u s d : NodeId) (xs ys : List Effect) → told_here kind u s d (xs ++ ys) ≡ told_here kind u s d xs ++ told_here kind u s d ys
told_both kind u s d xs ys = elim (cases_Bool (u.0 == d.0)) [
  | inl t ↦ rw t (flat_map-append (delivered_by kind s) xs ys)
  | inr t ↦ rw t refl
]

-- ---- what is kept over pieces

pub record Handles (kind : FlowKind) (C : Type 0) (s d : NodeId) (S D : List Message) (c : ℕ) (u : NodeId) (r : RelState) (es : List Effect) : Type 0 where
  pub rel : RelIs C s d S (D ++ told_here kind u s d es) c u r
  pub prefix : C → IsPrefix (D ++ told_here kind u s d es) S
  pub low : c ≤ length (D ++ told_here kind u s d es)

-- a new object of these boots says of the flow what was sent and acknowledged under them
pub record Vouched (kind : FlowKind) (C : Type 0) (s d : NodeId) (a b : ℕ) (S : List Message) (c : ℕ) (o : Kept) : Type 0 where
  pub message : C → IsRelOf kind o.body → flow_said o.body ≡ flow_of s d → boots_said o.body ≡ (a, b) → IsIn S (number_said o.body) (payload_of o.body)
  pub ack : IsAckOf kind (flow_of s d) o.body → boots_said o.body ≡ (a, b) → number_said o.body ≤ c

-- these are the boots that are held of both ends
pub record Holding (s d : NodeId) (a b : ℕ) (lives : List Life) : Type 0 where
  pub src : held_boot lives s ≡ a
  pub dst : held_boot lives d ≡ b

-- so they are those of what is dated of this flow
held_here : (s d : NodeId) (a b : ℕ) (lives : List Life) (flow : Flow) (boots : ℕ × ℕ) → Holding s d a b lives → flow ≡ flow_of s d
    → boots ≡ (held_boot lives flow.src, held_boot lives flow.dst) → boots ≡ (a, b)
held_here s d a b lives flow boots holding e is =
    is ∙ ap₂ (λ (x y : ℕ). (x, y)) (ap (λ (f : Flow). held_boot lives f.src) e ∙ holding.src) (ap (λ (f : Flow). held_boot lives f.dst) e ∙ holding.dst)

module _ (kind : FlowKind) (C : Type 0) (s d : NodeId) (bs bd : ℕ) (S : List Message) (c : ℕ) (u : NodeId) (different : s ≡ d → ⊥) where
  -- what tells nothing of the flow, and leaves its rows
  unheard : (D : List Message) (r r2 : RelState) (es : List Effect) → told_here kind u s d es ≡ [] → r2.me ≡ r.me → r2.flows ≡ r.flows
      → r2.removed ≡ r.removed → RelIs C s d S D c u r → (C → IsPrefix D S) → c ≤ length D → Handles kind C s d S D c u r2 es
  unheard D r r2 es told e f g h prefix low =
      let none : D ++ told_here kind u s d es ≡ D = ap (λ t. D ++ t) told ∙ append-nil D in
      record {
        rel = subst (λ X. RelIs C s d S X c u r2) (sym none) (same_rows_is C s d S D c u r r2 e f g h);
        prefix = subst (λ X. C → IsPrefix X S) (sym none) prefix;
        low = subst (λ (X : List Message). c ≤ length X) (sym none) low;
      }

  -- what leaves the flows of this kind
  beside : (D : List Message) (p q : Parts) (es : List Effect) → told_here kind u s d es ≡ [] → flows_of kind q ≡ flows_of kind p
      → RelIs C s d S D c u (flows_of kind p) → (C → IsPrefix D S) → c ≤ length D → Handles kind C s d S D c u (flows_of kind q) es
  beside D p q es told same h prefix low =
      unheard D (flows_of kind p) (flows_of kind q) es told (ap (λ (r : RelState). r.me) same) (ap (λ (r : RelState). r.flows) same)
      (ap (λ (r : RelState). r.removed) same) h prefix low

  still : (D : List Message) (p q : Parts) (es : List Effect) → Quiet es → q.rel ≡ p.rel → q.kflow ≡ p.kflow → RelIs C s d S D c u (flows_of kind p)
      → (C → IsPrefix D S) → c ≤ length D → Handles kind C s d S D c u (flows_of kind q) es
  still D p q es quiet plain paths h prefix low = beside D p q es (told_quiet kind u s d es quiet) (flows_same kind p q plain paths) h prefix low

  chosen : (D : List Message) (answer : Item) (new old : Parts) (es : List Effect)
      → (is_new answer ≡ true → Handles kind C s d S D c u (flows_of kind new) es) → Handles kind C s d S D c u (flows_of kind old) []
      → Handles kind C s d S D c u (flows_of kind (cond (is_new answer) new old)) (cond (is_new answer) es [])
  chosen D answer new old es here else_ = elim (cases_Bool (is_new answer)) [
    | inl t ↦ rw t (here t)
    | inr t ↦ rw t else_
  ]

  -- ---- an acknowledgement

  ack_taken : (D : List Message) (lives : List Life) (r : RelState) (flow : Flow) (o : Kept) → Holding s d bs bd lives → is_dated lives o.body ≡ true
      → is_of (ack_kind kind) o.body ≡ true → judge_ack_of r flow o.body ≡ acks.New → Vouched kind C s d bs bd S c o → RelIs C s d S D c u r
      → (C → IsPrefix D S) → c ≤ length D → Handles kind C s d S D c u (admit_ack r o) []
  ack_taken D lives r flow o holding dated is new vouched h prefix low =
      let got = got_ack r flow o.body new in
      let said = flow_said o.body in
      let f = flow_in r.flows said in
      let few : C → c ≤ length S = λ k. let p = prefix_length S D (prefix k) in omega (arith, p, low) in
      let after = with_flow_is C s d S D S D c c u r said (acknowledged_by f o) (found_ends r.flows said) h
      (λ e.
      let free : is_over r.removed (flow_of s d) ≡ false = subst (λ fl. is_over r.removed fl ≡ false) e got.free in
      let here : FlowAt C s d S D c u f = subst (λ fl. FlowAt C s d S D c u (flow_in r.flows fl)) (sym e) (live C s d S D c u r free h) in
      let known = vouched.ack (is_ack_of kind (flow_of s d) o.body is e)
      (held_here s d bs bd lives said (boots_said o.body) holding e (got.boots lives dated)) in
      seated C s d S D c u r (acknowledged_by f o) free
      (flow_acked C s d S D c u f o (λ z. got.not_to (h.me ∙ z ∙ sym (ap (λ (x : Flow). x.dst) e))) known few
      (λ z. got.at_source (h.me ∙ z ∙ sym (ap (λ (x : Flow). x.src) e))) here))
      (λ never. h.flow) in
      let none : D ++ told_here kind u s d [] ≡ D = ap (λ t. D ++ t) (told_quiet kind u s d [] quiet_none) ∙ append-nil D in
      record {
        rel = subst (λ X. RelIs C s d S X c u (admit_ack r o)) (sym none) after;
        prefix = subst (λ X. C → IsPrefix X S) (sym none) prefix;
        low = subst (λ (X : List Message). c ≤ length X) (sym none) low;
      }

  -- ---- a message

  -- its delivery is told where it is of the flow
  told_mine : (body : Body) → IsRelOf kind body → flow_said body ≡ flow_of s d → u ≡ d
      → told_here kind u s d (delivery body ∷ []) ≡ (number_said body, payload_of body) ∷ []
  told_mine body is e z =
      let src : ((flow_said body).src.0 == s.0) ≡ true = eq-eqb _ _ (ap (λ (x : Flow). x.src.0) e) in
      let here : (u.0 == d.0) ≡ true = eq-eqb _ _ (ap (λ (v : NodeId). v.0) z) in
      rw here (append-nil (delivered_by kind s (delivery body)) ∙ delivered_is kind s body is ∙ rw src refl)

  told_other : (body : Body) → IsRelOf kind body → (flow_said body ≡ flow_of s d → ⊥) → u ≡ (flow_said body).dst
      → told_here kind u s d (delivery body ∷ []) ≡ []
  told_other body is never z = elim (cases_Bool (u.0 == d.0)) [
    | inl t ↦
        let dst : (flow_said body).dst ≡ d = sym z ∙ same_node u d (eqb-true _ _ t) in
        let src : ((flow_said body).src.0 == s.0) ≡ false =
        ne_eqb _ _ (λ e. never (ap (λ (v : NodeId). flow_of v (flow_said body).dst) (same_node (flow_said body).src s e) ∙ ap (flow_of s) dst)) in
        rw t (append-nil (delivered_by kind s (delivery body)) ∙ delivered_is kind s body is ∙ rw src refl)
    | inr t ↦ rw t refl
  ]

  delivered_here : (D : List Message) (lives : List Life) (r : RelState) (o : Kept) (got : GotRel r o.body) → Holding s d bs bd lives
      → is_dated lives o.body ≡ true → IsRelOf kind o.body → is_to r (flow_said o.body) ≡ true → Vouched kind C s d bs bd S c o → RelIs C s d S D c u r
      → (C → IsPrefix D S) → c ≤ length D
      → Handles kind C s d S D c u (with_flow r (flow_said o.body) (received (flow_in r.flows (flow_said o.body)) (payload_of o.body))) (delivery o.body ∷ [])
  delivered_here D lives r o got holding dated is to vouched h prefix low =
      let flow = flow_said o.body in
      let f = flow_in r.flows flow in
      let es = delivery o.body ∷ [] in
      let q = number_said o.body in
      let p = payload_of o.body in
      let r2 = with_flow r flow (received f p) in
      let at_dst : u ≡ flow.dst = sym h.me ∙ same_node r.me flow.dst (eqb-true _ _ to) in
      elim (cases_flow flow (flow_of s d)) [
        | inl e ↦
            let ud : u ≡ d = at_dst ∙ ap (λ (x : Flow). x.dst) e in
            let told : told_here kind u s d es ≡ (q, p) ∷ [] = told_mine o.body is e ud in
            let there : C → IsIn S q p =
            λ k. vouched.message k is e (held_here s d bs bd lives flow (boots_said o.body) holding e (got.boots lives dated)) in
            let free : is_over r.removed (flow_of s d) ≡ false = subst (λ fl. is_over r.removed fl ≡ false) e got.free in
            let mine : FlowAt C s d S D c u f = subst (λ fl. FlowAt C s d S D c u (flow_in r.flows fl)) (sym e) (live C s d S D c u r free h) in
            let not_s : d ≡ s → ⊥ = λ z. different (sym z) in
            let received_at : FlowAt C s d S (D ++ (q, p) ∷ []) c u (received f p) =
            subst (λ (v : NodeId). FlowAt C s d S (D ++ (q, p) ∷ []) c v (received f p)) (sym ud)
            (flow_received C s d S D c f q p not_s (λ k. subst (λ n. IsIn S n p) got.next (there k))
            (subst (λ (v : NodeId). FlowAt C s d S D c v f) ud mine)) in
            let after = with_flow_is C s d S D S (D ++ (q, p) ∷ []) c c u r flow (received f p) (found_ends r.flows flow) h
            (λ z. seated C s d S (D ++ (q, p) ∷ []) c u r (received f p) free received_at) (λ never. absurd (never e)) in
            let length_is : q ≡ length D + 1 = got.next ∙ ap (λ n. n + 1) (mine.have_end ud) in
            record {
              rel = subst (λ t. RelIs C s d S (D ++ t) c u r2) (sym told) after;
              prefix = subst (λ t. C → IsPrefix (D ++ t) S) (sym told) (λ k. delivered_next S D q p (prefix k) length_is (there k));
              low = subst (λ (t : List Message). c ≤ length (D ++ t)) (sym told) (omega (arith, low, length-append D ((q, p) ∷ [])));
            }
        | inr never ↦
            let none : D ++ told_here kind u s d es ≡ D = ap (λ t. D ++ t) (told_other o.body is never at_dst) ∙ append-nil D in
            let after = with_flow_is C s d S D S D c c u r flow (received f p) (found_ends r.flows flow) h (λ e. absurd (never e)) (λ z. h.flow) in
            record {
              rel = subst (λ X. RelIs C s d S X c u r2) (sym none) after;
              prefix = subst (λ X. C → IsPrefix X S) (sym none) prefix;
              low = subst (λ (X : List Message). c ≤ length X) (sym none) low;
            }
      ]

  kept_here : (D : List Message) (lives : List Life) (r : RelState) (o : Kept) (got : GotRel r o.body) → Holding s d bs bd lives
      → is_dated lives o.body ≡ true → IsRelOf kind o.body → is_to r (flow_said o.body) ≡ false → Vouched kind C s d bs bd S c o → RelIs C s d S D c u r
      → (C → IsPrefix D S) → c ≤ length D → Handles kind C s d S D c u (with_flow r (flow_said o.body) (pushed (flow_in r.flows (flow_said o.body)) o)) []
  kept_here D lives r o got holding dated is elsewhere vouched h prefix low =
      let flow = flow_said o.body in
      let f = flow_in r.flows flow in
      let r2 = with_flow r flow (pushed f o) in
      let p = payload_of o.body in
      let none : D ++ told_here kind u s d [] ≡ D = ap (λ t. D ++ t) (told_quiet kind u s d [] quiet_none) ∙ append-nil D in
      let after = with_flow_is C s d S D S D c c u r flow (pushed f o) (found_ends r.flows flow) h
      (λ e.
      let not_d : u ≡ d → ⊥ =
      λ z. absurd (let yes : is_to r flow ≡ true = eq-eqb _ _ (ap (λ (v : NodeId). v.0) (h.me ∙ z ∙ sym (ap (λ (x : Flow). x.dst) e))) in
      let g : true ≡ false = sym yes ∙ elsewhere in cc) in
      let there : C → IsIn S (number_said o.body) p =
      λ k. vouched.message k is e (held_here s d bs bd lives flow (boots_said o.body) holding e (got.boots lives dated)) in
      let free : is_over r.removed (flow_of s d) ≡ false = subst (λ fl. is_over r.removed fl ≡ false) e got.free in
      seated C s d S D c u r (pushed f o) free
      (flow_took C s d S D c u f o p (λ z. got.not_from (h.me ∙ z ∙ sym (ap (λ (x : Flow). x.src) e))) not_d (λ k. subst (λ q. IsIn S q p) got.next (there k))
      (subst (λ fl. FlowAt C s d S D c u (flow_in r.flows fl)) (sym e) (live C s d S D c u r free h))))
      (λ never. h.flow) in
      record {
        rel = subst (λ X. RelIs C s d S X c u r2) (sym none) after;
        prefix = subst (λ X. C → IsPrefix X S) (sym none) prefix;
        low = subst (λ (X : List Message). c ≤ length X) (sym none) low;
      }

  rel_taken : (D : List Message) (lives : List Life) (r : RelState) (flow : Flow) (o : Kept) → Holding s d bs bd lives → is_dated lives o.body ≡ true
      → is_of (rel_kind kind) o.body ≡ true → judge_rel_of r flow o.body ≡ rels.New → Vouched kind C s d bs bd S c o → RelIs C s d S D c u r
      → (C → IsPrefix D S) → c ≤ length D → Handles kind C s d S D c u (admit_rel r o) (rel_effects r o)
  rel_taken D lives r flow o holding dated is new vouched h prefix low =
      let got = got_rel r flow o.body new in
      let of_kind = is_rel_of kind o.body is in
      elim (cases_Bool (is_to r (flow_said o.body))) [
        | inl t ↦ let done = delivered_here D lives r o got holding dated of_kind t vouched h prefix low in rw t done
        | inr t ↦ let done = kept_here D lives r o got holding dated of_kind t vouched h prefix low in rw t done
      ]

  -- a message of the other kind tells nothing of this one
  other_told : (k : FlowKind) (r : RelState) (o : Kept) → (k ≡ kind → ⊥) → is_of (rel_kind k) o.body ≡ true → told_here kind u s d (rel_effects r o) ≡ []
  other_told k r o apart is = told_none kind u s d (rel_effects r o) (elim (cases_Bool (is_to r (flow_said o.body))) [
    | inl t ↦
        rw t (append-nil (delivered_by kind s (delivery o.body)) ∙ delivered_apart kind k s o.body (is_rel_of k o.body is) apart)
    | inr t ↦ rw t refl
  ])

  -- ---- a piece that isn't an Epoch object

  -- flows of this kind that were put there
  put : (D : List Message) (r : RelState) (p : Parts) (es : List Effect) → Handles kind C s d S D c u r es
      → Handles kind C s d S D c u (flows_of kind (with_flows kind r p)) es
  put D r p es done = subst (λ (x : RelState). Handles kind C s d S D c u x es) (sym (flows_own kind r p)) done

  -- a report changes no row
  reported_is : (D : List Message) (r : RelState) (v : NodeId) (flow : Flow) (base have : ℕ) → RelIs C s d S D c u r → (C → IsPrefix D S) → c ≤ length D
      → Handles kind C s d S D c u (reported r v flow base have) []
  reported_is D r v flow base have h prefix low =
      let same = unheard D r r [] (told_quiet kind u s d [] quiet_none) refl refl refl h prefix low in
      let told = unheard D r (with_peer r v (told_peer (peer_in r.peers v) flow base have)) [] (told_quiet kind u s d [] quiet_none) refl refl refl h prefix
      low in
      cond_either (λ (x : RelState). Handles kind C s d S D c u x []) (flow_in r.flows flow).active
      (with_peer r v (told_peer (peer_in r.peers v) flow base have)) r told same

  -- a piece of a slot of this kind
  mine_handled : (D : List Message) (arts : Arts) (at : Arrival) (p : Parts) (k : Sizes) (flow : Flow) (o : Kept) → Holding s d bs bd p.lives
      → is_of (ack_kind kind) o.body ≡ true → NewKeep (Vouched kind C s d bs bd S c) (handle arts at p (AckPiece kind flow o)).answered
      → RelIs C s d S D c u (flows_of kind p) → (C → IsPrefix D S) → c ≤ length D
      → Handles kind C s d S D c u (flows_of kind (handle arts at p (AckPiece kind flow o)).parts) (handle arts at p (AckPiece kind flow o)).effects
  mine_handled D arts at p k flow o holding is new h prefix low =
      let r = flows_of kind p in
      chosen D (ack_item kind (ack_answer (is_signed arts at.fixed o) (is_dated p.lives o.body) (judge_ack_of r flow o.body)))
      (with_flows kind (admit_ack r o) p) p []
      (λ t. let judged_new = judged.new_ack kind (is_signed arts at.fixed o) (is_dated p.lives o.body) (judge_ack_of r flow o.body) t in
      put D (admit_ack r o) p [] (ack_taken D p.lives r flow o holding judged_new.2 is judged_new.1 (new.0 t) h prefix low))
      (beside D p p [] (told_quiet kind u s d [] quiet_none) refl h prefix low)

  rel_handled : (D : List Message) (arts : Arts) (at : Arrival) (p : Parts) (flow : Flow) (o : Kept) → Holding s d bs bd p.lives
      → is_of (rel_kind kind) o.body ≡ true → NewKeep (Vouched kind C s d bs bd S c) (handle arts at p (RelPiece kind flow o)).answered
      → RelIs C s d S D c u (flows_of kind p) → (C → IsPrefix D S) → c ≤ length D
      → Handles kind C s d S D c u (flows_of kind (handle arts at p (RelPiece kind flow o)).parts) (handle arts at p (RelPiece kind flow o)).effects
  rel_handled D arts at p flow o holding is new h prefix low =
      let r = flows_of kind p in
      let over = came_over p.kflow at.from o.body in
      chosen D (rel_item kind (rel_answer (is_signed arts at.fixed o) (is_dated p.lives o.body) over (judge_rel_of r flow o.body)))
      (with_flows kind (admit_rel r o) p) p (rel_effects r o)
      (λ t. let judged_new = judged.new_rel kind (is_signed arts at.fixed o) (is_dated p.lives o.body) over (judge_rel_of r flow o.body) t in
      put D (admit_rel r o) p (rel_effects r o) (rel_taken D p.lives r flow o holding judged_new.2 is judged_new.1 (new.0 t) h prefix low))
      (beside D p p [] (told_quiet kind u s d [] quiet_none) refl h prefix low)

  pub one_handled : (D : List Message) (arts : Arts) (at : Arrival) (p : Parts) (piece : Piece) (k : Sizes) → PieceFits k piece → NoStart piece
      → Holding s d bs bd p.lives → NewKeep (Vouched kind C s d bs bd S c) (handle arts at p piece).answered
      → RelIs C s d S D c u (flows_of kind p) → (C → IsPrefix D S) → c ≤ length D
      → Handles kind C s d S D c u (flows_of kind (handle arts at p piece).parts) (handle arts at p piece).effects
  one_handled D arts at p (WeightPiece o) k fits none holding new h prefix low =
      chosen D (items.Weight (weight_answer (is_signed arts at.fixed o) (offer_to at.fixed.me p.weights o.body))) (record p { weights = held p.weights o }) p
      (weight_effects o.body)
      (λ t. still D p (record p { weights = held p.weights o }) (weight_effects o.body) (quiet_weight o.body) refl refl h prefix low)
      (still D p p [] quiet_none refl refl h prefix low)
  one_handled D arts at p (PrioAckPiece number) k fits none holding new h prefix low =
      still D p (handle arts at p (PrioAckPiece number)).parts _ (quiet_acked p.prio at.from.0 number) refl refl h prefix low
  one_handled D arts at p (PrioPiece number o) k fits none holding new h prefix low =
      let answer = prio_answer (is_signed arts at.fixed o) (is_dated p.lives o.body) (judge_prio p.prio o.body at.now) in
      let admitted = record p { prio = admit_prio p.prio o (Some at.from) } in
      let q = cond (is_new (items.Prio answer)) admitted p in
      let heard = heard_flows answer at.from number q in
      subst (λ r. Handles kind C s d S D c u r (cond (is_new (items.Prio answer)) (prio_effects p.prio o (Some at.from)) []))
      (sym (flows_same kind q (heard_where answer at.from number q) heard.0 heard.1))
      (chosen D (items.Prio answer) admitted p (prio_effects p.prio o (Some at.from))
      (λ t. still D p admitted _ (quiet_prio p.prio o (Some at.from)) refl refl h prefix low) (still D p p [] quiet_none refl refl h prefix low))
    where
      heard_flows : (answer : PrioAnswer) (v : NodeId) (number : ℕ) (p : Parts)
          → ((heard_where answer v number p).rel ≡ p.rel) × ((heard_where answer v number p).kflow ≡ p.kflow)
      heard_flows prios.New v number p = (refl, refl)
      heard_flows prios.Seen v number p = (refl, refl)
      heard_flows prios.BadEnd v number p = (refl, refl)
      heard_flows prios.Expired v number p = (refl, refl)
      heard_flows prios.BadSig v number p = (refl, refl)
      heard_flows prios.Epoch v number p = (refl, refl)
  one_handled D arts at p (ReportPiece k2 flow sboot dboot base have) k fits none holding new h prefix low =
      let r = reported (flows_of k2 p) at.from flow base have in
      let silent = told_quiet kind u s d [] quiet_none in
      let new_flows : Handles kind C s d S D c u (flows_of kind (with_flows k2 r p)) [] = elim (cases_kind k2 kind) [
        | inl same ↦
            subst (λ (x : FlowKind). Handles kind C s d S D c u (flows_of kind (with_flows x (reported (flows_of x p) at.from flow base have) p)) []) (sym same)
            (put D (reported (flows_of kind p) at.from flow base have) p [] (reported_is D (flows_of kind p) at.from flow base have h prefix low))
        | inr apart ↦ beside D p (with_flows k2 r p) [] silent (flows_apart kind k2 r p apart) h prefix low
      ] in
      cond_either (λ (q : Parts). Handles kind C s d S D c u (flows_of kind q) []) (are_held p.lives flow sboot dboot) (with_flows k2 r p) p
      new_flows (beside D p p [] silent refl h prefix low)
  one_handled D arts at p (AckPiece k2 flow o) k fits none holding new h prefix low = elim (cases_kind k2 kind) [
    | inl same ↦
        subst (λ (x : FlowKind). is_of (ack_kind x) o.body ≡ true → NewKeep (Vouched kind C s d bs bd S c) (handle arts at p (AckPiece x flow o)).answered
        → Handles kind C s d S D c u (flows_of kind (handle arts at p (AckPiece x flow o)).parts) (handle arts at p (AckPiece x flow o)).effects) (sym same)
        (λ is these. mine_handled D arts at p k flow o holding is these h prefix low) fits.1 new
    | inr apart ↦
        let r = flows_of k2 p in
        let silent = told_quiet kind u s d [] quiet_none in
        chosen D (ack_item k2 (ack_answer (is_signed arts at.fixed o) (is_dated p.lives o.body) (judge_ack_of r flow o.body)))
        (with_flows k2 (admit_ack r o) p) p []
        (λ t. beside D p (with_flows k2 (admit_ack r o) p) [] silent (flows_apart kind k2 (admit_ack r o) p apart) h prefix low)
        (beside D p p [] silent refl h prefix low)
  ]
  one_handled D arts at p (RelPiece k2 flow o) k fits none holding new h prefix low = elim (cases_kind k2 kind) [
    | inl same ↦
        subst (λ (x : FlowKind). is_of (rel_kind x) o.body ≡ true → NewKeep (Vouched kind C s d bs bd S c) (handle arts at p (RelPiece x flow o)).answered
        → Handles kind C s d S D c u (flows_of kind (handle arts at p (RelPiece x flow o)).parts) (handle arts at p (RelPiece x flow o)).effects) (sym same)
        (λ is these. rel_handled D arts at p flow o holding is these h prefix low) fits.1 new
    | inr apart ↦
        let r = flows_of k2 p in
        chosen D (rel_item k2 (rel_answer_to arts at p (judge_rel_of r flow o.body) o)) (with_flows k2 (admit_rel r o) p) p (rel_effects r o)
        (λ t. beside D p (with_flows k2 (admit_rel r o) p) (rel_effects r o) (other_told k2 r o apart fits.1)
        (flows_apart kind k2 (admit_rel r o) p apart) h prefix low)
        (beside D p p [] (told_quiet kind u s d [] quiet_none) refl h prefix low)
  ]
  one_handled D arts at p (EpochPiece o) k fits none holding new h prefix low = absurd none
