-- What the slot of the flow leaves at the node that it comes to: its acknowledgement is acknowledged there, and its first message is had, or waits for
-- room.
use Rattle.std.proofs.Common.{◌≡◌, ◌≤◌, ◌<◌, ℕ, ◌+◌, ◌-◌, ◌==◌, ◌&&◌, Bool, true, false, cond, min, List, length, refl, sym, ap, ◌∙◌, inl, inr, arith}
use Rattle.std.specs.Prelude.{not, nat_le, nat_lt, ◌||◌}
use Rattle.std.specs.List.{list_any}
use Rattle.std.proofs.lemmas.Bool.{cases_Bool, cases_lt, eqb-true, eq-eqb, ne_eqb}
use Rattle.std.proofs.lemmas.Bool.Decides.{nat_tests}
use Rattle.sp_base.specs.declared.id.Flow.{Flow}
use Rattle.sp_base.specs.declared.id.NodeId.{NodeId}
use Rattle.sp_msg.specs.Bodies.{payload_of}
use Rattle.sp_msg.specs.declared.body.Body.{Body}
use Rattle.sp_msg.specs.declared.body.Body.TheVariants as bodies
use Rattle.sp_msg.specs.declared.kept.Kept.{Kept}
use Rattle.sp_rules.proofs.FlowJudged.{found_ends}
use Rattle.sp_rules.specs.Answers.{ack_answer, is_new, rel_answer}
use Rattle.sp_rules.specs.Arts.{Arts}
use Rattle.sp_rules.specs.Flow.{FlowState, IsMessage, acknowledged_by, ends, flow_said, is_flow, is_full, no_flow, number_said, pushed, received}
use Rattle.sp_rules.specs.Lives.{is_dated}
use Rattle.sp_rules.specs.Parts.{Fixed, is_signed}
use Rattle.sp_rules.specs.Rel.{RelState, admit_ack, admit_rel, are_ends, flow_in, is_from, is_node, is_one_of, is_over, is_to, judge_ack_of, judge_rel}
use Rattle.sp_rules.specs.Rel.{judge_rel_of, with_flow}
use Rattle.sp_rules.specs.declared.answers.Item.TheVariants as items
use Rattle.sp_rules.specs.declared.lives.Life.{Life}
use Rattle.sp_rules.specs.declared.rel.AckJudged.TheVariants as acks
use Rattle.sp_rules.specs.declared.rel.RelJudged.TheVariants as rels
use Rattle.sp_rules.specs.declared.kflow.FlowKind.TheVariants.{Plain}
use Rattle.laws_node.specs.Flows.{IsAckOf}
use Rattle.laws_node.proofs.Tables.{cond_either}
use Rattle.laws_runs.proofs.FlowFacts.{first_replaced, is_its}
use Rattle.laws_runs.proofs.Acks.{RelAck, flow_ack}
use Rattle.laws_progress.proofs.Rises.{RelLater, admit_ack_later, admit_rel_later, rel_same}
use Rattle.laws_progress.proofs.Slots.{after_ack, after_rel}
use Rattle.sp_rules.specs.declared.kflow.FlowKind.{FlowKind}
use Rattle.sp_rules.specs.declared.kflow.FlowKind.TheVariants.{Paths}
use Rattle.sp_msg.specs.declared.body.Ack.{Ack}
use Rattle.sp_rules.specs.Rel.{judge_ack, plain_ack}

pub record Ready (nodes : List NodeId) (bound : ℕ) (v : NodeId) (flow : Flow) (r : RelState) : Type 0 where
  pub me : r.me ≡ v
  pub nodes_are : r.nodes ≡ nodes
  pub bound_is : r.bound ≡ bound
  pub row : list_any (is_flow flow) r.flows ≡ true
  pub acks : RelAck r
  -- neither of its ends is removed
  pub goes_on : is_over r.removed flow ≡ false

-- the ends of the flow are two nodes
pub record AreNodes (nodes : List NodeId) (flow : Flow) : Type 0 where
  pub src : list_any (λ x. x.0 == flow.src.0) nodes ≡ true
  pub dst : list_any (λ x. x.0 == flow.dst.0) nodes ≡ true
  pub different : (flow.src.0 == flow.dst.0) ≡ false

are_its_ends : (nodes : List NodeId) (bound : ℕ) (v : NodeId) (flow : Flow) (r : RelState) → Ready nodes bound v flow r → AreNodes nodes flow
    → are_ends r flow flow.src flow.dst ≡ true
are_its_ends nodes bound v flow r ready are =
    let a : (flow.src.0 == flow.src.0) ≡ true = eq-eqb _ _ refl in
    let b : (flow.dst.0 == flow.dst.0) ≡ true = eq-eqb _ _ refl in
    let stay = neither (is_one_of r.removed flow.src) (is_one_of r.removed flow.dst) ready.goes_on in
    let s : is_node r flow.src ≡ true =
    there_still _ _ (ap (list_any (λ x. x.0 == flow.src.0)) ready.nodes_are ∙ are.src) stay.0 in
    let d : is_node r flow.dst ≡ true =
    there_still _ _ (ap (list_any (λ x. x.0 == flow.dst.0)) ready.nodes_are ∙ are.dst) stay.1 in
    all_five _ _ _ _ _ a b (ap not are.different) s d
  where
    neither : (a b : Bool) → (a || b) ≡ false → (a ≡ false) × (b ≡ false)
    neither true b e = absurd (let f : true ≡ false = e in cc)
    neither false b e = (refl, e)

    there_still : (a b : Bool) → a ≡ true → b ≡ false → (a && not b) ≡ true
    there_still a b one two = rw (one, two) refl

    all_five : (a b c d e : Bool) → a ≡ true → b ≡ true → c ≡ true → d ≡ true → e ≡ true → (a && b && c && d && e) ≡ true
    all_five true true true true true p q s t z = refl
    all_five false b c d e p q s t z = absurd (let f : false ≡ true = p in cc)
    all_five true false c d e p q s t z = absurd (let f : false ≡ true = q in cc)
    all_five true true false d e p q s t z = absurd (let f : false ≡ true = s in cc)
    all_five true true true false e p q s t z = absurd (let f : false ≡ true = t in cc)
    all_five true true true true false p q s t z = absurd (let f : false ≡ true = z in cc)

-- ---- an acknowledgement

judged_ack : (e t u v : Bool) → e ≡ true → t ≡ false → u ≡ false → v ≡ false
    → cond (not e) acks.BadEnd (cond t acks.Old (cond u acks.Ahead (cond v acks.Ahead acks.New))) ≡ acks.New
judged_ack e t u v a b c d = rw (a, b, c, d) refl

both_false : (a b : Bool) → (a ≡ true → b ≡ false) → (a && b) ≡ false
both_false true b h = h refl
both_false false b h = refl

none_true : (a : Bool) → (a ≡ true → ⊥) → a ≡ false
none_true true h = absurd (h refl)
none_true false h = refl

put_base : (r : RelState) (flow : Flow) (g : FlowState) → list_any (is_flow flow) r.flows ≡ true → ends g ≡ flow → flow_in (with_flow r flow g).flows flow ≡ g
put_base r flow g row is = first_replaced (is_flow flow) (no_flow flow) g r.flows (is_its g flow is) row

pub ack_later : (arts : Arts) (f : Fixed) (ls : List Life) (r : RelState) (flow : Flow) (o : Kept) → RelLater r (after_ack arts f ls r flow o)
ack_later arts f ls r flow o =
    cond_either (RelLater r) (is_new (items.Ack (ack_answer (is_signed arts f o) (is_dated ls o.body) (judge_ack_of r flow o.body)))) (admit_ack r o) r
    (admit_ack_later r o) (rel_same r)

pub rel_later : (arts : Arts) (f : Fixed) (ls : List Life) (over : Body → Bool) (r : RelState) (flow : Flow) (o : Kept)
    → RelLater r (after_rel arts f ls over r flow o)
rel_later arts f ls over r flow o =
    cond_either (RelLater r) (is_new (items.Rel (rel_answer (is_signed arts f o) (is_dated ls o.body) (over o.body) (judge_rel_of r flow o.body))))
    (admit_rel r o) r (admit_rel_later r o) (rel_same r)

pub ack_heard : (kind : FlowKind) (arts : Arts) (fx : Fixed) (ls : List Life) (nodes : List NodeId) (bound : ℕ) (v : NodeId) (flow : Flow) (r : RelState)
    (o : Kept) (q : ℕ)
    → Ready nodes bound v flow r → AreNodes nodes flow → IsAckOf kind flow o.body → number_said o.body ≡ q
    → is_signed arts fx o ≡ true → is_dated ls o.body ≡ true → (is_from r flow ≡ true → q ≤ (flow_in r.flows flow).at.have)
    → (is_to r flow ≡ true → q ≤ (flow_in r.flows flow).at.base)
    → q ≤ (flow_in (after_ack arts fx ls r flow o).flows flow).at.base
ack_heard kind arts fx ls nodes bound v flow r o q ready are is_ack number signed dated at_source at_end = elim (cases_lt (flow_in r.flows flow).at.base q) [
  | inr old ↦ let up = (ack_later arts fx ls r flow o flow).base in omega (arith, old, up)
  | inl above ↦
      let f = flow_in r.flows flow in
      let new = go kind o.body refl is_ack number above in
      let is : after_ack arts fx ls r flow o ≡ admit_ack r o =
      ap (λ j. cond (is_new (items.Ack (ack_answer (is_signed arts fx o) (is_dated ls o.body) j))) (admit_ack r o) r) new.0
      ∙ ap (λ t. cond (is_new (items.Ack (ack_answer t (is_dated ls o.body) acks.New))) (admit_ack r o) r) signed
      ∙ ap (λ t. cond (is_new (items.Ack (ack_answer true t acks.New))) (admit_ack r o) r) dated in
      let put : admit_ack r o ≡ with_flow r flow (acknowledged_by f o) = ap (λ fl. with_flow r fl (acknowledged_by (flow_in r.flows fl) o)) new.1 in
      let at : flow_in (after_ack arts fx ls r flow o).flows flow ≡ acknowledged_by f o =
      ap (λ (z : RelState). flow_in z.flows flow) (is ∙ put) ∙ put_base r flow (acknowledged_by f o) ready.row (found_ends r.flows flow) in
      let base = ap (λ (g : FlowState). g.at.base) at in
      omega (arith, base, number)
]
  where
    of_ends : (a : Ack) → (a.src ≡ flow.src) × (a.dst ≡ flow.dst) → a.seq ≡ q → (flow_in r.flows flow).at.base < q
        → (judge_ack r flow a ≡ acks.New) × (record { src = a.src; dst = a.dst } ≡ flow)
    of_ends a its number above =
        let end : are_ends r flow a.src a.dst ≡ true =
        ap (λ s. are_ends r flow s a.dst) its.0 ∙ ap (are_ends r flow flow.src) its.1 ∙ are_its_ends nodes bound v flow r ready are in
        let high : nat_le a.seq (flow_in r.flows flow).at.base ≡ false = grind (arith, nat_tests) in
        let sent : (is_from r flow && nat_lt (flow_in r.flows flow).at.have a.seq) ≡ false =
        both_false _ _ (λ t. let low = at_source t in grind (arith, nat_tests)) in
        let away : is_to r flow ≡ false = none_true (is_to r flow) (λ t. let low = at_end t in omega (arith, low, above)) in (
          judged_ack (are_ends r flow a.src a.dst) (nat_le a.seq (flow_in r.flows flow).at.base) (is_from r flow && nat_lt (flow_in r.flows flow).at.have a.seq)
              (is_to r flow) end high sent away,
          ap (λ s. let g : Flow = record { src = s; dst = a.dst } in g) its.0 ∙ ap (λ d. let g : Flow = record { src = flow.src; dst = d } in g) its.1,
        )

    go : (k : FlowKind) (body : Body) → o.body ≡ body → IsAckOf k flow body → number_said body ≡ q → (flow_in r.flows flow).at.base < q
        → (judge_ack_of r flow body ≡ acks.New) × (flow_said body ≡ flow)
    go Plain (bodies.Ack a) e its number above = of_ends a its number above
    go Paths (bodies.Kack a) e its number above = of_ends (plain_ack a) its number above
    go Plain (bodies.Rel a) e its number above = absurd its
    go Plain (bodies.Prio a) e its number above = absurd its
    go Plain (bodies.Weight a) e its number above = absurd its
    go Plain (bodies.Krel a) e its number above = absurd its
    go Plain (bodies.Epoch a) e its number above = absurd its
    go Plain (bodies.Kack a) e its number above = absurd its
    go Paths (bodies.Rel a) e its number above = absurd its
    go Paths (bodies.Prio a) e its number above = absurd its
    go Paths (bodies.Weight a) e its number above = absurd its
    go Paths (bodies.Krel a) e its number above = absurd its
    go Paths (bodies.Epoch a) e its number above = absurd its
    go Paths (bodies.Ack a) e its number above = absurd its

-- ---- a message

judged_rel : (e t u v w z : Bool) → e ≡ true → t ≡ false → u ≡ false → v ≡ false → w ≡ false → z ≡ false
    → cond (not e) rels.BadEnd (cond t rels.Old (cond u rels.Ahead (cond v rels.Gap (cond w rels.Full (cond z rels.InboxFull rels.New))))) ≡ rels.New
judged_rel e t u v w z a b c d f g = rw (a, b, c, d, f, g) refl

pub rel_heard : (arts : Arts) (fx : Fixed) (ls : List Life) (over : Body → Bool) (nodes : List NodeId) (bound : ℕ) (v : NodeId) (flow : Flow) (r : RelState)
    (o : Kept) (q : ℕ) → Ready nodes bound v flow r → AreNodes nodes flow → IsMessage flow q o.body
    → is_signed arts fx o ≡ true → is_dated ls o.body ≡ true → over o.body ≡ true
    → q ≤ (flow_in r.flows flow).at.have + 1 → q ≤ (flow_in r.flows flow).at.base + bound
    → (is_from r flow ≡ true → q ≤ (flow_in r.flows flow).at.have)
    → (is_to r flow ≡ false → q ≤ (flow_in (after_rel arts fx ls over r flow o).flows flow).at.have)
    × (is_to r flow ≡ true
    → min q ((flow_in r.flows flow).at.have - length (flow_in r.flows flow).inbox + bound) ≤ (flow_in (after_rel arts fx ls over r flow o).flows flow).at.have)
rel_heard arts fx ls over nodes bound v flow r o q ready are message signed dated goes near window at_source =
    elim (cases_lt (flow_in r.flows flow).at.have q) [
      | inr old ↦ let up = (rel_later arts fx ls over r flow o flow).have in (λ z. omega (arith, old, up), λ z. omega (arith, old, up))
      | inl above ↦
          let f = flow_in r.flows flow in
          let a = flow_ack r flow ready.acks in
          let sound = a.sound in
          let few = a.inbox (ap (is_over r.removed) (found_ends r.flows flow) ∙ ready.goes_on) in
          let bound_is = ready.bound_is in
          let up = (rel_later arts fx ls over r flow o flow).have in (
            λ inner. let new =
                go o.body refl message above
                (both_false (is_to r flow) (length f.inbox == r.bound) (λ t. absurd (let g : true ≡ false = sym t ∙ inner in cc))) in
                taken new above,
            λ end. elim (cases_Bool (length f.inbox == r.bound)) [
              | inl full ↦ let same = eqb-true _ _ full in omega (arith, same, bound_is, few, up)
              | inr space ↦ let new = go o.body refl message above (both_false (is_to r flow) (length f.inbox == r.bound) (λ t. space)) in let it =
                  taken new above in omega (arith, it)
            ],
          )
    ]
  where
    of_ends : (src dst : NodeId) (seq : ℕ) → (src ≡ flow.src) × (dst ≡ flow.dst) × (seq ≡ q) → (flow_in r.flows flow).at.have < q
        → (is_to r flow && (length (flow_in r.flows flow).inbox == r.bound)) ≡ false
        → (judge_rel r flow src dst seq ≡ rels.New) × (record { src = src; dst = dst } ≡ flow)
    of_ends src dst seq message above space =
        let f = flow_in r.flows flow in
        let number = message.2 in
        let bound_is = ready.bound_is in
        let end : are_ends r flow src dst ≡ true =
        ap (λ s. are_ends r flow s dst) message.0 ∙ ap (are_ends r flow flow.src) message.1 ∙ are_its_ends nodes bound v flow r ready are in
        let high : nat_le seq f.at.have ≡ false = grind (arith, nat_tests) in
        let away : is_from r flow ≡ false = none_true (is_from r flow) (λ t. let low = at_source t in omega (arith, low, above)) in
        let next : nat_lt (f.at.have + 1) seq ≡ false = grind (arith, nat_tests) in
        let sound = (flow_ack r flow ready.acks).sound in
        let room : is_full r.bound f ≡ false = ne_eqb _ _ (λ z. omega (arith, z, bound_is, window, above, sound)) in (
          judged_rel (are_ends r flow src dst) (nat_le seq f.at.have) (is_from r flow) (nat_lt (f.at.have + 1) seq) (is_full r.bound f)
              (is_to r flow && (length f.inbox == r.bound)) end high away next room space,
          ap (λ s. let g : Flow = record { src = s; dst = dst } in g) message.0 ∙ ap (λ d. let g : Flow = record { src = flow.src; dst = d } in g) message.1,
        )

    go : (body : Body) → o.body ≡ body → IsMessage flow q body → (flow_in r.flows flow).at.have < q
        → (is_to r flow && (length (flow_in r.flows flow).inbox == r.bound)) ≡ false
        → (judge_rel_of r flow body ≡ rels.New) × (flow_said body ≡ flow)
    go (bodies.Rel m) e message above space = of_ends m.src m.dst m.seq message above space
    go (bodies.Krel m) e message above space = of_ends m.src m.dst m.seq message above space
    go (bodies.Ack m) e message above space = absurd message
    go (bodies.Prio m) e message above space = absurd message
    go (bodies.Weight m) e message above space = absurd message
    go (bodies.Kack m) e message above space = absurd message
    go (bodies.Epoch m) e message above space = absurd message

    either_have : (t : Bool) (f : FlowState) (p : List ℕ) → (cond t (received f p) (pushed f o)).at.have ≡ f.at.have + 1
    either_have true f p = refl
    either_have false f p = refl

    either_ends : (t : Bool) (f : FlowState) (p : List ℕ) → ends (cond t (received f p) (pushed f o)) ≡ ends f
    either_ends true f p = refl
    either_ends false f p = refl

    taken : (judge_rel_of r flow o.body ≡ rels.New) × (flow_said o.body ≡ flow) → (flow_in r.flows flow).at.have < q
        → q ≤ (flow_in (after_rel arts fx ls over r flow o).flows flow).at.have
    taken new above =
        let f = flow_in r.flows flow in
        let g : FlowState = cond (is_to r flow) (received f (payload_of o.body)) (pushed f o) in
        let is : after_rel arts fx ls over r flow o ≡ admit_rel r o =
        ap (λ j. cond (is_new (items.Rel (rel_answer (is_signed arts fx o) (is_dated ls o.body) (over o.body) j))) (admit_rel r o) r) new.0
        ∙ ap (λ t. cond (is_new (items.Rel (rel_answer t (is_dated ls o.body) (over o.body) rels.New))) (admit_rel r o) r) signed
        ∙ ap (λ t. cond (is_new (items.Rel (rel_answer true t (over o.body) rels.New))) (admit_rel r o) r) dated
        ∙ ap (λ t. cond (is_new (items.Rel (rel_answer true true t rels.New))) (admit_rel r o) r) goes in
        let put : admit_rel r o ≡ with_flow r flow g =
        ap (λ fl. with_flow r fl (cond (is_to r fl) (received (flow_in r.flows fl) (payload_of o.body)) (pushed (flow_in r.flows fl) o))) new.1 in
        let at : flow_in (after_rel arts fx ls over r flow o).flows flow ≡ g =
        ap (λ (z : RelState). flow_in z.flows flow) (is ∙ put)
        ∙ put_base r flow g ready.row (either_ends (is_to r flow) f (payload_of o.body) ∙ found_ends r.flows flow) in
        let have = ap (λ (h : FlowState). h.at.have) at in
        let one = either_have (is_to r flow) f (payload_of o.body) in
        omega (arith, have, one, near)
