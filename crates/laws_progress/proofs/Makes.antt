-- What the frame of a poll tells of the flow: where it stands, the acknowledgement that the neighbour lacks, and the first messages after those
-- that it has.
use Rattle.std.proofs.Common.{◌≡◌, ◌≤◌, ◌<◌, ◌⊎◌, ℕ, zero, suc, ◌+◌, ◌-◌, ◌==◌, Bool, true, false, cond, max, List, [], ◌∷◌, length, map, take, drop, Option}
use Rattle.std.proofs.Common.{Some, None, option_map, refl, sym, ap, subst, ◌∙◌, inl, inr, arith}
use Rattle.std.specs.Prelude.{All, IfSome, if◌then◌else◌, nat_lt, option_and_then, slice_get}
use Rattle.std.proofs.lemmas.Bool.{cases_Bool, eqb-false, ne_eqb, ltb-false, ltb-true}
use Rattle.std.proofs.lemmas.List.Elements.{All-head, All-nil, All-tail}
use Rattle.sp_base.proofs.FewLemmas.{drop_first, drop_past}
use Rattle.sp_base.specs.Formats.{max_rels}
use Rattle.sp_base.specs.Position.{IsPosition}
use Rattle.sp_base.specs.declared.id.Flow.{Flow}
use Rattle.sp_base.specs.declared.id.NodeId.{NodeId}
use Rattle.sp_base.specs.declared.format.TheConstants.{FORMAT_1}
use Rattle.sp_base.specs.declared.limits.TheConstants.{MAX_MESSAGES, MAX_RELS_2}
use Rattle.sp_frame.specs.Reliable.{Report}
use Rattle.sp_msg.specs.declared.body.Body.{Body}
use Rattle.sp_msg.specs.declared.body.Body.TheVariants as bodies
use Rattle.sp_msg.specs.declared.kept.Kept.{Kept}
use Rattle.sp_rules.proofs.FlowJudged.{found_ends}
use Rattle.sp_rules.specs.Flow.{AreMessages, FlowState, IsMessage, ends, is_flow, no_flow, number_said}
use Rattle.sp_rules.specs.Polls.{dated}
use Rattle.sp_rules.specs.Rel.{RelState, flow_at, flow_in, is_to, messages_after, next_flow, next_place, pairs_of, peer_in, slot_of, view_in}
use Rattle.sp_rules.specs.declared.lives.Life.{Life}
use Rattle.sp_rules.specs.declared.kflow.FlowKind.TheVariants.{Plain}
use Rattle.laws_node.specs.Flows.{AckKept, FlowHolds, IsAckOf, IsRelOf, RelHolds}
use Rattle.laws_node.proofs.Tables.{all_get}
use Rattle.laws_node.specs.Sizes.{Sizes}
use Rattle.laws_runs.specs.Signs.{FlowAck}
use Rattle.laws_progress.proofs.Service.{is_on, next_on}
use Rattle.laws_runs.proofs.Acks.{RelAck, flow_ack}
use Rattle.laws_progress.proofs.Standing.{place_in, there_on, place_found, get_map}
use Rattle.laws_progress.proofs.Wires.{has_ack, is_mine, number_in}
use Rattle.std.proofs.Common.{min}
use Rattle.std.proofs.lemmas.Bool.{cases_lt}
use Rattle.sp_rules.specs.Kflow as kflow
use Rattle.sp_rules.specs.Kflow.{first_over, goes_over}
use Rattle.sp_rules.specs.declared.kflow.FlowKind.{FlowKind}
use Rattle.sp_rules.specs.declared.kflow.FlowKind.TheVariants.{Paths}
use Rattle.sp_rules.specs.Parts.{flows_of, Fixed, Parts}
use Rattle.laws_progress.proofs.EitherKind.{slot_of_kind}
use Rattle.sp_rules.specs.Kflow.{edge_to}
use Rattle.laws_node.specs.Flows.{HasFlows}
use Rattle.sp_rules.specs.Polls.{contents_to}
use Rattle.sp_rules.specs.Rel.{slot_for}

-- ---- the acknowledgement and the messages of a slot

pub data SlotAck (kind : FlowKind) (flow : Flow) (base : ℕ) : Option Kept → Type 0 where
  No_ack : SlotAck kind flow base None
  Has_ack : (o : Kept) → IsAckOf kind flow o.body → number_said o.body ≡ base → SlotAck kind flow base (Some o)

-- the first of the messages is one of the flow, and may go over the edge. Of those after it nothing is asked
pub data SlotRel (kind : FlowKind) (flow : Flow) (edge : ℕ) : List Kept → Type 0 where
  No_rel : SlotRel kind flow edge []
  Has_rel : (o : Kept) (os : List Kept) (q : ℕ) → IsMessage flow q o.body → IsRelOf kind o.body → goes_over edge o.body ≡ true
      → SlotRel kind flow edge (o ∷ os)

-- the messages of a slot that go over an edge: of a flow on paths the first alone, where its mask has the edge
abbrev pub over_list : FlowKind → ℕ → List Kept → List Kept
over_list Plain edge os = os
over_list Paths edge os = first_over edge os

-- a slot with those alone
abbrev pub sent_over : FlowKind → ℕ → Report → Report
sent_over kind edge t = record t { rels = over_list kind edge t.rels }

-- a plain message goes over any edge
plain_over : (edge : ℕ) (m : Body) → IsRelOf Plain m → goes_over edge m ≡ true
plain_over edge (bodies.Rel m) is = refl
plain_over edge (bodies.Prio m) is = absurd is
plain_over edge (bodies.Ack m) is = absurd is
plain_over edge (bodies.Weight m) is = absurd is
plain_over edge (bodies.Krel m) is = absurd is
plain_over edge (bodies.Kack m) is = absurd is
plain_over edge (bodies.Epoch m) is = absurd is

over_none : (kind : FlowKind) (edge : ℕ) → over_list kind edge [] ≡ []
over_none Plain edge = refl
over_none Paths edge = refl

-- the first of them goes, or none
pub data FirstOver (kind : FlowKind) (edge : ℕ) (o : Kept) (os : List Kept) : Type 0 where
  Goes : (rest : List Kept) → over_list kind edge (o ∷ os) ≡ o ∷ rest → goes_over edge o.body ≡ true → FirstOver kind edge o os
  Stays : over_list kind edge (o ∷ os) ≡ [] → goes_over edge o.body ≡ false → FirstOver kind edge o os

first_is : (kind : FlowKind) (edge : ℕ) (o : Kept) (os : List Kept) → IsRelOf kind o.body → FirstOver kind edge o os
first_is Plain edge o os is = Goes os refl (plain_over edge o.body is)
first_is Paths edge o os is = elim (cases_Bool (goes_over edge o.body)) [
  | inl t ↦ Goes [] (rw t refl) t
  | inr t ↦ Stays (rw t refl) t
]

-- each message of the window that is kept may go over the edge
abbrev pub Passes : (low high edge : ℕ) → FlowState → Type 0
Passes low high edge f = (i : ℕ) (o : Kept) → slice_get f.at.list i ≡ Some o → low < f.at.base + i + 1 → f.at.base + i + 1 ≤ high
    → goes_over edge o.body ≡ true

-- the number of a message
pub said : (flow : Flow) (q : ℕ) (body : Body) → IsMessage flow q body → number_said body ≡ q
said flow q (bodies.Rel r) is = is.2
said flow q (bodies.Ack a) is = absurd is
said flow q (bodies.Prio a) is = absurd is
said flow q (bodies.Weight a) is = absurd is
said flow q (bodies.Krel r) is = is.2
said flow q (bodies.Kack a) is = absurd is
said flow q (bodies.Epoch a) is = absurd is

-- the messages of a list have the numbers after its base
pub message_at : (flow : Flow) (after : ℕ) (os : List Kept) (i : ℕ) (o : Kept) → AreMessages flow after os → slice_get os i ≡ Some o
    → IsMessage flow (after + i + 1) o.body
message_at flow after [] i o are at = absurd cc
message_at flow after (m ∷ os) zero o are at =
    let here : m ≡ o = cc in
    subst (λ (k : Kept). IsMessage flow (after + 0 + 1) k.body) here
    (subst (λ q. IsMessage flow q m.body) (let e : after + 1 ≡ after + 0 + 1 = omega arith in e) are.0)
message_at flow after (m ∷ os) (suc i) o are at =
    subst (λ q. IsMessage flow q o.body) (let e : after + 1 + i + 1 ≡ after + suc i + 1 = omega arith in e) (message_at flow (after + 1) os i o are.1 at)

get_none : (xs : List Kept) (i : ℕ) → slice_get xs i ≡ None → length xs ≤ i
get_none [] i e = omega arith
get_none (x ∷ xs) zero e = absurd (let f : Some x ≡ None = e in cc)
get_none (x ∷ xs) (suc i) e = let h = get_none xs i e in omega (arith, h)

get_some : (xs : List Kept) (i : ℕ) (y : Kept) → slice_get xs i ≡ Some y → i < length xs
get_some [] i y e = absurd (let f : None ≡ Some y = e in cc)
get_some (x ∷ xs) zero y e = omega arith
get_some (x ∷ xs) (suc i) y e = let h = get_some xs i y e in omega (arith, h)

record AckMade (kind : FlowKind) (flow : Flow) (low base : ℕ) (o : Option Kept) : Type 0 where
  none : has_ack o ≡ false → base ≤ low
  is : SlotAck kind flow base o

ack_made : (kind : FlowKind) (gone : List NodeId) (flow : Flow) (f : FlowState) (low : ℕ) → FlowAck gone f
    → ((o : Kept) → f.ack ≡ Some o → IsAckOf kind flow o.body)
    → AckMade kind flow low f.at.base (cond (nat_lt low f.at.base) f.ack None)
ack_made kind gone flow f low acks kinds = go (nat_lt low f.at.base) refl
  where
    go : (t : Bool) → nat_lt low f.at.base ≡ t → AckMade kind flow low f.at.base (cond t f.ack None)
    go false e = record { none = λ z. ltb-false low f.at.base e; is = No_ack }
    go true e =
        let above = ltb-true low f.at.base e in
        let n = acks.ack (omega (arith, above)) in
        subst (AckMade kind flow low f.at.base) (sym n.kept)
        (record { none = λ z. absurd (let g : true ≡ false = z in cc); is = Has_ack n.ack (kinds n.ack n.kept) n.number })

record RelsMade (kind : FlowKind) (flow : Flow) (edge low high : ℕ) (here : Bool) (f : FlowState) (top : ℕ) (os : List Kept) : Type 0 where
  there : number_in os ≤ f.at.have
  near : number_in os ≤ top + 1
  next_is : here ≡ false → low ≤ f.at.base → Passes low high edge f → (min high f.at.have ≤ top) ⊎ (number_in os ≡ top + 1)
  is : SlotRel kind flow edge os

-- the messages after a number begin with the next one
messages_made : (kind : FlowKind) (flow : Flow) (edge low high : ℕ) (f : FlowState) (top : ℕ) → IsPosition f.at → AreMessages flow f.at.base f.at.list
    → All (λ m. IsRelOf kind m.body) f.at.list → f.at.base ≤ top
    → RelsMade kind flow edge low high false f top (over_list kind edge (messages_after f.at top))
messages_made kind flow edge low high f top whole are plain under = go (slice_get f.at.list (top - f.at.base)) refl
  where
    go : (o : Option Kept) → slice_get f.at.list (top - f.at.base) ≡ o
        → RelsMade kind flow edge low high false f top (over_list kind edge (messages_after f.at top))
    go None e =
        let past = get_none f.at.list (top - f.at.base) e in
        let none : over_list kind edge (messages_after f.at top) ≡ [] =
        ap (λ (os : List Kept). over_list kind edge (take MAX_MESSAGES os)) (drop_past f.at.list (top - f.at.base) e) ∙ over_none kind edge in
        subst (RelsMade kind flow edge low high false f top) (sym none)
        (record { there = omega arith; near = omega arith; next_is = λ z ready passes. inl (omega (arith, past, whole, under)); is = No_rel })
    go (Some o) e =
        let rel = all_get (λ m. IsRelOf kind m.body) f.at.list (top - f.at.base) o plain e in
        let others = take (MAX_MESSAGES - 1) (drop (top - f.at.base + 1) f.at.list) in
        let first : over_list kind edge (messages_after f.at top) ≡ over_list kind edge (o ∷ others) =
        ap (λ (os : List Kept). over_list kind edge (take MAX_MESSAGES os)) (drop_first f.at.list (top - f.at.base) o e) in
        subst (RelsMade kind flow edge low high false f top) (sym first) (of (first_is kind edge o others rel))
      where
        of : FirstOver kind edge o (take (MAX_MESSAGES - 1) (drop (top - f.at.base + 1) f.at.list))
            → RelsMade kind flow edge low high false f top
            (over_list kind edge (o ∷ take (MAX_MESSAGES - 1) (drop (top - f.at.base + 1) f.at.list)))
        of (Goes rest is may) =
            let within = get_some f.at.list (top - f.at.base) o e in
            let message = message_at flow f.at.base f.at.list (top - f.at.base) o are e in
            let number = said flow (f.at.base + (top - f.at.base) + 1) o.body message in
            let rel = all_get (λ m. IsRelOf kind m.body) f.at.list (top - f.at.base) o plain e in
            subst (RelsMade kind flow edge low high false f top) (sym is) (record {
              there = omega (arith, within, whole, under, number);
              near = omega (arith, under, number);
              next_is = λ z ready passes. inr (omega (arith, under, number));
              is = Has_rel o rest (f.at.base + (top - f.at.base) + 1) message rel may;
            })
        of (Stays is never) = subst (RelsMade kind flow edge low high false f top) (sym is) (record {
          there = omega arith;
          near = omega arith;
          next_is = λ z ready passes. elim (cases_lt top high) [
            | inl lt ↦ absurd (let may = passes (top - f.at.base) o e (omega (arith, ready, under)) (omega (arith, lt, under)) in
                let g : true ≡ false = sym may ∙ never in cc)
            | inr past ↦ inl (omega (arith, past))
          ];
          is = No_rel;
        })

-- ---- of them as many as a frame of the format may have: one at least

pub one_fits : (format : ℕ) → 1 ≤ max_rels format
one_fits format = go (format == FORMAT_1)
  where
    go : (b : Bool) → 1 ≤ (if b then MAX_MESSAGES else MAX_RELS_2)
    go true = omega arith
    go false = omega arith

pub number_taken : (most : ℕ) (os : List Kept) → 1 ≤ most → number_in (take most os) ≡ number_in os
number_taken zero os some = absurd (omega (arith, some))
number_taken (suc most) [] some = refl
number_taken (suc most) (o ∷ os) some = refl

rel_taken : (kind : FlowKind) (flow : Flow) (edge most : ℕ) (os : List Kept) → 1 ≤ most → SlotRel kind flow edge os → SlotRel kind flow edge (take most os)
rel_taken kind flow edge zero os some is = absurd (omega (arith, some))
rel_taken kind flow edge (suc most) [] some No_rel = No_rel
rel_taken kind flow edge (suc most) (o ∷ os) some (Has_rel x rest q is rel over) = Has_rel o (take most os) q is rel over

pub slot_dated : (kind : FlowKind) (flow : Flow) (edge format : ℕ) (ls : List Life) (t : Report) → SlotRel kind flow edge t.rels
    → SlotRel kind flow edge (dated format ls t).rels
slot_dated kind flow edge format ls t is = rel_taken kind flow edge (max_rels format) t.rels (one_fits format) is

-- ---- a whole slot

pub record SlotMade (kind : FlowKind) (flow : Flow) (edge low high : ℕ) (r : RelState) (v : NodeId) (t : Report) : Type 0 where
  pub base : t.base ≡ (flow_in r.flows flow).at.base
  pub have : t.have ≡ (flow_in r.flows flow).at.have
  pub ack : SlotAck kind flow t.base t.ack
  pub rels : SlotRel kind flow edge t.rels
  pub no_ack : has_ack t.ack ≡ false → (flow_in r.flows flow).at.base ≤ (view_in (peer_in r.peers v).views flow).base
  pub next_there : number_in t.rels ≤ (flow_in r.flows flow).at.have
  pub next_near : number_in t.rels ≤ max (view_in (peer_in r.peers v).views flow).have (flow_in r.flows flow).at.base + 1
  pub next_is : is_to r flow ≡ false → low ≤ (flow_in r.flows flow).at.base → Passes low high edge (flow_in r.flows flow)
      → (min high (flow_in r.flows flow).at.have ≤ max (view_in (peer_in r.peers v).views flow).have (flow_in r.flows flow).at.base)
      ⊎ (number_in t.rels ≡ max (view_in (peer_in r.peers v).views flow).have (flow_in r.flows flow).at.base + 1)

-- what of a flow at a node goes into its slots
pub record Sound (kind : FlowKind) (me : NodeId) (flow : Flow) (f : FlowState) : Type 0 where
  pub position : (f.dst.0 == me.0) ≡ false → IsPosition f.at
  pub messages : AreMessages (ends f) f.at.base f.at.list
  pub kinds : (o : Kept) → f.ack ≡ Some o → IsAckOf kind (ends f) o.body
  pub plain : All (λ m. IsRelOf kind m.body) f.at.list

some_of : (P : Kept → Type 0) (o : Option Kept) → IfSome o P → (z : Kept) → o ≡ Some z → P z
some_of P None h z e = absurd (let f : None ≡ Some z = e in cc)
some_of P (Some y) h z e = let same : y ≡ z = cc in subst P same h

none_sound : (kind : FlowKind) (me : NodeId) (flow : Flow) → Sound kind me flow (no_flow flow)
none_sound kind me flow = record {
  position = λ e. refl;
  messages = tt;
  kinds = λ o e. absurd (let f : None ≡ Some o = e in cc);
  plain = All-nil (λ (m : Kept). IsRelOf kind m.body);
}

holds_sound : (kind : FlowKind) (k : Sizes) (index : ℕ) (flow : Flow) (f : FlowState) → FlowHolds kind k index f → Sound kind k.me flow f
holds_sound kind k index flow f h = record {
  position = h.standing.position;
  messages = h.standing.messages;
  kinds = λ o e. (some_of (AckKept kind k (ends f)) f.ack h.ack o e).is_ack;
  plain = h.reliable;
}

-- so is each flow of a node
pub flow_sound : (kind : FlowKind) (k : Sizes) (index : ℕ) (r : RelState) (flow : Flow) → RelHolds kind k index r → Sound kind k.me flow (flow_in r.flows flow)
flow_sound kind k index r flow h = go r.flows h.flows
  where
    go : (fs : List FlowState) → All (FlowHolds kind k index) fs → Sound kind k.me flow (flow_in fs flow)
    go [] all = none_sound kind k.me flow
    go (f ∷ fs) all = elim (cases_Bool (is_flow flow f)) [
      | inl t ↦ rw t (holds_sound kind k index flow f (All-head (FlowHolds kind k index) f fs all))
      | inr t ↦ rw t (go fs (All-tail (FlowHolds kind k index) f fs all))
    ]

-- the slot of a flow is so
pub slot_made : (kind : FlowKind) (edge low high : ℕ) (k : Sizes) (index : ℕ) (r : RelState) (v : NodeId) (flow : Flow) → RelHolds kind k index r → RelAck r
    → SlotMade kind flow edge low high r v (sent_over kind edge (slot_of r v flow))
slot_made kind edge low high k index r v flow h acks =
    let f = flow_in r.flows flow in
    let w = view_in (peer_in r.peers v).views flow in
    let s = flow_sound kind k index r flow h in
    let found = found_ends r.flows flow in
    let a = ack_made kind r.removed flow f w.base (flow_ack r flow acks) (λ o e. subst (λ fl. IsAckOf kind fl o.body) found (s.kinds o e)) in
    let messages : AreMessages flow f.at.base f.at.list = subst (λ fl. AreMessages fl f.at.base f.at.list) found s.messages in
    let go : (t : Bool) → is_to r flow ≡ t → RelsMade kind flow edge low high t f (max w.have f.at.base)
    (over_list kind edge (cond t [] (messages_after f.at (max w.have f.at.base)))) =
    λ t. elim (cases_Bool t) [
      | inl on ↦ λ e. rw on (subst (RelsMade kind flow edge low high true f (max w.have f.at.base)) (sym (over_none kind edge)) (record {
        there = omega arith;
        near = omega arith;
        next_is = λ z. absurd (let g : true ≡ false = z in cc);
        is = No_rel;
      }))
      | inr off ↦ λ e.
          let away : (f.dst.0 == k.me.0) ≡ false =
          ne_eqb _ _ (λ z. eqb-false _ _ (e ∙ off) (ap (λ (n : NodeId). n.0) h.me ∙ sym z ∙ ap (λ (fl : Flow). fl.dst.0) found)) in
          rw off (messages_made kind flow edge low high f (max w.have f.at.base) (s.position away) messages s.plain (omega arith))
    ] in
    let m = go (is_to r flow) refl in
    record { base = refl; have = refl; ack = a.is; rels = m.is; no_ack = a.none; next_there = m.there; next_near = m.near; next_is = m.next_is }

-- ---- whose turn it is

-- the flow whose turn it is at the place of this flow is this flow
pub turn_flow : (r : RelState) (v : NodeId) (flow : Flow) (nodes : List NodeId) → map ends r.flows ≡ pairs_of nodes
    → next_place r v ≡ Some (place_in (pairs_of nodes) flow)
    → (fl : Flow) × (next_flow r v ≡ Some fl) × (is_mine flow fl ≡ true)
turn_flow r v flow nodes keys turn =
    let place = place_in (pairs_of nodes) flow in
    let on : is_on (map (λ f. f.active) r.flows) place ≡ true = next_on (peer_in r.peers v).last (map (λ f. f.active) r.flows) place turn in
    let f = there_on r.flows place on in
    let key : slice_get (pairs_of nodes) place ≡ Some (ends f.0) = ap (λ ks. slice_get ks place) (sym keys) ∙ get_map r.flows place f.0 f.1 in
    (ends f.0, ap (option_and_then (flow_at r.flows)) turn ∙ ap (option_map ends) f.1, place_found (pairs_of nodes) flow (ends f.0) key)

-- whose turn it is is active, so the format has its kind
pub turn_has : (kind : FlowKind) (k : Sizes) (index : ℕ) (r : RelState) (v : NodeId) (place : ℕ) → RelHolds kind k index r → next_place r v ≡ Some place
    → HasFlows kind k.format
turn_has kind k index r v place h turn =
    let on : is_on (map (λ f. f.active) r.flows) place ≡ true = next_on (peer_in r.peers v).last (map (λ f. f.active) r.flows) place turn in
    let f = there_on r.flows place on in
    (all_get (FlowHolds kind k index) r.flows place f.0 h.flows f.1).later f.2

-- ---- the slot of a frame

-- the first format has no slot of flows on paths
abbrev pub lacks : FlowKind → ℕ → Bool
lacks Plain format = false
lacks Paths format = format == FORMAT_1

-- which the format has, it carries
pub lacks_none : (kind : FlowKind) (format : ℕ) → lacks kind format ≡ true → HasFlows kind format → ⊥
lacks_none Plain format none has = (let f : false ≡ true = none in cc)
lacks_none Paths format none has = (let f : true ≡ false = sym none ∙ has in cc)

-- what a frame carries of a kind
pub slot_now : (kind : FlowKind) (f : Fixed) (p : Parts) (v : NodeId) → slot_of_kind kind (contents_to f p v)
    ≡ cond (lacks kind f.topology.format) None
    (option_map (dated f.topology.format p.lives) (option_map (sent_over kind (edge_to p.kflow v)) (slot_for (flows_of kind p) v)))
slot_now Plain f p v = go (slot_for p.rel v)
  where
    go : (o : Option Report) → option_map (dated f.topology.format p.lives) o
        ≡ option_map (dated f.topology.format p.lives) (option_map (sent_over Plain (edge_to p.kflow v)) o)
    go None = refl
    go (Some t) = refl
slot_now Paths f p v = ap (λ (o : Option Report). cond (f.topology.format == FORMAT_1) None (option_map (dated f.topology.format p.lives) o))
    (go (slot_for p.kflow.flows v))
  where
    go : (o : Option Report) → option_map (kflow.over_edge (edge_to p.kflow v)) o ≡ option_map (sent_over Paths (edge_to p.kflow v)) o
    go None = refl
    go (Some t) = refl

-- where it carries a slot of the kind, that is the one in turn
pub slot_some : (kind : FlowKind) (f : Fixed) (p : Parts) (v : NodeId) (t : Report) → slot_of_kind kind (contents_to f p v) ≡ Some t
    → option_map (dated f.topology.format p.lives) (option_map (sent_over kind (edge_to p.kflow v)) (slot_for (flows_of kind p) v)) ≡ Some t
slot_some kind f p v t is = go (lacks kind f.topology.format) (sym (slot_now kind f p v) ∙ is)
  where
    go : (z : Bool) → cond z None
        (option_map (dated f.topology.format p.lives) (option_map (sent_over kind (edge_to p.kflow v)) (slot_for (flows_of kind p) v)))
        ≡ Some t
        → option_map (dated f.topology.format p.lives) (option_map (sent_over kind (edge_to p.kflow v)) (slot_for (flows_of kind p) v)) ≡ Some t
    go true e = absurd (let f : None ≡ Some t = e in cc)
    go false e = e

-- plain messages pass everywhere
pub plain_passes : (low high edge : ℕ) (f : FlowState) → All (λ m. IsRelOf Plain m.body) f.at.list → Passes low high edge f
plain_passes low high edge f are i o there above upto = plain_over edge o.body (all_get (λ m. IsRelOf Plain m.body) f.at.list i o are there)
