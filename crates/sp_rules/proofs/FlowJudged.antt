-- What a judgement says of a flow: why it may change where the answer was that a message is new, or next.
use Rattle.std.proofs.Common.{◌≡◌, ◌≤◌, ℕ, ◌+◌, ◌==◌, ◌&&◌, Bool, true, false, List, [], ◌∷◌, length, Result, Ok, Err, refl, sym, ap, ◌∙◌, subst, arith, cond}
use Rattle.std.proofs.Common.{not, nat_le, nat_lt}
use Rattle.std.proofs.lemmas.Bool.Decides.{nat_tests}
use Rattle.sp_base.specs.declared.id.Flow.{Flow}
use Rattle.sp_base.specs.declared.id.NodeId.{NodeId}
use Rattle.sp_base.specs.declared.limits.TheConstants.{MAX_SEQ}
use Rattle.sp_msg.proofs.GoodFields.{good_ack, good_kack, good_krel, good_rel}
use Rattle.sp_msg.specs.declared.body.Ack.{Ack}
use Rattle.sp_msg.specs.declared.body.Body.{Body}
use Rattle.sp_msg.specs.declared.body.Body.TheVariants as bodies
use Rattle.sp_msg.specs.declared.kept.Kept.{Kept}
use Rattle.sp_rules.specs.Changes.{CanAcknowledge, CanPush, CanReceive, FitsAFormat}
use Rattle.sp_rules.specs.Flow.{FlowState, IsMessage, IsReliable, ends, flow_said, is_flow, is_full, number_said}
use Rattle.sp_rules.specs.Rel.{IsNextOwn, RelState, are_ends, flow_in, is_from, is_node, is_to, judge_ack, judge_ack_of, judge_rel, judge_rel_of, own_flow}
use Rattle.sp_rules.specs.Rel.{plain_ack, room}
use Rattle.sp_rules.specs.declared.rel.AckJudged.{AckJudged}
use Rattle.sp_rules.specs.declared.rel.AckJudged.TheVariants as acks
use Rattle.sp_rules.specs.declared.rel.RelJudged.{RelJudged}
use Rattle.sp_rules.specs.declared.rel.RelJudged.TheVariants as rels
use Rattle.sp_rules.specs.declared.rel.RelRefused.{RelRefused}

-- ---- the flow that is read has these ends

-- a flow that passes for these ends has them
pub same_ends : (f : FlowState) (flow : Flow) → is_flow flow f ≡ true → ends f ≡ flow
same_ends f flow e = go (f.src.0 == flow.src.0) refl (f.dst.0 == flow.dst.0) refl e
  where
    go : (s : Bool) → (f.src.0 == flow.src.0) ≡ s → (d : Bool) → (f.dst.0 == flow.dst.0) ≡ d → (s && d) ≡ true → ends f ≡ flow
    go true s true d both =
        let src : f.src.0 ≡ flow.src.0 = grind (arith, nat_tests) in
        let dst : f.dst.0 ≡ flow.dst.0 = grind (arith, nat_tests) in
        ap (λ (n : ℕ). record { src = record { 0 = n }; dst = f.dst }) src ∙ ap (λ (n : ℕ). record { src = flow.src; dst = record { 0 = n } }) dst
    go true s false d both = absurd (cc)
    go false s d is both = absurd (cc)

-- the state of a flow has that flow's ends, also where there is none yet
pub found_ends : (flows : List FlowState) (flow : Flow) → ends (flow_in flows flow) ≡ flow
found_ends [] flow = refl
found_ends (f ∷ flows) flow = go (is_flow flow f) refl (found_ends flows flow)
  where
    go : (t : Bool) → is_flow flow f ≡ t → ends (flow_in flows flow) ≡ flow → ends (cond t f (flow_in flows flow)) ≡ flow
    go true is others = same_ends f flow is
    go false is others = others

-- ---- a test that passed

is_new_rel : RelJudged → Bool
is_new_rel rels.New = true
is_new_rel _ = false

rel_passes : (t : Bool) (a b : RelJudged) → is_new_rel a ≡ false → cond t a b ≡ rels.New → (t ≡ false) × (b ≡ rels.New)
unfolding is_new_rel
rel_passes true a b other e = absurd (let both : false ≡ true = sym other ∙ ap is_new_rel e in cc)
rel_passes false a b other e = (refl, e)

is_new_ack : AckJudged → Bool
is_new_ack acks.New = true
is_new_ack _ = false

ack_passes : (t : Bool) (a b : AckJudged) → is_new_ack a ≡ false → cond t a b ≡ acks.New → (t ≡ false) × (b ≡ acks.New)
unfolding is_new_ack
ack_passes true a b other e = absurd (let both : false ≡ true = sym other ∙ ap is_new_ack e in cc)
ack_passes false a b other e = (refl, e)

room_passes : (t : Bool) (e : RelRefused) (r : Result ℕ RelRefused) (n : ℕ) → cond t (Err e) r ≡ Ok n → (t ≡ false) × (r ≡ Ok n)
room_passes true e r n is = absurd (cc)
room_passes false e r n is = (refl, is)

swapped : (a b : ℕ) → (a == b) ≡ false → (b == a) ≡ false
swapped a b e = grind (arith, nat_tests)

-- the ends of a flow are two nodes
not_true : (t : Bool) → not t ≡ false → t ≡ true
not_true true e = refl
not_true false e = absurd (cc)

different : (r : RelState) (flow : Flow) (src dst : NodeId) → are_ends r flow src dst ≡ true → (src.0 == dst.0) ≡ false
different r flow src dst e = go (src.0 == flow.src.0) (dst.0 == flow.dst.0) (src.0 == dst.0) (is_node r src) (is_node r dst) e
  where
    go : (a b c d f : Bool) → (a && b && not c && d && f) ≡ true → c ≡ false
    go true true false d f all = refl
    go true true true d f all = absurd (cc)
    go true false c d f all = absurd (cc)
    go false b c d f all = absurd (cc)

-- what has the ends of a flow is of that flow
pub same_flow : (r : RelState) (flow : Flow) (src dst : NodeId) → are_ends r flow src dst ≡ true → flow ≡ record { src = src; dst = dst }
same_flow r flow src dst e = go (src.0 == flow.src.0) refl (dst.0 == flow.dst.0) refl (not (src.0 == dst.0)) (is_node r src) (is_node r dst) e
  where
    go : (a : Bool) → (src.0 == flow.src.0) ≡ a → (b : Bool) → (dst.0 == flow.dst.0) ≡ b → (c d f : Bool) → (a && b && c && d && f) ≡ true
        → flow ≡ record { src = src; dst = dst }
    go true one true two c d f all =
        let from : flow.src.0 ≡ src.0 = grind (arith, nat_tests) in
        let to : flow.dst.0 ≡ dst.0 = grind (arith, nat_tests) in
        ap (λ (n : ℕ). record { src = record { 0 = n }; dst = flow.dst }) from ∙ ap (λ (n : ℕ). record { src = src; dst = record { 0 = n } }) to
    go true one false two c d f all = absurd (cc)
    go false one b two c d f all = absurd (cc)

-- both are nodes
pub both_nodes : (r : RelState) (flow : Flow) (src dst : NodeId) → are_ends r flow src dst ≡ true → (is_node r src ≡ true) × (is_node r dst ≡ true)
both_nodes r flow src dst e = go (src.0 == flow.src.0) (dst.0 == flow.dst.0) (not (src.0 == dst.0)) (is_node r src) refl (is_node r dst) refl e
  where
    go : (a b c d : Bool) → is_node r src ≡ d → (f : Bool) → is_node r dst ≡ f → (a && b && c && d && f) ≡ true
        → (is_node r src ≡ true) × (is_node r dst ≡ true)
    go true true true true one true two all = (one, two)
    go true true true true one false two all = absurd (cc)
    go true true true false one f two all = absurd (cc)
    go true true false d one f two all = absurd (cc)
    go true false c d one f two all = absurd (cc)
    go false b c d one f two all = absurd (cc)

-- ---- a message that some format has

-- its number is in range
pub small_number : (body : Body) → FitsAFormat body → number_said body ≤ MAX_SEQ
small_number (bodies.Rel b) good = (good_rel good.0 b good.1).seq.1
small_number (bodies.Ack b) good = (good_ack good.0 b good.1).seq.1
small_number (bodies.Krel b) good = (good_krel good.0 b good.1).seq.1
small_number (bodies.Kack b) good = (good_kack good.0 b good.1).seq.1
small_number (bodies.Prio b) good = omega arith
small_number (bodies.Weight b) good = omega arith
small_number (bodies.Epoch b) good = omega arith

-- ---- a client's message is the next one

-- it may be kept in the flow from this node
own_can_push : (r : RelState) (m : Kept) (dst : NodeId) (seq : ℕ) → room r dst ≡ Ok seq → seq ≤ MAX_SEQ
    → ((flow : Flow) (n : ℕ) → flow.src ≡ r.me → flow.dst ≡ dst → n ≡ seq → IsMessage flow n m.body)
    → CanPush r.me r.bound (flow_in r.flows (own_flow r dst)) m
own_can_push r m to seq next small message =
    let f = flow_in r.flows (own_flow r to) in
    let there = room_passes (not (are_ends r (own_flow r to) r.me to)) _ _ seq next in
    let free = room_passes (is_full r.bound f) _ _ seq there.1 in
    let number : f.at.have + 1 ≡ seq = cc in
    let two : (r.me.0 == to.0) ≡ false = different r (own_flow r to) r.me to (not_true (are_ends r (own_flow r to) r.me to) there.0) in
    let found = found_ends r.flows (own_flow r to) in
    let dst : f.dst ≡ to = ap (λ e. e.dst) found in
    record {
      relay = ap (λ u. u.0 == r.me.0) dst ∙ swapped r.me.0 to.0 two;
      room = free.0;
      small = omega (arith, number, small);
      next = message (ends f) (f.at.have + 1) (ap (λ e. e.src) found) dst number;
    }

-- where there is room, the other end is another node, and the number comes after the last
pub room_is : (r : RelState) (dst : NodeId) (number : ℕ) → room r dst ≡ Ok number
    → (are_ends r (own_flow r dst) r.me dst ≡ true) × (number ≡ (flow_in r.flows (own_flow r dst)).at.have + 1)
room_is r dst number is =
    let f = flow_in r.flows (own_flow r dst) in
    let there = room_passes (not (are_ends r (own_flow r dst) r.me dst)) _ _ number is in
    let free = room_passes (is_full r.bound f) _ _ number there.1 in
    let same : f.at.have + 1 ≡ number = cc in
    (not_true (are_ends r (own_flow r dst) r.me dst) there.0, sym same)

-- a message of this node with the next number can be pushed
pub can_push_own : (r : RelState) (m : Kept) → IsNextOwn r m.body → FitsAFormat m.body → CanPush r.me r.bound (flow_in r.flows (flow_said m.body)) m
can_push_own r m next good = go m.body refl next (small_number m.body good)
  where
    -- the message from this node to another
    to : (body : Body) → m.body ≡ body → (src dst : NodeId) (seq : ℕ) → flow_said body ≡ record { src = src; dst = dst } → src ≡ r.me
        → room r dst ≡ Ok seq → seq ≤ MAX_SEQ
        → ((flow : Flow) (n : ℕ) → flow.src ≡ src → flow.dst ≡ dst → n ≡ seq → IsMessage flow n body)
        → CanPush r.me r.bound (flow_in r.flows (flow_said m.body)) m
    to body is src dst seq said mine next small message =
        let flow : flow_said m.body ≡ own_flow r dst = ap flow_said is ∙ said ∙ ap (λ (u : NodeId). record { src = u; dst = dst }) mine in
        subst (λ (fl : Flow). CanPush r.me r.bound (flow_in r.flows fl) m) (sym flow)
        (own_can_push r m dst seq next small
        (λ fl n from end number. subst (IsMessage fl n) (sym is) (message fl n (from ∙ sym mine) end number)))

    go : (body : Body) → m.body ≡ body → IsNextOwn r body → number_said body ≤ MAX_SEQ → CanPush r.me r.bound (flow_in r.flows (flow_said m.body)) m
    go (bodies.Rel b) is next small =
        to (bodies.Rel b) is b.src b.dst b.seq refl next.0 next.1 small (λ fl n from end number. (sym from, sym end, sym number))
    go (bodies.Krel b) is next small =
        to (bodies.Krel b) is b.src b.dst b.seq refl next.0 next.1 small (λ fl n from end number. (sym from, sym end, sym number))
    go (bodies.Prio b) is next small = absurd next
    go (bodies.Ack b) is next small = absurd next
    go (bodies.Weight b) is next small = absurd next
    go (bodies.Kack b) is next small = absurd next
    go (bodies.Epoch b) is next small = absurd next

-- ---- a message is new

pub record IsNewRel (r : RelState) (flow : Flow) (src dst : NodeId) (seq : ℕ) : Type 0 where
  pub ends : are_ends r flow src dst ≡ true
  pub other : is_from r flow ≡ false
  pub next : seq ≡ (flow_in r.flows flow).at.have + 1
  pub room : is_full r.bound (flow_in r.flows flow) ≡ false
  pub waiting : (is_to r flow && (length (flow_in r.flows flow).inbox == r.bound)) ≡ false

next_number : (seq have : ℕ) → nat_le seq have ≡ false → nat_lt (have + 1) seq ≡ false → seq ≡ have + 1
next_number seq have above near = grind (arith, nat_tests)

-- a reliable message that is judged new meets what is asked of one
pub new_rel : (r : RelState) (flow : Flow) (src dst : NodeId) (seq : ℕ) → judge_rel r flow src dst seq ≡ rels.New → IsNewRel r flow src dst seq
unfolding is_new_rel
new_rel r flow src dst seq new =
    let f = flow_in r.flows flow in
    let one = rel_passes (not (are_ends r flow src dst)) rels.BadEnd _ refl new in
    let two = rel_passes (nat_le seq f.at.have) rels.Old _ refl one.1 in
    let three = rel_passes (is_from r flow) rels.Ahead _ refl two.1 in
    let four = rel_passes (nat_lt (f.at.have + 1) seq) rels.Gap _ refl three.1 in
    let five = rel_passes (is_full r.bound f) rels.Full _ refl four.1 in
    let six = rel_passes (is_to r flow && (length f.inbox == r.bound)) rels.InboxFull rels.New refl five.1 in
    record {
      ends = not_true (are_ends r flow src dst) one.0;
      other = three.0;
      next = next_number seq f.at.have two.0 four.0;
      room = five.0;
      waiting = six.0;
    }

-- its flow is read by these ends
end_of : (r : RelState) (flow : Flow) (t : Bool) → is_to r flow ≡ t → ((flow_in r.flows flow).dst.0 == r.me.0) ≡ t
end_of r flow true e = ap (λ u. u.dst.0 == r.me.0) (found_ends r.flows flow)
    ∙ (let same : r.me.0 ≡ flow.dst.0 = grind (arith, nat_tests) in rw same (grind (arith, nat_tests)))
end_of r flow false e = ap (λ u. u.dst.0 == r.me.0) (found_ends r.flows flow) ∙ swapped r.me.0 flow.dst.0 e

new_can_receive : (r : RelState) (flow : Flow) (src dst : NodeId) (seq : ℕ) → IsNewRel r flow src dst seq → is_to r flow ≡ true → seq ≤ MAX_SEQ
    → CanReceive r.me r.bound (flow_in r.flows flow)
new_can_receive r flow src dst seq new here small = record {
  end = end_of r flow true here;
  room = new.room;
  waiting = let w = rw here at new.waiting in w;
  small = omega (arith, new.next, small);
}

new_can_push : (r : RelState) (m : Kept) (flow : Flow) (seq : ℕ) → IsNewRel r flow flow.src flow.dst seq → is_to r flow ≡ false → seq ≤ MAX_SEQ
    → ((n : ℕ) → seq ≡ n → IsMessage flow n m.body)
    → CanPush r.me r.bound (flow_in r.flows flow) m
new_can_push r m flow seq new elsewhere small message =
    let f = flow_in r.flows flow in
    let found = found_ends r.flows flow in
    record {
      relay = end_of r flow false elsewhere;
      room = new.room;
      small = omega (arith, new.next, small);
      next = subst (λ (fl : Flow). IsMessage fl (f.at.have + 1) m.body) (sym found) (message (f.at.have + 1) new.next);
    }

pub new_is_reliable : (r : RelState) (flow : Flow) (body : Body) → judge_rel_of r flow body ≡ rels.New → IsReliable body
new_is_reliable r flow (bodies.Rel b) new = tt
new_is_reliable r flow (bodies.Krel b) new = tt
new_is_reliable r flow (bodies.Prio b) new = absurd (cc)
new_is_reliable r flow (bodies.Ack b) new = absurd (cc)
new_is_reliable r flow (bodies.Weight b) new = absurd (cc)
new_is_reliable r flow (bodies.Kack b) new = absurd (cc)
new_is_reliable r flow (bodies.Epoch b) new = absurd (cc)

-- a message that is new at its destination can be received
pub can_receive : (r : RelState) (body : Body) → judge_rel_of r (flow_said body) body ≡ rels.New → FitsAFormat body
    → is_to r (flow_said body) ≡ true → CanReceive r.me r.bound (flow_in r.flows (flow_said body))
can_receive r body new good here = go body new here (small_number body good)
  where
    of_flow : (flow : Flow) (seq : ℕ) → judge_rel r flow flow.src flow.dst seq ≡ rels.New → is_to r flow ≡ true → seq ≤ MAX_SEQ
        → CanReceive r.me r.bound (flow_in r.flows flow)
    of_flow flow seq new here small = new_can_receive r flow flow.src flow.dst seq (new_rel r flow flow.src flow.dst seq new) here small

    go : (body : Body) → judge_rel_of r (flow_said body) body ≡ rels.New → is_to r (flow_said body) ≡ true → number_said body ≤ MAX_SEQ
        → CanReceive r.me r.bound (flow_in r.flows (flow_said body))
    go (bodies.Rel b) new here small = of_flow (flow_said (bodies.Rel b)) b.seq new here small
    go (bodies.Krel b) new here small = of_flow (flow_said (bodies.Krel b)) b.seq new here small
    go (bodies.Prio b) new here small = absurd (cc)
    go (bodies.Ack b) new here small = absurd (cc)
    go (bodies.Weight b) new here small = absurd (cc)
    go (bodies.Kack b) new here small = absurd (cc)
    go (bodies.Epoch b) new here small = absurd (cc)

-- a message that is new on its way can be pushed
pub can_push : (r : RelState) (m : Kept) → judge_rel_of r (flow_said m.body) m.body ≡ rels.New → FitsAFormat m.body
    → is_to r (flow_said m.body) ≡ false → CanPush r.me r.bound (flow_in r.flows (flow_said m.body)) m
can_push r m new good elsewhere = go m.body refl new elsewhere (small_number m.body good)
  where
    of_flow : (body : Body) → m.body ≡ body → (seq : ℕ) → judge_rel r (flow_said body) (flow_said body).src (flow_said body).dst seq ≡ rels.New
        → is_to r (flow_said body) ≡ false → seq ≤ MAX_SEQ → ((n : ℕ) → seq ≡ n → IsMessage (flow_said body) n body)
        → CanPush r.me r.bound (flow_in r.flows (flow_said m.body)) m
    of_flow body is seq new elsewhere small message =
        let flow = flow_said body in
        subst (λ (fl : Flow). CanPush r.me r.bound (flow_in r.flows fl) m) (sym (ap flow_said is))
        (new_can_push r m flow seq (new_rel r flow flow.src flow.dst seq new) elsewhere small
        (λ n number. subst (IsMessage flow n) (sym is) (message n number)))

    go : (body : Body) → m.body ≡ body → judge_rel_of r (flow_said body) body ≡ rels.New → is_to r (flow_said body) ≡ false
        → number_said body ≤ MAX_SEQ → CanPush r.me r.bound (flow_in r.flows (flow_said m.body)) m
    go (bodies.Rel b) is new elsewhere small = of_flow (bodies.Rel b) is b.seq new elsewhere small (λ n number. (refl, refl, number))
    go (bodies.Krel b) is new elsewhere small = of_flow (bodies.Krel b) is b.seq new elsewhere small (λ n number. (refl, refl, number))
    go (bodies.Prio b) is new elsewhere small = absurd (cc)
    go (bodies.Ack b) is new elsewhere small = absurd (cc)
    go (bodies.Weight b) is new elsewhere small = absurd (cc)
    go (bodies.Kack b) is new elsewhere small = absurd (cc)
    go (bodies.Epoch b) is new elsewhere small = absurd (cc)

-- ---- an acknowledgement is new

pub record IsNewAck (r : RelState) (flow : Flow) (a : Ack) : Type 0 where
  pub ends : are_ends r flow a.src a.dst ≡ true
  pub sent : (is_from r flow && nat_lt (flow_in r.flows flow).at.have a.seq) ≡ false
  pub relay : is_to r flow ≡ false

-- an acknowledgement that is judged new meets what is asked of one
pub new_ack : (r : RelState) (flow : Flow) (a : Ack) → judge_ack r flow a ≡ acks.New → IsNewAck r flow a
unfolding is_new_ack
new_ack r flow a new =
    let f = flow_in r.flows flow in
    let one = ack_passes (not (are_ends r flow a.src a.dst)) acks.BadEnd _ refl new in
    let two = ack_passes (nat_le a.seq f.at.base) acks.Old _ refl one.1 in
    let three = ack_passes (is_from r flow && nat_lt f.at.have a.seq) acks.Ahead _ refl two.1 in
    let four = ack_passes (is_to r flow) acks.Ahead acks.New refl three.1 in
    record { ends = not_true (are_ends r flow a.src a.dst) one.0; sent = three.0; relay = four.0 }

-- an acknowledgement that is judged new can be taken by its flow
pub can_acknowledge : (r : RelState) (ack : Kept) → judge_ack_of r (flow_said ack.body) ack.body ≡ acks.New → FitsAFormat ack.body
    → CanAcknowledge r.me (flow_in r.flows (flow_said ack.body)) ack
can_acknowledge r ack new good = record { relay = go ack.body new; small = small_number ack.body good }
  where
    go : (body : Body) → judge_ack_of r (flow_said body) body ≡ acks.New → ((flow_in r.flows (flow_said body)).dst.0 == r.me.0) ≡ false
    go (bodies.Ack a) new = end_of r (flow_said (bodies.Ack a)) false (new_ack r (flow_said (bodies.Ack a)) a new).relay
    go (bodies.Kack a) new = end_of r (flow_said (bodies.Kack a)) false (new_ack r (flow_said (bodies.Kack a)) (plain_ack a) new).relay
    go (bodies.Rel b) new = absurd (cc)
    go (bodies.Prio b) new = absurd (cc)
    go (bodies.Weight b) new = absurd (cc)
    go (bodies.Krel b) new = absurd (cc)
    go (bodies.Epoch b) new = absurd (cc)
