-- What always holds of a flow at a node: at the start, and after each event.
use Rattle.std.proofs.Common.{All, cond, Bool, ◌≡◌, ◌<◌, ◌≤◌, ℕ, zero, suc, ◌+◌, ◌-◌, ◌==◌, true, false, List, [], ◌∷◌, ◌++◌, length, drop, max, refl, sym, ap}
use Rattle.std.proofs.Common.{subst, arith, length-append, length-drop}
use Rattle.std.proofs.lemmas.Bool.Decides.{nat_tests}
use Rattle.sp_base.specs.declared.id.Flow.{Flow}
use Rattle.sp_base.specs.declared.id.NodeId.{NodeId}
use Rattle.sp_base.specs.declared.limits.TheConstants.{MAX_SEQ}
use Rattle.sp_msg.specs.declared.kept.Kept.{Kept}
use Rattle.std.proofs.lemmas.List.Elements.{All-head, All-tail}
use Rattle.sp_rules.specs.Rel.{flow_in}
use Rattle.sp_rules.specs.Flow.{FlowState, is_flow, no_flow, ends, is_full, number_said, pushed, received, acknowledged_by, concluded, after_take, ended}
use Rattle.sp_rules.specs.Flow.{IsMessage, AreMessages, IsStanding}

-- one more message follows the others
messages_more : (flow : Flow) (after : ℕ) (ms : List Kept) (m : Kept) → AreMessages flow after ms → IsMessage flow (after + length ms + 1) m.body
    → AreMessages flow after (ms ++ m ∷ [])
messages_more flow after [] m are next = (subst (λ (n : ℕ). IsMessage flow n m.body) (omega arith) next, tt)
messages_more flow after (x ∷ ms) m are next =
    (are.0, messages_more flow (after + 1) ms m are.1 (subst (λ (n : ℕ). IsMessage flow n m.body) (omega arith) next))

-- the messages after the first ones follow a greater number
messages_left : (flow : Flow) (after k : ℕ) (ms : List Kept) → AreMessages flow after ms → AreMessages flow (after + k) (drop k ms)
messages_left flow after zero ms are = subst (λ (n : ℕ). AreMessages flow n ms) (omega arith) are
messages_left flow after (suc k) [] are = tt
messages_left flow after (suc k) (x ∷ ms) are = subst (λ (n : ℕ). AreMessages flow n (drop k ms)) (omega arith) (messages_left flow (after + 1) k ms are.1)

-- a flow of which nothing was heard stands
pub standing_at_start : (me : NodeId) (bound : ℕ) (flow : Flow) → IsStanding me bound (no_flow flow)
standing_at_start me bound flow = record {
  sound = omega arith;
  bounded = omega arith;
  numbers = omega arith;
  position = λ _. refl;
  messages = tt;
  no_list = λ _. refl;
  inbox = omega arith;
  idle = λ _. refl;
}

-- a flow that stands does so after a push
pub standing_pushed : (me : NodeId) (bound : ℕ) (f : FlowState) (m : Kept) → IsStanding me bound f → (f.dst.0 == me.0) ≡ false
    → is_full bound f ≡ false → f.at.have < MAX_SEQ
    → IsMessage (ends f) (f.at.have + 1) m.body → IsStanding me bound (pushed f m)
standing_pushed me bound f m s relay room small next =
    let position : f.at.have ≡ f.at.base + length f.at.list = s.position relay in
    record {
      sound = omega (arith, s.sound);
      bounded = grind (arith, nat_tests, s.bounded, s.sound, room);
      numbers = omega (arith, small);
      position = λ _. omega (arith, position, length-append f.at.list (m ∷ []));
      messages = messages_more (ends f) f.at.base f.at.list m s.messages (subst (λ (n : ℕ). IsMessage (ends f) n m.body) (omega (arith, position)) next);
      no_list = λ end. absurd (let e = rw relay at end in cc);
      inbox = s.inbox;
      idle = λ off. absurd (cc);
    }

-- a flow that stands does so after a message was received
pub standing_received : (me : NodeId) (bound : ℕ) (f : FlowState) (payload : List ℕ) → IsStanding me bound f → (f.dst.0 == me.0) ≡ true
    → is_full bound f ≡ false
    → (length f.inbox == bound) ≡ false → f.at.have < MAX_SEQ → IsStanding me bound (received f payload)
standing_received me bound f payload s end room waiting small = record {
  sound = omega (arith, s.sound);
  bounded = grind (arith, nat_tests, s.bounded, s.sound, room);
  numbers = omega (arith, small);
  position = λ relay. absurd (let e = rw end at relay in cc);
  messages = s.messages;
  no_list = s.no_list;
  inbox = rw (length-append f.inbox (payload ∷ [])) (grind (arith, nat_tests, s.inbox, waiting));
  idle = λ off. absurd (cc);
}

-- a flow that stands does so after an acknowledgement was taken
pub standing_acknowledged : (me : NodeId) (bound : ℕ) (f : FlowState) (ack : Kept) → IsStanding me bound f → (f.dst.0 == me.0) ≡ false
    → number_said ack.body ≤ MAX_SEQ
    → IsStanding me bound (acknowledged_by f ack)
standing_acknowledged me bound f ack s relay small =
    let n = number_said ack.body in
    let position : f.at.have ≡ f.at.base + length f.at.list = s.position relay in
    record {
      sound = omega (arith, s.sound);
      bounded = omega (arith, s.sound, s.bounded);
      numbers = omega (arith, s.numbers, small);
      position = λ _. omega (arith, position, length-drop (n - f.at.base) f.at.list);
      messages = subst (λ (b : ℕ). AreMessages (ends f) b (drop (n - f.at.base) f.at.list)) (omega arith) (messages_left (ends f) f.at.base
          (n - f.at.base) f.at.list s.messages);
      no_list = λ end. absurd (let e = rw relay at end in cc);
      inbox = s.inbox;
      idle = λ off. absurd (cc);
    }

nothing_left : (k : ℕ) (ms : List Kept) → ms ≡ [] → drop k ms ≡ []
nothing_left k ms none = rw none (empty k)
  where
    empty : (k : ℕ) → let nothing : List Kept = [] in drop k nothing ≡ []
    empty zero = refl
    empty (suc k) = refl

-- a flow that stands does so after its acknowledgement was signed
pub standing_concluded : (me : NodeId) (bound : ℕ) (f : FlowState) (ack : Kept) → IsStanding me bound f → (f.dst.0 == me.0) ≡ true
    → f.active ≡ true → IsStanding me bound (concluded f ack)
standing_concluded me bound f ack s end active =
    let none : drop (f.at.have - f.at.base) f.at.list ≡ [] = nothing_left (f.at.have - f.at.base) f.at.list (s.no_list end) in
    record {
      sound = omega (arith, s.sound);
      bounded = omega (arith, s.sound, s.bounded);
      numbers = omega (arith, s.numbers);
      position = λ relay. absurd (let e = rw end at relay in cc);
      messages = subst (λ (ms : List Kept). AreMessages (ends f) (max f.at.base f.at.have) ms) (sym none) tt;
      no_list = λ _. none;
      inbox = s.inbox;
      idle = λ off. absurd (let e = rw active at off in cc);
    }

-- a flow that stands does so after a client took a message
pub standing_taken : (me : NodeId) (bound : ℕ) (f : FlowState) → IsStanding me bound f → IsStanding me bound (after_take f)
standing_taken me bound f s = record {
  sound = s.sound;
  bounded = s.bounded;
  numbers = s.numbers;
  position = s.position;
  messages = s.messages;
  no_list = s.no_list;
  inbox = omega (arith, s.inbox, length-drop 1 f.inbox);
  idle = λ off. ap after_take (s.idle off);
}

-- what ended keeps nothing but what waits for clients
pub standing_ended : (me : NodeId) (bound : ℕ) (f : FlowState) → IsStanding me bound f → IsStanding me bound (ended f)
standing_ended me bound f s = record {
  sound = omega arith;
  bounded = omega arith;
  numbers = omega arith;
  position = λ _. refl;
  messages = tt;
  no_list = λ _. refl;
  inbox = s.inbox;
  idle = λ _. refl;
}

-- the row of a flow, or what stands for it, is standing
pub standing_in : (me : NodeId) (bound : ℕ) (flows : List FlowState) (flow : Flow) → All (IsStanding me bound) flows → IsStanding me bound (flow_in flows flow)
standing_in me bound [] flow all = standing_at_start me bound flow
standing_in me bound (f ∷ flows) flow all = go (is_flow flow f) (standing_in me bound flows flow (All-tail (IsStanding me bound) f flows all))
  where
    go : (t : Bool) → IsStanding me bound (flow_in flows flow) → IsStanding me bound (cond t f (flow_in flows flow))
    go true others = All-head (IsStanding me bound) f flows all
    go false others = others
