-- How many effects each piece causes at most.
use Rattle.std.proofs.Common.{◌≡◌, ◌≤◌, ℕ, ◌+◌, ◌*◌, ◌-◌, Bool, true, false, List, [], ◌∷◌, ◌++◌, length, Option, None, Some, ap, arith, cond, length-append}
use Rattle.std.proofs.lemmas.List.Concat.{flat_map-cons}
use Rattle.std.specs.List.{flat_map}
use Rattle.sp_base.specs.declared.id.NodeId.{NodeId}
use Rattle.sp_msg.specs.Caused.{Caused}
use Rattle.sp_msg.specs.declared.body.Body.{Body}
use Rattle.sp_msg.specs.declared.body.Body.TheVariants as bodies
use Rattle.sp_msg.specs.declared.effect.Effect.{Effect}
use Rattle.sp_msg.specs.declared.effect.Why.{Why}
use Rattle.sp_msg.specs.declared.effect.Why.TheVariants as whys
use Rattle.sp_msg.specs.declared.kept.Kept.{Kept}
use Rattle.sp_prio.proofs.TellLemmas.{given_few}
use Rattle.sp_rules.specs.Answers.{is_new}
use Rattle.sp_rules.specs.Handle.{prio_handled, weight_effects, weight_handled}
use Rattle.sp_rules.specs.Parts.{Parts}
use Rattle.sp_rules.specs.Prio.{PrioState, delivered, is_here, prio_effects}
use Rattle.sp_rules.specs.PrioPeer.{PrioPeer, given_effects, gone, put_effects, stored}
use Rattle.sp_rules.specs.Store.{evicted}
use Rattle.sp_rules.specs.Told.{told}
use Rattle.sp_rules.specs.declared.answers.Item.TheVariants as items
use Rattle.sp_rules.specs.declared.answers.PrioAnswer.{PrioAnswer}
use Rattle.sp_rules.specs.declared.answers.WeightAnswer.{WeightAnswer}
use Rattle.sp_rules.specs.declared.store.Entry.{Entry}

-- what is told uses no more of the room
pub room_left : (before now : Caused) (effects : List Effect) (most : ℕ) → now ≡ told before effects → length effects ≤ most → before.room ≤ now.room + most
room_left before now effects most is few = let e : now.room ≡ before.room - length effects = ap (λ (c : Caused). c.room) is in omega (arith, e, few)

where_few : (t : Bool) (effects : List Effect) (most : ℕ) → length effects ≤ most → length (cond t effects []) ≤ most
where_few true effects most few = few
where_few false effects most few = omega arith

weight_few : (body : Body) → length (weight_effects body) ≤ 1
weight_few (bodies.Prio p) = omega arith
weight_few (bodies.Rel r) = omega arith
weight_few (bodies.Ack a) = omega arith
weight_few (bodies.Weight w) = omega arith
weight_few (bodies.Krel w) = omega arith
weight_few (bodies.Kack w) = omega arith
weight_few (bodies.Epoch w) = omega arith

pub weight_room : (answer : WeightAnswer) (o : Kept) (p : Parts) → length (weight_handled answer o p).effects ≤ 1
weight_room answer o p = where_few (is_new (items.Weight answer)) (weight_effects o.body) 1 (weight_few o.body)

gone_few : (place : ℕ) (why : Why) (e : Option Entry) → length (gone place why e) ≤ 1
gone_few place why None = omega arith
gone_few place why (Some e) = omega arith

stored_few : (place id : ℕ) (body : Body) → length (stored place id body) ≤ 1
stored_few place id (bodies.Prio p) = omega arith
stored_few place id (bodies.Rel r) = omega arith
stored_few place id (bodies.Ack a) = omega arith
stored_few place id (bodies.Weight w) = omega arith
stored_few place id (bodies.Krel w) = omega arith
stored_few place id (bodies.Kack w) = omega arith
stored_few place id (bodies.Epoch w) = omega arith

delivered_few : (body : Body) → length (delivered body) ≤ 1
delivered_few (bodies.Prio p) = omega arith
delivered_few (bodies.Rel r) = omega arith
delivered_few (bodies.Ack a) = omega arith
delivered_few (bodies.Weight w) = omega arith
delivered_few (bodies.Krel w) = omega arith
delivered_few (bodies.Kack w) = omega arith
delivered_few (bodies.Epoch w) = omega arith

given_all : (kept : Kept) (came : Option NodeId) (peers : List PrioPeer) → length (flat_map (given_effects kept came) peers) ≤ 2 * length peers
given_all kept came [] = omega arith
given_all kept came (q ∷ peers) =
    let few = given_few kept came q in
    let others = given_all kept came peers in
    let both = ap length (flat_map-cons (given_effects kept came) q peers) in
    omega (arith, few, others, both, length-append (given_effects kept came q) (flat_map (given_effects kept came) peers))

here_few : (s : PrioState) (kept : Kept) → length (delivered kept.body ++ put_effects 0 s.inbox kept) ≤ 3
here_few s kept =
    let new = stored 0 (s.inbox.last + 1) kept.body in
    let old = gone 0 whys.Evicted (evicted s.inbox kept) in
    omega (
      arith,
      length-append (delivered kept.body) (new ++ old),
      length-append new old,
      delivered_few kept.body,
      stored_few 0 (s.inbox.last + 1) kept.body,
      gone_few 0 whys.Evicted (evicted s.inbox kept),
    )

prio_few : (s : PrioState) (kept : Kept) (came : Option NodeId) → length (prio_effects s kept came) ≤ 2 * length s.peers + 3
prio_few s kept came = go (is_here s kept.body)
  where
    go : (t : Bool) → length (cond t (delivered kept.body ++ put_effects 0 s.inbox kept) (flat_map (given_effects kept came) s.peers)) ≤ 2 * length s.peers + 3
    go true = omega (arith, here_few s kept)
    go false = omega (arith, given_all kept came s.peers)

pub prio_room : (v : NodeId) (answer : PrioAnswer) (number : ℕ) (o : Kept) (p : Parts)
    → length (prio_handled v answer number o p).effects ≤ 2 * length p.prio.peers + 3
prio_room v answer number o p =
    where_few (is_new (items.Prio answer)) (prio_effects p.prio o (Some v)) (2 * length p.prio.peers + 3) (prio_few p.prio o (Some v))
