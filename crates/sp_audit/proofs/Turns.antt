-- One event more: what it does to the order of two nodes' messages, to the numbers of priority messages, and to a place.
use Rattle.std.proofs.Common.{◌≡◌, ◌<◌, ◌≤◌, ℕ, ◌+◌, true, false, List, ◌++◌, length, map, get_or, take, drop, suc, sym, ap, subst, ◌∙◌, arith, append_assoc}
use Rattle.std.proofs.Common.{length-append}
use Rattle.std.specs.Prelude.{◌==◌, [], if◌then◌else◌}
use Rattle.std.specs.BTreeSet.{BTreeSet}
use Rattle.std.specs.List.{flat_map}
use Rattle.std.proofs.lemmas.List.{map-append}
use Rattle.std.proofs.lemmas.List.Concat.{flat_map-append}
use Rattle.laws_runs.specs.Priority.{AreOnce}
use Rattle.sp_base.specs.Lists.{IsPrefix}
use Rattle.sp_base.specs.declared.id.NodeId.{NodeId}
use Rattle.sp_journal.specs.declared.entry.Entry.{Entry}
use Rattle.sp_msg.specs.declared.effect.Effect.{Effect}
use Rattle.sp_rules.specs.declared.kflow.FlowKind.{FlowKind}
use Rattle.sp_runs.specs.Held.{AreShares}
use Rattle.sp_runs.specs.Inputs.{acting}
use Rattle.sp_runs.specs.Told.{Message, accepted_in, delivered_by, prio_by, sent}
use Rattle.sp_schedule_events.specs.declared.event.Event.{Event}
use Rattle.sp_audit.specs.Agreed.{Agrees, Differs}
use Rattle.sp_audit.specs.Firsts.{ComesOnce, KeepsOrder, KeepsPlace, effects_to}
use Rattle.sp_audit.specs.Lists.{number, numbers}
use Rattle.sp_audit.specs.Seen.{AreSeen, TakesIn}
use Rattle.sp_audit.specs.Shelves.{Shelf, TakesAll, shelf_of}
use Rattle.sp_audit.proofs.Walks.{effects_more, flat_more, flat_parts, told_step}

-- an event with its entry at a place of a run
pub record IsTurn (es : List Event) (js : List Entry) (place : ℕ) (e : Event) (j : Entry) : Type 0 where
  pub even : length es ≡ length js
  pub there : place < length es
  pub event : e ≡ get_or es place e
  pub entry : j ≡ get_or js place j

-- its effects at u
abbrev pub Here : Event → Entry → NodeId → List Effect
Here e j u = if (acting e).0 == u.0 then j.effects else []

effects_next : (es : List Event) (js : List Entry) (place : ℕ) (e : Event) (j : Entry) (u : NodeId) → IsTurn es js place e j
    → effects_to es js u (place + 1) ≡ effects_to es js u place ++ Here e j u
effects_next es js place e j u turn = effects_more es js u place e j turn.even turn.there turn.event turn.entry

tells_next : {X : Type 0} (tells : Effect → List X) (es : List Event) (js : List Entry) (place : ℕ) (e : Event) (j : Entry) (u : NodeId)
    → IsTurn es js place e j
    → flat_map tells (effects_to es js u (place + 1)) ≡ flat_map tells (effects_to es js u place) ++ flat_map tells (Here e j u)
tells_next tells es js place e j u turn =
    ap (flat_map tells) (effects_next es js place e j u turn) ∙ flat_map-append tells (effects_to es js u place) (Here e j u)

-- ---- the order of messages

pub sent_next : (kind : FlowKind) (es : List Event) (js : List Entry) (place : ℕ) (e : Event) (j : Entry) (s d : NodeId) → IsTurn es js place e j
    → sent kind (take (place + 1) es) (take (place + 1) js) s d ≡ sent kind (take place es) (take place js) s d ++ accepted_in kind s d e j.reply
sent_next kind es js place e j s d turn = told_step (λ p. accepted_in kind s d p.0 p.1.reply) es js place e j turn.even turn.there turn.event turn.entry

longer : {X : Type 0} (xs ys more : List X) → IsPrefix xs ys → IsPrefix xs (ys ++ more)
longer xs ys more is = (is.0 ++ more, ap (λ (zs : List _). zs ++ more) is.1 ∙ append_assoc xs is.0 more)

-- what was delivered before is a front of what is sent now
front_now : (kind : FlowKind) (es : List Event) (js : List Entry) (place : ℕ) (e : Event) (j : Entry) (s d : NodeId) (now : List Message)
    → IsTurn es js place e j
    → now ≡ sent kind (take place es) (take place js) s d ++ accepted_in kind s d e j.reply → KeepsOrder kind es js s d place
    → IsPrefix (flat_map (delivered_by kind s) (effects_to es js d place)) now
front_now kind es js place e j s d now turn is kept =
    subst (λ (ys : List Message). IsPrefix (flat_map (delivered_by kind s) (effects_to es js d place)) ys) (sym is)
    (longer (flat_map (delivered_by kind s) (effects_to es js d place)) (sent kind (take place es) (take place js) s d) (accepted_in kind s d e j.reply) kept)

-- no more was delivered than is sent
pub fewer : (kind : FlowKind) (es : List Event) (js : List Entry) (place : ℕ) (e : Event) (j : Entry) (s d : NodeId) (now : List Message)
    → IsTurn es js place e j
    → now ≡ sent kind (take place es) (take place js) s d ++ accepted_in kind s d e j.reply → KeepsOrder kind es js s d place
    → length (flat_map (delivered_by kind s) (effects_to es js d place)) ≤ length now
fewer kind es js place e j s d now turn is kept =
    let front = front_now kind es js place e j s d now turn is kept in
    let all = ap length front.1 ∙ length-append (flat_map (delivered_by kind s) (effects_to es js d place)) front.0 in
    omega (arith, all)

pub order_next : (kind : FlowKind) (es : List Event) (js : List Entry) (place : ℕ) (e : Event) (j : Entry) (s d : NodeId) (now : List Message) (count n : ℕ)
    → IsTurn es js place e j
    → now ≡ sent kind (take place es) (take place js) s d ++ accepted_in kind s d e j.reply
    → count ≡ length (flat_map (delivered_by kind s) (effects_to es js d place))
    → KeepsOrder kind es js s d place → Agrees now count (flat_map (delivered_by kind s) (Here e j d)) n
    → KeepsOrder kind es js s d (place + 1) × (n ≡ length (flat_map (delivered_by kind s) (effects_to es js d (place + 1))))
order_next kind es js place e j s d now count n turn is counted kept agrees =
    let before = flat_map (delivered_by kind s) (effects_to es js d place) in
    let these = flat_map (delivered_by kind s) (Here e j d) in
    let all : flat_map (delivered_by kind s) (effects_to es js d (place + 1)) ≡ before ++ these = tells_next (delivered_by kind s) es js place e j d turn in
    let front : IsPrefix (before ++ these) now = agrees.goes_on before (sym counted) (front_now kind es js place e j s d now turn is kept) in (
      subst (λ (xs : List Message). IsPrefix xs (sent kind (take (place + 1) es) (take (place + 1) js) s d)) (sym all)
          (subst (λ (ys : List Message). IsPrefix (before ++ these) ys) (is ∙ sym (sent_next kind es js place e j s d turn)) front),
      agrees.counted ∙ ap (λ (k : ℕ). k + length these) counted ∙ sym (ap length all ∙ length-append before these),
    )

pub order_breaks : (kind : FlowKind) (es : List Event) (js : List Entry) (place : ℕ) (e : Event) (j : Entry) (s d : NodeId) (now : List Message) (count : ℕ)
    → IsTurn es js place e j
    → now ≡ sent kind (take place es) (take place js) s d ++ accepted_in kind s d e j.reply
    → count ≡ length (flat_map (delivered_by kind s) (effects_to es js d place))
    → KeepsOrder kind es js s d place → Differs now count (flat_map (delivered_by kind s) (Here e j d)) → KeepsOrder kind es js s d (place + 1) → ⊥
order_breaks kind es js place e j s d now count turn is counted kept differs next =
    let before = flat_map (delivered_by kind s) (effects_to es js d place) in
    let these = flat_map (delivered_by kind s) (Here e j d) in
    let all : flat_map (delivered_by kind s) (effects_to es js d (place + 1)) ≡ before ++ these = tells_next (delivered_by kind s) es js place e j d turn in
    differs before (sym counted) (front_now kind es js place e j s d now turn is kept)
    (subst (λ (ys : List Message). IsPrefix (before ++ these) ys) (sent_next kind es js place e j s d turn ∙ sym is)
    (subst (λ (xs : List Message). IsPrefix xs (sent kind (take (place + 1) es) (take (place + 1) js) s d)) all next))

-- ---- the numbers of priority messages

numbers_next : (es : List Event) (js : List Entry) (place : ℕ) (e : Event) (j : Entry) (s u : NodeId) → IsTurn es js place e j
    → numbers s (effects_to es js u (place + 1)) ≡ numbers s (effects_to es js u place) ++ numbers s (Here e j u)
numbers_next es js place e j s u turn =
    ap (map (λ (m : Message). m.0)) (tells_next (prio_by s) es js place e j u turn)
    ∙ map-append (λ (m : Message). m.0) (flat_map (prio_by s) (effects_to es js u place)) (flat_map (prio_by s) (Here e j u))

pub once_next : (es : List Event) (js : List Entry) (place : ℕ) (e : Event) (j : Entry) (s u : NodeId) (old new : BTreeSet ℕ) → IsTurn es js place e j
    → AreSeen old (numbers s (effects_to es js u place)) → ComesOnce es js s u place → TakesIn old (numbers s (Here e j u)) new true
    → AreSeen new (numbers s (effects_to es js u (place + 1))) × ComesOnce es js s u (place + 1)
once_next es js place e j s u old new turn seen once takes =
    let both = takes (numbers s (effects_to es js u place)) seen once in
    let all = numbers_next es js place e j s u turn in
    (subst (AreSeen new) (sym all) both.0, subst AreOnce (sym all) both.1)

pub once_breaks : (es : List Event) (js : List Entry) (place : ℕ) (e : Event) (j : Entry) (s u : NodeId) (old new : BTreeSet ℕ) → IsTurn es js place e j
    → AreSeen old (numbers s (effects_to es js u place)) → ComesOnce es js s u place → TakesIn old (numbers s (Here e j u)) new false
    → ComesOnce es js s u (place + 1) → ⊥
once_breaks es js place e j s u old new turn seen once takes next =
    takes (numbers s (effects_to es js u place)) seen once (subst AreOnce (numbers_next es js place e j s u turn) next)

-- ---- a place

pub place_next : (capacity p : ℕ) (es : List Event) (js : List Entry) (place : ℕ) (e : Event) (j : Entry) (u : NodeId) (old new : Shelf)
    → IsTurn es js place e j
    → old ≡ shelf_of p (effects_to es js u place) → KeepsPlace capacity es js u p place → TakesAll capacity p old (Here e j u) new true
    → (new ≡ shelf_of p (effects_to es js u (place + 1))) × AreShares capacity p [] (effects_to es js u (place + 1))
place_next capacity p es js place e j u old new turn shelf kept takes =
    let both = takes (effects_to es js u place) shelf kept.1 in
    let all = effects_next es js place e j u turn in
    (subst (λ (xs : List Effect). new ≡ shelf_of p xs) (sym all) both.0, subst (AreShares capacity p []) (sym all) both.1)

pub place_breaks : (capacity p : ℕ) (es : List Event) (js : List Entry) (place : ℕ) (e : Event) (j : Entry) (u : NodeId) (old new : Shelf)
    → IsTurn es js place e j
    → old ≡ shelf_of p (effects_to es js u place) → KeepsPlace capacity es js u p place → TakesAll capacity p old (Here e j u) new false
    → KeepsPlace capacity es js u p (place + 1) → ⊥
place_breaks capacity p es js place e j u old new turn shelf kept takes next =
    takes (effects_to es js u place) shelf kept.1 (subst (AreShares capacity p []) (effects_next es js place e j u turn) next.1)

-- ---- effects one by one

pub numbers_more : (s : NodeId) (fs : List Effect) (i : ℕ) (f : Effect) → i < length fs → f ≡ get_or fs i f
    → numbers s (take (i + 1) fs) ≡ numbers s (take i fs) ++ number s f
numbers_more s fs i f below is =
    ap (map (λ (m : Message). m.0)) (flat_more (prio_by s) fs i f below is) ∙ map-append (λ (m : Message). m.0) (flat_map (prio_by s) (take i fs)) (prio_by s f)

pub numbers_parts : (s : NodeId) (fs : List Effect) (i : ℕ) (f : Effect) → i < length fs → f ≡ get_or fs i f
    → numbers s fs ≡ numbers s (take i fs) ++ (number s f ++ numbers s (drop (suc i) fs))
numbers_parts s fs i f below is =
    let k : Message → ℕ = λ m. m.0 in
    ap (map k) (flat_parts (prio_by s) fs i f below is)
    ∙ map-append k (flat_map (prio_by s) (take i fs)) (prio_by s f ++ flat_map (prio_by s) (drop (suc i) fs))
    ∙ ap (λ (ns : List ℕ). numbers s (take i fs) ++ ns) (map-append k (prio_by s f) (flat_map (prio_by s) (drop (suc i) fs)))
