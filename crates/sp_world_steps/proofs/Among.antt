-- A step of the node in a place is one of the node of its id.
use Rattle.std.proofs.Common.{◌≡◌, ◌<◌, ◌≤◌, ℕ, Bool, true, false, List, [], ◌∷◌, length, nat_lt, set, get_or, Some, None, refl, sym, ap, ◌∙◌, subst, arith}
use Rattle.std.specs.Prelude.{position}
use Rattle.std.specs.List.{list_any, position_or_len}
use Rattle.std.proofs.lemmas.Bool.Decides.{nat_tests}
use Rattle.std.proofs.lemmas.List.{set-get_or}
use Rattle.std.proofs.lemmas.Option.{same_Some}
use Rattle.sp_base.proofs.RowLemmas.{find-position, replace_where-position}
use Rattle.sp_base.specs.declared.id.NodeId.{NodeId}
use Rattle.sp_journal.specs.declared.entry.Entry.{Entry}
use Rattle.sp_node_format.specs.Format.{format_of}
use Rattle.sp_node_format.specs.PolledFrames.{most_signature}
use Rattle.sp_rules.specs.Node.{NodeState, call_refusal, extended}
use Rattle.sp_rules.specs.Steps.{Frame, NodeStep, Poll, replied}
use Rattle.sp_rules.specs.declared.node.Step.{Step}
use Rattle.sp_rules.specs.declared.node.Taken.{Taken}
use Rattle.sp_runs.specs.Inputs.{acting}
use Rattle.sp_runs.specs.Worlds.{is_me, node_in, with_node}
use Rattle.sp_schedule_events.specs.declared.event.Event.{Event}
use Rattle.sp_world_steps.specs.Asks.{GaveAnswer, MayAsk}
use Rattle.sp_world_steps.specs.Gave.{GaveTaken}
use Rattle.sp_world_steps.specs.Members.{AskedAmong, CanAsk, CanCall, CanReserve, HeardAmong, PolledAmong, ReservedAmong}

-- ---- a node that is there has a place

before_end : {X : Type 0} (test : X → Bool) (xs : List X) → list_any test xs ≡ true → position_or_len test xs < length xs
before_end test [] some = absurd (cc)
before_end test (y ∷ xs) some = go (test y) refl (before_end test xs) some
  where
    go : (t : Bool) → test y ≡ t → (list_any test xs ≡ true → position_or_len test xs < length xs) → list_any test (y ∷ xs) ≡ true
        → position_or_len test (y ∷ xs) < length (y ∷ xs)
    go true is more some = rw is (omega arith)
    go false is more some = let rest = more (rw is at some) in rw is (omega (arith, rest))

-- where some item passes there is its place
pub place_of_any : {X : Type 0} (test : X → Bool) (xs : List X) → list_any test xs ≡ true → (place : ℕ) × (position test xs ≡ Some place)
place_of_any test xs some =
    let within = before_end test xs some in
    let is : nat_lt (position_or_len test xs) (length xs) ≡ true = grind (arith, nat_tests, within) in
    (position_or_len test xs, rw is refl)

found_any : (nodes : List NodeState) (u : NodeId) (n : NodeState) → node_in nodes u ≡ Some n → list_any (is_me u) nodes ≡ true
found_any [] u n is = absurd (cc)
found_any (m ∷ nodes) u n is = go (is_me u m) refl (found_any nodes u n) is
  where
    go : (t : Bool) → is_me u m ≡ t → (node_in nodes u ≡ Some n → list_any (is_me u) nodes ≡ true) → node_in (m ∷ nodes) u ≡ Some n
        → list_any (is_me u) (m ∷ nodes) ≡ true
    go true is rest found = rw is refl
    go false is rest found = rw is (rest (rw is at found))

no_place : (nodes : List NodeState) (u : NodeId) (n : NodeState) → node_in nodes u ≡ Some n → position (is_me u) nodes ≡ None → ⊥
no_place nodes u n is none = let place = place_of_any (is_me u) nodes (found_any nodes u n is) in let same : Some place.0 ≡ None = sym place.1 ∙ none in cc

pub asked_has_place : (nodes : List NodeState) (u : NodeId) (event : Event) (document : List ℕ) → CanAsk nodes event document → u ≡ acting event
    → position (is_me u) nodes ≡ None → ⊥
asked_has_place nodes u event document can acts none =
    no_place nodes (acting event) can.node can.is_there (subst (λ (v : NodeId). position (is_me v) nodes ≡ None) acts none)

pub called_has_place : (nodes : List NodeState) (u v : NodeId) → CanCall nodes u v → position (is_me u) nodes ≡ None → ⊥
called_has_place nodes u v can none = no_place nodes u can.node can.is_there none

pub reserve_has_place : (nodes : List NodeState) (u : NodeId) (upto : ℕ) → CanReserve nodes u upto → position (is_me u) nodes ≡ None → ⊥
reserve_has_place nodes u upto can none = no_place nodes u can.node can.is_there none

-- ---- what stands in that place

-- what is read in the place of an id is its node
pub found_at : (nodes : List NodeState) (u : NodeId) (place : ℕ) (old : NodeState) → position (is_me u) nodes ≡ Some place → old ≡ get_or nodes place old
    → node_in nodes u ≡ Some old
found_at nodes u place old at is = rw (find-position (is_me u) old nodes place at) (ap Some (sym is))

pub set_at : (nodes : List NodeState) (u : NodeId) (place : ℕ) (new : NodeState) → position (is_me u) nodes ≡ Some place
    → set nodes place new ≡ with_node nodes u new
set_at nodes u place new at = sym (replace_where-position (is_me u) new nodes place at)

-- where the node in a place stays as it is, so do all
pub same_among : (nodes : List NodeState) (place : ℕ) (old new : NodeState) → old ≡ get_or nodes place old → new ≡ old → set nodes place new ≡ nodes
same_among nodes place old new is same = ap (set nodes place) (same ∙ is) ∙ set-get_or nodes place old

pub asked_at : (nodes : List NodeState) (u : NodeId) (place : ℕ) (event : Event) (document : List ℕ) (entry : Entry) (old new : NodeState)
    → u ≡ acting event → position (is_me u) nodes ≡ Some place → old ≡ get_or nodes place old → GaveAnswer old event document entry new
    → AskedAmong nodes event document entry (set nodes place new)
asked_at nodes u place event document entry old new acts at is gave = record {
  old = old;
  new = new;
  is_there = rw (← acts) (found_at nodes u place old at is);
  gave = gave;
  nodes_are = rw (← acts) (set_at nodes u place new at);
}

pub polled_at : (nodes : List NodeState) (u v : NodeId) (place : ℕ) (bytes : List ℕ) (old new : NodeState)
    → position (is_me u) nodes ≡ Some place → old ≡ get_or nodes place old → NodeStep (format_of old.fixed) old (Poll v) (replied (Frame bytes)) new
    → PolledAmong nodes u v bytes (set nodes place new)
polled_at nodes u v place bytes old new at is step = record {
  old = old;
  new = new;
  is_there = found_at nodes u place old at is;
  step = step;
  nodes_are = set_at nodes u place new at;
}

pub heard_at : (nodes : List NodeState) (u v : NodeId) (place : ℕ) (bytes : List ℕ) (step : Step Taken) (old new : NodeState)
    → position (is_me v) nodes ≡ Some place → old ≡ get_or nodes place old → GaveTaken old u bytes step new
    → HeardAmong nodes u v bytes step (set nodes place new)
heard_at nodes u v place bytes step old new at is took = record {
  old = old;
  new = new;
  is_there = found_at nodes v place old at is;
  took = took;
  nodes_are = set_at nodes v place new at;
}

pub may_ask_at : (nodes : List NodeState) (u : NodeId) (place : ℕ) (event : Event) (document : List ℕ) (old : NodeState) → CanAsk nodes event document
    → u ≡ acting event → position (is_me u) nodes ≡ Some place → old ≡ get_or nodes place old → MayAsk old event document
may_ask_at nodes u place event document old can acts at is =
    let there : node_in nodes (acting event) ≡ Some old = subst (λ (v : NodeId). node_in nodes v ≡ Some old) acts (found_at nodes u place old at is) in
    subst (λ (n : NodeState). MayAsk n event document) (same_Some can.node old (sym can.is_there ∙ there)) can.may

-- the node there answers
pub answers_at : (nodes : List NodeState) (u v : NodeId) (place : ℕ) (old : NodeState) → CanCall nodes u v
    → position (is_me u) nodes ≡ Some place → old ≡ get_or nodes place old → call_refusal old v ≡ None
answers_at nodes u v place old can at is =
    subst (λ (n : NodeState). call_refusal n v ≡ None) (same_Some can.node old (sym can.is_there ∙ found_at nodes u place old at is)) can.answers

pub short_at : (nodes : List NodeState) (u v : NodeId) (place : ℕ) (old : NodeState) → CanCall nodes u v
    → position (is_me u) nodes ≡ Some place → old ≡ get_or nodes place old → old.fixed.signature_len ≤ most_signature
short_at nodes u v place old can at is =
    subst (λ (n : NodeState). n.fixed.signature_len ≤ most_signature) (same_Some can.node old (sym can.is_there ∙ found_at nodes u place old at is)) can.short

-- more indexes are reserved for it
pub reserved_at : (nodes : List NodeState) (u : NodeId) (place upto : ℕ) (old new : NodeState)
    → position (is_me u) nodes ≡ Some place → old ≡ get_or nodes place old → new ≡ extended old upto → ReservedAmong nodes u upto (set nodes place new)
reserved_at nodes u place upto old new at is extends = record {
  old = old;
  is_there = found_at nodes u place old at is;
  nodes_are = set_at nodes u place new at ∙ ap (with_node nodes u) extends;
}

pub forward_at : (nodes : List NodeState) (u : NodeId) (place upto : ℕ) (old : NodeState) → CanReserve nodes u upto
    → position (is_me u) nodes ≡ Some place → old ≡ get_or nodes place old → old.signer.bound ≤ upto
forward_at nodes u place upto old can at is =
    subst (λ (n : NodeState). n.signer.bound ≤ upto) (same_Some can.node old (sym can.is_there ∙ found_at nodes u place old at is)) can.forward

pub within_at : (nodes : List NodeState) (u : NodeId) (place upto : ℕ) (old : NodeState) → CanReserve nodes u upto
    → position (is_me u) nodes ≡ Some place → old ≡ get_or nodes place old → upto ≤ old.signer.total
within_at nodes u place upto old can at is =
    subst (λ (n : NodeState). upto ≤ n.signer.total) (same_Some can.node old (sym can.is_there ∙ found_at nodes u place old at is)) can.within
