-- A slot changes the flows of its kind alone. Each of its objects makes at most one flow active, so there is room for the flows that end with the frame's
-- Epoch object.
use Rattle.std.proofs.Common.{◌≡◌, ◌∙◌, ◌≤◌, ℕ, ◌+◌, Bool, true, false, List, [], ◌∷◌, ◌++◌, length, map, Option, None, Some, refl, sym, ap, arith, cond}
use Rattle.std.specs.Prelude.{◌*◌, ◌&&◌, IfSome, option_map}
use Rattle.std.specs.List.{flat_map}
use Rattle.std.proofs.lemmas.List.{length-append, length-map}
use Rattle.std.proofs.lemmas.List.Concat.{flat_map-cons}
use Rattle.sp_base.specs.Rows.{replace_where}
use Rattle.sp_base.specs.declared.id.Flow.{Flow}
use Rattle.sp_base.specs.declared.id.NodeId.{NodeId}
use Rattle.sp_frame.specs.Reliable.{Report}
use Rattle.sp_base.specs.declared.limits.TheConstants.{MAX_MESSAGES}
use Rattle.sp_frame.specs.Views.{as_list, as_object, as_report}
use Rattle.sp_frame.specs.declared.sections.Slot.{Slot}
use Rattle.sp_msg.specs.Bodies.{payload_of}
use Rattle.sp_msg.specs.declared.effect.Effect.{Effect}
use Rattle.sp_msg.specs.declared.kept.Kept.{Kept}
use Rattle.sp_rules.specs.Answers.{ack_answer, is_new}
use Rattle.sp_rules.specs.Arts.{Arts}
use Rattle.sp_rules.specs.Flow.{FlowState, acknowledged_by, ends, flow_said, is_flow, pushed, received}
use Rattle.sp_rules.specs.Handle.{Arrival, Handled, ack_item, handle, handle_all, met_effects, rel_answer_to, rel_item, reported_where}
use Rattle.sp_rules.specs.Kflow.{KState}
use Rattle.sp_rules.specs.Lives.{are_held, is_dated, judge_epoch, origin_said}
use Rattle.sp_rules.specs.Parts.{Parts, flows_of, is_signed, with_flows}
use Rattle.sp_rules.specs.Pieces.{AckPiece, Piece, RelPiece, slot_pieces}
use Rattle.sp_rules.specs.Rel.{RelState, admit_ack, admit_rel, delivery, ended_by, ending, flow_in, is_end, is_to, judge_ack_of, judge_rel_of, peer_in}
use Rattle.sp_rules.specs.Rel.{rel_effects, reported, restart_effects, told, with_flow, with_peer}
use Rattle.sp_rules.specs.declared.kflow.FlowKind.{FlowKind}
use Rattle.sp_rules.specs.declared.kflow.FlowKind.TheVariants.{Plain, Paths}
use Rattle.sp_rules.specs.declared.lives.Life.{Life}
use Rattle.sp_node_arrivals.proofs.KindLemmas.{StaysBeside, ack_beside, both_beside, lives_stay, nothing_beside, rel_beside, report_beside}
use Rattle.sp_node_arrivals.specs.Epoch.{HasEnds, ends_room, is_new_life}
use Rattle.sp_node_arrivals.specs.Signed.{of_some}

ended_one : (kind : FlowKind) (v : NodeId) (f : FlowState) → length (ended_by kind v f) ≤ 1
ended_one kind v f = go (is_end v (ends f) && f.active)
  where
    go : (t : Bool) → length (cond t (ending kind (ends f) ∷ []) []) ≤ 1
    go true = omega arith
    go false = omega arith

abbrev ended_of : FlowKind → NodeId → List FlowState → ℕ
ended_of kind v flows = length (flat_map (ended_by kind v) flows)

put_ends : (kind : FlowKind) (v : NodeId) (test : FlowState → Bool) (y : FlowState) (xs : List FlowState)
    → ended_of kind v (replace_where test y xs) ≤ ended_of kind v xs + 1
put_ends kind v test y [] = omega arith
put_ends kind v test y (x ∷ xs) = go (test x) (put_ends kind v test y xs)
  where
    split : (z : FlowState) (zs : List FlowState) → ended_of kind v (z ∷ zs) ≡ length (ended_by kind v z) + ended_of kind v zs
    split z zs =
        ap (λ (es : List Effect). length es) (flat_map-cons (ended_by kind v) z zs) ∙ length-append (ended_by kind v z) (flat_map (ended_by kind v) zs)

    go : (t : Bool) → ended_of kind v (replace_where test y xs) ≤ ended_of kind v xs + 1
        → ended_of kind v (cond t (y ∷ xs) (x ∷ replace_where test y xs)) ≤ ended_of kind v (x ∷ xs) + 1
    go true rest = omega (arith, split y xs, split x xs, ended_one kind v y)
    go false rest = omega (arith, split x (replace_where test y xs), split x xs, rest)

-- ---- one piece of a slot: how many flows more it may make active, and how much it may tell

abbrev ended_in : NodeId → Parts → ℕ
ended_in v p = length (met_effects p v)

-- those of each kind
ended_both : (v : NodeId) (p : Parts) → ended_in v p ≡ ended_of Plain v p.rel.flows + ended_of Paths v p.kflow.flows.flows
ended_both v p = length-append (restart_effects Plain p.rel v) (restart_effects Paths p.kflow.flows v)

same_ends : (kind : FlowKind) (v : NodeId) (r : RelState) (p : Parts) → r.flows ≡ (flows_of kind p).flows → ended_in v (with_flows kind r p) ≡ ended_in v p
same_ends Plain v r p same =
    ended_both v (with_flows Plain r p) ∙ ap (λ (fs : List FlowState). ended_of Plain v fs + ended_of Paths v p.kflow.flows.flows) same ∙ sym (ended_both v p)
same_ends Paths v r p same =
    ended_both v (with_flows Paths r p) ∙ ap (λ (fs : List FlowState). ended_of Plain v p.rel.flows + ended_of Paths v fs) same ∙ sym (ended_both v p)

row_ends : (kind : FlowKind) (v : NodeId) (k : Flow) (f : FlowState) (p : Parts)
    → ended_in v (with_flows kind (with_flow (flows_of kind p) k f) p) ≤ ended_in v p + 1
row_ends Plain v k f p =
    omega (arith, ended_both v p, ended_both v (with_flows Plain (with_flow p.rel k f) p), put_ends Plain v (is_flow k) f p.rel.flows)
row_ends Paths v k f p =
    omega (arith, ended_both v p, ended_both v (with_flows Paths (with_flow p.kflow.flows k f) p), put_ends Paths v (is_flow k) f p.kflow.flows.flows)

report_flows : (r : RelState) (from : NodeId) (flow : Flow) (base have : ℕ) → (reported r from flow base have).flows ≡ r.flows
report_flows r from flow base have = go (flow_in r.flows flow).active
  where
    go : (t : Bool) → (cond t (with_peer r from (told (peer_in r.peers from) flow base have)) r).flows ≡ r.flows
    go true = refl
    go false = refl

report_ends : (kind : FlowKind) (v : NodeId) (held : Bool) (from : NodeId) (flow : Flow) (base have : ℕ) (p : Parts)
    → ended_in v (reported_where kind held from flow base have p) ≡ ended_in v p
report_ends kind v false from flow base have p = refl
report_ends kind v true from flow base have p =
    same_ends kind v (reported (flows_of kind p) from flow base have) p (report_flows (flows_of kind p) from flow base have)

abbrev used : NodeId → Handled → ℕ
used v h = ended_in v h.parts + length h.effects

where_used : (v : NodeId) (t : Bool) (old new : Parts) (effects : List Effect) (most : ℕ) → ended_in v new ≤ ended_in v old + 1 → length effects ≤ most
    → ended_in v (cond t new old) + length (cond t effects []) ≤ ended_in v old + (1 + most)
where_used v true old new effects most more few = omega (arith, more, few)
where_used v false old new effects most more few = omega arith

rel_few : (r : RelState) (o : Kept) → length (rel_effects r o) ≤ 1
rel_few r o = go (is_to r (flow_said o.body))
  where
    go : (t : Bool) → length (cond t (delivery o.body ∷ []) []) ≤ 1
    go true = omega arith
    go false = omega arith

ack_used : (v : NodeId) (arts : Arts) (at : Arrival) (p : Parts) (kind : FlowKind) (flow : Flow) (o : Kept)
    → used v (handle arts at p (AckPiece kind flow o)) ≤ ended_in v p + 1
ack_used v arts at p kind flow o =
    let r = flows_of kind p in
    where_used v (is_new (ack_item kind (ack_answer (is_signed arts at.fixed o) (is_dated p.lives o.body) (judge_ack_of r flow o.body)))) p
    (with_flows kind (admit_ack r o) p) [] 0
    (row_ends kind v (flow_said o.body) (acknowledged_by (flow_in r.flows (flow_said o.body)) o) p) (omega arith)

rel_used : (v : NodeId) (arts : Arts) (at : Arrival) (p : Parts) (kind : FlowKind) (flow : Flow) (o : Kept)
    → used v (handle arts at p (RelPiece kind flow o)) ≤ ended_in v p + 2
rel_used v arts at p kind flow o =
    let r = flows_of kind p in
    let f = flow_in r.flows (flow_said o.body) in
    where_used v (is_new (rel_item kind (rel_answer_to arts at p (judge_rel_of r flow o.body) o))) p (with_flows kind (admit_rel r o) p) (rel_effects r o) 1
    (row_ends kind v (flow_said o.body) (cond (is_to r (flow_said o.body)) (received f (payload_of o.body)) (pushed f o)) p) (rel_few r o)

-- ---- a whole slot

more_used : (v : NodeId) (arts : Arts) (at : Arrival) (p : Parts) (piece : Piece) (pieces : List Piece) (a b : ℕ)
    → used v (handle arts at p piece) ≤ ended_in v p + a
    → used v (handle_all arts at (handle arts at p piece).parts pieces) ≤ ended_in v (handle arts at p piece).parts + b
    → used v (handle_all arts at p (piece ∷ pieces)) ≤ ended_in v p + (a + b)
more_used v arts at p piece pieces a b one rest =
    let first = handle arts at p piece in
    omega (arith, one, rest, length-append first.effects (handle_all arts at first.parts pieces).effects)

rels_used : (v : NodeId) (arts : Arts) (at : Arrival) (p : Parts) (kind : FlowKind) (flow : Flow) (os : List Kept)
    → used v (handle_all arts at p (map (RelPiece kind flow) os)) ≤ ended_in v p + 2 * length os
rels_used v arts at p kind flow [] = omega arith
rels_used v arts at p kind flow (o ∷ os) =
    let rest = rels_used v arts at (handle arts at p (RelPiece kind flow o)).parts kind flow os in
    let both = more_used v arts at p (RelPiece kind flow o) (map (RelPiece kind flow) os) 2 (2 * length os) (rel_used v arts at p kind flow o) rest in
    omega (arith, both)

acks_used : (v : NodeId) (arts : Arts) (at : Arrival) (p : Parts) (kind : FlowKind) (flow : Flow) (ack : Option Kept) (os : List Kept)
    → used v (handle_all arts at p (map (AckPiece kind flow) (as_list ack) ++ map (RelPiece kind flow) os)) ≤ ended_in v p + (1 + 2 * length os)
acks_used v arts at p kind flow None os = let rest = rels_used v arts at p kind flow os in omega (arith, rest)
acks_used v arts at p kind flow (Some o) os =
    more_used v arts at p (AckPiece kind flow o) (map (RelPiece kind flow) os) 1 (2 * length os) (ack_used v arts at p kind flow o)
    (rels_used v arts at (handle arts at p (AckPiece kind flow o)).parts kind flow os)

-- after a slot with at most so many messages, the flows that would end have room beside what the slot told
pub slot_used : (v : NodeId) (arts : Arts) (at : Arrival) (p : Parts) (kind : FlowKind) (slot : Option Report) (most : ℕ)
    → IfSome slot (λ r. length r.rels ≤ most) → used v (handle_all arts at p (slot_pieces kind slot)) ≤ ended_in v p + (1 + 2 * most)
slot_used v arts at p kind None most few = omega arith
slot_used v arts at p kind (Some r) most few =
    let left = reported_where kind (are_held p.lives r.flow r.sboot r.dboot) at.from r.flow r.base r.have p in
    let same = report_ends kind v (are_held p.lives r.flow r.sboot r.dboot) at.from r.flow r.base r.have p in
    let rest = acks_used v arts at left kind r.flow r.ack r.rels in
    omega (arith, same, rest, few)

-- ---- a slot changes the flows of its kind alone

rels_beside : (arts : Arts) (at : Arrival) (p : Parts) (kind : FlowKind) (flow : Flow) (os : List Kept)
    → StaysBeside kind p (handle_all arts at p (map (RelPiece kind flow) os)).parts
rels_beside arts at p kind flow [] = nothing_beside kind p
rels_beside arts at p kind flow (o ∷ os) =
    let between = (handle arts at p (RelPiece kind flow o)).parts in
    both_beside kind p between (handle_all arts at between (map (RelPiece kind flow) os)).parts
    (rel_beside kind (rel_answer_to arts at p (judge_rel_of (flows_of kind p) flow o.body) o) o p) (rels_beside arts at between kind flow os)

acks_beside : (arts : Arts) (at : Arrival) (p : Parts) (kind : FlowKind) (flow : Flow) (ack : Option Kept) (os : List Kept)
    → StaysBeside kind p (handle_all arts at p (map (AckPiece kind flow) (as_list ack) ++ map (RelPiece kind flow) os)).parts
acks_beside arts at p kind flow None os = rels_beside arts at p kind flow os
acks_beside arts at p kind flow (Some o) os =
    let between = (handle arts at p (AckPiece kind flow o)).parts in
    both_beside kind p between (handle_all arts at between (map (RelPiece kind flow) os)).parts
    (ack_beside kind (ack_answer (is_signed arts at.fixed o) (is_dated p.lives o.body) (judge_ack_of (flows_of kind p) flow o.body)) o p)
    (rels_beside arts at between kind flow os)

pub slot_beside : (arts : Arts) (at : Arrival) (p : Parts) (kind : FlowKind) (slot : Option Report)
    → StaysBeside kind p (handle_all arts at p (slot_pieces kind slot)).parts
slot_beside arts at p kind None = nothing_beside kind p
slot_beside arts at p kind (Some r) =
    let held = are_held p.lives r.flow r.sboot r.dboot in
    let left = reported_where kind held at.from r.flow r.base r.have p in
    both_beside kind p left (handle_all arts at left (map (AckPiece kind r.flow) (as_list r.ack) ++ map (RelPiece kind r.flow) r.rels)).parts
    (report_beside kind held at.from r.flow r.base r.have p) (acks_beside arts at left kind r.flow r.ack r.rels)

-- a plain slot leaves the flows on paths, with their edges
pub plain_beside : (arts : Arts) (at : Arrival) (p : Parts) (slot : Option Report) → (handle_all arts at p (slot_pieces Plain slot)).parts.kflow ≡ p.kflow
plain_beside arts at p slot = ap (λ (q : Parts). q.kflow) (slot_beside arts at p Plain slot p.rel)

pub slot_lives : (arts : Arts) (at : Arrival) (p : Parts) (kind : FlowKind) (slot : Option Report)
    → (handle_all arts at p (slot_pieces kind slot)).parts.lives ≡ p.lives
slot_lives arts at p kind slot = lives_stay kind p (handle_all arts at p (slot_pieces kind slot)).parts (slot_beside arts at p kind slot)

-- ---- the Epoch object after both

-- after both slots, the flows that would end have room beside what the slots told
pub slots_used : (v : NodeId) (arts : Arts) (at : Arrival) (p one two : Parts) (slot paths : Option Report)
    → one ≡ (handle_all arts at p (slot_pieces Plain slot)).parts → two ≡ (handle_all arts at one (slot_pieces Paths paths)).parts
    → IfSome slot (λ r. length r.rels ≤ MAX_MESSAGES) → IfSome paths (λ r. length r.rels ≤ MAX_MESSAGES)
    → length (met_effects two v)
    + (length (handle_all arts at p (slot_pieces Plain slot)).effects + length (handle_all arts at one (slot_pieces Paths paths)).effects)
    ≤ length (met_effects p v) + 2 * (1 + 2 * MAX_MESSAGES)
slots_used v arts at p one two slot paths first second few short =
    let before = slot_used v arts at p Plain slot MAX_MESSAGES few in
    let after = slot_used v arts at one Paths paths MAX_MESSAGES short in
    let between = ap (ended_in v) first in
    let last = ap (ended_in v) second in
    omega (arith, before, after, between, last)

pub few_messages : (slot : Option Slot) → IfSome slot (λ s. length s.rels ≤ MAX_MESSAGES)
    → IfSome (option_map as_report slot) (λ r. length r.rels ≤ MAX_MESSAGES)
few_messages None few = tt
few_messages (Some s) few = omega (arith, few, length-map s.rels as_object)

-- as many flows would end where neither kind of them changed
pub same_ended : (v : NodeId) (old new : Parts) → new.rel ≡ old.rel → new.kflow ≡ old.kflow → length (met_effects new v) ≡ length (met_effects old v)
same_ended v old new rel kflow =
    ap (λ (r : RelState). length (restart_effects Plain r v ++ restart_effects Paths new.kflow.flows v)) rel
    ∙ ap (λ (k : KState). length (restart_effects Plain old.rel v ++ restart_effects Paths k.flows v)) kflow

-- where an object may be new, the room is that of what ends now
pub ends_have_room : (me : NodeId) (old new : Parts) (room : ℕ) (o : Option Kept) → new.lives ≡ old.lives
    → ((e : Kept) → of_some (ends_room me old) o ≡ length (met_effects old (origin_said e.body)) + 2 * (1 + MAX_MESSAGES)
    → length (met_effects new (origin_said e.body)) ≤ room) → IfSome o (λ e. HasEnds me new room e)
ends_have_room me old new room None same fits = tt
ends_have_room me old new room (Some e) same fits =
    λ is. fits e (ap (λ (t : Bool). cond t (length (met_effects old (origin_said e.body)) + 2 * (1 + MAX_MESSAGES)) 0)
    (ap is_new_life (ap (λ (ls : List Life). judge_epoch me ls e.body) (sym same) ∙ is)))
