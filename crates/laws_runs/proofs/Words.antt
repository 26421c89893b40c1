-- Each answer to an event in its range has words.
use Rattle.std.proofs.Common.{◌≡◌, ◌≢◌, ◌<◌, ℕ, ◌==◌, Bool, true, false, cond, not, nat_lt, List, [], ◌∷◌, length, Option, Some, None, refl, sym, ap}
use Rattle.std.proofs.Common.{subst, ◌∙◌, inl, inr, arith, ◌&&◌}
use Rattle.std.specs.Prelude.{◌+◌, ◌||◌, Err, Ok, slice_get, position, unwrap_or}
use Rattle.std.specs.List.{All, list_any, position_or_len}
use Rattle.std.proofs.lemmas.Bool.{cases_Bool, ne_eqb}
use Rattle.std.proofs.lemmas.Bool.Decides.{nat_tests}
use Rattle.std.proofs.lemmas.List.Elements.{All-head}
use Rattle.sp_base.specs.Cursor.{or_else}
use Rattle.sp_base.specs.declared.id.NodeId.{NodeId}
use Rattle.sp_frame.specs.Sections.{with_document}
use Rattle.sp_msg.specs.declared.body.Body.{Body}
use Rattle.sp_msg.specs.declared.body.Body.TheVariants as bodies
use Rattle.sp_msg.specs.declared.effect.Effect.{Effect}
use Rattle.sp_msg.specs.declared.kept.Kept.{Kept}
use Rattle.sp_msg.specs.declared.refused.SendRefused.{SendRefused}
use Rattle.sp_rules.specs.Arts.{Arts}
use Rattle.sp_msg.specs.declared.refused.SendRefused.TheVariants as refusals
use Rattle.sp_rules.specs.declared.rel.RelRefused.TheVariants as room_refusals
use Rattle.sp_rules.specs.Flow.{is_full, FlowState}
use Rattle.sp_rules.specs.Node.{NodeState, Signer, call_refusal}
use Rattle.sp_msg.specs.declared.mask.Mask.{Mask as MaskOf}
use Rattle.sp_rules.specs.Kflow as kflow
use Rattle.sp_rules.specs.Kflow.{KState, busy, paths_to, waiting_mask}
use Rattle.sp_rules.specs.KflowSends.{KSend, krel_refusal, no_mask, no_place, send_krel_refusal}
use Rattle.sp_rules.specs.Parts.{edge_to, is_first}
use Rattle.sp_rules.specs.Polls.{frame_to}
use Rattle.sp_rules.specs.Prio as prio
use Rattle.sp_rules.specs.Rel.{RelState, are_ends, flow_in, is_waiting, own_flow, room}
use Rattle.sp_rules.specs.Masks.{Choice, Mask, OnlyPaths}
use Rattle.sp_rules.specs.Sends.{PrioSend, is_unmet, no_life, no_paths, no_room, prio_refusal}
use Rattle.sp_rules.specs.Sends.{rel_refusal, send_prio_refusal, signer_refusal, weight_refusal, weight_refusal_at}
use Rattle.sp_rules.specs.Steps as steps
use Rattle.sp_rules.specs.Steps.{Input, NodeStep, Output}
use Rattle.sp_rules.specs.Weights.{minimum, is_withdrawn}
use Rattle.sp_rules.specs.declared.node.TheConstants.{MAX_CALLS}
use Rattle.sp_rules.specs.declared.store.Entry.{Entry as Stored}
use Rattle.sp_topology.specs.Neighbours.{joins}
use Rattle.laws_node.specs.Sizes.{Sizes}
use Rattle.laws_node.specs.Stores.{EntryHolds, IsPrio}
use Rattle.sp_runs.specs.Inputs.{acting, crafted_contents, crafted_document, crafted_frame, flipped, handed_out, input_of, last_weights, may_sign, slot_alone}
use Rattle.sp_node_words.specs.Words.{refused_word}
use Rattle.sp_runs.specs.Journals.{body_word, message_word, reply_word}
use Rattle.sp_runs.specs.Lives.{ready}
use Rattle.sp_runs.specs.Runs.{AreFields, is_hop}
use Rattle.sp_runs.specs.Settings.{Setting}
use Rattle.sp_runs.specs.Worlds.{World, crafts, node_in}
use Rattle.sp_schedule_crafts.specs.Objects.{body_of}
use Rattle.sp_schedule_events.specs.Documents.{with_list}
use Rattle.sp_schedule_events.specs.declared.event.Event.{Event}
use Rattle.sp_schedule_events.specs.declared.event.Event.TheVariants as events
use Rattle.laws_runs.specs.Calls.{EachReplyHasWords, NeighboursAreAnswered}
use Rattle.laws_runs.proofs.Counts.{few_calls}
use Rattle.laws_runs.specs.Signs.{Good, NodeIs, sizes_at}
use Rattle.laws_runs.proofs.Neighbours.{hop_back, neighbour_there}
use Rattle.laws_runs.proofs.KeyFiles.{key_files_stand}
use Rattle.laws_runs.proofs.Reaches.{came}
use Rattle.laws_runs.proofs.Ready.{As_was, Extended, HasLeft, Readied, ready_left, was_there}
use Rattle.laws_runs.proofs.Signed.{signs, signs_there}
use Rattle.laws_runs.proofs.Versions.{published_words}

-- ---- polls and datagrams

pub neighbours_are_answered : NeighboursAreAnswered
neighbours_are_answered arts x es js w fits carries run few u v n at hop =
    let there = neighbour_there x (Good arts x es js) u v n ((signs arts x es js w fits carries run).nodes u n at) hop in
    let calls = few_calls arts x es js w fits carries run u n at in
    let fresh : (n.calls == MAX_CALLS) ≡ false = ne_eqb n.calls MAX_CALLS (λ is. absurd (omega (arith, is, calls, few))) in
    rw (there, fresh) refl

-- ---- refusals that a journal has words for

abbrev HasWords : Option SendRefused → Type 0
HasWords None = Unit {0}
HasWords (Some r) = refused_word r ≢ None

both_have : (a b : Option SendRefused) → HasWords a → HasWords b → HasWords (or_else a b)
both_have None b first second = second
both_have (Some r) b first second = first

told : {X : Type 0} (y : X) → Some y ≡ None → ⊥
told y e = cc

signer_words : (s : Signer) → HasLeft s → HasWords (signer_refusal s)
signer_words s left = elim (cases_Bool (s.index == s.total)) [
  | inl t ↦ rw t (told _)
  | inr t ↦
      let other : (s.index == s.bound) ≡ false = elim left [
        | inl whole ↦ ap (λ k. s.index == k) whole ∙ t
        | inr below ↦ ne_eqb s.index s.bound (λ same. absurd (omega (arith, same, below)))
      ] in
      rw (t, other) tt
]

-- ---- a reliable message

room_words : (r : RelState) (dst : NodeId) → HasWords (no_room (room r dst))
room_words r dst = go (not (are_ends r (own_flow r dst) r.me dst)) (is_full r.bound f)
  where
    f : FlowState
    f = flow_in r.flows (own_flow r dst)

    go : (a b : Bool) → HasWords (no_room (cond a (Err room_refusals.BadEnd) (cond b (Err (room_refusals.Full f.at.base f.at.have)) (Ok (f.at.have + 1)))))
    go true b = told _
    go false true = told _
    go false false = tt

sent_words : (x : Setting) (number k : ℕ) (effects : List Effect) (o : Option SendRefused) → HasWords o
    → reply_word x number (steps.refused_send o (steps.accepted k effects)).reply ≢ None
sent_words x number k effects None h = told _
sent_words x number k effects (Some r) h = h

-- ---- what the start of a node fixes

life_words : (unmet : Bool) → HasWords (no_life unmet)
life_words true = told _
life_words false = tt

rel_words : (n : NodeState) (dst : NodeId) → HasLeft n.signer → HasWords (rel_refusal n dst)
rel_words n dst left =
    both_have (no_life (is_unmet n dst)) (or_else (no_room (room n.parts.rel dst)) (signer_refusal n.signer))
    (life_words (is_unmet n dst))
    (both_have (no_room (room n.parts.rel dst)) (signer_refusal n.signer) (room_words n.parts.rel dst) (signer_words n.signer left))

-- ---- a priority message, and one on paths

paths_words : (r : Choice) → HasWords (no_paths r)
paths_words (Mask mask) = tt
paths_words (OnlyPaths found) = told _

prio_words : (n : NodeState) (m : PrioSend) (choice : Choice) → HasLeft n.signer → HasWords (send_prio_refusal n m choice)
prio_words n m choice left =
    both_have (prio_refusal n m) (no_paths choice)
    (go ((m.dst.0 == n.fixed.me.0) || not (prio.is_there n.parts.prio m.dst.0) || not (prio.is_there n.parts.prio n.fixed.me.0) || is_unmet n m.dst)
    (nat_lt m.expiry n.now))
    (paths_words choice)
  where
    go : (a b : Bool) → HasWords (cond a (Some refusals.BadEnd) (cond b (Some (refusals.Expired n.now)) (signer_refusal n.signer)))
    go true b = told _
    go false true = told _
    go false false = signer_words n.signer left

-- the room for a message on so many paths
place_words : (k : KState) (dst : NodeId) (count : ℕ) → HasWords (no_place (kflow.room k dst count))
place_words k dst count =
    go (not (are_ends r (own_flow r dst) r.me dst)) (is_full r.bound f) (is_waiting r dst && not (paths_to k dst == count))
  where
    r : RelState
    r = k.flows

    f : FlowState
    f = flow_in r.flows (own_flow r dst)

    busy_words : (b : Bool)
        → HasWords (no_place (cond b (Err (refusals.Busy (paths_to k dst))) (Ok (record { seq = f.at.have + 1; mask = waiting_mask k dst }))))
    busy_words true = told _
    busy_words false = tt

    go : (a b c : Bool)
        → HasWords (no_place
        (busy k dst count (cond a (Err room_refusals.BadEnd) (cond b (Err (room_refusals.Full f.at.base f.at.have)) (Ok (f.at.have + 1))))))
    go true b c = told _
    go false true c = told _
    go false false c = busy_words (is_waiting r dst && not (paths_to k dst == count))

krel_words : (n : NodeState) (m : KSend) (choice : Choice) → HasLeft n.signer → HasWords (send_krel_refusal n m choice)
krel_words n m choice left =
    both_have (krel_refusal n m) (no_mask (waiting_mask n.parts.kflow m.dst) choice)
    (both_have (no_life (is_first n.fixed || is_unmet n m.dst)) (or_else (no_place (kflow.room n.parts.kflow m.dst m.paths)) (signer_refusal n.signer))
    (life_words (is_first n.fixed || is_unmet n m.dst))
    (both_have (no_place (kflow.room n.parts.kflow m.dst m.paths)) (signer_refusal n.signer) (place_words n.parts.kflow m.dst m.paths)
    (signer_words n.signer left)))
    (mask_words (waiting_mask n.parts.kflow m.dst))
  where
    mask_words : (waiting : Option MaskOf) → HasWords (no_mask waiting choice)
    mask_words None = paths_words choice
    mask_words (Some mask) = tt

-- ---- a weight

some_place : {X : Type 0} (test : X → Bool) (xs : List X) → list_any test xs ≡ true → (place : ℕ) × (position test xs ≡ Some place)
some_place {X = X} test xs some =
    let within : nat_lt (position_or_len test xs) (length xs) ≡ true = let below = place_within xs some in grind (arith, nat_tests, below) in
    (position_or_len test xs, rw within refl)
  where
    place_within : (ys : List X) → list_any test ys ≡ true → position_or_len test ys < length ys
    place_within [] there = absurd (let e : false ≡ true = there in cc)
    place_within (y ∷ ys) there = elim (cases_Bool (test y)) [
      | inl t ↦ rw t (omega arith)
      | inr t ↦ let rest = place_within ys (rw t at there) in rw t (omega (arith, rest))
    ]

weight_at_words : (n : NodeState) (edge weight : ℕ) → HasLeft n.signer → HasWords (weight_refusal_at n (Some edge) weight)
weight_at_words n edge weight left = go (is_withdrawn n.parts.weights edge) (nat_lt weight (minimum n.parts.weights edge))
  where
    go : (a b : Bool)
        → HasWords (cond a (Some refusals.BadEnd) (cond b (Some (refusals.Low (minimum n.parts.weights edge))) (signer_refusal n.signer)))
    go true b = told _
    go false true = told _
    go false false = signer_words n.signer left

weight_words : (x : Setting) (P : Kept → Type 0) (u v : NodeId) (n : NodeState) (weight : ℕ) → HasLeft n.signer → NodeIs x P u n → is_hop x u v ≡ true
    → HasWords (weight_refusal n v weight)
weight_words x P u v n weight left is hop =
    let there = some_place (joins u.0 v.0) x.topology.edges hop in
    let edge : edge_to n.fixed v ≡ Some there.0 = ap (λ f. edge_to f v) is.fixed ∙ there.1 in
    subst (λ (o : Option ℕ). HasWords (weight_refusal_at n o weight)) (sym edge) (weight_at_words n there.0 weight left)

-- ---- what is taken

inbox_words : (k : Sizes) (last : ℕ) (entries : List Stored) → All (EntryHolds k last) entries → message_word (slice_get entries 0) ≢ None
inbox_words k last [] all = told _
inbox_words k last (e ∷ entries) all = of_kind e.kept.body (All-head (EntryHolds k last) e entries all).kind
  where
    of_kind : (body : Body) → IsPrio body → body_word body ≢ None
    of_kind (bodies.Prio p) is = told _
    of_kind (bodies.Rel r) is = absurd is
    of_kind (bodies.Ack a) is = absurd is
    of_kind (bodies.Weight w) is = absurd is
    of_kind (bodies.Krel w) is = absurd is
    of_kind (bodies.Kack w) is = absurd is
    of_kind (bodies.Epoch w) is = absurd is

-- ---- a datagram of a neighbour

arrived_words : (arts : Arts) (x : Setting) (n : NodeState) (v : NodeId) (bytes : List ℕ) (input : Input) (output : Output) (after : NodeState) (number : ℕ)
    → input ≡ steps.Datagram v bytes → call_refusal n v ≡ None → NodeStep arts n input output after → reply_word x number output.reply ≢ None
arrived_words arts x n v bytes input output after number same answers step =
    let moves : NodeStep arts n (steps.Datagram v bytes) output after = subst (λ i. NodeStep arts n i output after) same step in
    let is : output ≡ steps.arrived arts n v bytes = moves.0 ∙ ap (λ r. steps.refused_call r (steps.arrived arts n v bytes)) answers in
    subst (λ (o : Output). reply_word x number o.reply ≢ None) (sym is) (told _)

frame_words : (arts : Arts) (x : Setting) (n : NodeState) (v : NodeId) (output : Output) (number : ℕ) → call_refusal n v ≡ None
    → output ≡ steps.poll_output arts n v
    → reply_word x number output.reply ≢ None
frame_words arts x n v output number answers is =
    let made : output ≡ steps.replied (steps.Frame (frame_to arts n v)) =
    is ∙ ap (λ r. steps.refused_call r (steps.replied (steps.Frame (frame_to arts n v)))) answers in
    subst (λ (o : Output). reply_word x number o.reply ≢ None) (sym made) (told _)

-- ---- all events

stepped : (arts : Arts) (n : NodeState) (input same : Input) (output : Output) (after : NodeState) → Some same ≡ Some input → NodeStep arts n input output after
    → NodeStep arts n same output after
stepped arts n input same output after e step = let is : input ≡ same = cc in subst (λ i. NodeStep arts n i output after) is step

one_input : (a b : Input) → Some a ≡ Some b → b ≡ a
one_input a b e = cc

-- a node with more indexes answers the same neighbours
pub answered_too : (x : Setting) (w : World) (b n : NodeState) (v : NodeId) → Readied x w b n → call_refusal b v ≡ None → call_refusal n v ≡ None
answered_too x w b n v (As_was same) answers = ap (λ (k : NodeState). call_refusal k v) same ∙ answers
answered_too x w b n v (Extended on few same) answers = ap (λ (k : NodeState). call_refusal k v) same ∙ answers

pub each_reply_has_words : EachReplyHasWords
each_reply_has_words arts x es js w fits carries run few e n after input output range at reaches step number = go e range.fields at reaches
  where
    words : Output → Type 0
    words o = reply_word x number o.reply ≢ None

    there_in : World
    there_in = ready x w e

    left : HasLeft n.signer
    left = ready_left arts x (Good arts x es js) es w e n (key_files_stand arts x es js w fits run) (signs arts x es js w fits carries run).nodes at

    is_at : (u : NodeId) → node_in there_in.nodes u ≡ Some n → NodeIs x (Good arts x es js) u n
    is_at u there = (signs_there arts x es js w e fits carries run).nodes u n there

    answers : (u v : NodeId) → node_in there_in.nodes u ≡ Some n → is_hop x u v ≡ true → call_refusal n v ≡ None
    answers u v there hop =
        let was = was_there x w e u n there in
        answered_too x w was.before n v was.readied (neighbours_are_answered arts x es js w fits carries run few u v was.before was.is_there hop)

    back : (u v : NodeId) → node_in there_in.nodes v ≡ Some n → is_hop x u v ≡ true → call_refusal n u ≡ None
    back u v there hop = answers v u there (hop_back x v u ∙ hop)

    crafted : (c v : NodeId) → node_in there_in.nodes v ≡ Some n → is_hop x c v ≡ true → (t : Bool) (bytes : List ℕ)
        → cond t (Some (steps.Datagram c bytes)) None ≡ Some input → words output
    crafted c v there hop true bytes is =
        arrived_words arts x n c bytes input output after number (one_input (steps.Datagram c bytes) input is) (back c v there hop) step
    crafted c v there hop false bytes is = absurd cc

    go : (f : Event) → AreFields x es f → node_in there_in.nodes (acting f) ≡ Some n → input_of arts x there_in n f ≡ Some input → words output
    go (events.Rel s d payload) range there is =
        let moves = stepped arts n input (steps.SendRel d payload) output after is step in
        subst words (sym moves.0) (sent_words x number _ _ (rel_refusal n d) (rel_words n d left))
    go (events.Prio s d p expiry paths payload) range there is =
        let m : PrioSend = record { dst = d; prio = p; expiry = expiry; paths = paths; payload = payload } in
        let moves = stepped arts n input (steps.SendPrio m) output after is step in
        subst words (sym moves.output_is)
        (sent_words x number _ _ (send_prio_refusal n m moves.choice) (prio_words n m moves.choice left))
    go (events.Krel s d paths payload) range there is =
        let m : KSend = record { dst = d; paths = paths; payload = payload } in
        let moves = stepped arts n input (steps.SendKrel m) output after is step in
        subst words (sym moves.output_is) (sent_words x number _ _ (send_krel_refusal n m moves.choice) (krel_words n m moves.choice left))
    go (events.KTake d s) range there is = subst words (sym (stepped arts n input (steps.TakeKrel s) output after is step).0) (told _)
    go (events.Take d s) range there is = subst words (sym (stepped arts n input (steps.TakeRel s) output after is step).0) (told _)
    go (events.TakePrio d) range there is =
        let moves = stepped arts n input steps.TakePrio output after is step in
        let inbox = (is_at d there).holds.parts.prio.inbox in
        subst words (sym moves.0) (inbox_words (sizes_at x (Good arts x es js) d) n.parts.prio.inbox.last n.parts.prio.inbox.entries inbox.entries)
    go (events.Tick u now) range there is = subst words (sym (stepped arts n input (steps.Tick now) output after is step).0) (told _)
    go (events.Weight u v weight) range there is =
        let moves = stepped arts n input (steps.SetWeight v weight) output after is step in
        subst words (sym moves.0)
        (sent_words x number _ _ (weight_refusal n v weight) (weight_words x (Good arts x es js) u v n weight left (is_at u there) range.1))
    go (events.Poll u v) range there is =
        frame_words arts x n v output number (answers u v there range.1) (stepped arts n input (steps.Poll v) output after is step).0
    go (events.Pass u v k) range there is =
        let it = came there_in.directions u v k (steps.Datagram u) input is in
        arrived_words arts x n u it.bytes input output after number it.is (back u v there range.2) step
    go (events.Flip u v k far bit) range there is =
        let it = came there_in.directions u v k (λ bytes. steps.Datagram u (flipped far bit bytes)) input is in
        arrived_words arts x n u (flipped far bit it.bytes) input output after number it.is (back u v there range.2) step
    go (events.Inject u v bytes) range there is =
        arrived_words arts x n u bytes input output after number (one_input (steps.Datagram u bytes) input is) (back u v there range.1) step
    go (events.Craft c v key object) range there is =
        crafted c v there range.1 (nat_lt (crafts there_in.crafted key) x.total)
        (crafted_frame arts n c (crafted_contents arts x there_in.crafted n key (body_of object))) is
    go (events.CraftStatus c v s d base have) range there is =
        let bytes = crafted_frame arts n c (slot_alone n.parts.lives (record { src = s; dst = d }) base have None []) in
        arrived_words arts x n c bytes input output after number (one_input (steps.Datagram c bytes) input is) (back c v there range.1) step
    go (events.Publish u weights) range there is =
        let bytes = handed_out x (with_list there_in.published weights) in
        let moves = stepped arts n input (steps.Publish bytes) output after is step in
        let h = signs_there arts x es js w e fits carries run in
        subst words (sym moves.0) (published_words arts x es (Good arts x es js) u n there_in.published u weights fits h.lists (is_at u there)
        (h.live u n there).published h.published range)
    go (events.CraftDocument c v key version weights) range there is =
        crafted c v there range.1 (may_sign x there_in.crafted key) (crafted_frame arts n c
        (with_document (crafted_document arts x there_in.crafted key version (unwrap_or weights (last_weights x there_in.published))))) is
    go (events.Start u) range there is = absurd cc
    go (events.Stop u) range there is = absurd cc
