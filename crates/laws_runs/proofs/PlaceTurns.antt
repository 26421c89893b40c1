-- What each piece of a step makes of a place.
use Rattle.sp_base.proofs.FormatLemmas.{few_nodes}
use Rattle.sp_msg.proofs.GoodFields.{good_prio}
use Rattle.laws_runs.specs.Places.{PlacesAre, StoreIs, shelf}
use Rattle.std.proofs.Common.{◌≡◌, ◌<◌, ◌&&◌, ℕ, zero, suc, ◌-◌, Bool, true, false, cond, List, [], ◌∷◌, ◌++◌, length, Option, Some, None, refl, sym, ap, subst}
use Rattle.std.proofs.Common.{◌∙◌, inl, inr, arith, filter}
use Rattle.std.specs.List.{flat_map}
use Rattle.std.proofs.lemmas.Bool.{cases_Bool}
use Rattle.std.proofs.lemmas.List.{append-nil}
use Rattle.sp_base.specs.declared.id.Flow.{Flow}
use Rattle.sp_base.specs.declared.id.NodeId.{NodeId}
use Rattle.sp_base.specs.declared.limits.TheConstants.{MAX_MESSAGES}
use Rattle.sp_msg.specs.Bodies.{HasGoodFieldsIn}
use Rattle.sp_msg.specs.declared.body.Body.{Body}
use Rattle.sp_msg.specs.declared.body.Body.TheVariants as bodies
use Rattle.sp_msg.specs.declared.effect.Effect.{Effect}
use Rattle.sp_msg.specs.declared.effect.Effect.TheVariants as effects
use Rattle.sp_msg.specs.declared.effect.Why.TheVariants as whys
use Rattle.sp_rules.specs.Answers.{ack_answer, epoch_answer, is_new, prio_answer, weight_answer}
use Rattle.sp_rules.specs.Arrivals.{read_by, unheard}
use Rattle.sp_rules.specs.Arts.{Arts}
use Rattle.sp_rules.specs.Documents.{after_publish, publish_effects, under_topology, version_effects}
use Rattle.sp_rules.specs.Flow.{FlowState, ends, flow_said}
use Rattle.sp_rules.specs.Topologies.{is_shut, removed_of, weights_in}
use Rattle.sp_topology.specs.declared.topology.Topology.{Topology}
use Rattle.sp_rules.specs.Handle.{Arrival, ack_item, handle, handle_all, heard_where, met, met_effects, offer_to, rel_answer_to, rel_item, weight_effects}
use Rattle.sp_rules.specs.Lives.{are_held, is_dated, judge_epoch, origin_said}
use Rattle.sp_rules.specs.Node.{NodeState}
use Rattle.sp_rules.specs.Parts.{Parts, flows_of, is_signed, nodes_of, with_flows}
use Rattle.sp_rules.specs.Pieces.{Piece, WeightPiece, PrioAckPiece, PrioPiece, ReportPiece, AckPiece, RelPiece, EpochPiece}
use Rattle.sp_rules.specs.Prio as prio
use Rattle.sp_rules.specs.Prio.{PrioState, admit_prio, judge_prio, peer_in, prio_effects}
use Rattle.sp_rules.specs.PrioPeer as rows
use Rattle.sp_rules.specs.PrioPeer.{PrioPeer, filled, landed, launch, launched, settled}
use Rattle.sp_rules.specs.Rel as rel
use Rattle.sp_rules.specs.Rel.{RelState, admit_ack, admit_rel, delivery, ended_by, is_end, is_to, judge_ack_of, judge_rel_of, rel_effects, reported}
use Rattle.sp_rules.specs.Rel.{ending, restart_effects}
use Rattle.sp_rules.specs.declared.kflow.FlowKind.{FlowKind}
use Rattle.sp_rules.specs.declared.kflow.FlowKind.TheVariants.{Plain, Paths}
use Rattle.sp_rules.specs.Steps.{document_effects}
use Rattle.sp_rules.specs.Store.{Store, less_expired, next_besides, oldest, said}
use Rattle.sp_rules.specs.Weights.{held as held_weight}
use Rattle.sp_rules.specs.declared.answers.Item.TheVariants as items
use Rattle.sp_rules.specs.declared.answers.PrioAnswer.{PrioAnswer}
use Rattle.sp_rules.specs.declared.answers.PrioAnswer.TheVariants as prios
use Rattle.sp_rules.specs.declared.store.Entry.{Entry}
use Rattle.sp_rules.specs.declared.store.TheConstants.{IDS}
use Rattle.laws_node.specs.Stores.{IsPrio}
use Rattle.laws_node.specs.Asked.{NewKeep}
use Rattle.laws_node.proofs.AskedLemmas.{new_left, new_right}
use Rattle.laws_node.proofs.FlowKinds.{prio_beside}
use Rattle.laws_node.proofs.Handles as judged
use Rattle.laws_node.proofs.Adopting.{publishing, reading}
use Rattle.laws_runs.proofs.PlaceFacts.{AllAway, Turns, admitted_turns, all_turn, inbox_turns, row_turns, turns_on, turns_same}
use Rattle.laws_runs.proofs.EachKind.{of_delivery, of_ending}
use Rattle.laws_runs.proofs.StoreEffects.{Ends_flow, Ends_kflow, Signs_it, Tells_krel, Tells_rel, Tells_version, Tells_weight}
use Rattle.laws_runs.proofs.StoreEffects.{AreAway, IsAway, Leads, away_both}
use Rattle.laws_runs.proofs.StoreFacts.{expired_away, expired_is}
use Rattle.laws_runs.proofs.StoreFacts.{expired_leads, gone_away, left_away, left_by_away, left_by_is, left_by_leads, left_is, left_leads}
use Rattle.laws_runs.proofs.StoreEffects.{leads_nowhere}
use Rattle.laws_runs.proofs.StoreFacts.{oldest_is, oldest_leads}

-- what a weight tells is of no place
pub weight_away : (body : Body) → AllAway (weight_effects body)
weight_away (bodies.Prio b) = λ place. tt
weight_away (bodies.Rel b) = λ place. tt
weight_away (bodies.Ack b) = λ place. tt
weight_away (bodies.Weight b) = λ place. (Tells_weight, tt)
weight_away (bodies.Krel b) = λ place. tt
weight_away (bodies.Kack b) = λ place. tt
weight_away (bodies.Epoch b) = λ place. tt

-- and so is what is told under a condition
pub either_away : (t : Bool) (es : List Effect) → AllAway es → AllAway (cond t es [])
either_away true es h = h
either_away false es h = λ place. tt

rel_away : (t : Bool) (body : Body) → AllAway (cond t (delivery body ∷ []) [])
rel_away true body = λ place. (of_delivery (IsAway place) (λ src seq payload. Tells_rel) (λ src seq payload. Tells_krel) body, tt)
rel_away false body = λ place. tt

ended_away : (t : Bool) (kind : FlowKind) (flow : Flow) → AllAway (cond t (ending kind flow ∷ []) [])
ended_away t kind flow = either_away t (ending kind flow ∷ []) (λ place. (of_ending (IsAway place) kind flow Ends_flow Ends_kflow, tt))

restart_away : (kind : FlowKind) (r : RelState) (v : NodeId) → AllAway (restart_effects kind r v)
restart_away kind r v = λ place. each place r.flows
  where
    each : (place : ℕ) (fs : List FlowState) → AreAway place (flat_map (ended_by kind v) fs)
    each place [] = tt
    each place (f ∷ fs) =
        away_both place (ended_by kind v f) (flat_map (ended_by kind v) fs) (ended_away (is_end v (ends f) && f.active) kind (ends f) place) (each place fs)

-- nothing is of no place
pub none_away : AllAway []
none_away = λ place. tt

-- a source that fits its field is below the number of ids
pub small_of : (format : ℕ) (body : Body) → IsPrio body → HasGoodFieldsIn format body → said (λ p. p.src.0) body < IDS
small_of format (bodies.Prio p) is good = omega (arith, (good_prio format p good).src.1, few_nodes format)
small_of format (bodies.Rel r) is good = absurd is
small_of format (bodies.Ack a) is good = absurd is
small_of format (bodies.Weight w) is good = absurd is
small_of format (bodies.Krel w) is good = absurd is
small_of format (bodies.Kack w) is good = absurd is
small_of format (bodies.Epoch w) is good = absurd is

-- what goes in flight changes neither the place nor its store
launched_stays : (q : PrioPeer) (e : Option Entry) → ((launched q e).peer ≡ q.peer) × ((launched q e).store ≡ q.store)
launched_stays q None = (refl, refl)
launched_stays q (Some e) = (refl, refl)

filled_stays : (room : ℕ) (q : PrioPeer) → ((filled room q).peer ≡ q.peer) × ((filled room q).store ≡ q.store)
filled_stays zero q = (refl, refl)
filled_stays (suc room) q =
    let first = launched_stays q (next_besides q.store q.flight q.last) in
    let others = filled_stays room (launch q) in
    (others.0 ∙ first.0, others.1 ∙ first.1)

module _ (capacity format : ℕ) where
  -- ---- pieces

  acked_turns : (p : PrioState) (v number : ℕ) → PlacesAre capacity p → Turns capacity p (prio.acked_effects p v number) (prio.acked p v number)
  acked_turns p v number h =
      let q = peer_in p v in
      let pairs = landed q number in
      row_turns capacity p v (rows.acked q number) (rows.acked_effects q number) refl (λ s. left_is capacity q.store pairs s)
      (λ e s. subst (λ n. Leads capacity v (shelf q.store) (rows.left_effects n q.store pairs) (shelf (rows.less_all q.store pairs))) (sym e)
      (left_leads capacity v q.store pairs s))
      (λ place other. left_away place q.peer q.store pairs other)
      (λ none. ap (λ (r : PrioPeer). rows.acked_effects r number) none) h

  -- a row whose store stays
  row_stays : (p : PrioState) (v : ℕ) (r : PrioPeer) → r.peer ≡ (peer_in p v).peer → r.store ≡ (peer_in p v).store → PlacesAre capacity p
      → Turns capacity p [] (prio.with_peer p v r)
  row_stays p v r e f h =
      row_turns capacity p v r [] e (λ s. subst (StoreIs capacity) (sym f) s)
      (λ g s. subst (λ (t : Store). Leads capacity v (shelf (peer_in p v).store) [] (shelf t)) (sym f) (leads_nowhere capacity v (shelf (peer_in p v).store)))
      (λ place other. tt) (λ none. refl) h

  heard_turns : (answer : PrioAnswer) (v : NodeId) (number : ℕ) (p : Parts) → PlacesAre capacity p.prio
      → Turns capacity p.prio [] (heard_where answer v number p).prio
  heard_turns prios.New v number p h = row_stays p.prio v.0 (rows.heard (peer_in p.prio v.0) number) refl refl h
  heard_turns prios.Seen v number p h = row_stays p.prio v.0 (rows.heard (peer_in p.prio v.0) number) refl refl h
  heard_turns prios.BadEnd v number p h = turns_same capacity p.prio p.prio [] none_away refl refl h
  heard_turns prios.Expired v number p h = turns_same capacity p.prio p.prio [] none_away refl refl h
  heard_turns prios.BadSig v number p h = turns_same capacity p.prio p.prio [] none_away refl refl h
  heard_turns prios.Epoch v number p h = turns_same capacity p.prio p.prio [] none_away refl refl h

  same_prio : (t : Bool) (x p : Parts) → x.prio ≡ p.prio → (cond t x p).prio ≡ p.prio
  same_prio true x p e = e
  same_prio false x p e = refl

  -- windows alone change
  either_stays : (t : Bool) (x p : Parts) → x.prio.inbox ≡ p.prio.inbox → x.prio.peers ≡ p.prio.peers
      → ((cond t x p).prio.inbox ≡ p.prio.inbox) × ((cond t x p).prio.peers ≡ p.prio.peers)
  either_stays true x p e f = (e, f)
  either_stays false x p e f = (refl, refl)

  -- the frame of another life of its neighbour takes nothing from a place
  pub greeted_turns : (t : Bool) (v : NodeId) (p : Parts) → PlacesAre capacity p.prio
      → Turns capacity p.prio [] (cond t (unheard v p) p).prio
  greeted_turns true v p h = row_stays p.prio v.0 (rows.unheard (peer_in p.prio v.0)) refl refl h
  greeted_turns false v p h = turns_same capacity p.prio p.prio [] none_away refl refl h

  quiet_turns : (old new : PrioState) (es : List Effect) → AllAway es → new ≡ old → PlacesAre capacity old → Turns capacity old es new
  quiet_turns old new es away e h = turns_same capacity old new es away (ap (λ (p : PrioState). p.inbox) e) (ap (λ (p : PrioState). p.peers) e) h

  one_turns : (arts : Arts) (at : Arrival) (p : Parts) (piece : Piece)
      → NewKeep (λ o. HasGoodFieldsIn format o.body) (handle arts at p piece).answered
      → PlacesAre capacity p.prio
      → Turns capacity p.prio (handle arts at p piece).effects (handle arts at p piece).parts.prio
  one_turns arts at p (WeightPiece o) new h =
      let t = is_new (items.Weight (weight_answer (is_signed arts at.fixed o) (offer_to at.fixed.me p.weights o.body))) in
      quiet_turns p.prio (cond t (record p { weights = held_weight p.weights o }) p).prio (cond t (weight_effects o.body) [])
      (either_away t (weight_effects o.body) (weight_away o.body)) (same_prio t (record p { weights = held_weight p.weights o }) p refl) h
  one_turns arts at p (PrioAckPiece number) new h = acked_turns p.prio at.from.0 number h
  one_turns arts at p (PrioPiece number o) new h =
      let answer = prio_answer (is_signed arts at.fixed o) (is_dated p.lives o.body) (judge_prio p.prio o.body at.now) in
      let admitted = record p { prio = admit_prio p.prio o (Some at.from) } in
      let es = prio_effects p.prio o (Some at.from) in
      let first : Turns capacity p.prio (cond (is_new (items.Prio answer)) es []) (cond (is_new (items.Prio answer)) admitted p).prio =
      elim (cases_Bool (is_new (items.Prio answer))) [
        | inl t ↦
            let is =
            judged.is_prio p.prio o.body at.now (judged.new_prio (is_signed arts at.fixed o) (is_dated p.lives o.body) (judge_prio p.prio o.body at.now) t).1 in
            let done = admitted_turns capacity p.prio o (Some at.from) is (small_of format o.body is (new.0 t)) h in
            rw t done
        | inr t ↦ let same = turns_same capacity p.prio p.prio [] none_away refl refl h in rw t same
      ] in
      let after = cond (is_new (items.Prio answer)) admitted p in
      subst (λ xs. Turns capacity p.prio xs (heard_where answer at.from number after).prio) (append-nil (cond (is_new (items.Prio answer)) es []))
      (turns_on capacity p.prio after.prio (heard_where answer at.from number after).prio (cond (is_new (items.Prio answer)) es []) [] first
      (heard_turns answer at.from number after first.are))
  one_turns arts at p (ReportPiece kind flow sboot dboot base have) new h =
      let r = reported (flows_of kind p) at.from flow base have in
      quiet_turns p.prio (handle arts at p (ReportPiece kind flow sboot dboot base have)).parts.prio [] none_away
      (same_prio (are_held p.lives flow sboot dboot) (with_flows kind r p) p (prio_beside kind r p)) h
  one_turns arts at p (AckPiece kind flow o) new h =
      let r = flows_of kind p in
      let t = is_new (ack_item kind (ack_answer (is_signed arts at.fixed o) (is_dated p.lives o.body) (judge_ack_of r flow o.body))) in
      quiet_turns p.prio (cond t (with_flows kind (admit_ack r o) p) p).prio (cond t [] []) (either_away t [] none_away)
      (same_prio t (with_flows kind (admit_ack r o) p) p (prio_beside kind (admit_ack r o) p)) h
  one_turns arts at p (RelPiece kind flow o) new h =
      let r = flows_of kind p in
      let t = is_new (rel_item kind (rel_answer_to arts at p (judge_rel_of r flow o.body) o)) in
      quiet_turns p.prio (cond t (with_flows kind (admit_rel r o) p) p).prio (cond t (rel_effects r o) [])
      (either_away t (rel_effects r o) (rel_away (is_to r (flow_said o.body)) o.body))
      (same_prio t (with_flows kind (admit_rel r o) p) p (prio_beside kind (admit_rel r o) p)) h
  one_turns arts at p (EpochPiece o) new h =
      let t = is_new (items.Epoch (epoch_answer (is_signed arts at.fixed o) (judge_epoch at.fixed.me p.lives o.body))) in
      let v = origin_said o.body in
      let es = met_effects p v in
      let ended = restart_effects Plain p.rel v in
      let away = either_away t es (λ place. away_both place ended (restart_effects Paths p.kflow.flows v) (restart_away Plain p.rel v place)
      (restart_away Paths p.kflow.flows v place)) in
      let same = either_stays t (met p o) p refl refl in
      turns_same capacity p.prio (cond t (met p o) p).prio (cond t es []) away same.0 same.1 h

  -- what a list of pieces tells of the place
  pub all_turns : (arts : Arts) (at : Arrival) (p : Parts) (pieces : List Piece)
      → NewKeep (λ o. HasGoodFieldsIn format o.body) (handle_all arts at p pieces).answered → PlacesAre capacity p.prio
      → Turns capacity p.prio (handle_all arts at p pieces).effects (handle_all arts at p pieces).parts.prio
  all_turns arts at p [] new h = turns_same capacity p.prio p.prio [] none_away refl refl h
  all_turns arts at p (piece ∷ pieces) new h =
      let first = handle arts at p piece in
      let others = handle_all arts at first.parts pieces in
      let one = one_turns arts at p piece (new_left (λ o. HasGoodFieldsIn format o.body) first.answered others.answered new) h in
      let rest = all_turns arts at first.parts pieces (new_right (λ o. HasGoodFieldsIn format o.body) first.answered others.answered new) one.are in
      turns_on capacity p.prio first.parts.prio others.parts.prio first.effects others.effects one rest

  -- ---- the other calls

  -- what a neighbour carried tells nothing
  pub carried_turns : (p : PrioState) (v : ℕ) → PlacesAre capacity p → Turns capacity p [] (prio.carried p v)
  carried_turns p v h =
      let q = settled (peer_in p v) in
      let same = filled_stays (MAX_MESSAGES - length q.flight) q in
      row_stays p v (rows.carried (peer_in p v)) same.0 same.1 h

  -- what expires leaves its place
  pub expired_turns : (p : PrioState) (now : ℕ) → PlacesAre capacity p → Turns capacity p (prio.expired_effects p now) (prio.expired p now)
  expired_turns p now h =
      let mid = record p { inbox = less_expired p.inbox now } in
      let one =
      inbox_turns capacity p mid (rows.expired_effects 0 p.inbox now) refl (expired_leads capacity 0 p.inbox now h.inbox)
      (expired_is capacity p.inbox now h.inbox)
      (λ place other. expired_away place 0 p.inbox now other) h in
      let two = all_turn capacity mid (prio.expired p now) (λ q. rows.expired q now) (λ q. rows.expired_effects q.peer q.store now)
      (λ q s. record {
        key = refl;
        here = expired_leads capacity q.peer q.store now s;
        away = λ place other. expired_away place q.peer q.store now other;
        after = expired_is capacity q.store now s;
      }) refl refl one.are in
      turns_on capacity p mid (prio.expired p now) (rows.expired_effects 0 p.inbox now)
      (flat_map (λ (q : PrioPeer). rows.expired_effects q.peer q.store now) p.peers) one two

  -- what a client takes leaves its place
  pub taken_turns : (p : PrioState) → PlacesAre capacity p → Turns capacity p (rows.gone 0 whys.Taken (oldest p.inbox)) (prio.taken p)
  taken_turns p h =
      inbox_turns capacity p (prio.taken p) (rows.gone 0 whys.Taken (oldest p.inbox)) refl (oldest_leads capacity 0 p.inbox h.inbox)
      (oldest_is capacity p.inbox h.inbox)
      (λ place other. gone_away place 0 whys.Taken (oldest p.inbox) other) h

  -- another version of the topology
  pub closed_turns : (p : PrioState) (least : List ℕ) (gone : List NodeId) → PlacesAre capacity p
      → Turns capacity p (prio.closed_effects p least gone) (prio.closed p least gone)
  closed_turns p least gone h =
      all_turn capacity p (prio.closed p least gone) (rows.closed least gone) (rows.closed_effects least gone)
      (λ q s. record {
        key = refl;
        here = left_by_leads whys.Withdrawn (λ is. absurd (cc)) capacity q.peer q.store (rows.leaves (is_shut least q.edge) gone) s;
        away = λ place other. left_by_away whys.Withdrawn place q.peer (filter (rows.leaves (is_shut least q.edge) gone) q.store.entries) other;
        after = left_by_is capacity q.store (rows.leaves (is_shut least q.edge) gone) s;
      }) refl refl h

  ending_away : (kind : FlowKind) (gone : List NodeId) (flows : List FlowState) → AllAway (flat_map (rel.ended_effect kind gone) flows)
  ending_away kind gone [] = λ place. tt
  ending_away kind gone (f ∷ flows) =
      λ place. away_both place (rel.ended_effect kind gone f) (flat_map (rel.ended_effect kind gone) flows)
      (ended_away (f.active && rel.is_over gone (ends f)) kind (ends f) place) (ending_away kind gone flows place)

  flows_away : (p : Parts) (gone : List NodeId) → AllAway (rel.closed_effects Plain p.rel gone ++ rel.closed_effects Paths p.kflow.flows gone)
  flows_away p gone =
      λ place. away_both place (rel.closed_effects Plain p.rel gone) (rel.closed_effects Paths p.kflow.flows gone)
      (ending_away Plain gone p.rel.flows place) (ending_away Paths gone p.kflow.flows.flows place)

  version_turns : (n : NodeState) (bytes : List ℕ) (t : Topology) → PlacesAre capacity n.parts.prio
      → Turns capacity n.parts.prio (version_effects n t) (under_topology n bytes t).parts.prio
  version_turns n bytes t h =
      let least = weights_in t.edges in
      let gone = removed_of (nodes_of t) t.edges in
      let p = n.parts.prio in
      let q = prio.closed p least gone in
      let one = closed_turns p least gone h in
      let ended = rel.closed_effects Plain n.parts.rel gone ++ rel.closed_effects Paths n.parts.kflow.flows gone in
      let two = turns_on capacity p q q (prio.closed_effects p least gone) ended one
      (turns_same capacity q q ended (flows_away n.parts gone) refl refl one.are) in
      turns_on capacity p p q (effects.Version t.version ∷ []) (prio.closed_effects p least gone ++ ended)
      (turns_same capacity p p (effects.Version t.version ∷ []) (λ place. (Tells_version, tt)) refl refl h) two

  -- a published version tells nothing of a place but what leaves
  pub publish_turns : (arts : Arts) (n : NodeState) (bytes : List ℕ) → PlacesAre capacity n.parts.prio
      → Turns capacity n.parts.prio (publish_effects arts n bytes) (after_publish arts n bytes).parts.prio
  publish_turns arts n bytes h =
      publishing arts n bytes (λ m told. Turns capacity n.parts.prio told m.parts.prio)
      (turns_same capacity n.parts.prio n.parts.prio [] none_away refl refl h) (λ d reads by. version_turns n bytes d.topology h)

  -- nor does one that was read
  pub read_turns : (arts : Arts) (n : NodeState) (document : Option (List ℕ)) → PlacesAre capacity n.parts.prio
      → Turns capacity n.parts.prio (document_effects arts n document) (read_by arts n document).parts.prio
  read_turns arts n document h =
      reading arts n document (λ m told. Turns capacity n.parts.prio told m.parts.prio)
      (turns_same capacity n.parts.prio n.parts.prio [] none_away refl refl h) (λ bytes d is reads by. version_turns n bytes d.topology h)

  -- a signature first
  pub signed_turns : (p new : PrioState) (bytes : List ℕ) (es : List Effect) → PlacesAre capacity p → Turns capacity p es new
      → Turns capacity p (effects.Signed bytes ∷ es) new
  signed_turns p new bytes es h turns =
      turns_on capacity p p new (effects.Signed bytes ∷ []) es (turns_same capacity p p (effects.Signed bytes ∷ []) (λ place. (Signs_it, tt)) refl refl h) turns
