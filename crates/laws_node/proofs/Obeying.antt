-- What a topology withdraws stays withdrawn in the parts of a node, whatever comes.
use Rattle.std.proofs.Common.{All, ap, cond, Bool, ◌&&◌, ◌||◌, ◌==◌, ◌-◌, ◌≡◌, ◌∙◌, ◌+◌, ℕ, zero, suc, true, false, not, List, [], ◌∷◌, filter, length, map}
use Rattle.std.proofs.Common.{Option, Some, None, refl, subst, sym}
use Rattle.std.specs.List.{list_any}
use Rattle.sp_base.specs.declared.id.Flow.{Flow}
use Rattle.sp_base.specs.declared.id.NodeId.{NodeId}
use Rattle.sp_base.specs.declared.limits.TheConstants.{MAX_MESSAGES}
use Rattle.sp_msg.specs.declared.body.Ack.{Ack}
use Rattle.sp_msg.specs.declared.body.Body.{Body}
use Rattle.sp_msg.specs.declared.body.Body.TheVariants as bodies
use Rattle.sp_msg.specs.Bodies.{payload_of}
use Rattle.sp_msg.specs.Masks.{bits}
use Rattle.sp_msg.specs.Views.{names_edge}
use Rattle.sp_msg.specs.declared.body.Prio.{Prio}
use Rattle.sp_msg.specs.declared.kept.Kept.{Kept}
use Rattle.sp_rules.proofs.FlowJudged.{both_nodes, found_ends, room_is}
use Rattle.sp_rules.proofs.FlowJudged as judged_flows
use Rattle.sp_rules.specs.Answers.{ack_answer, epoch_answer, is_new, prio_answer, rel_answer, weight_answer}
use Rattle.sp_rules.specs.Arrivals.{greeted}
use Rattle.sp_rules.specs.Arts.{Arts}
use Rattle.sp_rules.specs.Flow.{FlowState, acknowledged_by, ends, flow_said, is_flow, no_flow, pushed, received}
use Rattle.sp_rules.specs.Handle.{Arrival, ack_item, handle, handle_all, heard_where, met, offer_to, rel_item}
use Rattle.sp_rules.specs.Kflow.{came_over}
use Rattle.sp_rules.specs.Lives.{are_held, is_dated, judge_epoch, origin_said}
use Rattle.sp_rules.specs.Parts.{Parts, flows_of, is_signed, with_flows}
use Rattle.sp_rules.specs.Pieces.{Piece, WeightPiece, PrioAckPiece, PrioPiece, ReportPiece, AckPiece, RelPiece, EpochPiece}
use Rattle.sp_rules.specs.Prio.{PrioState, is_node, is_there}
use Rattle.sp_rules.specs.Prio as prio
use Rattle.sp_rules.specs.PrioPeer.{PrioPeer, has_end_in, leaves}
use Rattle.sp_rules.specs.PrioPeer as rows
use Rattle.sp_rules.specs.Rel.{RelState, ended_where, flow_in, is_one_of, is_over}
use Rattle.sp_rules.specs.Rel as rel
use Rattle.sp_rules.specs.Choices.{less_first}
use Rattle.sp_rules.specs.Store.{Store, arriving, evicted, has_id, is_expired, next_besides, put, removed, said, without}
use Rattle.sp_rules.specs.declared.answers.Item.TheVariants as items
use Rattle.sp_rules.specs.declared.answers.PrioAnswer.{PrioAnswer}
use Rattle.sp_rules.specs.declared.answers.PrioAnswer.TheVariants as prios
use Rattle.sp_rules.specs.Weights.{held}
use Rattle.sp_rules.specs.declared.kflow.FlowKind.{FlowKind}
use Rattle.sp_rules.specs.declared.kflow.FlowKind.TheVariants.{Plain, Paths}
use Rattle.sp_rules.specs.declared.rel.AckJudged.TheVariants as acks
use Rattle.sp_rules.specs.declared.rel.RelJudged.TheVariants as rels
use Rattle.sp_rules.specs.declared.prio.PrioJudged.{PrioJudged}
use Rattle.sp_rules.specs.declared.prio.PrioJudged.TheVariants as judged
use Rattle.sp_rules.specs.declared.store.Entry.{Entry}
use Rattle.laws_node.specs.Withdrawals.{FlowObeys, PartsObey, RowObeys}
use Rattle.laws_node.proofs.Handles.{new_ack, new_prio, new_rel}
use Rattle.laws_node.proofs.Lost.{all_filter, all_less_first}
use Rattle.laws_node.proofs.Priority.{all_map}
use Rattle.laws_node.proofs.Tables.{all_push, all_replaced, cond_either, first_changes}

judged_new : PrioJudged → Bool
judged_new judged.New = true
judged_new _ = false

-- ---- a row, under these weights and with these removed nodes

module _ (weights : List ℕ) (gone : List NodeId) where
  abbrev pub Row : PrioPeer → Type 0
  Row q = RowObeys weights gone q

  abbrev pub Free : Entry → Type 0
  Free e = has_end_in gone e ≡ false

  -- fewer entries
  fewer : (q : PrioPeer) (s : Store) (flight : List (ℕ × ℕ)) → (q.store.entries ≡ [] → s.entries ≡ []) → (All Free q.store.entries → All Free s.entries) → Row q
      → Row (record q { store = s; flight = flight })
  fewer q s flight none each h = record { shut = h.shut; empty = λ is. none (h.empty is); ends = each h.ends }

  -- the first that passes leaves
  less_none : (test : Entry → Bool) (es : List Entry) → es ≡ [] → less_first test es ≡ []
  less_none test es e = ap (less_first test) e

  filter_none : (test : Entry → Bool) (es : List Entry) → es ≡ [] → filter test es ≡ []
  filter_none test es e = ap (filter test) e

  launched_obeys : (q : PrioPeer) (o : Option Entry) → Row q → Row (rows.launched q o)
  launched_obeys q None h = h
  launched_obeys q (Some e) h = record { shut = h.shut; empty = h.empty; ends = h.ends }

  filled_obeys : (room : ℕ) (q : PrioPeer) → Row q → Row (rows.filled room q)
  filled_obeys zero q h = h
  filled_obeys (suc room) q h = filled_obeys room (rows.launch q) (launched_obeys q (next_besides q.store q.flight q.last) h)

  pub carried_obeys : (q : PrioPeer) → Row q → Row (rows.carried q)
  carried_obeys q h =
      filled_obeys (MAX_MESSAGES - length (rows.settled q).flight) (rows.settled q) (record { shut = h.shut; empty = h.empty; ends = h.ends })

  all_left : (s : Store) (pairs : List (ℕ × ℕ)) → All Free s.entries → All Free (rows.less_all s pairs).entries
  all_left s [] h = h
  all_left s (pair ∷ pairs) h = all_left (removed s pair.1) pairs (all_less_first Free (has_id pair.1) s.entries h)

  none_left : (s : Store) (pairs : List (ℕ × ℕ)) → s.entries ≡ [] → (rows.less_all s pairs).entries ≡ []
  none_left s [] h = h
  none_left s (pair ∷ pairs) h = none_left (removed s pair.1) pairs (less_none (has_id pair.1) s.entries h)

  pub acked_obeys : (number : ℕ) (q : PrioPeer) → Row q → Row (rows.acked q number)
  acked_obeys number q h =
      let gone_pairs = rows.landed q number in
      fewer q (rows.less_all q.store gone_pairs) _ (none_left q.store gone_pairs) (all_left q.store gone_pairs) h

  heard_obeys : (number : ℕ) (q : PrioPeer) → Row q → Row (rows.heard q number)
  heard_obeys number q h = record { shut = h.shut; empty = h.empty; ends = h.ends }

  pub expired_obeys : (now : ℕ) (q : PrioPeer) → Row q → Row (rows.expired q now)
  expired_obeys now q h = record {
    shut = h.shut;
    empty = λ is. filter_none (λ e. not (is_expired now e)) q.store.entries (h.empty is);
    ends = all_filter Free (λ e. not (is_expired now e)) q.store.entries h.ends;
  }

  -- a message that has no removed end is put in
  put_obeys : (s : Store) (o : Kept) → ((id : ℕ) → Free (record { id = id; kept = o })) → All Free s.entries → All Free (put s o).entries
  put_obeys s o new h = go (evicted s o) (all_push Free s.entries (record { id = s.last + 1; kept = o }) h (new (s.last + 1)))
    where
      go : (v : Option Entry) → All Free (arriving s o) → All Free (without v (arriving s o))
      go None all = all
      go (Some e) all = all_less_first Free (has_id e.id) (arriving s o) all

  not_shut : (a b shut : Bool) → (a && b && not shut) ≡ true → shut ≡ false
  not_shut true true false e = refl
  not_shut true true true e = absurd (cc)
  not_shut true false shut e = absurd (cc)
  not_shut false b shut e = absurd (cc)

  given_obeys : (o : Kept) (came : Option NodeId) → ((id : ℕ) → Free (record { id = id; kept = o })) → (q : PrioPeer) → Row q → Row (rows.given o came q)
  given_obeys o came new q h = by (rows.goes_to o.body came q) refl
    where
      by : (t : Bool) → rows.goes_to o.body came q ≡ t → Row (cond t (record q { store = put q.store o }) q)
      by true goes = record {
        shut = h.shut;
        empty = λ is.
            let free = not_shut (not (rows.is_from came q.peer)) (names_edge (said (λ p. bits p.mask) o.body) q.edge) q.shut goes in
            absurd (let both : false ≡ true = sym free ∙ is in cc);
        ends = put_obeys q.store o new h.ends;
      }
      by false goes = h

  -- ---- the priority part

  pub record PrioObeys (p : PrioState) : Type 0 where
    pub known : p.removed ≡ gone
    pub rows_are : All Row p.peers

  pub one_peer : (p : PrioState) (v : ℕ) (f : PrioPeer → PrioPeer) → ((q : PrioPeer) → Row q → Row (f q)) → PrioObeys p
      → PrioObeys (prio.with_peer p v (f (prio.peer_in p v)))
  one_peer p v f keeps h = record { known = h.known; rows_are = first_changes Row (prio.is_peer v) prio.no_peer f keeps p.peers h.rows_are }

  pub admitted_obeys : (p : PrioState) (o : Kept) (came : Option NodeId) → ((id : ℕ) → Free (record { id = id; kept = o })) → PrioObeys p
      → PrioObeys (prio.admit_prio p o came)
  admitted_obeys p o came new h = by (prio.is_here p o.body)
    where
      by : (t : Bool)
          → PrioObeys (cond t (record (prio.marked p o.body came) { inbox = put p.inbox o })
          (record (prio.marked p o.body came) { peers = map (rows.given o came) p.peers }))
      by true = record { known = h.known; rows_are = h.rows_are }
      by false = record { known = h.known; rows_are = all_map Row Row (rows.given o came) (given_obeys o came new) p.peers h.rows_are }

  -- who is there isn't removed
  there : (a b : Bool) → (a && not b) ≡ true → b ≡ false
  there true false e = refl
  there true true e = absurd (cc)
  there false b e = absurd (cc)

  stays : (p : PrioState) → PrioObeys p → (id : ℕ) → is_there p id ≡ true → is_node gone id ≡ false
  stays p h id e = ap (λ (ns : List NodeId). is_node ns id) (sym h.known) ∙ there (is_node p.nodes id) (is_node p.removed id) e

  -- a message between nodes that are there has no removed end
  pub between : (p : PrioState) (m : Prio) → PrioObeys p → is_there p m.src.0 ≡ true → is_there p m.dst.0 ≡ true
      → (o : Kept) → o.body ≡ bodies.Prio m → (id : ℕ) → Free (record { id = id; kept = o })
  between p m h src dst o is id =
      let one : is_node gone m.src.0 ≡ false = stays p h m.src.0 src in
      let two : is_node gone m.dst.0 ≡ false = stays p h m.dst.0 dst in
      subst (λ (b : Body). (list_any (λ n. n.0 == said (λ p. p.src.0) b) gone || list_any (λ n. n.0 == said (λ p. p.dst.0) b) gone) ≡ false) (sym is)
      (rw one two)

  ends_there : (a b c : Bool) → (not a || not b || c) ≡ false → (a ≡ true) × (b ≡ true)
  ends_there true true c e = (refl, refl)
  ends_there true false c e = absurd (cc)
  ends_there false b c e = absurd (cc)

  passed : (t : Bool) (a b : PrioJudged) → judged_new a ≡ false → cond t a b ≡ judged.New → (t ≡ false) × (b ≡ judged.New)
  unfolding judged_new
  passed true a b other e = absurd (let both : false ≡ true = sym other ∙ ap judged_new e in cc)
  passed false a b other e = (refl, e)

  -- a new message is one
  new_between : (p : PrioState) (o : Kept) (now : ℕ) → PrioObeys p → prio.judge_prio p o.body now ≡ judged.New → (id : ℕ) → Free (record { id = id; kept = o })
  unfolding judged_new
  new_between p o now h new = go o.body refl new
    where
      go : (b : Body) → o.body ≡ b → prio.judge_prio p b now ≡ judged.New → (id : ℕ) → Free (record { id = id; kept = o })
      go (bodies.Prio m) is new =
          let one = passed (not (is_there p m.src.0) || not (is_there p m.dst.0) || (m.src.0 == m.dst.0)) judged.BadEnd _ refl new in
          let both = ends_there (is_there p m.src.0) (is_there p m.dst.0) (m.src.0 == m.dst.0) one.0 in
          between p m h both.0 both.1 o is
      go (bodies.Rel m) is new = absurd (cc)
      go (bodies.Ack m) is new = absurd (cc)
      go (bodies.Weight m) is new = absurd (cc)
      go (bodies.Krel m) is new = absurd (cc)
      go (bodies.Kack m) is new = absurd (cc)
      go (bodies.Epoch m) is new = absurd (cc)

  -- ---- flows

  abbrev pub Flow_ok : FlowState → Type 0
  Flow_ok f = FlowObeys gone f

  pub record RelObeys (r : RelState) : Type 0 where
    pub known : r.removed ≡ gone
    pub flows_are : All Flow_ok r.flows

  -- a flow between nodes that are there isn't over
  pub not_over : (r : RelState) (flow : Flow) → RelObeys r → rel.is_node r flow.src ≡ true → rel.is_node r flow.dst ≡ true → is_over gone flow ≡ false
  not_over r flow h src dst =
      let one : is_one_of gone flow.src ≡ false = remains flow.src src in
      let two : is_one_of gone flow.dst ≡ false = remains flow.dst dst in
      rw one two
    where
      remains : (u : NodeId) → rel.is_node r u ≡ true → is_one_of gone u ≡ false
      remains u e = ap (λ (ns : List NodeId). is_one_of ns u) (sym h.known) ∙ there (is_one_of r.nodes u) (is_one_of r.removed u) e

  -- the row of such a flow changes
  pub live_flow : (r : RelState) (flow : Flow) (g : FlowState) → ends g ≡ flow → is_over gone flow ≡ false → RelObeys r → RelObeys (rel.with_flow r flow g)
  live_flow r flow g same free h = record {
    known = h.known;
    flows_are = all_replaced Flow_ok Flow_ok (is_flow flow) g r.flows (λ f k. k)
        (λ f found k over. absurd (let both : true ≡ false = sym over ∙ ap (is_over gone) same ∙ free in cc)) h.flows_are;
  }

  -- or it changes nothing of whether it is active
  pub same_flow : (r : RelState) (flow : Flow) (f : FlowState → FlowState) → ((g : FlowState) → Flow_ok g → Flow_ok (f g)) → RelObeys r
      → RelObeys (rel.with_flow r flow (f (flow_in r.flows flow)))
  same_flow r flow f keeps h = record { known = h.known; flows_are = first_changes Flow_ok (is_flow flow) (no_flow flow) f keeps r.flows h.flows_are }

  reported_obeys : (r : RelState) (v : NodeId) (flow : Flow) (base have : ℕ) → RelObeys r → RelObeys (rel.reported r v flow base have)
  reported_obeys r v flow base have h = go (flow_in r.flows flow).active
    where
      go : (t : Bool) → RelObeys (cond t (rel.with_peer r v (rel.told (rel.peer_in r.peers v) flow base have)) r)
      go true = record { known = h.known; flows_are = h.flows_are }
      go false = h

  pub served_obeys : (r : RelState) (v : NodeId) (place : Option ℕ) → RelObeys r → RelObeys (rel.served_at r v place)
  served_obeys r v None h = h
  served_obeys r v (Some place) h = record { known = h.known; flows_are = h.flows_are }

  -- an acknowledgement of a flow whose ends are there
  ack_obeys : (r : RelState) (flow : Flow) (o : Kept) → RelObeys r → rel.judge_ack_of r flow o.body ≡ acks.New → RelObeys (rel.admit_ack r o)
  ack_obeys r flow o h new = go o.body refl new
    where
      -- whatever kind of acknowledgement it is
      admits : (a : Ack) → flow_said o.body ≡ (record { src = a.src; dst = a.dst }) → rel.judge_ack r flow a ≡ acks.New → RelObeys (rel.admit_ack r o)
      admits a is new =
          let both = both_nodes r flow a.src a.dst (judged_flows.new_ack r flow a new).ends in
          live_flow r (flow_said o.body) (acknowledged_by (flow_in r.flows (flow_said o.body)) o) (found_ends r.flows (flow_said o.body))
          (ap (is_over gone) is ∙ not_over r (record { src = a.src; dst = a.dst }) h both.0 both.1) h

      go : (b : Body) → o.body ≡ b → rel.judge_ack_of r flow b ≡ acks.New → RelObeys (rel.admit_ack r o)
      go (bodies.Ack a) is new = admits a (ap flow_said is) new
      go (bodies.Kack a) is new = admits (rel.plain_ack a) (ap flow_said is) new
      go (bodies.Rel a) is new = absurd (cc)
      go (bodies.Prio a) is new = absurd (cc)
      go (bodies.Weight a) is new = absurd (cc)
      go (bodies.Krel a) is new = absurd (cc)
      go (bodies.Epoch a) is new = absurd (cc)

  rel_obeys : (r : RelState) (flow : Flow) (o : Kept) → RelObeys r → rel.judge_rel_of r flow o.body ≡ rels.New → RelObeys (rel.admit_rel r o)
  rel_obeys r flow o h new = go o.body refl new
    where
      -- whatever kind of message it is
      admits : (src dst : NodeId) (seq : ℕ) → flow_said o.body ≡ (record { src = src; dst = dst }) → rel.judge_rel r flow src dst seq ≡ rels.New
          → RelObeys (rel.admit_rel r o)
      admits src dst seq is new =
          let both = both_nodes r flow src dst (judged_flows.new_rel r flow src dst seq new).ends in
          let said_flow = flow_said o.body in
          let f = flow_in r.flows said_flow in
          live_flow r said_flow (cond (rel.is_to r said_flow) (received f (payload_of o.body)) (pushed f o))
          (cond_either (λ g. ends g ≡ said_flow) (rel.is_to r said_flow) (received f (payload_of o.body)) (pushed f o) (found_ends r.flows said_flow)
          (found_ends r.flows said_flow))
          (ap (is_over gone) is ∙ not_over r (record { src = src; dst = dst }) h both.0 both.1) h

      go : (b : Body) → o.body ≡ b → rel.judge_rel_of r flow b ≡ rels.New → RelObeys (rel.admit_rel r o)
      go (bodies.Rel m) is new = admits m.src m.dst m.seq (ap flow_said is) new
      go (bodies.Krel m) is new = admits m.src m.dst m.seq (ap flow_said is) new
      go (bodies.Ack m) is new = absurd (cc)
      go (bodies.Prio m) is new = absurd (cc)
      go (bodies.Weight m) is new = absurd (cc)
      go (bodies.Kack m) is new = absurd (cc)
      go (bodies.Epoch m) is new = absurd (cc)

  -- flows of a node that lives anew aren't active
  restarted_obeys : (r : RelState) (v : NodeId) → RelObeys r → RelObeys (rel.restarted r v)
  restarted_obeys r v h = record { known = h.known; flows_are = all_map Flow_ok Flow_ok (rel.flow_less v) less r.flows h.flows_are }
    where
      less : (f : FlowState) → Flow_ok f → Flow_ok (rel.flow_less v f)
      less f ok = cond_either Flow_ok (rel.is_end v (ends f)) (no_flow (ends f)) f (λ over. refl) ok

  -- ---- all parts

  abbrev pub Whole : Parts → Type 0
  Whole p = PartsObey weights gone p

  pub of_prio : (p : Parts) (s : PrioState) → PrioObeys s → Whole p → Whole (record p { prio = s })
  of_prio p s k h =
      record { least = h.least; prio = k.known; rows = k.rows_are; rel = h.rel; flows = h.flows; kflow = h.kflow; on_paths = h.on_paths }

  pub of_flows : (kind : FlowKind) (p : Parts) (r : RelState) → RelObeys r → Whole p → Whole (with_flows kind r p)
  of_flows Plain p r k h =
      record { least = h.least; prio = h.prio; rows = h.rows; rel = k.known; flows = k.flows_are; kflow = h.kflow; on_paths = h.on_paths }
  of_flows Paths p r k h =
      record { least = h.least; prio = h.prio; rows = h.rows; rel = h.rel; flows = h.flows; kflow = k.known; on_paths = k.flows_are }

  pub prio_part : (p : Parts) → Whole p → PrioObeys p.prio
  prio_part p h = record { known = h.prio; rows_are = h.rows }

  pub flows_part : (kind : FlowKind) (p : Parts) → Whole p → RelObeys (flows_of kind p)
  flows_part Plain p h = record { known = h.rel; flows_are = h.flows }
  flows_part Paths p h = record { known = h.kflow; flows_are = h.on_paths }

  where_new_obeys : (t : Bool) (new old : Parts) → (t ≡ true → Whole new) → Whole old → Whole (cond t new old)
  where_new_obeys true new old n o = n refl
  where_new_obeys false new old n o = o

  met_obeys : (p : Parts) (o : Kept) → Whole p → Whole (met p o)
  met_obeys p o h =
      let r = restarted_obeys p.rel (origin_said o.body) (flows_part Plain p h) in
      let f = restarted_obeys p.kflow.flows (origin_said o.body) (flows_part Paths p h) in
      record { least = h.least; prio = h.prio; rows = h.rows; rel = r.known; flows = r.flows_are; kflow = f.known; on_paths = f.flows_are }

  pub greeted_obeys : (epochs risen : Bool) (v : NodeId) (p : Parts) → Whole p → Whole (greeted epochs risen v p)
  greeted_obeys true true v p h =
      let q = one_peer p.prio v.0 rows.unheard (λ x k. record { shut = k.shut; empty = k.empty; ends = k.ends }) (prio_part p h) in
      record { least = h.least; prio = q.known; rows = q.rows_are; rel = h.rel; flows = h.flows; kflow = h.kflow; on_paths = h.on_paths }
  greeted_obeys true false v p h = h
  greeted_obeys false risen v p h = h

  heard_where_obeys : (answer : PrioAnswer) (v : NodeId) (number : ℕ) (p : Parts) → Whole p → Whole (heard_where answer v number p)
  heard_where_obeys prios.New v number p h =
      of_prio p (prio.heard p.prio v.0 number) (one_peer p.prio v.0 (λ q. rows.heard q number) (heard_obeys number) (prio_part p h)) h
  heard_where_obeys prios.Seen v number p h =
      of_prio p (prio.heard p.prio v.0 number) (one_peer p.prio v.0 (λ q. rows.heard q number) (heard_obeys number) (prio_part p h)) h
  heard_where_obeys prios.BadEnd v number p h = h
  heard_where_obeys prios.Expired v number p h = h
  heard_where_obeys prios.BadSig v number p h = h
  heard_where_obeys prios.Epoch v number p h = h

  piece_obeys : (arts : Arts) (at : Arrival) (p : Parts) (x : Piece) → Whole p → Whole (handle arts at p x).parts
  piece_obeys arts at p (WeightPiece o) h =
      where_new_obeys (is_new (items.Weight (weight_answer (is_signed arts at.fixed o) (offer_to at.fixed.me p.weights o.body))))
      (record p { weights = held p.weights o }) p
      (λ new. record { least = h.least; prio = h.prio; rows = h.rows; rel = h.rel; flows = h.flows; kflow = h.kflow; on_paths = h.on_paths }) h
  piece_obeys arts at p (PrioAckPiece number) h =
      of_prio p (prio.acked p.prio at.from.0 number) (one_peer p.prio at.from.0 (λ q. rows.acked q number) (acked_obeys number) (prio_part p h)) h
  piece_obeys arts at p (PrioPiece number o) h =
      let right = is_signed arts at.fixed o in
      let dated = is_dated p.lives o.body in
      let j = prio.judge_prio p.prio o.body at.now in
      let answer = prio_answer right dated j in
      let admitted = record p { prio = prio.admit_prio p.prio o (Some at.from) } in
      heard_where_obeys answer at.from number (cond (is_new (items.Prio answer)) admitted p)
      (where_new_obeys (is_new (items.Prio answer)) admitted p
      (λ new. of_prio p (prio.admit_prio p.prio o (Some at.from)) (admitted_obeys p.prio o (Some at.from)
      (new_between p.prio o at.now (prio_part p h) (new_prio right dated j new).1) (prio_part p h)) h) h)
  piece_obeys arts at p (ReportPiece kind flow sboot dboot base have) h =
      let r = rel.reported (flows_of kind p) at.from flow base have in
      where_new_obeys (are_held p.lives flow sboot dboot) (with_flows kind r p) p
      (λ dated. of_flows kind p r (reported_obeys (flows_of kind p) at.from flow base have (flows_part kind p h)) h) h
  piece_obeys arts at p (AckPiece kind flow o) h =
      let right = is_signed arts at.fixed o in
      let dated = is_dated p.lives o.body in
      let r = flows_of kind p in
      let j = rel.judge_ack_of r flow o.body in
      where_new_obeys (is_new (ack_item kind (ack_answer right dated j))) (with_flows kind (rel.admit_ack r o) p) p
      (λ new. of_flows kind p (rel.admit_ack r o) (ack_obeys r flow o (flows_part kind p h) (new_ack kind right dated j new).1) h) h
  piece_obeys arts at p (RelPiece kind flow o) h =
      let right = is_signed arts at.fixed o in
      let dated = is_dated p.lives o.body in
      let over = came_over p.kflow at.from o.body in
      let r = flows_of kind p in
      let j = rel.judge_rel_of r flow o.body in
      where_new_obeys (is_new (rel_item kind (rel_answer right dated over j))) (with_flows kind (rel.admit_rel r o) p) p
      (λ new. of_flows kind p (rel.admit_rel r o) (rel_obeys r flow o (flows_part kind p h) (new_rel kind right dated over j new).1) h) h
  piece_obeys arts at p (EpochPiece o) h =
      where_new_obeys (is_new (items.Epoch (epoch_answer (is_signed arts at.fixed o) (judge_epoch at.fixed.me p.lives o.body)))) (met p o) p
      (λ new. met_obeys p o h) h

  pub pieces_obey : (arts : Arts) (at : Arrival) (p : Parts) (xs : List Piece) → Whole p → Whole (handle_all arts at p xs).parts
  pieces_obey arts at p [] h = h
  pieces_obey arts at p (x ∷ xs) h = pieces_obey arts at (handle arts at p x).parts xs (piece_obeys arts at p x h)
