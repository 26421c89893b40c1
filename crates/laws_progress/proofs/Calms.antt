-- An interval in which no watched node starts or stops, and each holds the boots that count: each step in it.
use Rattle.laws_runs.specs.Flows.{has_ended}
use Rattle.laws_progress.proofs.Versions.{Under, has_heard, served_there, still_heard}
use Rattle.laws_progress.proofs.KeptVersions.{heard_rises}
use Rattle.laws_progress.proofs.Becomes.{MovesNobody, readied_keeps}
use Rattle.laws_progress.proofs.Changes.{Acted, Away, Born, Course, Rests, Steps, Unmoved, acted_is, course, dark, era_is, holds_both, lit, not_over}
use Rattle.laws_progress.proofs.Changes.{same_read}
use Rattle.laws_progress.proofs.Hears.{boot_goes, top_after, top_now}
use Rattle.laws_progress.proofs.Lasts.{no_poll, step_last}
use Rattle.laws_progress.proofs.LinkRuns.{idle_poll}
use Rattle.laws_progress.proofs.MakesNow.{seen_flow}
use Rattle.laws_progress.proofs.Places.{nobody}
use Rattle.laws_progress.proofs.Polls.{answered, between_back, poll_is, polled_rel, served_last}
use Rattle.laws_progress.proofs.Room.{room_at, take_is}
use Rattle.laws_progress.proofs.Rows.{RowsAre, peer_there, rows_are}
use Rattle.laws_progress.proofs.Standing.{rel_of, seen_stands}
use Rattle.laws_progress.proofs.States.{Era, IsBetween, IsEra, Leads, Watched, actives_of, flow_of, flow_seen, in_era, in_life, knows_life, knows_now, sight}
use Rattle.laws_runs.proofs.FlowRuns.{flows_are_kept_over_lives}
use Rattle.laws_runs.proofs.Lists.{both}
use Rattle.laws_runs.specs.LifeFlows.{LifeFlowClaims, acknowledged_under}
use Rattle.laws_runs.specs.Past.{delivered_under, past, sent_under, under}
use Rattle.laws_runs.specs.Premises.{ComesThrough}
use Rattle.sp_base.specs.Cursor.{next_after}
use Rattle.sp_base.specs.declared.id.Flow.{Flow}
use Rattle.sp_base.specs.declared.id.NodeId.{NodeId}
use Rattle.sp_rules.specs.Arts.{Arts}
use Rattle.sp_rules.specs.Flow.{FlowState, after_take, no_flow}
use Rattle.sp_rules.specs.Lives.{held_boot}
use Rattle.sp_rules.specs.Node.{NodeState, call_refusal, link_in}
use Rattle.sp_rules.specs.Arrivals.{link_after, rises}
use Rattle.std.proofs.lemmas.Bool.Decides.{nat_tests}
use Rattle.sp_rules.specs.Rel.{RelState, flow_in, flow_to_me, next_place, peer_in, put_flow}
use Rattle.sp_rules.specs.Weights.{next}
use Rattle.sp_runs.specs.Inputs.{acting, input_of}
use Rattle.sp_runs.specs.Journals.{reply_word}
use Rattle.sp_runs.specs.Lives.{ready}
use Rattle.sp_runs.specs.Rounds.{is_take}
use Rattle.sp_runs.specs.Runs.{is_poll}
use Rattle.sp_runs.specs.Settings.{Setting, SettingFits}
use Rattle.sp_runs.specs.Worlds.{node_in}
use Rattle.sp_schedule_events.specs.declared.event.Event.{Event}
use Rattle.std.proofs.Common.{List, None, Some, ap, arith, false, inl, inr, length, map, refl, subst, sym, true, ℕ, ◌+◌, ◌-◌, ◌<◌, ◌==◌, ◌∙◌, ◌≡◌, ◌≤◌, ◌⊎◌, []}
use Rattle.std.proofs.lemmas.Bool.{cases_Bool, eq-eqb, eqb-true}
use Rattle.std.proofs.lemmas.Option.{same_Some}
use Rattle.sp_rules.specs.Steps.{Datagram, NodeStep, Output, Poll, TakeRel}
use Rattle.sp_rules.specs.declared.kflow.FlowKind.TheVariants.{Plain}
use Rattle.sp_runs.specs.Runs as runs
use Rattle.sp_rules.specs.Parts.{flows_of}
use Rattle.sp_rules.specs.declared.kflow.FlowKind.{FlowKind}
use Rattle.sp_rules.specs.declared.kflow.FlowKind.TheVariants.{Paths}
use Rattle.laws_progress.proofs.Room.{take_event}
use Rattle.sp_rules.specs.Rel.{took}
use Rattle.sp_rules.specs.Steps.{TakeKrel, Input}
use Rattle.laws_progress.proofs.Makes.{Passes}
use Rattle.sp_rules.specs.Kflow.{edge_to}

-- it runs under the version that counts, with its weights
abbrev pub RunsAt : Era → NodeState → Type 0
RunsAt era n = Under era.version era.weights n

-- a watched node runs in its life under the version, and holds the boots that count
pub record Up (arts : Arts) (x : Setting) (all : List Event) (era : Era) (flow : Flow) (w : Watched arts x all era) (v : NodeId) : Type 0 where
  pub node : NodeState
  pub there : node_in w.at.world.nodes v ≡ Some node
  pub counts : in_era era flow v node ≡ true
  pub runs : RunsAt era node

abbrev pub AreUp : (arts : Arts) (x : Setting) (all : List Event) (era : Era) (flow : Flow) → Watched arts x all era → Type 0
AreUp arts x all era flow w = (v : NodeId) → era.on v ≡ true → Up arts x all era flow w v

-- what a node keeps of the messages of the window may go over each hop
abbrev pub MayPass : (arts : Arts) (x : Setting) (all : List Event) (era : Era) (flow : Flow) → Watched arts x all era → Type 0
MayPass arts x all era flow w =
    (u v : NodeId) (n : NodeState) → IsBetween x era u v → node_in w.at.world.nodes u ≡ Some n → in_era era flow u n ≡ true
    → Passes era.low era.high (edge_to n.parts.kflow v) (flow_in (flows_of era.kind n.parts).flows flow)

-- one event of the interval
pub record Calmly (arts : Arts) (x : Setting) (all : List Event) (era : Era) (flow : Flow) (w : Watched arts x all era) (e : Event)
    (y : Watched arts x all era) : Type 0 where
  pub leads : Leads arts x all era w e y
  pub before : AreUp arts x all era flow w
  pub after : AreUp arts x all era flow y
  -- each message of the window may go over the hops
  pub passes : MayPass arts x all era flow w

module _ (arts : Arts) (x : Setting) (all : List Event) (era : Era) (flow : Flow) (fits : SettingFits arts x)
    (reads : ComesThrough x.topology.format arts x.signature_len)
    (is_era : IsEra x flow era) where
  -- ---- what is seen

  flow_up : (w : Watched arts x all era) (u : NodeId) (p : Up arts x all era flow w u)
      → flow_seen arts x all era flow w u ≡ flow_in (flows_of era.kind p.node.parts).flows flow
  flow_up w u p = seen_flow arts x all era flow w u p.node p.there p.counts

  -- at a node that isn't watched nothing is
  flow_off : (w : Watched arts x all era) (u : NodeId) → era.on u ≡ false → flow_seen arts x all era flow w u ≡ no_flow flow
  flow_off w u off = dark (no_flow flow) (flow_of era flow u) (node_in w.at.world.nodes u) (λ n at. rw off refl)

  held_up : (w : Watched arts x all era) (u : NodeId) (p : Up arts x all era flow w u)
      → (held_boot p.node.parts.lives flow.src ≡ era.sboot) × (held_boot p.node.parts.lives flow.dst ≡ era.dboot)
  held_up w u p = holds_both p.node flow.src flow.dst era.sboot era.dboot (era_is era flow u p.node p.counts).1

  claims : (w : Watched arts x all era)
      → LifeFlowClaims era.kind arts x flow.src flow.dst w.at.events w.at.journal (past arts x w.at.events w.at.journal w.at.world w.at.run) w.at.world
  claims w =
      flows_are_kept_over_lives era.kind arts x w.at.events w.at.journal w.at.world fits reads.carries w.at.run flow.src flow.dst (both _ _ is_era.right.from).0
      is_era.right.to is_era.right.different

  -- the flow has not ended
  goes_on : (w : Watched arts x all era) (u : NodeId) (p : Up arts x all era flow w u) → has_ended era.kind p.node flow.src flow.dst ≡ false
  goes_on w u p = not_over arts x all era fits reads.carries flow is_era w u p.node p.there (era_is era flow u p.node p.counts).0

  under_up : {X : Type 0} (w : Watched arts x all era) (u : NodeId) (p : Up arts x all era flow w u) (says : ℕ → ℕ → X)
      → under p.node flow.src flow.dst says ≡ says era.sboot era.dboot
  under_up w u p says = let h = held_up w u p in ap (λ a. says a (held_boot p.node.parts.lives flow.dst)) h.0 ∙ ap (says era.sboot) h.1

  pub acked_up : (w : Watched arts x all era) (p : Up arts x all era flow w flow.dst)
      → (sight arts x all era flow).base w flow.dst ≡ acknowledged_under era.kind arts w.at.events w.at.journal flow.src era.sboot flow.dst era.dboot
  acked_up w p =
      ap (λ (f : FlowState). f.at.base) (flow_up w flow.dst p) ∙ (claims w).base_at_end p.node p.there (goes_on w flow.dst p)
      ∙ under_up w flow.dst p (λ a b. acknowledged_under era.kind arts w.at.events w.at.journal flow.src a flow.dst b)

  pub acknowledged : (w : Watched arts x all era) → AreUp arts x all era flow w → (u : NodeId)
      → (sight arts x all era flow).base w u ≤ (sight arts x all era flow).base w flow.dst
  acknowledged w up u = elim (cases_Bool (era.on u)) [
    | inr off ↦ let none = ap (λ (f : FlowState). f.at.base) (flow_off w u off) in omega (arith, none)
    | inl on ↦
        let p = up u on in
        let low = (claims w).base u p.node p.there in
        let here = ap (λ (f : FlowState). f.at.base) (flow_up w u p) in
        let same = under_up w u p (λ a b. acknowledged_under era.kind arts w.at.events w.at.journal flow.src a flow.dst b) in
        let top = acked_up w (up flow.dst is_era.end) in
        omega (arith, low, here, same, top)
  ]

  pub sent_up : (w : Watched arts x all era) (p : Up arts x all era flow w flow.src)
      → (sight arts x all era flow).have w flow.src
      ≡ length (sent_under era.kind (past arts x w.at.events w.at.journal w.at.world w.at.run) flow.src era.sboot flow.dst era.dboot)
  sent_up w p =
      ap (λ (f : FlowState). f.at.have) (flow_up w flow.src p) ∙ (claims w).have_at_source is_era.right.from p.node p.there (goes_on w flow.src p)
      ∙ ap length (under_up w flow.src p (λ a b. sent_under era.kind (past arts x w.at.events w.at.journal w.at.world w.at.run) flow.src a flow.dst b))

  pub delivered_up : (w : Watched arts x all era) (p : Up arts x all era flow w flow.dst)
      → (sight arts x all era flow).have w flow.dst
      ≡ length (delivered_under era.kind (past arts x w.at.events w.at.journal w.at.world w.at.run) flow.src era.sboot flow.dst era.dboot)
  delivered_up w p =
      ap (λ (f : FlowState). f.at.have) (flow_up w flow.dst p) ∙ (claims w).have_at_end p.node p.there (goes_on w flow.dst p)
      ∙ ap length (under_up w flow.dst p (λ a b. delivered_under era.kind (past arts x w.at.events w.at.journal w.at.world w.at.run) flow.src a flow.dst b))

  pub sent_most : (w : Watched arts x all era) → AreUp arts x all era flow w → (u : NodeId)
      → (sight arts x all era flow).have w u ≤ (sight arts x all era flow).have w flow.src
  sent_most w up u = elim (cases_Bool (era.on u)) [
    | inr off ↦ let none = ap (λ (f : FlowState). f.at.have) (flow_off w u off) in omega (arith, none)
    | inl on ↦
        let p = up u on in
        let low = (claims w).have is_era.right.from u p.node p.there in
        let here = ap (λ (f : FlowState). f.at.have) (flow_up w u p) in
        let same : length
        (under p.node flow.src flow.dst (λ a b. sent_under era.kind (past arts x w.at.events w.at.journal w.at.world w.at.run) flow.src a flow.dst b))
        ≡ length (sent_under era.kind (past arts x w.at.events w.at.journal w.at.world w.at.run) flow.src era.sboot flow.dst era.dboot) =
        ap length (under_up w u p (λ a b. sent_under era.kind (past arts x w.at.events w.at.journal w.at.world w.at.run) flow.src a flow.dst b)) in
        let top = sent_up w (up flow.src is_era.source) in
        omega (arith, low, here, same, top)
  ]

  module _ (w y : Watched arts x all era) (e : Event) (calm : Calmly arts x all era flow w e y) where
    -- ---- who moves

    -- a watched node rests, or makes a step
    pub record Moved (u : NodeId) : Type 0 where
      pub act : Acted arts x all era w y e u
      pub first : in_era era flow u act.node ≡ true
      pub second : in_era era flow u act.after ≡ true

    in_life_of : (z : Watched arts x all era) (u : NodeId) (p : Up arts x all era flow z u) (n : NodeState) → node_in z.at.world.nodes u ≡ Some n
        → in_era era flow u n ≡ true
    in_life_of z u p n at = ap (in_era era flow u) (same_Some n p.node (sym at ∙ p.there)) ∙ p.counts

    pub moves_or : (u : NodeId) → era.on u ≡ true → Unmoved arts x all era w y e u ⊎ Moved u
    moves_or u on = go (course arts x all era fits reads.carries w y e calm.leads u)
      where
        never : Up arts x all era flow w u → ((n : NodeState) → node_in w.at.world.nodes u ≡ Some n → in_life era u n ≡ false) → ⊥
        never p off = let f : true ≡ false = sym (era_is era flow u p.node p.counts).0 ∙ off p.node p.there in cc

        go : Course arts x all era w y e u → Unmoved arts x all era w y e u ⊎ Moved u
        go (Away before after) = absurd (never (calm.before u on) before)
        go (Born epochs before at) = absurd (never (calm.before u on) before)
        go (Rests q first second) = inl q
        go (Steps a first second) = inr (record {
          act = a;
          first = same_read x w.at.world a.before a.node (in_era era flow u) (λ upto. refl) a.readied ∙ in_life_of w u (calm.before u on) a.before a.there;
          second = in_life_of y u (calm.after u on) a.after a.left;
        })

    -- under the version, before and after
    pub moved_runs : (u : NodeId) → era.on u ≡ true → (m : Moved u) → RunsAt era m.act.node
    moved_runs u on m =
        let p = calm.before u on in
        readied_keeps x w.at.world m.act.before m.act.node (RunsAt era) (λ upto h. h) m.act.readied
        (subst (RunsAt era) (same_Some p.node m.act.before (sym p.there ∙ m.act.there)) p.runs)

    -- who acts in an event that moves a node
    pub mover : (u : NodeId) → era.on u ≡ true → acting e ≡ u → (MovesNobody w.at.world e → ⊥) → Moved u
    mover u on acts moves = elim (moves_or u on) [
      | inl q ↦ absurd (elim q.why [ inl away ↦ away acts | inr nobody ↦ moves nobody ])
      | inr m ↦ m
    ]

    pub polls_now : (u v : NodeId) → era.on u ≡ true → is_poll u v e ≡ true → Moved u
    polls_now u v on is = mover u on (ap acting (poll_is u v e is)) (λ nobody. (let f : true ≡ false = sym is ∙ idle_poll w.at.world e u v (inr nobody) in cc))

    -- ---- turns

    pub serves : (u v : NodeId) (p : ℕ) → IsBetween x era u v → is_poll u v e ≡ true → (sight arts x all era flow).knows w u v ≡ true
        → next_after ((sight arts x all era flow).last w u v) ((sight arts x all era flow).actives w u) ≡ Some p
        → (sight arts x all era flow).last y u v ≡ Some p
    serves u v p hop is known next =
        let m = polls_now u v hop.first is in
        let a = m.act in
        let heard : has_heard x era.version v a.node ≡ true =
        same_read x w.at.world a.before a.node (has_heard x era.version v) (λ upto. refl) a.readied
        ∙ (both (knows_life era u v a.before) (has_heard x era.version v a.before)
        (sym (lit false (knows_now x era u v) (node_in w.at.world.nodes u) a.before a.there) ∙ known)).1 in
        let poll = poll_is u v e is in
        let in_is : Some (Poll v) ≡ Some a.input = sym (ap (input_of arts x (ready x w.at.world e) a.node) poll) ∙ a.reaches in
        let input : a.input ≡ Poll v = cc in
        let step : NodeStep arts a.node (Poll v) a.output a.after = subst (λ i. NodeStep arts a.node i a.output a.after) input a.step in
        let word = ap (λ (o : Output). reply_word x (runs.next_frame (ready x w.at.world e) e) o.reply) (sym step.0) ∙ a.journal.reply in
        let free = answered x (runs.next_frame (ready x w.at.world e) e) (call_refusal a.node v) _ a.entry.reply word in
        let rel = ap (λ (n : NodeState). (flows_of era.kind n.parts)) step.1 ∙ polled_rel era.kind a.node v free
        (served_there x era.version era.weights u v hop.hop.joined hop.open_edge a.node (acted_is arts x all era fits reads.carries w y e u a).fixed
        (moved_runs u hop.first m) heard) in
        let rows : RowsAre x u a.node = readied_keeps x w.at.world a.before a.node (RowsAre x u)
        (λ upto h. record { peers = h.peers; edges = h.edges; links = h.links; heard = h.heard }) a.readied
        (rows_are arts x w.at.events w.at.journal w.at.world fits reads.carries w.at.run u a.before a.there) in
        let there = peer_there era.kind x u v a.node rows hop.hop.joined in
        let last_is : (sight arts x all era flow).last w u v ≡ (peer_in (flows_of era.kind a.node.parts).peers v).last =
        lit None (λ n. (peer_in (flows_of era.kind n.parts).peers v).last) (node_in w.at.world.nodes u) a.before a.there
        ∙ sym (same_read x w.at.world a.before a.node (λ n. (peer_in (flows_of era.kind n.parts).peers v).last) (λ upto. refl) a.readied) in
        let counts = m.first in
        let actives_is : (sight arts x all era flow).actives w u ≡ map (λ f. f.active) (flows_of era.kind a.node.parts).flows =
        lit [] (actives_of era flow u) (node_in w.at.world.nodes u) a.before a.there
        ∙ sym (same_read x w.at.world a.before a.node (actives_of era flow u) (λ upto. refl) a.readied) ∙ rw counts refl in
        let place : next_place (flows_of era.kind a.node.parts) v ≡ Some p =
        ap (λ o. next_after o (map (λ f. f.active) (flows_of era.kind a.node.parts).flows)) (sym last_is)
        ∙ ap (next_after ((sight arts x all era flow).last w u v)) (sym actives_is) ∙ next in
        lit None (λ n. (peer_in (flows_of era.kind n.parts).peers v).last) (node_in y.at.world.nodes u) a.after a.left
        ∙ ap (λ (r : RelState). (peer_in r.peers v).last) rel ∙ served_last (flows_of era.kind a.node.parts) v p there place

    pub serves_none : (u v : NodeId) → IsBetween x era u v → is_poll u v e ≡ false
        → (sight arts x all era flow).last y u v ≡ (sight arts x all era flow).last w u v
    serves_none u v hop off = elim (moves_or u hop.first) [
      | inl q ↦
          lit None (λ n. (peer_in (flows_of era.kind n.parts).peers v).last) (node_in y.at.world.nodes u) q.now q.left
          ∙ same_read x w.at.world q.before q.now (λ n. (peer_in (flows_of era.kind n.parts).peers v).last) (λ upto. refl) q.readied
          ∙ sym (lit None (λ n. (peer_in (flows_of era.kind n.parts).peers v).last) (node_in w.at.world.nodes u) q.before q.there)
      | inr m ↦
          let a = m.act in
          let quiet = no_poll arts x (ready x w.at.world e) a.node e a.input u v a.acts off a.reaches in
          lit None (λ n. (peer_in (flows_of era.kind n.parts).peers v).last) (node_in y.at.world.nodes u) a.after a.left
          ∙ step_last era.kind v arts a.node a.input a.output a.after quiet a.step
          ∙ same_read x w.at.world a.before a.node (λ n. (peer_in (flows_of era.kind n.parts).peers v).last) (λ upto. refl) a.readied
          ∙ sym (lit None (λ n. (peer_in (flows_of era.kind n.parts).peers v).last) (node_in w.at.world.nodes u) a.before a.there)
    ]

    -- ---- a client's take

    takes_some : (kind : FlowKind) (d s : NodeId) → MovesNobody w.at.world (take_event kind d s) → ⊥
    takes_some Plain d s (inl craft) = craft.1
    takes_some Plain d s (inr (inl missing)) = (let f : false ≡ true = missing in cc)
    takes_some Plain d s (inr (inr other)) = other tt
    takes_some Paths d s (inl craft) = craft.1
    takes_some Paths d s (inr (inl missing)) = (let f : false ≡ true = missing in cc)
    takes_some Paths d s (inr (inr other)) = other tt

    acts_at : (kind : FlowKind) (d s : NodeId) → acting (take_event kind d s) ≡ d
    acts_at Plain d s = refl
    acts_at Paths d s = refl

    -- what it takes leaves the flows
    takes_from : (kind : FlowKind) (d s : NodeId) (n m : NodeState) (input : Input) (output : Output)
        → input_of arts x (ready x w.at.world e) n (take_event kind d s) ≡ Some input → NodeStep arts n input output m
        → flows_of kind m.parts ≡ took (flows_of kind n.parts) s
    takes_from Plain d s n m input output reaches step =
        let is : Some (TakeRel s) ≡ Some input = reaches in
        let same : input ≡ TakeRel s = cc in
        let it : NodeStep arts n (TakeRel s) output m = subst (λ i. NodeStep arts n i output m) same step in
        ap (λ (q : NodeState). q.parts.rel) it.1
    takes_from Paths d s n m input output reaches step =
        let is : Some (TakeKrel s) ≡ Some input = reaches in
        let same : input ≡ TakeKrel s = cc in
        let it : NodeStep arts n (TakeKrel s) output m = subst (λ i. NodeStep arts n i output m) same step in
        ap (λ (q : NodeState). q.parts.kflow.flows) it.1

    pub makes_room : 1 ≤ x.buffer → is_take era.kind flow.dst flow.src e ≡ true
        → (sight arts x all era flow).have w flow.dst < (sight arts x all era flow).taken y + x.buffer
    makes_room some is =
        let take = take_is era.kind flow.dst flow.src e is in
        let m = mover flow.dst is_era.end (ap acting take ∙ acts_at era.kind flow.dst flow.src)
        (λ nobody. takes_some era.kind flow.dst flow.src (subst (MovesNobody w.at.world) take nobody)) in
        let a = m.act in
        let r = flows_of era.kind a.node.parts in
        let took_is : flows_of era.kind a.after.parts ≡ took r flow.src =
        takes_from era.kind flow.dst flow.src a.node a.after a.input a.output (sym (ap (input_of arts x (ready x w.at.world e) a.node) take) ∙ a.reaches) a.step
        in
        let before_rel = rel_of era.kind arts x w.at.events w.at.journal w.at.world fits reads.carries w.at.run flow.dst a.before a.there in
        let me : r.me ≡ flow.dst =
        readied_keeps x w.at.world a.before a.node (λ n. (flows_of era.kind n.parts).me ≡ flow.dst) (λ upto h. h) a.readied before_rel.me in
        let mine : flow_to_me r flow.src ≡ flow = ap (λ (v : NodeId). record { src = flow.src; dst = v }) me in
        let counts = m.first in
        let after_counts = m.second in
        let was : flow_seen arts x all era flow w flow.dst ≡ flow_in r.flows flow =
        lit (no_flow flow) (flow_of era flow flow.dst) (node_in w.at.world.nodes flow.dst) a.before a.there
        ∙ sym (same_read x w.at.world a.before a.node (flow_of era flow flow.dst) (λ upto. refl) a.readied) ∙ rw counts refl in
        let is_now : flow_seen arts x all era flow y flow.dst ≡ flow_in (flows_of era.kind a.after.parts).flows flow =
        seen_flow arts x all era flow y flow.dst a.after a.left after_counts in
        let most : length (flow_in r.flows flow).inbox ≤ x.buffer =
        subst (λ (f : FlowState). length f.inbox ≤ x.buffer) was
        (seen_stands arts x all era flow fits reads.carries (λ f. length f.inbox ≤ x.buffer) (omega arith) (λ me f h. h.inbox) w flow.dst) in
        let room = room_at flow r.flows x.buffer some most in
        let flows : (flows_of era.kind a.after.parts).flows ≡ put_flow r.flows flow (after_take (flow_in r.flows flow)) =
        ap (λ (z : RelState). z.flows) took_is ∙ ap (λ fl. put_flow r.flows fl (after_take (flow_in r.flows fl))) mine in
        let now : flow_seen arts x all era flow y flow.dst ≡ flow_in (put_flow r.flows flow (after_take (flow_in r.flows flow))) flow =
        is_now ∙ ap (λ fs. flow_in fs flow) flows in
        let have = ap (λ (f : FlowState). f.at.have) was in
        let taken = ap (λ (f : FlowState). f.at.have - length f.inbox) now in
        omega (arith, room, have, taken)

    -- ---- what is known of a neighbour

    pub known : (u v : NodeId) → IsBetween x era u v → (sight arts x all era flow).knows w u v ≡ true → (sight arts x all era flow).knows y u v ≡ true
    known u v hop is = elim (moves_or u hop.first) [
      | inl q ↦
          lit false (knows_now x era u v) (node_in y.at.world.nodes u) q.now q.left
          ∙ same_read x w.at.world q.before q.now (knows_now x era u v) (λ upto. refl) q.readied
          ∙ sym (lit false (knows_now x era u v) (node_in w.at.world.nodes u) q.before q.there) ∙ is
      | inr m ↦
          let a = m.act in
          let first = (era_is era flow u a.node m.first).0 in
          let second = (era_is era flow u a.after m.second).0 in
          let hop_back = between_back x era u v hop in
          let up = boot_goes arts x all era flow fits reads is_era w y e v u hop_back a first second in
          let top = top_now arts x all era flow fits reads is_era w y e v u hop_back a first second in
          let was : knows_now x era u v a.node ≡ true =
          same_read x w.at.world a.before a.node (knows_now x era u v) (λ upto. refl) a.readied
          ∙ sym (lit false (knows_now x era u v) (node_in w.at.world.nodes u) a.before a.there) ∙ is in
          let parts = both (knows_life era u v a.node) (has_heard x era.version v a.node) was in
          let boot = eqb-true _ _ (both (in_life era u a.node) ((link_in a.node v).peer_boot == era.life v) parts.0).1 in
          let now : ((link_in a.after v).peer_boot == era.life v) ≡ true =
          eq-eqb _ _ (let z : (link_in a.after v).peer_boot ≡ era.life v = omega (arith, up, top, boot) in z) in
          let kept = heard_rises arts a.node a.input a.output a.after v a.step (λ bytes came. quiet a first second hop_back bytes came boot) in
          let heard : has_heard x era.version v a.after ≡ true = still_heard x era.version v a.node a.after kept parts.1 in
          lit false (knows_now x era u v) (node_in y.at.world.nodes u) a.after a.left ∙ rw (second, now, heard) refl
    ]
      where
        quiet : (a : Acted arts x all era w y e u) → in_life era u a.node ≡ true → in_life era u a.after ≡ true → IsBetween x era v u → (bytes : List ℕ)
            → a.input ≡ Datagram v bytes → (link_in a.node v).peer_boot ≡ era.life v → rises arts a.node v bytes ≡ false
        quiet a first second back bytes came boot =
            let top = top_after arts x all era flow fits reads is_era w y e v u back a first second bytes came in
            let low : (link_after arts a.node v bytes).peer_boot ≤ (link_in a.node v).peer_boot = omega (arith, top, boot) in
            grind (arith, nat_tests, low)
