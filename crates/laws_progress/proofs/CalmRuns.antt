-- What the rounds of a calm interval leave at both ends of a path, where the messages of a window of numbers may go over its hops.
use Rattle.std.proofs.lemmas.List.Concat.{flat_map-append}
use Rattle.laws_progress.proofs.Along.{AreCounted}
use Rattle.laws_progress.proofs.Begins.{Lifted, lifted}
use Rattle.laws_progress.proofs.Calms.{AreUp, Calmly, acked_up, delivered_up, sent_up}
use Rattle.laws_progress.proofs.Changes.{holds_both}
use Rattle.laws_progress.proofs.Facts.{AreHops, Goes, Sight}
use Rattle.laws_progress.proofs.Heard.{facts_of}
use Rattle.laws_progress.proofs.KnownRuns.{boot_some, sent_within}
use Rattle.laws_progress.proofs.LastBoots.{held_none, running_boot, without_epochs}
use Rattle.laws_progress.proofs.MakesNow.{seen_flow}
use Rattle.laws_progress.proofs.RunStates.{Ends, Split, are_hops, are_inner, ends_are, is_delivered, is_right, split}
use Rattle.laws_progress.proofs.Standing.{place_at}
use Rattle.laws_progress.proofs.States.{Era, IsBetween, IsEra, State, Watched, last_state, seen_at, sight}
use Rattle.laws_progress.proofs.Watching.{AllUp, IsFree, are_up, calmly_on, up_on, watch, watch_is}
use Rattle.laws_progress.proofs.Whole.{steady}
use Rattle.laws_progress.proofs.Wires.{wires}
use Rattle.laws_progress.specs.Calm.{IsCalm, IsCalmAt}
use Rattle.laws_progress.specs.Delivery.{IsDelivered}
use Rattle.laws_progress.specs.Within.{IsPathUnder, RunsUnder, StaysUnder}
use Rattle.laws_progress.proofs.Polls.{between_back}
use Rattle.laws_progress.proofs.Within.{hop_open, in_path, is_in, none_removed, of_path}
use Rattle.laws_node.specs.Withdrawals.{removed_now}
use Rattle.laws_runs.specs.Signs.{Good}
use Rattle.laws_runs.proofs.Signed.{signs}
use Rattle.sp_rules.specs.Rel.{is_one_of}
use Rattle.laws_runs.proofs.FlowRuns.{flows_are_kept_over_lives}
use Rattle.laws_runs.proofs.HeldBoots.{held_boots_are_born}
use Rattle.laws_runs.proofs.Lists.{both}
use Rattle.laws_runs.specs.Flows.{flow_at}
use Rattle.laws_runs.specs.LifeFlows.{acknowledged_under}
use Rattle.laws_runs.specs.Past.{delivered_under, past, sent_under, told_under}
use Rattle.laws_runs.specs.Premises.{ComesThrough}
use Rattle.sp_base.specs.declared.id.Flow.{Flow}
use Rattle.sp_base.specs.declared.id.NodeId.{NodeId}
use Rattle.sp_journal.specs.declared.entry.Entry.{Entry}
use Rattle.sp_rules.specs.Arts.{Arts}
use Rattle.sp_rules.specs.Flow.{FlowState}
use Rattle.sp_rules.specs.Lives.{held_boot}
use Rattle.sp_rules.specs.Node.{NodeState, link_in}
use Rattle.sp_rules.specs.Weights.{next}
use Rattle.sp_runs.specs.Paths.{IsCorrectPath, hops}
use Rattle.sp_runs.specs.Rounds.{CompleteRounds, flow_count}
use Rattle.sp_runs.specs.Runs.{Clean, polls}
use Rattle.sp_runs.specs.Settings.{Setting, SettingFits, is_correct}
use Rattle.sp_runs.specs.Told.{Message, accepted_in}
use Rattle.sp_runs.specs.Worlds.{World, node_in}
use Rattle.sp_schedule_events.specs.declared.event.Event.{Event}
use Rattle.std.proofs.Common.{List, Some, ap, arith, false, length, subst, suc, sym, true, ℕ, ◌++◌, ◌+◌, ◌-◌, ◌∙◌, ◌≡◌, ◌≤◌}
use Rattle.std.proofs.lemmas.Option.{same_Some}
use Rattle.std.specs.Prelude.{IsTrue}
use Rattle.laws_progress.proofs.Paths as paths
use Rattle.laws_progress.proofs.Facts as facts
use Rattle.sp_rules.specs.declared.kflow.FlowKind.{FlowKind}
use Rattle.std.proofs.Common.{Bool}
use Rattle.std.specs.List.{All, position_or_len}
use Rattle.sp_graph.specs.Walks.{steps}
use Rattle.sp_topology.specs.Neighbours.{joins}
use Rattle.sp_runs.specs.Forgery.{is_among}
use Rattle.sp_runs.specs.Told.{signed, signed_by, told_at}
use Rattle.laws_runs.proofs.Lists.{among_left}
use Rattle.laws_runs.proofs.SignedEvents.{even}
use Rattle.laws_progress.proofs.RunStates.{told_append}
use Rattle.laws_progress.proofs.Places.{hop_at}
use Rattle.laws_progress.proofs.States.{Leads}
use Rattle.laws_progress.proofs.Calms.{MayPass}
use Rattle.laws_progress.proofs.CalmEras.{era_of, past_grows, past_same, sent_in, signed_on}

-- the messages of a window may go over the edge of a hop
abbrev pub GoesBy : Setting → (ℕ → Bool) → NodeId × NodeId → Type 0
GoesBy x over hop = over (position_or_len (joins hop.0.0 hop.1.0) x.topology.edges) ≡ true

module _ (kind : FlowKind) (low high : ℕ) (over : ℕ → Bool) (arts : Arts) (x : Setting) (es : List Event) (js : List Entry) (w : World) (after : List Event)
    (more : List Entry) (end : World)
    (fits : SettingFits arts x)
    (reads : ComesThrough x.topology.format arts x.signature_len) (run : Clean arts x es js w) (longer : Clean arts x (es ++ after) (js ++ more) end)
    (version : ℕ) (weights : List ℕ) (s d : NodeId) (path : List NodeId) (way : IsPathUnder x weights s d path) (under : StaysUnder version weights path w end)
    (a b : ℕ)
    (calm : IsCalm w after s a d b path) (all_over : All (GoesBy x over) (steps path)) where
  abbrev flow : Flow
  flow = record { src = s; dst = d }

  is : IsCorrectPath x s d path
  is = way.walks

  abbrev era : Era
  era = era_of kind low high over w path version weights a b (es ++ after) end

  calm_at : (v : NodeId) → is_in path v ≡ true → IsCalmAt w after s a d b v
  calm_at v on = of_path (IsCalmAt w after s a d b) path calm v on

  life_at : (v : NodeId) (c : IsCalmAt w after s a d b v) → c.up.node.fixed.boot ≡ seen_at 0 (λ (n : NodeState). n.fixed.boot) (node_in w.nodes v)
  life_at v c = sym (ap (seen_at 0 (λ (n : NodeState). n.fixed.boot)) c.up.runs)

  ends_at : Ends s d path
  ends_at = ends_are x s d path is

  s_on : is_in path s ≡ true
  s_on = in_path path 0 s ends_at.begins

  d_on : is_in path d ≡ true
  d_on = in_path path (hops path) d ends_at.ends

  own_life : (v : NodeId) (c : IsCalmAt w after s a d b v) → x.epochs ≡ true
      → held_boot c.up.node.parts.lives v ≡ seen_at 0 (λ (n : NodeState). n.fixed.boot) (node_in w.nodes v)
  own_life v c on = (held_boots_are_born arts x es js w fits reads.carries run).own on v c.up.node c.up.runs ∙ life_at v c

  pub is_era : IsEra x flow era
  is_era = record {
    right = is_right x s d path is;
    correct = λ v on. (correct_at v on);
    source = s_on;
    end = d_on;
    some = λ v on. let c = calm_at v on in let some = boot_some arts x es js w fits reads.carries run v c.up.node c.up.runs in let boot = life_at v c in
        omega (arith, some, boot);
    taken = λ on.
        let cs = calm_at s s_on in
        let cd = calm_at d d_on in
        let hs = holds_both cs.up.node s d a b cs.held in
        let hd = holds_both cd.up.node s d a b cd.held in
        (sym (own_life s cs on) ∙ hs.0, sym (own_life d cd on) ∙ hd.1);
    only = λ off.
        let cs = calm_at s s_on in
        let hs = holds_both cs.up.node s d a b cs.held in
        let none = held_none arts x es js w fits reads.carries run off s cs.up.node cs.up.runs in
        (sym hs.0 ∙ none s, sym hs.1 ∙ none d);
    lone = λ off v on.
        let c = calm_at v on in
        sym (life_at v c) ∙ running_boot arts x es js w fits reads.carries run v c.up.node c.up.runs ∙ without_epochs x w v off;
  }
    where
      correct_at : (v : NodeId) → is_in path v ≡ true → is_correct x v ≡ true
      correct_at v on = of_path (λ n. IsTrue (is_correct x n)) path is.correct v on

  start : Split arts x (es ++ after) es js w after (last_state arts x (es ++ after) (js ++ more) end longer)
  start = split arts x fits reads.carries es after js more w end run longer

  abbrev last : State arts x (es ++ after)
  last = last_state arts x (es ++ after) (js ++ more) end longer

  quiet : IsFree era after
  quiet v on = (calm_at v on).up.stays

  up_first : AllUp arts x (es ++ after) era flow start.mid
  unfolding start
  up_first v on =
      let c = calm_at v on in
      record {
        node = c.up.node;
        there = ap (λ (z : World). node_in z.nodes v) start.world ∙ c.up.runs;
        boot = life_at v c;
        held = c.held;
        version = least v c on;
        weights = λ same. (starts v on).weights_are c.up.node c.up.runs;
      }
    where
      starts : (v : NodeId) → is_in path v ≡ true → RunsUnder version weights w v
      starts v on = of_path (RunsUnder version weights w) path under.begins v on

      least : (v : NodeId) (c : IsCalmAt w after s a d b v) → is_in path v ≡ true → version ≤ c.up.node.live.version
      least v c on = let same = (starts v on).version_is c.up.node c.up.runs in omega (arith, same)

  up_last : AllUp arts x (es ++ after) era flow last
  up_last = up_on arts x (es ++ after) era flow fits reads.carries is_era after start.mid last start.goes quiet up_first

  sent_is : (u v : NodeId) (n : NodeState) → node_in end.nodes u ≡ Some n → sent_in end u v ≡ (link_in n v).sent
  sent_is u v n at = ap (seen_at 0 (λ (q : NodeState). (link_in q v).sent)) at

  early_is : (u v : NodeId) → is_in path u ≡ true → (n : NodeState) → node_in end.nodes u ≡ Some n
      → polls (es ++ after) u v - sent_in end u v ≡ polls (es ++ after) u v - (link_in n v).sent
  early_is u v on n at = ap (λ k. polls (es ++ after) u v - k) (sent_is u v n at)

  runs_last : (u : NodeId) → is_in path u ≡ true → RunsUnder version weights end u
  runs_last u on = of_path (RunsUnder version weights end) path under.ends u on

  most_last : (u : NodeId) → is_in path u ≡ true → (n : NodeState) → node_in end.nodes u ≡ Some n → n.live.version ≤ version
  most_last u on n at = let same = (runs_last u on).version_is n at in omega (arith, same)

  joined_last : (u v : NodeId) → is_in path u ≡ true → is_in path v ≡ true → (n : NodeState) → node_in end.nodes u ≡ Some n
      → is_one_of (removed_now n) v ≡ false
  joined_last u v on v_on n at =
      none_removed x weights s d path way (Good arts x (es ++ after) (js ++ more)) u n
      ((signs arts x (es ++ after) (js ++ more) end fits reads.carries longer).nodes u n at) ((runs_last u on).weights_are n at) v v_on

  pub watched_last : Watched arts x (es ++ after) era
  watched_last = watch arts x (es ++ after) era flow fits reads.carries is_era reads.heads last up_last most_last joined_last early_is
      (λ u v on joined n at. sent_within arts x (es ++ after) (js ++ more) end fits reads.carries longer u v joined n at)

  last_at : watched_last.at ≡ last
  unfolding watched_last
  last_at = watch_is arts x (es ++ after) era flow fits reads.carries is_era reads.heads last up_last most_last joined_last early_is
      (λ u v on joined n at. sent_within arts x (es ++ after) (js ++ more) end fits reads.carries longer u v joined n at)

  lift : Lifted arts x (es ++ after) era fits reads.carries after start.mid watched_last
  lift = lifted arts x (es ++ after) era fits reads.carries after start.mid last start.goes watched_last last_at

  -- in each state from which the run goes on to the last, the messages of the window may go over the hops
  abbrev pub Pass : Type 0
  Pass =
      (z : Watched arts x (es ++ after) era) (fs : List Event) → Goes (Watched arts x (es ++ after) era) (Leads arts x (es ++ after) era) z fs watched_last
      → MayPass arts x (es ++ after) era flow z

  chain : Pass → Goes (Watched arts x (es ++ after) era) (Calmly arts x (es ++ after) era flow) lift.first after watched_last
  chain passes = calmly_on arts x (es ++ after) era flow fits reads.carries is_era after lift.first watched_last lift.goes quiet
      (subst (AllUp arts x (es ++ after) era flow) (sym lift.is) up_first) passes

  first_up : AreUp arts x (es ++ after) era flow lift.first
  first_up = are_up arts x (es ++ after) era flow fits reads.carries is_era lift.first (subst (AllUp arts x (es ++ after) era flow) (sym lift.is) up_first)

  last_up : AreUp arts x (es ++ after) era flow watched_last
  last_up = are_up arts x (es ++ after) era flow fits reads.carries is_era watched_last (subst (AllUp arts x (es ++ after) era flow) (sym last_at) up_last)

  first_events : lift.first.at.events ≡ es
  first_events = ap (λ (z : State arts x (es ++ after)). z.events) lift.is ∙ start.events

  first_journal : lift.first.at.journal ≡ js
  first_journal = ap (λ (z : State arts x (es ++ after)). z.journal) lift.is ∙ start.journal

  first_world : lift.first.at.world ≡ w
  first_world = ap (λ (z : State arts x (es ++ after)). z.world) lift.is ∙ start.world

  first_past : past arts x lift.first.at.events lift.first.at.journal lift.first.at.world lift.first.at.run ≡ past arts x es js w run
  first_past =
      past_same arts x fits reads.carries lift.first.at.events lift.first.at.journal lift.first.at.world lift.first.at.run es js w run first_events
      first_journal

  last_past : past arts x watched_last.at.events watched_last.at.journal watched_last.at.world watched_last.at.run
      ≡ past arts x (es ++ after) (js ++ more) end longer
  last_past = past_same arts x fits reads.carries watched_last.at.events watched_last.at.journal watched_last.at.world watched_last.at.run (es ++ after)
      (js ++ more) end longer
      (ap (λ (z : State arts x (es ++ after)). z.events) last_at) (ap (λ (z : State arts x (es ++ after)). z.journal) last_at)

  abbrev seen : Sight (Watched arts x (es ++ after) era)
  seen = sight arts x (es ++ after) era flow

  -- what s has and counts at the beginning
  source_seen : (n : NodeState) → node_in w.nodes s ≡ Some n
      → (seen.have lift.first s ≡ length (sent_under kind (past arts x es js w run) s a d b)) × (seen.base lift.first s ≡ (flow_at kind n s d).at.base)
  source_seen n at =
      let p = first_up s s_on in
      let same : p.node ≡ n = same_Some p.node n (sym p.there ∙ ap (λ (z : World). node_in z.nodes s) first_world ∙ at) in (
        sent_up arts x (es ++ after) era flow fits reads is_era lift.first p ∙ ap (λ h. length (sent_under kind h s a d b)) first_past,
        ap (λ (f : FlowState). f.at.base) (seen_flow arts x (es ++ after) era flow lift.first s p.node p.there p.counts)
            ∙ ap (λ (q : NodeState). (flow_at kind q s d).at.base) same,
      )

  -- which is what s has, under the boots that count
  pub source_has : (n : NodeState) → node_in w.nodes s ≡ Some n → (flow_at kind n s d).at.have ≡ length (sent_under kind (past arts x es js w run) s a d b)
  source_has n at =
      let p = first_up s s_on in
      let same : p.node ≡ n = same_Some p.node n (sym p.there ∙ ap (λ (z : World). node_in z.nodes s) first_world ∙ at) in
      sym (ap (λ (f : FlowState). f.at.have) (seen_flow arts x (es ++ after) era flow lift.first s p.node p.there p.counts)
      ∙ ap (λ (q : NodeState). (flow_at kind q s d).at.have) same) ∙ (source_seen n at).0

  pub source_boots : (n : NodeState) → node_in w.nodes s ≡ Some n → (held_boot n.parts.lives s ≡ a) × (held_boot n.parts.lives d ≡ b)
  source_boots n at =
      let c = calm_at s s_on in
      let same : c.up.node ≡ n = same_Some c.up.node n (sym c.up.runs ∙ at) in
      subst (λ (q : NodeState). (held_boot q.parts.lives s ≡ a) × (held_boot q.parts.lives d ≡ b)) same (holds_both c.up.node s d a b c.held)

  -- what was signed by the beginning, and by a state from which the run goes on, was signed by the end
  pub signed_more : (bytes : List ℕ) → is_among bytes (signed es js s) ≡ true → is_among bytes (signed (es ++ after) (js ++ more) s) ≡ true
  signed_more bytes among =
      subst (λ these. is_among bytes these ≡ true) (sym (told_append (told_at s signed_by) es after js more (even arts x es js w run)))
      (among_left bytes (signed es js s) (signed after more s) among)

  pub signed_last : (z : Watched arts x (es ++ after) era) (fs : List Event)
      → Goes (Watched arts x (es ++ after) era) (Leads arts x (es ++ after) era) z fs watched_last
      → (bytes : List ℕ) → is_among bytes (signed z.at.events z.at.journal s) ≡ true → is_among bytes (signed (es ++ after) (js ++ more) s) ≡ true
  signed_last z fs g bytes among =
      let there = signed_on arts x (es ++ after) era s fs z watched_last g bytes among in
      subst (λ (y : State arts x (es ++ after)). is_among bytes (signed y.events y.journal s) ≡ true) last_at there

  -- what came to d by the end
  end_seen : seen.have watched_last d ≡ length (delivered_under kind (past arts x (es ++ after) (js ++ more) end longer) s a d b)
  end_seen =
      delivered_up arts x (es ++ after) era flow fits reads is_era watched_last (last_up d d_on)
      ∙ ap (λ h. length (delivered_under kind h s a d b)) last_past

  -- what d acknowledged by the beginning, and what counts so at s at the end
  acked_seen : seen.base lift.first d ≡ acknowledged_under kind arts es js s a d b
  acked_seen =
      acked_up arts x (es ++ after) era flow fits reads is_era lift.first (first_up d d_on)
      ∙ ap (λ zs. acknowledged_under kind arts zs lift.first.at.journal s a d b) first_events
      ∙ ap (λ zs. acknowledged_under kind arts es zs s a d b) first_journal

  base_seen : (n : NodeState) → node_in end.nodes s ≡ Some n → seen.base watched_last s ≡ (flow_at kind n s d).at.base
  base_seen n at =
      let p = last_up s s_on in
      let same : p.node ≡ n = same_Some p.node n (sym p.there ∙ ap (λ (z : State arts x (es ++ after)). node_in z.world.nodes s) last_at ∙ at) in
      ap (λ (f : FlowState). f.at.base) (seen_flow arts x (es ++ after) era flow watched_last s p.node p.there p.counts)
      ∙ ap (λ (q : NodeState). (flow_at kind q s d).at.base) same

  hops_are : AreHops (IsBetween x era) path
  hops_are i u v at next =
      let h = are_hops x s d path is i u v at next in
      let u_on = in_path path i u at in
      let v_on = in_path path (suc i) v next in
      let may = hop_at (λ n m. GoesBy x over (n, m)) path all_over i u v at next in
      let there : IsBetween x era u v = record { hop = h.0; first = u_on; second = v_on; open_edge = hop_open x weights s d path way i u v at next; may = may }
      in
      (there, between_back x era u v there)

  counted_first : AreCounted (Watched arts x (es ++ after) era) seen (IsBetween x era) es lift.first
  counted_first u v hop = ap (λ zs. polls zs u v) first_events

  module _ (one : 1 ≤ x.buffer) (least : ℕ) (enough : flow_count kind x (es ++ after) ≤ least) (passes : Pass) where
    facts_are : facts.Facts (Watched arts x (es ++ after) era) (Calmly arts x (es ++ after) era flow) (IsBetween x era) seen (place_at x flow) x.buffer least s
        d
    facts_are = facts_of (Watched arts x (es ++ after) era) (Calmly arts x (es ++ after) era flow) (IsBetween x era) seen (wires arts x (es ++ after) era flow)
        (place_at x flow) x.buffer least s d
        (steady arts x (es ++ after) era flow fits reads is_era one least enough)

    pub delivers : (n : NodeState) → node_in w.nodes s ≡ Some n → (q k : ℕ) → low ≤ (flow_at kind n s d).at.base → q ≤ high
        → q ≤ length (sent_under kind (past arts x es js w run) s a d b)
        → q ≤ low + k
        → CompleteRounds kind least s d path (hops path + k + 1) es after
        → q ≤ length (delivered_under kind (past arts x (es ++ after) (js ++ more) end longer) s a d b)
    delivers n at q k ready within has near rounds =
        let source = source_seen n at in
        let have_is = source.0 in
        let base_is = source.1 in
        let count : hops path + k + 1 ≡ suc (hops path + k) = omega arith in
        let it : q ≤ seen.have watched_last d =
        paths.progress (Watched arts x (es ++ after) era) (Calmly arts x (es ++ after) era flow) (IsBetween x era) seen (place_at x flow) x.buffer least s d
        facts_are (omega (arith, enough)) path (hops path) hops_are (are_inner x s d path is)
        ends_at.long ends_at.begins ends_at.ends k q es after lift.first watched_last (chain passes) counted_first
        (omega (arith, ready, base_is)) within (omega (arith, has, have_is)) near (subst (λ c. CompleteRounds kind least s d path c es after) count rounds) in
        let end_is = end_seen in
        omega (arith, it, end_is)

    pub returns : (n : NodeState) → node_in end.nodes s ≡ Some n → CompleteRounds kind least s d path (hops path + 1) es after
        → acknowledged_under kind arts es js s a d b ≤ (flow_at kind n s d).at.base
    returns n at rounds =
        let acked_is = acked_seen in
        let base_is = base_seen n at in
        let count : hops path + 1 ≡ suc (hops path) = omega arith in
        let it : acknowledged_under kind arts es js s a d b ≤ seen.base watched_last s =
        paths.acknowledged (Watched arts x (es ++ after) era) (Calmly arts x (es ++ after) era flow) (IsBetween x era) seen (place_at x flow) x.buffer least s d
        facts_are (omega (arith, enough)) path (hops path) hops_are (are_inner x s d path is)
        ends_at.long ends_at.begins ends_at.ends (acknowledged_under kind arts es js s a d b) es after lift.first watched_last (chain passes) counted_first
        (omega (arith, acked_is)) (subst (λ c. CompleteRounds kind least s d path c es after) count rounds) in
        omega (arith, it, base_is)

  -- what was sent by the beginning is at the front of what was sent by the end
  sent_more : (T : List Message)
      × (sent_under kind (past arts x (es ++ after) (js ++ more) end longer) s a d b ≡ sent_under kind (past arts x es js w run) s a d b ++ T)
  sent_more =
      let g = past_grows arts x (es ++ after) fits reads.carries after start.mid last start.goes in
      let first : past arts x start.mid.events start.mid.journal start.mid.world start.mid.run ≡ past arts x es js w run =
      past_same arts x fits reads.carries start.mid.events start.mid.journal start.mid.world start.mid.run es js w run start.events start.journal in
      let all : past arts x (es ++ after) (js ++ more) end longer ≡ past arts x es js w run ++ g.0 = g.1 ∙ ap (λ h. h ++ g.0) first in (
        sent_under kind g.0 s a d b,
        ap (λ h. sent_under kind h s a d b) all
            ∙ flat_map-append (λ h. told_under s a d b (accepted_in kind s d h.event h.entry.reply) h.mover) (past arts x es js w run) g.0,
      )

  pub found : (q : ℕ) → 1 ≤ q → q ≤ length (sent_under kind (past arts x es js w run) s a d b)
      → q ≤ length (delivered_under kind (past arts x (es ++ after) (js ++ more) end longer) s a d b)
      → IsDelivered (sent_under kind (past arts x es js w run) s a d b) (delivered_under kind (past arts x (es ++ after) (js ++ more) end longer) s a d b) q
  found q pos has long =
      let right = is_right x s d path is in
      let c =
      flows_are_kept_over_lives kind arts x (es ++ after) (js ++ more) end fits reads.carries longer s d (both _ _ right.from).0 right.to right.different in
      let prefix = c.prefix right.from a b in
      let parts = sent_more in
      is_delivered (sent_under kind (past arts x es js w run) s a d b) parts.0
      (delivered_under kind (past arts x (es ++ after) (js ++ more) end longer) s a d b) prefix.0 q
      (sym parts.1 ∙ prefix.1) (c.numbered right.from a b) pos has long
