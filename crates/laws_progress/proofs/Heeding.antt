-- In a calm interval a watched node heeds what the frames of its neighbours say, and a frame that is passed comes through.
use Rattle.laws_progress.proofs.Becomes.{readied_keeps}
use Rattle.laws_progress.proofs.Versions.{edge_at}
use Rattle.laws_progress.proofs.Framed.{served_sections, unserved_slot}
use Rattle.laws_progress.proofs.Always.{deaf_here, deaf_rest, hearing_of}
use Rattle.laws_progress.proofs.Calms.{Calmly, Moved, RunsAt, moved_runs, moves_or, sent_most}
use Rattle.laws_progress.proofs.Polls.{between_back}
use Rattle.std.proofs.lemmas.Bool.{cases_Bool}
use Rattle.laws_progress.proofs.Changes.{Acted, era_is, holds_both, lit, not_over, same_read}
use Rattle.laws_progress.proofs.Greets.{greeted_ready}
use Rattle.laws_progress.proofs.Hears.{hearing, is_of}
use Rattle.laws_progress.proofs.Meetings.{HandledAt, Met, TakenAt}
use Rattle.laws_progress.proofs.SlotParts.{slot_parts}
use Rattle.laws_progress.proofs.Heeded.{Ready}
use Rattle.laws_progress.proofs.Heeds.{HeededOf, are_nodes, heeded_of, names_dated, signed_in, slot_names}
use Rattle.laws_progress.proofs.Hops.{IsDeaf, IsFit, IsHearing, IsHeeded, Told}
use Rattle.laws_progress.proofs.MakesNow.{seen_flow}
use Rattle.laws_progress.proofs.SlotHeeds.{SlotDone}
use Rattle.laws_progress.proofs.Standing.{place_at, same_flow, seen_active, sound}
use Rattle.laws_progress.proofs.States.{Era, IsBetween, IsEra, Watched, flow_of, flow_seen, in_life, sight, view_at, view_seen}
use Rattle.laws_progress.proofs.Takes.{done, after_view, flow_row, flows_met, left_is, lives_met, rel_after, told_at, told_is, views_rows}
use Rattle.laws_progress.proofs.Wires.{of_version, is_mine, is_slot, told_slot, wires}
use Rattle.laws_runs.proofs.Lists.{both}
use Rattle.laws_runs.proofs.Signed.{signs}
use Rattle.laws_runs.proofs.Tables.{same_node}
use Rattle.laws_runs.specs.Past.{holds}
use Rattle.laws_runs.specs.Premises.{ComesThrough}
use Rattle.laws_runs.specs.Signs.{Good, NodeIs, sizes_at}
use Rattle.sp_base.specs.declared.id.Flow.{Flow}
use Rattle.sp_base.specs.declared.id.NodeId.{NodeId}
use Rattle.sp_frame.specs.Reliable.{Report}
use Rattle.sp_msg.specs.declared.kept.Kept.{Kept}
use Rattle.sp_rules.specs.Arrivals.{has_risen, link_after, parts_met}
use Rattle.sp_rules.specs.Arts.{Arts}
use Rattle.sp_rules.specs.Flow.{FlowState, no_flow}
use Rattle.sp_rules.specs.Kflow.{came_over}
use Rattle.sp_rules.specs.Lives.{held_boot, is_dated}
use Rattle.sp_rules.specs.Node.{is_shut_to, link_in}
use Rattle.sp_rules.specs.Parts.{nodes_of}
use Rattle.sp_rules.specs.Polls.{contents_at, contents_to, dated, is_served}
use Rattle.sp_rules.specs.Rel.{RelState, View, flow_in, is_from, is_over, is_to, no_view, peer_in, slot_for, view_in}
use Rattle.sp_rules.specs.declared.lives.Life.{Life}
use Rattle.sp_runs.specs.Lives.{ready}
use Rattle.sp_runs.specs.Settings.{Setting, SettingFits}
use Rattle.sp_runs.specs.Worlds.{node_in}
use Rattle.sp_schedule_events.specs.declared.event.Event.{Event}
use Rattle.std.proofs.Common.{List, None, Option, Some, ap, arith, inl, inr, length, refl, subst, sym, false, true, ℕ, ◌&&◌, ◌+◌, ◌-◌, ◌==◌, ◌∙◌, ◌∷◌, ◌≡◌, ◌⊎◌}
use Rattle.std.proofs.lemmas.Bool.{eq-eqb, eqb-true, ne_eqb}
use Rattle.std.specs.Prelude.{option_map}
use Rattle.sp_rules.specs.Parts.{flows_of}
use Rattle.laws_node.proofs.FlowKinds.{flows_hold}
use Rattle.laws_progress.proofs.EitherKind.{slot_of_kind}
use Rattle.laws_progress.proofs.Edges.{same_edge, greeted_edges}
use Rattle.laws_progress.proofs.Makes.{sent_over, slot_some}
use Rattle.sp_rules.specs.Kflow.{goes_over, edge_to}
use Rattle.laws_node.specs.Flows.{RelHolds}
use Rattle.sp_msg.specs.declared.body.Body.{Body}
use Rattle.laws_progress.proofs.Polls.{both_ways}
use Rattle.laws_progress.proofs.Rows.{rows_are}
use Rattle.laws_progress.proofs.Hears.{rows}

-- a slot is dated with the boots that its node holds
slot_boots : (format : ℕ) (ls : List Life) (o : Option Report) (t : Report) → option_map (dated format ls) o ≡ Some t
    → (t.sboot ≡ held_boot ls t.flow.src) × (t.dboot ≡ held_boot ls t.flow.dst)
slot_boots format ls None t is = absurd (let f : None ≡ Some t = is in cc)
slot_boots format ls (Some r) t is =
    let f : Some (dated format ls r) ≡ Some t = is in
    let same : dated format ls r ≡ t = cc in
    (subst (λ (z : Report). z.sboot ≡ held_boot ls z.flow.src) same refl, subst (λ (z : Report). z.dboot ≡ held_boot ls z.flow.dst) same refl)

module _ (arts : Arts) (x : Setting) (all : List Event) (era : Era) (flow : Flow) (fits : SettingFits arts x)
    (reads : ComesThrough x.topology.format arts x.signature_len)
    (is_era : IsEra x flow era) (w y : Watched arts x all era) (e : Event) (calm : Calmly arts x all era flow w e y) (u v : NodeId) (hop : IsBetween x era u v)
  where
    module _ (mv : Moved arts x all era flow fits reads is_era w y e calm v) (k : ℕ)
        (it : TakenAt arts x all era w u v mv.act.node mv.act.after k)
        (handled : HandledAt arts u v mv.act.node mv.act.after it.arrived.from.node it.bytes) where
      abbrev a : Acted arts x all era w y e v
      a = mv.act

      first : in_life era v mv.act.node ≡ true
      first = (era_is era flow v mv.act.node mv.first).0

      second : in_life era v mv.act.after ≡ true
      second = (era_is era flow v mv.act.after mv.second).0

      held : holds mv.act.node flow.src era.sboot flow.dst era.dboot ≡ true
      held = (era_is era flow v mv.act.node mv.first).1

      is_node : NodeIs x (Good arts x w.at.events w.at.journal) v mv.act.node
      is_node = is_of arts x all era flow fits reads is_era w y e u v hop mv.act first second

      maker_is : NodeIs x (Good arts x it.arrived.from.events it.arrived.from.journal) u it.arrived.from.node
      maker_is = (signs arts x it.arrived.from.events it.arrived.from.journal it.arrived.from.world fits reads.carries it.arrived.from.run).nodes u
          it.arrived.from.node it.arrived.from.there

      rel_holds : RelHolds era.kind (sizes_at x (Good arts x w.at.events w.at.journal) v) mv.act.node.signer.index (flows_of era.kind mv.act.node.parts)
      rel_holds = flows_hold era.kind (sizes_at x (Good arts x w.at.events w.at.journal) v) mv.act.node.parts is_node.holds.parts

      -- what the neighbour sent over their edge came over it
      comes : (m : Body) → goes_over (edge_to it.arrived.from.node.parts.kflow v) m ≡ true
          → came_over (parts_met arts mv.act.node u it.bytes).kflow u m ≡ true
      comes m goes =
          let maker = it.arrived.from.node in
          let from = (rows_are arts x it.arrived.from.events it.arrived.from.journal it.arrived.from.world fits reads.carries it.arrived.from.run u maker
          it.arrived.from.there).edges in
          let here = (rows arts x all era flow fits reads is_era w y e u v hop mv.act first second).edges in
          let met = greeted_edges mv.act.node.fixed.epochs (has_risen (link_in mv.act.node u) (link_after arts mv.act.node u it.bytes)) u mv.act.node.parts in
          let edge = same_edge x u v maker.parts.kflow (parts_met arts mv.act.node u it.bytes).kflow from (met ∙ here) hop.hop.joined
          (both_ways x u v hop.hop).joined in
          ap (λ (k : ℕ). goes_over k m) (sym edge) ∙ goes

      is_ready : Ready (nodes_of x.topology) x.buffer v flow (flows_of era.kind (parts_met arts mv.act.node u it.bytes))
      is_ready =
          greeted_ready era.kind (nodes_of x.topology) x.buffer v flow mv.act.node.fixed.epochs
          (has_risen (link_in mv.act.node u) (link_after arts mv.act.node u it.bytes)) u mv.act.node.parts (record {
            me = rel_holds.me;
            nodes_are = (views_rows arts x all era flow fits reads is_era w y e u v hop mv.act first second k it).nodes_are;
            bound_is = rel_holds.bound;
            row = flow_row arts x all era flow fits reads is_era w y e u v hop mv.act first second k it;
            acks = is_node.acks era.kind;
            goes_on = readied_keeps x w.at.world mv.act.before mv.act.node (λ q. is_over (flows_of era.kind q.parts).removed flow ≡ false) (λ upto on. on)
                mv.act.readied
                (not_over arts x all era fits reads.carries flow is_era w v mv.act.before mv.act.there
                (sym (same_read x w.at.world mv.act.before mv.act.node (in_life era v) (λ upto. refl) mv.act.readied) ∙ first));
          })

      met_flow : flow_in (flows_of era.kind (parts_met arts mv.act.node u it.bytes)).flows flow ≡ flow_in (flows_of era.kind mv.act.node.parts).flows flow
      met_flow = ap (λ fs. flow_in fs flow) (flows_met arts x all era flow fits reads is_era w y e u v hop mv.act first second k it)

      flow_before : flow_seen arts x all era flow w v ≡ flow_in (flows_of era.kind (parts_met arts mv.act.node u it.bytes)).flows flow
      flow_before =
          let counts = mv.first in
          lit (no_flow flow) (flow_of era flow v) (node_in w.at.world.nodes v) mv.act.before mv.act.there
          ∙ sym (same_read x w.at.world mv.act.before mv.act.node (flow_of era flow v) (λ upto. refl) mv.act.readied) ∙ rw counts refl ∙ sym met_flow

      abbrev left_rel : RelState
      left_rel = rel_after arts x all era flow fits reads is_era w y e u v hop mv.act first second k it held

      flow_after : flow_seen arts x all era flow y v ≡ flow_in left_rel.flows flow
      flow_after =
          seen_flow arts x all era flow y v mv.act.after mv.act.left mv.second
          ∙ (left_is arts x all era flow fits reads is_era w y e u v hop mv.act first second k it held handled).flow_is

      lives_held : (held_boot (parts_met arts mv.act.node u it.bytes).lives flow.src ≡ era.sboot)
          × (held_boot (parts_met arts mv.act.node u it.bytes).lives flow.dst ≡ era.dboot)
      lives_held =
          let boots = holds_both mv.act.node flow.src flow.dst era.sboot era.dboot held in
          let same = lives_met arts x all era flow fits reads is_era w y e u v hop mv.act first second k it in
          (ap (λ ls. held_boot ls flow.src) same ∙ boots.0, ap (λ ls. held_boot ls flow.dst) same ∙ boots.1)

      are_dated : (t : Report) → slot_of_kind era.kind (contents_to it.arrived.from.node.fixed it.arrived.from.node.parts v) ≡ Some t
          → is_slot era flow t ≡ true
          → ((o : Kept) → t.ack ≡ Some o → is_dated (parts_met arts mv.act.node u it.bytes).lives o.body ≡ true)
          × ((o : Kept) (os : List Kept) → t.rels ≡ o ∷ os → is_dated (parts_met arts mv.act.node u it.bytes).lives o.body ≡ true)
      are_dated t is mine =
          let maker = it.arrived.from.node in
          let parts = both (is_mine flow t.flow) ((t.sboot == era.sboot) && (t.dboot == era.dboot)) mine in
          let boots = both (t.sboot == era.sboot) (t.dboot == era.dboot) parts.1 in
          let its = same_flow flow t.flow parts.0 in
          let named = slot_boots maker.fixed.topology.format maker.parts.lives (option_map (sent_over era.kind (edge_to maker.parts.kflow v))
          (slot_for (flows_of era.kind maker.parts) v)) t (slot_some era.kind maker.fixed maker.parts v t is) in
          let one : held_boot maker.parts.lives flow.src ≡ era.sboot =
          ap (λ (g : Flow). held_boot maker.parts.lives g.src) (sym its) ∙ sym named.0 ∙ eqb-true _ _ boots.0 in
          let two : held_boot maker.parts.lives flow.dst ≡ era.dboot =
          ap (λ (g : Flow). held_boot maker.parts.lives g.dst) (sym its) ∙ sym named.1 ∙ eqb-true _ _ boots.1 in
          let names = slot_names era.kind (edge_to maker.parts.kflow v) maker.parts v maker.fixed.topology.format flow era.sboot era.dboot t maker_is.dated one
          two
          (slot_some era.kind maker.fixed maker.parts v t is) its in (
            λ o e. names_dated (parts_met arts mv.act.node u it.bytes).lives flow era.sboot era.dboot o.body lives_held.0 lives_held.1 (names.0 o e),
            λ o os e. names_dated (parts_met arts mv.act.node u it.bytes).lives flow era.sboot era.dboot o.body lives_held.0 lives_held.1 (names.1 o os e),
          )

      abbrev f : Told
      f = told_slot era flow true (slot_of_kind era.kind (contents_to it.arrived.from.node.fixed it.arrived.from.node.parts v))

      done_f : SlotDone flow (flows_of era.kind (parts_met arts mv.act.node u it.bytes)) left_rel u f
      done_f = done arts x all era flow fits reads is_era w y e u v hop mv.act first second k it held

      view_left : view_seen arts x all era flow y v u ≡ view_in (peer_in left_rel.peers u).views flow
      view_left =
          lit (no_view flow) (view_at x era flow v u) (node_in y.at.world.nodes v) mv.act.after mv.act.left
          ∙ after_view arts x all era flow fits reads is_era w y e u v hop mv.act first second k it held handled

      heeded_f : f.mine ≡ true → IsFit (Watched arts x all era) (sight arts x all era flow) x.buffer flow.src flow.dst w v f
          → IsHeeded (Watched arts x all era) (sight arts x all era flow) (place_at x flow) x.buffer flow.dst w y u v f
      heeded_f mine fit =
          let n = mv.act.node in
          let r = (flows_of era.kind (parts_met arts mv.act.node u it.bytes)) in
          let at = sight arts x all era flow in
          let maker = it.arrived.from.node in
          let slot = slot_of_kind era.kind (contents_to maker.fixed maker.parts v) in
          let fb = ap (λ (g : FlowState). g.at.base) flow_before in
          let fh = ap (λ (g : FlowState). g.at.have) flow_before in
          let gb = ap (λ (g : FlowState). g.at.base) flow_after in
          let gh = ap (λ (g : FlowState). g.at.have) flow_after in
          let ready = is_ready in
          let fit_base = fit.base in
          let fit_have = fit.have in
          let fit_near = fit.next_near in
          let source : is_from r flow ≡ true → at.have w flow.src ≡ (flow_in r.flows flow).at.have =
          λ z. ap (λ q. at.have w q) (same_node flow.src v (sym (eqb-true _ _ z) ∙ ap (λ (q : NodeId). q.0) ready.me)) ∙ fh in
          let end : is_to r flow ≡ true → at.base w flow.dst ≡ (flow_in r.flows flow).at.base =
          λ z. ap (λ q. at.base w q) (same_node flow.dst v (sym (eqb-true _ _ z) ∙ ap (λ (q : NodeId). q.0) ready.me)) ∙ fb in
          let sound_d = sound arts x all era flow fits reads.carries w flow.dst in
          let upper = sent_most arts x all era flow fits reads is_era w calm.before flow.dst in
          let of =
          heeded_of era.kind (edge_to maker.parts.kflow v) arts n.fixed (parts_met arts n u it.bytes).lives (came_over (parts_met arts n u it.bytes).kflow u)
          (nodes_of x.topology) x.buffer v u era
          flow r slot comes ready (are_nodes x flow is_era.right)
          (λ t is m.
          slot_parts era.kind (edge_to maker.parts.kflow v) era.low era.high (sizes_at x (Good arts x it.arrived.from.events it.arrived.from.journal) u)
          maker.signer.index (flows_of era.kind maker.parts) v
          maker.fixed.topology.format
          maker.parts.lives flow t
          (flows_hold era.kind (sizes_at x (Good arts x it.arrived.from.events it.arrived.from.journal) u) maker.parts maker_is.holds.parts)
          (maker_is.acks era.kind) (slot_some era.kind maker.fixed maker.parts v t is) m)
          (signed_in era.kind arts x w.at.events w.at.journal w.at.world (signs arts x w.at.events w.at.journal w.at.world fits reads.carries w.at.run) u v k
          it.bytes
          (contents_to maker.fixed maker.parts v) n.fixed n.fixed.boot is_node.fixed it.arrived.there
          (served_sections arts x u v maker it.bytes it.arrived.framed handled.served)) are_dated mine (record {
            window = fit.window;
            no_ack = λ z. let q = fit.no_ack z in omega (arith, q, fb);
            next_there = fit.next_there;
            next_near = omega (arith, fit_near, fh);
            at_source = λ z. let q = source z in omega (arith, q, fit_have);
            low = λ z. let q = source z in omega (arith, q, fit_base, sound_d, upper);
            at_end = λ z. let q = end z in omega (arith, q, fit_base);
          }) in
          heeded_by of ready mine
        where
          heeded_by : HeededOf flow x.buffer (flows_of era.kind (parts_met arts mv.act.node u it.bytes)) left_rel f
              → Ready (nodes_of x.topology) x.buffer v flow (flows_of era.kind (parts_met arts mv.act.node u it.bytes))
              → f.mine ≡ true
              → IsHeeded (Watched arts x all era) (sight arts x all era flow) (place_at x flow) x.buffer flow.dst w y u v f
          heeded_by of ready mine =
              let gb = ap (λ (g : FlowState). g.at.base) flow_after in
              let gh = ap (λ (g : FlowState). g.at.have) flow_after in
              let of_base = of.base in
              record {
                base = omega (arith, of_base, gb);
                have = λ away. let q = of.have (ne_eqb _ _ (λ z. away (same_node v flow.dst (sym (ap (λ (m : NodeId). m.0) ready.me) ∙ z)))) in
                    omega (arith, q, gh);
                have_at_end = λ z.
                    let q = of.have_at_end (eq-eqb _ _ (ap (λ (m : NodeId). m.0) ready.me ∙ ap (λ (m : NodeId). m.0) z)) in
                    let taken : (sight arts x all era flow).taken w
                    ≡ (flow_in (flows_of era.kind (parts_met arts mv.act.node u it.bytes)).flows flow).at.have
                    - length (flow_in (flows_of era.kind (parts_met arts mv.act.node u it.bytes)).flows flow).inbox =
                    ap (λ j. (flow_seen arts x all era flow w j).at.have - length (flow_seen arts x all era flow w j).inbox) (sym z)
                    ∙ ap (λ (g : FlowState). g.at.have - length g.inbox) flow_before in
                    omega (arith, q, taken, gh);
                view = λ on.
                    let active = ap (λ (g : FlowState). g.active) (sym flow_before) ∙ seen_active arts x all era flow fits reads.carries w v on in
                    let got = done_f.active mine active in
                    (ap (λ (z : View). z.base) view_left ∙ got.0, ap (λ (z : View). z.have) view_left ∙ got.1);
              }

      pub heeded_now : ((wires arts x all era flow).told w u v (k + 1)).mine ≡ true
          → IsFit (Watched arts x all era) (sight arts x all era flow) x.buffer flow.src flow.dst w v ((wires arts x all era flow).told w u v (k + 1))
          → IsHeeded (Watched arts x all era) (sight arts x all era flow) (place_at x flow) x.buffer flow.dst w y u v
          ((wires arts x all era flow).told w u v (k + 1))
      heeded_now mine fit =
          let told = told_is arts x all era flow fits reads is_era w y e u v hop mv.act first second k it handled in
          let fit_f = subst (IsFit (Watched arts x all era) (sight arts x all era flow) x.buffer flow.src flow.dst w v) told fit in
          let now = heeded_f (ap (λ (g : Told). g.mine) (sym told) ∙ mine) (record {
            base = fit_f.base;
            have = fit_f.have;
            window = fit_f.window;
            no_ack = fit_f.no_ack;
            next_there = fit_f.next_there;
            next_near = fit_f.next_near;
          }) in
          subst (IsHeeded (Watched arts x all era) (sight arts x all era flow) (place_at x flow) x.buffer flow.dst w y u v) (sym told)
          (record { base = now.base; have = now.have; have_at_end = now.have_at_end; view = now.view })

    -- one of the version is handled, where it has the flow's slot
    of_met : (mv : Moved arts x all era flow fits reads is_era w y e calm v) (k : ℕ) → (met : Met arts x all era flow w u v mv.act.node mv.act.after k)
        → ((wires arts x all era flow).told w u v (k + 1)).here ≡ true → ((wires arts x all era flow).told w u v (k + 1)).mine ≡ true
        → HandledAt arts u v mv.act.node mv.act.after met.it.arrived.from.node met.it.bytes
    of_met mv k met here mine = elim met.left [
      | inl handled ↦ handled
      | inr over ↦ absurd (over.why served version shut)
    ]
      where
        first : in_life era v mv.act.node ≡ true
        first = (era_is era flow v mv.act.node mv.first).0

        second : in_life era v mv.act.after ≡ true
        second = (era_is era flow v mv.act.after mv.second).0

        told : (wires arts x all era flow).told w u v (k + 1)
            ≡ of_version (met.it.arrived.from.node.live.version == era.version)
            (told_slot era flow true (slot_of_kind era.kind (contents_at met.it.arrived.from.node v)))
        told = told_at arts x all era flow fits reads is_era w y e u v hop mv.act first second k met.it

        of_slot : (o : Option Report) → o ≡ None → (told_slot era flow true o).mine ≡ true → ⊥
        of_slot None none z = (let f : false ≡ true = z in cc)
        of_slot (Some r) none z = (let f : Some r ≡ None = none in cc)

        served : is_served met.it.arrived.from.node v ≡ true
        served = elim (cases_Bool (is_served met.it.arrived.from.node v)) [
          | inl on ↦ on
          | inr off ↦ absurd (of_slot (slot_of_kind era.kind (contents_at met.it.arrived.from.node v)) (unserved_slot era.kind met.it.arrived.from.node v off)
              (ap (λ (g : Told). g.mine) (sym told) ∙ mine))
        ]

        runs : RunsAt era mv.act.node
        runs = moved_runs arts x all era flow fits reads is_era w y e calm v hop.second mv

        version : (arts.head met.it.bytes).topology ≡ mv.act.node.live.version
        version = met.it.arrived.framed.topology ∙ eqb-true _ _ (ap (λ (g : Told). g.here) (sym told) ∙ here) ∙ sym runs.0

        shut : is_shut_to mv.act.node u ≡ false
        shut =
            edge_at x era.version era.weights v u (between_back x era u v hop).hop.joined (between_back x era u v hop).open_edge mv.act.node
            (is_of arts x all era flow fits reads is_era w y e u v hop mv.act first second).fixed runs

    pub hears : IsDeaf (Watched arts x all era) (sight arts x all era flow) (wires arts x all era flow) w y u v
        ⊎ ((k : ℕ) × IsHearing (Watched arts x all era) (sight arts x all era flow) (wires arts x all era flow) w y u v k
        × (((wires arts x all era flow).told w u v k).here ≡ true → ((wires arts x all era flow).told w u v k).mine ≡ true
        → IsFit (Watched arts x all era) (sight arts x all era flow) x.buffer flow.src flow.dst w v ((wires arts x all era flow).told w u v k)
        → IsHeeded (Watched arts x all era) (sight arts x all era flow) (place_at x flow) x.buffer flow.dst w y u v ((wires arts x all era flow).told w u v k)))
    hears = elim (moves_or arts x all era flow fits reads is_era w y e calm v hop.second) [
      | inl q ↦ inl (deaf_rest arts x all era flow fits reads is_era w y e u v q)
      | inr mv ↦
          let first = (era_is era flow v mv.act.node mv.first).0 in
          let second = (era_is era flow v mv.act.after mv.second).0 in
          elim (hearing arts x all era flow fits reads is_era w y e u v hop mv.act first second) [
            | inl same ↦ inl (deaf_here arts x all era flow fits reads is_era w y e u v mv.act same)
            | inr met ↦ inr (
              met.0 + 1,
              hearing_of arts x all era flow fits reads is_era w y e u v hop mv.act first second met.0 met.1,
              λ here mine fit. heeded_now mv met.0 met.1.it (of_met mv met.0 met.1 here mine) mine fit,
            )
          ]
    ]
