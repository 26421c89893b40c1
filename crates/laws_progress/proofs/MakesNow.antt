-- What the frame of a poll tells of a flow, against the node that makes it and what is seen of it.
use Rattle.laws_node.specs.Story.{journal}
use Rattle.laws_progress.proofs.Changes.{life_is, lit, era_is}
use Rattle.laws_progress.proofs.Hops.{IsServed, IsMade, Told}
use Rattle.laws_progress.proofs.States.{Era, Follow, IsBetween, Leads, Watched, actives_of, flow_of, flow_seen, has_met, in_era, knows_now, sight}
use Rattle.laws_progress.proofs.States.{view_at, view_seen}
use Rattle.laws_runs.proofs.Running.{found_there}
use Rattle.std.proofs.lemmas.Option.{same_Some}
use Rattle.laws_progress.proofs.Facts.{Sight}
use Rattle.std.proofs.Common.{◌≡◌, ◌⊎◌, ℕ, suc, ◌==◌, Bool, true, false, List, [], ◌∷◌, ◌++◌, length, map, Option, Some, None}
use Rattle.std.proofs.Common.{refl, sym, ap, subst, ◌∙◌, inl, inr, arith, eq-eqb, not, cond}
use Rattle.std.specs.Prelude.{option_and_then, slice_get, ◌&&◌, ◌||◌}
use Rattle.std.proofs.lemmas.Bool.{cases_Bool, eqb-true}
use Rattle.sp_base.specs.Cursor.{next_after}
use Rattle.sp_base.specs.declared.id.Flow.{Flow}
use Rattle.sp_base.specs.declared.id.NodeId.{NodeId}
use Rattle.sp_frame.specs.Reliable.{Report}
use Rattle.sp_rules.specs.Arts.{Arts}
use Rattle.sp_rules.specs.Flow.{FlowState, no_flow}
use Rattle.sp_rules.specs.Node.{NodeState, is_behind, is_shut_to, link_in}
use Rattle.sp_frame.specs.Sections.{with_document}
use Rattle.sp_rules.specs.Parts.{nodes_of}
use Rattle.sp_rules.specs.Polls.{contents_at, contents_to, frame_to, is_served, no_contents}
use Rattle.sp_rules.specs.Rel.{flow_in, peer_in, view_in, View, no_view}
use Rattle.sp_rules.specs.declared.kflow.FlowKind.TheVariants.{Plain}
use Rattle.laws_runs.specs.Signs.{Good, sizes_at}
use Rattle.sp_runs.specs.Runs.{polls, is_poll}
use Rattle.sp_runs.specs.Settings.{Setting, SettingFits}
use Rattle.sp_runs.specs.Worlds.{frame_in, frames_in, node_in, is_running}
use Rattle.sp_journal.specs.declared.entry.Entry.{Entry}
use Rattle.sp_schedule_events.specs.declared.event.Event.{Event}
use Rattle.laws_runs.specs.Premises.{ComesThrough}
use Rattle.laws_runs.proofs.Signed.{signs}
use Rattle.laws_progress.proofs.Framed.{Framed, frame_at}
use Rattle.laws_progress.proofs.Versions.{has_heard}
use Rattle.laws_progress.proofs.Made.{frames_count, FramesTurn, Makes, Misses, Leaves, frames_turn}
use Rattle.laws_progress.proofs.Places.{get_last}
use Rattle.laws_progress.proofs.Polls.{one_polled}
use Rattle.laws_progress.proofs.Standing.{place_at}
use Rattle.laws_progress.proofs.Wires.{of_version, slot_in, told_of, told_slot, nothing_told, is_slot}
use Rattle.sp_rules.specs.Parts.{flows_of, Fixed}
use Rattle.sp_rules.specs.declared.kflow.FlowKind.{FlowKind}
use Rattle.sp_rules.specs.declared.kflow.FlowKind.TheVariants.{Paths}
use Rattle.laws_node.proofs.FlowKinds.{flows_hold}
use Rattle.laws_progress.proofs.EitherKind.{slot_of_kind}
use Rattle.laws_progress.proofs.Makes.{Passes}
use Rattle.sp_rules.specs.Kflow.{edge_to}
use Rattle.sp_frame.specs.Sections.{Contents}
use Rattle.laws_progress.proofs.MadeBy.{MadeBy, made_by, none_by, two_true}

pub frame_told : (arts : Arts) (x : Setting) (era : Era) (flow : Flow) (u v : NodeId) (n : NodeState) (bytes : List ℕ) → Framed arts x u v n bytes
    → n.fixed.boot ≡ era.life u
    → told_of arts x era flow u v (Some bytes)
    ≡ of_version (n.live.version == era.version) (told_slot era flow ((link_in n v).peer_boot == era.life v) (slot_of_kind era.kind (contents_at n v)))
frame_told arts x era flow u v n bytes f life =
    let here : ((arts.head bytes).boot == era.life u) ≡ true = eq-eqb _ _ (f.head.boot_is ∙ life) in
    rw here (ap (λ t. of_version (t == era.version)
    (told_slot era flow ((arts.head bytes).echo == era.life v) (slot_in era.kind (arts.sections x.signature_len bytes)))) f.topology
    ∙ ap (λ e. of_version (n.live.version == era.version) (told_slot era flow (e == era.life v) (slot_in era.kind (arts.sections x.signature_len bytes))))
    f.echo
    ∙ ap (λ s. of_version (n.live.version == era.version) (told_slot era flow ((link_in n v).peer_boot == era.life v) (slot_in era.kind s))) f.sections)

-- a frame of another life tells nothing
pub other_told : (arts : Arts) (x : Setting) (era : Era) (flow : Flow) (u v : NodeId) (bytes : List ℕ) → ((arts.head bytes).boot == era.life u) ≡ false
    → told_of arts x era flow u v (Some bytes) ≡ nothing_told
other_told arts x era flow u v bytes off = rw off refl

none_made : (W : Type 0) (at : Sight W) (w : W) (u v : NodeId) → IsMade W at w u v nothing_told
none_made W at w u v = record {
  base = λ z. absurd (let f : false ≡ true = z in cc);
  have = λ z. absurd (let f : false ≡ true = z in cc);
  no_ack = λ z. absurd (let f : false ≡ true = z in cc);
  next_there = λ z. absurd (let f : false ≡ true = z in cc);
  next_near = λ z. absurd (let f : false ≡ true = z in cc);
}

-- what it tells goes by its version alone as far as it is there
made_version : {W : Type 0} {at : Sight W} {w : W} {u v : NodeId} (now : Bool) (f : Told) → IsMade W at w u v f → IsMade W at w u v (of_version now f)
made_version now f h = record { base = h.base; have = h.have; no_ack = h.no_ack; next_there = h.next_there; next_near = h.next_near }

served_version : {W : Type 0} {at : Sight W} {place : ℕ} {d : NodeId} {w : W} {u v : NodeId} (now : Bool) (f : Told) → now ≡ true
    → IsServed W at place d w u v f
    → IsServed W at place d w u v (of_version now f)
served_version now f is h = record { here = is; mine = h.mine; echo = h.echo; next_is = h.next_is }

-- what is seen of a node that holds the boots that count
pub seen_flow : (arts : Arts) (x : Setting) (all : List Event) (era : Era) (flow : Flow) (w : Watched arts x all era) (u : NodeId) (n : NodeState)
    → node_in w.at.world.nodes u ≡ Some n → in_era era flow u n ≡ true → flow_seen arts x all era flow w u ≡ flow_in (flows_of era.kind n.parts).flows flow
seen_flow arts x all era flow w u n at is = lit (no_flow flow) (flow_of era flow u) (node_in w.at.world.nodes u) n at ∙ rw is refl

pub seen_view : (arts : Arts) (x : Setting) (all : List Event) (era : Era) (flow : Flow) (w : Watched arts x all era) (u v : NodeId) (n : NodeState)
    → node_in w.at.world.nodes u ≡ Some n → in_era era flow u n ≡ true → has_met x era v n ≡ true
    → view_seen arts x all era flow w u v ≡ view_in (peer_in (flows_of era.kind n.parts).peers v).views flow
seen_view arts x all era flow w u v n at is met = lit (no_view flow) (view_at x era flow u v) (node_in w.at.world.nodes u) n at ∙ rw (is, met) refl

-- the frame that a poll adds, and the node that made it
slot_here : (era : Era) (flow : Flow) (echo : Bool) (slot : Option Report) → (told_slot era flow echo slot).here ≡ true
slot_here era flow echo None = refl
slot_here era flow echo (Some r) = refl

pub slot_echo : (era : Era) (flow : Flow) (echo : Bool) (slot : Option Report) → (told_slot era flow echo slot).echo ≡ echo
slot_echo era flow echo None = refl
slot_echo era flow echo (Some r) = refl

-- what may bring the flow's slot echoes the right life
mine_echo : (era : Era) (flow : Flow) (echo : Bool) (slot : Option Report) → (told_slot era flow echo slot).mine ≡ true → echo ≡ true
mine_echo era flow echo None is = absurd (let f : false ≡ true = is in cc)
mine_echo era flow echo (Some r) is = (two_true echo (is_slot era flow r) is).0

pub record Polled (arts : Arts) (x : Setting) (all : List Event) (era : Era) (flow : Flow) (w y : Watched arts x all era) (u v : NodeId) (b : NodeState) : Type
    0 where
  pub there : node_in w.at.world.nodes u ≡ Some b
  pub framed : Framed arts x u v b (frame_to arts b v)
  pub at : frame_in y.at.world.directions u v (polls y.at.events u v) ≡ Some (frame_to arts b v)

module _ (arts : Arts) (x : Setting) (all : List Event) (era : Era) (flow : Flow) (fits : SettingFits arts x)
    (reads : ComesThrough x.topology.format arts x.signature_len)
    (w y : Watched arts x all era) (e : Event) (u v : NodeId) (hop : IsBetween x era u v) (leads : Leads arts x all era w e y) (poll : is_poll u v e ≡ true)
  where
    abbrev told : Told
    told = told_of arts x era flow u v (frame_in y.at.world.directions u v (polls y.at.events u v))

    last_place : (frame : Option (List ℕ)) → frames_in y.at.world.directions u v ≡ frames_in w.at.world.directions u v ++ frame ∷ []
        → frame_in y.at.world.directions u v (polls y.at.events u v) ≡ frame
    last_place frame frames =
        let ds = w.at.world.directions in
        let count = frames_count arts x w.at.events w.at.journal w.at.world w.at.run u v in
        let number = one_polled arts x all w.at y.at e u v leads poll in
        ap (frame_in y.at.world.directions u v) (let q : polls y.at.events u v ≡ suc (length (frames_in ds u v)) = omega (arith, number, count) in q)
        ∙ ap (option_and_then (λ frame. frame)) (ap (λ fs. slice_get fs (length (frames_in ds u v))) frames ∙ get_last (frames_in ds u v) frame)

    -- an empty place, or a frame of u as it was
    pub polled_now : (frame_in y.at.world.directions u v (polls y.at.events u v) ≡ None) × (is_running w.at.world.nodes u ≡ false)
        ⊎ ((b : NodeState) × Polled arts x all era flow w y u v b)
    polled_now = of_turn leads
      where
        of_frames : (j : Entry) → FramesTurn arts w.at.world e y.at.world u v
            → (frame_in y.at.world.directions u v (polls y.at.events u v) ≡ None) × (is_running w.at.world.nodes u ≡ false)
            ⊎ ((b : NodeState) × Polled arts x all era flow w y u v b)
        of_frames j (Makes on b there frames) = inr (
          b,
          record {
            there = there;
            framed = frame_at arts x w.at.events w.at.journal w.at.world fits reads w.at.run u v hop.hop.joined b there;
            at = last_place (Some (frame_to arts b v)) frames;
          },
        )
        of_frames j (Misses on down frames) = inl (last_place None frames, down)
        of_frames j (Leaves off frames) = absurd (let f : true ≡ false = sym poll ∙ off in cc)

        of_turn : Leads arts x all era w e y → (frame_in y.at.world.directions u v (polls y.at.events u v) ≡ None) × (is_running w.at.world.nodes u ≡ false)
            ⊎ ((b : NodeState) × Polled arts x all era flow w y u v b)
        of_turn (Follow j events journal range turn unforged) = of_frames j (frames_turn arts x w.at.world e j y.at.world turn u v)

    made_of : (b : NodeState) → Polled arts x all era flow w y u v b
        → MadeBy era flow (place_at x flow) b u v (is_served b v) ((link_in b v).peer_boot == era.life v)
        (told_slot era flow ((link_in b v).peer_boot == era.life v) (slot_of_kind era.kind (contents_at b v)))
    made_of b p = go (is_behind b v) (is_shut_to b v)
      where
        echo : Bool
        echo = (link_in b v).peer_boot == era.life v

        none_of : (k : FlowKind) (c : Contents) → c.slot ≡ None → c.paths ≡ None → slot_of_kind k c ≡ None
        none_of Plain c slot paths = slot
        none_of Paths c slot paths = paths

        without : (c : Contents) → c.slot ≡ None → c.paths ≡ None
            → MadeBy era flow (place_at x flow) b u v false echo (told_slot era flow echo (slot_of_kind era.kind c))
        without c slot paths =
            subst (λ (o : Option Report). MadeBy era flow (place_at x flow) b u v false echo (told_slot era flow echo o)) (sym (none_of era.kind c slot paths))
            (none_by era flow (place_at x flow) b u v false echo refl)

        go : (behind shut : Bool) → MadeBy era flow (place_at x flow) b u v (not behind && not shut) ((link_in b v).peer_boot == era.life v)
            (told_slot era flow ((link_in b v).peer_boot == era.life v)
            (slot_of_kind era.kind (cond behind (with_document b.live.document) (cond shut no_contents (contents_to b.fixed b.parts v)))))
        go true shut = without (with_document b.live.document) refl refl
        go false true = without no_contents refl refl
        go false false =
            let is = (signs arts x w.at.events w.at.journal w.at.world fits reads.carries w.at.run).nodes u b p.there in
            made_by era (sizes_at x (Good arts x w.at.events w.at.journal) u) b.signer.index flow (nodes_of x.topology) b u v true
            echo refl refl (ap (λ (f : Fixed). f.topology.format) (sym is.fixed))
            (flows_hold era.kind (sizes_at x (Good arts x w.at.events w.at.journal) u) b.parts is.holds.parts) (is.acks era.kind)

    met_of : (b : NodeState) → ((link_in b v).peer_boot == era.life v) ≡ true → has_met x era v b ≡ true
    met_of b is = go x.epochs
      where
        go : (t : Bool) → (not t || ((link_in b v).peer_boot == era.life v)) ≡ true
        go true = is
        go false = refl

    pub makes : IsMade (Watched arts x all era) (sight arts x all era flow) w u v told
    makes = elim polled_now [
      | inl missed ↦ subst (IsMade (Watched arts x all era) (sight arts x all era flow) w u v) (sym (ap (told_of arts x era flow u v) missed.0))
          (none_made (Watched arts x all era) (sight arts x all era flow) w u v)
      | inr made ↦ elim (cases_Bool (made.0.fixed.boot == era.life u)) [
        | inl same ↦
            let is = ap (told_of arts x era flow u v) made.1.at
            ∙ frame_told arts x era flow u v made.0 (frame_to arts made.0 v) made.1.framed (eqb-true _ _ same) in
            subst (IsMade (Watched arts x all era) (sight arts x all era flow) w u v) (sym is)
            (made_version (made.0.live.version == era.version) _ (of_node made.0 made.1 same))
        | inr other ↦
            let off : ((arts.head (frame_to arts made.0 v)).boot == era.life u) ≡ false = ap (λ b. b == era.life u) made.1.framed.head.boot_is ∙ other in
            let is = ap (told_of arts x era flow u v) made.1.at ∙ other_told arts x era flow u v (frame_to arts made.0 v) off in
            subst (IsMade (Watched arts x all era) (sight arts x all era flow) w u v) (sym is)
            (none_made (Watched arts x all era) (sight arts x all era flow) w u v)
      ]
    ]
      where
        of_node : (b : NodeState) → Polled arts x all era flow w y u v b → (b.fixed.boot == era.life u) ≡ true
            → IsMade (Watched arts x all era) (sight arts x all era flow) w u v
            (told_slot era flow ((link_in b v).peer_boot == era.life v) (slot_of_kind era.kind (contents_at b v)))
        of_node b p same =
            let made = made_of b p in
            let f = told_slot era flow ((link_in b v).peer_boot == era.life v) (slot_of_kind era.kind (contents_at b v)) in
            let era_of : f.mine ≡ true → in_era era flow u b ≡ true = λ z. let on = hop.first in let held = made.held z in rw (on, same) held in
            let flow_of_it : f.mine ≡ true → flow_seen arts x all era flow w u ≡ flow_in (flows_of era.kind b.parts).flows flow =
            λ z. seen_flow arts x all era flow w u b p.there (era_of z) in
            let echo_of : f.mine ≡ true → ((link_in b v).peer_boot == era.life v) ≡ true = mine_echo era flow ((link_in b v).peer_boot == era.life v)
            (slot_of_kind era.kind (contents_at b v)) in
            let view_of_it : f.mine ≡ true → view_seen arts x all era flow w u v ≡ view_in (peer_in (flows_of era.kind b.parts).peers v).views flow =
            λ z. seen_view arts x all era flow w u v b p.there (era_of z) (met_of b (echo_of z)) in
            record {
              base = λ z. made.base z ∙ sym (ap (λ (g : FlowState). g.at.base) (flow_of_it z));
              have = λ z. made.have z ∙ sym (ap (λ (g : FlowState). g.at.have) (flow_of_it z));
              no_ack = λ z none.
                  let low = made.no_ack z none in
                  let b1 = ap (λ (g : FlowState). g.at.base) (flow_of_it z) in
                  let v1 = ap (λ (g : View). g.base) (view_of_it z) in
                  omega (arith, low, b1, v1);
              next_there = λ z. let low = made.next_there z in let h1 = ap (λ (g : FlowState). g.at.have) (flow_of_it z) in omega (arith, low, h1);
              next_near = λ z.
                  let low = made.next_near z in
                  let b1 = ap (λ (g : FlowState). g.at.base) (flow_of_it z) in
                  let v1 = ap (λ (g : View). g.have) (view_of_it z) in
                  omega (arith, low, b1, v1);
            }

    -- where u holds the boots that count, it is there, and serves the flow at its turn
    pub serves_now : (b : NodeState) → node_in w.at.world.nodes u ≡ Some b → in_era era flow u b ≡ true → b.live.version ≡ era.version
        → (has_heard x era.version v b ≡ true → is_served b v ≡ true)
        → Passes era.low era.high (edge_to b.parts.kflow v) (flow_in (flows_of era.kind b.parts).flows flow)
        → IsServed (Watched arts x all era) (sight arts x all era flow) (place_at x flow) flow.dst w u v told
    serves_now b there counts version carried passes = elim polled_now [
      | inl missed ↦ absurd (let f : true ≡ false = sym (found_there u b w.at.world.nodes there) ∙ missed.1 in cc)
      | inr made ↦
          let same : made.0 ≡ b = same_Some made.0 b (sym made.1.there ∙ there) in
          let p = subst (Polled arts x all era flow w y u v) same made.1 in
          let life = (life_is era u b (era_is era flow u b counts).0).1 in
          let is = ap (told_of arts x era flow u v) p.at ∙ frame_told arts x era flow u v b (frame_to arts b v) p.framed life in
          subst (IsServed (Watched arts x all era) (sight arts x all era flow) (place_at x flow) flow.dst w u v) (sym is)
          (served_version (b.live.version == era.version) _ (eq-eqb _ _ version) (of_served b p))
    ]
      where
        of_served : (b : NodeState) → Polled arts x all era flow w y u v b
            → IsServed (Watched arts x all era) (sight arts x all era flow) (place_at x flow) flow.dst w u v
            (told_slot era flow ((link_in b v).peer_boot == era.life v) (slot_of_kind era.kind (contents_at b v)))
        of_served c p =
            let same : c ≡ b = same_Some c b (sym p.there ∙ there) in
            let mine_era : in_era era flow u c ≡ true = ap (in_era era flow u) same ∙ counts in
            let in_it = era_is era flow u c mine_era in
            let lived = in_it.0 in
            let made = made_of c p in
            let echo = (link_in c v).peer_boot == era.life v in
            let slot = (slot_of_kind era.kind (contents_at c v)) in
            let knows : (sight arts x all era flow).knows w u v ≡ (echo && has_heard x era.version v c) =
            lit false (knows_now x era u v) (node_in w.at.world.nodes u) c p.there ∙ rw lived refl in
            let last = lit None (λ q. (peer_in (flows_of era.kind q.parts).peers v).last) (node_in w.at.world.nodes u) c p.there in
            let actives : (sight arts x all era flow).actives w u ≡ map (λ f. f.active) (flows_of era.kind c.parts).flows =
            lit [] (actives_of era flow u) (node_in w.at.world.nodes u) c p.there ∙ rw mine_era refl in
            let flow_now = seen_flow arts x all era flow w u c p.there mine_era in
            record {
              here = slot_here era flow echo slot;
              mine = λ is turn.
                  let known = two_true echo (has_heard x era.version v c) (sym knows ∙ is) in
                  made.mine (subst (λ (q : NodeState). has_heard x era.version v q ≡ true → is_served q v ≡ true) (sym same) carried known.1) known.0 in_it.1
                  (ap (λ o. next_after o (map (λ f. f.active) (flows_of era.kind c.parts).flows)) (sym last)
                  ∙ ap (next_after ((sight arts x all era flow).last w u v)) (sym actives) ∙ turn);
              echo = λ is. slot_echo era flow echo slot ∙ (two_true echo (has_heard x era.version v c) (sym knows ∙ is)).0;
              next_is = λ z away ready.
                  let met : has_met x era v c ≡ true = met_of c (mine_echo era flow echo slot z) in
                  let view_now = seen_view arts x all era flow w u v c p.there mine_era met in
                  let base = ap (λ (g : FlowState). g.at.base) flow_now in
                  let have = ap (λ (g : FlowState). g.at.have) flow_now in
                  let view = ap (λ (g : View). g.have) view_now in
                  elim (made.next_is z away (omega (arith, ready, base))
                  (subst (λ (q : NodeState). Passes era.low era.high (edge_to q.parts.kflow v) (flow_in (flows_of era.kind q.parts).flows flow)) (sym same)
                  passes)) [
                    | inl low ↦ inl (omega (arith, low, base, have, view))
                    | inr is ↦ inr (omega (arith, is, base, view))
                  ];
            }
