-- Of the messages on paths that a correct node signs, each number of a flow under its boots has one mask. And what waits at a node has one, in every state.
use Rattle.std.proofs.Common.{◌≡◌, ◌≤◌, ◌⊎◌, ℕ, ◌+◌, ◌-◌, ◌==◌, Bool, true, false, cond, List}
use Rattle.std.proofs.Common.{[], ◌∷◌, ◌++◌, length, Option, Some, None, Ok, refl, sym, ap, subst, ◌∙◌}
use Rattle.std.proofs.Common.{inl, inr, arith}
use Rattle.std.specs.List.{flat_map}
use Rattle.std.specs.Prelude.{IsTrue, slice_get}
use Rattle.std.proofs.lemmas.Bool.{eqb-true}
use Rattle.sp_base.specs.declared.id.Flow.{Flow}
use Rattle.sp_base.specs.declared.id.NodeId.{NodeId}
use Rattle.sp_msg.specs.declared.body.Body.{Body}
use Rattle.sp_msg.specs.declared.body.Body.TheVariants as bodies
use Rattle.sp_msg.specs.declared.effect.Effect.{Effect}
use Rattle.sp_msg.specs.declared.refused.SendRefused.{SendRefused}
use Rattle.sp_rules.specs.Arts.{Arts}
use Rattle.sp_rules.specs.Flow.{FlowState, boots_said, flow_said, number_said}
use Rattle.sp_rules.specs.Kflow.{mask_said}
use Rattle.sp_rules.specs.KflowSends.{KSend, krel_number, krel_sends, krel_sent, send_krel_refusal}
use Rattle.sp_rules.specs.Lives.{held_boot}
use Rattle.sp_rules.specs.Masks.{Choice}
use Rattle.sp_rules.specs.Node.{NodeState, booted}
use Rattle.sp_rules.specs.Parts.{Fixed, nodes_of}
use Rattle.sp_rules.specs.Rel.{flow_in, own_flow, pairs_of, is_over}
use Rattle.sp_rules.specs.Steps.{accepted, refused_send}
use Rattle.sp_rules.specs.Steps.{Input, NodeStep, Output, SendKrel}
use Rattle.sp_rules.specs.Steps as steps
use Rattle.sp_rules.specs.Topologies.{removed_of}
use Rattle.sp_rules.specs.declared.kflow.FlowKind.TheVariants.{Paths}
use Rattle.sp_runs.specs.Forgery.{is_among}
use Rattle.sp_runs.specs.Inputs.{acting}
use Rattle.sp_runs.specs.Lives.{IsStart, next_start, ready}
use Rattle.sp_runs.specs.Runs.{Clean, InRange, Lives, Move, Moves, Starts, Stays, Turn, Turned}
use Rattle.sp_runs.specs.Settings.{Setting, SettingFits, fixed_at, is_correct, link_keys, node_at_boot, node_at_start, signer_from}
use Rattle.sp_runs.specs.Told.{Message, signed, signed_by, told_at}
use Rattle.sp_runs.specs.Worlds.{World, node_in}
use Rattle.sp_journal.specs.declared.entry.Entry.{Entry}
use Rattle.sp_schedule_events.specs.declared.event.Event.{Event}
use Rattle.sp_schedule_events.specs.declared.event.Event.TheVariants as events
use Rattle.laws_node.proofs.Spellings.{no_other_is_spelled_so}
use Rattle.laws_node.specs.Flows.{IsRelOf}
use Rattle.laws_node.specs.Inputs.{InputFits}
use Rattle.laws_runs.proofs.FlowRuns.{flows_are_kept_over_lives}
use Rattle.laws_runs.proofs.LifeCases.{Exhausts, LifeCase, Nobody, Starts_now, Stops, life_case}
use Rattle.laws_runs.proofs.Lists.{among_cons, among_or, both, told_more}
use Rattle.laws_runs.proofs.Ready.{was_there}
use Rattle.laws_runs.proofs.Signed.{signs_there}
use Rattle.laws_runs.proofs.SignedEvents.{even}
use Rattle.laws_runs.proofs.StepSigns.{IsAskedBy, step_signs, which_signed}
use Rattle.laws_runs.proofs.Tables.{same_node}
use Rattle.laws_runs.specs.Flows.{IsIn, flow_at, has_ended}
use Rattle.laws_runs.specs.LifeFlows.{LifeFlowClaims}
use Rattle.laws_runs.specs.Past.{past, sent_under}
use Rattle.laws_runs.specs.Premises.{Carries}
use Rattle.laws_runs.specs.Signs.{Good, NodeIs, sizes_at}
use Rattle.laws_progress.proofs.Becomes.{Acts, Becomes, Begins, Remains, becomes, readied_keeps}
use Rattle.laws_progress.proofs.Makes.{flow_sound}
use Rattle.laws_progress.proofs.OneMask.{IsReady, OneMasks, begun_one, step_one}
use Rattle.laws_progress.proofs.Rows.{at_boot}
use Rattle.std.proofs.Common.{zero, suc, ◌<◌}
use Rattle.laws_runs.proofs.Begun as begun
use Rattle.laws_runs.proofs.KeyFiles.{key_files_stand}
use Rattle.laws_runs.proofs.Reaches.{input_fits}
use Rattle.laws_node.proofs.About.{krel_good}
use Rattle.laws_node.proofs.OwnPaths.{krel_sent_fits}
use Rattle.laws_runs.proofs.Goods.{arts_fit}
use Rattle.sp_rules.proofs.FlowJudged.{room_is}
use Rattle.sp_rules.specs.Node.{announced, own_epoch}
use Rattle.laws_node.proofs.FlowKinds.{flows_hold}
use Rattle.sp_msg.specs.declared.kept.Kept.{Kept}
use Rattle.sp_rules.specs.Rel.{room}
use Rattle.sp_msg.specs.declared.effect.Effect.TheVariants.{Signed}
use Rattle.laws_runs.proofs.KindFacts.{both_there}
use Rattle.sp_msg.specs.Bodies.{payload_of}

-- ---- what waits, in every state

-- each node of a run keeps messages of the kind alone
pub ready_is : (x : Setting) (P : Kept → Type 0) (u : NodeId) (n : NodeState) → NodeIs x P u n → IsReady n
ready_is x P u n is =
    let k = sizes_at x P u in
    let holds = flows_hold Paths k n.parts is.holds.parts in
    record {
      me = ap (λ (f : Fixed). f.me) is.fixed ∙ sym holds.me;
      are = λ flow. (flow_sound Paths k n.signer.index n.parts.kflow.flows flow holds).plain;
    }

-- so it is in every state of a run
pub masks_are : (arts : Arts) (x : Setting) (es : List Event) (js : List Entry) (w : World) → SettingFits arts x → Carries x.topology.format arts
    → Clean arts x es js w → (u : NodeId) (n : NodeState) → node_in w.nodes u ≡ Some n → OneMasks n.parts.kflow.flows
masks_are arts x es js w fits reads Starts u n at =
    subst (λ (m : NodeState). OneMasks m.parts.kflow.flows) (sym (at_boot x u n at))
    (λ dst. begun_one (removed_of (nodes_of x.topology) x.topology.edges) (pairs_of (nodes_of x.topology)) (own_flow (node_at_boot x u).parts.kflow.flows dst))
masks_are arts x es js w fits reads (Turned {es = es'} {js = js'} {old = old} {e = e} {j = j} run range turn unforged) u n at =
    go (λ v b was. masks_are arts x es' js' old fits reads run v b was) (becomes arts x es' js' old e j w fits reads run range turn unforged u n at)
  where
    go : ((v : NodeId) (b : NodeState) → node_in old.nodes v ≡ Some b → OneMasks b.parts.kflow.flows) → Becomes arts x old e j w u n
        → OneMasks n.parts.kflow.flows
    go before (Remains b was readied idle) = readied_keeps x old b n (λ m. OneMasks m.parts.kflow.flows) (λ upto h. h) readied (before u b was)
    go before (Acts acts b was m readied after none) =
        let is = (signs_there arts x es' js' old e fits reads run).nodes (acting e) m.node m.is_there in
        subst (λ (q : NodeState). OneMasks q.parts.kflow.flows) (sym after)
        (step_one arts m.node m.input m.output m.after (ready_is x (Good arts x es' js') (acting e) m.node is) m.step
        (readied_keeps x old b m.node (λ q. OneMasks q.parts.kflow.flows) (λ upto h. h) readied (before u b was)))
    go before (Begins on is start after none) =
        let first : node_at_start arts x u (next_start x old u) ≡ announced arts (booted (fixed_at x u (next_start x old u).boot)
        (signer_from x u (next_start x old u).index (next_start x old u).bound) (link_keys x u) x.buffer x.store) = rw on refl in
        subst (λ (q : NodeState). OneMasks q.parts.kflow.flows) (sym (after ∙ first))
        (λ dst. begun_one (removed_of (nodes_of x.topology) x.topology.edges) (pairs_of (nodes_of x.topology)) (record { src = u; dst = dst }))

-- ---- what a step signs

-- a message on paths is signed where a client sends it
asked_krel : (input : Input) (body : Body) → IsAskedBy input body → IsRelOf Paths body → (ask : KSend) × (input ≡ SendKrel ask)
asked_krel (steps.SendKrel m) (bodies.Krel k) asked is = (m, refl)
asked_krel (steps.Poll v) (bodies.Krel k) asked is = absurd asked
asked_krel (steps.Datagram v bytes) (bodies.Krel k) asked is = absurd asked
asked_krel (steps.Tick now) (bodies.Krel k) asked is = absurd asked
asked_krel (steps.SendRel dst payload) (bodies.Krel k) asked is = absurd asked
asked_krel (steps.SendPrio m) (bodies.Krel k) asked is = absurd asked
asked_krel (steps.SetWeight v weight) (bodies.Krel k) asked is = absurd asked
asked_krel (steps.TakeRel src) (bodies.Krel k) asked is = absurd asked
asked_krel (steps.TakeKrel src) (bodies.Krel k) asked is = absurd asked
asked_krel steps.TakePrio (bodies.Krel k) asked is = absurd asked
asked_krel (steps.Publish document) (bodies.Krel k) asked is = absurd asked
asked_krel input (bodies.Rel k) asked is = absurd is
asked_krel input (bodies.Prio k) asked is = absurd is
asked_krel input (bodies.Ack k) asked is = absurd is
asked_krel input (bodies.Weight k) asked is = absurd is
asked_krel input (bodies.Kack k) asked is = absurd is
asked_krel input (bodies.Epoch k) asked is = absurd is

-- a node sent one with these effects, and signed no other
record KrelSigned (arts : Arts) (n : NodeState) (effects : List Effect) : Type 0 where
  ask : KSend
  choice : Choice
  place : room n.parts.kflow.flows ask.dst ≡ Ok (krel_number n ask.dst)
  only : (m : Body) → IsTrue (arts.is_good m) → is_among (arts.spell m) (flat_map signed_by effects) ≡ true → m ≡ krel_sends n ask choice

krel_signed : (arts : Arts) (x : Setting) (P : Kept → Type 0) → SettingFits arts x → Carries x.topology.format arts → (u : NodeId) (n : NodeState)
    (input : Input) (output : Output) (after : NodeState) → NodeIs x P u n → InputFits input → NodeStep arts n input output after → (m : Body)
    → IsRelOf Paths m → IsTrue (arts.is_good m) → is_among (arts.spell m) (flat_map signed_by output.effects) ≡ true → KrelSigned arts n output.effects
krel_signed arts x P fits reads u n input output after is reach step m rel good among =
    let it = which_signed arts input output.effects (arts.spell m) (step_signs arts x P fits u n output after is input reach step) among in
    let body_is : it.body ≡ m = no_other_is_spelled_so arts reads.bodies it.body m it.said.good good it.is in
    let asked = asked_krel input m (subst (IsAskedBy input) body_is it.said.asked) rel in
    of_ask asked.0 (subst InputFits asked.1 reach) (subst (λ i. NodeStep arts n i output after) asked.1 step)
  where
    of_ask : (ask : KSend) → InputFits (SendKrel ask) → NodeStep arts n (SendKrel ask) output after → KrelSigned arts n output.effects
    of_ask ask short step =
        go (send_krel_refusal n ask step.choice) refl (ap (λ (o : Output). o.effects) step.output_is)
      where
        go : (r : Option SendRefused) → send_krel_refusal n ask step.choice ≡ r
            → output.effects ≡ (refused_send r (accepted (krel_number n ask.dst) (krel_sent arts n ask step.choice))).effects → KrelSigned arts n output.effects
        go None free e =
            let right = krel_good arts (sizes_at x P u) n ask step.choice (arts_fit arts x P u n fits is) short free step.is_choice is.holds in
            record {
              ask = ask;
              choice = step.choice;
              place = (krel_sent_fits (sizes_at x P u) n ask step.choice short free step.is_choice is.holds).next.1;
              only = λ k good_k here.
                  let there : is_among (arts.spell k) (arts.spell (krel_sends n ask step.choice) ∷ []) ≡ true =
                  subst (λ es. is_among (arts.spell k) (flat_map signed_by es) ≡ true) e here in
                  elim (among_cons (arts.spell k) (arts.spell (krel_sends n ask step.choice)) [] there) [
                    | inl same ↦ sym (no_other_is_spelled_so arts reads.bodies (krel_sends n ask step.choice) k right good_k same)
                    | inr none ↦ absurd (let f : false ≡ true = none in cc)
                  ];
            }
        go (Some refused) free e = absurd (let f : false ≡ true = subst (λ es. is_among (arts.spell m) (flat_map signed_by es) ≡ true) e among in cc)

-- a number under which something was sent
in_most : (S : List Message) (q : ℕ) (p : List ℕ) → IsIn S q p → q ≤ length S
in_most S q p is = let low = inside S (q - 1) (q, p) is.there in let some = is.number in omega (arith, low, some)
  where
    inside : (xs : List Message) (i : ℕ) (y : Message) → slice_get xs i ≡ Some y → i < length xs
    inside [] i y e = absurd (let f : None ≡ Some y = e in cc)
    inside (m ∷ xs) zero y e = omega arith
    inside (m ∷ xs) (suc i) y e = let h = inside xs i y e in omega (arith, h)

-- ---- what an event signs

module _ (arts : Arts) (x : Setting) (es : List Event) (js : List Entry) (old : World) (e : Event) (j : Entry) (new : World) (fits : SettingFits arts x)
    (reads : Carries x.topology.format arts) (run : Clean arts x es js old) (range : InRange x es e) (s : NodeId) where
  -- s moved, and sent one message on paths
  record Sends : Type 0 where
    move : Move arts x (ready x old e) e j new
    acts : acting e ≡ s
    signed : KrelSigned arts move.node move.output.effects

  abbrev IsNow : Body → Type 0
  IsNow m = is_among (arts.spell m) (told_at s signed_by (e, j)) ≡ true

  -- nothing was signed in an event without effects
  none_now : j.effects ≡ [] → (m : Body) → IsNow m → ⊥
  none_now none m now = go ((acting e).0 == s.0) now
    where
      go : (t : Bool) → is_among (arts.spell m) (cond t (flat_map signed_by j.effects) []) ≡ true → ⊥
      go false now = (let f : false ≡ true = now in cc)
      go true now = (let f : false ≡ true = rw none at now in cc)

  start_now : (u : NodeId) → x.epochs ≡ true → IsStart arts x old u j new → InRange x es (events.Start u) → (m : Body) → IsRelOf Paths m
      → IsTrue (arts.is_good m) → IsNow m → ⊥
  start_now u on start range m rel good now = go ((acting e).0 == s.0) now
    where
      go : (t : Bool) → is_among (arts.spell m) (cond t (flat_map signed_by j.effects) []) ≡ true → ⊥
      go false now = (let f : false ≡ true = now in cc)
      go true now =
          let tells : j.effects ≡ Signed (arts.spell (own_epoch (fixed_at x u (next_start x old u).boot))) ∷ [] = start.effects ∙ rw on refl in
          let there : is_among (arts.spell m) (arts.spell (own_epoch (fixed_at x u (next_start x old u).boot)) ∷ []) ≡ true =
          subst (λ fs. is_among (arts.spell m) (flat_map signed_by fs) ≡ true) tells now in
          let right = (begun.good arts x es js old new u j fits reads on (key_files_stand arts x es js old fits run) (even arts x es js old run) range
          start).good
          in
          elim (among_cons (arts.spell m) (arts.spell (own_epoch (fixed_at x u (next_start x old u).boot))) [] there) [
            | inl same ↦ subst (IsRelOf Paths)
                (sym (no_other_is_spelled_so arts reads.bodies (own_epoch (fixed_at x u (next_start x old u).boot)) m right good same)) rel
            | inr none ↦ (let f : false ≡ true = none in cc)
          ]

  sends_now : Turn arts x old e j new → (m : Body) → IsRelOf Paths m → IsTrue (arts.is_good m) → IsNow m → Sends
  sends_now (Moves mv) m rel good now = go ((acting e).0 == s.0) refl now
    where
      go : (t : Bool) → ((acting e).0 == s.0) ≡ t → is_among (arts.spell m) (cond t (flat_map signed_by j.effects) []) ≡ true → Sends
      go false is now = absurd (let f : false ≡ true = now in cc)
      go true is now =
          let acts = same_node (acting e) s (eqb-true _ _ is) in
          let node = (signs_there arts x es js old e fits reads run).nodes (acting e) mv.node mv.is_there in
          let here = subst (λ fs. is_among (arts.spell m) (flat_map signed_by fs) ≡ true) mv.journal.effects now in
          record {
            move = mv;
            acts = acts;
            signed = krel_signed arts x (Good arts x es js) fits reads (acting e) mv.node mv.input mv.output mv.after node
                (input_fits arts x es (ready x old e) mv.node e mv.input fits reads (signs_there arts x es js old e fits reads run).bytes range.fields
                mv.reaches)
                mv.step m rel good here;
          }
  sends_now (Stays spends) m rel good now = absurd (none_now spends.effects m now)
  sends_now (Lives on life) m rel good now = go (life_case arts x old e j new life)
    where
      go : LifeCase arts x old e j new → Sends
      go (Starts_now u is start) =
          absurd (start_now u on start (subst (λ (y : Event). InRange x es y) is range) m rel good now)
      go (Exhausts u is none) = absurd (none_now none.effects m now)
      go (Stops u is stop) = absurd (none_now stop.effects m now)
      go (Nobody other down) = absurd (none_now down.effects m now)

  -- ---- its number

  module _ (d : NodeId) (from : IsTrue (is_correct x s)) (to : IsTrue (is_correct x d)) (different : s ≡ d → ⊥) where
    abbrev flow : Flow
    flow = record { src = s; dst = d }

    claims : LifeFlowClaims Paths arts x s d es js (past arts x es js old run) old
    claims = flows_are_kept_over_lives Paths arts x es js old fits reads run s d (both _ _ from).0 to different

    -- what was signed before has a lower number
    later_number : (b c : Body) → IsRelOf Paths c → IsTrue (arts.is_good c) → flow_said b ≡ flow → flow_said c ≡ flow → boots_said b ≡ boots_said c
        → is_among (arts.spell c) (signed es js s) ≡ true → (m : Sends) → b ≡ krel_sends m.move.node m.signed.ask m.signed.choice
        → number_said c < number_said b
    later_number b c is good of_b of_c boots among m body_is =
        let n = m.move.node in
        let ask = m.signed.ask in
        let r = n.parts.kflow.flows in
        let node = (signs_there arts x es js old e fits reads run).nodes (acting e) n m.move.is_there in
        let own = (ready_is x (Good arts x es js) (acting e) n node).me in
        let ends_are : record { src = n.fixed.me; dst = ask.dst } ≡ flow = sym (ap flow_said body_is) ∙ of_b in
        let me : n.fixed.me ≡ s = ap (λ (f : Flow). f.src) ends_are in
        let end : ask.dst ≡ d = ap (λ (f : Flow). f.dst) ends_are in
        let mine : own_flow r ask.dst ≡ flow = ap (λ (v : NodeId). let f : Flow = record { src = v; dst = ask.dst } in f) (sym own) ∙ ends_are in
        let number : number_said b ≡ (flow_in r.flows flow).at.have + 1 =
        ap number_said body_is ∙ ap (λ (f : Flow). (flow_in r.flows f).at.have + 1) mine in
        let held : boots_said b ≡ (held_boot n.parts.lives s, held_boot n.parts.lives d) =
        ap boots_said body_is ∙ ap (λ (f : Flow). (held_boot n.parts.lives f.src, held_boot n.parts.lives f.dst)) ends_are in
        let was = was_there x old e (acting e) n m.move.is_there in
        let at : node_in old.nodes s ≡ Some was.before = ap (node_in old.nodes) (sym m.acts) ∙ was.is_there in
        let same : flow_at Paths n s d ≡ flow_at Paths was.before s d =
        readied_keeps x old was.before n (λ q. flow_at Paths q s d ≡ flow_at Paths was.before s d) (λ upto h. h) was.readied refl in
        let boots_same : ◌≡◌ {A = ℕ × ℕ} (held_boot n.parts.lives s, held_boot n.parts.lives d)
        (held_boot was.before.parts.lives s, held_boot was.before.parts.lives d) =
        readied_keeps x old was.before n (λ q. ◌≡◌ {A = ℕ × ℕ} (held_boot q.parts.lives s, held_boot q.parts.lives d)
        (held_boot was.before.parts.lives s, held_boot was.before.parts.lives d)) (λ upto h. h) was.readied refl in
        let open_now : has_ended Paths n s d ≡ false =
        subst (λ (f : Flow). is_over r.removed f ≡ false) mine (both_there r (own_flow r ask.dst) r.me ask.dst (room_is r ask.dst _ m.signed.place).0) in
        let open_then : has_ended Paths was.before s d ≡ has_ended Paths n s d =
        sym (readied_keeps x old was.before n (λ q. has_ended Paths q s d ≡ has_ended Paths was.before s d) (λ upto h. h) was.readied refl) in
        let have = claims.have_at_source from was.before at (open_then ∙ open_now) in
        let in_it = claims.messages from c is good of_c among in
        let said : boots_said c ≡ (held_boot was.before.parts.lives s, held_boot was.before.parts.lives d) = sym boots ∙ held ∙ boots_same in
        let there = subst (λ (p : ℕ × ℕ). IsIn (sent_under Paths (past arts x es js old run) s p.0 d p.1) (number_said c) (payload_of c)) said in_it in
        let most = in_most (sent_under Paths (past arts x es js old run) s (held_boot was.before.parts.lives s) d (held_boot was.before.parts.lives d))
        (number_said c) (payload_of c) there in
        let its = ap (λ (f : FlowState). f.at.have) same in
        omega (arith, number, have, most, its)

-- ---- over a run

-- two messages of one flow, under the same boots and of the same number, that their source signed have the same mask
pub same_masks : (arts : Arts) (x : Setting) → SettingFits arts x → Carries x.topology.format arts → (s d : NodeId) → IsTrue (is_correct x s)
    → IsTrue (is_correct x d) → (s ≡ d → ⊥) → (es : List Event) (js : List Entry) (w : World) → Clean arts x es js w → (b c : Body)
    → IsRelOf Paths b → IsRelOf Paths c → IsTrue (arts.is_good b) → IsTrue (arts.is_good c) → flow_said b ≡ record { src = s; dst = d }
    → flow_said c ≡ record { src = s; dst = d } → boots_said b ≡ boots_said c → number_said b ≡ number_said c
    → is_among (arts.spell b) (signed es js s) ≡ true → is_among (arts.spell c) (signed es js s) ≡ true → mask_said b ≡ mask_said c
same_masks arts x fits reads s d from to different es js w Starts b c is_b is_c good_b good_c of_b of_c boots number in_b in_c =
    absurd (let f : false ≡ true = in_b in cc)
same_masks arts x fits reads s d from to different es js w (Turned {es = es'} {js = js'} {old = old} {e = e} {j = j} run range turn unforged) b c is_b is_c
    good_b good_c of_b of_c boots number in_b in_c =
    elim (apart b in_b) [
      | inl old_b ↦ elim (apart c in_c) [
        | inl old_c ↦ same_masks arts x fits reads s d from to different es' js' old run b c is_b is_c good_b good_c of_b of_c boots number old_b old_c
        | inr now_c ↦
            let m = sends_now arts x es' js' old e j w fits reads run range s turn c is_c good_c now_c in
            let later = later_number arts x es' js' old e j w fits reads run range s d from to different c b is_b good_b of_c of_b (sym boots) old_b m
            (m.signed.only c good_c (effects_now m c now_c)) in
            absurd (omega (arith, later, number))
      ]
      | inr now_b ↦
          let m = sends_now arts x es' js' old e j w fits reads run range s turn b is_b good_b now_b in
          let first = m.signed.only b good_b (effects_now m b now_b) in
          elim (apart c in_c) [
            | inl old_c ↦
                let later = later_number arts x es' js' old e j w fits reads run range s d from to different b c is_c good_c of_b of_c boots old_c m first in
                absurd (omega (arith, later, number))
            | inr now_c ↦
                let second = m.signed.only c good_c (effects_now m c now_c) in
                ap mask_said (first ∙ sym second)
          ]
    ]
  where
    apart : (y : Body) → is_among (arts.spell y) (signed (es' ++ e ∷ []) (js' ++ j ∷ []) s) ≡ true
        → (is_among (arts.spell y) (signed es' js' s) ≡ true) ⊎ (is_among (arts.spell y) (told_at s signed_by (e, j)) ≡ true)
    apart y among = among_or (arts.spell y) (signed es' js' s) (told_at s signed_by (e, j))
        (subst (λ these. is_among (arts.spell y) these ≡ true) (told_more (told_at s signed_by) es' js' e j (even arts x es' js' old run)) among)

    effects_now : (m : Sends arts x es' js' old e j w fits reads run range s) (y : Body) → is_among (arts.spell y) (told_at s signed_by (e, j)) ≡ true
        → is_among (arts.spell y) (flat_map signed_by m.move.output.effects) ≡ true
    effects_now m y now = go ((acting e).0 == s.0) now
      where
        go : (t : Bool) → is_among (arts.spell y) (cond t (flat_map signed_by j.effects) []) ≡ true
            → is_among (arts.spell y) (flat_map signed_by m.move.output.effects) ≡ true
        go false now = absurd (let f : false ≡ true = now in cc)
        go true now = subst (λ fs. is_among (arts.spell y) (flat_map signed_by fs) ≡ true) m.move.journal.effects now
