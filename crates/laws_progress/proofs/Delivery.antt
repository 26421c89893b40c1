-- Counted delivery without epochs: no node starts or stops, all held boots are 0, so each interval is calm.
use Rattle.laws_progress.proofs.Within.{in_path, is_in, never_ends, of_path}
use Rattle.laws_progress.specs.Within.{IsPathUnder, RunsUnder}
use Rattle.laws_runs.specs.Flows.{has_ended}
use Rattle.laws_runs.specs.Signs.{Good}
use Rattle.std.proofs.Common.{[]}
use Rattle.sp_runs.specs.Told.{delivered, sent}
use Rattle.laws_runs.specs.Acknowledged.{acknowledged}
use Rattle.laws_node.proofs.FreshLemmas.{one}
use Rattle.laws_progress.proofs.Changes.{both_held}
use Rattle.laws_progress.proofs.LifeDelivery.{comes, comes_back}
use Rattle.laws_progress.proofs.LastBoots.{held_none}
use Rattle.laws_progress.proofs.RunStates.{ends_are, is_delivered, is_right, told_append}
use Rattle.laws_progress.proofs.States.{IsRight}
use Rattle.laws_progress.proofs.UpStates.{off_first}
use Rattle.laws_progress.specs.Calm.{IsCalm, IsCalmAt, is_life_of}
use Rattle.laws_progress.specs.Delivery.{CountedDelivery, CountedReturn}
use Rattle.laws_runs.proofs.FlowPlain.{flows_are_kept}
use Rattle.laws_runs.proofs.FlowRuns.{flows_are_kept_over_lives}
use Rattle.laws_runs.proofs.Lists.{both}
use Rattle.laws_runs.proofs.SignedEvents.{even}
use Rattle.laws_runs.proofs.Signed.{signs}
use Rattle.laws_runs.proofs.There.{is_there}
use Rattle.laws_runs.specs.Flows.{FlowClaims, flow_at}
use Rattle.laws_runs.specs.LifeFlows.{LifeFlowClaims, acknowledged_under}
use Rattle.laws_runs.specs.Past.{delivered_under, past, sent_under, under}
use Rattle.laws_runs.specs.Premises.{ComesThrough}
use Rattle.sp_base.specs.declared.id.NodeId.{NodeId}
use Rattle.sp_graph.specs.Certificates.{through}
use Rattle.sp_journal.specs.declared.entry.Entry.{Entry}
use Rattle.sp_rules.specs.Arts.{Arts}
use Rattle.sp_rules.specs.Lives.{held_boot}
use Rattle.sp_rules.specs.Node.{NodeState}
use Rattle.sp_runs.specs.Paths.{IsCorrectPath, hops}
use Rattle.sp_runs.specs.Runs.{Clean, Starts, Turned}
use Rattle.sp_runs.specs.Settings.{Setting, StaysUp, is_correct}
use Rattle.sp_runs.specs.Worlds.{World, node_in}
use Rattle.sp_schedule_events.specs.Lives.{may_act}
use Rattle.sp_schedule_events.specs.declared.event.Event.{Event}
use Rattle.std.proofs.Common.{List, Some, ap, arith, false, length, refl, sym, true, ℕ, ◌++◌, ◌||◌, ◌∙◌, ◌∷◌, ◌≡◌, ◌≤◌}
use Rattle.std.proofs.lemmas.Bool.{ne_eqb}
use Rattle.std.proofs.lemmas.List.Elements.{All-weaker}
use Rattle.std.proofs.lemmas.List.Folds.{list_any-append}
use Rattle.std.specs.List.{All, list_any}
use Rattle.std.specs.Prelude.{IsTrue}
use Rattle.sp_schedule_events.specs.declared.event.Event.TheVariants as events
use Rattle.sp_rules.specs.declared.kflow.FlowKind.{FlowKind}

-- ---- no event starts or stops a node

no_life : (arts : Arts) (x : Setting) (es : List Event) (js : List Entry) (w : World) → x.epochs ≡ false → Clean arts x es js w → (u : NodeId)
    → list_any (is_life_of u) es ≡ false
no_life arts x es js w off Starts u = refl
no_life arts x es js w off (Turned {es = es'} {js = js'} {old = old} {e = e} {j = j} run range turn unforged) u =
    list_any-append (is_life_of u) es' (e ∷ []) ∙ ap (λ t. t || list_any (is_life_of u) (e ∷ [])) (no_life arts x es' js' old off run u)
    ∙ ap (λ t. t || false) (other es' e range.may)
  where
    other : (es : List Event) (e : Event) → may_act x.epochs es e ≡ true → is_life_of u e ≡ false
    other es (events.Start v) may = absurd (let f : false ≡ true = rw off at may in cc)
    other es (events.Stop v) may = absurd (let f : false ≡ true = rw off at may in cc)
    other es (events.Rel a b c) may = refl
    other es (events.Prio a b c f g h) may = refl
    other es (events.Take a b) may = refl
    other es (events.Krel a b c f) may = refl
    other es (events.KTake a b) may = refl
    other es (events.TakePrio a) may = refl
    other es (events.Tick a b) may = refl
    other es (events.Weight a b c) may = refl
    other es (events.Poll a b) may = refl
    other es (events.Pass a b c) may = refl
    other es (events.Flip a b c f g) may = refl
    other es (events.Inject a b c) may = refl
    other es (events.Craft a b c f) may = refl
    other es (events.CraftStatus a b c f g h) may = refl
    other es (events.Publish a b) may = refl
    other es (events.CraftDocument a b c f g) may = refl

module _ (kind : FlowKind) (arts : Arts) (x : Setting) (fits : StaysUp arts x) (through : ComesThrough x.topology.format arts x.signature_len) (version : ℕ)
    (weights : List ℕ)
    (s d : NodeId) (path : List NodeId)
    (way : IsPathUnder x weights s d path) where
  is : IsCorrectPath x s d path
  is = way.walks

  -- the flow doesn't end at a node of the path
  goes_on : (es : List Event) (js : List Entry) (w : World) (run : Clean arts x es js w) → All (RunsUnder version weights w) path → (u : NodeId)
      → is_in path u ≡ true → (n : NodeState) → node_in w.nodes u ≡ Some n → has_ended kind n s d ≡ false
  goes_on es js w run under u on n at =
      let ends = ends_are x s d path way.walks in
      never_ends x weights s d path way kind (Good arts x es js) u n ((signs arts x es js w fits.fits through.carries run).nodes u n at)
      ((of_path (RunsUnder version weights w) path under u on).weights_are n at) s d (in_path path 0 s ends.begins) (in_path path (hops path) d ends.ends)

  s_on : is_in path s ≡ true
  s_on = in_path path 0 s (ends_are x s d path way.walks).begins

  d_on : is_in path d ≡ true
  d_on = in_path path (hops path) d (ends_are x s d path way.walks).ends

  right : IsRight x (record { src = s; dst = d })
  right = is_right x s d path is

  held_zero : (es : List Event) (js : List Entry) (w : World) (run : Clean arts x es js w) (u : NodeId) (n : NodeState) → node_in w.nodes u ≡ Some n
      → (v : NodeId) → held_boot n.parts.lives v ≡ 0
  held_zero es js w run u n at v = held_none arts x es js w fits.fits through.carries run fits.plain u n at v

  pub plain_calm : (es : List Event) (js : List Entry) (w : World) (run : Clean arts x es js w) (after : List Event) (more : List Entry) (end : World)
      → Clean arts x (es ++ after) (js ++ more) end → IsCalm w after s 0 d 0 path
  plain_calm es js w run after more end longer = All-weaker (λ (u : NodeId). IsTrue (is_correct x u)) (IsCalmAt w after s 0 d 0) calm path is.correct
    where
      calm : (u : NodeId) → IsTrue (is_correct x u) → IsCalmAt w after s 0 d 0 u
      calm u correct =
          let n = is_there arts x es js w fits run u correct in
          let none = held_zero es js w run u n.0 n.1 in
          record {
            up = record {
              node = n.0;
              runs = n.1;
              stays = (off_first (list_any (is_life_of u) es) (list_any (is_life_of u) after)
                  (sym (list_any-append (is_life_of u) es after) ∙ no_life arts x (es ++ after) (js ++ more) end fits.plain longer u)).1;
            };
            held = both_held n.0 s d 0 0 (none s) (none d);
          }

  plain_claims : (es : List Event) (js : List Entry) (w : World) → Clean arts x es js w → FlowClaims kind arts x s d es js w
  plain_claims es js w run = flows_are_kept kind arts x es js w fits through.carries run s d (both _ _ right.from).0 right.to right.different

  life_claims : (es : List Event) (js : List Entry) (w : World) (run : Clean arts x es js w) → LifeFlowClaims kind arts x s d es js (past arts x es js w run) w
  life_claims es js w run = flows_are_kept_over_lives kind arts x es js w fits.fits through.carries run s d (both _ _ right.from).0 right.to right.different

  under_zero : {X : Type 0} (es : List Event) (js : List Entry) (w : World) (run : Clean arts x es js w) (u : NodeId) (n : NodeState)
      → node_in w.nodes u ≡ Some n
      → (says : ℕ → ℕ → X) → under n s d says ≡ says 0 0
  under_zero es js w run u n at says =
      let none = held_zero es js w run u n at in
      ap (λ k. says k (held_boot n.parts.lives d)) (none s) ∙ ap (says 0) (none d)

  same_sent : (es : List Event) (js : List Entry) (w : World) (run : Clean arts x es js w) → All (RunsUnder version weights w) path
      → length (sent kind es js s d) ≡ length (sent_under kind (past arts x es js w run) s 0 d 0)
  same_sent es js w run under =
      let n = is_there arts x es js w fits run s right.from in
      let on = goes_on es js w run under s s_on n.0 n.1 in
      sym ((plain_claims es js w run).have_at_source right.from n.0 n.1 on) ∙ (life_claims es js w run).have_at_source right.from n.0 n.1 on
      ∙ ap length (under_zero es js w run s n.0 n.1 (λ a b. sent_under kind (past arts x es js w run) s a d b))

  same_delivered : (es : List Event) (js : List Entry) (w : World) (run : Clean arts x es js w) → All (RunsUnder version weights w) path
      → length (delivered kind es js s d) ≡ length (delivered_under kind (past arts x es js w run) s 0 d 0)
  same_delivered es js w run under =
      let n = is_there arts x es js w fits run d right.to in
      let on = goes_on es js w run under d d_on n.0 n.1 in
      sym ((plain_claims es js w run).have_at_end n.0 n.1 on) ∙ (life_claims es js w run).have_at_end n.0 n.1 on
      ∙ ap length (under_zero es js w run d n.0 n.1 (λ a b. delivered_under kind (past arts x es js w run) s a d b))

  same_acked : (es : List Event) (js : List Entry) (w : World) (run : Clean arts x es js w) → All (RunsUnder version weights w) path
      → acknowledged kind arts es js s d ≡ acknowledged_under kind arts es js s 0 d 0
  same_acked es js w run under =
      let n = is_there arts x es js w fits run d right.to in
      let on = goes_on es js w run under d d_on n.0 n.1 in
      sym ((plain_claims es js w run).base_at_end n.0 n.1 on) ∙ (life_claims es js w run).base_at_end n.0 n.1 on
      ∙ under_zero es js w run d n.0 n.1 (λ a b. acknowledged_under kind arts es js s a d b)

-- ---- the laws

pub delivery_is_counted : CountedDelivery
delivery_is_counted arts x fits through one kind es js w after more v early run version weights s d path is under n at may q b some has near least enough
    rounds =
    let right = is_right x s d path is.walks in
    let calm = plain_calm kind arts x fits through version weights s d path is es js w early after more v run in
    let sent_is = same_sent kind arts x fits through version weights s d path is es js w early under.begins in
    let came_is = same_delivered kind arts x fits through version weights s d path is (es ++ after) (js ++ more) v run under.ends in
    let it = comes kind arts x es js w after more v fits.fits through early run version weights s d path is under 0 0 calm one n at may q b
    (omega (arith, has, sent_is)) near least enough rounds in
    let ends = plain_claims kind arts x fits through version weights s d path is (es ++ after) (js ++ more) v run in
    let prefix = ends.prefix right.from in
    let parts : sent kind (es ++ after) (js ++ more) s d ≡ sent kind es js s d ++ sent kind after more s d =
    told_append _ es after js more (even arts x es js w early) in
    is_delivered (sent kind es js s d) (sent kind after more s d) (delivered kind (es ++ after) (js ++ more) s d) prefix.0 q (sym parts ∙ prefix.1)
    (ends.numbered right.from) some has
    (omega (arith, it, came_is))

pub acknowledgements_return : CountedReturn
acknowledgements_return arts x fits through one kind es js w after more v early run version weights s d path is under n at least enough rounds =
    let calm = plain_calm kind arts x fits through version weights s d path is es js w early after more v run in
    let acked_is = same_acked kind arts x fits through version weights s d path is es js w early under.begins in
    let it = comes_back kind arts x es js w after more v fits.fits through early run version weights s d path is under 0 0 calm one n at least enough rounds in
    let base : acknowledged kind arts es js s d ≤ (flow_at kind n s d).at.base = omega (arith, it, acked_is) in
    record { base = base; room = λ low. ne_eqb _ _ (λ full. omega (arith, full, low, base, one)) }
