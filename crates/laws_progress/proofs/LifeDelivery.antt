-- Counted delivery over starts and stops: which messages may go along a path, and so what the rounds of a calm interval bring to its end.
use Rattle.laws_node.proofs.FreshLemmas.{one}
use Rattle.laws_progress.proofs.Changes.{holds_both}
use Rattle.laws_progress.proofs.RunStates.{is_right}
use Rattle.laws_progress.proofs.PassMasks.{none_waits, passes_by}
use Rattle.laws_progress.specs.Calm.{IsCalm}
use Rattle.laws_progress.specs.Within.{IsPathUnder, StaysUnder}
use Rattle.laws_runs.specs.Signs.{Good}
use Rattle.laws_progress.specs.LifeDelivery.{CountedDeliveryInLives, CountedReturnInLives}
use Rattle.laws_runs.specs.Flows.{flow_at}
use Rattle.laws_runs.specs.LifeFlows.{acknowledged_under}
use Rattle.laws_runs.specs.Past.{delivered_under, past, sent_under}
use Rattle.laws_runs.specs.Premises.{ComesThrough}
use Rattle.sp_base.specs.declared.id.Flow.{Flow}
use Rattle.sp_base.specs.declared.id.NodeId.{NodeId}
use Rattle.sp_journal.specs.declared.entry.Entry.{Entry}
use Rattle.sp_rules.specs.Arts.{Arts}
use Rattle.sp_rules.specs.Flow.{FlowState}
use Rattle.sp_rules.specs.Lives.{held_boot}
use Rattle.sp_rules.specs.Node.{NodeState}
use Rattle.sp_rules.specs.declared.kflow.FlowKind.TheVariants.{Plain, Paths}
use Rattle.sp_runs.specs.Paths.{hops}
use Rattle.sp_runs.specs.Rounds.{CompleteRounds, flow_count}
use Rattle.sp_runs.specs.Runs.{Clean}
use Rattle.sp_runs.specs.Settings.{Setting, SettingFits}
use Rattle.sp_runs.specs.Worlds.{World, node_in}
use Rattle.sp_schedule_events.specs.declared.event.Event.{Event}
use Rattle.std.proofs.Common.{List, Some, ap, arith, length, sym, true, ℕ, ◌++◌, ◌+◌, ◌∙◌, ◌≡◌, ◌≤◌}
use Rattle.std.proofs.lemmas.Bool.{ne_eqb}
use Rattle.sp_rules.specs.declared.kflow.FlowKind.{FlowKind}
use Rattle.laws_progress.proofs.Makes.{Passes}
use Rattle.sp_rules.specs.Kflow.{edge_to}
use Rattle.sp_rules.specs.Rel.{flow_in}
use Rattle.laws_progress.proofs.Standing.{rel_of}
use Rattle.laws_progress.proofs.Makes.{flow_sound, plain_passes}
use Rattle.laws_runs.specs.Signs.{sizes_at}
use Rattle.std.proofs.Common.{Option, None, refl}
use Rattle.std.specs.List.{All}
use Rattle.sp_graph.specs.Walks.{steps}
use Rattle.sp_msg.specs.Masks.{bits}
use Rattle.sp_msg.specs.Views.{names_edge}
use Rattle.sp_msg.specs.declared.mask.Mask.{Mask}
use Rattle.sp_rules.specs.Kflow.{waiting_mask}
use Rattle.laws_progress.proofs.Changes.{era_is}
use Rattle.laws_progress.proofs.States.{IsRight}
use Rattle.laws_progress.specs.Within.{MayGo}
use Rattle.laws_progress.proofs.CalmEras.{era_of}
use Rattle.laws_progress.proofs.CalmRuns.{GoesBy, Pass, delivers, found, returns, signed_last, signed_more, source_boots, source_has}

-- ---- which messages may go

-- over any edge
every : (x : Setting) (path : List NodeId) → All (GoesBy x (λ edge. true)) (steps path)
every x path k none inside = refl

plain_pass : (low high : ℕ) (arts : Arts) (x : Setting) (es : List Event) (js : List Entry) (w : World) (after : List Event) (more : List Entry) (end : World)
    (fits : SettingFits arts x) (reads : ComesThrough x.topology.format arts x.signature_len) (run : Clean arts x es js w)
    (longer : Clean arts x (es ++ after) (js ++ more) end) (version : ℕ) (weights : List ℕ) (s d : NodeId) (path : List NodeId)
    (way : IsPathUnder x weights s d path) (under : StaysUnder version weights path w end) (a b : ℕ) (calm : IsCalm w after s a d b path)
    → Pass Plain low high (λ edge. true) arts x es js w after more end fits reads run longer version weights s d path way under a b calm (every x path)
plain_pass low high arts x es js w after more end fits reads run longer version weights s d path way under a b calm z fs g u v n hop at on =
    let k = sizes_at x (Good arts x z.at.events z.at.journal) u in
    let holds = rel_of Plain arts x z.at.events z.at.journal z.at.world fits reads.carries z.at.run u n at in
    let sound = flow_sound Plain k n.signer.index n.parts.rel (record { src = s; dst = d }) holds in
    plain_passes low high (edge_to n.parts.kflow v) (flow_in n.parts.rel.flows (record { src = s; dst = d })) sound.plain

-- no message is in an empty window
none_pass : (low high edge : ℕ) (f : FlowState) → high ≤ low → Passes low high edge f
none_pass low high edge f none i o there above upto = absurd (omega (arith, none, above, upto))

-- over the edges of the mask that waits
mask_pass : (high : ℕ) (arts : Arts) (x : Setting) (es : List Event) (js : List Entry) (w : World) (after : List Event) (more : List Entry) (end : World)
    (fits : SettingFits arts x) (reads : ComesThrough x.topology.format arts x.signature_len) (run : Clean arts x es js w)
    (longer : Clean arts x (es ++ after) (js ++ more) end) (version : ℕ) (weights : List ℕ) (s d : NodeId) (path : List NodeId)
    (way : IsPathUnder x weights s d path) (under : StaysUnder version weights path w end) (a b : ℕ) (calm : IsCalm w after s a d b path)
    → (n : NodeState) (at : node_in w.nodes s ≡ Some n) (mask : Mask) → waiting_mask n.parts.kflow d ≡ Some mask → high ≤ (flow_at Paths n s d).at.have
    → (has : All (GoesBy x (names_edge (bits mask))) (steps path))
    → Pass Paths (flow_at Paths n s d).at.base high (names_edge (bits mask)) arts x es js w after more end fits reads run longer version weights s d path way
    under a b calm has
mask_pass high arts x es js w after more end fits reads run longer version weights s d path way under a b calm n at mask waits most has z fs g u v m hop there
    on =
    let low = (flow_at Paths n s d).at.base in
    let over = names_edge (bits mask) in
    let right = is_right x s d path way.walks in
    let era = era_of Paths low high over w path version weights a b (es ++ after) end in
    let flow : Flow = record { src = s; dst = d } in
    let source = source_boots Paths low high over arts x es js w after more end fits reads run longer version weights s d path way under a b calm has n at in
    let here = holds_both m s d a b (era_is era flow u m on).1 in
    let boots : ◌≡◌ {A = ℕ × ℕ} (held_boot m.parts.lives s, held_boot m.parts.lives d) (held_boot n.parts.lives s, held_boot n.parts.lives d) =
    ap (λ p. (p, held_boot m.parts.lives d)) (here.0 ∙ sym source.0) ∙ ap (λ p. (held_boot n.parts.lives s, p)) (here.1 ∙ sym source.1) in
    passes_by arts x (es ++ after) (js ++ more) end fits reads.carries longer s d right.from right.to right.different es js w run
    (signed_more Paths low high over arts x es js w after more end fits reads run longer version weights s d path way under a b calm has) n at mask waits
    z.at.events z.at.journal z.at.world z.at.run
    (signed_last Paths low high over arts x es js w after more end fits reads run longer version weights s d path way under a b calm has z fs g)
    u v m there hop.hop.joined hop.may boots high most

-- what s accepted by the beginning comes to d
pub comes : (kind : FlowKind) (arts : Arts) (x : Setting) (es : List Event) (js : List Entry) (w : World) (after : List Event) (more : List Entry) (end : World)
    (fits : SettingFits arts x) (reads : ComesThrough x.topology.format arts x.signature_len) (run : Clean arts x es js w)
    (longer : Clean arts x (es ++ after) (js ++ more) end) (version : ℕ) (weights : List ℕ) (s d : NodeId) (path : List NodeId)
    (way : IsPathUnder x weights s d path) (under : StaysUnder version weights path w end) (a b : ℕ) (calm : IsCalm w after s a d b path)
    → 1 ≤ x.buffer → (n : NodeState) → node_in w.nodes s ≡ Some n → MayGo kind x n d path
    → (q k : ℕ) → q ≤ length (sent_under kind (past arts x es js w run) s a d b) → q ≤ (flow_at kind n s d).at.base + k
    → (least : ℕ) → flow_count kind x (es ++ after) ≤ least → CompleteRounds kind least s d path (hops path + k + 1) es after
    → q ≤ length (delivered_under kind (past arts x (es ++ after) (js ++ more) end longer) s a d b)
comes Plain arts x es js w after more end fits reads run longer version weights s d path way under a b calm one n at may q k has near least enough rounds =
    let low = (flow_at Plain n s d).at.base in
    delivers Plain low q (λ edge. true) arts x es js w after more end fits reads run longer version weights s d path way under a b calm (every x path) one least
    enough
    (plain_pass low q arts x es js w after more end fits reads run longer version weights s d path way under a b calm) n at q k (omega arith) (omega arith) has
    near rounds
comes Paths arts x es js w after more end fits reads run longer version weights s d path way under a b calm one n at may q k has near least enough rounds =
    go (waiting_mask n.parts.kflow d) refl
  where
    low : ℕ
    low = (flow_at Paths n s d).at.base

    right : IsRight x (record { src = s; dst = d })
    right = is_right x s d path way.walks

    have : (flow_at Paths n s d).at.have ≡ length (sent_under Paths (past arts x es js w run) s a d b)
    have = source_has Paths low q (λ edge. true) arts x es js w after more end fits reads run longer version weights s d path way under a b calm (every x path)
        n at

    go : (o : Option Mask) → waiting_mask n.parts.kflow d ≡ o
        → q ≤ length (delivered_under Paths (past arts x (es ++ after) (js ++ more) end longer) s a d b)
    go None waits =
        let none = none_waits arts x es js w fits reads.carries run s d right.from right.different n at waits in
        let few : q ≤ low = omega (arith, have, has, none) in
        delivers Paths low q (λ edge. true) arts x es js w after more end fits reads run longer version weights s d path way under a b calm (every x path) one
        least enough
        (λ z fs g u v m hop there on. none_pass low q (edge_to m.parts.kflow v) (flow_at Paths m s d) few) n at q k (omega arith) (omega arith) has near rounds
    go (Some mask) waits =
        delivers Paths low q (names_edge (bits mask)) arts x es js w after more end fits reads run longer version weights s d path way under a b calm
        (may mask waits) one least enough
        (mask_pass q arts x es js w after more end fits reads run longer version weights s d path way under a b calm n at mask waits (omega (arith, have, has))
        (may mask waits))
        n at q k (omega arith) (omega arith) has near rounds

-- what d acknowledged by the beginning comes back to s
pub comes_back : (kind : FlowKind) (arts : Arts) (x : Setting) (es : List Event) (js : List Entry) (w : World) (after : List Event) (more : List Entry)
    (end : World)
    (fits : SettingFits arts x) (reads : ComesThrough x.topology.format arts x.signature_len) (run : Clean arts x es js w)
    (longer : Clean arts x (es ++ after) (js ++ more) end) (version : ℕ) (weights : List ℕ) (s d : NodeId) (path : List NodeId)
    (way : IsPathUnder x weights s d path) (under : StaysUnder version weights path w end) (a b : ℕ) (calm : IsCalm w after s a d b path)
    → 1 ≤ x.buffer → (n : NodeState) → node_in end.nodes s ≡ Some n
    → (least : ℕ) → flow_count kind x (es ++ after) ≤ least → CompleteRounds kind least s d path (hops path + 1) es after
    → acknowledged_under kind arts es js s a d b ≤ (flow_at kind n s d).at.base
comes_back kind arts x es js w after more end fits reads run longer version weights s d path way under a b calm one n at least enough rounds =
    returns kind 0 0 (λ edge. true) arts x es js w after more end fits reads run longer version weights s d path way under a b calm (every x path) one least
    enough
    (λ z fs g u v m hop there on. none_pass 0 0 (edge_to m.parts.kflow v) (flow_at kind m s d) (omega arith)) n at rounds

-- ---- the laws

pub delivery_is_counted_in_lives : CountedDeliveryInLives
delivery_is_counted_in_lives arts x fits reads one kind es js w after more v run longer version weights s d path is under a b calm n at may q k pos has near
    least
    enough rounds =
    found kind 0 0 (λ edge. true) arts x es js w after more v fits reads run longer version weights s d path is under a b calm (every x path) q pos has
    (comes kind arts x es js w after more v fits reads run longer version weights s d path is under a b calm one n at may q k has near least enough rounds)

pub acknowledgements_return_in_lives : CountedReturnInLives
acknowledgements_return_in_lives arts x fits reads one kind es js w after more v run longer version weights s d path is under a b calm n at least enough
    rounds =
    let base = comes_back kind arts x es js w after more v fits reads run longer version weights s d path is under a b calm one n at least enough rounds in
    record { base = base; room = λ low. ne_eqb _ _ (λ full. omega (arith, full, low, base, one)) }
