use Rattle.std.proofs.Common.{◌≡◌, ℕ, ◌+◌, ◌<◌, ◌^◌, List, length, refl, ap, sym, subst, ◌∙◌}
use Rattle.std.proofs.lemmas.Result.{IfOk-weaker, on_err_weaker}
use Rattle.laws_runs.proofs.Ready.{ready_frames, ready_published}
use Rattle.sp_rules.specs.Node.{NodeState}
use Rattle.sp_runs.specs.Inputs.{acting}
use Rattle.sp_runs.specs.Lives.{ready}
use Rattle.sp_runs.specs.Scenarios.{setting_of}
use Rattle.sp_runs.specs.Worlds.{Direction, World, frames_in}
use Rattle.sp_schedule_events.specs.declared.published.Published.{Published}
use Rattle.sp_world.specs.Documents.{CanHandOut, IsHanded}
use Rattle.sp_world.specs.Scenes.{Scene, world_in}
use Rattle.sp_world.proofs.Moving.{asked_here, polled_here, undone_here}
use Rattle.sp_world.proofs.Publishing.{can_hand_out}
use Rattle.sp_world.proofs.Standing.{are_filed, asks, can_ask, few_frames, may_poll}
use Rattle.sp_world_steps.specs.Members.{CanAsk, CanCall}
use Rattle.sp_world.proofs.acts.asked.Goals as goal

-- src/acts.rt:100:33
pub poll-requires-clause-can : goal.poll-requires-clause-can
poll-requires-clause-can c =
    let k = c.args.known.now in
    let nodes_are = ap (λ (s : Scene). s.nodes) c.scene.view_is ∙ ap (λ (w : World). w.nodes) c.make_ready.ensures.ready in
    subst (λ (ns : List NodeState). CanCall ns c.in-Poll.u c.in-Poll.v) (sym nodes_are)
    (may_poll k.scenario.now k.events.now k.journal.now (world_in c.args.scene.now) c.args.event.now c.in-Poll.u c.in-Poll.v c.requires.comes c.in-Poll.is)

-- src/acts.rt:100:33
pub poll-requires-clause-few : goal.poll-requires-clause-few
poll-requires-clause-few c =
    let k = c.args.known.now in
    let w = world_in c.args.scene.now in
    let frames_are = ap (λ (s : Scene). s.directions) c.scene.view_is ∙ ap (λ (v : World). v.directions) c.make_ready.ensures.ready
    ∙ ready_frames (setting_of k.scenario.now) w c.args.event.now in
    subst (λ (ds : List Direction). length (frames_in ds c.in-Poll.u c.in-Poll.v) + 1 < 2 ^ 32) (sym frames_are)
    (few_frames k.scenario.now k.events.now k.journal.now w c.args.event.now c.in-Poll.u c.in-Poll.v c.requires.comes.stands)

-- src/acts.rt:84:1
pub returns-in-Poll-clause-told : goal.returns-in-Poll-clause-told
returns-in-Poll-clause-told c =
    let k = c.args.known.now in
    let i = c.scene.inside in
    let there : Scene = record { keys = i.keys; nodes = i.nodes.items; directions = i.directions; crafters = i.crafters; published = i.published } in
    let new : Scene = record there { nodes = c.poll.new.nodes.items; directions = c.poll.new.self } in
    IfOk-weaker c.poll.result _ _
    (λ entry polled. polled_here k.scenario.now k.events.now k.journal.now c.args.scene.now c.args.event.now there new c.in-Poll.u c.in-Poll.v entry
    c.requires.comes.stands c.in-Poll.is (ap world_in c.scene.view_is ∙ c.make_ready.ensures.ready) polled refl refl refl)
    c.poll.ensures.polled

-- src/acts.rt:109:5
pub make_ready-requires : goal.make_ready-requires
make_ready-requires c =
    let k = c.args.known.now in
    are_filed k.scenario.now k.events.now k.journal.now c.args.scene.now c.args.event.now c.requires.comes.stands (acting c.args.event.now)

-- src/acts.rt:113:28
pub hand_out-requires : goal.hand_out-requires
hand_out-requires c =
    let k = c.args.known.now in
    let e = c.args.event.now in
    let w = world_in c.args.scene.now in
    let last_is = ap (λ (s : Scene). s.published) c.scene.view_is ∙ ap (λ (v : World). v.published) c.make_ready.ensures.ready
    ∙ ready_published (setting_of k.scenario.now) w e in
    record {
      home = c.requires.home;
      can =
          subst (λ (last : Published). CanHandOut k.scenario.now last e) (sym last_is)
          (can_hand_out k.scenario.now k.events.now k.journal.now w e c.requires.comes.stands);
    }

-- src/acts.rt:114:13
pub ask-requires : goal.ask-requires
ask-requires c =
    let k = c.args.known.now in
    let e = c.args.event.now in
    let w = world_in c.args.scene.now in
    let comes = c.requires.comes in
    let document = c.as_slice.result.now in
    let nodes_are = ap (λ (s : Scene). s.nodes) c.scene.view_is ∙ ap (λ (v : World). v.nodes) c.make_ready.ensures.ready in
    let last_is = ap (λ (s : Scene). s.published) c.scene.view_is ∙ ap (λ (v : World). v.published) c.make_ready.ensures.ready in
    let handed = subst (λ (last : Published). IsHanded (setting_of k.scenario.now) last e c.in_ok-document-in_default.document) last_is
    c.in_ok-document-in_default.ensures.document in
    let same : document ≡ c.in_ok-document-in_default.document = c.as_slice.ensures in
    record {
      acts = c.acting.ensures;
      can =
          subst (λ (ns : List NodeState). CanAsk ns e document) (sym nodes_are)
          (can_ask k.scenario.now k.events.now k.journal.now w e comes.stands comes.somebody document
          (subst (λ (bs : List ℕ). IsHanded (setting_of k.scenario.now) (ready (setting_of k.scenario.now) w e).published e bs) (sym same) handed)
          (asks document e comes.other c.requires.call c.in_default.not-Poll));
    }

-- src/acts.rt:93:1
pub returns-in_ok-document-in_default : goal.returns-in_ok-document-in_default
returns-in_ok-document-in_default c =
    let k = c.args.known.now in
    let e = c.args.event.now in
    let i = c.scene.inside in
    let document = c.as_slice.result.now in
    let there : Scene = record { keys = i.keys; nodes = i.nodes.items; directions = i.directions; crafters = i.crafters; published = i.published } in
    let new : Scene = record there { nodes = c.ask.new.nodes.items; published = c.hand_out.new.published } in
    let made = ap world_in c.scene.view_is ∙ c.make_ready.ensures.ready in
    let same : document ≡ c.in_ok-document-in_default.document = c.as_slice.ensures in
    let handed = subst (λ (bs : List ℕ). IsHanded (setting_of k.scenario.now) i.published e bs) (sym same) c.in_ok-document-in_default.ensures.document in
    record {
      told =
          IfOk-weaker c.ask.result _ _
          (λ entry asked. asked_here k.scenario.now k.events.now k.journal.now c.args.scene.now e there new document entry c.requires.comes.stands made handed
          asked refl refl refl c.in_ok-document-in_default.ensures.published)
          c.ask.ensures.asked;
      crafters = ap (λ (s : Scene). s.crafters) c.scene.view_is ∙ c.make_ready.ensures.crafters;
      as_before =
          on_err_weaker c.ask.result
          (λ same. undone_here k.scenario.now k.events.now k.journal.now c.args.scene.now e there new made same refl)
          c.ask.ensures.as_before;
    }
