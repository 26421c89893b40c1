-- The turns in which no node moves: each node that runs after one ran before it, or has just started, and no more is told than a signature.
use Rattle.std.proofs.Common.{◌≡◌, ℕ, ◌==◌, Bool, true, false, cond, List, [], ◌∷◌, Some, refl, sym, ap, subst, ◌∙◌, inl, inr}
use Rattle.std.specs.Prelude.{◌⊎◌, not}
use Rattle.std.proofs.lemmas.Bool.{cases_Bool, eq-eqb, eqb-true}
use Rattle.sp_base.specs.declared.id.NodeId.{NodeId}
use Rattle.sp_epoch.specs.declared.started.Started.{Started}
use Rattle.sp_msg.specs.declared.effect.Effect.TheVariants.{Signed}
use Rattle.sp_rules.specs.Arts.{Arts}
use Rattle.sp_rules.specs.Node.{NodeState, announced, booted, own_epoch}
use Rattle.sp_runs.specs.Lives.{IsStart, next_start, ready}
use Rattle.sp_runs.specs.Runs.{InRange, Spends}
use Rattle.sp_runs.specs.Settings.{Setting, fixed_at, link_keys, node_at_boot, node_at_start, signer_from}
use Rattle.sp_runs.specs.Worlds.{World, node_in}
use Rattle.sp_journal.specs.declared.entry.Entry.{Entry}
use Rattle.sp_schedule_events.specs.Lives.{is_started, may_act}
use Rattle.sp_schedule_events.specs.declared.event.Event.{Event}
use Rattle.sp_schedule_events.specs.declared.event.Event.TheVariants as events
use Rattle.laws_runs.specs.KeyFiles.{KeysStand}
use Rattle.laws_runs.specs.Since.{is_start_of}
use Rattle.laws_runs.proofs.KeyFiles.{ready_once}
use Rattle.laws_runs.proofs.LifeCases.{Exhausts, LifeCase, Nobody, Starts_now, Stops}
use Rattle.laws_runs.proofs.Lists.{both}
use Rattle.laws_runs.proofs.Ready.{As_was, WasThere, was_there}
use Rattle.laws_runs.proofs.Running.{more_found, without_left}
use Rattle.laws_runs.proofs.SinceFacts.{no_start}
use Rattle.laws_runs.proofs.Started.{craft_other}
use Rattle.laws_runs.proofs.Tables.{same_node}

-- a node that ran, or one with the weights and the places of a node as it boots
pub data Lived (x : Setting) (old : World) (e : Event) (u : NodeId) (n : NodeState) : Type 0 where
  Ran : is_start_of u e ≡ false → WasThere x old u n → Lived x old e u n
  Begun : is_start_of u e ≡ true → n.parts.weights ≡ (node_at_boot x u).parts.weights → n.parts.prio ≡ (node_at_boot x u).parts.prio → Lived x old e u n

pub record Rest (x : Setting) (old : World) (e : Event) (j : Entry) (new : World) : Type 0 where
  pub nodes : (u : NodeId) (n : NodeState) → node_in new.nodes u ≡ Some n → Lived x old e u n
  pub tells : (j.effects ≡ []) ⊎ ((bytes : List ℕ) × (j.effects ≡ Signed bytes ∷ []))

-- ---- the crafting signer is spent

pub spends_rest : (x : Setting) (old : World) (e : Event) (j : Entry) (new : World) → Spends x old e j new → Rest x old e j new
spends_rest x old e j new spends = record {
  nodes = λ u n at. Ran (no_start u e (craft_other spends.key e spends.is_craft)) (record {
    before = n;
    is_there = subst (λ (w : World). node_in w.nodes u ≡ Some n) spends.world at;
    readied = As_was refl;
  });
  tells = inl spends.effects;
}

-- ---- a node starts or stops, or the event comes to nobody

-- it starts as the same node with what it boots with
record IsFirst (x : Setting) (u : NodeId) (n : NodeState) : Type 0 where
  me : n.fixed.me ≡ u
  weights : n.parts.weights ≡ (node_at_boot x u).parts.weights
  places : n.parts.prio ≡ (node_at_boot x u).parts.prio

first_is : (arts : Arts) (x : Setting) (u : NodeId) (s : Started) → IsFirst x u (node_at_start arts x u s)
first_is arts x u s = go x.epochs
  where
    before : NodeState
    before = booted (fixed_at x u s.boot) (signer_from x u s.index s.bound) (link_keys x u) x.buffer x.store

    go : (on : Bool) → IsFirst x u (cond on (announced arts before) before)
    go true = record { me = refl; weights = refl; places = refl }
    go false = record { me = refl; weights = refl; places = refl }

module _ (arts : Arts) (x : Setting) (es : List Event) (old : World) (e : Event) (j : Entry) (new : World) (on : x.epochs ≡ true) (keys : KeysStand x es old)
    (range : InRange x es e) where
  -- a node that runs doesn't start
  runs_on : (v : NodeId) → e ≡ events.Start v → (u : NodeId) (n : NodeState) → node_in old.nodes u ≡ Some n → is_start_of u e ≡ false
  runs_on v is u n at = ap (is_start_of u) is ∙ elim (cases_Bool (v.0 == u.0)) [
    | inl t ↦
        let may : may_act x.epochs es (events.Start v) ≡ true = subst (λ (y : Event). may_act x.epochs es y ≡ true) is range.may in
        let not_yet : not (is_started es v.0) ≡ true = (both x.epochs (not (is_started es v.0)) may).1 in
        let started : is_started es u.0 ≡ true = ((keys.files on).nodes u n at).started in
        let same : v ≡ u = same_node v u (eqb-true v.0 u.0 t) in
        let wrong : not (is_started es u.0) ≡ true = subst (λ (w : NodeId). not (is_started es w.0) ≡ true) same not_yet in
        absurd (let f : false ≡ true = rw started at wrong in cc)
    | inr f ↦ f
  ]

  starts_rest : (v : NodeId) → e ≡ events.Start v → IsStart arts x old v j new → Rest x old e j new
  starts_rest v is start = record {
    nodes = λ u n at. elim (more_found u n (node_at_start arts x v (next_start x old v)) old.nodes
        (subst (λ (w : World). node_in w.nodes u ≡ Some n) start.world at)) [
          | inl was ↦ Ran (runs_on v is u n was) (record { before = n; is_there = was; readied = As_was refl })
          | inr it ↦
              let first = first_is arts x v (next_start x old v) in
              let mine : v ≡ u = sym first.me ∙ sym it.0 in
              let hit : (v.0 == u.0) ≡ true = eq-eqb v.0 u.0 (ap (λ (w : NodeId). w.0) mine) in
              Begun (ap (is_start_of u) is ∙ hit)
              (ap (λ (m : NodeState). m.parts.weights) it.1 ∙ first.weights ∙ ap (λ (w : NodeId). (node_at_boot x w).parts.weights) mine)
              (ap (λ (m : NodeState). m.parts.prio) it.1 ∙ first.places ∙ ap (λ (w : NodeId). (node_at_boot x w).parts.prio) mine)
        ];
    tells = inr (arts.spell (own_epoch (fixed_at x v (next_start x old v).boot)), start.effects ∙ rw on refl);
  }

  pub life_rest : LifeCase arts x old e j new → Rest x old e j new
  life_rest (Starts_now v is start) = starts_rest v is start
  life_rest (Exhausts v is none) = record {
    nodes = λ u n at.
        let was : node_in old.nodes u ≡ Some n = subst (λ (w : World). node_in w.nodes u ≡ Some n) none.world at in
        Ran (runs_on v is u n was) (record { before = n; is_there = was; readied = As_was refl });
    tells = inl none.effects;
  }
  life_rest (Stops v is stop) = record {
    nodes = λ u n at.
        let w = ready x old (events.Stop v) in
        Ran (ap (is_start_of u) is) (was_there x old (events.Stop v) u n
        (without_left u v n w.nodes (subst (λ (y : World). node_in y.nodes u ≡ Some n) stop.world at) (ready_once x es old (events.Stop v) on keys)));
    tells = inl stop.effects;
  }
  life_rest (Nobody other down) = record {
    nodes = λ u n at. Ran (no_start u e other) (record {
      before = n;
      is_there = subst (λ (w : World). node_in w.nodes u ≡ Some n) down.world at;
      readied = As_was refl;
    });
    tells = inl down.effects;
  }
