-- A node that starts with epochs: within its bounds, with nothing but its Epoch object, which it signed.
use Rattle.std.proofs.Common.{◌≡◌, ◌<◌, ◌≤◌, ◌^◌, ℕ, true, false, eqb, List, [], ◌∷◌, ◌++◌, length, refl, sym, ap, subst, ◌∙◌, arith}
use Rattle.std.specs.Prelude.{not}
use Rattle.std.specs.List.{flat_map}
use Rattle.std.proofs.lemmas.Bool.{eq-eqb}
use Rattle.std.proofs.lemmas.List.Elements.{All-nil}
use Rattle.sp_base.specs.declared.id.NodeId.{NodeId}
use Rattle.sp_epoch.specs.declared.started.Started.{Started}
use Rattle.sp_msg.specs.declared.effect.Effect.{Effect}
use Rattle.sp_msg.specs.declared.effect.Effect.TheVariants.{Signed}
use Rattle.sp_msg.specs.declared.kept.Kept.{Kept}
use Rattle.sp_rules.specs.Arts.{Arts}
use Rattle.sp_rules.specs.Node.{NodeState, announced, booted, own_epoch, signed_now}
use Rattle.sp_rules.specs.Parts.{Fixed, nodes_of}
use Rattle.laws_node.specs.Inputs.{ArtsFit}
use Rattle.laws_node.specs.Shapes.{shape_of}
use Rattle.laws_node.specs.Sizes.{IsNode}
use Rattle.laws_node.proofs.Boot.{boot_holds, nodes_hold}
use Rattle.laws_node.proofs.Own.{own_is_signed}
use Rattle.laws_node.proofs.Reliable.{in_range}
use Rattle.laws_node.proofs.Shapes.{shapes_start}
use Rattle.laws_node.proofs.Starts.{announced_holds, epoch_about, epoch_fields}
use Rattle.sp_runs.specs.Forgery.{is_among}
use Rattle.sp_runs.specs.Lives.{IsStart, next_start}
use Rattle.sp_runs.specs.Runs.{InRange}
use Rattle.sp_runs.specs.Settings.{Setting, SettingFits, fixed_at, is_node, is_one_of, link_keys, node_at_start, signer_from}
use Rattle.sp_runs.specs.Told.{signed, signed_by, told_at}
use Rattle.sp_runs.specs.Worlds.{World}
use Rattle.sp_journal.specs.declared.entry.Entry.{Entry}
use Rattle.sp_schedule_events.specs.declared.event.Event.{Event}
use Rattle.sp_schedule_events.specs.declared.event.Event.TheVariants as events
use Rattle.laws_node.proofs.Withdrawing.{start_obeys}
use Rattle.laws_node.specs.Withdrawals.{Obeys}
use Rattle.sp_rules.specs.Parts.{bare_parts}
use Rattle.sp_rules.specs.Topologies.{removed_of, weights_in}
use Rattle.laws_runs.specs.KeyFiles.{KeysStand}
use Rattle.laws_runs.specs.Premises.{Carries}
use Rattle.laws_runs.specs.Signs.{Good, NodeIs, sizes_at}
use Rattle.sp_rules.specs.declared.kflow.FlowKind.TheVariants.{Plain, Paths}
use Rattle.laws_runs.proofs.Acks.{AllAcks, acks_of, bare_acks}
use Rattle.laws_runs.proofs.Dated.{closed_dated, bare_dated}
use Rattle.laws_runs.proofs.Goods.{fit_in}
use Rattle.laws_runs.proofs.Lists.{among_right, both, first_among, told_more}

module _ (arts : Arts) (x : Setting) (es : List Event) (js : List Entry) (old new : World) (u : NodeId) (j : Entry) (fits : SettingFits arts x)
    (reads : Carries x.topology.format arts) (on : x.epochs ≡ true) (keys : KeysStand x es old) (even : length es ≡ length js)
    (range : InRange x es (events.Start u))
    (start : IsStart arts x old u j new) where
  abbrev s : Started
  s = next_start x old u

  abbrev f : Fixed
  f = fixed_at x u (next_start x old u).boot

  -- as it booted, before it signs
  abbrev before : NodeState
  before = booted (fixed_at x u (next_start x old u).boot) (signer_from x u (next_start x old u).index (next_start x old u).bound) (link_keys x u) x.buffer
      x.store

  abbrev object : Kept
  object = signed_now arts before (own_epoch f)

  abbrev P : Kept → Type 0
  P = Good arts x (es ++ events.Start u ∷ []) (js ++ j ∷ [])

  begins : node_at_start arts x u s ≡ announced arts before
  begins = rw on refl

  below : s.index < s.bound
  below = let left = start.left in omega (arith, left)

  within : s.bound ≤ x.total
  within = omega arith

  early : s.boot < 2 ^ 64
  early = let boot = (keys.numbers u).boot in let few = range.fields.1 in omega (arith, boot, few)

  node : IsNode x.topology.format u
  node =
      in_range x.topology.format (nodes_of x.topology) u (nodes_hold x.topology.format x.topology.height 0 x.topology.nodes fits.topology.ranges.nodes)
      (both (is_node x u) (not (is_one_of x.bad u)) range.fields.0).0

  fit : ArtsFit arts f before.signer
  fit = fit_in arts x u s.boot before.signer refl refl (fits.each u range.fields.0)

  -- it is known, since the entry tells that it was signed
  told : is_among (arts.spell (own_epoch f)) (signed (es ++ events.Start u ∷ []) (js ++ j ∷ []) u) ≡ true
  told =
      let here : eqb u.0 u.0 ≡ true = eq-eqb u.0 u.0 refl in
      let tells : j.effects ≡ Signed (arts.spell (own_epoch f)) ∷ [] = start.effects ∙ rw on refl in
      let all : is_among (arts.spell (own_epoch f)) (flat_map signed_by j.effects) ≡ true =
      subst (λ (effects : List Effect). is_among (arts.spell (own_epoch f)) (flat_map signed_by effects) ≡ true) (sym tells)
      (first_among (arts.spell (own_epoch f)) []) in
      subst (λ these. is_among (arts.spell (own_epoch f)) these ≡ true) (sym (told_more (told_at u signed_by) es js (events.Start u) j even))
      (among_right (arts.spell (own_epoch f)) (signed es js u) _ (rw here all))

  pub good : P object
  good = record {
    known = λ correct. told;
    right = own_is_signed arts before (own_epoch f) fit (let a = below in let b = within in omega (arith, a, b)) refl;
    bytes = (All-nil (λ (b : ℕ). b < 256), reads.signatures x.topology.height _ _ _);
    good = fit.own (own_epoch f) (epoch_fields f x.topology.format (fits.format on) node early) (epoch_about arts f before.signer fit);
  }

  announced_acks : AllAcks (announced arts before).parts
  announced_acks = acks_of (announced arts before).parts (bare_acks f x.buffer x.store Plain) (bare_acks f x.buffer x.store Paths)

  pub start_is : (v : NodeId) (n : NodeState) → (v ≡ (node_at_start arts x u (next_start x old u)).fixed.me) × (n ≡ node_at_start arts x u (next_start x old u))
      → NodeIs x (Good arts x (es ++ events.Start u ∷ []) (js ++ j ∷ [])) v n
  start_is v n it =
      let is : n ≡ announced arts before = it.1 ∙ begins in
      let me : v ≡ u = it.0 ∙ ap (λ (m : NodeState). m.fixed.me) begins in
      subst (λ (w : NodeId). NodeIs x P w n) (sym me) (subst (NodeIs x P u) (sym is) (record {
        correct = range.fields.0;
        fixed = refl;
        seed = refl;
        total = refl;
        shape = ap shape_of (sym begins) ∙ shapes_start arts f before.signer (link_keys x u) x.buffer x.store;
        holds = announced_holds (sizes_at x P u) arts before fit below (fits.format on) good
            (boot_holds P f before.signer (link_keys x u) x.buffer x.store (record {
              me = node;
              boot = early;
              topology = fits.topology;
              short = fits.short;
              document = fits.room x.topology.version (weights_in x.topology.edges);
              signer = record { index = let a = below in omega (arith, a); bound = within; total = fits.total };
            }));
        acks = announced_acks;
        obeys = subst Obeys begins (start_obeys arts f before.signer (link_keys x u) x.buffer x.store);
        dated = closed_dated (record (bare_parts f x.buffer x.store) { lives = (announced arts before).parts.lives }) (weights_in x.topology.edges)
            (removed_of (nodes_of x.topology) x.topology.edges) (bare_dated f x.buffer x.store (announced arts before).parts.lives);
        plain = λ off. absurd (let wrong : false ≡ true = sym off ∙ on in cc);
      }))
