-- The era of a calm interval: in each of its states the nodes that are watched run in their lives and hold the boots of the flow's ends.
use Rattle.laws_node.proofs.Epochs.{boots_never_fall}
use Rattle.laws_progress.proofs.Becomes.{Acts, Becomes, Begins, Remains, becomes, readied_keeps, runs_on}
use Rattle.laws_progress.proofs.Calms.{AreUp, Calmly}
use Rattle.laws_progress.proofs.Changes.{both_held, holds_both, life_of}
use Rattle.laws_progress.proofs.Counting.{within}
use Rattle.laws_progress.proofs.Facts.{Goes}
use Rattle.laws_progress.proofs.Heads.{HeadsReadBack, heads_are}
use Rattle.laws_progress.proofs.LastBoots.{held_below, held_none, last_boot, running_boot}
use Rattle.laws_progress.proofs.States.{Era, Follow, Follows, IsEra, Leads, State, Watched}
use Rattle.laws_progress.specs.Calm.{is_life_of}
use Rattle.laws_progress.proofs.Adopting as adopting
use Rattle.laws_node.specs.Withdrawals.{removed_now}
use Rattle.sp_rules.specs.Rel.{is_one_of}
use Rattle.laws_runs.proofs.Lives.{step_stays}
use Rattle.laws_runs.proofs.Running.{found_there}
use Rattle.laws_runs.specs.Past.{holds}
use Rattle.laws_runs.specs.Premises.{Carries}
use Rattle.sp_base.specs.declared.id.Flow.{Flow}
use Rattle.sp_base.specs.declared.id.NodeId.{NodeId}
use Rattle.sp_journal.specs.declared.entry.Entry.{Entry}
use Rattle.sp_rules.specs.Arts.{Arts}
use Rattle.sp_rules.specs.Lives.{held_boot, start}
use Rattle.sp_rules.specs.Node.{NodeState, link_in}
use Rattle.sp_rules.specs.Parts.{Fixed}
use Rattle.sp_runs.specs.Runs.{InRange, Turn, forged_in, is_hop, polls}
use Rattle.sp_runs.specs.Settings.{Setting, SettingFits, is_correct}
use Rattle.sp_runs.specs.Worlds.{World, node_in}
use Rattle.sp_schedule_events.specs.declared.event.Event.{Event}
use Rattle.std.proofs.Common.{[], List, None, Some, ap, arith, false, inl, inr, refl, subst, sym, true, ℕ, ◌-◌, ◌∙◌, ◌∷◌, ◌≡◌, ◌≤◌}
use Rattle.std.proofs.lemmas.Bool.{cases_Bool}
use Rattle.std.proofs.lemmas.Option.{same_Some}
use Rattle.std.specs.List.{list_any}
use Rattle.laws_progress.proofs.Facts as facts
use Rattle.laws_progress.proofs.UpStates.{off_first}
use Rattle.laws_progress.proofs.Calms.{MayPass}

-- ---- a state of the interval, by nodes, lives and boots alone

pub record UpAt (arts : Arts) (x : Setting) (all : List Event) (era : Era) (flow : Flow) (w : State arts x all) (v : NodeId) : Type 0 where
  pub node : NodeState
  pub there : node_in w.world.nodes v ≡ Some node
  pub boot : node.fixed.boot ≡ era.life v
  pub held : holds node flow.src era.sboot flow.dst era.dboot ≡ true
  -- no older version, and the weights that count where it is this one
  pub version : era.version ≤ node.live.version
  pub weights : node.live.version ≡ era.version → node.live.weights ≡ era.weights

abbrev pub AllUp : (arts : Arts) (x : Setting) (all : List Event) (era : Era) (flow : Flow) → State arts x all → Type 0
AllUp arts x all era flow w = (v : NodeId) → era.on v ≡ true → UpAt arts x all era flow w v

-- no watched node starts or stops
abbrev pub IsFree : Era → List Event → Type 0
IsFree era es = (v : NodeId) → era.on v ≡ true → list_any (is_life_of v) es ≡ false

module _ (arts : Arts) (x : Setting) (all : List Event) (era : Era) (flow : Flow) (fits : SettingFits arts x) (reads : Carries x.topology.format arts)
    (is_era : IsEra x flow era) where
  boots_of : (old new : World) (e : Event) (j : Entry) (v : NodeId) (b n : NodeState) → node_in old.nodes v ≡ Some b → Becomes arts x old e j new v n
      → ((n.fixed.boot ≡ b.fixed.boot) × ((z : NodeId) → held_boot b.parts.lives z ≤ held_boot n.parts.lives z))
  boots_of old new e j v b n at (Remains c there readied why) =
      let same : c ≡ b = same_Some c b (sym there ∙ at) in
      subst (λ (q : NodeState). (n.fixed.boot ≡ q.fixed.boot) × ((z : NodeId) → held_boot q.parts.lives z ≤ held_boot n.parts.lives z)) same
      (readied_keeps x old c n (λ m. (m.fixed.boot ≡ c.fixed.boot) × ((z : NodeId) → held_boot c.parts.lives z ≤ held_boot m.parts.lives z)) (λ upto h. h)
      readied (refl, λ z. omega arith))
  boots_of old new e j v b n at (Acts acts c there m readied after none) =
      let same : c ≡ b = same_Some c b (sym there ∙ at) in
      let was = readied_keeps x old c m.node (λ q. (q.fixed.boot ≡ c.fixed.boot) × ((z : NodeId) → held_boot c.parts.lives z ≤ held_boot q.parts.lives z))
      (λ upto h. h) readied (refl, λ z. omega arith) in
      let stays = ap (λ (f : Fixed). f.boot) (step_stays arts m.node m.input m.output m.after m.step).fixed in
      subst (λ (q : NodeState). (n.fixed.boot ≡ q.fixed.boot) × ((z : NodeId) → held_boot q.parts.lives z ≤ held_boot n.parts.lives z)) same
      (subst (λ (q : NodeState). (q.fixed.boot ≡ c.fixed.boot) × ((z : NodeId) → held_boot c.parts.lives z ≤ held_boot q.parts.lives z)) (sym after) (
        stays ∙ was.0,
        λ z. let low = was.1 z in let up = boots_never_fall arts m.node m.input m.output m.after z m.step in omega (arith, low, up),
      ))
  boots_of old new e j v b n at (Begins on is start after none) = absurd (let f : true ≡ false = sym (found_there v b old.nodes at) ∙ none in cc)

  -- it goes on through an event that starts or stops none
  module _ (w y : State arts x all) (e : Event) (j : Entry) (range : InRange x w.events e) (turn : Turn arts x w.world e j y.world)
      (unforged : forged_in arts x w.events w.journal w.world e j y.world turn ≡ None) (idle : (v : NodeId) → era.on v ≡ true → is_life_of v e ≡ false)
      (up : AllUp arts x all era flow w) where
    -- it runs, in the same life, holds no older boots, and runs under no older version
    record One (v : NodeId) (b n : NodeState) : Type 0 where
      there : node_in y.world.nodes v ≡ Some n
      boot : n.fixed.boot ≡ era.life v
      boots : (z : NodeId) → held_boot b.parts.lives z ≤ held_boot n.parts.lives z
      later : adopting.Follows b n

    one_on : (v : NodeId) (on : era.on v ≡ true) → (n : NodeState) × One v (up v on).node n
    one_on v on =
        let p = up v on in
        let n = runs_on arts x w.events w.journal w.world e j y.world fits reads w.run turn v (idle v on) p.node p.there in
        let how = becomes arts x w.events w.journal w.world e j y.world fits reads w.run range turn unforged v n.0 n.1 in
        let it = boots_of w.world y.world e j v p.node n.0 p.there how in (
          n.0,
          record {
            there = n.1;
            boot = it.0 ∙ p.boot;
            boots = it.1;
            later = adopting.node_follows arts x w.events w.journal w.world y.world e j fits reads w.run v p.node n.0 p.there how;
          },
        )

    last_is : (v : NodeId) → era.on v ≡ true → last_boot x y.world v ≡ era.life v
    last_is v on = let n = one_on v on in sym (running_boot arts x y.events y.journal y.world fits reads y.run v n.0 n.1.there) ∙ n.1.boot

    all_on : AllUp arts x all era flow y
    all_on v on =
        let p = up v on in
        let n = one_on v on in
        let before = holds_both p.node flow.src flow.dst era.sboot era.dboot p.held in
        let here : (z : NodeId) → era.on z ≡ true → is_correct x z ≡ true → (k : ℕ) → (x.epochs ≡ true → era.life z ≡ k) → (x.epochs ≡ false → k ≡ 0)
        → held_boot p.node.parts.lives z ≡ k
        → held_boot n.0.parts.lives z ≡ k =
        λ z z_on correct k taken only was. elim (cases_Bool x.epochs) [
          | inl epochs ↦
              let low = n.1.boots z in
              let top = held_below arts x y.events y.journal y.world fits reads y.run v z n.0 n.1.there correct in
              let last = last_is z z_on in
              let is = taken epochs in
              omega (arith, low, top, last, is, was)
          | inr off ↦ held_none arts x y.events y.journal y.world fits reads y.run off v n.0 n.1.there z ∙ sym (only off)
        ] in
        record {
          node = n.0;
          there = n.1.there;
          boot = n.1.boot;
          version = let low = n.1.later.version in let least = p.version in omega (arith, low, least);
          weights = λ same.
              let low = n.1.later.version in
              let least = p.version in
              n.1.later.live (omega (arith, low, least, same)) ∙ p.weights (omega (arith, low, least, same));
          held = both_held n.0 flow.src flow.dst era.sboot era.dboot
              (here flow.src is_era.source is_era.right.from era.sboot (λ t. (is_era.taken t).0) (λ t. (is_era.only t).0) before.0)
              (here flow.dst is_era.end is_era.right.to era.dboot (λ t. (is_era.taken t).1) (λ t. (is_era.only t).1) before.1);
        }

  pub up_step : (w y : State arts x all) (e : Event) → Follows arts x all w e y → ((v : NodeId) → era.on v ≡ true → is_life_of v e ≡ false)
      → AllUp arts x all era flow w
      → AllUp arts x all era flow y
  up_step w y e (Follow j events journal range turn unforged) idle up = all_on w y e j range turn unforged idle up

  pub up_on : (es : List Event) (w y : State arts x all) → Goes (State arts x all) (Follows arts x all) w es y → IsFree era es → AllUp arts x all era flow w
      → AllUp arts x all era flow y
  up_on [] w y facts.Stays idle up = up
  up_on (e ∷ es) w y (facts.Steps {x = m} step g) idle up =
      up_on es m y g (λ v on. (off_first (is_life_of v e) (list_any (is_life_of v) es) (idle v on)).1)
      (up_step w m e step (λ v on. (off_first (is_life_of v e) (list_any (is_life_of v) es) (idle v on)).0) up)

  -- ---- as watched states

  pub are_up : (w : Watched arts x all era) → AllUp arts x all era flow w.at → AreUp arts x all era flow w
  are_up w up v on =
      let p = up v on in
      let life = life_of era v p.node on p.boot in
      let held = p.held in
      let least = p.version in
      let most = w.most v on p.node p.there p.boot in
      let version : p.node.live.version ≡ era.version = omega (arith, least, most) in
      record { node = p.node; there = p.there; counts = rw (life, held) refl; runs = (version, p.weights version) }

  pub calmly_on : (es : List Event) (w y : Watched arts x all era) → Goes (Watched arts x all era) (Leads arts x all era) w es y → IsFree era es
      → AllUp arts x all era flow w.at
      → ((z : Watched arts x all era) (fs : List Event) → Goes (Watched arts x all era) (Leads arts x all era) z fs y → MayPass arts x all era flow z)
      → Goes (Watched arts x all era) (Calmly arts x all era flow) w es y
  calmly_on [] w y facts.Stays idle up may = facts.Stays
  calmly_on (e ∷ es) w y (facts.Steps {x = m} step g) idle up may =
      let now = up_step w.at m.at e step (λ v on. (off_first (is_life_of v e) (list_any (is_life_of v) es) (idle v on)).0) up in
      facts.Steps (record { leads = step; before = are_up w up; after = are_up m now; passes = may w (e ∷ es) (facts.Steps step g) })
      (calmly_on es m y g (λ v on. (off_first (is_life_of v e) (list_any (is_life_of v) es) (idle v on)).1) now may)

  -- the last state is watched, where the frames of each life are counted by its end
  pub watch : HeadsReadBack arts → (y : State arts x all) → AllUp arts x all era flow y
      → ((u : NodeId) → era.on u ≡ true → (n : NodeState) → node_in y.world.nodes u ≡ Some n → n.live.version ≤ era.version)
      → ((u v : NodeId) → era.on u ≡ true → era.on v ≡ true → (n : NodeState) → node_in y.world.nodes u ≡ Some n → is_one_of (removed_now n) v ≡ false)
      → ((u v : NodeId) → era.on u ≡ true → (n : NodeState) → node_in y.world.nodes u ≡ Some n → era.early u v ≡ polls y.events u v - (link_in n v).sent)
      → ((u v : NodeId) → era.on u ≡ true → is_hop x u v ≡ true → (n : NodeState) → node_in y.world.nodes u ≡ Some n → (link_in n v).sent ≤ polls y.events u v)
      → Watched arts x all era
  watch heads y up most joined early within = record {
    at = y;
    most = λ u on n at life. most u on n at;
    joined = λ u v on v_on n at life. joined u v on v_on n at;
    latest = λ v on. let p = up v on in let last = running_boot arts x y.events y.journal y.world fits reads y.run v p.node p.there in let boot = p.boot in
        omega (arith, last, boot);
    runs = λ v on last. let p = up v on in (p.node, p.there);
    placed = λ u v on joined k bytes at life.
        let p = up u on in
        let h = heads_are arts x y.events y.journal y.world fits reads heads y.run u v joined k bytes at in
        let counter = h.head.counter_is in
        let number = h.number p.node p.there (p.boot ∙ sym life ∙ h.head.boot_is) in
        let is = early u v on p.node p.there in
        let most = within u v on joined p.node p.there in
        omega (arith, counter, number, is, most);
  }

  pub watch_is : (heads : HeadsReadBack arts) (y : State arts x all) (up : AllUp arts x all era flow y)
      (most : (u : NodeId) → era.on u ≡ true → (n : NodeState) → node_in y.world.nodes u ≡ Some n → n.live.version ≤ era.version)
      (joined : (u v : NodeId) → era.on u ≡ true → era.on v ≡ true → (n : NodeState) → node_in y.world.nodes u ≡ Some n → is_one_of (removed_now n) v ≡ false)
      (early : (u v : NodeId) → era.on u ≡ true → (n : NodeState) → node_in y.world.nodes u ≡ Some n → era.early u v ≡ polls y.events u v - (link_in n v).sent)
      (within : (u v : NodeId) → era.on u ≡ true → is_hop x u v ≡ true → (n : NodeState) → node_in y.world.nodes u ≡ Some n
      → (link_in n v).sent ≤ polls y.events u v)
      → (watch heads y up most joined early within).at ≡ y
  unfolding watch
  watch_is heads y up most joined early within = refl
