-- What one event makes of a node that is watched: nothing of its life, its start, rest, or one step of it. And what it makes of a flow there.
use Rattle.laws_runs.proofs.KeyFiles.{key_files_stand}
use Rattle.laws_runs.proofs.Signed.{signs}
use Rattle.laws_runs.specs.Signs.{Good, NodeIs}
use Rattle.std.specs.Prelude.{◌||◌}
use Rattle.std.proofs.Common.{ap₂, Bool, ◌≡◌, ◌≤◌, ◌⊎◌, ℕ, ◌==◌, ◌&&◌, true, false, List, Option, None, Some, refl, sym, ap, subst, ◌∙◌, inl, inr, arith}
use Rattle.std.proofs.lemmas.Bool.{cases_Bool, eq-eqb, eqb-true}
use Rattle.std.proofs.lemmas.Option.{same_Some}
use Rattle.sp_base.specs.declared.id.Flow.{Flow}
use Rattle.sp_base.specs.declared.id.NodeId.{NodeId}
use Rattle.sp_rules.specs.Arts.{Arts}
use Rattle.sp_rules.specs.Flow.{FlowState, no_flow}
use Rattle.sp_rules.specs.Lives.{held_boot}
use Rattle.sp_rules.specs.Node.{NodeState, extended}
use Rattle.sp_rules.specs.Parts.{Fixed}
use Rattle.sp_rules.specs.Rel.{flow_in, is_over}
use Rattle.sp_rules.specs.Steps.{Input, NodeStep, Output}
use Rattle.sp_runs.specs.Forgery.{has_forged_tag}
use Rattle.sp_runs.specs.Inputs.{acting, input_of}
use Rattle.sp_runs.specs.Journals.{Says}
use Rattle.sp_runs.specs.Lives.{next_start, ready}
use Rattle.sp_runs.specs.Runs.{Turn, next_frame}
use Rattle.sp_runs.specs.Settings.{Setting, SettingFits, node_at_start}
use Rattle.sp_runs.specs.Worlds.{World, node_in}
use Rattle.sp_journal.specs.declared.entry.Entry.{Entry}
use Rattle.sp_schedule_events.specs.declared.event.Event.{Event}
use Rattle.laws_runs.specs.Past.{holds}
use Rattle.laws_runs.specs.Premises.{Carries}
use Rattle.laws_runs.proofs.Lives.{step_stays}
use Rattle.laws_runs.proofs.Ready.{Readied, readied_is}
use Rattle.laws_runs.proofs.Running.{found_there}
use Rattle.laws_progress.proofs.Becomes.{Acts, Becomes, Begins, MovesNobody, Remains, becomes, readied_keeps}
use Rattle.laws_progress.proofs.LastBoots.{held_below, last_boot, last_rises, running_boot, held_none}
use Rattle.laws_progress.proofs.Rises.{Begins_anew, FlowLater, Goes_on, PartsGo, same_later}
use Rattle.laws_progress.proofs.StepGoes.{step_go}
use Rattle.laws_progress.proofs.States.{Era, Follow, IsEra, Leads, Watched, flow_of, flow_seen, in_era, in_life, seen_at}
use Rattle.sp_rules.specs.Parts.{flows_of}
use Rattle.laws_progress.proofs.EitherKind.{obeyed}

-- ---- reading nodes

-- the boots that count are held
pub holds_both : (n : NodeState) (s d : NodeId) (a b : ℕ) → holds n s a d b ≡ true → (held_boot n.parts.lives s ≡ a) × (held_boot n.parts.lives d ≡ b)
holds_both n s d a b is = elim (cases_Bool (held_boot n.parts.lives s == a)) [
  | inl t ↦ (eqb-true _ _ t, eqb-true _ _ (rw t at is))
  | inr t ↦ absurd (let f : false ≡ true = rw t at is in cc)
]

pub both_held : (n : NodeState) (s d : NodeId) (a b : ℕ) → held_boot n.parts.lives s ≡ a → held_boot n.parts.lives d ≡ b → holds n s a d b ≡ true
both_held n s d a b one two = let t = eq-eqb _ _ one in let z = eq-eqb _ _ two in rw (t, z) refl

pub life_is : (era : Era) (u : NodeId) (n : NodeState) → in_life era u n ≡ true → (era.on u ≡ true) × (n.fixed.boot ≡ era.life u)
life_is era u n is = elim (cases_Bool (era.on u)) [
  | inl t ↦ (t, eqb-true _ _ (rw t at is))
  | inr t ↦ absurd (let f : false ≡ true = rw t at is in cc)
]

pub life_of : (era : Era) (u : NodeId) (n : NodeState) → era.on u ≡ true → n.fixed.boot ≡ era.life u → in_life era u n ≡ true
life_of era u n on is = let t = eq-eqb _ _ is in rw (on, t) refl

pub era_is : (era : Era) (flow : Flow) (u : NodeId) (n : NodeState) → in_era era flow u n ≡ true
    → (in_life era u n ≡ true) × (holds n flow.src era.sboot flow.dst era.dboot ≡ true)
era_is era flow u n is = elim (cases_Bool (in_life era u n)) [
  | inl t ↦ (t, rw t at is)
  | inr t ↦ absurd (let f : false ≡ true = rw t at is in cc)
]

pub era_off : (era : Era) (flow : Flow) (u : NodeId) (n : NodeState) → in_life era u n ≡ false → in_era era flow u n ≡ false
era_off era flow u n off = rw off refl

-- what is read of a node in its life is nothing where it isn't
pub dark : {X : Type 0} (none : X) (read : NodeState → X) (o : Option NodeState) → ((n : NodeState) → o ≡ Some n → read n ≡ none) → seen_at none read o ≡ none
dark none read None off = refl
dark none read (Some n) off = off n refl

-- what is read of a node that is there
pub lit : {X : Type 0} (none : X) (read : NodeState → X) (o : Option NodeState) (n : NodeState) → o ≡ Some n → seen_at none read o ≡ read n
lit none read o n at = ap (seen_at none read) at

-- what asks not for the bound of its indexes is read the same where it reserved more
pub same_read : {X : Type 0} (x : Setting) (w : World) (b n : NodeState) (read : NodeState → X) → ((upto : ℕ) → read (extended b upto) ≡ read b)
    → Readied x w b n → read n ≡ read b
same_read x w b n read same is = readied_keeps x w b n (λ m. read m ≡ read b) (λ upto h. same upto) is refl

-- the flow goes on at each watched node in its life
pub not_over : (arts : Arts) (x : Setting) (all : List Event) (era : Era) → SettingFits arts x → Carries x.topology.format arts → (flow : Flow)
    → IsEra x flow era
    → (z : Watched arts x all era) (u : NodeId) (n : NodeState) → node_in z.at.world.nodes u ≡ Some n → in_life era u n ≡ true
    → is_over (flows_of era.kind n.parts).removed flow ≡ false
not_over arts x all era fits reads flow is_era z u n at life =
    let its = life_is era u n life in
    let none = λ (v : NodeId) (on : era.on v ≡ true). z.joined u v its.0 on n at its.1 in
    ap (λ gone. is_over gone flow) (obeyed era.kind n ((signs arts x z.at.events z.at.journal z.at.world fits reads z.at.run).nodes u n at).obeys)
    ∙ ap₂ (λ (a b : Bool). a || b) (none flow.src is_era.source) (none flow.dst is_era.end)

-- ---- one event

-- a step of the node u
pub record Acted (arts : Arts) (x : Setting) (all : List Event) (era : Era) (w y : Watched arts x all era) (e : Event) (u : NodeId) : Type 0 where
  pub acts : acting e ≡ u
  pub before : NodeState
  pub there : node_in w.at.world.nodes u ≡ Some before
  -- it acts as this, with the indexes that it reserved
  pub node : NodeState
  pub readied : Readied x w.at.world before node
  pub input : Input
  pub reaches : input_of arts x (ready x w.at.world e) node e ≡ Some input
  pub output : Output
  pub after : NodeState
  pub step : NodeStep arts node input output after
  pub entry : Entry
  pub journal : Says x (next_frame (ready x w.at.world e) e) output entry
  pub unforged : has_forged_tag arts x (ready x w.at.world e) node input ≡ false
  pub left : node_in y.at.world.nodes u ≡ Some after

-- no step of it: another one acts, or no node does
pub record Unmoved (arts : Arts) (x : Setting) (all : List Event) (era : Era) (w y : Watched arts x all era) (e : Event) (u : NodeId) : Type 0 where
  pub before : NodeState
  pub there : node_in w.at.world.nodes u ≡ Some before
  pub now : NodeState
  pub readied : Readied x w.at.world before now
  pub left : node_in y.at.world.nodes u ≡ Some now
  pub why : (acting e ≡ u → ⊥) ⊎ MovesNobody w.at.world e

-- what becomes of the life of u that is watched
pub data Course (arts : Arts) (x : Setting) (all : List Event) (era : Era) (w y : Watched arts x all era) (e : Event) (u : NodeId) : Type 0 where
  -- it isn't in it before nor after
  Away : ((n : NodeState) → node_in w.at.world.nodes u ≡ Some n → in_life era u n ≡ false)
      → ((n : NodeState) → node_in y.at.world.nodes u ≡ Some n → in_life era u n ≡ false)
      → Course arts x all era w y e u
  Born : x.epochs ≡ true → ((n : NodeState) → node_in w.at.world.nodes u ≡ Some n → in_life era u n ≡ false)
      → node_in y.at.world.nodes u ≡ Some (node_at_start arts x u (next_start x w.at.world u)) → Course arts x all era w y e u
  Rests : (q : Unmoved arts x all era w y e u) → in_life era u q.before ≡ true → in_life era u q.now ≡ true → Course arts x all era w y e u
  Steps : (a : Acted arts x all era w y e u) → in_life era u a.node ≡ true → in_life era u a.after ≡ true → Course arts x all era w y e u

module _ (arts : Arts) (x : Setting) (all : List Event) (era : Era) (fits : SettingFits arts x) (reads : Carries x.topology.format arts)
    (w y : Watched arts x all era) (e : Event) where
  boot_at : (z : Watched arts x all era) (u : NodeId) (n : NodeState) → node_in z.at.world.nodes u ≡ Some n → n.fixed.boot ≡ last_boot x z.at.world u
  boot_at z u n at = running_boot arts x z.at.events z.at.journal z.at.world fits reads z.at.run u n at

  node_is_of : (z : Watched arts x all era) (u : NodeId) (n : NodeState) → node_in z.at.world.nodes u ≡ Some n
      → NodeIs x (Good arts x z.at.events z.at.journal) u n
  node_is_of z u n at = (signs arts x z.at.events z.at.journal z.at.world fits reads z.at.run).nodes u n at

  -- what a node is that acts
  pub acted_is : (u : NodeId) (a : Acted arts x all era w y e u) → NodeIs x (Good arts x w.at.events w.at.journal) u a.node
  acted_is u a =
      readied_is x (Good arts x w.at.events w.at.journal) w.at.events w.at.world u a.before a.node
      (key_files_stand arts x w.at.events w.at.journal w.at.world fits w.at.run) a.there a.readied (node_is_of w u a.before a.there)

  -- whoever is in its life goes on in it
  none_now : (j : Entry) → Turn arts x w.at.world e j y.at.world → (u : NodeId) → era.on u ≡ true → node_in y.at.world.nodes u ≡ None
      → (n : NodeState) → node_in w.at.world.nodes u ≡ Some n → in_life era u n ≡ false
  none_now j turn u on none n at = elim (cases_Bool (in_life era u n)) [
    | inr off ↦ off
    | inl is ↦
        let boot = boot_at w u n at in
        let life = (life_is era u n is).1 in
        let up = last_rises arts x w.at.world e j y.at.world turn u in
        let top = y.latest u on in
        let m = y.runs u on (omega (arith, boot, life, up, top)) in
        absurd (let f : None ≡ Some m.0 = sym none ∙ m.1 in cc)
  ]

  of_one : (j : Entry) (u : NodeId) (m : NodeState) → era.on u ≡ true → node_in y.at.world.nodes u ≡ Some m → Becomes arts x w.at.world e j y.at.world u m
      → Course arts x all era w y e u
  of_one j u m on at (Remains b there readied why) =
      let same = same_read x w.at.world b m (in_life era u) (λ upto. refl) readied in
      elim (cases_Bool (in_life era u b)) [
        | inl t ↦ Rests (record { before = b; there = there; now = m; readied = readied; left = at; why = why }) t (same ∙ t)
        | inr t ↦ Away (λ n is. ap (in_life era u) (same_Some n b (sym is ∙ there)) ∙ t) (λ n is. ap (in_life era u) (same_Some n m (sym is ∙ at)) ∙ same ∙ t)
      ]
  of_one j u m on at (Acts acts b there mv readied after unforged) =
      let same = same_read x w.at.world b mv.node (in_life era u) (λ upto. refl) readied in
      let stays : in_life era u mv.after ≡ in_life era u mv.node =
      ap (λ (f : Fixed). era.on u && (f.boot == era.life u)) (step_stays arts mv.node mv.input mv.output mv.after mv.step).fixed in
      elim (cases_Bool (in_life era u b)) [
        | inl t ↦ Steps (record {
          acts = acts;
          before = b;
          there = there;
          node = mv.node;
          readied = readied;
          input = mv.input;
          reaches = mv.reaches;
          output = mv.output;
          after = mv.after;
          step = mv.step;
          entry = j;
          journal = mv.journal;
          unforged = unforged;
          left = at ∙ ap Some after;
        }) (same ∙ t) (stays ∙ same ∙ t)
        | inr t ↦ Away (λ n is. ap (in_life era u) (same_Some n b (sym is ∙ there)) ∙ t)
            (λ n is. ap (in_life era u) (same_Some n m (sym is ∙ at) ∙ after) ∙ stays ∙ same ∙ t)
      ]
  of_one j u m on at (Begins epochs is start after none) =
      Born epochs (λ n there. absurd (let f : true ≡ false = sym (found_there u n w.at.world.nodes there) ∙ none in cc)) (at ∙ ap Some after)

  pub course : Leads arts x all era w e y → (u : NodeId) → Course arts x all era w y e u
  course (Follow j events journal range turn unforged) u = elim (cases_Bool (era.on u)) [
    | inr off ↦ Away (λ n at. rw off refl) (λ n at. rw off refl)
    | inl on ↦ go on (node_in y.at.world.nodes u) refl
  ]
    where
      go : era.on u ≡ true → (o : Option NodeState) → node_in y.at.world.nodes u ≡ o → Course arts x all era w y e u
      go on None none = Away (none_now j turn u on none) (λ n at. absurd (let f : None ≡ Some n = sym none ∙ at in cc))
      go on (Some m) at =
          of_one j u m on at (becomes arts x w.at.events w.at.journal w.at.world e j y.at.world fits reads w.at.run range turn unforged u m at)

  -- ---- the flow

  module _ (flow : Flow) (is_era : IsEra x flow era) where
    -- no node holds later boots than those that count
    pub held_most : (z : Watched arts x all era) (u : NodeId) (n : NodeState) → node_in z.at.world.nodes u ≡ Some n
        → (held_boot n.parts.lives flow.src ≤ era.sboot) × (held_boot n.parts.lives flow.dst ≤ era.dboot)
    held_most z u n at = elim (cases_Bool x.epochs) [
      | inl on ↦
          let born = is_era.taken on in
          let top_s = z.latest flow.src is_era.source in
          let top_d = z.latest flow.dst is_era.end in
          let low_s = held_below arts x z.at.events z.at.journal z.at.world fits reads z.at.run u flow.src n at is_era.right.from in
          let low_d = held_below arts x z.at.events z.at.journal z.at.world fits reads z.at.run u flow.dst n at is_era.right.to in
          let a = born.0 in let b = born.1 in
          (omega (arith, top_s, low_s, a), omega (arith, top_d, low_d, b))
      | inr off ↦
          let none = held_none arts x z.at.events z.at.journal z.at.world fits reads z.at.run off u n at in
          let s = none flow.src in let d = none flow.dst in
          (omega (arith, s), omega (arith, d))
    ]

    -- the boots that count stay where they are held, and the flow goes on
    pub era_goes : (u : NodeId) (n m : NodeState) → node_in y.at.world.nodes u ≡ Some m → holds n flow.src era.sboot flow.dst era.dboot ≡ true
        → PartsGo era.kind flow n.parts m.parts
        → (holds m flow.src era.sboot flow.dst era.dboot ≡ true)
        × FlowLater (flow_in (flows_of era.kind n.parts).flows flow) (flow_in (flows_of era.kind m.parts).flows flow)
    era_goes u n m at held (Goes_on src dst later) =
        let h = holds_both n flow.src flow.dst era.sboot era.dboot held in
        (both_held m flow.src flow.dst era.sboot era.dboot (src ∙ h.0) (dst ∙ h.1), later)
    era_goes u n m at held (Begins_anew rises none views) =
        let h = holds_both n flow.src flow.dst era.sboot era.dboot held in
        let most = held_most y u m at in
        let a = h.0 in let b = h.1 in let c = most.0 in let d = most.1 in
        absurd (elim rises [ inl up ↦ omega (arith, up, a, c) | inr up ↦ omega (arith, up, b, d) ])

    none_later : (f : FlowState) → FlowLater (no_flow flow) f
    none_later f = record { base = omega arith; have = omega arith; active = λ on. absurd (let z : false ≡ true = on in cc); taken = omega arith }

    pub step_flow : (u : NodeId) (n m : NodeState) → node_in y.at.world.nodes u ≡ Some m → in_life era u n ≡ true → in_life era u m ≡ true
        → PartsGo era.kind flow n.parts m.parts
        → FlowLater (flow_of era flow u n) (flow_of era flow u m)
    step_flow u n m at first second go = elim (cases_Bool (holds n flow.src era.sboot flow.dst era.dboot)) [
      | inl held ↦ let it = era_goes u n m at held go in let now = it.0 in rw (first, held, second, now) it.1
      | inr not ↦ rw (first, not) (none_later (flow_of era flow u m))
    ]

    pub flow_later : Leads arts x all era w e y → (u : NodeId) → FlowLater (flow_seen arts x all era flow w u) (flow_seen arts x all era flow y u)
    flow_later leads u = go (course leads u)
      where
        off : (z : Watched arts x all era) → ((n : NodeState) → node_in z.at.world.nodes u ≡ Some n → in_life era u n ≡ false)
            → flow_seen arts x all era flow z u ≡ no_flow flow
        off z away = dark (no_flow flow) (flow_of era flow u) (node_in z.at.world.nodes u) (λ n at. let t = era_off era flow u n (away n at) in rw t refl)

        go : Course arts x all era w y e u → FlowLater (flow_seen arts x all era flow w u) (flow_seen arts x all era flow y u)
        go (Away before after) = subst (λ f. FlowLater f (flow_seen arts x all era flow y u)) (sym (off w before)) (none_later _)
        go (Born on before at) = subst (λ f. FlowLater f (flow_seen arts x all era flow y u)) (sym (off w before)) (none_later _)
        go (Rests q first second) =
            let was = lit (no_flow flow) (flow_of era flow u) (node_in w.at.world.nodes u) q.before q.there in
            let is = lit (no_flow flow) (flow_of era flow u) (node_in y.at.world.nodes u) q.now q.left in
            let same = same_read x w.at.world q.before q.now (flow_of era flow u) (λ upto. refl) q.readied in
            subst (λ f. FlowLater f (flow_seen arts x all era flow y u)) (sym was)
            (subst (FlowLater (flow_of era flow u q.before)) (sym (is ∙ same)) (same_later _))
        go (Steps a first second) =
            let was = lit (no_flow flow) (flow_of era flow u) (node_in w.at.world.nodes u) a.before a.there in
            let is = lit (no_flow flow) (flow_of era flow u) (node_in y.at.world.nodes u) a.after a.left in
            let same = same_read x w.at.world a.before a.node (flow_of era flow u) (λ upto. refl) a.readied in
            subst (λ f. FlowLater f (flow_seen arts x all era flow y u)) (same ∙ sym was)
            (subst (FlowLater (flow_of era flow u a.node)) (sym is) (step_flow u a.node a.after a.left first second
            (step_go era.kind flow arts a.node a.input a.output a.after a.step (not_over arts x all era fits reads flow is_era y u a.after a.left second))))
