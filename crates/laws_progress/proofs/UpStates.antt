-- The states of an interval of a run in which some nodes stay up, and what each event makes of one of them: it stays, or makes a step.
use Rattle.std.proofs.Common.{◌≡◌, ◌⊎◌, ◌||◌, Bool, true, false, List, [], ◌∷◌, Some, refl, sym, ap, ◌∙◌, inl, inr, subst, ℕ, arith}
use Rattle.std.specs.Prelude.{IsTrue}
use Rattle.std.specs.List.{list_any}
use Rattle.std.proofs.lemmas.Bool.{eq-eqb}
use Rattle.sp_base.specs.declared.id.NodeId.{NodeId}
use Rattle.sp_rules.specs.Arts.{Arts}
use Rattle.sp_rules.specs.Node.{NodeState}
use Rattle.sp_rules.specs.Steps.{Input, NodeStep, Output}
use Rattle.sp_runs.specs.Forgery.{has_forged_tag}
use Rattle.sp_runs.specs.Inputs.{acting, input_of}
use Rattle.sp_runs.specs.Journals.{Says}
use Rattle.sp_runs.specs.Lives.{ready}
use Rattle.sp_runs.specs.Runs.{next_frame}
use Rattle.sp_runs.specs.Settings.{Setting, SettingFits, is_correct}
use Rattle.sp_runs.specs.Worlds.{World, node_in}
use Rattle.sp_journal.specs.declared.entry.Entry.{Entry}
use Rattle.sp_schedule_events.specs.declared.event.Event.{Event}
use Rattle.laws_runs.specs.Premises.{Carries, ComesThrough}
use Rattle.laws_runs.proofs.Ready.{Readied}
use Rattle.laws_progress.specs.Calm.{is_life_of}
use Rattle.laws_progress.proofs.Becomes.{Acts, Becomes, Begins, MovesNobody, Remains, becomes, readied_keeps, runs_on}
use Rattle.laws_progress.proofs.Adopting as adopting
use Rattle.laws_progress.proofs.Facts.{Goes, Stays, Steps}
use Rattle.laws_progress.proofs.States.{Follow, Follows, State}
use Rattle.laws_progress.proofs.Versions.{Under}
use Rattle.std.proofs.lemmas.Option.{same_Some}

-- ---- a node that no event starts or stops runs on

pub off_first : (a b : Bool) → (a || b) ≡ false → (a ≡ false) × (b ≡ false)
off_first true b off = absurd (let f : true ≡ false = off in cc)
off_first false b off = (refl, off)

-- it runs on, and its version doesn't fall
pub record RunsOn (arts : Arts) (x : Setting) (all : List Event) (y : State arts x all) (u : NodeId) (n : NodeState) : Type 0 where
  pub node : NodeState
  pub there : node_in y.world.nodes u ≡ Some node
  pub later : adopting.Follows n node

run_on : (arts : Arts) (x : Setting) (all : List Event) → SettingFits arts x → Carries x.topology.format arts → (w y : State arts x all) (e : Event)
    → Follows arts x all w e y → (u : NodeId) → is_life_of u e ≡ false → (n : NodeState) → node_in w.world.nodes u ≡ Some n → RunsOn arts x all y u n
run_on arts x all fits carries w y e (Follow j events journal range turn unforged) u quiet n at =
    let m = runs_on arts x w.events w.journal w.world e j y.world fits carries w.run turn u quiet n at in
    record {
      node = m.0;
      there = m.1;
      later = adopting.node_follows arts x w.events w.journal w.world y.world e j fits carries w.run u n m.0 at
          (becomes arts x w.events w.journal w.world e j y.world fits carries w.run range turn unforged u m.0 m.1);
    }

pub runs_through : (arts : Arts) (x : Setting) (all : List Event) → SettingFits arts x → Carries x.topology.format arts → (es : List Event)
    (w y : State arts x all) → Goes (State arts x all) (Follows arts x all) w es y → (u : NodeId) → list_any (is_life_of u) es ≡ false
    → (n : NodeState) → node_in w.world.nodes u ≡ Some n → RunsOn arts x all y u n
runs_through arts x all fits carries [] w y Stays u quiet n at = record { node = n; there = at; later = adopting.same_follows n }
runs_through arts x all fits carries (e ∷ es) w y (Steps {x = m} step g) u quiet n at =
    let off = off_first (is_life_of u e) (list_any (is_life_of u) es) quiet in
    let first = run_on arts x all fits carries w m e step u off.0 n at in
    let rest = runs_through arts x all fits carries es m y g u off.1 first.node first.there in
    record { node = rest.node; there = rest.there; later = adopting.then_follows n first.node rest.node first.later rest.later }

-- ---- the states of an interval

-- what holds of a node that runs on, if it holds before and after
abbrev pub Between : (NodeState → Type 0) → Type 0
Between Holds = (n m q : NodeState) → Holds n → adopting.Follows n m → adopting.Follows m q → Holds q → Holds m

-- a run of these events, and correct nodes that stay up in an interval of it, of each of which something holds meanwhile
pub record Interval : Type 1 where
  pub arts : Arts
  pub x : Setting
  pub all : List Event
  pub Up : NodeId → Type 0
  pub fits : SettingFits arts x
  pub reads : ComesThrough x.topology.format arts x.signature_len
  pub Holds : NodeState → Type 0
  pub between : Between Holds
  pub correct : (u : NodeId) → Up u → IsTrue (is_correct x u)

-- a state in which each of these nodes runs, and that holds of it
pub record UpState (c : Interval) : Type 0 where
  pub state : State c.arts c.x c.all
  pub runs : (u : NodeId) → c.Up u → (n : NodeState) × (node_in state.world.nodes u ≡ Some n)
  pub holds : (u : NodeId) → c.Up u → (n : NodeState) → node_in state.world.nodes u ≡ Some n → c.Holds n

-- one event leads from one to the next, which starts and stops none of them
pub record UpNext (c : Interval) (w : UpState c) (e : Event) (y : UpState c) : Type 0 where
  pub follows : Follows c.arts c.x c.all w.state e y.state
  pub calm : (u : NodeId) → c.Up u → is_life_of u e ≡ false

-- ---- an interval in which none of them starts or stops

pub record UpTo (c : Interval) (w : UpState c) (es : List Event) (y : State c.arts c.x c.all) : Type 0 where
  pub last : UpState c
  pub is : last.state ≡ y
  pub goes : Goes (UpState c) (UpNext c) w es last

pub up_to : (c : Interval) (es : List Event) (w : UpState c) (y : State c.arts c.x c.all)
    → Goes (State c.arts c.x c.all) (Follows c.arts c.x c.all) w.state es y
    → ((u : NodeId) → c.Up u → list_any (is_life_of u) es ≡ false)
    → ((u : NodeId) → c.Up u → (n : NodeState) → node_in y.world.nodes u ≡ Some n → c.Holds n) → UpTo c w es y
up_to c [] w y Stays calm last = record { last = w; is = refl; goes = Stays }
up_to c (e ∷ es) w y (Steps {x = m} step g) calm last =
    let off = λ (u : NodeId) (up : c.Up u). off_first (is_life_of u e) (list_any (is_life_of u) es) (calm u up) in
    let on = λ (u : NodeId) (up : c.Up u). run_on c.arts c.x c.all c.fits c.reads.carries w.state m e step u (off u up).0 (w.runs u up).0 (w.runs u up).1 in
    let mid : UpState c = record {
      state = m;
      runs = λ u up. ((on u up).node, (on u up).there);
      holds = λ u up n at.
          let one = on u up in
          let two = runs_through c.arts c.x c.all c.fits c.reads.carries es m y g u (off u up).1 one.node one.there in
          subst c.Holds (same_Some one.node n (sym one.there ∙ at))
          (c.between (w.runs u up).0 one.node two.node (w.holds u up (w.runs u up).0 (w.runs u up).1) one.later two.later (last u up two.node two.there));
    } in
    let rest = up_to c es mid y g (λ u up. (off u up).1) last in
    let next : UpNext c w e mid = record { follows = step; calm = λ u up. (off u up).0 } in
    record { last = rest.last; is = rest.is; goes = Steps {x = mid} next rest.goes }

-- ---- what an event makes of one of them

-- a step of a node
pub record StepOf (arts : Arts) (x : Setting) (w : World) (e : Event) (u : NodeId) (n m : NodeState) : Type 0 where
  pub acts : acting e ≡ u
  pub input : Input
  pub reaches : input_of arts x (ready x w e) n e ≡ Some input
  pub output : Output
  pub step : NodeStep arts n input output m
  -- under the version that it ran under
  pub entry : Entry
  pub journal : Says x (next_frame (ready x w e) e) output entry
  pub unforged : has_forged_tag arts x (ready x w e) n input ≡ false

-- the node before the event, after it reserved indexes where it is short of them, and after the event
pub record Took (arts : Arts) (x : Setting) (w y : World) (e : Event) (u : NodeId) : Type 0 where
  pub before : NodeState
  pub there : node_in w.nodes u ≡ Some before
  pub node : NodeState
  pub readied : Readied x w before node
  pub after : NodeState
  pub left : node_in y.nodes u ≡ Some after
  pub how : ((after ≡ node) × ((acting e ≡ u → ⊥) ⊎ MovesNobody w e)) ⊎ StepOf arts x w e u node after

pub took : (c : Interval) (w y : UpState c) (e : Event) → UpNext c w e y → (u : NodeId) → c.Up u → Took c.arts c.x w.state.world y.state.world e u
took c w y e next u up = go next.follows
  where
    of : (j : Entry) (m : NodeState) → node_in y.state.world.nodes u ≡ Some m → Becomes c.arts c.x w.state.world e j y.state.world u m
        → Took c.arts c.x w.state.world y.state.world e u
    of j m at (Remains b there readied idle) =
        record { before = b; there = there; node = m; readied = readied; after = m; left = at; how = inl (refl, idle) }
    of j m at (Acts acts b there q readied is unforged) = record {
      before = b;
      there = there;
      node = q.node;
      readied = readied;
      after = q.after;
      left = at ∙ ap (λ (n : NodeState). Some n) is;
      how = inr (record {
        acts = acts;
        input = q.input;
        reaches = q.reaches;
        output = q.output;
        step = q.step;
        entry = j;
        journal = q.journal;
        unforged = unforged;
      });
    }
    of j m at (Begins on is start first none) =
        absurd (let wrong : true ≡ false = sym (ap (is_life_of u) is ∙ eq-eqb u.0 u.0 refl) ∙ next.calm u up in cc)

    go : Follows c.arts c.x c.all w.state e y.state → Took c.arts c.x w.state.world y.state.world e u
    go (Follow j events journal range turn unforged) =
        let m = y.runs u up in
        of j m.0 m.1
        (becomes c.arts c.x w.state.events w.state.journal w.state.world e j y.state.world c.fits c.reads.carries w.state.run range turn unforged u m.0 m.1)

-- ---- where nodes run with epochs, and these under one version

pub record IsTelling (c : Interval) : Type 0 where
  pub epochs : c.x.epochs ≡ true
  pub version : ℕ
  pub weights : List ℕ
  pub under : (n : NodeState) → c.Holds n → Under version weights n

-- between two states under the version each is
pub stays_under : (version : ℕ) (weights : List ℕ) → Between (Under version weights)
stays_under version weights n m q first one two last =
    let a = one.version in
    let b = two.version in
    let was = first.0 in
    let is = last.0 in
    (omega (arith, a, b, was, is), one.live (omega (arith, a, b, was, is)) ∙ first.1)

-- a step is made under the version that its node ran under
pub keeps_at : (c : Interval) → IsTelling c → (w y : UpState c) (e : Event) (u : NodeId) → c.Up u
    → (t : Took c.arts c.x w.state.world y.state.world e u) → t.after.live.version ≡ t.node.live.version
keeps_at c telling w y e u up t =
    (telling.under t.after (y.holds u up t.after t.left)).0
    ∙ sym (readied_keeps c.x w.state.world t.before t.node (λ n. n.live.version ≡ telling.version) (λ upto h. h) t.readied
    (telling.under t.before (w.holds u up t.before t.there)).0)
