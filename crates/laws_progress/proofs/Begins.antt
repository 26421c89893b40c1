-- Each state is led to from a start at which no frame was made, and none heard; and where it is watched, each on the way is.
use Rattle.laws_node.proofs.Tables.{cond_either}
use Rattle.laws_node.specs.Story.{journal}
use Rattle.laws_progress.proofs.Adopting as adopting
use Rattle.laws_node.specs.Withdrawals.{removed_now}
use Rattle.laws_progress.proofs.Becomes.{Acts, Becomes, Begins, Remains, becomes, start_fixed}
use Rattle.laws_progress.proofs.LastBoots.{last_boot, last_rises, running_boot, start_boot}
use Rattle.laws_progress.proofs.Made.{FramesTurn, Leaves, Makes, Misses, frames_turn}
use Rattle.laws_progress.proofs.Places.{get_front}
use Rattle.laws_progress.proofs.States.{Era, Leads, Watched, has_met, heard_of, in_era, knows_life, numbered, seen_at, sight, view_at, Follow, Follows, State}
use Rattle.laws_runs.specs.Premises.{Carries}
use Rattle.sp_rules.specs.Polls.{frame_to}
use Rattle.sp_rules.specs.Rel.{View, is_one_of, is_peer, is_view, new_peer, no_view, pairs_of, peer_in, view_in}
use Rattle.sp_runs.specs.Runs.{polls, Clean, Starts, Turned}
use Rattle.sp_runs.specs.Settings.{SettingFits, Setting, fixed_of, link_keys}
use Rattle.sp_runs.specs.Worlds.{frames_in, World, at_start, node_in}
use Rattle.std.proofs.Common.{◌∙◌, Bool, arith, cond, false, true, ◌&&◌, ◌+◌, ◌≡◌, ℕ, List, [], ◌∷◌, ◌++◌, map, zip, Option, Some, None, refl, sym, ap}
use Rattle.std.proofs.Common.{subst, inl, inr}
use Rattle.std.proofs.lemmas.Option.{slice_get_within}
use Rattle.std.specs.Prelude.{slice_get}
use Rattle.std.proofs.lemmas.Bool.{cases_Bool}
use Rattle.std.proofs.lemmas.List.{append_assoc}
use Rattle.sp_base.specs.Rows.{first_where}
use Rattle.sp_base.specs.declared.id.EdgeId.{EdgeId}
use Rattle.sp_base.specs.declared.id.Flow.{Flow}
use Rattle.sp_base.specs.declared.id.NodeId.{NodeId}
use Rattle.sp_rules.specs.Arts.{Arts}
use Rattle.sp_rules.specs.Link.{new_link}
use Rattle.sp_rules.specs.Node.{NodeState, is_link, link_in, link_of}
use Rattle.sp_rules.specs.Parts.{Fixed, neighbours_of, nodes_of}
use Rattle.sp_journal.specs.declared.entry.Entry.{Entry}
use Rattle.sp_schedule_events.specs.declared.event.Event.{Event}
use Rattle.laws_progress.proofs.Facts as facts
use Rattle.laws_progress.proofs.Facts.{Goes, Steps}
use Rattle.laws_progress.proofs.Hops.{IsFresh}
use Rattle.laws_progress.proofs.Rows.{at_boot, near}
use Rattle.laws_progress.proofs.Sweeps.{joined}
use Rattle.laws_progress.proofs.Wires.{wires}
use Rattle.sp_rules.specs.Parts.{flows_of, as_neighbour}
use Rattle.sp_rules.specs.declared.kflow.FlowKind.{FlowKind}
use Rattle.sp_rules.specs.declared.kflow.FlowKind.TheVariants.{Plain, Paths}
use Rattle.sp_rules.specs.declared.prio.Neighbour.{Neighbour}
use Rattle.sp_runs.specs.Settings.{node_at_boot}

none_seen : (f : Fixed) (u v : NodeId) (zs : List ((NodeId × EdgeId) × List ℕ))
    → (first_where (is_link v) (new_link u v 0 []) (map (link_of f) zs)).seen ≡ (0, 0)
none_seen f u v [] = refl
none_seen f u v (z ∷ zs) = elim (cases_Bool (is_link v (link_of f z))) [
  | inl t ↦ rw t refl
  | inr t ↦ rw t (none_seen f u v zs)
]

pub boot_seen : (x : Setting) (u v : NodeId) (n : NodeState) → node_in (at_start x).nodes u ≡ Some n → (link_in n v).seen ≡ (0, 0)
boot_seen x u v n at =
    let is = at_boot x u n at in
    ap (λ (m : NodeState). (link_in m v).seen) is ∙ none_seen (fixed_of x u) u v (zip (neighbours_of (fixed_of x u)) (link_keys x u))

none_view : (flows : List Flow) (flow : Flow) → ((view_in (map no_view flows) flow).base ≡ 0) × ((view_in (map no_view flows) flow).have ≡ 0)
none_view [] flow = (refl, refl)
none_view (f ∷ flows) flow = elim (cases_Bool (is_view flow (no_view f))) [
  | inl t ↦ rw t (refl, refl)
  | inr t ↦ rw t (none_view flows flow)
]

none_peer : (flows : List Flow) (v : NodeId) (flow : Flow) (us : List NodeId)
    → ((view_in (peer_in (map (new_peer flows) us) v).views flow).base ≡ 0) × ((view_in (peer_in (map (new_peer flows) us) v).views flow).have ≡ 0)
none_peer flows v flow [] = (refl, refl)
none_peer flows v flow (u ∷ us) = elim (cases_Bool (is_peer v (new_peer flows u))) [
  | inl t ↦ rw t (none_view flows flow)
  | inr t ↦ rw t (none_peer flows v flow us)
]

boot_view : (kind : FlowKind) (x : Setting) (u v : NodeId) (flow : Flow) (n : NodeState) → node_in (at_start x).nodes u ≡ Some n
    → ((view_in (peer_in (flows_of kind n.parts).peers v).views flow).base ≡ 0) × ((view_in (peer_in (flows_of kind n.parts).peers v).views flow).have ≡ 0)
boot_view kind x u v flow n at =
    let is = at_boot x u n at in
    subst (λ (m : NodeState). ((view_in (peer_in (flows_of kind m.parts).peers v).views flow).base ≡ 0)
    × ((view_in (peer_in (flows_of kind m.parts).peers v).views flow).have ≡ 0))
    (sym is)
    (of_kind kind)
  where
    of_kind : (kind : FlowKind)
        → ((view_in (peer_in (flows_of kind (node_at_boot x u).parts).peers v).views flow).base ≡ 0)
        × ((view_in (peer_in (flows_of kind (node_at_boot x u).parts).peers v).views flow).have ≡ 0)
    of_kind Plain = none_peer (pairs_of (nodes_of x.topology)) v flow (near x u)
    of_kind Paths = none_peer (pairs_of (nodes_of x.topology)) v flow (map (λ (n : Neighbour). n.id) (map as_neighbour (neighbours_of (fixed_of x u))))

pub record BegunAt (arts : Arts) (x : Setting) (all : List Event) (w : State arts x all) : Type 0 where
  pub first : State arts x all
  pub events : List Event
  pub goes : Goes (State arts x all) (Follows arts x all) first events w
  pub none : first.events ≡ []
  pub start : first.world ≡ at_start x

begun : (arts : Arts) (x : Setting) (all : List Event) (es : List Event) (js : List Entry) (w : World) (run : Clean arts x es js w) (rest : List Event)
    (whole : all ≡ es ++ rest)
    → BegunAt arts x all (record { events = es; journal = js; world = w; run = run; rest = rest; whole = whole })
begun arts x all es js w Starts rest whole = record {
  first = record { events = []; journal = []; world = at_start x; run = Starts; rest = rest; whole = whole };
  events = [];
  goes = facts.Stays;
  none = refl;
  start = refl;
}
begun arts x all es js w (Turned {es = es'} {js = js'} {old = old} {e = e} {j = j} run range turn unforged) rest whole =
    let before = begun arts x all es' js' old run (e ∷ rest) (whole ∙ append_assoc es' (e ∷ []) rest) in
    record {
      first = before.first;
      events = before.events ++ e ∷ [];
      goes = joined (State arts x all) (Follows arts x all) before.events (e ∷ []) before.first _ _ before.goes
          (Steps (Follow j refl refl range turn unforged) facts.Stays);
      none = before.none;
      start = before.start;
    }

pub begins : (arts : Arts) (x : Setting) (all : List Event) (w : State arts x all) → BegunAt arts x all w
begins arts x all w = begun arts x all w.events w.journal w.world w.run w.rest w.whole

-- ---- where a state is watched, so is each before it

kept_place : (arts : Arts) (old : World) (e : Event) (new : World) (u v : NodeId) (k : ℕ) (bytes : List ℕ) → FramesTurn arts old e new u v
    → slice_get (frames_in old.directions u v) k ≡ Some (Some bytes) → slice_get (frames_in new.directions u v) k ≡ Some (Some bytes)
kept_place arts old e new u v k bytes (Makes on b there is) at =
    ap (λ fs. slice_get fs k) is
    ∙ get_front (frames_in old.directions u v) (Some (frame_to arts b v) ∷ []) k (slice_get_within (frames_in old.directions u v) k (Some bytes) at) ∙ at
kept_place arts old e new u v k bytes (Misses on down is) at =
    ap (λ fs. slice_get fs k) is ∙ get_front (frames_in old.directions u v) (None ∷ []) k (slice_get_within (frames_in old.directions u v) k (Some bytes) at)
    ∙ at
kept_place arts old e new u v k bytes (Leaves off is) at = ap (λ fs. slice_get fs k) is ∙ at

ran_before : (arts : Arts) (x : Setting) (old : World) (e : Event) (j : Entry) (new : World) (u : NodeId) (n : NodeState) → Becomes arts x old e j new u n
    → (n.fixed.boot ≡ last_boot x old u + 1 → ⊥) → (b : NodeState) × (node_in old.nodes u ≡ Some b)
ran_before arts x old e j new u n (Remains b at readied why) never = (b, at)
ran_before arts x old e j new u n (Acts acts b at m readied after none) never = (b, at)
ran_before arts x old e j new u n (Begins on is start after none) never =
    absurd (never (ap (λ (q : NodeState). q.fixed.boot) after ∙ ap (λ (f : Fixed). f.boot) (start_fixed arts x u old on) ∙ start_boot x old u on))

module _ (arts : Arts) (x : Setting) (all : List Event) (era : Era) (fits : SettingFits arts x) (reads : Carries x.topology.format arts) where
  watched_before : (z : State arts x all) (e : Event) (y : Watched arts x all era) → Follows arts x all z e y.at → Watched arts x all era
  watched_before z e y (Follow j events journal range turn unforged) = record {
    at = z;
    most = λ u on n at life.
        let later = still_there u on n at life in
        let low = later.2.version in
        let top = y.most u on later.0 later.1.0 later.1.1 in
        omega (arith, low, top);
    joined = λ u v on v_on n at life. elim (cases_Bool (is_one_of (removed_now n) v)) [
      | inr off ↦ off
      | inl gone ↦
          let later = still_there u on n at life in
          absurd (let f : true ≡ false = sym (later.2.removed v gone) ∙ y.joined u v on v_on later.0 later.1.0 later.1.1 in cc)
    ];
    latest = λ v on. let up = last_rises arts x z.world e j y.at.world turn v in let top = y.latest v on in omega (arith, up, top);
    runs = λ v on last.
        let up = last_rises arts x z.world e j y.at.world turn v in
        let top = y.latest v on in
        let n = y.runs v on (omega (arith, up, top, last)) in
        let boot = running_boot arts x y.at.events y.at.journal y.at.world fits reads y.at.run v n.0 n.1 in
        ran_before arts x z.world e j y.at.world v n.0
        (becomes arts x z.events z.journal z.world e j y.at.world fits reads z.run range turn unforged v n.0 n.1)
        (λ later. omega (arith, later, boot, last, top));
    placed = λ u v on joined k bytes at life. y.placed u v on joined k bytes
        (kept_place arts z.world e y.at.world u v k bytes (frames_turn arts x z.world e j y.at.world turn u v) at) life;
  }
    where
      -- a node in its life is there after the event, in the same life
      still_there : (u : NodeId) → era.on u ≡ true → (n : NodeState) → node_in z.world.nodes u ≡ Some n → n.fixed.boot ≡ era.life u
          → (m : NodeState) × ((node_in y.at.world.nodes u ≡ Some m) × (m.fixed.boot ≡ era.life u)) × adopting.Follows n m
      still_there u on n at life =
          let first = running_boot arts x z.events z.journal z.world fits reads z.run u n at in
          let up = last_rises arts x z.world e j y.at.world turn u in
          let top = y.latest u on in
          let last : last_boot x y.at.world u ≡ era.life u = omega (arith, first, life, up, top) in
          let m = y.runs u on last in
          let boot = running_boot arts x y.at.events y.at.journal y.at.world fits reads y.at.run u m.0 m.1 in (
            m.0,
            (m.1, boot ∙ last),
            adopting.node_follows arts x z.events z.journal z.world y.at.world e j fits reads z.run u n m.0 at
                (becomes arts x z.events z.journal z.world e j y.at.world fits reads z.run range turn unforged u m.0 m.1),
          )

  before_is : (z : State arts x all) (e : Event) (y : Watched arts x all era) (step : Follows arts x all z e y.at) → (watched_before z e y step).at ≡ z
  unfolding watched_before
  before_is z e y (Follow j events journal range turn unforged) = refl

  pub record Lifted (es : List Event) (z : State arts x all) (y : Watched arts x all era) : Type 0 where
    pub first : Watched arts x all era
    pub is : first.at ≡ z
    pub goes : Goes (Watched arts x all era) (Leads arts x all era) first es y

  pub lifted : (es : List Event) (z y : State arts x all) → Goes (State arts x all) (Follows arts x all) z es y → (yw : Watched arts x all era) → yw.at ≡ y
      → Lifted es z yw
  lifted [] z y facts.Stays yw is = record { first = yw; is = is; goes = facts.Stays }
  lifted (e ∷ es) z y (Steps {x = mid} step g) yw is =
      let rest = lifted es mid y g yw is in
      let step2 : Follows arts x all z e rest.first.at = subst (λ (s : State arts x all). Follows arts x all z e s) (sym rest.is) step in
      let w = watched_before z e rest.first step2 in
      let w_is = before_is z e rest.first step2 in
      record {
        first = w;
        is = w_is;
        goes = Steps (subst (λ (s : State arts x all). Follows arts x all s e rest.first.at) (sym w_is) step2) rest.goes;
      }

  -- ---- nothing was made or heard at the start

  module _ (flow : Flow) where
    heard_none : (u v : NodeId) (o : Option NodeState) → node_in (at_start x).nodes v ≡ o → seen_at 0 (heard_of era v u) o ≡ 0
    heard_none u v None at = refl
    heard_none u v (Some n) at =
        let seen = ap (λ (p : ℕ × ℕ). p.1) (boot_seen x v u n at) in
        ap (λ c. cond (knows_life era v u n) (numbered (era.early u v) c) 0) seen ∙ either (knows_life era v u n)
      where
        either : (t : Bool) → (let z : ℕ = cond t 0 0 in z) ≡ 0
        either true = refl
        either false = refl

    view_none : (u v : NodeId) (o : Option NodeState) → node_in (at_start x).nodes v ≡ o
        → ((seen_at (no_view flow) (view_at x era flow v u) o).base ≡ 0) × ((seen_at (no_view flow) (view_at x era flow v u) o).have ≡ 0)
    view_none u v None at = (refl, refl)
    view_none u v (Some n) at =
        let view = boot_view era.kind x v u flow n at in
        cond_either (λ (z : View). (z.base ≡ 0) × (z.have ≡ 0)) (in_era era flow v n && has_met x era u n)
        (view_in (peer_in (flows_of era.kind n.parts).peers u).views flow)
        (no_view flow)
        (view.0, view.1) (refl, refl)

    pub fresh_start : (w : Watched arts x all era) → w.at.events ≡ [] → w.at.world ≡ at_start x → (u v : NodeId)
        → IsFresh (Watched arts x all era) (sight arts x all era flow) (wires arts x all era flow) w u v
    fresh_start w none start u v =
        let nodes = ap (λ (z : World). node_in z.nodes v) start in
        let view = view_none u v (node_in (at_start x).nodes v) refl in
        record {
          polled = ap (λ es. polls es u v) none;
          seen = ap (seen_at 0 (heard_of era v u)) nodes ∙ heard_none u v (node_in (at_start x).nodes v) refl;
          view_base = ap (λ o. (seen_at (no_view flow) (view_at x era flow v u) o).base) nodes ∙ view.0;
          view_have = ap (λ o. (seen_at (no_view flow) (view_at x era flow v u) o).have) nodes ∙ view.1;
        }
