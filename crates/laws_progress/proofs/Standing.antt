-- What stands of a flow in each state, and which flows are active.
use Rattle.sp_runs.specs.Runs.{Clean}
use Rattle.laws_node.specs.Sizes.{Sizes}
use Rattle.sp_journal.specs.declared.entry.Entry.{Entry}
use Rattle.std.proofs.Common.{◌≡◌, ◌≤◌, ◌<◌, ℕ, zero, suc, ◌+◌, ◌==◌, ◌&&◌, Bool, true, false, cond, List, [], ◌∷◌, map, Option, Some, None, refl, sym, ap}
use Rattle.std.proofs.Common.{subst, ◌∙◌, inl, inr, arith, eqb-true}
use Rattle.std.specs.Prelude.{slice_get}
use Rattle.std.proofs.lemmas.Bool.{cases_Bool}
use Rattle.sp_base.specs.declared.id.Flow.{Flow}
use Rattle.sp_base.specs.declared.id.NodeId.{NodeId}
use Rattle.sp_rules.specs.Arts.{Arts}
use Rattle.sp_rules.specs.Flow.{FlowState, IsStanding, ends, is_flow, no_flow}
use Rattle.sp_rules.specs.Node.{NodeState}
use Rattle.sp_rules.specs.Parts.{nodes_of}
use Rattle.sp_rules.specs.Rel.{flow_in, pairs_of, RelState}
use Rattle.laws_node.specs.Flows.{FlowHolds, RelHolds}
use Rattle.laws_node.proofs.Reliable.{found}
use Rattle.laws_node.proofs.Tables.{all_get}
use Rattle.sp_runs.specs.Settings.{Setting, SettingFits}
use Rattle.sp_runs.specs.Worlds.{node_in, World}
use Rattle.sp_schedule_events.specs.declared.event.Event.{Event}
use Rattle.laws_runs.specs.Premises.{Carries}
use Rattle.laws_runs.specs.Signs.{Good, sizes_at}
use Rattle.laws_runs.proofs.Signed.{signs}
use Rattle.laws_runs.proofs.Lists.{both}
use Rattle.laws_runs.proofs.Tables.{same_node}
use Rattle.laws_node.proofs.Tables.{cond_either}
use Rattle.laws_progress.proofs.States.{Era, IsEra, Leads, Watched, actives_of, flow_of, flow_seen, in_era, seen_at, sight}
use Rattle.laws_progress.proofs.Service.{is_on}
use Rattle.laws_progress.proofs.Changes.{flow_later}
use Rattle.sp_rules.specs.Parts.{flows_of}
use Rattle.sp_rules.specs.declared.kflow.FlowKind.{FlowKind}
use Rattle.laws_node.proofs.FlowKinds.{flows_hold}

-- ---- a node that is seen

pub rel_of : (kind : FlowKind) (arts : Arts) (x : Setting) (es : List Event) (js : List Entry) (w : World) → SettingFits arts x → Carries x.topology.format arts
    → Clean arts x es js w
    → (u : NodeId) (n : NodeState) → node_in w.nodes u ≡ Some n → RelHolds kind (sizes_at x (Good arts x es js) u) n.signer.index (flows_of kind n.parts)
rel_of kind arts x es js w fits reads run u n at =
    flows_hold kind (sizes_at x (Good arts x es js) u) n.parts ((signs arts x es js w fits reads run).nodes u n at).holds.parts

-- what is read of rows is a row, or nothing
pub first_is : (P : FlowState → Type 0) (flow : Flow) (fs : List FlowState) → P (no_flow flow) → ((i : ℕ) (f : FlowState) → slice_get fs i ≡ Some f → P f)
    → P (flow_in fs flow)
first_is P flow [] none each = none
first_is P flow (f ∷ fs) none each = elim (cases_Bool (is_flow flow f)) [
  | inl t ↦ rw t (each 0 f refl)
  | inr t ↦ rw t (first_is P flow fs none (λ i g at. each (suc i) g at))
]

pub seen_stands : (arts : Arts) (x : Setting) (all : List Event) (era : Era) (flow : Flow) → SettingFits arts x → Carries x.topology.format arts
    → (P : FlowState → Type 0) → P (no_flow flow)
    → ((me : NodeId) (f : FlowState) → IsStanding me x.buffer f → P f) → (w : Watched arts x all era) (u : NodeId) → P (flow_seen arts x all era flow w u)
seen_stands arts x all era flow fits reads P none each w u = go (node_in w.at.world.nodes u) refl
  where
    go : (o : Option NodeState) → node_in w.at.world.nodes u ≡ o → P (seen_at (no_flow flow) (flow_of era flow u) o)
    go None e = none
    go (Some n) e =
        let k = sizes_at x (Good arts x w.at.events w.at.journal) u in
        let rel = rel_of era.kind arts x w.at.events w.at.journal w.at.world fits reads w.at.run u n e in
        cond_either P (in_era era flow u n) (flow_in (flows_of era.kind n.parts).flows flow) (no_flow flow)
        (first_is P flow (flows_of era.kind n.parts).flows none
        (λ i f at. each u f (all_get (FlowHolds era.kind k n.signer.index) (flows_of era.kind n.parts).flows i f rel.flows at).standing)) none

pub sound : (arts : Arts) (x : Setting) (all : List Event) (era : Era) (flow : Flow) → SettingFits arts x → Carries x.topology.format arts
    → (w : Watched arts x all era) (u : NodeId)
    → (sight arts x all era flow).base w u ≤ (sight arts x all era flow).have w u
sound arts x all era flow fits reads w u = seen_stands arts x all era flow fits reads (λ f. f.at.base ≤ f.at.have) (omega arith) (λ me f h. h.sound) w u

pub window : (arts : Arts) (x : Setting) (all : List Event) (era : Era) (flow : Flow) → SettingFits arts x → Carries x.topology.format arts
    → (w : Watched arts x all era) (u : NodeId)
    → (sight arts x all era flow).have w u ≤ (sight arts x all era flow).base w u + x.buffer
window arts x all era flow fits reads w u =
    seen_stands arts x all era flow fits reads (λ f. f.at.have ≤ f.at.base + x.buffer) (omega arith) (λ me f h. h.bounded) w u

-- ---- places

abbrev pub is_same : Flow → Flow → Bool
is_same flow f = (f.src.0 == flow.src.0) && (f.dst.0 == flow.dst.0)

-- where the row of a flow stands among the rows of all pairs
abbrev pub place_in : List Flow → Flow → ℕ
place_in [] flow = 0
place_in (f ∷ fs) flow = cond (is_same flow f) 0 (place_in fs flow + 1)

abbrev pub place_at : Setting → Flow → ℕ
place_at x flow = place_in (pairs_of (nodes_of x.topology)) flow

-- a flow of which there is something has its row at its place
at_place : (flow : Flow) (fs : List FlowState) → 1 ≤ (flow_in fs flow).at.have → slice_get fs (place_in (map ends fs) flow) ≡ Some (flow_in fs flow)
at_place flow [] some = absurd (omega (arith, some))
at_place flow (f ∷ fs) some = elim (cases_Bool (is_flow flow f)) [
  | inl t ↦ rw t refl
  | inr t ↦
      let rest = at_place flow fs (rw t at some) in
      let next : slice_get (f ∷ fs) (place_in (map ends fs) flow + 1) ≡ slice_get fs (place_in (map ends fs) flow) =
      ap (slice_get (f ∷ fs)) (let e : place_in (map ends fs) flow + 1 ≡ suc (place_in (map ends fs) flow) = omega arith in e) in
      rw t (next ∙ rest)
]

pub on_at : {X : Type 0} (t : X → Bool) (xs : List X) (i : ℕ) (y : X) → slice_get xs i ≡ Some y → is_on (map t xs) i ≡ t y
on_at t [] i y at = absurd cc
on_at t (z ∷ xs) zero y at = let same : z ≡ y = cc in ap t same
on_at t (z ∷ xs) (suc i) y at = on_at t xs i y at

pub there_on : (fs : List FlowState) (i : ℕ) → is_on (map (λ f. f.active) fs) i ≡ true → (f : FlowState) × (slice_get fs i ≡ Some f) × (f.active ≡ true)
there_on [] i on = absurd (let e : false ≡ true = on in cc)
there_on (g ∷ fs) zero on = (g, refl, on)
there_on (g ∷ fs) (suc i) on = there_on fs i on

busy_on : (me : NodeId) (bound : ℕ) (f : FlowState) → IsStanding me bound f → 1 ≤ f.at.have → f.active ≡ true
busy_on me bound f h some = elim (cases_Bool f.active) [
  | inl t ↦ t
  | inr t ↦ absurd (let none = ap (λ (g : FlowState). g.at.have) (h.idle t) in omega (arith, none, some))
]

pub get_map : (fs : List FlowState) (i : ℕ) (f : FlowState) → slice_get fs i ≡ Some f → slice_get (map ends fs) i ≡ Some (ends f)
get_map [] i f at = absurd (let e : None ≡ Some f = at in cc)
get_map (g ∷ fs) zero f at = let same : g ≡ f = cc in ap (λ (h : FlowState). Some (ends h)) same
get_map (g ∷ fs) (suc i) f at = get_map fs i f at

-- where a flow is active, its place is
active_at : (kind : FlowKind) (k : Sizes) (index : ℕ) (r : RelState) (flow : Flow) → RelHolds kind k index r → 1 ≤ (flow_in r.flows flow).at.have
    → is_on (map (λ f. f.active) r.flows) (place_in (pairs_of k.nodes) flow) ≡ true
active_at kind k index r flow rel some =
    let flows = r.flows in
    let at : slice_get flows (place_in (map ends flows) flow) ≡ Some (flow_in flows flow) = at_place flow flows some in
    let stands = (all_get (FlowHolds kind k index) flows (place_in (map ends flows) flow) (flow_in flows flow) rel.flows at).standing in
    let on = busy_on k.me k.buffer (flow_in flows flow) stands some in
    ap (λ ps. is_on (map (λ f. f.active) flows) (place_in ps flow)) (sym rel.keys)
    ∙ on_at (λ f. f.active) flows (place_in (map ends flows) flow) (flow_in flows flow) at ∙ on

pub place_found : (fs : List Flow) (flow g : Flow) → slice_get fs (place_in fs flow) ≡ Some g → is_same flow g ≡ true
place_found [] flow g at = absurd (let e : None ≡ Some g = at in cc)
place_found (f ∷ fs) flow g at = elim (cases_Bool (is_same flow f)) [
  | inl t ↦ let here : Some f ≡ Some g = rw t at at in let same : f ≡ g = cc in subst (λ h. is_same flow h ≡ true) same t
  | inr t ↦
      let there : slice_get (f ∷ fs) (place_in fs flow + 1) ≡ Some g = rw t at at in
      let next : slice_get (f ∷ fs) (place_in fs flow + 1) ≡ slice_get fs (place_in fs flow) =
      ap (slice_get (f ∷ fs)) (let e : place_in fs flow + 1 ≡ suc (place_in fs flow) = omega arith in e) in
      place_found fs flow g (sym next ∙ there)
]

pub same_flow : (flow f : Flow) → is_same flow f ≡ true → f ≡ flow
same_flow flow f is =
    let t = both _ _ is in
    let a : f.src ≡ flow.src = same_node f.src flow.src (eqb-true _ _ t.0) in
    let b : f.dst ≡ flow.dst = same_node f.dst flow.dst (eqb-true _ _ t.1) in
    ap (λ s. let g : Flow = record { src = s; dst = f.dst } in g) a ∙ ap (λ d. let g : Flow = record { src = flow.src; dst = d } in g) b

-- and the other way round
pub active_of : (kind : FlowKind) (k : Sizes) (index : ℕ) (r : RelState) (flow : Flow) → RelHolds kind k index r
    → is_on (map (λ f. f.active) r.flows) (place_in (pairs_of k.nodes) flow) ≡ true
    → (flow_in r.flows flow).active ≡ true
active_of kind k index r flow h on =
    let place = place_in (pairs_of k.nodes) flow in
    let f = there_on r.flows place on in
    let key : slice_get (pairs_of k.nodes) place ≡ Some (ends f.0) = ap (λ ks. slice_get ks place) (sym h.keys) ∙ get_map r.flows place f.0 f.1 in
    let its : ends f.0 ≡ flow = same_flow flow (ends f.0) (place_found (pairs_of k.nodes) flow (ends f.0) key) in
    let is : flow_in r.flows flow ≡ f.0 = ap (flow_in r.flows) (sym its) ∙ found r.flows place f.0 h.once f.1 in
    ap (λ (g : FlowState). g.active) is ∙ f.2

pub is_active : (arts : Arts) (x : Setting) (all : List Event) (era : Era) (flow : Flow) → SettingFits arts x → Carries x.topology.format arts
    → (w : Watched arts x all era) (u : NodeId)
    → 0 < (sight arts x all era flow).have w u → is_on ((sight arts x all era flow).actives w u) (place_at x flow) ≡ true
is_active arts x all era flow fits reads w u some = go (node_in w.at.world.nodes u) refl some
  where
    go : (o : Option NodeState) → node_in w.at.world.nodes u ≡ o → 0 < (seen_at (no_flow flow) (flow_of era flow u) o).at.have
        → is_on (seen_at [] (actives_of era flow u) o) (place_at x flow) ≡ true
    go None e some = absurd (omega (arith, some))
    go (Some n) e some = elim (cases_Bool (in_era era flow u n)) [
      | inl t ↦
          let rel = rel_of era.kind arts x w.at.events w.at.journal w.at.world fits reads w.at.run u n e in
          let have : 1 ≤ (flow_in (flows_of era.kind n.parts).flows flow).at.have = rw t at some in
          rw t (active_at era.kind (sizes_at x (Good arts x w.at.events w.at.journal) u) n.signer.index (flows_of era.kind n.parts) flow rel have)
      | inr t ↦ absurd (let none : 0 < (no_flow flow).at.have = rw t at some in omega (arith, none))
    ]

-- ---- what is active stays active

pub seen_active : (arts : Arts) (x : Setting) (all : List Event) (era : Era) (flow : Flow) → SettingFits arts x → Carries x.topology.format arts
    → (w : Watched arts x all era) (u : NodeId) → is_on ((sight arts x all era flow).actives w u) (place_at x flow) ≡ true
    → (flow_seen arts x all era flow w u).active ≡ true
seen_active arts x all era flow fits reads w u on = go (node_in w.at.world.nodes u) refl on
  where
    go : (o : Option NodeState) → node_in w.at.world.nodes u ≡ o → is_on (seen_at [] (actives_of era flow u) o) (place_at x flow) ≡ true
        → (seen_at (no_flow flow) (flow_of era flow u) o).active ≡ true
    go None e on = absurd (let f : false ≡ true = on in cc)
    go (Some n) e on = elim (cases_Bool (in_era era flow u n)) [
      | inl t ↦
          let rel = rel_of era.kind arts x w.at.events w.at.journal w.at.world fits reads w.at.run u n e in
          rw t (active_of era.kind (sizes_at x (Good arts x w.at.events w.at.journal) u) n.signer.index (flows_of era.kind n.parts) flow rel (rw t at on))
      | inr t ↦ absurd (let f : is_on [] (place_at x flow) ≡ true = rw t at on in let g : false ≡ true = f in cc)
    ]

-- a flow that is active has something
seen_busy : (arts : Arts) (x : Setting) (all : List Event) (era : Era) (flow : Flow) → SettingFits arts x → Carries x.topology.format arts
    → (w : Watched arts x all era) (u : NodeId) → (flow_seen arts x all era flow w u).active ≡ true → 0 < (sight arts x all era flow).have w u
seen_busy arts x all era flow fits reads w u on = go (node_in w.at.world.nodes u) refl on
  where
    go : (o : Option NodeState) → node_in w.at.world.nodes u ≡ o → (seen_at (no_flow flow) (flow_of era flow u) o).active ≡ true
        → 0 < (seen_at (no_flow flow) (flow_of era flow u) o).at.have
    go None e on = absurd (let f : false ≡ true = on in cc)
    go (Some n) e on = elim (cases_Bool (in_era era flow u n)) [
      | inl t ↦
          let k = sizes_at x (Good arts x w.at.events w.at.journal) u in
          let rel = rel_of era.kind arts x w.at.events w.at.journal w.at.world fits reads w.at.run u n e in
          rw t (first_is (λ f. f.active ≡ true → 0 < f.at.have) flow (flows_of era.kind n.parts).flows (λ z. absurd (let f : false ≡ true = z in cc))
          (λ i f at z. (all_get (FlowHolds era.kind k n.signer.index) (flows_of era.kind n.parts).flows i f rel.flows at).busy z) (rw t at on))
      | inr t ↦ absurd (let f : (no_flow flow).active ≡ true = rw t at on in let g : false ≡ true = f in cc)
    ]

pub stays_active : (arts : Arts) (x : Setting) (all : List Event) (era : Era) (flow : Flow) → SettingFits arts x → Carries x.topology.format arts
    → IsEra x flow era
    → (w y : Watched arts x all era) (e : Event) (u : NodeId) → Leads arts x all era w e y
    → is_on ((sight arts x all era flow).actives w u) (place_at x flow) ≡ true → is_on ((sight arts x all era flow).actives y u) (place_at x flow) ≡ true
stays_active arts x all era flow fits reads is_era w y e u leads on =
    let later = flow_later arts x all era fits reads w y e flow is_era leads u in
    is_active arts x all era flow fits reads y u
    (seen_busy arts x all era flow fits reads y u (later.active (seen_active arts x all era flow fits reads w u on)))
