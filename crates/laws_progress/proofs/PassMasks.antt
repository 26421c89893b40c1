-- Which messages of a flow may go over an edge: what nodes keep of it has the masks under which its source signed them, and those that waited at the source
-- have one.
use Rattle.std.proofs.Common.{◌≡◌, ◌≤◌, ◌<◌, ℕ, zero, suc, ◌+◌, ◌-◌, true, List, [], ◌∷◌, length, Some, None, refl, sym, ap, subst, ◌∙◌}
use Rattle.std.proofs.Common.{arith}
use Rattle.std.specs.List.{All, position_or_len}
use Rattle.std.specs.Option.{option_and_then}
use Rattle.std.specs.Prelude.{IsTrue, slice_get}
use Rattle.std.proofs.lemmas.Bool.{ne_eqb}
use Rattle.std.proofs.lemmas.List.Elements.{All-head, All-nil}
use Rattle.std.proofs.lemmas.Option.{same_Some}
use Rattle.sp_base.specs.declared.id.Flow.{Flow}
use Rattle.sp_base.specs.declared.id.NodeId.{NodeId}
use Rattle.sp_msg.specs.Masks.{bits}
use Rattle.sp_msg.specs.Views.{names_edge, signer_of}
use Rattle.sp_msg.specs.declared.body.Body.{Body}
use Rattle.sp_msg.specs.declared.body.Body.TheVariants as bodies
use Rattle.sp_msg.specs.declared.kept.Kept.{Kept}
use Rattle.sp_msg.specs.declared.mask.Mask.{Mask}
use Rattle.sp_rules.proofs.FlowJudged.{found_ends}
use Rattle.sp_rules.specs.Arts.{Arts}
use Rattle.sp_rules.specs.Flow.{IsMessage, boots_said, ends, flow_said, number_said}
use Rattle.sp_rules.specs.Kflow.{edge_to, goes_over, mask_said, waiting_mask}
use Rattle.sp_rules.specs.Lives.{held_boot}
use Rattle.sp_rules.specs.Node.{NodeState}
use Rattle.sp_rules.specs.Rel.{RelState, flow_in, own_flow}
use Rattle.sp_rules.specs.declared.kflow.FlowKind.TheVariants.{Paths}
use Rattle.sp_rules.specs.declared.lives.Life.{Life}
use Rattle.sp_runs.specs.Forgery.{is_among}
use Rattle.sp_runs.specs.Runs.{Clean, is_hop}
use Rattle.sp_runs.specs.Settings.{Setting, SettingFits, is_correct}
use Rattle.sp_runs.specs.Told.{signed}
use Rattle.sp_runs.specs.Worlds.{World, node_in}
use Rattle.sp_topology.specs.Neighbours.{joins}
use Rattle.sp_journal.specs.declared.entry.Entry.{Entry}
use Rattle.sp_schedule_events.specs.declared.event.Event.{Event}
use Rattle.laws_node.proofs.FlowKinds.{flows_hold}
use Rattle.laws_node.proofs.Tables.{all_get}
use Rattle.laws_node.specs.Flows.{FlowHolds, IsRelOf, RelHolds}
use Rattle.laws_node.specs.Sizes.{Fits, Sizes}
use Rattle.laws_runs.proofs.Flows.{rel_signer}
use Rattle.laws_runs.proofs.Signed.{signs}
use Rattle.laws_runs.proofs.Tables.{same_node}
use Rattle.laws_runs.specs.Dated.{NamesHeld}
use Rattle.laws_runs.specs.Flows.{flow_at}
use Rattle.laws_runs.specs.Premises.{Carries}
use Rattle.laws_runs.specs.Signs.{Good, sizes_at}
use Rattle.laws_progress.proofs.Edges.{edge_is}
use Rattle.laws_progress.proofs.Heeds.{flow_dated}
use Rattle.laws_progress.proofs.Makes.{Passes, flow_sound, message_at, said}
use Rattle.laws_progress.proofs.OneMask.{HasMask, IsOneMask}
use Rattle.laws_progress.proofs.Rows.{rows_are}
use Rattle.laws_progress.proofs.SignedMasks.{masks_are, same_masks}
use Rattle.laws_progress.proofs.Standing.{first_is}

-- ---- what is kept of a flow

message_flow : (flow : Flow) (q : ℕ) (body : Body) → IsMessage flow q body → flow_said body ≡ flow
message_flow flow q (bodies.Rel m) is =
    ap (λ s. let f : Flow = record { src = s; dst = m.dst } in f) is.0 ∙ ap (λ d. let f : Flow = record { src = flow.src; dst = d } in f) is.1
message_flow flow q (bodies.Krel m) is =
    ap (λ s. let f : Flow = record { src = s; dst = m.dst } in f) is.0 ∙ ap (λ d. let f : Flow = record { src = flow.src; dst = d } in f) is.1
message_flow flow q (bodies.Ack a) is = absurd is
message_flow flow q (bodies.Prio a) is = absurd is
message_flow flow q (bodies.Weight a) is = absurd is
message_flow flow q (bodies.Kack a) is = absurd is
message_flow flow q (bodies.Epoch a) is = absurd is

names_boots : (ls : List Life) (flow : Flow) (body : Body) → NamesHeld ls flow body → boots_said body ≡ (held_boot ls flow.src, held_boot ls flow.dst)
names_boots ls flow (bodies.Rel m) h = ap (λ a. (a, m.dboot)) h.source ∙ ap (λ b. (held_boot ls flow.src, b)) h.end
names_boots ls flow (bodies.Ack m) h = ap (λ a. (a, m.dboot)) h.source ∙ ap (λ b. (held_boot ls flow.src, b)) h.end
names_boots ls flow (bodies.Krel m) h = ap (λ a. (a, m.dboot)) h.source ∙ ap (λ b. (held_boot ls flow.src, b)) h.end
names_boots ls flow (bodies.Kack m) h = ap (λ a. (a, m.dboot)) h.source ∙ ap (λ b. (held_boot ls flow.src, b)) h.end
names_boots ls flow (bodies.Prio m) h = absurd h
names_boots ls flow (bodies.Weight m) h = absurd h
names_boots ls flow (bodies.Epoch m) h = absurd h

row_fits : (k : Sizes) (index : ℕ) (r : RelState) (flow : Flow) → RelHolds Paths k index r → All (Fits k) (flow_in r.flows flow).at.list
row_fits k index r flow h =
    first_is (λ f. All (Fits k) f.at.list) flow r.flows (All-nil (Fits k)) (λ i f at. (all_get (FlowHolds Paths k index) r.flows i f h.flows at).messages)

-- a message that a node keeps of a flow on paths from s to d
pub record KeptKrel (arts : Arts) (es : List Event) (js : List Entry) (s d : NodeId) (n : NodeState) (number : ℕ) (body : Body) : Type 0 where
  pub is : IsRelOf Paths body
  pub good : IsTrue (arts.is_good body)
  pub flow : flow_said body ≡ record { src = s; dst = d }
  pub number_is : number_said body ≡ number
  pub boots : boots_said body ≡ (held_boot n.parts.lives s, held_boot n.parts.lives d)
  pub among : is_among (arts.spell body) (signed es js s) ≡ true

-- what stands in a list is one
pub kept_krel : (arts : Arts) (x : Setting) (es : List Event) (js : List Entry) (w : World) → SettingFits arts x → Carries x.topology.format arts
    → Clean arts x es js w → (s d : NodeId) → IsTrue (is_correct x s) → (u : NodeId) (n : NodeState) → node_in w.nodes u ≡ Some n → (i : ℕ) (o : Kept)
    → slice_get (flow_at Paths n s d).at.list i ≡ Some o → KeptKrel arts es js s d n ((flow_at Paths n s d).at.base + i + 1) o.body
kept_krel arts x es js w fits reads run s d from u n at i o there =
    let flow : Flow = record { src = s; dst = d } in
    let r = n.parts.kflow.flows in
    let f = flow_in r.flows flow in
    let node = (signs arts x es js w fits reads run).nodes u n at in
    let k = sizes_at x (Good arts x es js) u in
    let holds = flows_hold Paths k n.parts node.holds.parts in
    let sound = flow_sound Paths k n.signer.index r flow holds in
    let found = found_ends r.flows flow in
    let rel = all_get (λ (m : Kept). IsRelOf Paths m.body) f.at.list i o sound.plain there in
    let message = subst (λ fl. IsMessage fl (f.at.base + i + 1) o.body) found (message_at (ends f) f.at.base f.at.list i o sound.messages there) in
    let good = (all_get (Fits k) f.at.list i o (row_fits k n.signer.index r flow holds) there).holds in
    let names = all_get (λ (m : Kept). NamesHeld n.parts.lives (ends f) m.body) f.at.list i o
    (flow_dated n.parts.lives flow r.flows (node.dated Paths)).messages
    there in
    let said_flow = message_flow flow (f.at.base + i + 1) o.body message in
    let signer : signer_of o.body ≡ s = rel_signer Paths o.body rel ∙ ap (λ (fl : Flow). fl.src) said_flow in
    let among : is_among (arts.spell o.body) (signed es js (signer_of o.body)) ≡ true =
    good.known (subst (λ v. IsTrue (is_correct x v)) (sym signer) from) in
    record {
      is = rel;
      good = good.good;
      flow = said_flow;
      number_is = said flow (f.at.base + i + 1) o.body message;
      boots = names_boots n.parts.lives flow o.body (subst (λ fl. NamesHeld n.parts.lives fl o.body) found names);
      among = subst (λ v. is_among (arts.spell o.body) (signed es js v) ≡ true) signer among;
    }

-- ---- what waits at the source

waits_all : (list : List Kept) (mask : Mask) → IsOneMask list → option_and_then (λ (o : Kept). mask_said o.body) (slice_get list 0) ≡ Some mask
    → (i : ℕ) (o : Kept)
    → slice_get list i ≡ Some o → mask_said o.body ≡ Some mask
waits_all [] mask one first i o at = absurd (let f : None ≡ Some mask = first in cc)
waits_all (m ∷ list) mask one first i o at =
    let head : mask_said m.body ≡ one.0 = All-head (HasMask one.0) m list one.1 in
    all_get (HasMask one.0) (m ∷ list) i o one.1 at ∙ sym head ∙ first

in_list : (list : List Kept) (i : ℕ) → i < length list → (o : Kept) × (slice_get list i ≡ Some o)
in_list [] i low = absurd (omega (arith, low))
in_list (o ∷ list) zero low = (o, refl)
in_list (o ∷ list) (suc i) low = in_list list i (omega (arith, low))

module _ (arts : Arts) (x : Setting) (es : List Event) (js : List Entry) (w : World) (fits : SettingFits arts x) (reads : Carries x.topology.format arts)
    (run : Clean arts x es js w) (s d : NodeId) (from : IsTrue (is_correct x s)) (different : s ≡ d → ⊥) (n : NodeState)
    (at : node_in w.nodes s ≡ Some n) where
  abbrev r : RelState
  r = n.parts.kflow.flows

  own : own_flow r d ≡ record { src = s; dst = d }
  own =
      let node = (signs arts x es js w fits reads run).nodes s n at in
      let holds = flows_hold Paths (sizes_at x (Good arts x es js) s) n.parts node.holds.parts in
      ap (λ (v : NodeId). let f : Flow = record { src = v; dst = d } in f) holds.me

  -- each number after its base has its message, with the mask that waits
  pub waits_at : (mask : Mask) → waiting_mask n.parts.kflow d ≡ Some mask → (q : ℕ) → (flow_at Paths n s d).at.base < q → q ≤ (flow_at Paths n s d).at.have
      → (o : Kept) × (mask_said o.body ≡ Some mask) × KeptKrel arts es js s d n q o.body
  waits_at mask waits q above most =
      let flow : Flow = record { src = s; dst = d } in
      let f = flow_in r.flows flow in
      let node = (signs arts x es js w fits reads run).nodes s n at in
      let k = sizes_at x (Good arts x es js) s in
      let sound = flow_sound Paths k n.signer.index r flow (flows_hold Paths k n.parts node.holds.parts) in
      let end : f.dst ≡ d = ap (λ (g : Flow). g.dst) (found_ends r.flows flow) in
      let whole = sound.position (ne_eqb _ _ (λ same. different (sym (same_node f.dst s same) ∙ end))) in
      let i = q - f.at.base - 1 in
      let o = in_list f.at.list i (omega (arith, above, most, whole)) in
      let one : IsOneMask f.at.list = subst (λ (g : Flow). IsOneMask (flow_in r.flows g).at.list) own (masks_are arts x es js w fits reads run s n at d) in
      let first : option_and_then (λ (m : Kept). mask_said m.body) (slice_get f.at.list 0) ≡ Some mask =
      ap (λ (g : Flow). option_and_then (λ (m : Kept). mask_said m.body) (slice_get (flow_in r.flows g).at.list 0)) (sym own) ∙ waits in
      let number : f.at.base + i + 1 ≡ q = omega (arith, above) in (
        o.0,
        waits_all f.at.list mask one first i o.0 o.1,
        subst (λ c. KeptKrel arts es js s d n c o.0.body) number (kept_krel arts x es js w fits reads run s d from s n at i o.0 o.1),
      )

  -- where no mask waits, no message does
  pub none_waits : waiting_mask n.parts.kflow d ≡ None → (flow_at Paths n s d).at.have ≤ (flow_at Paths n s d).at.base
  none_waits waits =
      let flow : Flow = record { src = s; dst = d } in
      let f = flow_in r.flows flow in
      let node = (signs arts x es js w fits reads run).nodes s n at in
      let k = sizes_at x (Good arts x es js) s in
      let sound = flow_sound Paths k n.signer.index r flow (flows_hold Paths k n.parts node.holds.parts) in
      let end : f.dst ≡ d = ap (λ (g : Flow). g.dst) (found_ends r.flows flow) in
      let whole = sound.position (ne_eqb _ _ (λ same. different (sym (same_node f.dst s same) ∙ end))) in
      let first : option_and_then (λ (m : Kept). mask_said m.body) (slice_get f.at.list 0) ≡ None =
      ap (λ (g : Flow). option_and_then (λ (m : Kept). mask_said m.body) (slice_get (flow_in r.flows g).at.list 0)) (sym own) ∙ waits in
      let none = empty f.at.list sound.plain first in
      omega (arith, whole, none)
    where
      empty : (list : List Kept) → All (λ (m : Kept). IsRelOf Paths m.body) list
          → option_and_then (λ (m : Kept). mask_said m.body) (slice_get list 0) ≡ None → length list ≡ 0
      empty [] are none = refl
      empty (m ∷ list) are none = absurd (go m.body (All-head (λ (m : Kept). IsRelOf Paths m.body) m list are) none)
        where
          go : (body : Body) → IsRelOf Paths body → mask_said body ≡ None → ⊥
          go (bodies.Krel k) is none = (let f : Some k.mask ≡ None = none in cc)
          go (bodies.Rel k) is none = is
          go (bodies.Prio k) is none = is
          go (bodies.Ack k) is none = is
          go (bodies.Weight k) is none = is
          go (bodies.Kack k) is none = is
          go (bodies.Epoch k) is none = is

-- ---- what may go

goes_by : (edge : ℕ) (mask : Mask) (body : Body) → mask_said body ≡ Some mask → names_edge (bits mask) edge ≡ true → goes_over edge body ≡ true
goes_by edge mask (bodies.Krel m) is has = ap (λ (k : Mask). names_edge (bits k) edge) (same_Some m.mask mask is) ∙ has
goes_by edge mask (bodies.Rel m) is has = refl
goes_by edge mask (bodies.Prio m) is has = refl
goes_by edge mask (bodies.Ack m) is has = refl
goes_by edge mask (bodies.Weight m) is has = refl
goes_by edge mask (bodies.Kack m) is has = refl
goes_by edge mask (bodies.Epoch m) is has = refl

-- what a node keeps, in a state after which the run goes on to the whole, has the mask of what waited at the source
pub passes_by : (arts : Arts) (x : Setting) (all : List Event) (whole : List Entry) (last : World) → SettingFits arts x → Carries x.topology.format arts
    → Clean arts x all whole last → (s d : NodeId) → IsTrue (is_correct x s) → IsTrue (is_correct x d) → (s ≡ d → ⊥)
    → (es : List Event) (js : List Entry) (w : World) → Clean arts x es js w
    → ((bytes : List ℕ) → is_among bytes (signed es js s) ≡ true → is_among bytes (signed all whole s) ≡ true)
    → (n : NodeState) → node_in w.nodes s ≡ Some n → (mask : Mask) → waiting_mask n.parts.kflow d ≡ Some mask
    → (fs : List Event) (ks : List Entry) (z : World) → Clean arts x fs ks z
    → ((bytes : List ℕ) → is_among bytes (signed fs ks s) ≡ true → is_among bytes (signed all whole s) ≡ true)
    → (u v : NodeId) (m : NodeState) → node_in z.nodes u ≡ Some m → is_hop x u v ≡ true
    → names_edge (bits mask) (position_or_len (joins u.0 v.0) x.topology.edges) ≡ true
    → ◌≡◌ {A = ℕ × ℕ} (held_boot m.parts.lives s, held_boot m.parts.lives d) (held_boot n.parts.lives s, held_boot n.parts.lives d)
    → (high : ℕ) → high ≤ (flow_at Paths n s d).at.have
    → Passes (flow_at Paths n s d).at.base high (edge_to m.parts.kflow v) (flow_at Paths m s d)
passes_by arts x all whole last fits reads end s d from to different es js w run grows n at mask waits fs ks z later more u v m there hop has boots high most i
    o
    kept above upto =
    let edge = edge_is x u v m.parts.kflow (rows_are arts x fs ks z fits reads later u m there).edges hop in
    let b = kept_krel arts x fs ks z fits reads later s d from u m there i o kept in
    let source = waits_at arts x es js w fits reads run s d from different n at mask waits ((flow_at Paths m s d).at.base + i + 1) above
    (omega (arith, upto, most)) in
    let c = source.2 in
    let same = same_masks arts x fits reads s d from to different all whole last end o.body source.0.body b.is c.is b.good c.good b.flow c.flow
    (b.boots ∙ boots ∙ sym c.boots) (b.number_is ∙ sym c.number_is) (more (arts.spell o.body) b.among) (grows (arts.spell source.0.body) c.among) in
    goes_by (edge_to m.parts.kflow v) mask o.body (same ∙ source.1) (ap (names_edge (bits mask)) edge ∙ has)
