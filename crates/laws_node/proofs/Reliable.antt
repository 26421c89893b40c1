-- What each change of the reliable part keeps.
pub use Rattle.laws_node.proofs.FlowRows.{read}
use Rattle.std.proofs.Common.{◌≡◌, ◌<◌, ◌≤◌, ℕ, zero, suc, ◌+◌, ◌==◌, ◌&&◌, nat_lt, Bool, true, false, List, [], ◌∷◌, map, Option, Some, None, refl, sym, ap}
use Rattle.std.proofs.Common.{◌∙◌, subst, arith}
use Rattle.std.specs.List.{All, AllPairs, list_any, slice_get}
use Rattle.std.specs.Option.{option_and_then, option_map}
use Rattle.std.proofs.lemmas.Bool.Decides.{nat_tests}
use Rattle.std.proofs.lemmas.List.Elements.{All-head, All-tail}
use Rattle.sp_base.specs.Formats.{max_nodes}
use Rattle.sp_base.specs.declared.id.Flow.{Flow}
use Rattle.sp_base.specs.declared.id.NodeId.{NodeId}
use Rattle.sp_frame.specs.Objects.{is_of}
use Rattle.sp_msg.proofs.GoodFields.{ack_is_good}
use Rattle.sp_msg.specs.Bodies.{HasGoodFieldsIn, boot_field}
use Rattle.sp_msg.specs.Fields.{IsInRange}
use Rattle.sp_msg.specs.declared.body.Ack.{Ack}
use Rattle.sp_msg.specs.declared.body.Body.{Body}
use Rattle.sp_msg.specs.declared.body.Body.TheVariants as bodies
use Rattle.sp_msg.specs.declared.kept.Kept.{Kept}
use Rattle.sp_rules.proofs.FlowDue.{can_conclude, is_due_at}
use Rattle.sp_rules.proofs.FlowJudged.{can_push_own, found_ends, same_ends}
use Rattle.sp_rules.specs.Changes.{CanConclude, CanPush}
use Rattle.sp_rules.specs.Flow.{FlowState, IsStanding, ends, flow_said, concluded, is_flow, pushed}
use Rattle.sp_rules.specs.Rel.{IsNextOwn, RelPeer, RelState, ack_of, due, due_place, flow_at, flow_in, flow_to_me}
use Rattle.sp_rules.specs.Rel.{next_place, plain, undated, pushed_in, reported, served}
use Rattle.sp_rules.specs.Rel.{served_at}
use Rattle.sp_rules.specs.Rel.{settled, settled_at, took, told, with_flow, with_peer, peer_in}
use Rattle.sp_rules.specs.Lives.{held_boot}
use Rattle.sp_rules.specs.Kflow.{ack_body}
use Rattle.sp_rules.specs.Node.{NodeState}
use Rattle.sp_rules.specs.Parts.{flows_of}
use Rattle.sp_rules.specs.Ticks.{dated, due_now}
use Rattle.sp_rules.specs.declared.kflow.FlowKind.{FlowKind}
use Rattle.laws_node.specs.Flows.{Differ, FlowHolds, HasFlows, IsRelOf, IsWithin, RelHolds}
use Rattle.laws_node.specs.Nodes.{PartsHold}
use Rattle.laws_node.specs.Sizes.{Fits, IsNode, Sizes}
use Rattle.laws_node.proofs.FlowKinds.{ack_body_is_good, ack_kind, ack_of_kind, ack_plain, flows_hold, is_ack_of}
use Rattle.laws_node.proofs.HeldBoots.{boot_fits}
use Rattle.laws_node.proofs.Flows.{after_take_holds, concluded_holds, pushed_holds}
use Rattle.laws_node.proofs.Tables.{or_where, all_get, cond_either, cond_where}
use Rattle.laws_node.proofs.FlowRows.{are_standing, with_flow_holds}

-- ---- a client sends

-- a node that is among these is in its range
pub in_range : (format : ℕ) (nodes : List NodeId) (u : NodeId) → All (IsNode format) nodes → list_any (λ x. x.0 == u.0) nodes ≡ true → IsNode format u
in_range format [] u all e = absurd (cc)
in_range format (x ∷ nodes) u all e =
    or_where (x.0 == u.0) (list_any (λ y. y.0 == u.0) nodes)
    (λ is. let same : x.0 ≡ u.0 = grind (arith, nat_tests, is) in
    subst (λ (n : ℕ). (1 ≤ n) × (n ≤ max_nodes format)) same (All-head (IsNode format) x nodes all))
    (in_range format nodes u (All-tail (IsNode format) x nodes all)) e

pub pushed_in_holds : (kind : FlowKind) (k : Sizes) (index : ℕ) (r : RelState) (m : Kept) → IsNextOwn r m.body → Fits k m
    → IsRelOf kind m.body → IsWithin k m.body → RelHolds kind k index r → RelHolds kind k (index + 1) (pushed_in r m)
pushed_in_holds kind k index r m next fits is within h =
    let flow = flow_said m.body in
    let f = flow_in r.flows flow in
    let can = subst (λ (b : ℕ). CanPush k.me b f m) h.bound
    (subst (λ (u : NodeId). CanPush u r.bound f m) h.me (can_push_own r m next (k.format, fits.fields))) in
    with_flow_holds kind k index (index + 1) r flow (pushed f m) (omega arith) (found_ends r.flows flow)
    (λ there. pushed_holds kind k index (index + 1) f m (omega arith) (λ mine. let own = there.own mine in omega (arith, own)) can fits is (λ mine. within)
    there) h

-- ---- what neighbours say, and polls

-- a change of what is kept of neighbours alone
same_flows : (kind : FlowKind) (k : Sizes) (index : ℕ) (r : RelState) (peers : List RelPeer) → RelHolds kind k index r
    → RelHolds kind k index (record r { peers = peers })
same_flows kind k index r peers h = record { me = h.me; bound = h.bound; nodes = h.nodes; known = h.known; flows = h.flows; keys = h.keys; once = h.once }

pub reported_holds : (kind : FlowKind) (k : Sizes) (index : ℕ) (r : RelState) (v : NodeId) (flow : Flow) (base have : ℕ) → RelHolds kind k index r
    → RelHolds kind k index (reported r v flow base have)
reported_holds kind k index r v flow base have h =
    cond_either (RelHolds kind k index) (flow_in r.flows flow).active (with_peer r v (told (peer_in r.peers v) flow base have)) r
    (same_flows kind k index r _ h) h

pub served_holds : (kind : FlowKind) (k : Sizes) (index : ℕ) (r : RelState) (v : NodeId) → RelHolds kind k index r → RelHolds kind k index (served r v)
served_holds kind k index r v h = go (next_place r v)
  where
    go : (place : Option ℕ) → RelHolds kind k index (served_at r v place)
    go None = h
    go (Some place) = same_flows kind k index r _ h

pub took_holds : (kind : FlowKind) (k : Sizes) (index : ℕ) (r : RelState) (src : NodeId) → RelHolds kind k index r → RelHolds kind k index (took r src)
took_holds kind k index r src h =
    let flow = flow_to_me r src in
    let f = flow_in r.flows flow in
    with_flow_holds kind k index index r flow _ (omega arith) (found_ends r.flows flow) (λ there. after_take_holds kind k index f there) h

-- ---- the acknowledgement that is due

all_pairs_tail : (f : Flow) (flows : List Flow) → AllPairs Differ (f ∷ flows) → AllPairs Differ flows
all_pairs_tail f flows once = λ i j d below within. once (suc i) (suc j) d (omega (arith, below)) (omega (arith, within))

-- a later row has other ends
apart : (g f : FlowState) (flows : List FlowState) (i : ℕ) → AllPairs Differ (ends g ∷ map ends flows) → slice_get flows i ≡ Some f → ends g ≡ ends f → ⊥
apart g f flows i once at same = far flows i at (λ j d within. once 0 (suc j) d (omega arith) (omega (arith, within)))
  where
    far : (fs : List FlowState) (i : ℕ) → slice_get fs i ≡ Some f → All (Differ (ends g)) (map ends fs) → ⊥
    far [] i at all = cc
    far (x ∷ fs) zero at all =
        let here : x ≡ f = cc in
        All-head (Differ (ends g)) (ends x) (map ends fs) all (same ∙ ap ends (sym here))
    far (x ∷ fs) (suc i) at all = far fs i at (All-tail (Differ (ends g)) (ends x) (map ends fs) all)

is_itself : (f : FlowState) → is_flow (ends f) f ≡ true
is_itself f =
    let src : (f.src.0 == f.src.0) ≡ true = grind (arith, nat_tests) in
    let dst : (f.dst.0 == f.dst.0) ≡ true = grind (arith, nat_tests) in
    rw (src, dst) refl

-- a row is what is read by its ends, where no other row has them
pub found : (flows : List FlowState) (i : ℕ) (f : FlowState) → AllPairs Differ (map ends flows) → slice_get flows i ≡ Some f → flow_in flows (ends f) ≡ f
found [] i f once at = absurd (cc)
found (g ∷ flows) zero f once at =
    let same : g ≡ f = cc in
    subst (λ (x : FlowState). flow_in (g ∷ flows) (ends x) ≡ x) same (rw (is_itself g) refl)
found (g ∷ flows) (suc i) f once at =
    cond_where (λ (x : FlowState). x ≡ f) (is_flow (ends f) g) g (flow_in flows (ends f))
    (λ is. absurd (apart g f flows i once at (same_ends g (ends f) is)))
    (λ is. found flows i f (all_pairs_tail (ends g) (map ends flows) once) at)

-- the row whose turn it is
pub record IsDueRow (r : RelState) (ack : Ack) : Type 0 where
  pub place : ℕ
  pub row : FlowState
  pub turn : due_place r ≡ Some place
  pub there : slice_get r.flows place ≡ Some row
  pub is : ack ≡ ack_of r (ends row)

pub due_row : (r : RelState) (ack : Ack) → due r ≡ Some ack → IsDueRow r ack
due_row r ack e = go (due_place r) refl e
  where
    row : (place : ℕ) → due_place r ≡ Some place → (o : Option FlowState) → slice_get r.flows place ≡ o
        → option_map (ack_of r) (option_map ends o) ≡ Some ack → IsDueRow r ack
    row place turn None there e = absurd (cc)
    row place turn (Some f) there e =
        record { place = place; row = f; turn = turn; there = there; is = let same : ack_of r (ends f) ≡ ack = cc in sym same }

    go : (o : Option ℕ) → due_place r ≡ o → option_map (ack_of r) (option_and_then (flow_at r.flows) o) ≡ Some ack → IsDueRow r ack
    go None turn e = absurd (cc)
    go (Some place) turn e = row place turn (slice_get r.flows place) refl e

-- what is due names no boots
undated_due : (r : RelState) (ack : Ack) → due r ≡ Some ack → ack ≡ undated ack
undated_due r ack e = let at = due_row r ack e in subst (λ (a : Ack). a ≡ undated a) (sym at.is) refl

second_true : (a b : Bool) → (a && b) ≡ true → (a ≡ true) × (b ≡ true)
second_true true true e = (refl, refl)
second_true true false e = absurd (cc)
second_true false b e = absurd (cc)

-- what is due can be said: its ends are nodes, this one the second, and its number is in its range
pub record DueFits (kind : FlowKind) (k : Sizes) (ack : Ack) : Type 0 where
  pub mine : ack.dst ≡ k.me
  pub later : HasFlows kind k.format
  pub fields : (sboot dboot : ℕ) → IsInRange (boot_field k.format) sboot → IsInRange (boot_field k.format) dboot
      → HasGoodFieldsIn k.format (ack_body kind (record ack { sboot = sboot; dboot = dboot }))

same_id : (u v : NodeId) → (u.0 == v.0) ≡ true → u ≡ v
same_id u v e = let same : u.0 ≡ v.0 = grind (arith, nat_tests) in ap (λ (n : ℕ). record { 0 = n }) same

-- a flow of which something came is active
came : (me : NodeId) (bound : ℕ) (f : FlowState) → IsStanding me bound f → 1 ≤ f.at.have → f.active ≡ true
came me bound f s some = go f.active refl
  where
    go : (t : Bool) → f.active ≡ t → f.active ≡ true
    go true is = is
    go false is = absurd (let none : f.at.have ≡ 0 = ap (λ (g : FlowState). g.at.have) (s.idle is) in omega (arith, none, some))

pub due_fits : (kind : FlowKind) (k : Sizes) (index : ℕ) (r : RelState) (ack : Ack) → due r ≡ Some ack → RelHolds kind k index r → DueFits kind k ack
due_fits kind k index r ack e h =
    let at = due_row r ack e in
    let f = at.row in
    let facts = all_get (FlowHolds kind k index) r.flows at.place f h.flows at.there in
    let flags = second_true (f.dst.0 == r.me.0) (nat_lt f.at.base f.at.have) (is_due_at r at.place f at.turn at.there) in
    let read_again : flow_in r.flows (ends f) ≡ f = found r.flows at.place f h.once at.there in
    let number : ack.seq ≡ f.at.have = ap (λ (a : Ack). a.seq) at.is ∙ ap (λ (g : FlowState). g.at.have) read_again in
    let some : f.at.base < f.at.have = grind (arith, nat_tests, flags.1) in
    let later = facts.later (came k.me k.buffer f facts.standing (omega (arith, some))) in
    record {
      mine = ap (λ (a : Ack). a.dst) at.is ∙ same_id f.dst r.me flags.0 ∙ h.me;
      later = later;
      fields = λ sboot dboot source target.
          subst (λ (a : Ack). HasGoodFieldsIn k.format (ack_body kind (record a { sboot = sboot; dboot = dboot }))) (sym at.is)
          (ack_body_is_good kind k.format (record (ack_of r (ends f)) { sboot = sboot; dboot = dboot }) later
          (ack_is_good k.format (record (ack_of r (ends f)) { sboot = sboot; dboot = dboot }) (record {
            src = facts.src;
            dst = facts.dst;
            sboot = source;
            dboot = target;
            seq = (
              omega (arith, some, ap (λ (g : FlowState). g.at.have) read_again),
              omega (arith, facts.standing.numbers, ap (λ (g : FlowState). g.at.have) read_again),
            );
          })));
    }

-- whatever kind it is of, and under whatever boots
pub due_body : (kind : FlowKind) (r : RelState) (ack a : Ack) (body : Body) → due r ≡ Some ack → undated a ≡ undated ack → body ≡ ack_body kind a
    → option_map bodies.Ack (due r) ≡ Some (plain body)
due_body kind r ack a body e same is =
    ap (option_map bodies.Ack) e ∙ ap (λ (x : Ack). Some (bodies.Ack x)) (undated_due r ack e ∙ sym same)
    ∙ ap (λ (x : Body). Some x) (sym (ap plain is ∙ ack_plain kind a))

-- under whatever boots it is signed
pub settled_holds : (kind : FlowKind) (k : Sizes) (index : ℕ) (r : RelState) (ack : Ack) (sboot dboot : ℕ) (o : Kept) → due r ≡ Some ack
    → o.body ≡ ack_body kind (record ack { sboot = sboot; dboot = dboot }) → Fits k o → RelHolds kind k index r → RelHolds kind k index (settled r o)
settled_holds kind k index r ack sboot dboot o e is fits h =
    let flow = flow_said o.body in
    let f = flow_in r.flows flow in
    let a : Ack = record ack { sboot = sboot; dboot = dboot } in
    let can = subst (λ (u : NodeId). CanConclude u f) h.me
    (can_conclude r o.body (due_body kind r ack a o.body e refl is) (k.format, fits.fields) (are_standing kind k index r h)) in
    let kept = is_ack_of kind (ends f) o.body (ap (is_of (ack_kind kind)) is ∙ ack_of_kind kind a) (sym (found_ends r.flows flow)) in
    let done = with_flow_holds kind k index index r flow _ (omega arith) (found_ends r.flows flow)
    (λ there. concluded_holds kind k index f o can (record { is_ack = kept; fits = fits }) there) h in
    go (due_place r) done
  where
    go : (place : Option ℕ) → RelHolds kind k index (with_flow r (flow_said o.body) (concluded (flow_in r.flows (flow_said o.body)) o))
        → RelHolds kind k index (settled_at r o place)
    go None done = h
    go (Some place) done =
        record { me = done.me; bound = done.bound; nodes = done.nodes; known = done.known; flows = done.flows; keys = done.keys; once = done.once }

-- ---- the acknowledgement that is signed at a tick, under the boots that are held

pub record IsDated (kind : FlowKind) (n : NodeState) (ack : Ack) : Type 0 where
  pub raw : Ack
  pub is_due : due (flows_of kind n.parts) ≡ Some raw
  pub is : ack ≡ dated n.parts.lives raw

-- the acknowledgement that is due has the boots that the node holds
pub dated_due : (kind : FlowKind) (n : NodeState) (ack : Ack) → due_now kind n ≡ Some ack → IsDated kind n ack
dated_due kind n ack e = go (due (flows_of kind n.parts)) refl e
  where
    go : (o : Option Ack) → due (flows_of kind n.parts) ≡ o → option_map (dated n.parts.lives) o ≡ Some ack → IsDated kind n ack
    go None is e = absurd (cc)
    go (Some raw) is e = record { raw = raw; is_due = is; is = let same : dated n.parts.lives raw ≡ ack = cc in sym same }

pub record DueNowFits (kind : FlowKind) (k : Sizes) (ack : Ack) : Type 0 where
  pub mine : ack.dst ≡ k.me
  pub fields : HasGoodFieldsIn k.format (ack_body kind ack)

-- the acknowledgement that is due fits
pub due_now_fits : {numbers ids index : ℕ} (kind : FlowKind) (k : Sizes) (n : NodeState) (ack : Ack) → due_now kind n ≡ Some ack
    → PartsHold k numbers ids index n.parts → DueNowFits kind k ack
due_now_fits {index = index} kind k n ack e h =
    let d = dated_due kind n ack e in
    let facts = due_fits kind k index (flows_of kind n.parts) d.raw d.is_due (flows_hold kind k n.parts h) in
    record {
      mine = ap (λ (a : Ack). a.dst) d.is ∙ facts.mine;
      fields = subst (λ (a : Ack). HasGoodFieldsIn k.format (ack_body kind a)) (sym d.is)
          (facts.fields (held_boot n.parts.lives d.raw.src) (held_boot n.parts.lives d.raw.dst) (boot_fits k n.parts.lives d.raw.src h.lives)
          (boot_fits k n.parts.lives d.raw.dst h.lives));
    }

-- its flow is active
pub due_now_active : {numbers ids index : ℕ} (kind : FlowKind) (k : Sizes) (n : NodeState) (ack : Ack) → due_now kind n ≡ Some ack
    → PartsHold k numbers ids index n.parts → (flow_in (flows_of kind n.parts).flows (flow_said (ack_body kind ack))).active ≡ true
due_now_active {index = index} kind k n ack e h =
    let d = dated_due kind n ack e in
    let r = flows_of kind n.parts in
    let fits = due_now_fits kind k n ack e h in
    (can_conclude r (ack_body kind ack) (due_body kind r d.raw ack (ack_body kind ack) d.is_due (ap undated d.is) refl) (k.format, fits.fields)
    (are_standing kind k index r (flows_hold kind k n.parts h))).active
