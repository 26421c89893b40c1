-- The bytes that come are those that the rules of runs say.
use Rattle.std.proofs.Common.{◌≡◌, ℕ, zero, suc, ◌≤◌, Bool, true, false, List, length, slice_get, option_map, Option, None, Some, refl, ap, subst, arith}
use Rattle.std.specs.Prelude.{◌||◌, IsTrue, is_some, not}
use Rattle.std.specs.List.{list_any}
use Rattle.std.specs.Option.{option_and_then}
use Rattle.sp_base.specs.declared.id.NodeId.{NodeId}
use Rattle.sp_journal.specs.declared.entry.Entry.{Entry}
use Rattle.sp_msg.specs.Bodies.{HasGoodFieldsIn, boot_field}
use Rattle.sp_msg.specs.Fields.{IsInRange}
use Rattle.sp_msg.specs.declared.body.Body.{Body}
use Rattle.sp_msg.specs.declared.body.Body.TheVariants as bodies
use Rattle.sp_msg.proofs.GoodFields.{ack_is_good, good_ack, good_prio, good_rel, prio_is_good, rel_is_good}
use Rattle.sp_rules.specs.Lives.{held_boot}
use Rattle.sp_rules.specs.Node.{NodeState}
use Rattle.sp_rules.specs.Steps.{Datagram}
use Rattle.sp_rules.specs.declared.lives.Life.{Life}
use Rattle.sp_runs.specs.Inputs.{acting, dated, flipped}
use Rattle.sp_runs.specs.Lives.{comes_to_nobody}
use Rattle.sp_runs.specs.Runs.{is_hop}
use Rattle.sp_runs.specs.Scenarios.{setting_of}
use Rattle.sp_runs.specs.Worlds.{Direction, World, frame_in, frames_in, is_me, node_in}
use Rattle.sp_schedule_crafts.specs.Objects.{body_of}
use Rattle.sp_schedule_crafts.specs.declared.object.CraftedObject.{CraftedObject}
use Rattle.sp_schedule_events.specs.declared.event.Event.{Event}
use Rattle.sp_schedule_events.specs.declared.event.Event.TheVariants as events
use Rattle.sp_schedule_events.specs.declared.scenario.Scenario.{Scenario}
use Rattle.sp_topology.specs.Neighbours.{joins}
use Rattle.laws_node.proofs.HeldBoots.{boot_fits}
use Rattle.laws_runs.proofs.Neighbours.{links_have_their_keys}
use Rattle.laws_runs.proofs.Signed.{signs}
use Rattle.laws_runs.specs.Signs.{Good, sizes_at}
use Rattle.laws_runs_format.proofs.FrameLengths.{frames_have_their_length}
use Rattle.laws_runs_format.proofs.Headers.{headers_fit}
use Rattle.laws_runs_format.proofs.ReadBack.{format_carries}
use Rattle.laws_runs_format.specs.Arts.{arts_of}
use Rattle.sp_world.proofs.Booting.{few_edges}
use Rattle.sp_world.proofs.Standing.{fits, of_format}
use Rattle.sp_world.specs.Stands.{CanCraft, ComesToOne, IsOfFormat, IsEdgeOf, Stands}
use Rattle.sp_world_steps.proofs.Among.{place_of_any}

-- ---- a frame that was made

-- it isn't missing
there_is : (frame : Option (List ℕ)) (runs : Bool) → (not runs || not (is_some frame)) ≡ false → frame ≡ None → ⊥
there_is (Some bytes) runs e none = cc
there_is None true e none = cc
there_is None false e none = cc

pub pass_there : (w : World) (e : Event) (u v : NodeId) (number : ℕ) → comes_to_nobody w e ≡ false → e ≡ events.Pass u v number
    → frame_in w.directions u v number ≡ None → ⊥
pass_there w e u v number some is none =
    there_is (frame_in w.directions u v number) (list_any (is_me v) w.nodes) (subst (λ (f : Event). comes_to_nobody w f ≡ false) is some) none

pub flip_there : (w : World) (e : Event) (u v : NodeId) (number back bit : ℕ) → comes_to_nobody w e ≡ false → e ≡ events.Flip u v number back bit
    → frame_in w.directions u v number ≡ None → ⊥
flip_there w e u v number back bit some is none =
    there_is (frame_in w.directions u v number) (list_any (is_me v) w.nodes) (subst (λ (f : Event). comes_to_nobody w f ≡ false) is some) none

in_place : (frames : List (Option (List ℕ))) (before : ℕ) (bytes : List ℕ) → option_and_then (λ frame. frame) (slice_get frames before) ≡ Some bytes
    → slice_get frames before ≡ Some (Some bytes)
in_place frames before bytes at = go (slice_get frames before) at
  where
    go : (o : Option (Option (List ℕ))) → option_and_then (λ frame. frame) o ≡ Some bytes → o ≡ Some (Some bytes)
    go None e = absurd cc
    go (Some None) e = absurd cc
    go (Some (Some x)) e = ap Some e

pub frame_is_long : (s : Scenario) (es : List Event) (js : List Entry) (w : World) (e : Event) → Stands s es js w e
    → (u v : NodeId) (number : ℕ) (bytes : List ℕ)
    → frame_in w.directions u v number ≡ Some bytes → 64 ≤ length bytes
frame_is_long s es js w e st u v zero bytes at = absurd (cc)
frame_is_long s es js w e st u v (suc before) bytes at =
    let long = (frames_have_their_length s es js w st.header st.clean u v before bytes (in_place (frames_in w.directions u v) before bytes at)).least in
    omega (arith, long)

-- ---- a frame that is passed or changed

pub pass_comes : (ds : List Direction) (u v : NodeId) (number : ℕ) (bytes : List ℕ) → frame_in ds u v number ≡ Some bytes
    → option_map (Datagram u) (frame_in ds u v number) ≡ Some (Datagram u bytes)
pass_comes ds u v number bytes is = ap (option_map (Datagram u)) is

pub flip_comes : (ds : List Direction) (u v : NodeId) (number back bit : ℕ) (bytes : List ℕ)
    → option_map (flipped back bit) (frame_in ds u v number) ≡ Some bytes
    → option_map (λ bytes. Datagram u (flipped back bit bytes)) (frame_in ds u v number) ≡ Some (Datagram u bytes)
flip_comes ds u v number back bit bytes is = go (frame_in ds u v number) is
  where
    go : (frame : Option (List ℕ)) → option_map (flipped back bit) frame ≡ Some bytes
        → option_map (λ bytes. Datagram u (flipped back bit bytes)) frame ≡ Some (Datagram u bytes)
    go None is = absurd (cc)
    go (Some frame) is = ap (option_map (Datagram u)) is

-- ---- an edge between two nodes

edge_there : (s : Scenario) (es : List Event) (js : List Entry) (w : World) (e : Event) → Stands s es js w e → (c v : NodeId)
    → IsTrue (is_hop (setting_of s) c v) → IsEdgeOf s c v
edge_there s es js w e st c v hop =
    let place = place_of_any (joins c.0 v.0) s.graph.edges hop in
    record { few = few_edges s st.header; edge = place.0; joined = place.1 }

can_craft : (s : Scenario) (es : List Event) (js : List Entry) (w : World) (e : Event) → ComesToOne s es js w e → (c v : NodeId)
    → acting e ≡ v → IsTrue (is_hop (setting_of s) c v) → CanCraft s w.nodes c v
can_craft s es js w e comes c v acts hop =
    let st = comes.stands in
    let edge = edge_there s es js w e st c v hop in
    let first = subst (IsOfFormat s.format w.nodes) acts (of_format s es js w e st comes.somebody) in
    record {
      first = first;
      edge = edge;
      keyed = links_have_their_keys (arts_of (setting_of s)) (setting_of s) es js w (fits s es js w e st) (format_carries s.format) st.clean c v first.node
          edge.edge first.is_there edge.joined;
    }

pub craft_may : (s : Scenario) (es : List Event) (js : List Entry) (w : World) (e : Event) (c v key : NodeId) (object : CraftedObject)
    → ComesToOne s es js w e → e ≡ events.Craft c v key object → CanCraft s w.nodes c v
craft_may s es js w e c v key object comes is =
    let now = subst (ComesToOne s es js w) is comes in
    can_craft s es js w (events.Craft c v key object) now c v refl now.stands.range.fields.1

pub status_may : (s : Scenario) (es : List Event) (js : List Entry) (w : World) (e : Event) (c v a b : NodeId) (base have : ℕ)
    → ComesToOne s es js w e → e ≡ events.CraftStatus c v a b base have → CanCraft s w.nodes c v
status_may s es js w e c v a b base have comes is =
    let now = subst (ComesToOne s es js w) is comes in
    can_craft s es js w (events.CraftStatus c v a b base have) now c v refl now.stands.range.fields.1

pub version_may : (s : Scenario) (es : List Event) (js : List Entry) (w : World) (e : Event) (c v : NodeId) (key version : ℕ) (weights : Option (List ℕ))
    → ComesToOne s es js w e → e ≡ events.CraftDocument c v key version weights → CanCraft s w.nodes c v
version_may s es js w e c v key version weights comes is =
    let now = subst (ComesToOne s es js w) is comes in
    can_craft s es js w (events.CraftDocument c v key version weights) now c v refl now.stands.range.fields.1

-- ---- what is crafted is good, with the boots that the node holds

dated_good : (format : ℕ) (lives : List Life) (body : Body) → ((v : NodeId) → IsInRange (boot_field format) (held_boot lives v)) → HasGoodFieldsIn format body
    → HasGoodFieldsIn format (dated lives body)
dated_good format lives (bodies.Prio p) small good =
    let old = good_prio format p good in
    prio_is_good format (record p { sboot = held_boot lives p.src }) (record {
      src = old.src;
      dst = old.dst;
      sboot = small p.src;
      seq = old.seq;
      prio = old.prio;
      expiry = old.expiry;
      mask = old.mask;
      payload = old.payload;
    })
dated_good format lives (bodies.Rel r) small good =
    let old = good_rel format r good in
    rel_is_good format (record r { sboot = held_boot lives r.src; dboot = held_boot lives r.dst })
    (record { src = old.src; dst = old.dst; sboot = small r.src; dboot = small r.dst; seq = old.seq; payload = old.payload })
dated_good format lives (bodies.Ack a) small good =
    let old = good_ack format a good in
    ack_is_good format (record a { sboot = held_boot lives a.src; dboot = held_boot lives a.dst })
    (record { src = old.src; dst = old.dst; sboot = small a.src; dboot = small a.dst; seq = old.seq })
dated_good format lives (bodies.Weight w) small good = good
dated_good format lives (bodies.Krel r) small good = (good.0, (good.1.0, (good.1.1.0, (small r.src, (small r.dst, good.1.1.1.1.1)))))
dated_good format lives (bodies.Kack a) small good = (good.0, (good.1.0, (good.1.1.0, (small a.src, (small a.dst, good.1.1.1.1.1)))))
dated_good format lives (bodies.Epoch o) small good = good

pub said_good : (s : Scenario) (es : List Event) (js : List Entry) (w : World) (e : Event) (c v key : NodeId) (object : CraftedObject)
    → ComesToOne s es js w e → e ≡ events.Craft c v key object → (n : NodeState) → node_in w.nodes v ≡ Some n
    → HasGoodFieldsIn s.format (dated n.parts.lives (body_of object))
said_good s es js w e c v key object comes is n at =
    let x = setting_of s in
    let now = subst (ComesToOne s es js w) is comes in
    let st = now.stands in
    let P = Good (arts_of x) x es js in
    let holds = ((signs (arts_of x) x es js w (headers_fit s st.header) (format_carries s.format) st.clean).nodes v n at).holds in
    dated_good s.format n.parts.lives (body_of object) (λ u. boot_fits (sizes_at x P v) n.parts.lives u holds.parts.lives) st.range.fields.3
