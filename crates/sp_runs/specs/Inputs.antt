-- What reaches the node that acts: what its clients and its clock say, and the bytes that the network and the adversary bring.
use Rattle.std.specs.Prelude.{ℕ, ◌+◌, ◌-◌, ◌^◌, ◌==◌, ◌||◌, nat_lt, unwrap_or, Bool, false, List, [], ◌∷◌}
use Rattle.std.specs.Prelude.{◌++◌, length, count_by, bit_xor, slice_index_or, slice_set, Option, None, Some, option_map, if◌then◌else◌}
use Rattle.sp_base.specs.declared.id.Flow.{Flow}
use Rattle.sp_base.specs.declared.id.NodeId.{NodeId}
use Rattle.sp_frame.specs.Reliable.{Report}
use Rattle.sp_frame.specs.Sections.{Contents, with_document}
use Rattle.sp_frame.specs.declared.head.Head.{Head}
use Rattle.sp_msg.specs.declared.body.Body.{Body}
use Rattle.sp_msg.specs.declared.body.Body.TheVariants as bodies
use Rattle.sp_msg.specs.declared.kept.Kept.{Kept}
use Rattle.sp_rules.specs.Arts.{Arts}
use Rattle.sp_rules.specs.Flow.{flow_said}
use Rattle.sp_rules.specs.Node.{NodeState, link_in}
use Rattle.sp_rules.specs.Steps.{Input, Poll, Datagram, Publish, Tick, SendKrel, SendRel, SendPrio, SetWeight, TakeKrel, TakeRel, TakePrio}
use Rattle.sp_rules.specs.Topologies.{weights_in}
use Rattle.sp_runs.specs.Settings.{Setting}
use Rattle.sp_rules.specs.Lives.{held_boot}
use Rattle.sp_rules.specs.declared.lives.Life.{Life}
use Rattle.sp_runs.specs.Worlds.{Crafted, World, crafts, frame_in}
use Rattle.sp_schedule_crafts.specs.Objects.{body_of}
pub use Rattle.sp_schedule_events.specs.Acting.{acting}
use Rattle.sp_schedule_events.specs.Documents.{with_list}
use Rattle.sp_schedule_events.specs.declared.published.Published.{Published}
use Rattle.sp_schedule_events.specs.declared.event.Event.{Event}
use Rattle.sp_schedule_events.specs.declared.event.Event.TheVariants as events

-- ---- a frame on its way is changed in one bit

-- this bit, 0 the least, of the byte that stands so far from the end, 1 the last
abbrev pub flipped : ℕ → ℕ → List ℕ → List ℕ
flipped back bit bytes = slice_set bytes (length bytes - back) (bit_xor (slice_index_or bytes (length bytes - back) 0) (2 ^ bit))

-- ---- a neighbour crafts a frame under the right tag. It is fresh, unless the pair that is kept of the neighbour says otherwise

-- the counter after the greatest that was fresh, as far as there is one
abbrev pub counter_after : ℕ → ℕ
counter_after counter = if counter == 2 ^ 64 - 1 then counter else counter + 1

-- the head of a frame of c for this node
abbrev pub crafted_head : NodeState → NodeId → Head
crafted_head n c = record {
  from = c;
  to = n.fixed.me;
  boot = 1;
  echo = n.fixed.boot;
  counter = counter_after (link_in n c).seen.1;
  topology = n.live.version;
  format = n.fixed.topology.format;
}

-- a report on this flow, with the boots that the node holds of its ends
abbrev pub report_on : List Life → Flow → (base have : ℕ) → Option Kept → List Kept → Report
report_on lives flow base have ack rels = record {
  flow = flow;
  sboot = held_boot lives flow.src;
  dboot = held_boot lives flow.dst;
  base = base;
  have = have;
  ack = ack;
  rels = rels;
}

-- these updates, priority messages and this report, and nothing else
abbrev pub contents_with : List Kept → List (ℕ × Kept) → Option Report → Contents
contents_with weights prios slot =
    record { document = None; weights = weights; prio_ack = 0; prios = prios; slot = slot; paths = None; probe = None; epoch = None }

-- a slot of this flow with a report, an acknowledgement and messages, and nothing else
abbrev pub slot_alone : List Life → Flow → (base have : ℕ) → Option Kept → List Kept → Contents
slot_alone lives flow base have ack rels = contents_with [] [] (Some (report_on lives flow base have ack rels))

-- the same of a flow on paths
abbrev pub paths_alone : List Life → Flow → Option Kept → List Kept → Contents
paths_alone lives flow ack rels = record (contents_with [] [] None) { paths = Some (report_on lives flow 0 0 ack rels) }

-- one object in its section. What no schedule crafts has none
abbrev pub object_alone : List Life → Body → Kept → Contents
object_alone lives (bodies.Prio p) o = contents_with [] ((1, o) ∷ []) None
object_alone lives (bodies.Rel r) o = slot_alone lives (flow_said (bodies.Rel r)) 0 0 None (o ∷ [])
object_alone lives (bodies.Ack a) o = slot_alone lives (flow_said (bodies.Ack a)) 0 0 (Some o) []
object_alone lives (bodies.Weight w) o = contents_with (o ∷ []) [] None
object_alone lives (bodies.Krel r) o = paths_alone lives (flow_said (bodies.Krel r)) None (o ∷ [])
object_alone lives (bodies.Kack a) o = paths_alone lives (flow_said (bodies.Kack a)) (Some o) []
object_alone lives _ o = contents_with [] [] None

-- a frame of this head with these sections, under the tag of this key
abbrev pub sealed_frame : Arts → Head → (key : List ℕ) → Contents → List ℕ
sealed_frame arts head key contents =
    let untagged = arts.frame head contents in
    untagged ++ arts.tag key untagged

-- a frame of c for this node with these sections, under the tag of their edge
abbrev pub crafted_frame : Arts → NodeState → NodeId → Contents → List ℕ
crafted_frame arts n c contents = sealed_frame arts (crafted_head n c) (link_in n c).key contents

-- a message as the node takes it: with the boots that it holds of the ends
abbrev pub dated : List Life → Body → Body
dated lives (bodies.Prio p) = bodies.Prio (record p { sboot = held_boot lives p.src })
dated lives (bodies.Rel r) = bodies.Rel (record r { sboot = held_boot lives r.src; dboot = held_boot lives r.dst })
dated lives (bodies.Ack a) = bodies.Ack (record a { sboot = held_boot lives a.src; dboot = held_boot lives a.dst })
dated lives (bodies.Krel r) = bodies.Krel (record r { sboot = held_boot lives r.src; dboot = held_boot lives r.dst })
dated lives (bodies.Kack a) = bodies.Kack (record a { sboot = held_boot lives a.src; dboot = held_boot lives a.dst })
dated lives body = body

-- the message with the next signature of the crafting signer of this key
abbrev pub crafted_object : Arts → Setting → List Crafted → NodeId → Body → Kept
crafted_object arts x crafted key body =
    record { body = body; signature = arts.sign x.topology.height (x.seed key.0) (crafts crafted key) (arts.spell body) }

-- the sections that bring it to the node
abbrev pub crafted_contents : Arts → Setting → List Crafted → NodeState → NodeId → Body → Contents
crafted_contents arts x crafted n key body =
    let said = dated n.parts.lives body in
    object_alone n.parts.lives said (crafted_object arts x crafted key said)

-- ---- documents of the administrator

-- the weights of the last version that was published: those of the setting before one was
abbrev pub last_weights : Setting → Published → List ℕ
last_weights x last = unwrap_or last.weights (weights_in x.topology.edges)

-- the document that the administrator hands out where this is the last version
abbrev pub handed_out : Setting → Published → List ℕ
handed_out x last = x.document last.version (last_weights x last)

-- the crafting signer of this key has an index left. That of the administrator signs each version with an index of its own
abbrev pub may_sign : Setting → List Crafted → (key : ℕ) → Bool
may_sign x crafted key = (key == 0) || nat_lt (crafts crafted (record { 0 = key })) x.total

-- a document of this version with these weights: the administrator's where the key is 0, and else under the key of a node
abbrev pub crafted_document : Arts → Setting → List Crafted → (key version : ℕ) → (weights : List ℕ) → List ℕ
crafted_document arts x crafted key version weights =
    if key == 0 then x.document version weights
    else x.unsigned version weights ++ arts.sign x.topology.height (x.seed key) (crafts crafted (record { 0 = key })) (x.unsigned version weights)

-- ---- what reaches it. None where there is no such frame, or the crafting signer is spent; and a start and a stop bring nothing

-- what an event brings to the node that acts
abbrev pub input_of : Arts → Setting → World → NodeState → Event → Option Input
input_of arts x w n (events.Rel s d payload) = Some (SendRel d payload)
input_of arts x w n (events.Prio s d prio expiry paths payload) =
    Some (SendPrio (record { dst = d; prio = prio; expiry = expiry; paths = paths; payload = payload }))
input_of arts x w n (events.Krel s d paths payload) = Some (SendKrel (record { dst = d; paths = paths; payload = payload }))
input_of arts x w n (events.Take d s) = Some (TakeRel s)
input_of arts x w n (events.KTake d s) = Some (TakeKrel s)
input_of arts x w n (events.TakePrio d) = Some TakePrio
input_of arts x w n (events.Tick u now) = Some (Tick now)
input_of arts x w n (events.Weight u v weight) = Some (SetWeight v weight)
input_of arts x w n (events.Poll u v) = Some (Poll v)
input_of arts x w n (events.Pass u v number) = option_map (Datagram u) (frame_in w.directions u v number)
input_of arts x w n (events.Flip u v number back bit) = option_map (λ bytes. Datagram u (flipped back bit bytes)) (frame_in w.directions u v number)
input_of arts x w n (events.Inject u v bytes) = Some (Datagram u bytes)
input_of arts x w n (events.Craft c v key object) =
    if nat_lt (crafts w.crafted key) x.total
    then Some (Datagram c (crafted_frame arts n c (crafted_contents arts x w.crafted n key (body_of object))))
    else None
input_of arts x w n (events.CraftStatus c v s d base have) =
    Some (Datagram c (crafted_frame arts n c (slot_alone n.parts.lives (record { src = s; dst = d }) base have None [])))
input_of arts x w n (events.Publish u weights) = Some (Publish (handed_out x (with_list w.published weights)))
input_of arts x w n (events.CraftDocument c v key version weights) =
    if may_sign x w.crafted key
    then Some (Datagram c (crafted_frame arts n c
    (with_document (crafted_document arts x w.crafted key version (unwrap_or weights (last_weights x w.published))))))
    else None
input_of arts x w n (events.Start u) = None
input_of arts x w n (events.Stop u) = None
