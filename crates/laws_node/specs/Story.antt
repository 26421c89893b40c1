-- A worked story of three nodes in a row, 1 - 2 - 3: a message from 1 to 3, its acknowledgement back, and then as many messages as 1 may keep.
--
-- The arts are toys: a frame is one number for each field of its head and its slot, its tag is 32 times the number of its link's key, and the
-- signature of a node is its id. So all of it can be computed.
use Rattle.std.specs.Prelude.{ℕ, ◌==◌, true, false, List, [], ◌∷◌, ◌++◌, replicate, Option, None, Some, Ok, nat_eq, slice_index, if◌then◌else◌}
use Rattle.std.specs.Cmp.Lexicographic.{pointwise}
use Rattle.sp_base.specs.declared.id.NodeId.{NodeId}
use Rattle.sp_frame.specs.Frames.{opened}
use Rattle.sp_frame.specs.Reliable.{Report}
use Rattle.sp_frame.specs.Sections.{Contents}
use Rattle.sp_frame.specs.declared.head.Head.{Head}
use Rattle.sp_msg.specs.Bodies.{encoded, read_body}
use Rattle.sp_msg.specs.declared.body.Body.TheVariants as bodies
use Rattle.sp_msg.specs.declared.effect.Effect.{Effect}
use Rattle.sp_msg.specs.declared.kept.Kept.{Kept}
use Rattle.sp_rules.specs.Arts.{Arts}
use Rattle.sp_rules.specs.Flow.{number_said}
use Rattle.sp_rules.specs.Node.{NodeState, booted}
use Rattle.sp_rules.specs.Polls.{after_poll}
use Rattle.sp_rules.specs.Arrivals.{after_datagram}
use Rattle.sp_rules.specs.Sends.{after_send_rel, after_take_rel}
use Rattle.sp_rules.specs.Ticks.{after_tick}
use Rattle.sp_rules.specs.Rel as rel
use Rattle.sp_rules.specs.Steps.{Output, Reply, Frame, Payload, datagram_output, poll_output, replied, send_rel_output, tick_output}
use Rattle.sp_topology.specs.declared.topology.Edge.{Edge}
use Rattle.sp_topology.specs.declared.topology.LmsHeight.TheVariants.{Five}
use Rattle.sp_topology.specs.declared.topology.NodeKey.{NodeKey}
use Rattle.sp_topology.specs.declared.topology.Topology.{Topology}

abbrev pub node : ℕ → NodeId
node n = record { 0 = n }

-- ---- toy arts

-- message 1 says 68 69 in base 16, and all others nothing
abbrev pub payload_of : ℕ → List ℕ
payload_of number = if number == 1 then 104 ∷ 105 ∷ [] else []

-- an acknowledgement in a toy frame
abbrev pub ack_numbers : Option Kept → List ℕ
ack_numbers None = 0 ∷ 0 ∷ []
ack_numbers (Some o) = 1 ∷ number_said o.body ∷ []

-- the first message in a toy frame
abbrev pub rel_numbers : List Kept → List ℕ
rel_numbers [] = 0 ∷ 0 ∷ []
rel_numbers (o ∷ others) = 1 ∷ number_said o.body ∷ []

-- a slot in a toy frame
abbrev pub slot_numbers : Option Report → List ℕ
slot_numbers None = replicate 9 0
slot_numbers (Some r) = 1 ∷ r.flow.src.0 ∷ r.flow.dst.0 ∷ r.base ∷ r.have ∷ (ack_numbers r.ack ++ rel_numbers r.rels)

-- a frame as plain numbers
abbrev pub toy_frame : Head → Contents → List ℕ
toy_frame h c = 83 ∷ 73 ∷ 1 ∷ h.from.0 ∷ h.to.0 ∷ h.boot ∷ h.echo ∷ h.counter ∷ h.topology ∷ (slot_numbers c.slot ++ replicate 15 0)

-- the head of a toy frame
abbrev pub toy_head : List ℕ → Head
toy_head bytes = record {
  from = node (slice_index bytes 3);
  to = node (slice_index bytes 4);
  boot = slice_index bytes 5;
  echo = slice_index bytes 6;
  counter = slice_index bytes 7;
  topology = slice_index bytes 8;
  format = 1;
}

-- the acknowledgement of a toy frame
abbrev pub toy_ack : List ℕ → Option Kept
toy_ack b = if slice_index b 14 == 1 then Some (record {
  body = bodies.Ack (record { src = node (slice_index b 10); dst = node (slice_index b 11); sboot = 0; dboot = 0; seq = slice_index b 15 });
  signature = slice_index b 11 ∷ [];
}) else None

-- the messages of a toy frame
abbrev pub toy_rels : List ℕ → List Kept
toy_rels b = if slice_index b 16 == 1 then (record {
  body = bodies.Rel
      (record {
        src = node (slice_index b 10);
        dst = node (slice_index b 11);
        sboot = 0;
        dboot = 0;
        seq = slice_index b 17;
        payload =
            payload_of (slice_index b 17);
      });
  signature = slice_index b 10 ∷ [];
}) ∷ [] else []

-- the slot of a toy frame
abbrev pub toy_slot : List ℕ → Option Report
toy_slot b = if slice_index b 9 == 1 then Some (record {
  flow = record { src = node (slice_index b 10); dst = node (slice_index b 11) };
  sboot = 0;
  dboot = 0;
  base = slice_index b 12;
  have = slice_index b 13;
  ack = toy_ack b;
  rels = toy_rels b;
}) else None

-- arts whose frames, tags and signatures are plain numbers
abbrev pub toys : Arts
toys = record {
  opened = opened;
  head = toy_head;
  sections = λ len b. Ok (record {
    document = None;
    weights = [];
    prio_ack = 0;
    prios = [];
    slot = toy_slot b;
    paths = None;
    probe = None;
    epoch = None;
  });
  frame = toy_frame;
  is_document = λ b. false;
  read_document = λ b. None;
  tag = λ key bytes. replicate 32 (slice_index key 0);
  is_good = λ body. true;
  spell = encoded;
  read = λ bytes. read_body bytes;
  sign = λ height seed index message. seed;
  valid = λ key message signature. pointwise nat_eq key signature;
}

-- ---- three nodes in a row, which keep two messages of a flow, and four in a store

-- a node whose key is its number
abbrev pub key_of : ℕ → NodeKey
key_of n = record { id = node n; key = n ∷ [] }

-- an edge of weight 10
abbrev pub edge : ℕ → ℕ → Edge
edge low high = record { low = node low; high = node high; weight = 10 }

-- the topology of the three nodes
abbrev pub row : Topology
row = record { format = 1; version = 1; height = Five; nodes = key_of 1 ∷ key_of 2 ∷ key_of 3 ∷ []; edges = edge 1 2 ∷ edge 2 3 ∷ [] }

-- a node at its start
abbrev pub start : ℕ → List (List ℕ) → NodeState
start me keys =
    booted (record { me = node me; boot = 1; topology = row; document = []; signature_len = 1; admin = []; epochs = false })
    (record { seed = me ∷ []; index = 0; bound = 1024; total = 1024 }) keys 2 4

-- the three, and the frame that was polled last
pub record Three : Type 0 where
  pub one : NodeState
  pub two : NodeState
  pub three : NodeState
  pub frame : List ℕ

-- the three nodes at their start
abbrev pub begins : Three
begins = record { one = start 1 ((100 ∷ []) ∷ []); two = start 2 ((100 ∷ []) ∷ (101 ∷ []) ∷ []); three = start 3 ((101 ∷ []) ∷ []); frame = [] }

-- the node of a number
abbrev pub at : Three → ℕ → NodeState
at w n = if n == 1 then w.one else if n == 2 then w.two else w.three

-- the three nodes with one changed, and the last frame
abbrev pub put : Three → ℕ → NodeState → List ℕ → Three
put w n s frame = record {
  one = if n == 1 then s else w.one;
  two = if n == 2 then s else w.two;
  three = if n == 3 then s else w.three;
  frame = frame;
}

-- ---- what happens

-- what happens in the story
pub data Event : Type 0 where
  -- a client of a node sends
  Rel : (s d : ℕ) (payload : List ℕ) → Event
  Take : (d s : ℕ) → Event
  Tick : (u now : ℕ) → Event
  -- a node makes a frame for its neighbour
  Poll : (u v : ℕ) → Event
  -- the last frame arrives
  Pass : (u v : ℕ) → Event

-- the frame that a reply is
abbrev pub frame_of : Reply → List ℕ
frame_of (Frame bytes) = bytes
frame_of _ = []

-- what an event gives
abbrev pub output_of : Three → Event → Output
output_of w (Rel s d payload) = send_rel_output toys (at w s) (node d) payload
output_of w (Take d s) = replied (Payload (rel.oldest (at w d).parts.rel (node s)))
output_of w (Tick u now) = tick_output toys (at w u) now
output_of w (Poll u v) = poll_output toys (at w u) (node v)
output_of w (Pass u v) = datagram_output toys (at w v) (node u) w.frame

-- the three nodes after an event
abbrev pub after : Three → Event → Three
after w (Rel s d payload) = put w s (after_send_rel toys (at w s) (node d) payload) w.frame
after w (Take d s) = put w d (after_take_rel (at w d) (node s)) w.frame
after w (Tick u now) = put w u (after_tick toys (at w u) now) w.frame
after w (Poll u v) = put w u (after_poll (at w u) (node v)) (frame_of (output_of w (Poll u v)).reply)
after w (Pass u v) = put w v (after_datagram toys (at w v) (node u) w.frame) w.frame

-- a reply without the bytes of a frame, and what was caused
abbrev pub said : Reply → Reply
said (Frame bytes) = Frame []
said reply = reply

-- what is told of an output
abbrev pub entry : Output → Reply × List Effect
entry o = (said o.reply, o.effects)

-- what is told of the events, in order
abbrev pub journal : Three → List Event → List (Reply × List Effect)
journal w [] = []
journal w (e ∷ events) = entry (output_of w e) ∷ journal (after w e) events
