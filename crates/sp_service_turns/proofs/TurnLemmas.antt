-- The parts of a turn, one after another, are the turn.
use Rattle.std.proofs.Common.{◌≡◌, ℕ, ◌+◌, Bool, true, List, [], ◌∷◌, ◌++◌, Option, None, Some, arith}
use Rattle.sp_base.specs.declared.id.NodeId.{NodeId}
use Rattle.sp_outside.specs.Calls.{Call, Got, Nothing, Lost, Came as Came_in, Received, Tells}
use Rattle.sp_outside.specs.declared.side.Side.TheVariants.{Client}
use Rattle.sp_service_turns.specs.Done.{Came, Done, Gets, IsOverheard, IsServed, Overheard, PolledNext, Restocked, Served, Ticked}
use Rattle.sp_service_turns.specs.Outside.{KeptFile, Text}
use Rattle.sp_keystate.specs.declared.key_state.KeyState.{KeyState}
use Rattle.sp_service_turns.specs.Indexes.{HaveLeft, UsesAtMost}
use Rattle.sp_service_turns.specs.declared.indexes.Indexes.{Indexes}
use Rattle.sp_service_turns.specs.Inputs.{Steps}
use Rattle.sp_service_turns.specs.Turns.{Hears, HearsFrom, Polls, Replies, Turn, client_lines, lost_in, lost_poll, lost_reply, node_at, overlay_line}
use Rattle.sp_service_turns.specs.Turns.{overlay_lines, poll_calls, poll_lines, reply_calls, reserve_lines, tick_line}
use Rattle.sp_service_turns.specs.declared.peer.Peer.{Peer}
use Rattle.sp_service_turns.proofs.KeyLemmas.{left_after, left_less}
use Rattle.sp_service_turns.proofs.TextLemmas.{gets_no_more, gets_on, tells_no_more, tells_on}

-- ---- the overlay side

pub record Arrives {N : Type 0} (steps : Steps N) (peers : List Peer) (got : Got) (old new : N) (before after : Text) (lost : ℕ) : Type 0 where
  pub arrived : List ℕ
  pub hears : Hears steps peers arrived old got new
  pub text : Gets before after (overlay_lines peers arrived got)
  pub lost_is : lost ≡ lost_in got

came : {N : Type 0} (steps : Steps N) (node : Option NodeId) (old new : N) (port : ℕ) (bytes : List ℕ) (before after : Text)
    → Came steps node old port bytes new before after
    → (arrived : List ℕ) × HearsFrom steps node arrived old bytes new × Gets before after (overlay_line node port bytes arrived ∷ [])
came steps (Some node) old new port bytes before after h = h
came steps None old new port bytes before after h = ([], h.0, h.1)

pub arrives : {N : Type 0} (steps : Steps N) (peers : List Peer) (got : Got) (old new : N) (before after : Text) (lost : ℕ)
    → IsOverheard steps peers got old new before after lost
    → Arrives steps peers got old new before after lost
arrives steps peers (Came_in port bytes) old new before after lost h =
    let c = came steps (node_at peers port) old new port bytes before after h.0 in
    record { arrived = c.0; hears = c.1; text = c.2; lost_is = h.1 }
arrives steps peers Nothing old new before after lost h = record { arrived = []; hears = h.0; text = gets_no_more before after h.1; lost_is = h.2 }
arrives steps peers Lost old new before after lost h = record { arrived = []; hears = h.0; text = gets_no_more before after h.1; lost_is = h.2 }

-- ---- the client side

pub record Answers {N : Type 0} (steps : Steps N) (got : Got) (old new : N) (w0 w1 : Option (List Call)) (before after : Text) (lost : ℕ) : Type 0 where
  pub reply : List ℕ
  pub is_replied : Bool
  pub replies : Replies steps reply old got new
  pub calls : Tells w0 w1 (reply_calls reply is_replied got)
  pub text : Gets before after (client_lines reply got)
  pub lost_is : lost ≡ lost_in got + lost_reply is_replied got

pub answers : {N : Type 0} (steps : Steps N) (got : Got) (old new : N) (w0 w1 : Option (List Call)) (before after : Text) (lost : ℕ)
    → IsServed steps got old new w0 w1 before after lost
    → Answers steps got old new w0 w1 before after lost
answers steps (Came_in port bytes) old new w0 w1 before after lost h =
    record { reply = h.reply; is_replied = h.sent.is_sent; replies = h.step; calls = h.sent.calls; text = h.text; lost_is = omega (arith, h.sent.lost_is) }
answers steps Nothing old new w0 w1 before after lost h =
    record { reply = []; is_replied = true; replies = h.0; calls = tells_no_more w0 w1 h.1; text = gets_no_more before after h.2; lost_is = h.3 }
answers steps Lost old new w0 w1 before after lost h =
    record { reply = []; is_replied = true; replies = h.0; calls = tells_no_more w0 w1 h.1; text = gets_no_more before after h.2; lost_is = h.3 }

-- ---- the poll

pub record Frames {N : Type 0} (steps : Steps N) (polled : Option Peer) (old new : N) (w0 w1 : Option (List Call)) (before after : Text) (lost : ℕ) : Type 0
  where
    pub frame : List ℕ
    pub is_sent : Bool
    pub polls : Polls steps frame old polled new
    pub calls : Tells w0 w1 (poll_calls frame is_sent polled)
    pub text : Gets before after (poll_lines frame polled)
    pub lost_is : lost ≡ lost_poll is_sent polled

frames : {N : Type 0} (steps : Steps N) (polled : Option Peer) (old new : N) (w0 w1 : Option (List Call)) (before after : Text) (lost : ℕ)
    → PolledNext steps polled old new w0 w1 before after lost
    → Frames steps polled old new w0 w1 before after lost
frames steps (Some peer) old new w0 w1 before after lost h =
    record { frame = h.frame; is_sent = h.sent.is_sent; polls = h.step; calls = h.sent.calls; text = h.text; lost_is = h.sent.lost_is }
frames steps None old new w0 w1 before after lost h =
    record { frame = []; is_sent = true; polls = h.0; calls = tells_no_more w0 w1 h.1; text = gets_no_more before after h.2; lost_is = h.3 }

-- ---- the turn

pub whole : {N : Type 0} (steps : Steps N) (indexes : N → Indexes) (peers : List Peer) (polled : Option Peer) (n n0 n1 n2 n3 n4 : N) (keys keys_now : KeyState)
    (f f0 : KeptFile)
    (w0 w1 w2 w3 : Option (List Call)) (c0 c1 : Option (List ℕ)) (b b0 b1 b2 b3 b4 : Text) (x y z : ℕ) → Restocked steps indexes n n0 keys keys_now f f0 b b0
    → Ticked steps n0 n1 c0 c1 b0 b1 → UsesAtMost 2 (indexes n0) (indexes n1) → Overheard steps peers n1 n2 w0 w1 b1 b2 x → UsesAtMost 0 (indexes n1) (indexes n2)
    → Served steps n2 n3 w1 w2 b2 b3 y → PolledNext steps polled n3 n4 w2 w3 b3 b4 z
    → Done steps indexes peers polled n n4 keys keys_now (record { wire = w0; clock = c0; text = b; file = f })
    (record { wire = w3; clock = c1; text = b4; file = f0 }) (x + y + z)
whole steps indexes peers polled n n0 n1 n2 n3 n4 keys keys_now f f0 w0 w1 w2 w3 c0 c1 b b0 b1 b2 b3 b4 x y z restock tick tick_uses overlay overlay_uses client
    poll =
    let a = arrives steps peers overlay.got n1 n2 b1 b2 x overlay.heard in
    let r = answers steps client.got n2 n3 client.wire_between w2 b2 b3 y client.served in
    let f = frames steps polled n3 n4 w2 w3 b3 b4 z poll in
    let t : Turn = record {
      reserved = restock.reserved;
      now = tick.now;
      ticked = tick.answer;
      overlay = overlay.got;
      arrived = a.arrived;
      client = client.got;
      reply = r.reply;
      is_replied = r.is_replied;
      frame = f.frame;
      is_sent = f.is_sent;
    } in
    let served : Tells w1 w2 ((Received Client client.got ∷ []) ++ reply_calls r.reply r.is_replied client.got) =
    tells_on w1 client.wire_between w2 (Received Client client.got ∷ []) (reply_calls r.reply r.is_replied client.got) client.calls r.calls in
    let left : HaveLeft 4 (indexes n0) = restock.left in
    let after_tick = left_after 2 2 (indexes n0) (indexes n1) tick_uses left in
    record {
      t = t;
      moves = record {
        after_reserve = n0;
        after_tick = n1;
        after_overlay = n2;
        after_client = n3;
        due = restock.due;
        reserve = restock.step;
        tick = tick.step;
        overlay = a.hears;
        client = r.replies;
        poll = f.polls;
        tick_supplied = left_less 2 (indexes n0) (left_less 3 (indexes n0) left);
        client_supplied = left_after 0 2 (indexes n1) (indexes n2) overlay_uses after_tick;
      };
      calls = tells_on w0 w1 w3 _ _ overlay.calls (tells_on w1 w2 w3 _ _ served f.calls);
      reading = tick.reading;
      text = gets_on b b0 b4 (reserve_lines restock.reserved) _ restock.text
          (gets_on b0 b1 b4 (tick_line t.now t.ticked ∷ []) _ tick.text
          (gets_on b1 b2 b4 (overlay_lines peers a.arrived overlay.got) _ a.text
          (gets_on b2 b3 b4 (client_lines r.reply client.got) (poll_lines f.frame polled) r.text f.text)));
      keys = restock.keys;
      file = restock.file;
      lost_are = omega (arith, a.lost_is, r.lost_is, f.lost_is);
    }
