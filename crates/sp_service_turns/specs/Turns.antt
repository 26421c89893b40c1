-- One turn of a daemon as data: what was read, what the node answered, and what was sent. From it follow the calls of the wire, the lines of
-- the recording, and the steps of the node. A turn is, in this order:
--
--     the key file             more indexes for the node, if few are left      a reserve line
--     the clock is read        a tick of the node                      a tick line
--     the overlay side         a neighbour's datagram to the node      an overlay line, or a stray line for any other port
--     the client side          a request to the node                   a client line, and the reply is sent
--     the next neighbour       a poll of the node                      a poll line, and the frame is sent
use Rattle.std.specs.Prelude.{ℕ, ◌≡◌, ◌+◌, ◌==◌, Bool, true, false, List, [], ◌∷◌, ◌++◌, Option, None, Some, find, option_map}
use Rattle.sha2.specs.Sha256.{sha256}
use Rattle.sp_base.specs.declared.id.NodeId.{NodeId}
use Rattle.sp_outside.specs.declared.side.Side.TheVariants.{Overlay, Client}
use Rattle.sp_outside.specs.Calls.{Call, Got, Lost, Came, Received, Sent}
use Rattle.sp_recording.specs.LineTable.{digest_of}
use Rattle.sp_recording.specs.declared.line.Digest.{Digest}
use Rattle.sp_recording.specs.declared.line.Line.{Line}
use Rattle.sp_recording.specs.declared.line.Line.TheVariants as lines
use Rattle.sp_service_turns.specs.Indexes.{HaveLeft, reserved_by}
use Rattle.sp_service_turns.specs.Inputs.{Datagram, Poll, Request, Reserve, Steps, Tick}
use Rattle.sp_service_turns.specs.declared.indexes.Indexes.{Indexes}
use Rattle.sp_service_turns.specs.declared.peer.Peer.{Peer}

pub record Turn : Type 0 where
  -- the bound up to which indexes were reserved, if any were
  pub reserved : Option ℕ
  pub now : ℕ
  pub ticked : List ℕ
  pub overlay : Got
  -- what the node answered to a neighbour's datagram
  pub arrived : List ℕ
  pub client : Got
  -- the reply to a request
  pub reply : List ℕ
  pub is_replied : Bool
  -- the frame of the neighbour that is polled
  pub frame : List ℕ
  pub is_sent : Bool

-- the digest of what a node answered
unfoldable pub told : List ℕ → Digest
told answer = digest_of (sha256 answer)

-- the neighbour of a port
abbrev pub node_at : List Peer → ℕ → Option NodeId
node_at peers port = option_map (λ peer. peer.node) (find (λ peer. peer.port == port) peers)

-- ---- the calls

-- the send of a reply
abbrev pub reply_calls : List ℕ → Bool → Got → List Call
reply_calls reply is_replied (Came port bytes) = Sent Client port reply is_replied ∷ []
reply_calls reply is_replied _ = []

-- the send of a frame
abbrev pub poll_calls : List ℕ → Bool → Option Peer → List Call
poll_calls frame is_sent (Some peer) = Sent Overlay peer.port frame is_sent ∷ []
poll_calls frame is_sent None = []

-- of one turn, which polls this neighbour, if there is one
abbrev pub calls_of : Option Peer → Turn → List Call
calls_of polled t =
    (Received Overlay t.overlay ∷ []) ++ ((Received Client t.client ∷ reply_calls t.reply t.is_replied t.client) ++ poll_calls t.frame t.is_sent polled)

-- ---- the lines

-- the line of a reserve
abbrev pub reserve_lines : Option ℕ → List Line
reserve_lines None = []
reserve_lines (Some upto) = lines.Reserve upto ∷ []

-- the line of a tick
abbrev pub tick_line : ℕ → List ℕ → Line
tick_line now ticked = lines.Tick now (told ticked)

-- the line of a datagram, of a neighbour or of a stranger
abbrev pub overlay_line : Option NodeId → ℕ → List ℕ → List ℕ → Line
overlay_line (Some node) port bytes arrived = lines.Overlay node bytes (told arrived)
overlay_line None port bytes arrived = lines.Stray port

-- the line of what the overlay socket gave
abbrev pub overlay_lines : List Peer → List ℕ → Got → List Line
overlay_lines peers arrived (Came port bytes) = overlay_line (node_at peers port) port bytes arrived ∷ []
overlay_lines peers arrived _ = []

-- the line of what the client socket gave
abbrev pub client_lines : List ℕ → Got → List Line
client_lines reply (Came port bytes) = lines.Client port bytes (told reply) ∷ []
client_lines reply _ = []

-- the line of a poll
abbrev pub poll_lines : List ℕ → Option Peer → List Line
poll_lines frame (Some peer) = lines.Poll peer.node (told frame) ∷ []
poll_lines frame None = []

-- the lines of a turn, in their order
abbrev pub lines_of : List Peer → Option Peer → Turn → List Line
lines_of peers polled t =
    reserve_lines t.reserved
    ++ ((tick_line t.now t.ticked ∷ []) ++ (overlay_lines peers t.arrived t.overlay ++ (client_lines t.reply t.client ++ poll_lines t.frame polled)))

-- ---- the steps

-- the node after a reserve, if there was one
abbrev pub Restocks : {N : Type 0} → Steps N → Option ℕ → N → N → Type 0
Restocks steps (Some upto) old new = steps old (Reserve upto) [] new
Restocks steps None old new = new ≡ old

-- the node after a datagram of a neighbour; a stranger's changes nothing
abbrev pub HearsFrom : {N : Type 0} → Steps N → Option NodeId → List ℕ → N → List ℕ → N → Type 0
HearsFrom steps (Some node) arrived old bytes new = steps old (Datagram node bytes) arrived new
HearsFrom steps None arrived old bytes new = new ≡ old

-- the node after what the overlay socket gave
abbrev pub Hears : {N : Type 0} → Steps N → List Peer → List ℕ → N → Got → N → Type 0
Hears steps peers arrived old (Came port bytes) new = HearsFrom steps (node_at peers port) arrived old bytes new
Hears steps peers arrived old _ new = new ≡ old

-- the node after what the client socket gave
abbrev pub Replies : {N : Type 0} → Steps N → List ℕ → N → Got → N → Type 0
Replies steps reply old (Came port bytes) new = steps old (Request port bytes) reply new
Replies steps reply old _ new = new ≡ old

-- the node after the poll of a turn
abbrev pub Polls : {N : Type 0} → Steps N → List ℕ → N → Option Peer → N → Type 0
Polls steps frame old (Some peer) new = steps old (Poll peer.node) frame new
Polls steps frame old None new = new ≡ old

-- what a turn makes of the node, part by part
pub record Moves {N : Type 0} (steps : Steps N) (indexes : N → Indexes) (peers : List Peer) (polled : Option Peer) (t : Turn) (old new : N) : Type 0 where
  pub after_reserve : N
  pub after_tick : N
  pub after_overlay : N
  pub after_client : N
  -- it reserves exactly where few indexes are left, and the bound is the next
  pub due : t.reserved ≡ reserved_by (indexes old)
  pub reserve : Restocks steps t.reserved old after_reserve
  pub tick : steps after_reserve (Tick t.now) t.ticked after_tick
  pub overlay : Hears steps peers t.arrived after_tick t.overlay after_overlay
  pub client : Replies steps t.reply after_overlay t.client after_client
  pub poll : Polls steps t.frame after_client polled new
  -- what may sign is never asked for while an index is left that isn't reserved yet
  pub tick_supplied : HaveLeft 2 (indexes after_reserve)
  pub client_supplied : HaveLeft 2 (indexes after_overlay)

-- ---- what is lost

-- whether a receive failed: 1 or 0
abbrev pub lost_in : Got → ℕ
lost_in Lost = 1
lost_in _ = 0

-- whether a call failed: 1 or 0
abbrev pub unless : Bool → ℕ
unless true = 0
unless false = 1

-- whether the send of a reply failed: 1 or 0
abbrev pub lost_reply : Bool → Got → ℕ
lost_reply is_replied (Came port bytes) = unless is_replied
lost_reply is_replied _ = 0

-- whether the send of a frame failed: 1 or 0
abbrev pub lost_poll : Bool → Option Peer → ℕ
lost_poll is_sent (Some peer) = unless is_sent
lost_poll is_sent None = 0

-- how many calls of a turn failed
abbrev pub lost_of : Option Peer → Turn → ℕ
lost_of polled t = lost_in t.overlay + (lost_in t.client + (lost_reply t.is_replied t.client + lost_poll t.is_sent polled))
