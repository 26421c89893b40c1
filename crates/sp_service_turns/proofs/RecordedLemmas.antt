-- What a daemon records agrees with its node's steps.
use Rattle.std.proofs.Common.{◌≡◌, ℕ, ◌+◌, List, [], ◌∷◌, ◌++◌, Option, None, Some, refl, sym, subst, ◌∙◌, append_assoc, append-nil}
use Rattle.sp_base.specs.declared.id.NodeId.{NodeId}
use Rattle.sp_outside.specs.Calls.{Came, Got, Lost, Nothing}
use Rattle.sp_recording.specs.declared.line.Line.{Line}
use Rattle.sp_recording.specs.declared.line.Line.TheVariants as lines
use Rattle.sp_service_turns.specs.Inputs.{Steps}
use Rattle.sp_service_turns.specs.Runs.{MovesOn, all_lines, polled_by}
use Rattle.sp_service_turns.specs.Turns.{Hears, HearsFrom, Moves, Polls, Replies, Restocks, Turn, client_lines, lines_of, node_at, overlay_line, overlay_lines}
use Rattle.sp_service_turns.specs.Turns.{poll_lines, reserve_lines, tick_line, told}
use Rattle.sp_service_turns.specs.declared.indexes.Indexes.{Indexes}
use Rattle.sp_service_turns.specs.Verified.{Agrees, Is_silent, Is_so, RecordingsAgree, Starts}
use Rattle.sp_service_turns.specs.declared.peer.Peer.{Peer}

module _ {N : Type 0} (steps : Steps N) (indexes : N → Indexes) (first : N) where
  no_lines : (old new : N) (before : List Line) (count : ℕ) → Agrees steps first before old count → new ≡ old
      → (n : ℕ) × Agrees steps first (before ++ []) new n
  no_lines old new before count a same =
      (count, subst (λ (l : List Line). Agrees steps first l new count) (sym (append-nil before)) (subst (λ x. Agrees steps first before x count) (sym same) a))

  heard_from : (node : Option NodeId) (arrived : List ℕ) (old new : N) (port : ℕ) (bytes : List ℕ) (before : List Line) (count : ℕ)
      → Agrees steps first before old count
      → HearsFrom steps node arrived old bytes new → (n : ℕ) × Agrees steps first (before ++ overlay_line node port bytes arrived ∷ []) new n
  heard_from (Some node) arrived old new port bytes before count a h = (count + 1, Is_so (lines.Overlay node bytes (told arrived)) _ arrived a refl h refl)
  heard_from None arrived old new port bytes before count a h = (count, Is_silent (lines.Stray port) a refl h)

  pub heard : (peers : List Peer) (arrived : List ℕ) (got : Got) (old new : N) (before : List Line) (count : ℕ) → Agrees steps first before old count
      → Hears steps peers arrived old got new
      → (n : ℕ) × Agrees steps first (before ++ overlay_lines peers arrived got) new n
  heard peers arrived (Came port bytes) old new before count a h = heard_from (node_at peers port) arrived old new port bytes before count a h
  heard peers arrived Nothing old new before count a h = no_lines old new before count a h
  heard peers arrived Lost old new before count a h = no_lines old new before count a h

  replied : (reply : List ℕ) (got : Got) (old new : N) (before : List Line) (count : ℕ) → Agrees steps first before old count → Replies steps reply old got new
      → (n : ℕ) × Agrees steps first (before ++ client_lines reply got) new n
  replied reply (Came port bytes) old new before count a h = (count + 1, Is_so (lines.Client port bytes (told reply)) _ reply a refl h refl)
  replied reply Nothing old new before count a h = no_lines old new before count a h
  replied reply Lost old new before count a h = no_lines old new before count a h

  polled : (frame : List ℕ) (o : Option Peer) (old new : N) (before : List Line) (count : ℕ) → Agrees steps first before old count → Polls steps frame old o new
      → (n : ℕ) × Agrees steps first (before ++ poll_lines frame o) new n
  polled frame (Some peer) old new before count a h = (count + 1, Is_so (lines.Poll peer.node (told frame)) _ frame a refl h refl)
  polled frame None old new before count a h = no_lines old new before count a h

  pub reserved : (upto : Option ℕ) (old new : N) (before : List Line) (count : ℕ) → Agrees steps first before old count → Restocks steps upto old new
      → (n : ℕ) × Agrees steps first (before ++ reserve_lines upto) new n
  reserved (Some upto) old new before count a h = (count, Is_silent (lines.Reserve upto) a refl h)
  reserved None old new before count a h = no_lines old new before count a h

  -- one turn
  pub one : (peers : List Peer) (o : Option Peer) (t : Turn) (old new : N) (before : List Line) (count : ℕ) → Agrees steps first before old count
      → Moves steps indexes peers o t old new
      → (n : ℕ) × Agrees steps first (before ++ lines_of peers o t) new n
  one peers o t old new before count a m =
      let more = reserve_lines t.reserved in
      let line = tick_line t.now t.ticked in
      let over = overlay_lines peers t.arrived t.overlay in
      let served = client_lines t.reply t.client in
      let frame = poll_lines t.frame o in
      let r = reserved t.reserved old m.after_reserve before count a m.reserve in
      let b : Agrees steps first ((before ++ more) ++ line ∷ []) m.after_tick (r.0 + 1) = Is_so line _ t.ticked r.1 refl m.tick refl in
      let c = heard peers t.arrived t.overlay m.after_tick m.after_overlay ((before ++ more) ++ line ∷ []) (r.0 + 1) b m.overlay in
      let d = replied t.reply t.client m.after_overlay m.after_client (((before ++ more) ++ line ∷ []) ++ over) c.0 c.1 m.client in
      let e = polled t.frame o m.after_client new ((((before ++ more) ++ line ∷ []) ++ over) ++ served) d.0 d.1 m.poll in
      let same : (((((before ++ more) ++ line ∷ []) ++ over) ++ served) ++ frame) ≡ before ++ lines_of peers o t =
      append_assoc (((before ++ more) ++ line ∷ []) ++ over) served frame ∙ append_assoc ((before ++ more) ++ line ∷ []) over (served ++ frame)
      ∙ append_assoc (before ++ more) (line ∷ []) (over ++ (served ++ frame)) ∙ append_assoc before more ((line ∷ []) ++ (over ++ (served ++ frame))) in
      (e.0, subst (λ (l : List Line). Agrees steps first l new e.0) same e.1)

  many : (peers : List Peer) (turn : ℕ) (ts : List Turn) (old new : N) (before : List Line) (count : ℕ) → Agrees steps first before old count
      → MovesOn steps indexes peers turn ts old new
      → (n : ℕ) × Agrees steps first (before ++ all_lines peers turn ts) new n
  many peers turn [] old new before count a same = no_lines old new before count a same
  many peers turn (t ∷ ts) old new before count a m =
      let b = one peers (polled_by peers turn) t old m.0 before count a m.1 in
      let c = many peers (turn + 1) ts m.0 new (before ++ lines_of peers (polled_by peers turn) t) b.0 b.1 m.2 in (
        c.0,
        subst (λ (l : List Line). Agrees steps first l new c.0)
            (append_assoc before (lines_of peers (polled_by peers turn) t) (all_lines peers (turn + 1) ts)) c.1,
      )

-- all turns
pub recorded : {N : Type 0} (steps : Steps N) (indexes : N → Indexes) → RecordingsAgree steps indexes
recorded steps indexes peers ts old new m = many steps indexes old peers 0 ts old new [] 0 Starts m
