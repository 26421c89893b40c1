-- One turn more.
use Rattle.std.proofs.Common.{◌≡◌, ◌≤◌, ℕ, ◌+◌, Bool, true, false, List, [], ◌∷◌, ◌++◌, length, map, Option, Some, None, refl, sym, ap, subst, ◌∙◌}
use Rattle.std.proofs.Common.{append_assoc, append-nil, arith}
use Rattle.std.proofs.lemmas.List.{length_push}
use Rattle.sp_keystate.specs.declared.key_state.KeyState.{KeyState}
use Rattle.sp_outside.specs.Calls.{Call, Came, Got, Lost, Nothing, Tells}
use Rattle.sp_recording.specs.declared.line.Line.{Line}
use Rattle.sp_service_turns.specs.Daemons.{HasMade, MakesTurn}
use Rattle.sp_service_turns.specs.Done.{Gets}
use Rattle.sp_service_turns.specs.Inputs.{Steps}
use Rattle.sp_service_turns.specs.Keys.{FileMoves, HoldsKeys, keys_after}
use Rattle.sp_service_turns.specs.Outside.{KeptFile, Outside}
use Rattle.sp_service_turns.specs.Runs.{FileMovesOn, MovesOn, all_calls, all_lines, all_lost, keys_on, polled_by}
use Rattle.sp_service_turns.specs.Turns.{Moves, Turn, calls_of, lines_of, lost_in, lost_of, lost_poll, lost_reply, unless}
use Rattle.sp_service_turns.specs.declared.daemon.Daemon.{Daemon}
use Rattle.sp_service_turns.specs.declared.indexes.Indexes.{Indexes}
use Rattle.sp_service_turns.specs.declared.peer.Peer.{Peer}
use Rattle.sp_service_turns.proofs.TextLemmas.{gets_itself, gets_on, tells_itself, tells_on}

moves_on : {N : Type 0} (steps : Steps N) (indexes : N → Indexes) (peers : List Peer) (turn : ℕ) (ts : List Turn) (t : Turn) (a b c : N)
    → MovesOn steps indexes peers turn ts a b
    → Moves steps indexes peers (polled_by peers (turn + length ts)) t b c → MovesOn steps indexes peers turn (ts ++ t ∷ []) a c
moves_on steps indexes peers turn [] t a b c h m = (
  c,
  subst (λ (x : _). Moves steps indexes peers (polled_by peers turn) t x c) h
      (subst (λ (n : ℕ). Moves steps indexes peers (polled_by peers n) t b c) (omega arith) m),
  refl,
)
moves_on steps indexes peers turn (x ∷ ts) t a b c h m = (
  h.0,
  h.1,
  moves_on steps indexes peers (turn + 1) ts t h.0 b c h.2
      (subst (λ (n : ℕ). Moves steps indexes peers (polled_by peers n) t b c) (omega arith) m),
)

calls_on : (peers : List Peer) (turn : ℕ) (ts : List Turn) (t : Turn)
    → all_calls peers turn (ts ++ t ∷ []) ≡ all_calls peers turn ts ++ calls_of (polled_by peers (turn + length ts)) t
calls_on peers turn [] t =
    append-nil (calls_of (polled_by peers turn) t) ∙ ap (λ (n : ℕ). calls_of (polled_by peers n) t) (let e : turn ≡ turn + 0 = omega arith in e)
calls_on peers turn (x ∷ ts) t =
    ap (λ (l : List Call). calls_of (polled_by peers turn) x ++ l) (calls_on peers (turn + 1) ts t)
    ∙ sym (append_assoc (calls_of (polled_by peers turn) x) (all_calls peers (turn + 1) ts) (calls_of (polled_by peers (turn + 1 + length ts)) t))
    ∙ ap (λ (n : ℕ). (calls_of (polled_by peers turn) x ++ all_calls peers (turn + 1) ts) ++ calls_of (polled_by peers n) t)
    (let e : turn + 1 + length ts ≡ turn + length (x ∷ ts) = omega arith in e)

lines_on : (peers : List Peer) (turn : ℕ) (ts : List Turn) (t : Turn)
    → all_lines peers turn (ts ++ t ∷ []) ≡ all_lines peers turn ts ++ lines_of peers (polled_by peers (turn + length ts)) t
lines_on peers turn [] t =
    append-nil (lines_of peers (polled_by peers turn) t) ∙ ap (λ (n : ℕ). lines_of peers (polled_by peers n) t) (let e : turn ≡ turn + 0 = omega arith in e)
lines_on peers turn (x ∷ ts) t =
    ap (λ (l : List Line). lines_of peers (polled_by peers turn) x ++ l) (lines_on peers (turn + 1) ts t)
    ∙ sym (append_assoc (lines_of peers (polled_by peers turn) x) (all_lines peers (turn + 1) ts) (lines_of peers (polled_by peers (turn + 1 + length ts)) t))
    ∙ ap (λ (n : ℕ). (lines_of peers (polled_by peers turn) x ++ all_lines peers (turn + 1) ts) ++ lines_of peers (polled_by peers n) t)
    (let e : turn + 1 + length ts ≡ turn + length (x ∷ ts) = omega arith in e)

lost_on : (peers : List Peer) (turn : ℕ) (ts : List Turn) (t : Turn)
    → all_lost peers turn (ts ++ t ∷ []) ≡ all_lost peers turn ts + lost_of (polled_by peers (turn + length ts)) t
lost_on peers turn [] t = ap (λ (n : ℕ). lost_of (polled_by peers n) t + 0) (let e : turn ≡ turn + 0 = omega arith in e) ∙ omega arith
lost_on peers turn (x ∷ ts) t =
    let rest = lost_on peers (turn + 1) ts t in
    let same : lost_of (polled_by peers (turn + 1 + length ts)) t ≡ lost_of (polled_by peers (turn + length (x ∷ ts))) t =
    ap (λ (n : ℕ). lost_of (polled_by peers n) t) (let e : turn + 1 + length ts ≡ turn + length (x ∷ ts) = omega arith in e) in
    omega (arith, rest, same)

-- ---- the key file

keys_more : (keys : KeyState) (ts : List Turn) (t : Turn) → keys_on keys (ts ++ t ∷ []) ≡ keys_after (keys_on keys ts) t.reserved
keys_more keys [] t = refl
keys_more keys (x ∷ ts) t = keys_more (keys_after keys x.reserved) ts t

files_more : (keys : KeyState) (ts : List Turn) (t : Turn) (a b c : KeptFile) → FileMovesOn keys ts a b → FileMoves t.reserved (keys_on keys ts) b c
    → FileMovesOn keys (ts ++ t ∷ []) a c
files_more keys [] t a b c same move = (c, subst (λ (f : KeptFile). FileMoves t.reserved keys f c) same move, refl)
files_more keys (x ∷ ts) t a b c on move = (on.0, on.1, files_more (keys_after keys x.reserved) ts t on.0 b c on.2 move)

-- ---- the clock

nows_on : (ts : List Turn) (t : Turn) → map (λ u. u.now) (ts ++ t ∷ []) ≡ map (λ u. u.now) ts ++ t.now ∷ []
nows_on [] t = refl
nows_on (x ∷ ts) t = ap (λ (l : List ℕ). x.now ∷ l) (nows_on ts t)

-- ---- a daemon

module _ {N : Type 0} (steps : Steps N) (indexes : N → Indexes) where
  pub none_made : (d : Daemon N) (o : Outside) → d.turns ≡ 0 → d.lost ≡ 0 → HoldsKeys o.file.disk d.keys (indexes d.node) → HasMade steps indexes 0 d d o o
  none_made d o turns lost held = record {
    turns = [];
    made = refl;
    ran = record { moves = refl; calls = tells_itself o.wire; readings = tells_itself o.clock; text = gets_itself o.text; file = refl; held = held };
    keys = refl;
    counted = turns;
    lost_are = lost;
    peers = refl;
  }

  pub made_more : (count : ℕ) (d0 d1 d2 : Daemon N) (o0 o1 o2 : Outside) → HasMade steps indexes count d0 d1 o0 o1 → MakesTurn steps indexes d1 d2 o1 o2
      → HoldsKeys o2.file.disk d2.keys (indexes d2.node) → HasMade steps indexes (count + 1) d0 d2 o0 o2
  made_more count d0 d1 d2 o0 o1 o2 r m held =
      let ts = r.turns in
      let t = m.done.t in
      let near = ap (λ v. v.items) r.peers in
      let at : d1.turns ≡ 0 + length ts = omega (arith, r.counted, r.made) in
      let p : polled_by d1.peers.items d1.turns ≡ polled_by d0.peers.items (0 + length ts) =
      ap (λ (n : ℕ). polled_by d1.peers.items n) at ∙ ap (λ (ps : List Peer). polled_by ps (0 + length ts)) near in
      let o : Option Peer = polled_by d0.peers.items (0 + length ts) in
      let moves : Moves steps indexes d0.peers.items o t d1.node d2.node = subst (λ (ps : List Peer). Moves steps indexes ps o t d1.node d2.node) near
      (subst (λ (q : Option Peer). Moves steps indexes d1.peers.items q t d1.node d2.node) p m.done.moves) in
      let text : Gets o1.text o2.text (lines_of d0.peers.items o t) = subst (λ (ps : List Peer). Gets o1.text o2.text (lines_of ps o t)) near
      (subst (λ (q : Option Peer). Gets o1.text o2.text (lines_of d1.peers.items q t)) p m.done.text) in
      let keys : d2.keys ≡ keys_on d0.keys (ts ++ t ∷ []) =
      m.done.keys ∙ ap (λ (k : KeyState). keys_after k t.reserved) r.keys ∙ sym (keys_more d0.keys ts t) in
      let lost = lost_on d0.peers.items 0 ts t in
      let same : lost_of (polled_by d1.peers.items d1.turns) t ≡ lost_of o t = ap (λ (q : Option Peer). lost_of q t) p in
      record {
        turns = ts ++ t ∷ [];
        made = length_push ts t ∙ omega (arith, r.made);
        ran = record {
          moves = moves_on steps indexes d0.peers.items 0 ts t d0.node d1.node d2.node r.ran.moves moves;
          calls = subst (λ (l : List Call). Tells o0.wire o2.wire l) (sym (calls_on d0.peers.items 0 ts t))
              (tells_on o0.wire o1.wire o2.wire _ _ r.ran.calls (subst (λ (q : Option Peer). Tells o1.wire o2.wire (calls_of q t)) p m.done.calls));
          readings = subst (λ (l : List ℕ). Tells o0.clock o2.clock l) (sym (nows_on ts t))
              (tells_on o0.clock o1.clock o2.clock _ _ r.ran.readings m.done.reading);
          text = subst (λ (l : List Line). Gets o0.text o2.text l) (sym (lines_on d0.peers.items 0 ts t))
              (gets_on o0.text o1.text o2.text (all_lines d0.peers.items 0 ts) (lines_of d0.peers.items o t) r.ran.text text);
          file = files_more d0.keys ts t o0.file o1.file o2.file r.ran.file
              (subst (λ (k : KeyState). FileMoves t.reserved k o1.file o2.file) r.keys m.done.file);
          held = subst (λ (k : KeyState). HoldsKeys o2.file.disk k (indexes d2.node)) keys held;
        };
        keys = keys;
        counted = omega (arith, m.counted, r.counted);
        lost_are = omega (arith, lost, same, m.lost_is, r.lost_are, m.done.lost_are);
        peers = m.peers ∙ r.peers;
      }

-- ---- how many are lost

one_or_none : (b : Bool) → unless b ≤ 1
one_or_none true = omega arith
one_or_none false = omega arith

one_heard : (g : Got) → lost_in g ≤ 1
one_heard Nothing = omega arith
one_heard Lost = omega arith
one_heard (Came port bytes) = omega arith

one_reply : (is_replied : Bool) (g : Got) → lost_reply is_replied g ≤ 1
one_reply is_replied Nothing = omega arith
one_reply is_replied Lost = omega arith
one_reply is_replied (Came port bytes) = one_or_none is_replied

one_poll : (is_sent : Bool) (o : Option Peer) → lost_poll is_sent o ≤ 1
one_poll is_sent None = omega arith
one_poll is_sent (Some peer) = one_or_none is_sent

pub four_lost : (o : Option Peer) (t : Turn) → lost_of o t ≤ 4
four_lost o t = omega (arith, one_heard t.overlay, one_heard t.client, one_reply t.is_replied t.client, one_poll t.is_sent o)
