-- Where a turn may break off.
use Rattle.std.proofs.Common.{◌≡◌, ◌+◌, ℕ, Bool, true, List, [], ◌∷◌, ◌++◌, Option, None, Some, Result, Ok, Err, OnErr, OnOk, refl, sym, ap, ◌∙◌, subst}
use Rattle.std.proofs.Common.{append_assoc, append-nil, inl, inr}
use Rattle.std.specs.Prelude.{IsErrAnd}
use Rattle.sp_base.specs.declared.id.NodeId.{NodeId}
use Rattle.sp_keystate.specs.declared.key_state.KeyState.{KeyState}
use Rattle.sp_outside.specs.Calls.{Call, Came, Got, Nothing, Received, Sent, Tells}
use Rattle.sp_outside.specs.declared.side.Side.TheVariants.{Overlay, Client}
use Rattle.sp_recording.specs.declared.line.Line.{Line}
use Rattle.sp_recording.specs.declared.line.Line.TheVariants as lines
use Rattle.sp_service_turns.specs.Done.{Done, Gets, Overheard, Restocked, Served, Ticked}
use Rattle.sp_service_turns.specs.Early.{BeginsLine, Early, EarlyCame, EarlyClient, EarlyOverlay, EarlyPoll, EarlyRestock, EarlyTick, GetsFront, IfBroken}
use Rattle.sp_service_turns.specs.Indexes.{UsesAtMost}
use Rattle.sp_service_turns.specs.Inputs.{Datagram, Input, Poll, Request, Steps, Tick}
use Rattle.sp_service_turns.specs.Outside.{KeptFile, Outside, Text}
use Rattle.sp_service_turns.specs.Turns.{Moves, Turn, calls_of, client_lines, lines_of, node_at, overlay_line, overlay_lines, poll_lines, reserve_lines}
use Rattle.sp_service_turns.specs.Turns.{tick_line, told}
use Rattle.sp_service_turns.specs.Verified.{Agrees, Is_silent, Is_so, Starts, asked}
use Rattle.sp_service_turns.specs.declared.ended.Ended.{Ended}
use Rattle.sp_service_turns.specs.declared.ended.Ended.TheVariants as ended
use Rattle.sp_service_turns.specs.declared.indexes.Indexes.{Indexes}
use Rattle.sp_service_turns.specs.declared.peer.Peer.{Peer}
use Rattle.sp_service_turns.proofs.RecordedLemmas.{heard, one, reserved}
use Rattle.sp_service_turns.proofs.TextLemmas.{front_on, front_whole, gets_on, tells_itself, tells_no_more, tells_on}
use Rattle.sp_service_turns.proofs.TurnLemmas.{arrives, whole}

pub on_ok_by : {T E : Type 0} (r : Result T E) (P Q : Type 0) → (P → Q) → OnOk r P → OnOk r Q
on_ok_by (Ok x) P Q go h = go h
on_ok_by (Err e) P Q go h = tt

-- an end that a caller hands on
pub broken_on : {U : Type 0} (T : Type 0) (r : Result U Ended) (e : Ended) {P Q : Type 0} → IsErrAnd r (λ x. x ≡ e) → (P → Q) → IfBroken {T = T} (Err e) P
    → IfBroken r Q
broken_on {U} T (Ok x) e {P} {Q} is go h = absurd is
broken_on {U} T (Err e) d {P} {Q} is go h = same e (subst (λ (x : Ended). IfBroken {T = T} (Err x) P) (sym is) h)
  where
    same : (x : Ended) → IfBroken {T = T} (Err x) P → IfBroken {T = U} (Err x) Q
    same ended.Sink k = go k
    same ended.Memory k = go k
    same (ended.Keys refused) k = tt

-- ---- the lines that were begun

-- those of which the recording got a beginning are the first of these, and agree with steps of the node
pub record Begun {N : Type 0} (steps : Steps N) (old : N) (ls : List Line) (before after : Text) : Type 0 where
  pub begun : List Line
  pub later : List Line
  pub front : begun ++ later ≡ ls
  pub new : N
  pub count : ℕ
  pub agrees : Agrees steps old begun new count
  pub text : GetsFront before after begun

widen : {N : Type 0} (steps : Steps N) (old : N) (ls more all : List Line) (b0 b1 : Text) → Begun steps old ls b0 b1 → ls ++ more ≡ all
    → Begun steps old all b0 b1
widen steps old ls more all b0 b1 b same = record {
  begun = b.begun;
  later = b.later ++ more;
  front = sym (append_assoc b.begun b.later more) ∙ ap (λ (l : List Line). l ++ more) b.front ∙ same;
  new = b.new;
  count = b.count;
  agrees = b.agrees;
  text = b.text;
}

module _ {N : Type 0} (steps : Steps N) (first n : N) (ls : List Line) (count : ℕ) (b0 b1 b2 : Text) (agrees : Agrees steps first ls n count)
    (text : Gets b0 b1 ls) where
  unbegun : (line : Line) → b2 ≡ b1 → Begun steps first (ls ++ line ∷ []) b0 b2
  unbegun line same = record {
    begun = ls;
    later = line ∷ [];
    front = refl;
    new = n;
    count = count;
    agrees = agrees;
    text = subst (λ (b : Text). GetsFront b0 b ls) (sym same) (front_whole b0 b1 ls text);
  }

  line_begun : (line : Line) (new : N) (k : ℕ) → Agrees steps first (ls ++ line ∷ []) new k → GetsFront b1 b2 (line ∷ [])
      → Begun steps first (ls ++ line ∷ []) b0 b2
  line_begun line new k more front = record {
    begun = ls ++ line ∷ [];
    later = [];
    front = append-nil (ls ++ line ∷ []);
    new = new;
    count = k;
    agrees = more;
    text = front_on b0 b1 b2 ls (line ∷ []) text front;
  }

  begins : (input : Input) (line : List ℕ → Line) → ((a : List ℕ) → asked (line a) ≡ Some (record { input = input; digest = told a }))
      → BeginsLine steps n input line b1 b2
      → (answer : List ℕ) × Begun steps first (ls ++ line answer ∷ []) b0 b2
  begins input line asks (inl same) = ([], unbegun (line []) same)
  begins input line asks (inr (answer, new, step, front)) =
      (answer, line_begun (line answer) new (count + 1) (Is_so (line answer) _ answer agrees (asks answer) step refl) front)

  came_begins : (node : Option NodeId) (port : ℕ) (bytes : List ℕ) → EarlyCame steps node n port bytes b1 b2
      → (arrived : List ℕ) × Begun steps first (ls ++ overlay_line node port bytes arrived ∷ []) b0 b2
  came_begins None port bytes front = ([], line_begun (lines.Stray port) n count (Is_silent (lines.Stray port) agrees refl refl) front)
  came_begins (Some node) port bytes line = begins (Datagram node bytes) (overlay_line (Some node) port bytes) (λ a. refl) line

  poll_begins : (polled : Option Peer) → EarlyPoll steps polled n b1 b2 → (frame : List ℕ) × Begun steps first (ls ++ poll_lines frame polled) b0 b2
  poll_begins None early = absurd early
  poll_begins (Some peer) line = begins (Poll peer.node) (λ frame. lines.Poll peer.node (told frame)) (λ a. refl) line

-- ---- the turn so far

abbrev seen : Option (List Call) → Option (List ℕ) → Text → KeptFile → Outside
seen wire clock text file = record { wire = wire; clock = clock; text = text; file = file }

abbrev so_far : Option ℕ → ℕ → List ℕ → Got → List ℕ → Got → List ℕ → Turn
so_far upto now ticked overlay arrived client reply = record {
  reserved = upto;
  now = now;
  ticked = ticked;
  overlay = overlay;
  arrived = arrived;
  client = client;
  reply = reply;
  is_replied = true;
  frame = [];
  is_sent = true;
}

no_more : {X : Type 0} (x : X) (xs : List X) → x ∷ xs ≡ [] → ⊥
no_more x xs is = absurd (cc)

nested : (a b c d e : List Line) → (((a ++ b) ++ c) ++ d) ++ e ≡ a ++ (b ++ (c ++ (d ++ e)))
nested a b c d e = append_assoc ((a ++ b) ++ c) d e ∙ append_assoc (a ++ b) c (d ++ e) ∙ append_assoc a b (c ++ (d ++ e))

pub at_restock : {N : Type 0} (steps : Steps N) (indexes : N → Indexes) (peers : List Peer) (polled : Option Peer) {n : N} {keys : KeyState} {f f0 : KeptFile}
    {w : Option (List Call)}
    {c : Option (List ℕ)} {b b0 : Text} → EarlyRestock steps indexes n keys f f0 b b0 → Early steps indexes peers polled n keys (seen w c b f) (seen w c b0 f0)
at_restock steps indexes peers polled {n} {keys} {f} {f0} {w} {c} {b} {b0} early =
    let t = so_far (Some early.upto) 0 [] Nothing [] Nothing [] in
    record {
      t = t;
      due = early.due;
      file = early.file;
      reading = record { first = []; rest = 0 ∷ []; front = refl; told = tells_itself c };
      calls = record { first = []; rest = calls_of None t; front = refl; told = tells_itself w };
      replied = λ none. absurd (no_more _ _ none);
      begun = reserve_lines (Some early.upto);
      later = tick_line 0 [] ∷ poll_lines [] polled;
      front = refl;
      new = early.new;
      count = 0;
      agrees = Is_silent (lines.Reserve early.upto) Starts refl early.step;
      text = early.text;
    }

module _ {N : Type 0} (steps : Steps N) (indexes : N → Indexes) (peers : List Peer) (polled : Option Peer) {n n0 : N} {keys keys_now : KeyState}
    {f f0 : KeptFile} {b b0 : Text}
    (r : Restocked steps indexes n n0 keys keys_now f f0 b b0) where
  pub at_tick : {w : Option (List Call)} {c0 c1 : Option (List ℕ)} {b1 : Text} → EarlyTick steps n0 c0 c1 b0 b1
      → Early steps indexes peers polled n keys (seen w c0 b f) (seen w c1 b1 f0)
  at_tick {w} {c0} {c1} {b1} early =
      let ls = reserve_lines r.reserved in
      let a = reserved steps indexes n r.reserved n n0 [] 0 Starts r.step in
      let ticked = begins steps n n0 ls a.0 b b0 b1 a.1 r.text (Tick early.now) (tick_line early.now) (λ x. refl) early.line in
      let t = so_far r.reserved early.now ticked.0 Nothing [] Nothing [] in
      let lines = widen steps n (ls ++ tick_line early.now ticked.0 ∷ []) (poll_lines [] polled) (lines_of peers polled t) b b1 ticked.1
      (append_assoc ls (tick_line early.now ticked.0 ∷ []) (poll_lines [] polled)) in
      record {
        t = t;
        due = r.due;
        file = r.file;
        reading = record { first = early.now ∷ []; rest = []; front = refl; told = early.reading };
        calls = record { first = []; rest = calls_of None t; front = refl; told = tells_itself w };
        replied = λ none. absurd (no_more _ _ none);
        begun = lines.begun;
        later = lines.later;
        front = lines.front;
        new = lines.new;
        count = lines.count;
        agrees = lines.agrees;
        text = lines.text;
      }

  module _ {n1 : N} {c0 c1 : Option (List ℕ)} {b1 : Text} (tick : Ticked steps n0 n1 c0 c1 b0 b1) where
    upto_tick : (k : ℕ) × Agrees steps n (reserve_lines r.reserved ++ tick_line tick.now tick.answer ∷ []) n1 k
    upto_tick =
        let a = reserved steps indexes n r.reserved n n0 [] 0 Starts r.step in
        (a.0 + 1, Is_so (tick_line tick.now tick.answer) _ tick.answer a.1 refl tick.step refl)

    ticked_text : Gets b b1 (reserve_lines r.reserved ++ tick_line tick.now tick.answer ∷ [])
    ticked_text = gets_on b b0 b1 (reserve_lines r.reserved) (tick_line tick.now tick.answer ∷ []) r.text tick.text

    pub at_overlay : {w0 w1 : Option (List Call)} {b2 : Text} → EarlyOverlay steps peers n1 w0 w1 b1 b2
        → Early steps indexes peers polled n keys (seen w0 c0 b f) (seen w1 c1 b2 f0)
    at_overlay {w0} {w1} {b2} early =
        let ls = reserve_lines r.reserved ++ tick_line tick.now tick.answer ∷ [] in
        let came = came_begins steps n n1 ls upto_tick.0 b b1 b2 upto_tick.1 ticked_text (node_at peers early.port) early.port early.bytes early.line in
        let t = so_far r.reserved tick.now tick.answer (Came early.port early.bytes) came.0 Nothing [] in
        let over = overlay_lines peers came.0 (Came early.port early.bytes) in
        let lines = widen steps n (ls ++ over) (poll_lines [] polled) (lines_of peers polled t) b b2 came.1
        (append_assoc ls over (poll_lines [] polled)
        ∙ append_assoc (reserve_lines r.reserved) (tick_line tick.now tick.answer ∷ []) (over ++ poll_lines [] polled)) in
        record {
          t = t;
          due = r.due;
          file = r.file;
          reading = record { first = tick.now ∷ []; rest = []; front = refl; told = tick.reading };
          calls = record { first = Received Overlay (Came early.port early.bytes) ∷ []; rest = Received Client Nothing ∷ []; front = refl; told = early.calls };
          replied = λ none. absurd (no_more _ _ none);
          begun = lines.begun;
          later = lines.later;
          front = lines.front;
          new = lines.new;
          count = lines.count;
          agrees = lines.agrees;
          text = lines.text;
        }

    module _ {n2 : N} {w0 w1 : Option (List Call)} {b2 : Text} {x : ℕ} (o : Overheard steps peers n1 n2 w0 w1 b1 b2 x) where
      pub at_client : {w2 : Option (List Call)} {b3 : Text} → EarlyClient steps n2 w1 w2 b2 b3
          → Early steps indexes peers polled n keys (seen w0 c0 b f) (seen w2 c1 b3 f0)
      at_client {w2} {b3} early =
          let a = arrives steps peers o.got n1 n2 b1 b2 x o.heard in
          let over = overlay_lines peers a.arrived o.got in
          let tick_lines = tick_line tick.now tick.answer ∷ [] in
          let ls = (reserve_lines r.reserved ++ tick_lines) ++ over in
          let far = heard steps indexes n peers a.arrived o.got n1 n2 (reserve_lines r.reserved ++ tick_lines) upto_tick.0 upto_tick.1 a.hears in
          let text = gets_on b b1 b2 (reserve_lines r.reserved ++ tick_lines) over ticked_text a.text in
          let reply = begins steps n n2 ls far.0 b b2 b3 far.1 text (Request early.port early.bytes) (λ reply. lines.Client early.port early.bytes (told reply))
          (λ x. refl) early.line in
          let t = so_far r.reserved tick.now tick.answer o.got a.arrived (Came early.port early.bytes) reply.0 in
          let served = client_lines reply.0 (Came early.port early.bytes) in
          let lines = widen steps n (ls ++ served) (poll_lines [] polled) (lines_of peers polled t) b b3 reply.1
          (nested (reserve_lines r.reserved) tick_lines over served (poll_lines [] polled)) in
          record {
            t = t;
            due = r.due;
            file = r.file;
            reading = record { first = tick.now ∷ []; rest = []; front = refl; told = tick.reading };
            calls = record {
              first = Received Overlay o.got ∷ Received Client (Came early.port early.bytes) ∷ [];
              rest = Sent Client early.port reply.0 true ∷ [];
              front = refl;
              told = tells_on w0 w1 w2 (Received Overlay o.got ∷ []) (Received Client (Came early.port early.bytes) ∷ []) o.calls early.calls;
            };
            replied = λ none. absurd (no_more _ _ none);
            begun = lines.begun;
            later = lines.later;
            front = lines.front;
            new = lines.new;
            count = lines.count;
            agrees = lines.agrees;
            text = lines.text;
          }

      module _ (tick_uses : UsesAtMost 2 (indexes n0) (indexes n1)) (overlay_uses : UsesAtMost 0 (indexes n1) (indexes n2)) {n3 : N} {w2 : Option (List Call)} {b3 : Text}
          {y : ℕ}
          (s : Served steps n2 n3 w1 w2 b2 b3 y) where
        but_its_poll : Done steps indexes peers None n n3 keys keys_now (seen w0 c0 b f) (seen w2 c1 b3 f0) (x + y + 0)
        but_its_poll =
            whole steps indexes peers None n n0 n1 n2 n3 n3 keys keys_now f f0 w0 w1 w2 w2 c0 c1 b b0 b1 b2 b3 b3 x y 0 r tick tick_uses o overlay_uses s
            (refl, refl, refl, refl)

        pub at_poll : {w3 : Option (List Call)} {b4 : Text} → w3 ≡ w2 → EarlyPoll steps polled n3 b3 b4
            → Early steps indexes peers polled n keys (seen w0 c0 b f) (seen w3 c1 b4 f0)
        at_poll {w3} {b4} silent early =
            let d = but_its_poll in
            let m = d.moves in
            let ls = lines_of peers None d.t in
            let a = one steps indexes n peers None d.t n n3 [] 0 Starts m in
            let poll = poll_begins steps n n3 ls a.0 b b3 b4 a.1 d.text polled early in
            let t : Turn = record d.t { frame = poll.0 } in
            let over = overlay_lines peers d.t.arrived d.t.overlay in
            let served = client_lines d.t.reply d.t.client in
            let tick_lines = tick_line d.t.now d.t.ticked ∷ [] in
            let last = poll_lines poll.0 polled in
            let same : ls ++ last ≡ lines_of peers polled t =
            append_assoc (reserve_lines d.t.reserved) (tick_lines ++ (over ++ (served ++ []))) last
            ∙ ap (λ (l : List Line). reserve_lines d.t.reserved ++ (tick_lines ++ l))
            (append_assoc over (served ++ []) last ∙ ap (λ (l : List Line). over ++ l) (append_assoc served [] last)) in
            let lines = widen steps n (ls ++ last) [] (lines_of peers polled t) b b4 poll.1 (append-nil (ls ++ last) ∙ same) in
            record {
              t = t;
              due = m.due;
              file = d.file;
              reading = record { first = d.t.now ∷ []; rest = []; front = refl; told = d.reading };
              calls = record {
                first = calls_of None t;
                rest = [];
                front = append-nil (calls_of None t);
                told = subst (λ (w : Option (List Call)). Tells w0 w (calls_of None t)) (sym silent) d.calls;
              };
              replied = λ none. (
                n3,
                record {
                  after_reserve = m.after_reserve;
                  after_tick = m.after_tick;
                  after_overlay = m.after_overlay;
                  after_client = m.after_client;
                  due = m.due;
                  reserve = m.reserve;
                  tick = m.tick;
                  overlay = m.overlay;
                  client = m.client;
                  poll = m.poll;
                  tick_supplied = m.tick_supplied;
                  client_supplied = m.client_supplied;
                },
              );
              begun = lines.begun;
              later = lines.later;
              front = lines.front;
              new = lines.new;
              count = lines.count;
              agrees = lines.agrees;
              text = lines.text;
            }
