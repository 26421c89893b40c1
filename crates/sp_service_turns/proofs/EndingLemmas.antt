-- How a daemon ends that had written its first line, from its turns and how they ended.
use Rattle.std.proofs.Common.{◌≡◌, ◌<◌, ℕ, ◌++◌, ◌∷◌, List, length, map, Option, None, Some, Result, Ok, Err, IfErr, refl, sym, ap, ◌∙◌, subst, append-nil}
use Rattle.std.proofs.Common.{arith, inl, inr, []}
use Rattle.std.specs.List.{flat_map}
use Rattle.std.specs.Prelude.{IsErrAnd}
use Rattle.std.proofs.lemmas.Grind.{flat_map-append}
use Rattle.sp_keystate.specs.RefusedLines.{refused_line}
use Rattle.sp_keystate.specs.declared.key_state.KeyState.{KeyState}
use Rattle.sp_lines.specs.Rows.{line_text}
use Rattle.sp_outside.specs.Calls.{Call}
use Rattle.sp_recording.specs.RecordingText.{closing_words, line_words, lines_text, recording_text}
use Rattle.sp_recording.specs.declared.line.Closing.{Closing}
use Rattle.sp_recording.specs.declared.line.Line.{Line}
use Rattle.sp_recording.specs.declared.line.Opening.{Opening}
use Rattle.sp_service_turns.specs.Daemons.{Broken, EndsAfter, EndsTurn, Finishes, HasMade, Spent, Stopped, Whole, first_text, last_text}
use Rattle.sp_service_turns.specs.Early.{Early, IfBroken}
use Rattle.sp_service_turns.specs.Inputs.{Steps}
use Rattle.sp_service_turns.specs.Keys.{IfKeysEnd, IfKeysEndBy, NoMore}
use Rattle.sp_service_turns.specs.Outside.{KeptFile, Outside, Text}
use Rattle.sp_service_turns.specs.Runs.{closing_of, keys_on, polled_by}
use Rattle.sp_service_turns.specs.Told.{IsTold, Stops}
use Rattle.sp_service_turns.specs.declared.daemon.Daemon.{Daemon}
use Rattle.sp_service_turns.specs.declared.ended.Ended.{Ended}
use Rattle.sp_service_turns.specs.declared.ended.Ended.TheVariants as ended
use Rattle.sp_service_turns.specs.declared.indexes.Indexes.{Indexes}
use Rattle.sp_service_turns.specs.declared.peer.Peer.{Peer}
use Rattle.sp_service_turns.specs.declared.served.Served.{Served}
use Rattle.sp_service_turns.specs.declared.served.Served.TheVariants as served

-- ---- the parts of a recording's text

flat_of_map : (ls : List Line) → flat_map line_text (map line_words ls) ≡ lines_text ls
unfolding lines_text
flat_of_map [] = refl
flat_of_map (l ∷ ls) = ap (λ (rest : List ℕ). line_text (line_words l) ++ rest) (flat_of_map ls)

pub whole_text : (o : Opening) (ls : List Line) (c : Closing) → recording_text o ls (Some c) ≡ first_text o ++ (lines_text ls ++ last_text c)
unfolding recording_text
whole_text o ls c =
    ap (λ (rest : List ℕ). first_text o ++ rest)
    (flat_map-append line_text (map line_words ls) (closing_words c ∷ [])
    ∙ ap (λ (x : List ℕ). x ++ (last_text c ++ [])) (flat_of_map ls)
    ∙ ap (λ (x : List ℕ). lines_text ls ++ x) (append-nil (last_text c)))

pub open_text : (o : Opening) (ls : List Line) → recording_text o ls None ≡ first_text o ++ lines_text ls
unfolding recording_text
open_text o ls = ap (λ (rest : List ℕ). first_text o ++ rest) (flat_of_map ls)

-- ---- a turn that ended

abbrev seen : Option (List Call) → Option (List ℕ) → Text → KeptFile → Outside
seen wire clock text file = record { wire = wire; clock = clock; text = text; file = file }

-- why a turn ended, and how its daemon ends then
pub ended_by : {N : Type 0} (T : Type 0) (steps : Steps N) (indexes : N → Indexes) (peers : List Peer) (polled : Option Peer) (n n1 : N) (keys : KeyState)
    (e : Ended) (end : Served)
    (w0 w1 : Option (List Call)) (k0 k1 : Option (List ℕ)) (b0 b1 b2 : Text) (f0 f1 : KeptFile)
    → IfBroken {T = T} (Err e) (Early steps indexes peers polled n keys (seen w0 k0 b0 f0) (seen w1 k1 b1 f1))
    → IfKeysEnd {T = T} (Err e) ((n1 ≡ n) × (w1 ≡ w0) × (k1 ≡ k0) × (b1 ≡ b0)) → IfKeysEndBy {T = T} (Err e) (λ refused. NoMore (indexes n) keys refused f0 f1)
    → Stops e b1 b2 end → EndsTurn steps indexes peers polled n keys (seen w0 k0 b0 f0) (seen w1 k1 b2 f1) end
ended_by T steps indexes peers polled n n1 keys (ended.Keys refused) end w0 w1 k0 k1 b0 b1 b2 f0 f1 early still spent stops =
    Spent refused spent still.1 still.2 (subst (λ (b : Text). IsTold (served.Keys refused) (refused_line refused) end b b2) still.3 stops)
ended_by T steps indexes peers polled n n1 keys ended.Sink end w0 w1 k0 k1 b0 b1 b2 f0 f1 early still spent stops =
    Broken (inl stops.0) (subst (λ (b : Text). Early steps indexes peers polled n keys (seen w0 k0 b0 f0) (seen w1 k1 b f1)) (sym stops.1) early)
ended_by T steps indexes peers polled n n1 keys ended.Memory end w0 w1 k0 k1 b0 b1 b2 f0 f1 early still spent stops =
    Broken (inr stops.0) (subst (λ (b : Text). Early steps indexes peers polled n keys (seen w0 k0 b0 f0) (seen w1 k1 b f1)) (sym stops.1) early)

-- ---- all turns

-- an end that a caller hands on
pub ended_on : {T : Type 0} (r : Result T Served) (e : Served) (P : Served → Type 0) → IsErrAnd r (λ x. x ≡ e) → P e → IfErr r P
ended_on (Ok x) e P is h = absurd is
ended_on (Err x) e P is h = subst P (sym is) h

module _ {N : Type 0} (steps : Steps N) (indexes : N → Indexes) (count asked : ℕ) (d0 d1 : Daemon N) (o0 o1 : Outside)
    (made : HasMade steps indexes count d0 d1 o0 o1) where
  -- a daemon whose next turn ended so
  pub ends_with : (o2 : Outside) (end : Served) → count < asked
      → EndsTurn steps indexes d1.peers.items (polled_by d1.peers.items d1.turns) d1.node d1.keys o1 o2 end
      → EndsAfter steps indexes d0.peers.items asked d0.node d0.keys o0 o2 end
  ends_with o2 end few ends =
      let P : List Peer → ℕ → KeyState → Type 0 = λ ps n k. EndsTurn steps indexes ps (polled_by ps n) d1.node k o1 o2 end in
      let at : d1.turns ≡ length made.turns = made.counted ∙ sym made.made in
      let here : P d0.peers.items (length made.turns) (keys_on d0.keys made.turns) =
      subst (λ (ps : List Peer). P ps (length made.turns) (keys_on d0.keys made.turns)) (ap (λ v. v.items) made.peers)
      (subst (λ (n : ℕ). P d1.peers.items n (keys_on d0.keys made.turns)) at (subst (λ (k : KeyState). P d1.peers.items d1.turns k) made.keys ends)) in
      Stopped made.turns d1.node o1 (omega (arith, few, made.made)) made.ran here

  -- and one that made all its turns, and ended with its last line
  pub finishes : (b2 : Text) (end : Served) → count ≡ asked → Finishes (record { turns = d1.turns; lost = d1.lost }) o1.text b2 end
      → EndsAfter steps indexes d0.peers.items asked d0.node d0.keys o0 (record o1 { text = b2 }) end
  finishes b2 end all ends =
      let same : record { turns = d1.turns; lost = d1.lost } ≡ closing_of d0.peers.items made.turns =
      ap (λ (n : ℕ). record { turns = n; lost = d1.lost }) (made.counted ∙ sym made.made)
      ∙ ap (λ (n : ℕ). record { turns = length made.turns; lost = n }) made.lost_are in
      Whole made.turns d1.node o1 (made.made ∙ all) made.ran (refl, refl, refl) (subst (λ (c : Closing). Finishes c o1.text b2 end) same ends)
