-- How the commands end that call the wire, from how their parts did.
use Rattle.std.proofs.Common.{◌≡◌, ℕ, Bool, true, List, ◌∷◌, map, Option, Some, None, Err, inl, inr, refl, sym, subst, Bor}
use Rattle.std.specs.Prelude.{◌⊎◌}
use Rattle.sp_base.specs.declared.limits.TheConstants.{MAX_INPUT_BYTES}
use Rattle.sp_client.specs.Requests.{IsRequest}
use Rattle.sp_outside.specs.Calls.{Call, Got, Opened, Received, Sent, Tells}
use Rattle.sp_outside.specs.declared.side.Side.TheVariants.{Client}
use Rattle.sp_keystate.specs.RefusedLines.{refused_line}
use Rattle.sp_keystate.specs.States.{Finds, Formats, IsFormatAnswer}
use Rattle.sp_keystate.specs.declared.key_state.KeyState.{KeyState}
use Rattle.sp_keystate.specs.declared.refused.KeyRefused.{KeyRefused}
use Rattle.sp_keystate.specs.declared.refused.KeyRefused.TheVariants as keys
use Rattle.sp_keystate.specs.declared.slot.InUse.{InUse}
use Rattle.sp_outside.specs.Disk.{Disk}
use Rattle.sp_outside.specs.Streams.{IsInput}
use Rattle.sp_service.specs.Served.{Ends}
use Rattle.sp_service_turns.specs.Outside.{KeptFile, Outside}
use Rattle.sp_service_turns.specs.Served.{wire_line}
use Rattle.sp_service_turns.specs.declared.served.Served.{Served}
use Rattle.sp_service_ask.specs.Asking.{Asked, Unopened}
use Rattle.sp_service_ask.specs.declared.question.Question.{Question}
use Rattle.sp_words.specs.declared.command_line.Ask.{Ask}
use Rattle.sp_top.specs.Daemons.{DaemonEnds}
use Rattle.sp_top.specs.Services.{Answers, AskEnds, FormatEnds, IsTold, Keeper_failed, Made, Makes, Was_formatted, formatted_line, No_port, No_reply, Reply}
use Rattle.sp_top.specs.Services.{question_of, reply_line, unanswered_line}
use Rattle.sp_top.specs.Statuses.{key_status, served_status}
use Rattle.sp_words.specs.declared.status.Status.{Status}
use Rattle.sp_words.specs.declared.status.Status.TheVariants as statuses

-- ---- a daemon

pub served : (left : Option (List ℕ)) (turns : ℕ) (text : List ℕ) (is_cut : Bool) (ended : Served) (status : Status) (before after : Outside)
    → IsInput left MAX_INPUT_BYTES text is_cut → status ≡ served_status ended → Ends text is_cut turns before after ended
    → DaemonEnds left turns status before after
served left turns text is_cut ended status before after input is ends =
    inl (record { text = text; is_cut = is_cut; input = input; ended = ended; status_is = is; ends = ends })

pub unread : (left : Option (List ℕ)) (turns : ℕ) (status : Status) (before : Outside) → (status ≡ statuses.Source) ⊎ (status ≡ statuses.Memory)
    → DaemonEnds left turns status before before
unread left turns status before cause = inr (record { cause = cause; quiet = (refl, refl, refl); unwritten = refl })

-- ---- a question

told : (a : Ask) (would status : Status) (line : List ℕ) (before after : Outside) → Answers (question_of a) before after would line
    → IsTold would line status before.text after.text → AskEnds a status before after
told a would status line before after answers (inl whole) =
    inl (record { line = line; answers = subst (λ (s : Status). Answers (question_of a) before after s line) (sym whole.0) answers; written = whole.1 })
told a would status line before after answers (inr (inl begun)) =
    inr (inl (record { sink = begun.0; would = would; line = line; answers = answers; begun = begun.1 }))
told a would status line before after answers (inr (inr memory)) =
    inr (inr (record { memory = memory.0; called = inr (would, line, answers); unwritten = memory.1 }))

-- the question of which these are the port, the turns and the bytes
abbrev question : Ask → Bor (List ℕ) → Question
question a request = record { port = a.port; local = a.local; turns = a.turns; request = request }

same_asked : (a : Ask) (request : Bor (List ℕ)) (w0 w1 : Option (List Call)) (reply : Option (List ℕ)) → request.now ≡ a.request.now
    → Asked (question a request) w0 w1 reply → Asked (question_of a) w0 w1 reply
same_asked a request w0 w1 reply same asked = record {
  request = asked.request;
  right = subst (λ (t : List ℕ). IsRequest t asked.request) same asked.right;
  is_sent = asked.is_sent;
  heard = asked.heard;
  calls = subst
      (λ (t : List ℕ). Tells w0 w1 (Opened 0 a.local true ∷ Sent Client a.port t asked.is_sent ∷ map (λ (got : Got). Received Client got) asked.heard)) same
      asked.calls;
  ends = asked.ends;
}

same_unopened : (a : Ask) (request : Bor (List ℕ)) (w0 w1 : Option (List Call)) → request.now ≡ a.request.now
    → Unopened (question a request) w0 w1 → Unopened (question_of a) w0 w1
same_unopened a request w0 w1 same unopened = record {
  request = unopened.request;
  right = subst (λ (t : List ℕ). IsRequest t unopened.request) same unopened.right;
  calls = unopened.calls;
}

pub replied : (a : Ask) (bytes : Bor (List ℕ)) (status : Status) (reply : List ℕ) (w0 w1 : Option (List Call)) (c : Option (List ℕ)) (f : KeptFile)
    (b0 b1 : Option (List ℕ))
    → bytes.now ≡ a.request.now → Asked (question a bytes) w0 w1 (Some reply) → IsTold statuses.Done (reply_line reply) status b0 b1
    → AskEnds a status (record { wire = w0; clock = c; text = b0; file = f }) (record { wire = w1; clock = c; text = b1; file = f })
replied a bytes status reply w0 w1 c f b0 b1 same asked is =
    told a statuses.Done status (reply_line reply) (record { wire = w0; clock = c; text = b0; file = f }) (record { wire = w1; clock = c; text = b1; file = f })
    (Reply reply (same_asked a bytes w0 w1 (Some reply) same asked)) is

pub unanswered : (a : Ask) (bytes : Bor (List ℕ)) (status : Status) (w0 w1 : Option (List Call)) (c : Option (List ℕ)) (f : KeptFile) (b0 b1 : Option (List ℕ))
    → bytes.now ≡ a.request.now → Asked (question a bytes) w0 w1 None → IsTold statuses.Unanswered (unanswered_line a.turns) status b0 b1
    → AskEnds a status (record { wire = w0; clock = c; text = b0; file = f }) (record { wire = w1; clock = c; text = b1; file = f })
unanswered a bytes status w0 w1 c f b0 b1 same asked is =
    told a statuses.Unanswered status (unanswered_line a.turns) (record { wire = w0; clock = c; text = b0; file = f })
    (record { wire = w1; clock = c; text = b1; file = f }) (No_reply (same_asked a bytes w0 w1 None same asked)) is

pub unopened : (a : Ask) (bytes : Bor (List ℕ)) (status : Status) (w0 w1 : Option (List Call)) (c : Option (List ℕ)) (f : KeptFile) (b0 b1 : Option (List ℕ))
    → bytes.now ≡ a.request.now → Unopened (question a bytes) w0 w1 → IsTold statuses.Wire wire_line status b0 b1
    → AskEnds a status (record { wire = w0; clock = c; text = b0; file = f }) (record { wire = w1; clock = c; text = b1; file = f })
unopened a bytes status w0 w1 c f b0 b1 same opened is =
    told a statuses.Wire status wire_line (record { wire = w0; clock = c; text = b0; file = f }) (record { wire = w1; clock = c; text = b1; file = f })
    (No_port (same_unopened a bytes w0 w1 same opened)) is

pub forgotten : (a : Ask) (w0 w1 : Option (List Call)) (c : Option (List ℕ)) (f : KeptFile) (b : Option (List ℕ)) → w1 ≡ w0
    → AskEnds a statuses.Memory (record { wire = w0; clock = c; text = b; file = f }) (record { wire = w1; clock = c; text = b; file = f })
forgotten a w0 w1 c f b same = inr (inr (record { memory = refl; called = inl same; unwritten = refl }))

-- ---- a key file is made

pub made : (w : Option (List Call)) (c : Option (List ℕ)) (f0 f1 : KeptFile) (b0 b1 : Option (List ℕ)) (status : Status) → Formats f0.disk f1.disk
    → IsTold statuses.Done formatted_line status b0 b1
    → FormatEnds status (record { wire = w; clock = c; text = b0; file = f0 }) (record { wire = w; clock = c; text = b1; file = f1 })
made w c f0 f1 b0 b1 status formats told = record { would = statuses.Done; line = formatted_line; makes = Made formats; told = told }

-- why it wasn't made, by the answer of the call
why : (d0 d1 : Option Disk) (refused : KeyRefused) → IsFormatAnswer {T = KeyState} (Err refused)
    → (refused ≡ keys.Formatted → (found : InUse) × Finds d0 d1 (Some found))
    → Makes d0 d1 (key_status refused) (refused_line refused)
why d0 d1 keys.KeeperFault answer found = Keeper_failed
why d0 d1 keys.Unformatted answer found = absurd answer
why d0 d1 keys.Formatted answer found = let there = found refl in Was_formatted there.0 there.1
why d0 d1 (keys.Exhausted number) answer found = absurd answer

pub unmade : (w : Option (List Call)) (c : Option (List ℕ)) (f0 f1 : KeptFile) (b0 b1 : Option (List ℕ)) (refused : KeyRefused) (line : List ℕ)
    (status : Status)
    → IsFormatAnswer {T = KeyState} (Err refused) → (refused ≡ keys.Formatted → (found : InUse) × Finds f0.disk f1.disk (Some found))
    → line ≡ refused_line refused
    → IsTold (key_status refused) line status b0 b1
    → FormatEnds status (record { wire = w; clock = c; text = b0; file = f0 }) (record { wire = w; clock = c; text = b1; file = f1 })
unmade w c f0 f1 b0 b1 refused line status answer found is told = record {
  would = key_status refused;
  line = refused_line refused;
  makes = why f0.disk f1.disk refused answer found;
  told = subst (λ (l : List ℕ). IsTold (key_status refused) l status b0 b1) is told;
}
