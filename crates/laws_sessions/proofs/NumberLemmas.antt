-- The requests of a session are numbered, and the earliest is an `open`.
use Rattle.std.proofs.Common.{◌≡◌, ℕ, ◌+◌, Bool, true, false, nat_lt, ◌==◌, ◌&&◌, ◌||◌, inl, inr, List, [], ◌∷◌, length, refl, sym, subst, arith}
use Rattle.std.proofs.lemmas.Bool.{cases_Bool, eqb-true}
use Rattle.sp_client.specs.declared.limits.TheConstants.{MAX_SESSIONS}
use Rattle.sp_client.specs.declared.request.Request.{Request}
use Rattle.sp_client.specs.declared.answer.Answer.{Answer}
use Rattle.sp_client.specs.Sessions.{Exchange, Steps, exchange, is_close, is_open, open_ports, runs, session_of}
use Rattle.laws_sessions.specs.Laws.{A_request, EachRunsOnce, IsSession, No_request, Nothing_said, Went_on}
use Rattle.laws_sessions.proofs.HistoryLemmas.{added, closed, skipped}

left : (a b : Bool) → (a && b) ≡ true → a ≡ true
left true b both = refl
left false b both = absurd (cc)

right : (a b : Bool) → (a && b) ≡ true → b ≡ true
right true b both = both
right false b both = absurd (cc)

-- what runs has the next number
next_number : (history : List Exchange) (port : ℕ) (r : Request) → runs history port r ≡ true → r.number ≡ length (session_of history port) + 1
next_number history port r go = eqb-true r.number (length (session_of history port) + 1) (left (r.number == length (session_of history port) + 1) _ go)

-- and is an `open`, where there is no session
opens : (r : Request) (count : ℕ) → ((r.number == 0 + 1) && (nat_lt 0 0 || (is_open r.command && nat_lt count MAX_SESSIONS))) ≡ true → is_open r.command ≡ true
opens r count go = left (is_open r.command) (nat_lt count MAX_SESSIONS) (right (r.number == 0 + 1) (is_open r.command && nat_lt count MAX_SESSIONS) go)

one_more : (e : Exchange) (es : List Exchange) → e.request.number ≡ length es + 1 → (es ≡ [] → is_open e.request.command ≡ true) → IsSession es
    → IsSession (e ∷ es)
one_more e [] number first is = record { numbered = (omega (arith, number), tt); begins = first refl }
one_more e (x ∷ es) number first is = record { numbered = (omega (arith, number), is.numbered); begins = is.begins }

stays : (history : List Exchange) (port : ℕ) (r : Request) (answer : Answer) (q : ℕ) → IsSession (session_of history q)
    → IsSession (session_of (exchange history port r answer ∷ history) q)
stays history port r answer q is =
    let e = exchange history port r answer in
    elim (cases_Bool (runs history port r && (port == q))) [
      | inr off ↦ subst IsSession (sym (skipped e history q off)) is
      | inl on ↦
          let go : runs history port r ≡ true = left (runs history port r) (port == q) on in
          let same : port ≡ q = eqb-true port q (right (runs history port r) (port == q) on) in
          elim (cases_Bool (is_close r.command)) [
            | inl close ↦ subst IsSession (sym (closed e history q on close)) (record { numbered = tt; begins = tt })
            | inr goes ↦
                let runs_there : runs history q r ≡ true = subst (λ (p : ℕ). runs history p r ≡ true) same go in
                let begins : session_of history q ≡ [] → is_open r.command ≡ true = λ empty.
                opens r (length (open_ports history)) (subst (λ (es : List Exchange).
                ((r.number == length es + 1) && (nat_lt 0 (length es) || (is_open r.command && nat_lt (length (open_ports history)) MAX_SESSIONS))) ≡ true)
                empty runs_there)
                in
                subst IsSession (sym (added e history q on goes)) (one_more e (session_of history q) (next_number history q r runs_there) begins is)
          ]
    ]

pub each_runs_once : {L : Type 0} (steps : Steps L) → EachRunsOnce steps
each_runs_once steps first told history after Nothing_said port = record { numbered = tt; begins = tt }
each_runs_once steps first told history after (No_request {before = before} t follows none is) port =
    each_runs_once steps first before history after follows port
each_runs_once steps first told history after (Went_on {before = before} {local = local} _ follows) port =
    each_runs_once steps first before history local follows port
each_runs_once steps first told history after (A_request {before = before} {history = earlier} {local = local} t r answer follows is answered spelling) port =
    stays earlier t.port r answer port (each_runs_once steps first before earlier local follows port)
