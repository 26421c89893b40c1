-- A table that holds what a list of exchanges tells judges each request as that list does.
use Rattle.std.proofs.Common.{◌≡◌, ◌<◌, ℕ, ◌+◌, ◌^◌, Bool, true, false, nat_lt, ◌==◌, ◌&&◌, ◌||◌, inl, inr, List, [], ◌∷◌, length, Option, Some, None, refl}
use Rattle.std.proofs.Common.{sym, ap, ◌∙◌, arith}
use Rattle.std.specs.Prelude.{find, if◌then◌else◌, option_map, slice_get, ⊤}
use Rattle.std.proofs.lemmas.Bool.{cases_Bool, eqb-true}
use Rattle.std.proofs.lemmas.Bool.Decides.{nat_tests}
use Rattle.sp_client.specs.declared.limits.TheConstants.{MAX_SESSIONS}
use Rattle.sp_client.specs.declared.request.Request.{Request}
use Rattle.sp_client.specs.declared.answer.Answer.{Answer}
use Rattle.sp_client.specs.declared.answer.Answer.TheVariants as answers
use Rattle.sp_client.specs.Replies.{reply_line}
use Rattle.sp_client.specs.Sessions.{Exchange, holder_of, idle_answer, is_open, listens, open_ports, outside_answer, ports, runs, session_of, unrun_answer}
use Rattle.sp_client.specs.Tables.{Session, Table, kept_of, outside, refusal, refusal_of, repeat, session, session_in}
use Rattle.laws_sessions.proofs.ListLemmas.{find_holder, find_nobody, find_same, is_holder}
use Rattle.laws_sessions.proofs.SessionLemmas.{AreSingle}

-- the row of a port whose session is these requests
abbrev pub row : ℕ → List Exchange → Option Session
row port [] = None
row port (e ∷ es) = Some (session port (length (e ∷ es)) (reply_line (length (e ∷ es)) e.answer))

abbrev pub IsPort : Option ℕ → Type 0
IsPort None = ⊤
IsPort (Some p) = p < 2 ^ 16

pub record Holds (history : List Exchange) (t : Table) : Type 0 where
  pub rows : (port : ℕ) → session_in t port ≡ row port (session_of history port)
  pub single : AreSingle t.sessions
  pub count : length t.sessions ≡ length (open_ports history)
  pub listening : (port : ℕ) → listens history port ≡ is_holder t.holder port
  pub holder : IsPort t.holder

-- ---- who listens

found : (holder : Option ℕ) → IsPort holder → find (is_holder holder) ports ≡ holder
unfolding ports
found None within = find_nobody ports
found (Some p) within = find_holder p 0 (2 ^ 16) (omega arith) (omega (arith, within))

pub holder_is : (history : List Exchange) (t : Table) → Holds history t → holder_of history ≡ t.holder
holder_is history t holds = find_same (listens history) (is_holder t.holder) holds.listening ports ∙ found t.holder holds.holder

-- ---- what becomes of a request

-- the table's judgement, and the answer of the list
pub data Judged (history : List Exchange) (t : Table) (port : ℕ) (r : Request) : Type 0 where
  Repeats : (answer : Answer) → repeat t port r.number ≡ Some (reply_line r.number answer)
      → runs history port r ≡ false → unrun_answer history port r ≡ answer → Judged history t port r
  Refuses : (answer : Answer) → repeat t port r.number ≡ None
      → refusal t port r ≡ Some answer → runs history port r ≡ false → unrun_answer history port r ≡ answer → Judged history t port r
  Lets_run : repeat t port r.number ≡ None → refusal t port r ≡ None → runs history port r ≡ true → Judged history t port r

-- the same of the session's requests alone, and of how many ports have a session
abbrev runs_in : List Exchange → ℕ → Request → Bool
runs_in es count r = (r.number == length es + 1) && (nat_lt 0 (length es) || (is_open r.command && nat_lt count MAX_SESSIONS))

abbrev unrun_in : List Exchange → Request → Answer
unrun_in es r = if nat_lt 0 (length es) then idle_answer (option_map (λ e. e.answer) (slice_get es 0)) (length es) r.number else outside_answer r

outside_runs : (count : ℕ) (r : Request) → outside r count ≡ None → runs_in [] count r ≡ true
outside_runs count r none = elim (cases_Bool (is_open r.command)) [
  | inr other ↦ absurd (let e = rw other at none in cc)
  | inl open_ ↦ elim (cases_Bool (r.number == 1)) [
    | inr later ↦ absurd (let e = rw (open_, later) at none in cc)
    | inl one ↦ elim (cases_Bool (nat_lt count MAX_SESSIONS)) [
      | inr full ↦ absurd (let e = rw (open_, one, full) at none in cc)
      | inl room ↦ rw (one, open_, room) refl
    ]
  ]
]

outside_waits : (count : ℕ) (r : Request) (answer : Answer) → outside r count ≡ Some answer → (runs_in [] count r ≡ false) × (outside_answer r ≡ answer)
outside_waits count r answer some = elim (cases_Bool (is_open r.command)) [
  | inr other ↦ (rw other (both_false (r.number == 1)), (let e = rw other at some in rw other (cc)))
  | inl open_ ↦ elim (cases_Bool (r.number == 1)) [
    | inr later ↦ (rw later refl, (let e = rw (open_, later) at some in rw (open_, later) (cc)))
    | inl one ↦ elim (cases_Bool (nat_lt count MAX_SESSIONS)) [
      | inl room ↦ absurd (let e = rw (open_, one, room) at some in cc)
      | inr full ↦ (rw (one, open_, full) refl, (let e = rw (open_, one, full) at some in rw (open_, one) (cc)))
    ]
  ]
]
  where
    both_false : (b : Bool) → (b && false) ≡ false
    both_false true = refl
    both_false false = refl

-- in a session of so many requests
repeat_waits : (e : Exchange) (es : List Exchange) (count : ℕ) (r : Request) → (r.number == length (e ∷ es)) ≡ true
    → (runs_in (e ∷ es) count r ≡ false) × (unrun_in (e ∷ es) r ≡ e.answer)
repeat_waits e es count r same =
    let differs : (r.number == length (e ∷ es) + 1) ≡ false = grind (arith, nat_tests) in
    let full : nat_lt 0 (length (e ∷ es)) ≡ true = grind (arith, nat_tests) in
    (rw differs refl, rw (full, same) refl)

next_runs : (e : Exchange) (es : List Exchange) (count : ℕ) (r : Request) → (r.number == length (e ∷ es) + 1) ≡ true → runs_in (e ∷ es) count r ≡ true
next_runs e es count r next =
    let full : nat_lt 0 (length (e ∷ es)) ≡ true = grind (arith, nat_tests) in
    rw (next, full) refl

other_waits : (e : Exchange) (es : List Exchange) (count : ℕ) (r : Request) → (r.number == length (e ∷ es)) ≡ false
    → (r.number == length (e ∷ es) + 1) ≡ false
    → (runs_in (e ∷ es) count r ≡ false) × (unrun_in (e ∷ es) r ≡ answers.BadNumber (length (e ∷ es)))
other_waits e es count r differs later =
    let full : nat_lt 0 (length (e ∷ es)) ≡ true = grind (arith, nat_tests) in
    (rw later refl, rw (full, differs) refl)

judged_outside : (history : List Exchange) (t : Table) (port : ℕ) (r : Request) → Holds history t → session_of history port ≡ []
    → session_in t port ≡ None → Judged history t port r
judged_outside history t port r holds empty none = go (outside r (length t.sessions)) refl
  where
    no_repeat : repeat t port r.number ≡ None
    no_repeat = ap (λ (s : Option Session). kept_of s r.number) none

    go : (o : Option Answer) → outside r (length t.sessions) ≡ o → Judged history t port r
    go None is = Lets_run no_repeat (ap (λ (s : Option Session). refusal_of s (length t.sessions) r) none ∙ is)
        (ap (λ (es : List Exchange). runs_in es (length (open_ports history)) r) empty ∙ outside_runs (length (open_ports history)) r (rw holds.count at is))
    go (Some answer) is =
        let waits = outside_waits (length (open_ports history)) r answer (rw holds.count at is) in
        Refuses answer no_repeat (ap (λ (s : Option Session). refusal_of s (length t.sessions) r) none ∙ is)
        (ap (λ (es : List Exchange). runs_in es (length (open_ports history)) r) empty ∙ waits.0)
        (ap (λ (es : List Exchange). unrun_in es r) empty ∙ waits.1)

judged_inside : (history : List Exchange) (t : Table) (port : ℕ) (r : Request) (e : Exchange) (es : List Exchange) → session_of history port ≡ e ∷ es
    → session_in t port ≡ row port (e ∷ es)
    → Judged history t port r
judged_inside history t port r e es full is = elim (cases_Bool (r.number == length (e ∷ es))) [
  | inl same ↦
      let waits = repeat_waits e es (length (open_ports history)) r same in
      let number : r.number ≡ length (e ∷ es) = eqb-true r.number (length (e ∷ es)) same in
      let kept : repeat t port r.number ≡ Some (reply_line (length (e ∷ es)) e.answer) = ap (λ (s : Option Session). kept_of s r.number) is ∙ (rw same refl) in
      Repeats e.answer (kept ∙ ap (λ (n : ℕ). Some (reply_line n e.answer)) (sym number))
      (ap (λ (xs : List Exchange). runs_in xs (length (open_ports history)) r) full ∙ waits.0)
      (ap (λ (xs : List Exchange). unrun_in xs r) full ∙ waits.1)
  | inr differs ↦
      let fresh : repeat t port r.number ≡ None = ap (λ (s : Option Session). kept_of s r.number) is ∙ (rw differs refl) in
      elim (cases_Bool (r.number == length (e ∷ es) + 1)) [
        | inl next ↦ Lets_run fresh (ap (λ (s : Option Session). refusal_of s (length t.sessions) r) is ∙ (rw next refl))
            (ap (λ (xs : List Exchange). runs_in xs (length (open_ports history)) r) full ∙ next_runs e es (length (open_ports history)) r next)
        | inr later ↦
            let waits = other_waits e es (length (open_ports history)) r differs later in
            Refuses (answers.BadNumber (length (e ∷ es))) fresh (ap (λ (s : Option Session). refusal_of s (length t.sessions) r) is ∙ (rw later refl))
            (ap (λ (xs : List Exchange). runs_in xs (length (open_ports history)) r) full ∙ waits.0)
            (ap (λ (xs : List Exchange). unrun_in xs r) full ∙ waits.1)
      ]
]

pub judged : (history : List Exchange) (t : Table) (port : ℕ) (r : Request) → Holds history t → Judged history t port r
judged history t port r holds = go (session_of history port) refl
  where
    go : (es : List Exchange) → session_of history port ≡ es → Judged history t port r
    go [] is = judged_outside history t port r holds is (holds.rows port ∙ ap (row port) is)
    go (e ∷ es) is = judged_inside history t port r e es is (holds.rows port ∙ ap (row port) is)
