-- A request that runs: it begins a session, ends it, or goes on in it.
use Rattle.std.proofs.Common.{◌≡◌, ◌<◌, ℕ, ◌+◌, ◌^◌, Bool, true, false, nat_lt, ◌==◌, ◌&&◌, ◌||◌, ◌⊎◌, inl, inr, List, [], ◌∷◌, ◌++◌, length, Option, Some}
use Rattle.std.proofs.Common.{None, refl, sym, ap, subst, ◌∙◌, arith}
use Rattle.std.specs.List.{list_any}
use Rattle.std.proofs.lemmas.Bool.{cases_Bool, cases_eq, eqb-true}
use Rattle.std.proofs.lemmas.Bool.Decides.{nat_tests}
use Rattle.std.proofs.lemmas.List.{length_push}
use Rattle.sp_base.specs.Rows.{replace_where}
use Rattle.sp_rules.specs.Choices.{less_first}
use Rattle.sp_client.specs.declared.request.Command.{Command}
use Rattle.sp_client.specs.declared.request.Request.{Request}
use Rattle.sp_client.specs.declared.answer.Answer.{Answer}
use Rattle.sp_client.specs.Replies.{reply_line}
use Rattle.sp_client.specs.Sessions.{Answers, Exchange, Steps, begins_listening, has_session, is_close, is_open, listens, open_ports, own_answer, ports, runs}
use Rattle.sp_client.specs.Sessions.{session_of}
use Rattle.sp_client.specs.Tables.{Session, Table, has_port, holder_after, outside, ran, refusal, refusal_of, session, session_in, without}
use Rattle.laws_sessions.proofs.HistoryLemmas.{added, closed}
use Rattle.laws_sessions.proofs.JudgeLemmas.{Holds, IsPort, row}
use Rattle.laws_sessions.proofs.ListLemmas.{filter_same, is_holder, one_more}
use Rattle.laws_sessions.proofs.SessionLemmas.{find_less_other, find_less_own, find_push_other, find_push_own, find_replace_other, find_replace_own}
use Rattle.laws_sessions.proofs.SessionLemmas.{length_less, length_replace, single_less, single_push, single_replace}
use Rattle.laws_sessions.proofs.StepLemmas.{Change, apart_of, changed, open_goes, open_is_silent, takes_over}

-- ---- small facts

same_port : (p : ℕ) → (p == p) ≡ true
same_port p = grind (arith, nat_tests)

is_mine : (p last : ℕ) (kept : List ℕ) → has_port p (session p last kept) ≡ true
is_mine p last kept = same_port p

not_mine : (p q last : ℕ) (kept : List ℕ) → (q ≡ p → ⊥) → has_port q (session p last kept) ≡ false
not_mine p q last kept apart = grind (arith, nat_tests)

-- the rest of the ports have a session where they had one
pub others_stay : (e : Exchange) (history : List Exchange) (q : ℕ) → (q ≡ e.port → ⊥) → has_session (e ∷ history) q ≡ has_session history q
others_stay e history q apart = ap (λ (es : List Exchange). nat_lt 0 (length es)) (apart_of e history q apart)

some : (x : Exchange) (es : List Exchange) → nat_lt 0 (length (x ∷ es)) ≡ true
some x es = grind (arith, nat_tests)

-- how many ports have a session, where one more has
pub one_port_more : (before after : List Exchange) (p : ℕ) → p < 2 ^ 16 → has_session before p ≡ false → has_session after p ≡ true
    → ((q : ℕ) → (q ≡ p → ⊥) → has_session after q ≡ has_session before q) → length (open_ports after) ≡ length (open_ports before) + 1
unfolding ports
one_port_more before after p small was is others =
    one_more (has_session before) (has_session after) p 0 (2 ^ 16) (record { before = was; now = is; others = others }) (omega arith) (omega (arith, small))

-- and where the same have
same_ports : (before after : List Exchange) (p : ℕ) → has_session after p ≡ has_session before p
    → ((q : ℕ) → (q ≡ p → ⊥) → has_session after q ≡ has_session before q)
    → length (open_ports after) ≡ length (open_ports before)
same_ports before after p own others = ap length (filter_same (has_session after) (has_session before) (λ q. each q (cases_eq q p)) ports)
  where
    each : (q : ℕ) → (q ≡ p) ⊎ (q ≡ p → ⊥) → has_session after q ≡ has_session before q
    each q (inl same) = subst (λ (x : ℕ). has_session after x ≡ has_session before x) (sym same) own
    each q (inr apart) = others q apart

-- nobody listens at a port whose session ended, and elsewhere nothing changes
gone : (holder : Option ℕ) (p : ℕ) → is_holder (without holder p) p ≡ false
gone None p = refl
gone (Some h) p = elim (cases_Bool (h == p)) [ inl own ↦ rw own refl | inr other ↦ rw (other, other) refl ]

gone_elsewhere : (holder : Option ℕ) (p q : ℕ) → (q ≡ p → ⊥) → is_holder (without holder p) q ≡ is_holder holder q
gone_elsewhere None p q apart = refl
gone_elsewhere (Some h) p q apart = elim (cases_Bool (h == p)) [
  | inl own ↦ let off : (h == q) ≡ false = grind (arith, nat_tests) in rw (own, off) refl
  | inr other ↦ rw other refl
]

within : (holder : Option ℕ) (p : ℕ) → IsPort holder → IsPort (without holder p)
within None p is = tt
within (Some h) p is = elim (cases_Bool (h == p)) [ inl own ↦ rw own tt | inr other ↦ rw other is ]

-- ---- the exchange of a request that ran

abbrev pub done : ℕ → Request → Answer → Exchange
done p r answer = record { port = p; request = r; ran = true; answer = answer }

mine : (p : ℕ) (r : Request) (answer : Answer) → ((done p r answer).ran && ((done p r answer).port == p)) ≡ true
mine p r answer = same_port p

-- ---- it begins a session

begins : (history : List Exchange) (t : Table) (p : ℕ) (r : Request) (answer : Answer) → p < 2 ^ 16 → Holds history t → session_of history p ≡ []
    → is_open r.command ≡ true → r.number ≡ 1
    → Change history t (done p r answer) (ran t p r answer (reply_line r.number answer))
begins history t p r answer small holds empty opens first =
    let e = done p r answer in
    let new = session p r.number (reply_line r.number answer) in
    let goes : is_close r.command ≡ false = open_goes r.command opens in
    let silent : begins_listening r.command answer ≡ false = open_is_silent r.command answer opens in
    let none : session_in t p ≡ None = holds.rows p ∙ ap (row p) empty in
    let now : session_of (e ∷ history) p ≡ e ∷ [] = added e history p (mine p r answer) goes ∙ ap (λ (es : List Exchange). e ∷ es) empty in
    let sessions : (ran t p r answer (reply_line r.number answer)).sessions ≡ t.sessions ++ new ∷ [] = rw none refl in
    let holder : (ran t p r answer (reply_line r.number answer)).holder ≡ t.holder = rw (goes, silent) refl in
    let off : listens history p ≡ false = ap (λ (es : List Exchange). list_any (λ x. begins_listening x.request.command x.answer) es) empty in
    record {
      row = rw sessions (find_push_own t.sessions new p none (is_mine p r.number (reply_line r.number answer)))
          ∙ ap (λ (n : ℕ). Some (session p n (reply_line n answer))) first ∙ ap (row p) (sym now);
      others = λ q apart. rw sessions (find_push_other t.sessions new q (not_mine p q r.number (reply_line r.number answer) apart));
      single = rw sessions (single_push t.sessions new none holds.single);
      count = ap length sessions ∙ length_push t.sessions new ∙ ap (λ (n : ℕ). n + 1) holds.count
          ∙ sym (one_port_more history (e ∷ history) p small (ap (λ (es : List Exchange). nat_lt 0 (length es)) empty)
          (ap (λ (es : List Exchange). nat_lt 0 (length es)) now) (others_stay e history));
      own = ap (λ (es : List Exchange). list_any (λ x. begins_listening x.request.command x.answer) es) now
          ∙ (rw silent refl) ∙ sym off ∙ holds.listening p ∙ ap (λ (h : Option ℕ). is_holder h p) (sym holder);
      holders = λ q apart. ap (λ (h : Option ℕ). is_holder h q) holder;
      holder = rw holder holds.holder;
    }

-- ---- it ends one

ends : (history : List Exchange) (t : Table) (p : ℕ) (r : Request) (answer : Answer) (x : Exchange) (es : List Exchange) → p < 2 ^ 16
    → Holds history t → session_of history p ≡ x ∷ es
    → is_close r.command ≡ true → Change history t (done p r answer) (ran t p r answer (reply_line r.number answer))
ends history t p r answer x es small holds full close =
    let e = done p r answer in
    let s = session p (length (x ∷ es)) (reply_line (length (x ∷ es)) x.answer) in
    let here : session_in t p ≡ Some s = holds.rows p ∙ ap (row p) full in
    let now : session_of (e ∷ history) p ≡ [] = closed e history p (mine p r answer) close in
    let sessions : (ran t p r answer (reply_line r.number answer)).sessions ≡ less_first (has_port p) t.sessions = rw (here, close) refl in
    let holder : (ran t p r answer (reply_line r.number answer)).holder ≡ without t.holder p = rw close refl in
    let was : has_session history p ≡ true = ap (λ (xs : List Exchange). nat_lt 0 (length xs)) full ∙ some x es in
    let fewer : length (less_first (has_port p) t.sessions) + 1 ≡ length t.sessions = length_less t.sessions p s here in
    let ports_fewer : length (open_ports history) ≡ length (open_ports (e ∷ history)) + 1 =
    one_port_more (e ∷ history) history p small (ap (λ (xs : List Exchange). nat_lt 0 (length xs)) now) was (λ q apart. sym (others_stay e history q apart)) in
    record {
      row = rw sessions (find_less_own t.sessions p holds.single) ∙ ap (row p) (sym now);
      others = λ q apart. rw sessions (find_less_other t.sessions p q apart);
      single = rw sessions (single_less t.sessions p holds.single);
      count = ap length sessions ∙ omega (arith, fewer, ports_fewer, holds.count);
      own = ap (λ (xs : List Exchange). list_any (λ y. begins_listening y.request.command y.answer) xs) now ∙ sym (gone t.holder p)
          ∙ ap (λ (h : Option ℕ). is_holder h p) (sym holder);
      holders = λ q apart. ap (λ (h : Option ℕ). is_holder h q) holder ∙ gone_elsewhere t.holder p q apart;
      holder = rw holder (within t.holder p holds.holder);
    }

-- ---- or it goes on

-- who listens after a request that doesn't end the session
on_holder : (holder : Option ℕ) (p : ℕ) (c : Command) (answer : Answer) → is_close c ≡ false
    → is_holder (holder_after holder p c answer) p ≡ (begins_listening c answer || is_holder holder p)
on_holder holder p c answer goes = elim (cases_Bool (begins_listening c answer)) [ inl on ↦ rw (goes, on) (same_port p) | inr off ↦ rw (goes, off) refl ]

on_others : {L : Type 0} (steps : Steps L) (holder : Option ℕ) (p : ℕ) (before after : L) (c : Command) (answer : Answer) → is_close c ≡ false
    → Answers steps (own_answer holder p c) before c answer after → (q : ℕ) → (q ≡ p → ⊥)
    → is_holder (holder_after holder p c answer) q ≡ is_holder holder q
on_others steps holder p before after c answer goes answered q apart = elim (cases_Bool (begins_listening c answer)) [
  | inl on ↦ rw (goes, on)
      ((let off : (p == q) ≡ false = grind (arith, nat_tests) in off) ∙ sym (takes_over steps holder p before after c answer answered on q apart))
  | inr off ↦ rw (goes, off) refl
]

on_within : (holder : Option ℕ) (p : ℕ) (c : Command) (answer : Answer) → is_close c ≡ false → p < 2 ^ 16 → IsPort holder
    → IsPort (holder_after holder p c answer)
on_within holder p c answer goes small is = elim (cases_Bool (begins_listening c answer)) [ inl on ↦ rw (goes, on) small | inr off ↦ rw (goes, off) is ]

goes_on : {L : Type 0} (steps : Steps L) (before after : L) (history : List Exchange) (t : Table) (p : ℕ) (r : Request) (answer : Answer) (x : Exchange)
    (es : List Exchange)
    → p < 2 ^ 16 → Holds history t → session_of history p ≡ x ∷ es → is_close r.command ≡ false → r.number ≡ length (x ∷ es) + 1
    → Answers steps (own_answer t.holder p r.command) before r.command answer after
    → Change history t (done p r answer) (ran t p r answer (reply_line r.number answer))
goes_on steps before after history t p r answer x es small holds full goes next answered =
    let e = done p r answer in
    let s = session p (length (x ∷ es)) (reply_line (length (x ∷ es)) x.answer) in
    let new = session p r.number (reply_line r.number answer) in
    let here : session_in t p ≡ Some s = holds.rows p ∙ ap (row p) full in
    let now : session_of (e ∷ history) p ≡ e ∷ session_of history p = added e history p (mine p r answer) goes in
    let whole : session_of (e ∷ history) p ≡ e ∷ x ∷ es = now ∙ ap (λ (xs : List Exchange). e ∷ xs) full in
    let sessions : (ran t p r answer (reply_line r.number answer)).sessions ≡ replace_where (has_port p) new t.sessions = rw (here, goes) refl in
    let was : has_session history p ≡ true = ap (λ (xs : List Exchange). nat_lt 0 (length xs)) full ∙ some x es in
    let is : has_session (e ∷ history) p ≡ true = ap (λ (xs : List Exchange). nat_lt 0 (length xs)) whole ∙ some e (x ∷ es) in
    let longer : r.number ≡ length (e ∷ x ∷ es) = omega (arith, next) in
    record {
      row = rw sessions (find_replace_own t.sessions new s p here (is_mine p r.number (reply_line r.number answer)))
          ∙ ap (λ (n : ℕ). Some (session p n (reply_line n answer))) longer ∙ ap (row p) (sym whole);
      others = λ q apart. rw sessions (find_replace_other t.sessions new p q (is_mine p r.number (reply_line r.number answer)) apart);
      single = rw sessions (single_replace t.sessions new p (is_mine p r.number (reply_line r.number answer)) holds.single);
      count = ap length sessions ∙ length_replace t.sessions new p ∙ holds.count
          ∙ sym (same_ports history (e ∷ history) p (is ∙ sym was) (others_stay e history));
      own = ap (λ (xs : List Exchange). list_any (λ y. begins_listening y.request.command y.answer) xs) now
          ∙ ap (λ (b : Bool). begins_listening r.command answer || b) (holds.listening p) ∙ sym (on_holder t.holder p r.command answer goes);
      holders = λ q apart. on_others steps t.holder p before after r.command answer goes answered q apart;
      holder = on_within t.holder p r.command answer goes small holds.holder;
    }

-- ---- all three

-- what an open is that runs without a session
opens : (r : Request) (count : ℕ) → outside r count ≡ None → (is_open r.command ≡ true) × (r.number ≡ 1)
opens r count none = elim (cases_Bool (is_open r.command)) [
  | inr other ↦ absurd (let e = rw other at none in cc)
  | inl open_ ↦ elim (cases_Bool (r.number == 1)) [
    | inr later ↦ absurd (let e = rw (open_, later) at none in cc)
    | inl one ↦ (open_, eqb-true r.number 1 one)
  ]
]

-- and a request in a session
follows : (s : Session) (count : ℕ) (r : Request) → refusal_of (Some s) count r ≡ None → r.number ≡ s.last + 1
follows s count r none = elim (cases_Bool (r.number == s.last + 1)) [
  | inl next ↦ eqb-true r.number (s.last + 1) next
  | inr other ↦ absurd (let e = rw other at none in cc)
]

pub holds_ran : {L : Type 0} (steps : Steps L) (before after : L) (history : List Exchange) (t : Table) (p : ℕ) (r : Request) (answer : Answer)
    → p < 2 ^ 16 → Holds history t → refusal t p r ≡ None → Answers steps (own_answer t.holder p r.command) before r.command answer after
    → Holds (done p r answer ∷ history) (ran t p r answer (reply_line r.number answer))
holds_ran steps before after history t p r answer small holds runs answered =
    changed history t (done p r answer) (ran t p r answer (reply_line r.number answer)) holds (go (session_of history p) refl)
  where
    go : (es : List Exchange) → session_of history p ≡ es → Change history t (done p r answer) (ran t p r answer (reply_line r.number answer))
    go [] empty =
        let none : session_in t p ≡ None = holds.rows p ∙ ap (row p) empty in
        let is = opens r (length t.sessions) (sym (ap (λ (s : Option Session). refusal_of s (length t.sessions) r) none) ∙ runs) in
        begins history t p r answer small holds empty is.0 is.1
    go (x ∷ es) full =
        let here : session_in t p ≡ row p (x ∷ es) = holds.rows p ∙ ap (row p) full in
        let next = follows (session p (length (x ∷ es)) (reply_line (length (x ∷ es)) x.answer)) (length t.sessions) r
        (sym (ap (λ (s : Option Session). refusal_of s (length t.sessions) r) here) ∙ runs) in
        elim (cases_Bool (is_close r.command)) [
          | inl close ↦ ends history t p r answer x es small holds full close
          | inr goes ↦ goes_on steps before after history t p r answer x es small holds full goes next answered
        ]
