-- A table goes on to hold what the list tells, when one more exchange comes.
use Rattle.std.proofs.Common.{◌≡◌, ℕ, Bool, true, false, nat_lt, ◌==◌, ◌&&◌, ◌⊎◌, inl, inr, List, [], ◌∷◌, length, Option, Some, None, refl, sym, ap, subst}
use Rattle.std.proofs.Common.{◌∙◌, arith}
use Rattle.std.specs.Prelude.{filter}
use Rattle.std.specs.List.{list_any}
use Rattle.std.proofs.lemmas.Bool.{cases_Bool, cases_eq}
use Rattle.std.proofs.lemmas.Bool.Decides.{nat_tests}
use Rattle.sp_client.specs.declared.request.Command.{Command}
use Rattle.sp_client.specs.declared.request.Command.TheVariants as commands
use Rattle.sp_client.specs.declared.answer.Answer.{Answer}
use Rattle.sp_client.specs.Sessions.{Answers, Exchange, Steps, begins_listening, has_session, is_close, is_listening, is_open, listen_answer, listens}
use Rattle.sp_client.specs.Sessions.{open_ports, own_answer, ports, session_of}
use Rattle.sp_client.specs.Tables.{Table, no_sessions, session_in}
use Rattle.laws_sessions.proofs.HistoryLemmas.{skipped}
use Rattle.laws_sessions.proofs.JudgeLemmas.{Holds, IsPort, row}
use Rattle.laws_sessions.proofs.ListLemmas.{filter_same, is_holder}
use Rattle.laws_sessions.proofs.SessionLemmas.{AreSingle}

-- ---- at the start

pub nobody : (f : ℕ → Bool) → ((x : ℕ) → f x ≡ false) → (xs : List ℕ) → filter f xs ≡ []
nobody f none [] = refl
nobody f none (x ∷ xs) = rw (none x) (nobody f none xs)

pub holds_nothing : Holds [] no_sessions
holds_nothing = record {
  rows = λ port. refl;
  single = tt;
  count = sym (ap length (nobody (has_session []) (λ port. refl) ports));
  listening = λ port. refl;
  holder = tt;
}

-- ---- an exchange that didn't run

pub holds_still : (history : List Exchange) (t : Table) (e : Exchange) → Holds history t → e.ran ≡ false → Holds (e ∷ history) t
holds_still history t e holds idle =
    let same : (q : ℕ) → session_of (e ∷ history) q ≡ session_of history q = λ q. skipped e history q (rw idle refl) in
    record {
      rows = λ q. holds.rows q ∙ ap (row q) (sym (same q));
      single = holds.single;
      count = holds.count
          ∙ ap length (sym
          (filter_same (has_session (e ∷ history)) (has_session history) (λ q. ap (λ (es : List Exchange). nat_lt 0 (length es)) (same q)) ports));
      listening = λ q. ap (λ (es : List Exchange). list_any (λ x. begins_listening x.request.command x.answer) es) (same q) ∙ holds.listening q;
      holder = holds.holder;
    }

-- ---- one that ran

-- what the session of its port becomes, in the list and in the table, and that no other one changes
pub record Change (history : List Exchange) (t : Table) (e : Exchange) (new : Table) : Type 0 where
  pub row : session_in new e.port ≡ row e.port (session_of (e ∷ history) e.port)
  pub others : (q : ℕ) → (q ≡ e.port → ⊥) → session_in new q ≡ session_in t q
  pub single : AreSingle new.sessions
  pub count : length new.sessions ≡ length (open_ports (e ∷ history))
  pub own : listens (e ∷ history) e.port ≡ is_holder new.holder e.port
  pub holders : (q : ℕ) → (q ≡ e.port → ⊥) → is_holder new.holder q ≡ is_holder t.holder q
  pub holder : IsPort new.holder

pub apart_of : (e : Exchange) (history : List Exchange) (q : ℕ) → (q ≡ e.port → ⊥) → session_of (e ∷ history) q ≡ session_of history q
apart_of e history q apart =
    let off : (e.port == q) ≡ false = grind (arith, nat_tests) in
    skipped e history q (rw off (both e.ran))
  where
    both : (b : Bool) → (b && false) ≡ false
    both true = refl
    both false = refl

pub changed : (history : List Exchange) (t : Table) (e : Exchange) (new : Table) → Holds history t → Change history t e new → Holds (e ∷ history) new
changed history t e new holds change = record {
  rows = λ q. rows q (cases_eq q e.port);
  single = change.single;
  count = change.count;
  listening = λ q. listening q (cases_eq q e.port);
  holder = change.holder;
}
  where
    rows : (q : ℕ) → (q ≡ e.port) ⊎ (q ≡ e.port → ⊥) → session_in new q ≡ row q (session_of (e ∷ history) q)
    rows q (inl same) = subst (λ (x : ℕ). session_in new x ≡ row x (session_of (e ∷ history) x)) (sym same) change.row
    rows q (inr apart) = change.others q apart ∙ holds.rows q ∙ ap (row q) (sym (apart_of e history q apart))

    listening : (q : ℕ) → (q ≡ e.port) ⊎ (q ≡ e.port → ⊥) → listens (e ∷ history) q ≡ is_holder new.holder q
    listening q (inl same) = subst (λ (x : ℕ). listens (e ∷ history) x ≡ is_holder new.holder x) (sym same) change.own
    listening q (inr apart) =
        ap (λ (es : List Exchange). list_any (λ x. begins_listening x.request.command x.answer) es) (apart_of e history q apart)
        ∙ holds.listening q ∙ sym (change.holders q apart)

-- ---- commands

pub open_goes : (c : Command) → is_open c ≡ true → is_close c ≡ false
open_goes commands.Open is = refl
open_goes commands.Listen is = absurd (cc)
open_goes (commands.Send to payload) is = absurd (cc)
open_goes (commands.SendPrio to prio expiry paths payload) is = absurd (cc)
open_goes (commands.Take from) is = absurd (cc)
open_goes commands.TakePrio is = absurd (cc)
open_goes (commands.SendKrel to paths payload) is = absurd (cc)
open_goes (commands.TakeKrel from) is = absurd (cc)
open_goes (commands.Weight peer weight) is = absurd (cc)
open_goes commands.Close is = absurd (cc)

pub open_is_silent : (c : Command) (answer : Answer) → is_open c ≡ true → begins_listening c answer ≡ false
open_is_silent commands.Open answer is = refl
open_is_silent commands.Listen answer is = absurd (cc)
open_is_silent (commands.Send to payload) answer is = refl
open_is_silent (commands.SendPrio to prio expiry paths payload) answer is = refl
open_is_silent (commands.Take from) answer is = refl
open_is_silent commands.TakePrio answer is = refl
open_is_silent (commands.SendKrel to paths payload) answer is = refl
open_is_silent (commands.TakeKrel from) answer is = refl
open_is_silent (commands.Weight peer weight) answer is = refl
open_is_silent commands.Close answer is = refl

-- a `listen` is answered `listening` only where nobody else listens
alone : (holder : Option ℕ) (p : ℕ) (answer : Answer) → answer ≡ listen_answer holder p → is_listening answer ≡ true → (q : ℕ) → (q ≡ p → ⊥)
    → is_holder holder q ≡ false
alone None p answer is on q apart = refl
alone (Some h) p answer is on q apart = elim (cases_Bool (h == p)) [
  | inl own ↦ grind (arith, nat_tests)
  | inr another ↦ absurd (let busy = rw another at is in let off = rw busy at on in cc)
]

pub takes_over : {L : Type 0} (steps : Steps L) (holder : Option ℕ) (p : ℕ) (before after : L) (c : Command) (answer : Answer)
    → Answers steps (own_answer holder p c) before c answer after → begins_listening c answer ≡ true → (q : ℕ) → (q ≡ p → ⊥) → is_holder holder q ≡ false
takes_over steps holder p before after commands.Listen answer answered on = alone holder p answer answered.0 on
takes_over steps holder p before after commands.Open answer answered on = absurd (cc)
takes_over steps holder p before after (commands.Send to payload) answer answered on = absurd (cc)
takes_over steps holder p before after (commands.SendPrio to prio expiry paths payload) answer answered on = absurd (cc)
takes_over steps holder p before after (commands.Take from) answer answered on = absurd (cc)
takes_over steps holder p before after commands.TakePrio answer answered on = absurd (cc)
takes_over steps holder p before after (commands.SendKrel to paths payload) answer answered on = absurd (cc)
takes_over steps holder p before after (commands.TakeKrel from) answer answered on = absurd (cc)
takes_over steps holder p before after (commands.Weight peer weight) answer answered on = absurd (cc)
takes_over steps holder p before after commands.Close answer answered on = absurd (cc)
