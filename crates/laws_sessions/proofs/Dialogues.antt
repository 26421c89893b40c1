-- Over a whole dialogue the table holds what the list tells, so each answer is the list's.
use Rattle.std.proofs.Common.{◌≡◌, ◌<◌, ℕ, ◌^◌, Bool, true, false, List, [], ◌∷◌, Option, Some, None, sym, subst}
use Rattle.sp_base.specs.Finds.{Finds}
use Rattle.sp_client.specs.declared.request.Request.{Request}
use Rattle.sp_client.specs.declared.answer.Answer.{Answer}
use Rattle.sp_client.specs.Replies.{reply_line}
use Rattle.sp_client.specs.Requests.{IsRequest}
use Rattle.sp_client.specs.Sessions.{Answers, Exchange, IsAnswered, Steps, exchange, own_answer, runs, unrun_answer}
use Rattle.sp_client.specs.Tables.{Handles, Runs, Served as ServedBy, Table, ran, refusal, repeat}
use Rattle.laws_sessions.specs.Laws.{A_request, Asked, DialoguesAreAnswered, Follows, Goes_on, Happening, Meanwhile, No_request, Nothing_said, Served, Starts}
use Rattle.laws_sessions.specs.Laws.{Told, Went_on}
use Rattle.laws_sessions.proofs.JudgeLemmas.{Holds, Judged, Lets_run, Refuses, Repeats, holder_is, judged}
use Rattle.laws_sessions.proofs.RunLemmas.{holds_ran}
use Rattle.laws_sessions.proofs.StepLemmas.{holds_nothing, holds_still}

-- where a dialogue led: a list that it follows, and that the table holds
record Reached {L : Type 0} (steps : Steps L) (first : L) (told : List (Happening L)) (t : Table) (after : L) : Type 0 where
  history : List Exchange
  follows : Follows steps first told history after
  holds : Holds history t

-- the answer that doesn't run, by the list
idle : {L : Type 0} (steps : Steps L) (history : List Exchange) (p : ℕ) (r : Request) (answer : Answer) (before after : L)
    → runs history p r ≡ false → unrun_answer history p r ≡ answer → after ≡ before → IsAnswered steps history p r before answer after
idle steps history p r answer before after waits is stays = rw waits (sym is, stays)

-- and one that runs
running : {L : Type 0} (steps : Steps L) (history : List Exchange) (t : Table) (p : ℕ) (r : Request) (answer : Answer) (before after : L)
    → Holds history t → runs history p r ≡ true → Answers steps (own_answer t.holder p r.command) before r.command answer after
    → IsAnswered steps history p r before answer after
running steps history t p r answer before after holds go answered =
    rw go (subst (λ (h : Option ℕ). Answers steps (own_answer h p r.command) before r.command answer after) (sym (holder_is history t holds)) answered)

-- what doesn't run leaves the table
still : {L : Type 0} (steps : Steps L) (first : L) (before : List (Happening L)) (t new : Table) (local after : L) (d : Told) (r : Request) (answer : Answer)
    → (reached : Reached steps first before t local) → IsRequest d.bytes r → runs reached.history d.port r ≡ false
    → unrun_answer reached.history d.port r ≡ answer
    → d.reply ≡ reply_line r.number answer → new ≡ t → after ≡ local → Reached steps first (Asked d ∷ before) new after
still steps first before t new local after d r answer reached is waits same spelling stays local_stays = record {
  history = exchange reached.history d.port r answer ∷ reached.history;
  follows = A_request d r answer reached.follows is (idle steps reached.history d.port r answer local after waits same local_stays) spelling;
  holds = rw stays (holds_still reached.history t (exchange reached.history d.port r answer) reached.holds waits);
}

-- what runs
moved : {L : Type 0} (steps : Steps L) (first : L) (before : List (Happening L)) (t new : Table) (local after : L) (d : Told) (r : Request)
    → (reached : Reached steps first before t local) → d.port < 2 ^ 16 → IsRequest d.bytes r → runs reached.history d.port r ≡ true
    → refusal t d.port r ≡ None
    → Runs steps t d.port r d.reply new local after → Reached steps first (Asked d ∷ before) new after
moved steps first before t new local after d r reached small is go lets run = record {
  history = exchange reached.history d.port r run.answer ∷ reached.history;
  follows = A_request d r run.answer reached.follows is (running steps reached.history t d.port r run.answer local after reached.holds go run.answered)
      run.spelling;
  holds =
      rw (run.table, run.spelling)
      (subst (λ (b : Bool). Holds (record { port = d.port; request = r; ran = b; answer = run.answer } ∷ reached.history)
      (ran t d.port r run.answer (reply_line r.number run.answer)))
      (sym go) (holds_ran steps local after reached.history t d.port r run.answer small reached.holds lets run.answered));
}

asked : {L : Type 0} (steps : Steps L) (first : L) (before : List (Happening L)) (t new : Table) (local after : L) (d : Told) (r : Request)
    → (reached : Reached steps first before t local) → d.port < 2 ^ 16 → IsRequest d.bytes r → Judged reached.history t d.port r
    → ServedBy steps (repeat t d.port r.number) (refusal t d.port r) t d.port r d.reply new local after → Reached steps first (Asked d ∷ before) new after
asked steps first before t new local after d r reached small is (Repeats answer kept waits same) served =
    let by = rw kept at served in
    still steps first before t new local after d r answer reached is waits same by.0 by.1 by.2
asked steps first before t new local after d r reached small is (Refuses answer fresh refused waits same) served =
    let by = rw (fresh, refused) at served in
    still steps first before t new local after d r answer reached is waits same by.0 by.1 by.2
asked steps first before t new local after d r reached small is (Lets_run fresh lets go) served =
    moved steps first before t new local after d r reached small is go lets (rw (fresh, lets) at served)

handled : {L : Type 0} (steps : Steps L) (first : L) (before : List (Happening L)) (t new : Table) (local after : L) (d : Told) (read : Option Request)
    → Reached steps first before t local → d.port < 2 ^ 16 → Finds (IsRequest d.bytes) read → Handles steps read t d.port d.reply new local after
    → Reached steps first (Asked d ∷ before) new after
handled steps first before t new local after d None reached small none by = record {
  history = reached.history;
  follows = rw by.2 (No_request d reached.follows none by.0);
  holds = rw by.1 reached.holds;
}
handled steps first before t new local after d (Some r) reached small is by =
    asked steps first before t new local after d r reached small is (judged reached.history t d.port r reached.holds) by

reached_by : {L : Type 0} (steps : Steps L) (first : L) (told : List (Happening L)) (t : Table) (after : L) → Served steps first told t after
    → Reached steps first told t after
reached_by steps first told t after Starts = record { history = []; follows = Nothing_said; holds = holds_nothing }
reached_by steps first told t after (Goes_on {before = before} {table = table} {local = local} d served small datagram) =
    handled steps first before table t local after d datagram.read (reached_by steps first before table local served) small datagram.right datagram.handled
reached_by steps first told t after (Meanwhile {before = before} {local = local} _ served) =
    let reached = reached_by steps first before t local served in
    record { history = reached.history; follows = Went_on after reached.follows; holds = reached.holds }

pub dialogues_are_answered : {L : Type 0} (steps : Steps L) → DialoguesAreAnswered steps
dialogues_are_answered steps first told t after served =
    let reached = reached_by steps first told t after served in
    (reached.history, reached.follows)
