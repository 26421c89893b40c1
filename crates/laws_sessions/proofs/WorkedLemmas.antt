-- The worked row, computed. The ports that have a session are counted by those that began one.
use Rattle.std.proofs.Common.{◌≡◌, ◌<◌, ℕ, ◌+◌, ◌^◌, false, true, List, [], ◌∷◌, length, refl, ap, ◌∙◌, arith}
use Rattle.sp_client.specs.declared.request.Command.TheVariants as commands
use Rattle.sp_client.specs.declared.answer.Answer.TheVariants as answers
use Rattle.sp_client.specs.Sessions.{Exchange, has_session, open_ports, ports}
use Rattle.laws_sessions.specs.Laws.{WorkedRow, all_open, did}
use Rattle.laws_sessions.proofs.RunLemmas.{one_port_more, others_stay}
use Rattle.laws_sessions.proofs.StepLemmas.{nobody}

none_open : length (open_ports []) ≡ 0
none_open = ap length (nobody (has_session []) (λ port. refl) ports)

-- a port that opens a session is one more
opens_one : (n p : ℕ) (history : List Exchange) → p < 2 ^ 16 → has_session history p ≡ false
    → has_session (did p 1 commands.Open answers.Opened ∷ history) p ≡ true
    → length (open_ports history) ≡ n → length (open_ports (did p 1 commands.Open answers.Opened ∷ history)) ≡ n + 1
opens_one n p history small was is count =
    one_port_more history (did p 1 commands.Open answers.Opened ∷ history) p small was is (others_stay (did p 1 commands.Open answers.Opened) history)
    ∙ ap (λ (k : ℕ). k + 1) count

eight_open : length (open_ports (all_open 8)) ≡ 8
eight_open =
    opens_one 7 9007 (all_open 7) (omega arith) refl refl
    (opens_one 6 9006 (all_open 6) (omega arith) refl refl (opens_one 5 9005 (all_open 5) (omega arith) refl refl
    (opens_one 4 9004 (all_open 4) (omega arith) refl refl
    (opens_one 3 9003 (all_open 3) (omega arith) refl refl (opens_one 2 9002 (all_open 2) (omega arith) refl refl
    (opens_one 1 9001 (all_open 1) (omega arith) refl refl (opens_one 0 9000 [] (omega arith) refl refl none_open)))))))

pub worked_row : WorkedRow
worked_row = record {
  opens = rw none_open refl;
  asks_the_node = refl;
  repeats = refl;
  and_again = refl;
  ahead = refl;
  stranger = refl;
  ninth = rw eight_open refl;
}
