-- The worked example of the way of a document follows from its promise.
use Rattle.std.proofs.Common.{◌≤◌, [], ◌∷◌, refl, arith}
use Rattle.std.proofs.lemmas.List.Elements.{All-cons, All-nil}
use Rattle.laws_progress.specs.Calm.{StaysUpIn}
use Rattle.laws_progress.specs.Spreading.{HaveSpread}
use Rattle.laws_progress.specs.Worked.{line_path, node}
use Rattle.laws_progress.specs.WorkedLives.{changed, holding, told}
use Rattle.laws_progress.specs.WorkedSpreading.{SpreadingIsWorked}
use Rattle.laws_progress.specs.WorkedTelling.{starts, three_rounds}
use Rattle.laws_progress.proofs.Places.{nobody}
use Rattle.laws_progress.proofs.WorkedLives.{all_run}
use Rattle.laws_progress.proofs.WorkedTelling.{row_path, rounds_are}

all_told : HaveSpread told told line_path
all_told i one_none low j other_none close n m at_n at_m =
    let first = (all_run j other_none close).version_is n at_n in
    let last = (all_run i one_none low).version_is m at_m in
    omega (arith, first, last)

pub spreading_is_worked : SpreadingIsWorked
spreading_is_worked = record {
  changes = refl;
  follows = λ arts js more w v one two three m promise early run at_one at_two at_three at_m.
      let Up = StaysUpIn w three_rounds in
      let ups = All-cons Up (node 1) (node 2 ∷ node 3 ∷ []) (record { node = one; runs = at_one; stays = refl })
      (All-cons Up (node 2) (node 3 ∷ []) (record { node = two; runs = at_two; stays = refl })
      (All-cons Up (node 3) [] (record { node = three; runs = at_three; stays = refl }) (All-nil Up))) in
      let spread = promise starts js w three_rounds more v early run (node 1) (node 3) line_path row_path.walks ups 3 (omega arith) rounds_are in
      spread 2 nobody (omega arith) 0 nobody (omega arith) one m at_one at_m;
  spread = all_told;
  behind = λ spread.
      let wrong : 2 ≤ 1 = spread 0 nobody (omega arith) 1 nobody (omega arith) _ (holding 1 1 1) refl refl in
      omega (arith, wrong);
  back = λ arts es after js more promise early run up.
      let wrong : 2 ≤ 1 = (promise es js changed after more told early run (node 2) up _ (holding 2 1 1) refl refl).version in
      omega (arith, wrong);
}
