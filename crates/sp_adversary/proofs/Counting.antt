-- Crafting signers and the crafts of a run go on together.
use Rattle.std.proofs.Common.{◌≡◌, ◌==◌, ◌≤◌, ℕ, false, List, Result, Ok, Err, arith}
use Rattle.std.proofs.lemmas.Bool.Decides.{nat_tests}
use Rattle.sp_base.specs.declared.id.NodeId.{NodeId}
use Rattle.sp_base.specs.declared.memory.Memory.{Memory}
use Rattle.sp_runs.specs.Scenarios.{unsigned_of}
use Rattle.sp_runs.specs.Worlds as worlds
use Rattle.sp_schedule_events.specs.declared.scenario.Scenario.{Scenario}
use Rattle.sp_adversary.specs.Crafters.{Crafters, crafters_of}
use Rattle.sp_adversary.specs.Crafting.{CraftsDocument, Makes}
use Rattle.sp_adversary.specs.Laws.{Answers, AnswersDocument, CraftsAreCounted}
use Rattle.sp_adversary.specs.declared.crafters.Crafted.{Crafted}
use Rattle.sp_adversary.specs.declared.crafters.Crafted.TheVariants as answers

go_on : {A : Type 0} (s : Scenario) (crafted : List worlds.Crafted) (key : NodeId) (made : A) (result : Result (Crafted A) Memory) (new : Crafters)
    → Makes (crafters_of s crafted) key made result new → Answers s crafted key made result new
go_on s crafted key made (Ok (answers.Signed it)) new is = is
go_on s crafted key made (Ok (answers.Spent total)) new is = is
go_on s crafted key made (Err refused) new is = is

documents_go_on : (s : Scenario) (crafted : List worlds.Crafted) (key : NodeId) (version : ℕ) (weights : List ℕ) (result : Result (Crafted (List ℕ)) Memory)
    (new : Crafters) → 1 ≤ key.0 → CraftsDocument (crafters_of s crafted) key (unsigned_of s version weights) result new
    → AnswersDocument s crafted key version weights result new
documents_go_on s crafted key version weights result new some is =
    let other : (key.0 == 0) ≡ false = grind (arith, nat_tests) in
    rw other (go_on s crafted key _ result new is)

pub crafts_are_counted : CraftsAreCounted
crafts_are_counted = record {
  messages = λ s crafted key body result new is. go_on s crafted key _ result new is;
  documents = documents_go_on;
}
