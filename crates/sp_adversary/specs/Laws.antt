-- The crafting signers over a run: they are those of the scenario, with which so many objects were crafted as the world counts.
use Rattle.std.specs.Prelude.{ℕ, ◌≡◌, ◌<◌, ◌≤◌, List, Result, Ok, Err}
use Rattle.sp_base.specs.declared.id.NodeId.{NodeId}
use Rattle.sp_base.specs.declared.memory.Memory.{Memory}
use Rattle.sp_msg.specs.declared.body.Body.{Body}
use Rattle.sp_msg.specs.declared.kept.Kept.{Kept}
use Rattle.sp_node_format.specs.Format.{format_in}
use Rattle.sp_runs.specs.Inputs.{crafted_document, crafted_object}
use Rattle.sp_runs.specs.Scenarios.{setting_of, unsigned_of}
use Rattle.sp_runs.specs.Worlds as worlds
use Rattle.sp_runs.specs.Worlds.{crafts, with_craft}
use Rattle.sp_schedule_events.specs.declared.scenario.Scenario.{Scenario}
use Rattle.sp_adversary.specs.Crafters.{Crafters, crafters_of}
use Rattle.sp_adversary.specs.Crafting.{Crafts, CraftsDocument}
use Rattle.sp_adversary.specs.declared.crafters.Crafted.{Crafted}
use Rattle.sp_adversary.specs.declared.crafters.Crafted.TheVariants as answers

-- what a call answers where so many objects were crafted, and what it leaves: this is made in the run, or the run's signer is spent
abbrev pub Answers : {A : Type 0} → Scenario → List worlds.Crafted → (key : NodeId) → (made : A) → Result (Crafted A) Memory → Crafters → Type 0
Answers s crafted key made (Ok (answers.Signed it)) new =
    (crafts crafted key < (setting_of s).total) × (it ≡ made) × (new ≡ crafters_of s (with_craft crafted key))
Answers s crafted key made (Ok (answers.Spent total)) new =
    ((setting_of s).total ≤ crafts crafted key) × (total ≡ (setting_of s).total) × (new ≡ crafters_of s crafted)
Answers s crafted key made (Err refused) new = new ≡ crafters_of s crafted

-- a message
abbrev pub AnswersCraft : Scenario → List worlds.Crafted → (key : NodeId) → Body → Result (Crafted Kept) Memory → Crafters → Type 0
AnswersCraft s crafted key body result new = Answers s crafted key (crafted_object (format_in s.format) (setting_of s) crafted key body) result new

-- a document under the key of a node
abbrev pub AnswersDocument : Scenario → List worlds.Crafted → (key : NodeId) → (version : ℕ) → (weights : List ℕ) → Result (Crafted (List ℕ)) Memory → Crafters
    → Type 0
AnswersDocument s crafted key version weights result new =
    Answers s crafted key (crafted_document (format_in s.format) (setting_of s) crafted key.0 version weights) result new

-- the law that crafts are signed with the indexes that the run counts
pub record CraftsAreCounted : Type 0 where
  pub messages : (s : Scenario) (crafted : List worlds.Crafted) (key : NodeId) (body : Body) (result : Result (Crafted Kept) Memory) (new : Crafters)
      → Crafts (crafters_of s crafted) key body result new → AnswersCraft s crafted key body result new
  pub documents : (s : Scenario) (crafted : List worlds.Crafted) (key : NodeId) (version : ℕ) (weights : List ℕ) (result : Result (Crafted (List ℕ)) Memory)
      (new : Crafters) → 1 ≤ key.0 → CraftsDocument (crafters_of s crafted) key (unsigned_of s version weights) result new
      → AnswersDocument s crafted key version weights result new
