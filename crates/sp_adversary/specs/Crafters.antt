-- What a contract sees of the crafting signers: the format of messages, the height and the seed of all keys, and how many messages were signed with each.
use Rattle.std.specs.Prelude.{ℕ, List, []}
use Rattle.sp_hss.specs.KeyTree.{total}
use Rattle.sp_runs.specs.Worlds.{Crafted}
use Rattle.sp_schedule_events.specs.declared.scenario.Scenario.{Scenario}
use Rattle.sp_sign.specs.Heights.{param_of}
use Rattle.sp_topology.specs.declared.topology.LmsHeight.{LmsHeight}

pub record Crafters : Type 0 where
  pub format : ℕ
  pub height : LmsHeight
  pub seed : List ℕ
  -- the keys that were used, in the order of their first use, and how many messages were signed with each
  pub keys : List Crafted

-- how many each key signs
abbrev pub most : Crafters → ℕ
most c = total (param_of c.height)

-- those of a scenario, with which so many objects were crafted
abbrev pub crafters_of : Scenario → List Crafted → Crafters
crafters_of s crafted = record { format = s.format; height = s.height; seed = s.seed; keys = crafted }

-- none was
abbrev pub no_crafts : Scenario → Crafters
no_crafts s = crafters_of s []
