-- What a world in memory keeps beside its past.
use Rattle.std.specs.Prelude.{ℕ, ◌≡◌}
use Rattle.sp_adversary.specs.Crafters.{Crafters, crafters_of}
use Rattle.sp_runs.specs.Scenarios.{setting_of}
use Rattle.sp_world.specs.Boots.{Home, IsHome}
use Rattle.sp_world.specs.Past.{IsPast, Past}

-- signatures have this length, the crafting signers are those of the scenario, and starts have what they need
pub record IsKept (p : Past) (len : ℕ) (c : Crafters) (h : Home) : Type 0 where
  pub past : IsPast p
  pub long : len ≡ (setting_of p.scenario).signature_len
  pub crafters : c ≡ crafters_of p.scenario c.keys
  pub home : IsHome p.scenario h
