-- What the administrator hands out, and documents that are crafted.
use Rattle.std.specs.Prelude.{ℕ, ◌≡◌, ◌≤◌, ◌<◌, ◌+◌, ◌^◌, List, length, Option, Some, unwrap_or}
use Rattle.sp_adversary.specs.Documents.{administrator_of, version_by}
use Rattle.sp_frame.specs.declared.writing.TheConstants.{MAX_DOCUMENT_BYTES}
use Rattle.sp_hss.specs.KeyTree.{signature_len}
use Rattle.sp_runs.specs.Inputs.{handed_out}
use Rattle.sp_runs.specs.Scenarios.{document_of, setting_of, unsigned_of}
use Rattle.sp_runs.specs.Settings.{Setting}
use Rattle.sp_schedule_events.specs.Documents.{with_list}
use Rattle.sp_schedule_events.specs.declared.event.Event.{Event}
use Rattle.sp_schedule_events.specs.declared.event.Event.TheVariants as events
use Rattle.sp_schedule_events.specs.declared.published.Published.{Published}
use Rattle.sp_schedule_events.specs.declared.scenario.Scenario.{Scenario}
use Rattle.sp_sign.specs.Heights.{param_of}
use Rattle.sp_topology.specs.Ranges.{IsTopology}

-- the administrator's key has an index for the version, and the weights are in their ranges
pub record CanSign (s : Scenario) (version : ℕ) (weights : List ℕ) : Type 0 where
  pub topology : IsTopology (version_by (administrator_of s) version weights)
  pub some : 1 ≤ version
  pub most : version ≤ (setting_of s).admin_total

-- ---- what is handed out

-- a list was published, and the administrator can sign the last one
pub record HasLast (s : Scenario) (last : Published) : Type 0 where
  pub weights : List ℕ
  pub is : last.weights ≡ Some weights
  pub sign : CanSign s last.version weights

-- what the event publishes can be handed out, where this was published before it
abbrev pub CanHandOut : Scenario → Published → Event → Type 0
CanHandOut s was (events.Publish u weights) = (was.version + 1 < 2 ^ 32) × HasLast s (with_list was weights)
CanHandOut s was e = Unit {0}

-- the bytes are what it hands out
abbrev pub IsHanded : Setting → Published → Event → List ℕ → Type 0
IsHanded x was (events.Publish u weights) document = document ≡ handed_out x (with_list was weights)
IsHanded x was e document = Unit {0}

-- ---- what is crafted

-- A document with these weights, or the last ones, can be crafted: a frame has room for it under any key
pub record CanCraftDocument (s : Scenario) (last : Published) (key version : ℕ) (weights : Option (List ℕ)) : Type 0 where
  pub list : List ℕ
  pub is : (own : List ℕ) → unwrap_or weights (unwrap_or last.weights own) ≡ list
  pub topology : IsTopology (version_by (administrator_of s) version list)
  pub index : key ≡ 0 → CanSign s version list
  pub signed : length (document_of s version list) ≤ MAX_DOCUMENT_BYTES
  pub unsigned : length (unsigned_of s version list) + signature_len (param_of s.height) ≤ MAX_DOCUMENT_BYTES
