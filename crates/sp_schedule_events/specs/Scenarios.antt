-- What a scenario says of nodes and pairs of nodes.
use Rattle.std.specs.Prelude.{ℕ, ◌==◌, Bool, not}
use Rattle.std.specs.List.{list_any}
use Rattle.sp_base.specs.declared.format.TheConstants.{FORMAT_1}
use Rattle.sp_topology.specs.Neighbours.{joins}
use Rattle.sp_schedule_events.specs.declared.scenario.Scenario.{Scenario}

-- the scenario names the node as compromised
abbrev pub is_bad : Scenario → ℕ → Bool
is_bad s n = list_any (λ id. id.0 == n) s.bad

-- it doesn't
abbrev pub is_correct : Scenario → ℕ → Bool
is_correct s n = not (is_bad s n)

-- an edge joins the two
abbrev pub are_joined : Scenario → ℕ → ℕ → Bool
are_joined s a b = list_any (joins a b) s.graph.edges

-- whether two numbers differ
abbrev pub differ : ℕ → ℕ → Bool
differ a b = not (a == b)

-- the administrator signs documents in format 2 alone
abbrev pub has_documents : Scenario → Bool
has_documents s = not (s.format == FORMAT_1)

-- there are flows on paths in format 2 alone
abbrev pub has_paths : Scenario → Bool
has_paths s = not (s.format == FORMAT_1)
