-- The documents that the administrator signs, by the lines alone. The scenario's own is version 1, and each list of weights that is published makes the next.
--
--     publish 2 10,0      version 2 is signed, with these weights, and handed to 2
--     publish 3 same      version 2 is handed to 3
--     publish 1 10,20     version 3 is signed
use Rattle.std.specs.Prelude.{ℕ, ◌+◌, ◌*◌, ◌^◌, ◌==◌, ◌&&◌, ◌||◌, not, nat_le, nat_lt, is_some, fold, Bool, true, List, Option, Some, None}
use Rattle.std.specs.List.{list_any}
use Rattle.sp_rules.specs.Topologies.{is_removed, under}
use Rattle.sp_topology.specs.Heights.{height_number}
use Rattle.sp_topology.specs.declared.topology.Edge.{Edge}
use Rattle.sp_topology.specs.declared.topology.LmsHeight.{LmsHeight}
use Rattle.sp_schedule_events.specs.declared.event.Event.{Event}
use Rattle.sp_schedule_events.specs.declared.event.Event.TheVariants as events
use Rattle.sp_schedule_events.specs.declared.published.Published.{Published}
use Rattle.sp_schedule_events.specs.declared.scenario.Scenario.{Scenario}

-- ---- what is published

abbrev pub none_published : Published
none_published = record { version = 1; weights = None }

-- the weights of a line, where it publishes some
abbrev pub list_in : Event → Option (List ℕ)
list_in (events.Publish u weights) = weights
list_in _ = None

-- what was published, with one more list of weights if there is one
abbrev pub with_list : Published → Option (List ℕ) → Published
with_list was None = was
with_list was (Some weights) = record { version = was.version + 1; weights = Some weights }

-- the last version, and the weights of its list: none before a list
abbrev pub published : List Event → Published
published es = fold (λ was e. with_list was (list_in e)) none_published es

-- ---- which may come next

-- how many documents the administrator's key signs: it has two levels of the height, and version n takes index n - 1
abbrev pub documents : LmsHeight → ℕ
documents height = 2 ^ (2 * height_number height)

-- a removed node that isn't any more
abbrev pub comes_back : (old new : List Edge) → ℕ → Bool
comes_back old new u = is_removed old u && not (is_removed new u)

-- it has edges, so it is an end of one
abbrev pub has_back : (old new : List Edge) → Edge → Bool
has_back old new e = comes_back old new e.low.0 || comes_back old new e.high.0

-- No node comes back. None is removed before the first list
abbrev pub none_comes_back : List Edge → Option (List ℕ) → List ℕ → Bool
none_comes_back edges None new = true
none_comes_back edges (Some old) new = not (list_any (has_back (under edges old) (under edges new)) edges)

-- `same` comes after a list. A list comes while the administrator has an index, and no node comes back by it
abbrev pub may_publish : Scenario → Published → Option (List ℕ) → Bool
may_publish s was None = is_some was.weights
may_publish s was (Some weights) = nat_lt was.version (documents s.height) && none_comes_back s.graph.edges was.weights weights

-- the administrator's key has no index for a version that is too high
abbrev pub has_index : LmsHeight → (key version : ℕ) → Bool
has_index height key version = not (key == 0) || nat_le version (documents height)

-- a crafted document has any list, or the weights of the last one
abbrev pub has_weights : Published → Option (List ℕ) → Bool
has_weights was (Some weights) = true
has_weights was None = is_some was.weights

-- whether a document may be crafted with this key
abbrev pub may_craft : Scenario → Published → (key version : ℕ) → Option (List ℕ) → Bool
may_craft s was key version weights = has_index s.height key version && has_weights was weights
