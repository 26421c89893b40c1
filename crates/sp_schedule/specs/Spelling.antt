-- A schedule as text: its header, a line for each event, and `end`.
use Rattle.std.specs.Prelude.{ℕ, List, [], ◌∷◌, ◌++◌, map, if◌then◌else◌}
use Rattle.std.specs.List.{flat_map}
use Rattle.sp_base.specs.declared.format.TheConstants.{FORMAT_1}
use Rattle.sp_base.specs.declared.id.NodeId.{NodeId}
use Rattle.sp_base.specs.declared.id.Limits.{Limits}
use Rattle.sp_text.specs.Spelling.{Word}
use Rattle.sp_lines.specs.Rows.{line_text, spelled}
use Rattle.sp_topology.specs.declared.topology.Edge.{Edge}
use Rattle.sp_topology.specs.declared.topology.LmsHeight.{LmsHeight}
use Rattle.sp_schedule_events.specs.Events.{event_words}
use Rattle.sp_schedule_events.specs.declared.scenario.Scenario.{Scenario}
use Rattle.sp_schedule_events.specs.declared.event.Event.{Event}
use Rattle.sp_schedule.specs.Header.{bad_cells, begin_cells, bounds_cells, edge_cells, end_cells, epochs_cells, height_cells, nodes_cells, seed_cells}
use Rattle.sp_schedule.specs.Header.{version_cells}
use Rattle.sp_schedule.specs.Header.{bounds_values, edge_values, height_number}

-- ---- the words of each line

abbrev pub version_words : (format : ℕ) → List Word
version_words format = spelled version_cells (format, tt)

-- the line of a seed
abbrev pub seed_words : List ℕ → List Word
seed_words seed = spelled seed_cells (seed, tt)

-- the line of a height
abbrev pub height_words : LmsHeight → List Word
height_words height = spelled height_cells (height_number height, tt)

-- the line of bounds
abbrev pub bounds_words : Limits → List Word
bounds_words limits = spelled bounds_cells (bounds_values limits)

-- the line of a number of nodes
abbrev pub nodes_words : ℕ → List Word
nodes_words nodes = spelled (nodes_cells FORMAT_1) (nodes, tt)

-- the line of an edge
abbrev pub edge_words : Edge → List Word
edge_words e = spelled (edge_cells 0) (edge_values 0 e)

-- the line of a compromised node
abbrev pub bad_words : NodeId → List Word
bad_words id = spelled (bad_cells 0 0) (id.0, tt)

-- the line that says that nodes start and stop
abbrev pub epochs_words : List Word
epochs_words = spelled epochs_cells tt

-- the line that ends the header
abbrev pub begin_words : List Word
begin_words = spelled begin_cells tt

-- the line that ends a schedule
abbrev pub end_words : List Word
end_words = spelled end_cells tt

-- ---- the whole text

-- the lines up to the number of nodes
abbrev pub front_lines : (format : ℕ) → List ℕ → LmsHeight → Limits → ℕ → List (List Word)
front_lines format seed height limits nodes =
    version_words format ∷ seed_words seed ∷ height_words height ∷ bounds_words limits ∷ nodes_words nodes ∷ []

-- the lines before `epochs` and `begin`
abbrev pub scenario_lines : Scenario → List (List Word)
scenario_lines s = front_lines s.format s.seed s.height s.limits s.graph.nodes ++ (map edge_words s.graph.edges ++ map bad_words s.bad)

-- the line `epochs`, where the scenario has it
abbrev pub epochs_lines : Scenario → List (List Word)
epochs_lines s = if s.epochs then epochs_words ∷ [] else []

-- the lines of a header
abbrev pub header_lines : Scenario → List (List Word)
header_lines s = scenario_lines s ++ (epochs_lines s ++ begin_words ∷ [])

-- the lines of a schedule
abbrev pub schedule_lines : Scenario → List Event → List (List Word)
schedule_lines s es = header_lines s ++ (map (event_words s) es ++ end_words ∷ [])

-- the text of a schedule
unfoldable pub schedule_text : Scenario → List Event → List ℕ
schedule_text s es = flat_map line_text (schedule_lines s es)
