-- What one line of a schedule says at its stage: the next stage, or why it is refused.
--
--     stage       good lines       the next stage
--     Start       schedule FORMAT  Version
--     Version     seed HEX64       Seed
--     Seed        height H         Height
--     Height      bounds B C       Bounds
--     Bounds      nodes N          Edges, with no edge yet
--     Edges       edge A B W       Edges, with one edge more
--                 bad I            Bads
--                 epochs           Epochs, in format 2 alone
--                 begin            Events, with no event yet
--     Bads        bad I            Bads, with one node more
--                 epochs           Epochs, in format 2 alone
--                 begin            Events, with no event yet
--     Epochs      begin            Events, with no event yet
--     Events      an event         Events, with one event more
--                 end              End
--     End         none
--
-- Every bad line of the header is `Header`. After 16,384 events each line but `end` is `TooMany`, whatever else is wrong with it.
use Rattle.std.specs.Prelude.{ℕ, ◌≡◌, ◌&&◌, ◌||◌, ◌==◌, nat_le, nat_lt, Bool, true, false, if◌then◌else◌}
use Rattle.std.specs.Prelude.{List, [], ◌∷◌, ◌++◌, length, Option, Some, None, Result, Ok, Err}
use Rattle.sp_base.specs.Formats.{max_edges}
use Rattle.sp_base.specs.Refusals.{◌>>=◌}
use Rattle.sp_base.specs.declared.format.TheConstants.{FORMAT_2}
use Rattle.sp_base.specs.declared.limits.TheConstants.{MAX_EVENTS}
use Rattle.sp_base.specs.declared.id.NodeId.{NodeId}
use Rattle.sp_base.specs.declared.id.Limits.{Limits}
use Rattle.sp_text.specs.Spelling.{Word}
use Rattle.sp_lines.specs.Rows.{fits, line_of}
use Rattle.sp_lines.specs.declared.fault.Fault.{Fault}
use Rattle.sp_lines.specs.declared.fault.Fault.TheVariants as faults
use Rattle.sp_graph.specs.Edges.{last_edge, with_edge as with_edge_more}
use Rattle.sp_graph.specs.declared.graph.Graph.{Graph}
use Rattle.sp_topology.specs.declared.topology.Edge.{Edge}
use Rattle.sp_topology.specs.declared.topology.LmsHeight.{LmsHeight}
use Rattle.sp_schedule_events.specs.EventLines.{read_event}
use Rattle.sp_schedule_events.specs.declared.scenario.Scenario.{Scenario}
use Rattle.sp_schedule_events.specs.declared.event.Event.{Event}
use Rattle.sp_schedule.specs.Header.{bad_cells, begin_cells, bounds_cells, edge_cells, end_cells, epochs_cells, height_cells, nodes_cells, seed_cells}
use Rattle.sp_schedule.specs.Header.{version_cells}
use Rattle.sp_schedule.specs.Header.{edge_of, height_at, limits_of, next_after}
use Rattle.sp_schedule.specs.Refusals.{kind_of}
use Rattle.sp_schedule.specs.declared.lead.Lead.{Lead}
use Rattle.sp_schedule.specs.declared.lead.Lead.TheVariants as leads
use Rattle.sp_schedule.specs.declared.parsed.Parsed.{Parsed}
use Rattle.sp_schedule.specs.declared.parsed.Parsed.TheVariants as parts
use Rattle.sp_schedule.specs.declared.stage.Stage.{Stage}
use Rattle.sp_schedule.specs.declared.stage.Stage.TheVariants as stages
use Rattle.sp_schedule.specs.declared.refused.Kind.{Kind}
use Rattle.sp_schedule.specs.declared.refused.Kind.TheVariants as kinds

-- ---- scenarios that grow

-- no edge yet, no compromised node, and no epochs
abbrev pub bare : (format : ℕ) → List ℕ → LmsHeight → Limits → ℕ → Scenario
bare format seed height limits nodes =
    record { format = format; seed = seed; height = height; limits = limits; graph = record { nodes = nodes; edges = [] }; bad = []; epochs = false }

-- one edge more
abbrev pub with_edge : Scenario → Edge → Scenario
with_edge s e =
    record { format = s.format; seed = s.seed; height = s.height; limits = s.limits; graph = with_edge_more s.graph e; bad = s.bad; epochs = s.epochs }

-- one compromised node more
abbrev pub with_bad : Scenario → NodeId → Scenario
with_bad s id = record { format = s.format; seed = s.seed; height = s.height; limits = s.limits; graph = s.graph; bad = s.bad ++ id ∷ []; epochs = s.epochs }

-- its nodes start and stop by events
abbrev pub with_epochs : Scenario → Scenario
with_epochs s = record { format = s.format; seed = s.seed; height = s.height; limits = s.limits; graph = s.graph; bad = s.bad; epochs = true }

-- the first edge stands before the second in the order of their ends
abbrev pub is_lower : Edge → Edge → Bool
is_lower f e = nat_lt f.low.0 e.low.0 || ((f.low.0 == e.low.0) && nat_lt f.high.0 e.high.0)

-- whether an edge comes after the last one
abbrev pub is_above : Option Edge → Edge → Bool
is_above None e = true
is_above (Some f) e = is_lower f e

-- the lower end comes first, and the edge stands after the edges so far, which aren't too many
abbrev pub is_next_edge : (format : ℕ) → Graph → Edge → Bool
is_next_edge format g e = nat_lt e.low.0 e.high.0 && is_above (last_edge g.edges) e && nat_lt (length g.edges) (max_edges format)

-- ---- lines

-- a line of the header, with where it leads
abbrev pub header : {X : Type 0} → Result X Fault → (X → Stage) → Result Stage Kind
header (Ok x) next = Ok (next x)
header (Err fault) next = Err kinds.Header

-- an edge, if it may be the next one
abbrev pub if_next : (format : ℕ) → Graph → Edge → Result Edge Fault
if_next format g e = if is_next_edge format g e then Ok e else Err faults.Range

-- the edge of a line, where it may come next
abbrev pub next_edge : Scenario → List Word → Result Edge Fault
next_edge s words = line_of (edge_cells s.graph.nodes) words >>= λ x. if_next s.format s.graph (edge_of s.graph.nodes x)

-- a compromised node by its number
abbrev pub bad_node : ℕ → NodeId
bad_node n = record { 0 = n }

-- a line of a compromised node
abbrev pub says_bad : Scenario → List Word → Result Stage Kind
says_bad s words = header (line_of (bad_cells (next_after 1 s.bad) s.graph.nodes) words) (λ x. stages.Bads (with_bad s (bad_node x.0)))

-- a line of an edge
abbrev pub says_edge : Scenario → List Word → Result Stage Kind
says_edge s words = header (next_edge s words) (λ e. stages.Edges (with_edge s e))

-- the line `epochs`
abbrev pub says_epochs : Scenario → Result Stage Kind
says_epochs s = if s.format == FORMAT_2 then Ok (stages.Epochs (with_epochs s)) else Err kinds.Header

-- an event is one event more
abbrev pub event_more : Scenario → List Event → Result Event Fault → Result Stage Kind
event_more s es (Ok e) = Ok (stages.Events s (es ++ e ∷ []))
event_more s es (Err fault) = Err (kind_of fault)

-- what the words of a line say at a stage: where they lead, or why they are refused
abbrev pub says : Stage → List Word → Result Stage Kind
says stages.Start words = header (line_of version_cells words) (λ x. stages.Version x.0)
says (stages.Version format) words = header (line_of seed_cells words) (λ x. stages.Seed format x.0)
says (stages.Seed format seed) words = header (line_of height_cells words) (λ x. stages.Height format seed (height_at x.0))
says (stages.Height format seed height) words = header (line_of bounds_cells words) (λ x. stages.Bounds format seed height (limits_of x))
says (stages.Bounds format seed height limits) words = header (line_of (nodes_cells format) words) (λ x. stages.Edges (bare format seed height limits x.0))
says (stages.Edges s) words =
    if fits begin_cells words then Ok (stages.Events s [])
    else (if fits epochs_cells words then says_epochs s else (if fits (bad_cells 0 0) words then says_bad s words else says_edge s words))
says (stages.Bads s) words =
    if fits begin_cells words then Ok (stages.Events s []) else (if fits epochs_cells words then says_epochs s else says_bad s words)
says (stages.Epochs s) words = if fits begin_cells words then Ok (stages.Events s []) else Err kinds.Header
says (stages.Events s es) words =
    if fits end_cells words then Ok (stages.End s es)
    else (if nat_le MAX_EVENTS (length es) then Err kinds.TooMany else event_more s es (read_event s es words))
says (stages.End s es) words = Err kinds.AfterEnd

-- the header isn't whole
abbrev pub IsInHeader : Stage → Type 0
IsInHeader (stages.Events s es) = ⊥
IsInHeader (stages.End s es) = ⊥
IsInHeader _ = Unit {0}

-- what a line gave on the way from one stage to the next
abbrev pub IsParsed : Stage → Parsed → Stage → Type 0
IsParsed stage parts.Header next = IsInHeader stage × IsInHeader next
IsParsed stage (parts.Began s) next = IsInHeader stage × (next ≡ stages.Events s [])
IsParsed (stages.Events s es) (parts.Event e) next = next ≡ stages.Events s (es ++ e ∷ [])
IsParsed stage (parts.Event e) next = ⊥
IsParsed (stages.Events s es) parts.Ended next = next ≡ stages.End s es
IsParsed stage parts.Ended next = ⊥

-- what came of a line: it leads on, or the stage comes back
abbrev pub IsLead : Stage → List Word → Lead → Type 0
IsLead stage words (leads.To next parsed) = (says stage words ≡ Ok next) × IsParsed stage parsed next
IsLead stage words (leads.Bad back kind) = (back ≡ stage) × (says stage words ≡ Err kind)
IsLead stage words (leads.Unread back) = back ≡ stage
