-- The lines of events, a row for each.
--
--     rel S D HEX                        poll U V
--     prio S D P EXPIRY K HEX            pass U V NUMBER
--     take D S                           flip U V NUMBER BACK BIT
--     takep D                            inject U V HEX
--     tick U NOW                         craft C V status S D BASE HAVE
--     weight U V W                       craft C V KEY and an object of the crafts' table
--
--     start U                            publish U LIST
--     stop U                             craft C V KEY document N LIST
--     krel S D K HEX                     ktake D S
--
-- The key of a crafted object may be that of any node, and the key of a document also 0, the administrator's. LIST has a weight for each edge, 0 for one that
-- is withdrawn, or is `same` for the last list that was published. Nodes start and stop in a scenario with epochs alone. Documents and flows on paths are of
-- format 2.
use Rattle.std.specs.Prelude.{◌-◌, ◌^◌, ◌&&◌, Bool, true, false, List, [], ◌∷◌, length, map, codes, if◌then◌else◌}
use Rattle.sp_base.specs.declared.limits.TheConstants.{MAX_PRIORITY, MAX_WEIGHT}
use Rattle.sp_text.specs.Spelling.{Word}
use Rattle.sp_lines.specs.Cells.{Bytes, Cell, Name, Number, Numbers, Tested, same}
use Rattle.sp_schedule_crafts.specs.Objects as objects
use Rattle.sp_schedule_crafts.specs.Objects.{any_number, payload}
use Rattle.sp_schedule_crafts.specs.declared.form.ObjectForm.{ObjectForm}
use Rattle.sp_schedule_events.specs.Scenarios.{has_documents, has_paths, is_correct}
use Rattle.sp_schedule_events.specs.declared.scenario.Scenario.{Scenario}

-- the forms of an event's line
pub data Form : Type 0 where
  Rel : Form
  Prio : Form
  Take : Form
  TakePrio : Form
  Tick : Form
  Weight : Form
  Poll : Form
  Pass : Form
  Flip : Form
  Inject : Form
  CraftStatus : Form
  Craft : ObjectForm → Form
  Start : Form
  Stop : Form
  Publish : Form
  CraftDocument : Form
  Krel : Form
  KTake : Form

-- ---- places

-- a node of the scenario
abbrev pub node : Scenario → Cell
node s = Number 1 s.graph.nodes

-- a correct node of the scenario
abbrev pub correct : Scenario → Cell
correct s = Tested 1 s.graph.nodes (is_correct s)

-- a weight for each edge
abbrev pub weights : Scenario → Cell
weights s = Numbers (length s.graph.edges) MAX_WEIGHT

-- ---- rows

-- the row of a form
abbrev pub cells : Scenario → Form → List Cell
cells s Rel = Name (codes "rel") ∷ correct s ∷ node s ∷ payload ∷ []
cells s Prio = Name (codes "prio") ∷ correct s ∷ node s ∷ Number 1 MAX_PRIORITY ∷ any_number ∷ Number 0 8 ∷ payload ∷ []
cells s Take = Name (codes "take") ∷ correct s ∷ node s ∷ []
cells s TakePrio = Name (codes "takep") ∷ correct s ∷ []
cells s Tick = Name (codes "tick") ∷ correct s ∷ any_number ∷ []
cells s Weight = Name (codes "weight") ∷ correct s ∷ node s ∷ Number 1 MAX_WEIGHT ∷ []
cells s Poll = Name (codes "poll") ∷ correct s ∷ node s ∷ []
cells s Pass = Name (codes "pass") ∷ correct s ∷ correct s ∷ any_number ∷ []
cells s Flip = Name (codes "flip") ∷ correct s ∷ correct s ∷ any_number ∷ Number 1 64 ∷ Number 0 7 ∷ []
cells s Inject = Name (codes "inject") ∷ node s ∷ correct s ∷ Bytes 0 65507 ∷ []
cells s CraftStatus = Name (codes "craft") ∷ node s ∷ correct s ∷ Name (codes "status") ∷ node s ∷ node s ∷ any_number ∷ any_number ∷ []
cells s (Craft object) = Name (codes "craft") ∷ node s ∷ correct s ∷ node s ∷ objects.cells s.format object
cells s Start = Name (codes "start") ∷ correct s ∷ []
cells s Stop = Name (codes "stop") ∷ correct s ∷ []
cells s Publish = Name (codes "publish") ∷ correct s ∷ weights s ∷ []
cells s CraftDocument =
    Name (codes "craft") ∷ node s ∷ correct s ∷ Number 0 s.graph.nodes ∷ Name (codes "document") ∷ Number 1 (2 ^ 32 - 1) ∷ weights s ∷ []
cells s Krel = Name (codes "krel") ∷ correct s ∷ node s ∷ Number 1 8 ∷ payload ∷ []
cells s KTake = Name (codes "ktake") ∷ correct s ∷ node s ∷ []

-- ---- the forms of a scenario

-- all but the report
abbrev pub forms : List Form
forms =
    Rel ∷ Prio ∷ Take ∷ TakePrio ∷ Tick ∷ Weight ∷ Poll ∷ Pass ∷ Flip ∷ Inject ∷ Start ∷ Stop ∷ Publish ∷ Krel ∷ KTake ∷ CraftDocument
    ∷ map Craft objects.forms

-- those that a scenario has
abbrev pub has_form : Scenario → Form → Bool
has_form s Start = s.epochs
has_form s Stop = s.epochs
has_form s Publish = has_documents s
has_form s CraftDocument = has_documents s
has_form s Krel = has_paths s
has_form s KTake = has_paths s
has_form s (Craft object) = objects.has_form s.format object
has_form s form = true

-- the word `status` in the place of a key is that of a report, whatever comes after it
abbrev pub has_status : List Word → Bool
has_status (c ∷ v ∷ key ∷ words) = same key (codes "status")
has_status words = false

-- whether a line crafts a report
abbrev pub is_report : List Word → Bool
is_report (name ∷ words) = same name (codes "craft") && has_status words
is_report [] = false

-- those that words may have
abbrev pub forms_for : List Word → List Form
forms_for words = if is_report words then CraftStatus ∷ [] else forms
