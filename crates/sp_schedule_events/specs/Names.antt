-- The first word of each line, and what is read behind it.
use Rattle.std.specs.Prelude.{Bool, List, [], ◌∷◌, find, Option, Result, Ok, Err, codes, if◌then◌else◌}
use Rattle.sp_base.specs.Refusals.{◌>>=◌}
use Rattle.sp_text.specs.Spelling.{Word}
use Rattle.sp_lines.specs.Cells.{number_at, same, tested_at}
use Rattle.sp_lines.specs.Rows.{fits}
use Rattle.sp_lines.specs.declared.fault.Fault.{Fault}
use Rattle.sp_lines.specs.declared.fault.Fault.TheVariants as faults
use Rattle.sp_schedule_crafts.specs.Reading as objects
use Rattle.sp_schedule_crafts.specs.Objects.{id}
use Rattle.sp_schedule_crafts.specs.declared.form.ObjectForm.{ObjectForm}
use Rattle.sp_schedule_events.specs.EventLines.{read_form}
use Rattle.sp_schedule_events.specs.Scenarios.{are_joined, is_correct}
use Rattle.sp_schedule_events.specs.Table.{Form, cells}
use Rattle.sp_schedule_events.specs.declared.event.Event.{Event}
use Rattle.sp_schedule_events.specs.declared.event.Event.TheVariants as events
use Rattle.sp_schedule_events.specs.declared.scenario.Scenario.{Scenario}
use Rattle.sp_schedule_events.specs.declared.line_of.LineName.{LineName}
use Rattle.sp_schedule_events.specs.declared.line_of.LineName.TheVariants as lines

abbrev pub name : LineName → Word
name lines.Rel = codes "rel"
name lines.Prio = codes "prio"
name lines.Take = codes "take"
name lines.TakePrio = codes "takep"
name lines.Tick = codes "tick"
name lines.Weight = codes "weight"
name lines.Poll = codes "poll"
name lines.Pass = codes "pass"
name lines.Flip = codes "flip"
name lines.Inject = codes "inject"
name lines.Craft = codes "craft"
name lines.Start = codes "start"
name lines.Stop = codes "stop"
name lines.Publish = codes "publish"
name lines.Krel = codes "krel"
name lines.KTake = codes "ktake"

-- all lines
abbrev pub names : List LineName
names =
    lines.Rel ∷ lines.Prio ∷ lines.Take ∷ lines.TakePrio ∷ lines.Tick ∷ lines.Weight ∷ lines.Poll ∷ lines.Pass ∷ lines.Flip ∷ lines.Inject ∷ lines.Craft
    ∷ lines.Start ∷ lines.Stop ∷ lines.Publish ∷ lines.Krel ∷ lines.KTake ∷ []

-- the line with this first word
abbrev pub line_named : Word → Option LineName
line_named word = find (λ line. same word (name line)) names

-- the event of words with the name of a form, where no other form has this name
abbrev pub line_for : Scenario → List Event → Form → List Word → Result Event Fault
line_for s es form words = if fits (cells s form) words then read_form s es form words else Err faults.Form

-- the same where not each scenario has the form
abbrev pub line_where : (has : Bool) → Scenario → List Event → Form → List Word → Result Event Fault
line_where has s es form words = if has then line_for s es form words else Err faults.Form

-- the event of a crafted object of this form, whose name has these words behind it
abbrev pub crafted_event : Scenario → Word → Word → Word → ObjectForm → List Word → Result Event Fault
crafted_event s c v key form fields =
    number_at 1 s.graph.nodes c >>= λ from. tested_at 1 s.graph.nodes (is_correct s) v >>= λ to. number_at 1 s.graph.nodes key >>= λ signer.
    objects.line_for s.format form (objects.name form ∷ fields) >>= λ object.
    if are_joined s from to then Ok (events.Craft (id from) (id to) (id signer) object) else Err faults.Range
