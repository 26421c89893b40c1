-- What the line of an event says: the event, or the first fault in its order.
use Rattle.std.specs.Prelude.{◌≡◌, ◌&&◌, true, List, find, Option, Some, None, Result, Ok, Err, if◌then◌else◌}
use Rattle.sp_base.specs.Refusals.{◌>>=◌}
use Rattle.sp_text.specs.Spelling.{Word}
use Rattle.sp_lines.specs.Rows.{AreIn, fits, row_at}
use Rattle.sp_lines.specs.declared.fault.Fault.{Fault}
use Rattle.sp_lines.specs.declared.fault.Fault.TheVariants as faults
use Rattle.sp_schedule_events.specs.Events.{event_of, form_of, is_joined, values_of}
use Rattle.sp_schedule_events.specs.Lives.{may_act}
use Rattle.sp_schedule_events.specs.Table.{Form, cells, forms_for, has_form}
use Rattle.sp_schedule_events.specs.declared.scenario.Scenario.{Scenario}
use Rattle.sp_schedule_events.specs.declared.event.Event.{Event}

-- the form of the scenario whose row the words fit
abbrev pub form_for : Scenario → List Word → Option Form
form_for s words = find (λ form. fits (cells s form) words && has_form s form) (forms_for words)

-- the rules that join fields come last: on the line itself, and on who is started
abbrev pub if_joined : Scenario → List Event → Event → Result Event Fault
if_joined s es e = if may_act s.epochs es e && is_joined s es e then Ok e else Err faults.Range

-- the event of words that fit the row of a form, after those before it
unfoldable pub read_form : Scenario → List Event → Form → List Word → Result Event Fault
read_form s es form words = row_at (cells s form) words >>= λ xs. if_joined s es (event_of s form xs)

-- the event that words of a form say, or the first fault
abbrev pub read_for : Scenario → List Event → Option Form → List Word → Result Event Fault
read_for s es None words = Err faults.Form
read_for s es (Some form) words = read_form s es form words

-- the event of these words
abbrev pub read_event : Scenario → List Event → List Word → Result Event Fault
read_event s es words = read_for s es (form_for s words) words

-- an event in its ranges, after those before it
pub record InRange (s : Scenario) (es : List Event) (e : Event) : Type 0 where
  pub values : AreIn (cells s (form_of e)) (values_of s e)
  pub joined : is_joined s es e ≡ true
  pub may : may_act s.epochs es e ≡ true
