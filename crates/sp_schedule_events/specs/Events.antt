-- The event of a row's values, and the values of an event.
use Rattle.std.specs.Prelude.{ℕ, ◌==◌, ◌&&◌, nat_le, Bool, true, false, List, length, filter}
use Rattle.sp_text.specs.Spelling.{Word}
use Rattle.sp_lines.specs.Rows.{Values, spelled}
use Rattle.sp_schedule_crafts.specs.Objects as objects
use Rattle.sp_schedule_crafts.specs.Objects.{id}
use Rattle.sp_schedule_crafts.specs.declared.object.CraftedObject.{CraftedObject}
use Rattle.sp_schedule_events.specs.Documents.{may_craft, may_publish, published}
use Rattle.sp_schedule_events.specs.Scenarios.{are_joined, differ, has_documents, has_paths}
use Rattle.sp_schedule_events.specs.Table as forms
use Rattle.sp_schedule_events.specs.Table.{Form, cells}
use Rattle.sp_schedule_events.specs.declared.scenario.Scenario.{Scenario}
use Rattle.sp_schedule_events.specs.declared.event.Event.{Event}
use Rattle.sp_schedule_events.specs.declared.event.Event.TheVariants as events

-- the event of a row with these values
abbrev pub event_of : (s : Scenario) (form : Form) → Values (cells s form) → Event
event_of s forms.Rel x = events.Rel (id x.0) (id x.1.0) x.1.1.0
event_of s forms.Prio x = events.Prio (id x.0) (id x.1.0) x.1.1.0 x.1.1.1.0 x.1.1.1.1.0 x.1.1.1.1.1.0
event_of s forms.Take x = events.Take (id x.0) (id x.1.0)
event_of s forms.TakePrio x = events.TakePrio (id x.0)
event_of s forms.Tick x = events.Tick (id x.0) x.1.0
event_of s forms.Weight x = events.Weight (id x.0) (id x.1.0) x.1.1.0
event_of s forms.Poll x = events.Poll (id x.0) (id x.1.0)
event_of s forms.Pass x = events.Pass (id x.0) (id x.1.0) x.1.1.0
event_of s forms.Flip x = events.Flip (id x.0) (id x.1.0) x.1.1.0 x.1.1.1.0 x.1.1.1.1.0
event_of s forms.Inject x = events.Inject (id x.0) (id x.1.0) x.1.1.0
event_of s forms.CraftStatus x = events.CraftStatus (id x.0) (id x.1.0) (id x.1.1.0) (id x.1.1.1.0) x.1.1.1.1.0 x.1.1.1.1.1.0
event_of s forms.Start x = events.Start (id x.0)
event_of s forms.Stop x = events.Stop (id x.0)
event_of s forms.Publish x = events.Publish (id x.0) x.1.0
event_of s forms.Krel x = events.Krel (id x.0) (id x.1.0) x.1.1.0 x.1.1.1.0
event_of s forms.KTake x = events.KTake (id x.0) (id x.1.0)
event_of s forms.CraftDocument x = events.CraftDocument (id x.0) (id x.1.0) x.1.1.0 x.1.1.1.0 x.1.1.1.1.0
event_of s (forms.Craft object) x = events.Craft (id x.0) (id x.1.0) (id x.1.1.0) (objects.object_of s.format object x.1.1.1)

-- the row of an event
abbrev pub form_of : Event → Form
form_of (events.Rel s d payload) = forms.Rel
form_of (events.Prio s d prio expiry paths payload) = forms.Prio
form_of (events.Take d s) = forms.Take
form_of (events.TakePrio d) = forms.TakePrio
form_of (events.Tick u now) = forms.Tick
form_of (events.Weight u v weight) = forms.Weight
form_of (events.Poll u v) = forms.Poll
form_of (events.Pass u v n) = forms.Pass
form_of (events.Flip u v n back bit) = forms.Flip
form_of (events.Inject u v bytes) = forms.Inject
form_of (events.CraftStatus c v s d base have) = forms.CraftStatus
form_of (events.Craft c v key object) = forms.Craft (objects.form_of object)
form_of (events.Start u) = forms.Start
form_of (events.Stop u) = forms.Stop
form_of (events.Publish u weights) = forms.Publish
form_of (events.CraftDocument c v key version weights) = forms.CraftDocument
form_of (events.Krel s d paths payload) = forms.Krel
form_of (events.KTake d s) = forms.KTake

-- its values in that row
abbrev pub values_of : (s : Scenario) (e : Event) → Values (cells s (form_of e))
values_of z (events.Rel s d payload) = (s.0, (d.0, (payload, tt)))
values_of z (events.Prio s d prio expiry paths payload) = (s.0, (d.0, (prio, (expiry, (paths, (payload, tt))))))
values_of z (events.Take d s) = (d.0, (s.0, tt))
values_of z (events.TakePrio d) = (d.0, tt)
values_of z (events.Tick u now) = (u.0, (now, tt))
values_of z (events.Weight u v weight) = (u.0, (v.0, (weight, tt)))
values_of z (events.Poll u v) = (u.0, (v.0, tt))
values_of z (events.Pass u v n) = (u.0, (v.0, (n, tt)))
values_of z (events.Flip u v n back bit) = (u.0, (v.0, (n, (back, (bit, tt)))))
values_of z (events.Inject u v bytes) = (u.0, (v.0, (bytes, tt)))
values_of z (events.CraftStatus c v s d base have) = (c.0, (v.0, (s.0, (d.0, (base, (have, tt))))))
values_of z (events.Craft c v key object) = (c.0, (v.0, (key.0, objects.values_of z.format object)))
values_of z (events.Start u) = (u.0, tt)
values_of z (events.Stop u) = (u.0, tt)
values_of z (events.Publish u weights) = (u.0, (weights, tt))
values_of z (events.CraftDocument c v key version weights) = (c.0, (v.0, (key, (version, (weights, tt)))))
values_of z (events.Krel s d paths payload) = (s.0, (d.0, (paths, (payload, tt))))
values_of z (events.KTake d s) = (d.0, (s.0, tt))

-- the words of an event. They are the same in each scenario of a format
abbrev pub event_words : Scenario → Event → List Word
event_words s e = spelled (cells s (form_of e)) (values_of s e)

-- ---- the rules that join fields

-- a poll of this direction
abbrev pub is_poll : ℕ → ℕ → Event → Bool
is_poll a b (events.Poll u v) = (u.0 == a) && (v.0 == b)
is_poll a b _ = false

-- how many frames of this direction the events make
abbrev pub polls : List Event → ℕ → ℕ → ℕ
polls es u v = length (filter (is_poll u v) es)

-- the frame of this number was made
abbrev pub is_polled : List Event → ℕ → ℕ → ℕ → Bool
is_polled es u v n = nat_le 1 n && nat_le n (polls es u v)

-- the format has the object
abbrev pub has_object : Scenario → CraftedObject → Bool
has_object s object = objects.has_form s.format (objects.form_of object)

-- the fields of an event go together
abbrev pub is_joined : Scenario → List Event → Event → Bool
is_joined s es (events.Rel a b payload) = differ a.0 b.0
is_joined s es (events.Prio a b prio expiry paths payload) = differ a.0 b.0
is_joined s es (events.Take a b) = differ a.0 b.0
is_joined s es (events.TakePrio d) = true
is_joined s es (events.Tick u now) = true
is_joined s es (events.Weight u v weight) = are_joined s u.0 v.0
is_joined s es (events.Poll u v) = are_joined s u.0 v.0
is_joined s es (events.Pass u v n) = is_polled es u.0 v.0 n
is_joined s es (events.Flip u v n back bit) = is_polled es u.0 v.0 n
is_joined s es (events.Inject u v bytes) = are_joined s u.0 v.0
is_joined s es (events.CraftStatus c v a b base have) = are_joined s c.0 v.0 && differ a.0 b.0
is_joined s es (events.Craft c v key object) = has_object s object && are_joined s c.0 v.0
is_joined s es (events.Start u) = true
is_joined s es (events.Stop u) = true
is_joined s es (events.Publish u weights) = has_documents s && may_publish s (published es) weights
is_joined s es (events.CraftDocument c v key version weights) =
    has_documents s && (are_joined s c.0 v.0 && may_craft s (published es) key version weights)
is_joined s es (events.Krel a b paths payload) = has_paths s && differ a.0 b.0
is_joined s es (events.KTake a b) = has_paths s && differ a.0 b.0
