-- The lines of effects after their plus, a row for each.
--
--     signed HEX                        delivered rel SRC SEQ HEX
--     stored PLACE ID SRC SEQ PRIO      delivered prio SRC SEQ HEX
--     gone PLACE ID WHY                 weight ORIGIN EDGE SEQ WEIGHT
--     version VERSION                   ended S D
--     delivered krel SRC SEQ HEX        kended S D
use Rattle.std.specs.Prelude.{ℕ, ◌+◌, ◌-◌, ◌^◌, List, [], ◌∷◌, Option, Some, None, Result, Ok, Err, codes}
use Rattle.sp_base.specs.Refusals.{◌>>=◌}
use Rattle.sp_base.specs.declared.limits.TheConstants.{MAX_EDGES_2, MAX_NODES_2, MAX_PAYLOAD_BYTES, MAX_PRIORITY, MAX_SEQ, MAX_WEIGHT}
use Rattle.sp_base.specs.declared.id.Flow.{Flow}
use Rattle.sp_base.specs.declared.id.NodeId.{NodeId}
use Rattle.sp_text.specs.Spelling.{Word}
use Rattle.sp_lines.specs.Cells.{Bytes, Cell, Name, Number}
use Rattle.sp_lines.specs.Rows.{AreIn, Values, form_among, row_at}
use Rattle.sp_lines.specs.declared.fault.Fault.{Fault}
use Rattle.sp_lines.specs.declared.fault.Fault.TheVariants as faults
use Rattle.sp_msg.specs.declared.effect.Effect.{Effect}
use Rattle.sp_msg.specs.declared.effect.Effect.TheVariants as effects
use Rattle.sp_msg.specs.declared.effect.Why.{Why}
use Rattle.sp_msg.specs.declared.effect.Why.TheVariants as whys
use Rattle.sp_journal.specs.Words.{why_word}
use Rattle.sp_journal_reading.specs.declared.effect_line.Kind.{Kind}
use Rattle.sp_journal_reading.specs.declared.effect_line.Kind.TheVariants as kinds

-- the forms of an effect's line
pub data Form : Type 0 where
  Signed : Form
  Stored : Form
  Gone : Why → Form
  Delivered : Kind → Form
  Weight : Form
  Ended : Form
  Kended : Form
  Version : Form

-- ---- places

-- any number of 64 bits
abbrev pub any_number : Cell
any_number = Number 0 (2 ^ 64 - 1)

-- a number of 32 bits
abbrev pub small_number : Cell
small_number = Number 0 (2 ^ 32 - 1)

-- a neighbour, or 0 for the inbox
abbrev pub place : Cell
place = Number 0 MAX_NODES_2

-- a node of either format
abbrev pub node : Cell
node = Number 1 MAX_NODES_2

-- a sequence number
abbrev pub seq : Cell
seq = Number 1 MAX_SEQ

-- a payload
abbrev pub payload : Cell
payload = Bytes 0 MAX_PAYLOAD_BYTES

-- the word of each kind
abbrev pub kind_word : Kind → Word
kind_word kinds.Rel = codes "rel"
kind_word kinds.Prio = codes "prio"
kind_word kinds.Krel = codes "krel"

-- ---- rows

-- the row of a form. The longest body is that of a priority message of format 2, of 62 bytes and its payload
abbrev pub cells : Form → List Cell
cells Signed = Name (codes "signed") ∷ Bytes 0 (62 + MAX_PAYLOAD_BYTES) ∷ []
cells Stored = Name (codes "stored") ∷ place ∷ any_number ∷ node ∷ seq ∷ Number 1 MAX_PRIORITY ∷ []
cells (Gone why) = Name (codes "gone") ∷ place ∷ any_number ∷ Name (why_word why) ∷ []
cells (Delivered kind) = Name (codes "delivered") ∷ Name (kind_word kind) ∷ node ∷ seq ∷ payload ∷ []
cells Weight = Name (codes "weight") ∷ node ∷ Number 0 (MAX_EDGES_2 - 1) ∷ seq ∷ Number 1 MAX_WEIGHT ∷ []
cells Ended = Name (codes "ended") ∷ node ∷ node ∷ []
cells Kended = Name (codes "kended") ∷ node ∷ node ∷ []
cells Version = Name (codes "version") ∷ small_number ∷ []

-- all forms
abbrev pub forms : List Form
forms =
    Signed ∷ Stored ∷ Gone whys.Evicted ∷ Gone whys.Expired ∷ Gone whys.Acked ∷ Gone whys.Taken ∷ Gone whys.Withdrawn
    ∷ Delivered kinds.Rel ∷ Delivered kinds.Prio ∷ Delivered kinds.Krel ∷ Weight ∷ Ended ∷ Kended ∷ Version ∷ []

-- ---- effects

-- a node by its number
abbrev pub id : ℕ → NodeId
id n = record { 0 = n }

-- a flow by the numbers of its ends
abbrev pub flow : (src dst : ℕ) → Flow
flow src dst = record { src = id src; dst = id dst }

-- the effect of a row with these values
abbrev pub effect_of : (form : Form) → Values (cells form) → Effect
effect_of Signed x = effects.Signed x.0
effect_of Stored x = effects.Stored x.0 x.1.0 (id x.1.1.0) x.1.1.1.0 x.1.1.1.1.0
effect_of (Gone why) x = effects.Gone x.0 x.1.0 why
effect_of (Delivered kinds.Rel) x = effects.Delivered (id x.0) x.1.0 x.1.1.0
effect_of (Delivered kinds.Prio) x = effects.DeliveredPrio (id x.0) x.1.0 x.1.1.0
effect_of (Delivered kinds.Krel) x = effects.DeliveredKrel (id x.0) x.1.0 x.1.1.0
effect_of Weight x = effects.WeightHeld (id x.0) (record { 0 = x.1.0 }) x.1.1.0 x.1.1.1.0
effect_of Ended x = effects.Ended (flow x.0 x.1.0)
effect_of Kended x = effects.Kended (flow x.0 x.1.0)
effect_of Version x = effects.Version x.0

-- the row of an effect
abbrev pub form_of : Effect → Form
form_of (effects.Signed body) = Signed
form_of (effects.Stored at key src number prio) = Stored
form_of (effects.Gone at key why) = Gone why
form_of (effects.Delivered src number bytes) = Delivered kinds.Rel
form_of (effects.DeliveredPrio src number bytes) = Delivered kinds.Prio
form_of (effects.DeliveredKrel src number bytes) = Delivered kinds.Krel
form_of (effects.WeightHeld origin edge number weight) = Weight
form_of (effects.Ended of) = Ended
form_of (effects.Kended of) = Kended
form_of (effects.Version version) = Version

-- its values in that row
abbrev pub values_of : (e : Effect) → Values (cells (form_of e))
values_of (effects.Signed body) = (body, tt)
values_of (effects.Stored at key src number prio) = (at, (key, (src.0, (number, (prio, tt)))))
values_of (effects.Gone at key why) = (at, (key, tt))
values_of (effects.Delivered src number bytes) = (src.0, (number, (bytes, tt)))
values_of (effects.DeliveredPrio src number bytes) = (src.0, (number, (bytes, tt)))
values_of (effects.DeliveredKrel src number bytes) = (src.0, (number, (bytes, tt)))
values_of (effects.WeightHeld origin edge number weight) = (origin.0, (edge.0, (number, (weight, tt))))
values_of (effects.Ended of) = (of.src.0, (of.dst.0, tt))
values_of (effects.Kended of) = (of.src.0, (of.dst.0, tt))
values_of (effects.Version version) = (version, tt)

-- an effect in its ranges
abbrev pub IsInRange : Effect → Type 0
IsInRange e = AreIn (cells (form_of e)) (values_of e)

-- ---- reading

-- the form of an effect with these words
abbrev pub form_for : List Word → Option Form
form_for words = form_among cells forms words

-- the effect of words that fit the row of a form
unfoldable pub read_form : Form → List Word → Result Effect Fault
read_form form words = row_at (cells form) words >>= λ xs. Ok (effect_of form xs)

-- the effect that words of a form say, or the first fault
abbrev pub read_for : Option Form → List Word → Result Effect Fault
read_for None words = Err faults.Form
read_for (Some form) words = read_form form words

-- the effect of the words after a plus
abbrev pub read_effect : List Word → Result Effect Fault
read_effect words = read_for (form_for words) words
