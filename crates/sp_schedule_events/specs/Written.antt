-- An event as it is written in a format: its name, and its other words, each after a space.
use Rattle.std.specs.Prelude.{ℕ, List, [], ◌∷◌, ◌++◌, codes}
use Rattle.std.specs.Fmt.{decimal}
use Rattle.sp_base.specs.declared.id.NodeId.{NodeId}
use Rattle.sp_text.specs.Spelling.{Word, hex_word}
use Rattle.sp_lines.specs.Cells.{numbers_word}
use Rattle.sp_schedule_crafts.specs.Written.{object_words}
use Rattle.sp_schedule_events.specs.declared.event.Event.{Event}
use Rattle.sp_schedule_events.specs.declared.event.Event.TheVariants as events

-- two nodes
abbrev pub pair_words : NodeId → NodeId → List Word
pair_words a b = decimal a.0 ∷ decimal b.0 ∷ []

-- the name of an event
abbrev pub event_name : Event → Word
event_name (events.Rel s d payload) = codes "rel"
event_name (events.Prio s d prio expiry paths payload) = codes "prio"
event_name (events.Take d s) = codes "take"
event_name (events.TakePrio d) = codes "takep"
event_name (events.Tick u now) = codes "tick"
event_name (events.Weight u v weight) = codes "weight"
event_name (events.Poll u v) = codes "poll"
event_name (events.Pass u v n) = codes "pass"
event_name (events.Flip u v n back bit) = codes "flip"
event_name (events.Inject u v bytes) = codes "inject"
event_name (events.CraftStatus c v s d base have) = codes "craft"
event_name (events.Craft c v key object) = codes "craft"
event_name (events.Start u) = codes "start"
event_name (events.Stop u) = codes "stop"
event_name (events.Publish u weights) = codes "publish"
event_name (events.Krel s d paths payload) = codes "krel"
event_name (events.KTake d s) = codes "ktake"
event_name (events.CraftDocument c v key version weights) = codes "craft"

-- the node that acts, and the other node or the moment
abbrev pub front_words : Event → List Word
front_words (events.Rel s d payload) = pair_words s d
front_words (events.Prio s d prio expiry paths payload) = pair_words s d
front_words (events.Take d s) = pair_words d s
front_words (events.TakePrio d) = decimal d.0 ∷ []
front_words (events.Tick u now) = decimal u.0 ∷ decimal now ∷ []
front_words (events.Weight u v weight) = pair_words u v
front_words (events.Poll u v) = pair_words u v
front_words (events.Pass u v n) = pair_words u v
front_words (events.Flip u v n back bit) = pair_words u v
front_words (events.Inject u v bytes) = pair_words u v
front_words (events.CraftStatus c v s d base have) = pair_words c v
front_words (events.Craft c v key object) = pair_words c v
front_words (events.Start u) = decimal u.0 ∷ []
front_words (events.Stop u) = decimal u.0 ∷ []
front_words (events.Publish u weights) = decimal u.0 ∷ []
front_words (events.Krel s d paths payload) = pair_words s d
front_words (events.KTake d s) = pair_words d s
front_words (events.CraftDocument c v key version weights) = pair_words c v

-- what comes after these
abbrev pub back_words : (format : ℕ) → Event → List Word
back_words format (events.Rel s d payload) = hex_word payload ∷ []
back_words format (events.Prio s d prio expiry paths payload) = decimal prio ∷ decimal expiry ∷ decimal paths ∷ hex_word payload ∷ []
back_words format (events.Take d s) = []
back_words format (events.TakePrio d) = []
back_words format (events.Tick u now) = []
back_words format (events.Weight u v weight) = decimal weight ∷ []
back_words format (events.Poll u v) = []
back_words format (events.Pass u v n) = decimal n ∷ []
back_words format (events.Flip u v n back bit) = decimal n ∷ decimal back ∷ decimal bit ∷ []
back_words format (events.Inject u v bytes) = hex_word bytes ∷ []
back_words format (events.CraftStatus c v s d base have) = codes "status" ∷ decimal s.0 ∷ decimal d.0 ∷ decimal base ∷ decimal have ∷ []
back_words format (events.Craft c v key object) = decimal key.0 ∷ object_words format object
back_words format (events.Start u) = []
back_words format (events.Stop u) = []
back_words format (events.Publish u weights) = numbers_word weights ∷ []
back_words format (events.Krel s d paths payload) = decimal paths ∷ hex_word payload ∷ []
back_words format (events.KTake d s) = []
back_words format (events.CraftDocument c v key version weights) = decimal key ∷ codes "document" ∷ decimal version ∷ numbers_word weights ∷ []

-- all words of an event
abbrev pub words_of : (format : ℕ) → Event → List Word
words_of format e = event_name e ∷ (front_words e ++ back_words format e)
