-- Which events are forged. It is decided at each event, from the events before, their journal and the state.
use Rattle.std.specs.Prelude.{ℕ, ◌-◌, ◌&&◌, Bool, true, false, not, nat_eq, nat_le, slice_get, List, [], ◌∷◌, Option, None, Some, option_map, if◌then◌else◌}
use Rattle.std.specs.Cmp.Lexicographic.{pointwise}
use Rattle.std.specs.List.{list_any}
use Rattle.sp_base.specs.Cursor.{or_else}
use Rattle.sp_msg.specs.Views.{signer_of}
use Rattle.sp_msg.specs.declared.kept.Kept.{Kept}
use Rattle.sp_rules.specs.Answers.{is_new}
use Rattle.sp_rules.specs.Arrivals.{reply_at}
use Rattle.sp_rules.specs.Arts.{Arts, Document}
use Rattle.sp_rules.specs.Node.{NodeState}
use Rattle.sp_rules.specs.Steps.{Input, Datagram, Output}
use Rattle.sp_rules.specs.Topologies.{weights_in}
use Rattle.sp_schedule_events.specs.Documents.{list_in}
use Rattle.sp_rules.specs.declared.answers.Item.{Item}
use Rattle.sp_rules.specs.declared.node.LinkReply.{LinkReply}
use Rattle.sp_rules.specs.declared.node.LinkReply.TheVariants as links
use Rattle.sp_runs.specs.Settings.{Setting, is_correct}
use Rattle.sp_runs.specs.Told.{signed}
use Rattle.sp_runs.specs.Worlds.{World, frames_in}
use Rattle.sp_journal.specs.declared.entry.Entry.{Entry}
use Rattle.sp_schedule_events.specs.declared.event.Event.{Event}
use Rattle.sp_runs.specs.declared.what.What.{What}
use Rattle.sp_runs.specs.declared.what.What.TheVariants as whats

-- the bytes are among these
abbrev pub is_among : List ℕ → List (List ℕ) → Bool
is_among bytes these = list_any (λ x. pointwise nat_eq x bytes) these

-- they are in this place
abbrev pub is_frame : List ℕ → Option (List ℕ) → Bool
is_frame bytes None = false
is_frame bytes (Some frame) = pointwise nat_eq frame bytes

-- they are a frame of these places
abbrev pub is_made : List ℕ → List (Option (List ℕ)) → Bool
is_made bytes frames = list_any (is_frame bytes) frames

-- ---- by its tag

-- the datagram passed the tests of its length, its name, its version, its ends and its tag
abbrev pub is_tagged : LinkReply → Bool
is_tagged (links.Learned boot) = true
is_tagged (links.Stale boot counter) = true
is_tagged (links.OtherTopology theirs) = true
is_tagged (links.Section refused) = true
is_tagged links.Withdrawn = true
is_tagged links.Fresh = true
is_tagged _ = false

-- it passed them at n, from a correct node that never made it for n
abbrev pub has_forged_tag : Arts → Setting → World → NodeState → Input → Bool
has_forged_tag arts x w n (Datagram u bytes) =
    is_correct x u && is_tagged (reply_at arts n u bytes) && not (is_made bytes (frames_in w.directions u n.fixed.me))
has_forged_tag arts x w n _ = false

-- ---- by an object

-- it was answered that it is new, and its signer is correct and never signed it
abbrev pub is_forged : Arts → Setting → List Event → List Entry → Kept × Item → Bool
is_forged arts x es js answered =
    let body = answered.0.body in
    is_new answered.1 && is_correct x (signer_of body) && not (is_among (arts.spell body) (signed es js (signer_of body)))

-- the first one in the order of handling
abbrev pub forged_object : Arts → Setting → List Event → List Entry → List (Kept × Item) → Option (List ℕ)
forged_object arts x es js [] = None
forged_object arts x es js (answered ∷ others) = if is_forged arts x es js answered then Some
    (arts.spell answered.0.body) else forged_object arts x es js others

-- ---- by a document

-- the lists of weights that were published, with one more if there is one
abbrev pub with_published : Option (List ℕ) → List (List ℕ) → List (List ℕ)
with_published None lists = lists
with_published (Some weights) lists = weights ∷ lists

-- the lists that were published, that of version 2 first
abbrev pub lists_in : List Event → List (List ℕ)
lists_in [] = []
lists_in (e ∷ es) = with_published (list_in e) (lists_in es)

-- the administrator handed out this version with these weights
abbrev pub is_published : List Event → (version : ℕ) → (weights : List ℕ) → Bool
is_published es version weights = nat_le 2 version && is_frame weights (slice_get (lists_in es) (version - 2))

-- whether a document says what was published
abbrev pub says_published : List Event → Option Document → Bool
says_published es None = false
says_published es (Some d) = is_published es d.topology.version (weights_in d.topology.edges)

-- the node adopted it from a frame, and no event published its version with its weights
abbrev pub forged_document : Arts → List Event → Option (List ℕ) → Option (List ℕ)
forged_document arts es None = None
forged_document arts es (Some bytes) = if says_published es (arts.read_document bytes) then None else Some bytes

-- ---- what of a step is forged, after these events: the tag, or else the first object, or a document

-- what of an event is forged: its tag first, then what it says
abbrev pub forged : Arts → Setting → List Event → List Entry → World → NodeState → Input → Output → Option What
forged arts x es js w n input output =
    if has_forged_tag arts x w n input then Some whats.Tag
    else option_map whats.Object (or_else (forged_object arts x es js output.answered) (forged_document arts es output.adopted))
