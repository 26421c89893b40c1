-- The lives of nodes as one node knows them: of each node the Epoch object of its last start that came here. Its boot is the boot that is held.
--
--     lives      a row for each node, in the order of nodes; in its own row a node has what it signed at its start
--     origins    of the neighbour in each place of a node, the place of the row that went to it last
--
-- A held boot is 0 where no object is held. So where nodes don't run with epochs, all held boots are 0.
use Rattle.std.specs.Prelude.{ℕ, ◌==◌, nat_le, ◌&&◌, ◌||◌, not, Bool, true, List, map, Option, None, Some, is_some, slice_get, if◌then◌else◌}
use Rattle.std.specs.List.{list_any}
use Rattle.std.specs.Option.{option_and_then}
use Rattle.sp_base.specs.Cursor.{next_after}
use Rattle.sp_base.specs.Rows.{first_where, replace_where}
use Rattle.sp_base.specs.declared.id.Flow.{Flow}
use Rattle.sp_base.specs.declared.id.NodeId.{NodeId}
use Rattle.sp_msg.specs.declared.body.Body.{Body}
use Rattle.sp_msg.specs.declared.body.Body.TheVariants as bodies
use Rattle.sp_msg.specs.declared.kept.Kept.{Kept}
use Rattle.sp_rules.specs.Weights.{cycles_with}
use Rattle.sp_rules.specs.declared.lives.EpochJudged.{EpochJudged}
use Rattle.sp_rules.specs.declared.lives.EpochJudged.TheVariants as judged
use Rattle.sp_rules.specs.declared.lives.Life.{Life}

-- of this node nothing came
abbrev pub no_life : NodeId → Life
no_life v = record { node = v; object = None }

-- nothing is held
abbrev pub start : List NodeId → List Life
start nodes = map no_life nodes

-- ---- held boots

-- whether this is a life of that node
abbrev pub is_life : NodeId → Life → Bool
is_life v l = l.node.0 == v.0

-- what is known of a node's life
abbrev pub life_in : List Life → NodeId → Life
life_in lives v = first_where (is_life v) (no_life v) lives

-- the boot that a message says, and who says it. Lives hold Epoch objects alone
abbrev pub boot_said : Body → ℕ
boot_said (bodies.Epoch e) = e.boot
boot_said _ = 0

-- the node that an Epoch object is of
abbrev pub origin_said : Body → NodeId
origin_said (bodies.Epoch e) = e.origin
origin_said _ = record { 0 = 0 }

-- the boot that an Epoch object tells; without one it is 0
abbrev pub boot_of : Option Kept → ℕ
boot_of None = 0
boot_of (Some o) = boot_said o.body

-- the boot that is held of a node: for this node itself its own
abbrev pub held_boot : List Life → NodeId → ℕ
held_boot lives v = boot_of (life_in lives v).object

-- ---- messages and reports name the boots of their ends

-- they are those that are held of both ends
abbrev pub are_held : List Life → Flow → (sboot dboot : ℕ) → Bool
are_held lives flow sboot dboot = (sboot == held_boot lives flow.src) && (dboot == held_boot lives flow.dst)

-- the boots that a message names are held: that of the source of a priority message, and those of both ends of a flow
abbrev pub is_dated : List Life → Body → Bool
is_dated lives (bodies.Prio p) = p.sboot == held_boot lives p.src
is_dated lives (bodies.Rel r) = are_held lives (record { src = r.src; dst = r.dst }) r.sboot r.dboot
is_dated lives (bodies.Ack a) = are_held lives (record { src = a.src; dst = a.dst }) a.sboot a.dboot
is_dated lives (bodies.Krel r) = are_held lives (record { src = r.src; dst = r.dst }) r.sboot r.dboot
is_dated lives (bodies.Kack a) = are_held lives (record { src = a.src; dst = a.dst }) a.sboot a.dboot
is_dated lives _ = true

-- ---- an Epoch object comes

-- it is a node
abbrev pub is_known : List Life → NodeId → Bool
is_known lives v = list_any (is_life v) lives

-- what this node says of it, but for its signature: the first that fits. Only an Epoch object is one
abbrev pub judge_epoch : NodeId → List Life → Body → EpochJudged
judge_epoch me lives (bodies.Epoch e) =
    if (e.origin.0 == me.0) || not (is_known lives e.origin) then judged.BadEnd
    else if nat_le e.boot (held_boot lives e.origin) then judged.Old
    else judged.New
judge_epoch me lives _ = judged.BadEnd

-- this object is in the row of its origin
abbrev pub held : List Life → Kept → List Life
held lives o = replace_where (is_life (origin_said o.body)) (record { node = origin_said o.body; object = Some o }) lives

-- ---- the cycle of a neighbour

-- the row that went last to the node in this place
abbrev pub last_to : List (Option ℕ) → ℕ → Option ℕ
last_to origins v = option_and_then (λ last. last) (slice_get origins v)

-- the row that goes next: the one after the last, among those that hold an object
abbrev pub next_row : List Life → List (Option ℕ) → ℕ → Option ℕ
next_row lives origins v = next_after (last_to origins v) (map (λ l. is_some l.object) lives)

-- the Epoch object in a row
abbrev pub object_in : List Life → ℕ → Option Kept
object_in lives row = option_and_then (λ l. l.object) (slice_get lives row)

-- the object that goes next to the node in this place
abbrev pub next : List Life → List (Option ℕ) → ℕ → Option Kept
next lives origins v = option_and_then (object_in lives) (next_row lives origins v)

-- it went. Nothing changes where none is held
abbrev pub moved : List Life → List (Option ℕ) → ℕ → List (Option ℕ)
moved lives origins v = cycles_with origins v (next_row lives origins v)
