-- Crafted objects, a row for each, as they stand in a line behind the key that signs.
--
--     rel S D SEQ HEX
--     ack S D SEQ
--     prio S D SEQ P EXPIRY MASK HEX
--     weight O E SEQ W
--     krel S D SEQ MASK HEX        in format 2 alone, as the next
--     kack S D SEQ
--
-- What an object says is in the ranges of the format alone: the graph needn't have its nodes and edges.
use Rattle.std.specs.Prelude.{ℕ, ◌-◌, ◌^◌, ◌==◌, not, Bool, true, List, [], ◌∷◌, codes}
use Rattle.sp_base.specs.Formats.{max_edges, max_nodes}
use Rattle.sp_base.specs.declared.format.TheConstants.{FORMAT_1}
use Rattle.sp_base.specs.declared.id.NodeId.{NodeId}
use Rattle.sp_base.specs.declared.limits.TheConstants.{MAX_PAYLOAD_BYTES, MAX_PRIORITY, MAX_SEQ, MAX_WEIGHT}
use Rattle.sp_msg.specs.declared.body.Body.{Body}
use Rattle.sp_msg.specs.declared.body.Body.TheVariants as bodies
use Rattle.sp_lines.specs.Cells.{Bytes, Cell, Mask, Name, Number}
use Rattle.sp_lines.specs.Rows.{Values}
use Rattle.sp_schedule_crafts.specs.declared.form.ObjectForm.{ObjectForm}
use Rattle.sp_schedule_crafts.specs.declared.form.ObjectForm.TheVariants.{Rel, Ack, Prio, Weight, Krel, Kack}
use Rattle.sp_schedule_crafts.specs.declared.object.CraftedObject.{CraftedObject}
use Rattle.sp_schedule_crafts.specs.declared.object.CraftedObject.TheVariants as crafted

-- ---- places

abbrev pub any_number : Cell
any_number = Number 0 (2 ^ 64 - 1)

-- a payload
abbrev pub payload : Cell
payload = Bytes 0 MAX_PAYLOAD_BYTES

-- a node of the format, whether it is in the scenario or not
abbrev pub any_id : ℕ → Cell
any_id format = Number 1 (max_nodes format)

-- a sequence number
abbrev pub seq : Cell
seq = Number 1 MAX_SEQ

-- ---- rows

-- the row of a form in a format
abbrev pub cells : (format : ℕ) → ObjectForm → List Cell
cells format Rel = Name (codes "rel") ∷ any_id format ∷ any_id format ∷ seq ∷ payload ∷ []
cells format Ack = Name (codes "ack") ∷ any_id format ∷ any_id format ∷ seq ∷ []
cells format Prio =
    Name (codes "prio") ∷ any_id format ∷ any_id format ∷ seq ∷ Number 1 MAX_PRIORITY ∷ any_number ∷ Mask format ∷ payload ∷ []
cells format Weight = Name (codes "weight") ∷ any_id format ∷ Number 0 (max_edges format - 1) ∷ seq ∷ Number 1 MAX_WEIGHT ∷ []
cells format Krel = Name (codes "krel") ∷ any_id format ∷ any_id format ∷ seq ∷ Mask format ∷ payload ∷ []
cells format Kack = Name (codes "kack") ∷ any_id format ∷ any_id format ∷ seq ∷ []

-- all forms
abbrev pub forms : List ObjectForm
forms = Rel ∷ Ack ∷ Prio ∷ Weight ∷ Krel ∷ Kack ∷ []

-- those of a format
abbrev pub has_form : (format : ℕ) → ObjectForm → Bool
has_form format Krel = not (format == FORMAT_1)
has_form format Kack = not (format == FORMAT_1)
has_form format form = true

-- ---- objects

-- the node of this number
abbrev pub id : ℕ → NodeId
id n = record { 0 = n }

-- the object of a row with these values
abbrev pub object_of : (format : ℕ) (form : ObjectForm) → Values (cells format form) → CraftedObject
object_of format Rel x = crafted.Rel (record { src = id x.0; dst = id x.1.0; seq = x.1.1.0; payload = x.1.1.1.0 })
object_of format Ack x = crafted.Ack (record { src = id x.0; dst = id x.1.0; seq = x.1.1.0 })
object_of format Prio x =
    crafted.Prio (record {
      src = id x.0;
      dst = id x.1.0;
      seq = x.1.1.0;
      prio = x.1.1.1.0;
      expiry = x.1.1.1.1.0;
      mask = record { low = x.1.1.1.1.1.0.1; high = x.1.1.1.1.1.0.0 };
      payload = x.1.1.1.1.1.1.0;
    })
object_of format Weight x = crafted.Weight (record { origin = id x.0; edge = record { 0 = x.1.0 }; seq = x.1.1.0; weight = x.1.1.1.0 })
object_of format Krel x =
    crafted.Krel (record {
      src = id x.0;
      dst = id x.1.0;
      seq = x.1.1.0;
      mask = record { low = x.1.1.1.0.1; high = x.1.1.1.0.0 };
      payload = x.1.1.1.1.0;
    })
object_of format Kack x = crafted.Kack (record { src = id x.0; dst = id x.1.0; seq = x.1.1.0 })

-- the row of an object
abbrev pub form_of : CraftedObject → ObjectForm
form_of (crafted.Rel r) = Rel
form_of (crafted.Ack a) = Ack
form_of (crafted.Prio p) = Prio
form_of (crafted.Weight w) = Weight
form_of (crafted.Krel r) = Krel
form_of (crafted.Kack a) = Kack

-- its values in that row
abbrev pub values_of : (format : ℕ) (o : CraftedObject) → Values (cells format (form_of o))
values_of format (crafted.Rel r) = (r.src.0, (r.dst.0, (r.seq, (r.payload, tt))))
values_of format (crafted.Ack a) = (a.src.0, (a.dst.0, (a.seq, tt)))
values_of format (crafted.Prio p) = (p.src.0, (p.dst.0, (p.seq, (p.prio, (p.expiry, ((p.mask.high, p.mask.low), (p.payload, tt)))))))
values_of format (crafted.Weight w) = (w.origin.0, (w.edge.0, (w.seq, (w.weight, tt))))
values_of format (crafted.Krel r) = (r.src.0, (r.dst.0, (r.seq, ((r.mask.high, r.mask.low), (r.payload, tt)))))
values_of format (crafted.Kack a) = (a.src.0, (a.dst.0, (a.seq, tt)))

-- the message that it is: no end has a boot
abbrev pub body_of : CraftedObject → Body
body_of (crafted.Rel r) = bodies.Rel (record { src = r.src; dst = r.dst; sboot = 0; dboot = 0; seq = r.seq; payload = r.payload })
body_of (crafted.Ack a) = bodies.Ack (record { src = a.src; dst = a.dst; sboot = 0; dboot = 0; seq = a.seq })
body_of (crafted.Prio p) =
    bodies.Prio (record {
      src = p.src;
      dst = p.dst;
      sboot = 0;
      seq = p.seq;
      prio = p.prio;
      expiry = p.expiry;
      mask = p.mask;
      payload = p.payload;
    })
body_of (crafted.Weight w) = bodies.Weight w
body_of (crafted.Krel r) =
    bodies.Krel (record { src = r.src; dst = r.dst; sboot = 0; dboot = 0; seq = r.seq; mask = r.mask; payload = r.payload })
body_of (crafted.Kack a) = bodies.Kack (record { src = a.src; dst = a.dst; sboot = 0; dboot = 0; seq = a.seq })
