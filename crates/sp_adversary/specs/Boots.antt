-- Crafted messages and reports with the boots that their receiver holds of the ends.
use Rattle.std.specs.Prelude.{ℕ, List, [], ◌∷◌, Option, None, Some}
use Rattle.sp_base.specs.declared.id.Flow.{Flow}
use Rattle.sp_frame.specs.Reliable.{Report}
use Rattle.sp_frame.specs.Sections.{Contents}
use Rattle.sp_msg.specs.declared.body.Body.{Body}
use Rattle.sp_msg.specs.declared.body.Body.TheVariants as bodies
use Rattle.sp_msg.specs.declared.kept.Kept.{Kept}
use Rattle.sp_rules.specs.Lives.{held_boot}
use Rattle.sp_rules.specs.declared.lives.Life.{Life}
use Rattle.sp_runs.specs.Inputs.{contents_with}
use Rattle.sp_adversary.specs.declared.boots.EndBoots.{EndBoots}

-- those that are held of the ends of a flow
abbrev pub held_of : List Life → Flow → EndBoots
held_of lives flow = record { sboot = held_boot lives flow.src; dboot = held_boot lives flow.dst }

-- ---- a message

-- the ends that a crafted message names. An update of a weight names none
abbrev pub ends_of : Body → Flow
ends_of (bodies.Prio p) = record { src = p.src; dst = p.dst }
ends_of (bodies.Rel r) = record { src = r.src; dst = r.dst }
ends_of (bodies.Ack a) = record { src = a.src; dst = a.dst }
ends_of (bodies.Krel r) = record { src = r.src; dst = r.dst }
ends_of (bodies.Kack a) = record { src = a.src; dst = a.dst }
ends_of _ = record { src = record { 0 = 0 }; dst = record { 0 = 0 } }

-- the message with these boots of its ends
abbrev pub dated_with : EndBoots → Body → Body
dated_with boots (bodies.Prio p) = bodies.Prio (record p { sboot = boots.sboot })
dated_with boots (bodies.Rel r) = bodies.Rel (record r { sboot = boots.sboot; dboot = boots.dboot })
dated_with boots (bodies.Ack a) = bodies.Ack (record a { sboot = boots.sboot; dboot = boots.dboot })
dated_with boots (bodies.Krel r) = bodies.Krel (record r { sboot = boots.sboot; dboot = boots.dboot })
dated_with boots (bodies.Kack a) = bodies.Kack (record a { sboot = boots.sboot; dboot = boots.dboot })
dated_with boots body = body

-- ---- sections

-- a report on this flow of these boots, with an acknowledgement and messages
abbrev pub report_with : EndBoots → Flow → (base have : ℕ) → Option Kept → List Kept → Report
report_with boots flow base have ack rels =
    record { flow = flow; sboot = boots.sboot; dboot = boots.dboot; base = base; have = have; ack = ack; rels = rels }

-- the slot of a message of a flow, or of an acknowledgement: it has the boots that the message names
abbrev pub slot_said : Body → Kept → Option Report
slot_said (bodies.Rel r) o = Some (report_with (record { sboot = r.sboot; dboot = r.dboot }) (record { src = r.src; dst = r.dst }) 0 0 None (o ∷ []))
slot_said (bodies.Krel r) o = Some (report_with (record { sboot = r.sboot; dboot = r.dboot }) (record { src = r.src; dst = r.dst }) 0 0 None (o ∷ []))
slot_said (bodies.Ack a) o = Some (report_with (record { sboot = a.sboot; dboot = a.dboot }) (record { src = a.src; dst = a.dst }) 0 0 (Some o) [])
slot_said (bodies.Kack a) o = Some (report_with (record { sboot = a.sboot; dboot = a.dboot }) (record { src = a.src; dst = a.dst }) 0 0 (Some o) [])
slot_said _ o = None

-- a slot with a report, and nothing else
abbrev pub slot_with : EndBoots → Flow → (base have : ℕ) → Option Kept → List Kept → Contents
slot_with boots flow base have ack rels = contents_with [] [] (Some (report_with boots flow base have ack rels))

-- one message in its section
abbrev pub object_with : Body → Kept → Contents
object_with (bodies.Prio p) o = contents_with [] ((1, o) ∷ []) None
object_with (bodies.Weight w) o = contents_with (o ∷ []) [] None
object_with (bodies.Rel r) o = contents_with [] [] (slot_said (bodies.Rel r) o)
object_with (bodies.Ack a) o = contents_with [] [] (slot_said (bodies.Ack a) o)
object_with (bodies.Krel r) o = record (contents_with [] [] None) { paths = slot_said (bodies.Krel r) o }
object_with (bodies.Kack a) o = record (contents_with [] [] None) { paths = slot_said (bodies.Kack a) o }
object_with _ o = contents_with [] [] None
