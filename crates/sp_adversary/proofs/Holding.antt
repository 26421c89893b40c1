-- What a crafted message is to its receiver: with the boots that it holds of the ends.
use Rattle.std.proofs.Common.{◌≡◌, ℕ, List, refl}
use Rattle.std.specs.Prelude.{Option}
use Rattle.sp_base.specs.declared.id.Flow.{Flow}
use Rattle.sp_msg.specs.declared.body.Body.{Body}
use Rattle.sp_msg.specs.declared.body.Body.TheVariants as bodies
use Rattle.sp_msg.specs.declared.kept.Kept.{Kept}
use Rattle.sp_rules.specs.declared.lives.Life.{Life}
use Rattle.sp_runs.specs.Inputs.{dated, object_alone, slot_alone}
use Rattle.sp_schedule_crafts.specs.Objects.{body_of}
use Rattle.sp_schedule_crafts.specs.declared.object.CraftedObject.{CraftedObject}
use Rattle.sp_schedule_crafts.specs.declared.object.CraftedObject.TheVariants as crafted
use Rattle.sp_adversary.specs.Boots.{dated_with, ends_of, held_of, object_with, slot_with}

-- the message as it is taken
pub dated_is : (lives : List Life) (body : Body) → dated_with (held_of lives (ends_of body)) body ≡ dated lives body
dated_is lives (bodies.Prio p) = refl
dated_is lives (bodies.Rel r) = refl
dated_is lives (bodies.Ack a) = refl
dated_is lives (bodies.Weight w) = refl
dated_is lives (bodies.Krel k) = refl
dated_is lives (bodies.Kack a) = refl
dated_is lives (bodies.Epoch e) = refl

-- the section that brings it
pub section_is : (lives : List Life) (object : CraftedObject) (o : Kept)
    → object_with (dated lives (body_of object)) o ≡ object_alone lives (dated lives (body_of object)) o
section_is lives (crafted.Prio p) o = refl
section_is lives (crafted.Rel r) o = refl
section_is lives (crafted.Ack a) o = refl
section_is lives (crafted.Weight w) o = refl
section_is lives (crafted.Krel r) o = refl
section_is lives (crafted.Kack a) o = refl

-- a report
pub slot_is : (lives : List Life) (flow : Flow) (base have : ℕ) (ack : Option Kept) (rels : List Kept)
    → slot_with (held_of lives flow) flow base have ack rels ≡ slot_alone lives flow base have ack rels
slot_is lives flow base have ack rels = refl
