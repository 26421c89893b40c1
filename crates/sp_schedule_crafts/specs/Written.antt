-- An object as it is written.
use Rattle.std.specs.Prelude.{ℕ, List, [], ◌∷◌, codes}
use Rattle.std.specs.Fmt.{decimal}
use Rattle.sp_text.specs.Spelling.{Word, hex_word}
use Rattle.sp_lines.specs.Cells.{mask_word}
use Rattle.sp_msg.specs.declared.body.WeightBody.{WeightBody}
use Rattle.sp_schedule_crafts.specs.declared.object.CraftedAck.{CraftedAck}
use Rattle.sp_schedule_crafts.specs.declared.object.CraftedKrel.{CraftedKrel}
use Rattle.sp_schedule_crafts.specs.declared.object.CraftedObject.{CraftedObject}
use Rattle.sp_schedule_crafts.specs.declared.object.CraftedObject.TheVariants as crafted
use Rattle.sp_schedule_crafts.specs.declared.object.CraftedPrio.{CraftedPrio}
use Rattle.sp_schedule_crafts.specs.declared.object.CraftedRel.{CraftedRel}

-- the words of a crafted message of each kind
abbrev pub rel_words : CraftedRel → List Word
rel_words r = codes "rel" ∷ decimal r.src.0 ∷ decimal r.dst.0 ∷ decimal r.seq ∷ hex_word r.payload ∷ []

-- the words of a crafted acknowledgement of this name
abbrev pub ack_words : Word → CraftedAck → List Word
ack_words name a = name ∷ decimal a.src.0 ∷ decimal a.dst.0 ∷ decimal a.seq ∷ []

-- the words of a crafted priority message
abbrev pub prio_words : (format : ℕ) → CraftedPrio → List Word
prio_words format p =
    codes "prio" ∷ decimal p.src.0 ∷ decimal p.dst.0 ∷ decimal p.seq ∷ decimal p.prio ∷ decimal p.expiry
    ∷ mask_word format (p.mask.high, p.mask.low) ∷ hex_word p.payload ∷ []

-- the words of a crafted update
abbrev pub weight_words : WeightBody → List Word
weight_words w = codes "weight" ∷ decimal w.origin.0 ∷ decimal w.edge.0 ∷ decimal w.seq ∷ decimal w.weight ∷ []

-- the words of a crafted message on paths
abbrev pub krel_words : (format : ℕ) → CraftedKrel → List Word
krel_words format r =
    codes "krel" ∷ decimal r.src.0 ∷ decimal r.dst.0 ∷ decimal r.seq ∷ mask_word format (r.mask.high, r.mask.low) ∷ hex_word r.payload ∷ []

-- the words of an object in a format
abbrev pub object_words : (format : ℕ) → CraftedObject → List Word
object_words format (crafted.Rel r) = rel_words r
object_words format (crafted.Ack a) = ack_words (codes "ack") a
object_words format (crafted.Prio p) = prio_words format p
object_words format (crafted.Weight w) = weight_words w
object_words format (crafted.Krel r) = krel_words format r
object_words format (crafted.Kack a) = ack_words (codes "kack") a
