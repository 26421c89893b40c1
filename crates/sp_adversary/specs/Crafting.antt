-- One message or document that is crafted.
use Rattle.std.specs.Prelude.{ℕ, ◌≡◌, ◌<◌, ◌≤◌, List, ◌++◌, length, Result, Ok, Err}
use Rattle.sp_base.specs.declared.id.NodeId.{NodeId}
use Rattle.sp_base.specs.declared.memory.Memory.{Memory}
use Rattle.sp_frame.specs.Writing.{IsWritable}
use Rattle.sp_msg.specs.Bodies.{encoded_in}
use Rattle.sp_msg.specs.declared.body.Body.{Body}
use Rattle.sp_msg.specs.declared.kept.Kept.{Kept}
use Rattle.sp_node_format.specs.Format.{format_in}
use Rattle.sp_runs.specs.Scenarios.{node_seed}
use Rattle.sp_runs.specs.Worlds.{crafts, with_craft}
use Rattle.sp_adversary.specs.Crafters.{Crafters, most}
use Rattle.sp_adversary.specs.declared.crafters.Crafted.{Crafted}
use Rattle.sp_adversary.specs.declared.crafters.Crafted.TheVariants as answers

-- the key's next signature of these bytes
abbrev pub signature_of : Crafters → (key : NodeId) → (message : List ℕ) → List ℕ
signature_of c key message = (format_in c.format).sign c.height (node_seed c.seed key.0) (crafts c.keys key) message

-- the message with it
abbrev pub object_of : Crafters → (key : NodeId) → Body → Kept
object_of c key body = record { body = body; signature = signature_of c key (encoded_in c.format body) }

-- one more was signed with the key
abbrev pub one_more : Crafters → (key : NodeId) → Crafters
one_more c key = record c { keys = with_craft c.keys key }

-- This is made with the key's next signature, or the key has signed all that it may, or there was no memory: then nothing changes.
abbrev pub Makes : {A : Type 0} → Crafters → (key : NodeId) → (made : A) → Result (Crafted A) Memory → Crafters → Type 0
Makes old key made (Ok (answers.Signed it)) new = (crafts old.keys key < most old) × (it ≡ made) × (new ≡ one_more old key)
Makes old key made (Ok (answers.Spent total)) new = (most old ≤ crafts old.keys key) × (total ≡ most old) × (new ≡ old)
Makes old key made (Err refused) new = new ≡ old

-- a signature that is crafted, and the signers after it
abbrev pub CraftsSignature : Crafters → (key : NodeId) → (message : List ℕ) → Result (Crafted (List ℕ)) Memory → Crafters → Type 0
CraftsSignature old key message result new = Makes old key (signature_of old key message) result new

-- a message with its signature
abbrev pub Crafts : Crafters → (key : NodeId) → Body → Result (Crafted Kept) Memory → Crafters → Type 0
Crafts old key body result new = Makes old key (object_of old key body) result new

-- the bytes of a topology, and a signature behind them
abbrev pub CraftsDocument : Crafters → (key : NodeId) → (unsigned : List ℕ) → Result (Crafted (List ℕ)) Memory → Crafters → Type 0
CraftsDocument old key unsigned result new = Makes old key (unsigned ++ signature_of old key unsigned) result new

-- what was signed has room in a frame of the format
abbrev pub HasRoom : (format : ℕ) → Result (Crafted Kept) Memory → Type 0
HasRoom format (Ok (answers.Signed object)) = IsWritable format object
HasRoom format _ = Unit {0}

-- it has so many bytes
abbrev pub HasLength : (long : ℕ) → Result (Crafted (List ℕ)) Memory → Type 0
HasLength long (Ok (answers.Signed bytes)) = length bytes ≡ long
HasLength long _ = Unit {0}
