-- Messages before they are signed, and after.
use Rattle.std.specs.Prelude.{ℕ, ◌≡◌, List, length, replicate}
use Rattle.sp_base.specs.declared.format.TheConstants.{FORMAT_1}
use Rattle.sp_hss.specs.KeyTree.{signature_len}
use Rattle.sp_msg.specs.declared.body.Body.{Body}
use Rattle.sp_msg.specs.Bodies.{encoded_in}
use Rattle.sp_msg.specs.Views.{signer_of}
use Rattle.sp_sign.specs.declared.blank.Blank.{Blank}
use Rattle.sp_sign.specs.NodeSigner.{NodeSigner}

-- the message with its bytes in a format, and a signature of this length whose bytes are all 0
abbrev pub blank_in : (format len : ℕ) → Body → Blank
blank_in format len body = record { kept = record { body = body; signature = replicate len 0 }; bytes = encoded_in format body }

-- the same in format 1
abbrev pub blank_of : ℕ → Body → Blank
blank_of len body = blank_in FORMAT_1 len body

-- a message of this node, and a signature of the length of its key's. Its bytes are what is signed
pub record IsBlank (own : NodeSigner) (blank : Blank) : Type 0 where
  pub node : signer_of blank.kept.body ≡ own.node
  pub long : length blank.kept.signature ≡ signature_len own.signer.height

-- the same with this signature
abbrev pub with_signature : Blank → List ℕ → Blank
with_signature blank signature = record { kept = record { body = blank.kept.body; signature = signature }; bytes = blank.bytes }
