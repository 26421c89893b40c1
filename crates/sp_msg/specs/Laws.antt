-- Each message has one spelling in each format, and what isn't one is no message.
use Rattle.std.specs.Prelude.{ℕ, ◌≡◌, List, ◌∷◌, ◌++◌, Ok, Err}
use Rattle.sp_base.specs.Spelling.{AreBytes}
use Rattle.sp_msg.specs.declared.body.Body.{Body}
use Rattle.sp_msg.specs.declared.refused.MsgRefused.TheVariants as refusals
use Rattle.sp_msg.specs.Bodies.{HasGoodFieldsIn, body_at_in, encoded_in, read_body_in}

-- what is encoded is read back, whatever follows
abbrev pub EncodedIsRead : Type 0
EncodedIsRead = (format : ℕ) (body : Body) (rest : List ℕ) → HasGoodFieldsIn format body → body_at_in format (encoded_in format body ++ rest) ≡ Ok (body, rest)

-- it is read as a whole where nothing follows
abbrev pub WholeIsRead : Type 0
WholeIsRead = (format : ℕ) (body : Body) → HasGoodFieldsIn format body → read_body_in format (encoded_in format body) ≡ Ok body

-- and refused where a byte follows
abbrev pub TailIsRefused : Type 0
TailIsRefused =
    (format : ℕ) (body : Body) (b : ℕ) (rest : List ℕ) → HasGoodFieldsIn format body
    → read_body_in format (encoded_in format body ++ b ∷ rest) ≡ Err refusals.Tail

-- what is read is encoded by those bytes, and its fields are in their ranges
abbrev pub ReadIsEncoded : Type 0
ReadIsEncoded =
    (format : ℕ) (bytes : List ℕ) (body : Body) → AreBytes bytes → read_body_in format bytes ≡ Ok body
    → (bytes ≡ encoded_in format body) × HasGoodFieldsIn format body

-- the same, where other bytes follow
abbrev pub FrontIsEncoded : Type 0
FrontIsEncoded =
    (format : ℕ) (bytes : List ℕ) (body : Body) (rest : List ℕ) → AreBytes bytes → body_at_in format bytes ≡ Ok (body, rest)
    → (bytes ≡ encoded_in format body ++ rest) × HasGoodFieldsIn format body

-- no other message has its bytes
abbrev pub NoOtherHasItsBytes : Type 0
NoOtherHasItsBytes = (format : ℕ) (a b : Body) → HasGoodFieldsIn format a → HasGoodFieldsIn format b → encoded_in format a ≡ encoded_in format b → a ≡ b
