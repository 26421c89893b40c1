-- When a signature counts: where the signer has a key, and it is valid under that key.
use Rattle.std.specs.Prelude.{ℕ, ◌≡◌, List, Option, Some, None, Ok}
use Rattle.sp_hss.specs.Validity.{IsValid}
use Rattle.sp_msg.specs.Bodies.{read_body_in}
use Rattle.sp_msg.specs.declared.body.Body.{Body}

-- the signer has a key, and the signature is valid for the message under it
abbrev pub IsSigned : Option (List ℕ) → List ℕ → List ℕ → Type 0
IsSigned None message signature = ⊥
IsSigned (Some key) message signature = IsValid key message signature

-- the signer has a key, and the signature isn't valid for the message under it
abbrev pub IsForged : Option (List ℕ) → List ℕ → List ℕ → Type 0
IsForged None message signature = ⊥
IsForged (Some key) message signature = ¬ (IsValid key message signature)

-- some format reads the message from the bytes
abbrev pub IsReadOf : List ℕ → Body → Type 0
IsReadOf bytes body = (format : ℕ) × (read_body_in format bytes ≡ Ok body)
