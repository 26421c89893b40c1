-- What it means that a public key is read from its bytes.
use Rattle.std.specs.Prelude.{◌≡◌, ℕ, List}
use Rattle.sp_lms.specs.declared.public_key.PublicKey.{PublicKey}
use Rattle.sp_lms.specs.Validity.{HasTypes, id_of, root_of}

pub record IsReadFrom (public : List ℕ) (key : PublicKey) : Type 0 where
  pub types : HasTypes key.lms key.ots public
  pub id : key.id ≡ id_of public
  pub root : key.root ≡ root_of public
