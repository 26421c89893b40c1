-- What a verifier keeps: room for a front under its key, and where one is known, a valid one.
use Rattle.std.specs.Prelude.{◌≡◌, true, length}
use Rattle.sp_hss.specs.Front.{IsFrontUnder, IsFrontRoom}
use Rattle.sp_hss.specs.declared.verifier.Verifier.TheInside.{Inside}

pub record IsRemembered (k : Inside) : Type 0 where
  pub room : IsFrontRoom k.public.items (length k.front.items)
  pub known : k.is_known ≡ true → IsFrontUnder k.public.items k.front.items
