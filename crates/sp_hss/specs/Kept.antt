-- What a signer keeps: the trees that its index belongs to, within its bound.
use Rattle.std.specs.Prelude.{◌-◌, ◌≤◌}
use Rattle.sp_hss.specs.KeyTree.{total}
use Rattle.sp_hss.specs.At.{AreAt}
use Rattle.sp_hss.specs.declared.signer.Signer.TheInside.{Inside}

pub record IsKept (k : Inside) : Type 0 where
  pub at : AreAt k.height k.seed (k.upper.used - 1) k.index k.upper k.lower k.next k.front.items
  pub reserved : k.index ≤ k.bound
  pub within : k.bound ≤ total k.height
