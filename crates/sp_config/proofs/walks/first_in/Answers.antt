use Rattle.std.proofs.Common.{refl}
use Rattle.sp_config.proofs.WalkLemmas.{missing_in-parts, out_of_range_in-parts}
use Rattle.sp_config.proofs.walks.first_in.Goals as goal

pub returns-in-Some : goal.returns-in-Some
returns-in-Some c = rw (c.in-Missing.is, ← c.keys_of.ensures, missing_in-parts, ← c.in-Some.ensures) refl

pub returns-in-None : goal.returns-in-None
returns-in-None c = rw (c.in-Missing.is, ← c.keys_of.ensures, missing_in-parts, ← c.in-None.ensures) c.missing_in-in-None.ensures

pub returns-in-Some-out_of_range_in : goal.returns-in-Some-out_of_range_in
returns-in-Some-out_of_range_in c =
    rw (c.in-Range.is, ← c.keys_of.ensures, out_of_range_in-parts, ← c.in-Some-out_of_range_in.ensures) refl

pub returns-in-None-out_of_range_in : goal.returns-in-None-out_of_range_in
returns-in-None-out_of_range_in c =
    rw (c.in-Range.is, ← c.keys_of.ensures, out_of_range_in-parts, ← c.in-None-out_of_range_in.ensures) c.out_of_range_in-in-None-out_of_range_in.ensures
