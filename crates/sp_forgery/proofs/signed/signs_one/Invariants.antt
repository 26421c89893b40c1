use Rattle.std.proofs.Common.{◌≡◌, drop}
use Rattle.std.specs.List.{flat_map}
use Rattle.sp_runs.specs.Forgery.{is_among}
use Rattle.sp_runs.specs.Told.{signed_by}
use Rattle.sp_forgery.proofs.signed.signs_one.Given as goal

abbrev pub invariant-effects : goal.invariant-effects
invariant-effects l = is_among l.message (flat_map signed_by (drop l.effect-index l.effects)) ≡ is_among l.fn.message (flat_map signed_by l.fn.effects)
