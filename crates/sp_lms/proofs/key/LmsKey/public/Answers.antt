use Rattle.std.proofs.Common.{◌≡◌, ◌<◌, [], ◌∙◌, length, refl, arith}
use Rattle.std.proofs.lemmas.List.{get_or_read}
use Rattle.std.proofs.lemmas.Nat.{pow_pos}
use Rattle.sp_lms.specs.Parameters.{height}
use Rattle.sp_lms.specs.Keys.{root, public_key}
use Rattle.sp_lms.proofs.Levels.{doubled}
use Rattle.sp_lms.proofs.key.LmsKey.public.Goals as goal

pub returns : goal.returns
unfolding public_key
returns c =
    let k = c.self.inside in
    let kept = c.self.invariant.tree in
    let some : 1 < length k.nodes.items = omega (arith, kept.count, doubled (height k.lms), pow_pos (height k.lms)) in
    let top : c.index.result.now ≡ root k.lms k.ots k.id k.seed =
    get_or_read k.nodes.items 1 c.index.result.now some c.index.ensures []
    ∙ kept.node (height k.lms) 0 1 (omega arith) (record { low = omega arith; high = omega arith }) in
    rw (← c.self.view_is) (c.spelled.ensures ∙ rw top refl)
