use Rattle.std.proofs.Common.{◌≤◌, arith}
use Rattle.sp_msg.specs.declared.effect.Effect.{Effect}
use Rattle.sp_audit.specs.Tops.{names}
use Rattle.sp_audit.proofs.Walks.{all_more, all_whole}
use Rattle.sp_audit.proofs.top.top_told.Goals as goal

pub effects-preserved : goal.effects-preserved
effects-preserved c =
    all_more (λ (e : Effect). names e ≤ c.effects.top) (λ (e : Effect). names e ≤ c.max-top.result) c.args.effects.now c.effects.place
    c.index-effects-place.result c.effects-test.true
    c.index-effects-place.is (λ e low. omega (arith, low, c.max-top.ensures)) c.effects.invariant (omega (arith, c.max-top.ensures, c.names.ensures))

pub returns : goal.returns
returns c = all_whole (λ (e : Effect). names e ≤ c.effects.top) c.args.effects.now c.effects.place (omega arith) c.effects.invariant
