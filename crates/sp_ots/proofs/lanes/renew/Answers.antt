use Rattle.std.proofs.Common.{List, [], ◌∷◌, ◌++◌, ℕ, take, ◌∙◌, ap, arith}
use Rattle.sp_ots.proofs.Steps.{renewed}
use Rattle.sp_ots.proofs.lanes.renew.Goals as goal

pub returns : goal.returns
returns c = renewed c.args.message.now c.args.step c.copy_from_slice.new.self c.told-message (omega arith)
    ∙ ap (λ (xs : List ℕ). take 22 c.args.message.now ++ c.args.step ∷ [] ++ xs) c.copy_from_slice.ensures.after
