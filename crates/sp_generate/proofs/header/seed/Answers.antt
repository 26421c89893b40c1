use Rattle.std.proofs.Common.{ℕ, List, ◌++◌, ap, ◌∙◌, append-nil, replicate}
use Rattle.sp_generate.proofs.header.seed.Goals as goal

pub returns : goal.returns
returns c = ap (λ (xs : List ℕ). replicate 28 0 ++ xs) (append-nil c.copy_from_slice.new.self ∙ c.copy_from_slice.ensures.after ∙ c.to_be_bytes.ensures)
