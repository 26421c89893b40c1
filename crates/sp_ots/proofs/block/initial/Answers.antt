use Rattle.std.proofs.Common.{ℕ, [], ◌∷◌, slice_index}
use Rattle.std.proofs.lemmas.Simd.{splat_is_map}
use Rattle.sha2.specs.Sha256.{initial_hash_256}
use Rattle.sp_ots.specs.Lanes.{lanes}
use Rattle.sp_ots.proofs.block.initial.Goals as goal

pub returns : goal.returns
returns c = λ bs count.
    let word = λ (n : ℕ). splat_is_map bs lanes (slice_index initial_hash_256 n) count in
    λ i. word 0 i ∷ word 1 i ∷ word 2 i ∷ word 3 i ∷ word 4 i ∷ word 5 i ∷ word 6 i ∷ word 7 i ∷ []
