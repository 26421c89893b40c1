use Rattle.std.proofs.Common.{◌≡◌, ◌*◌, ◌<◌, ℕ, [], length, map, get_or}
use Rattle.sha2.specs.Sha256.{word_at}
use Rattle.sp_ots.proofs.block.first_words.Given as goal

abbrev pub invariant-load : goal.invariant-load
invariant-load l = (length l.w ≡ 16) × ((k : ℕ) → k < l.i → get_or l.w k [] ≡ map (λ b. word_at b (4 * k)) l.blocks)
