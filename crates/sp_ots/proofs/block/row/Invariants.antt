use Rattle.std.proofs.Common.{◌≡◌, ◌*◌, ℕ, List, length, map, slice_index, take}
use Rattle.sha2.specs.Sha256.{digest_bytes}
use Rattle.sp_ots.proofs.block.row.Given as goal

abbrev pub invariant-words : goal.invariant-words
invariant-words l = (length l.out ≡ 32) × (take (4 * l.i) l.out ≡ digest_bytes (map (λ (w : List ℕ). slice_index w l.k) l.words) l.i)
