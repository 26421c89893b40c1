use Rattle.std.proofs.Common.{◌≡◌, ℕ, List, length, map, take}
use Rattle.sha2.specs.Sha256.{digest_bytes}
use Rattle.sp_ots.specs.Lanes.{columns, lanes}
use Rattle.sp_ots.proofs.block.rows.Given as goal

abbrev pub invariant-rows : goal.invariant-rows
invariant-rows l = (length l.out ≡ lanes)
    × ((bs : List (List ℕ)) (f : List ℕ → List ℕ) → length bs ≡ lanes → l.v ≡ columns f bs → take l.k l.out ≡ map (λ b. digest_bytes (f b) 8) (take l.k bs))
