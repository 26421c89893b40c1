-- The levels of a tree: which numbers a level has, and the node that stands above a leaf on it.
use Rattle.std.proofs.Common.{◌≡◌, ℕ, ◌+◌, ◌*◌, ◌/◌, ◌^◌, ◌<◌, ◌≤◌, sym, ◌∙◌, ap, add-one, arith}
use Rattle.std.proofs.Math.Nat.{pow-suc}
use Rattle.std.proofs.Math.Pow.{pow-add, pow_mono}
use Rattle.std.proofs.lemmas.Nat.{pow_pos, le-div, div_below}
use Rattle.sp_lms.specs.Nodes.{IsOnLevel}

pub doubled : (k : ℕ) → 2 ^ (k + 1) ≡ 2 * 2 ^ k
doubled k = rw add-one (pow-suc 2 k ∙ omega arith)

-- the node above a leaf on a level
pub above_leaf : (height level depth r : ℕ) → depth + level ≡ height → 2 ^ height ≤ r → r < 2 * 2 ^ height → IsOnLevel depth (r / 2 ^ level)
above_leaf height level depth r sum low high =
    let whole : 2 ^ height ≡ 2 ^ depth * 2 ^ level = ap (λ (k : ℕ). 2 ^ k) (sym sum) ∙ pow-add 2 depth level in
    let two : 2 ^ (depth + 1) ≡ 2 * 2 ^ depth = doubled depth in
    record {
      low = le-div (2 ^ depth) r (2 ^ level) (pow_pos level) (omega arith);
      high = rw two (div_below r (2 ^ level) (2 * 2 ^ depth) (pow_pos level) (omega arith));
    }

-- a node of a deeper level has a higher number
pub deeper : (a b r s : ℕ) → IsOnLevel a r → IsOnLevel b s → a < b → r < s
deeper a b r s one other above =
    let most : 2 ^ (a + 1) ≤ 2 ^ b = pow_mono (omega arith) in
    omega arith

-- the two nodes below another one stand one level deeper
pub below_on_level : (depth r : ℕ) → IsOnLevel depth r → IsOnLevel (depth + 1) (2 * r) × IsOnLevel (depth + 1) (2 * r + 1)
below_on_level depth r on =
    let here : 2 ^ (depth + 1) ≡ 2 * 2 ^ depth = doubled depth in
    let next : 2 ^ (depth + 1 + 1) ≡ 2 * 2 ^ (depth + 1) = doubled (depth + 1) in
    (record { low = omega arith; high = omega arith }, record { low = omega arith; high = omega arith })
