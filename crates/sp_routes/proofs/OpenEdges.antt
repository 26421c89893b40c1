-- The mask of the edges that aren't withdrawn, made edge by edge.
use Rattle.std.proofs.Common.{◌≡◌, ◌<◌, ◌≤◌, ℕ, zero, suc, ◌+◌, ◌^◌, ◌*◌, Bool, true, false, cond, List, [], ◌∷◌, length, take, refl, sym, ap, ◌∙◌, arith}
use Rattle.std.specs.Prelude.{◌==◌, slice_index_or}
use Rattle.std.specs.Int.RustNames.{bit_or}
use Rattle.std.proofs.lemmas.Nat.{or_comm, or_shifted, pow_pos}
use Rattle.std.proofs.Math.Seq.{take-length}
use Rattle.sp_rules.specs.Masks.{open_edges}
use Rattle.sp_rules.specs.Topologies.{is_shut}

-- of the first so many edges it has those that aren't withdrawn, and no others
pub record IsOpenTo (least : List ℕ) (n mask : ℕ) : Type 0 where
  pub is : mask ≡ open_edges 0 (take n least)
  pub small : mask < 2 ^ n

pub none_open : (least : List ℕ) (mask : ℕ) → mask ≡ 0 → IsOpenTo least 0 mask
none_open least mask none = record { is = none; small = omega (arith, none) }

-- one more edge, whose weight stands at the place of these
more_open : (place n : ℕ) (least : List ℕ) → n < length least
    → open_edges place (take (suc n) least) ≡ open_edges place (take n least) + cond (is_shut least n) 0 (2 ^ (place + n))
more_open place n [] inside = absurd (omega (arith, inside))
more_open place zero (w ∷ least) inside = go (w == 0) refl
  where
    same : place + 0 ≡ place
    same = omega arith

    go : (t : Bool) → (w == 0) ≡ t → cond (w == 0) 0 (2 ^ place + 0) ≡ 0 + cond (w == 0) 0 (2 ^ (place + 0))
    go true is = rw is refl
    go false is = rw (is, same) (omega arith)
more_open place (suc n) (w ∷ least) inside =
    go (w == 0) refl (more_open (place + 1) n least (omega (arith, inside))
    ∙ ap (λ (k : ℕ). open_edges (place + 1) (take n least) + cond (is_shut least n) 0 (2 ^ k)) (let e : place + 1 + n ≡ place + suc n = omega arith in e))
  where
    go : (t : Bool) → (w == 0) ≡ t
        → open_edges (place + 1) (take (suc n) least) ≡ open_edges (place + 1) (take n least) + cond (is_shut least n) 0 (2 ^ (place + suc n))
        → cond (w == 0) (open_edges (place + 1) (take (suc n) least)) (2 ^ place + open_edges (place + 1) (take (suc n) least))
        ≡ cond (w == 0) (open_edges (place + 1) (take n least)) (2 ^ place + open_edges (place + 1) (take n least))
        + cond (is_shut least n) 0 (2 ^ (place + suc n))
    go true is rest = rw is rest
    go false is rest = rw is (omega (arith, rest))

pub edge_open : (least : List ℕ) (n mask : ℕ) → n < length least → IsOpenTo least n mask → is_shut least n ≡ false
    → IsOpenTo least (n + 1) (bit_or mask (2 ^ n))
edge_open least n mask inside so_far open_ =
    let sum : bit_or mask (2 ^ n) ≡ 2 ^ n + mask =
    or_comm mask (2 ^ n) ∙ ap (λ (k : ℕ). bit_or k mask) (let e : 2 ^ n ≡ 1 * 2 ^ n = omega arith in e) ∙ or_shifted 1 n mask so_far.small
    ∙ (let e : 1 * 2 ^ n + mask ≡ 2 ^ n + mask = omega arith in e) in
    let more = more_open 0 n least inside in
    let same : 0 + n ≡ n = omega arith in
    let added : cond (is_shut least n) 0 (2 ^ (0 + n)) ≡ 2 ^ n = rw (open_, same) refl in
    let next : suc n ≡ n + 1 = omega arith in
    let was = so_far.is in
    let below = so_far.small in
    record {
      is = ap (λ (k : ℕ). k) sum ∙ (let e : 2 ^ n + mask ≡ open_edges 0 (take n least) + 2 ^ n = omega (arith, was) in e)
          ∙ ap (λ (k : ℕ). open_edges 0 (take n least) + k) (sym added) ∙ sym more ∙ ap (λ (k : ℕ). open_edges 0 (take k least)) next;
      small = rw sum (rw (← next) (omega (arith, below)));
    }

pub edge_shut : (least : List ℕ) (n mask : ℕ) → n < length least → IsOpenTo least n mask → is_shut least n ≡ true → IsOpenTo least (n + 1) mask
edge_shut least n mask inside so_far shut =
    let more = more_open 0 n least inside in
    let added : cond (is_shut least n) 0 (2 ^ (0 + n)) ≡ 0 = rw shut refl in
    let next : suc n ≡ n + 1 = omega arith in
    let below = so_far.small in
    record {
      is = so_far.is ∙ (let e : open_edges 0 (take n least) ≡ open_edges 0 (take n least) + 0 = omega arith in e)
          ∙ ap (λ (k : ℕ). open_edges 0 (take n least) + k) (sym added) ∙ sym more ∙ ap (λ (k : ℕ). open_edges 0 (take k least)) next;
      small = rw (← next) (omega (arith, below));
    }

pub all_open : (least : List ℕ) (n mask : ℕ) → length least ≡ n → IsOpenTo least n mask → mask ≡ open_edges 0 least
all_open least n mask all so_far = so_far.is ∙ ap (λ (k : ℕ). open_edges 0 (take k least)) (sym all) ∙ ap (open_edges 0) (take-length least)
