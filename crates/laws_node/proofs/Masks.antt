-- The mask of an own message names edges alone, so it has room in its field.
use Rattle.std.proofs.Common.{◌≡◌, ◌<◌, ◌≤◌, ℕ, zero, suc, ◌+◌, ◌*◌, ◌-◌, ◌^◌, ◌/◌, ◌%◌, ◌==◌, Bool, true, false, if◌then◌else◌, List, [], ◌∷◌, length, sym, ap}
use Rattle.std.proofs.Common.{◌∙◌, subst, arith}
use Rattle.std.proofs.Math.Nat.{pow-suc}
use Rattle.std.specs.Int.{bit_at}
use Rattle.std.proofs.lemmas.Bool.Decides.{nat_tests}
use Rattle.std.proofs.lemmas.Nat.Bits.{bit_at-lt, bit_at-suc, bit_at_lowest}
use Rattle.std.proofs.lemmas.Option.{slice_get_past}
use Rattle.sp_base.specs.Formats.{max_edges}
use Rattle.sp_base.specs.declared.format.TheConstants.{FORMAT_1}
use Rattle.sp_base.specs.declared.id.NodeId.{NodeId}
use Rattle.sp_base.specs.declared.limits.TheConstants.{MAX_EDGES, MAX_EDGES_2}
use Rattle.sp_graph.specs.declared.graph.Graph.{Graph}
use Rattle.sp_msg.proofs.GoodFields.{GoodMask}
use Rattle.sp_msg.specs.Fields.{IsInRange, free, ranged}
use Rattle.sp_msg.specs.Masks.{HALF, mask_from}
use Rattle.sp_msg.specs.Views.{names_edge}
use Rattle.sp_msg.specs.declared.refused.Field.TheVariants as fields
use Rattle.sp_rules.proofs.MaskLemmas.{none_used}
use Rattle.sp_rules.specs.Masks.{IsChoice, IsMaskOf, Mask, is_used, open_edges}
use Rattle.sp_rules.specs.Weights.{WeightState}
use Rattle.sp_topology.specs.declared.topology.Edge.{Edge}
use Rattle.sp_topology.specs.declared.topology.Topology.{Topology}

doubled : (k : ℕ) → 2 ^ suc k ≡ 2 ^ k * 2
doubled k = pow-suc 2 k

positive : (k : ℕ) → 1 ≤ 2 ^ k
positive zero = omega arith
positive (suc k) = let rest = positive k in omega (arith, rest, doubled k)

below_its_power : (n : ℕ) → n < 2 ^ n
below_its_power zero = omega arith
below_its_power (suc n) = let rest = below_its_power n in omega (arith, rest, doubled n)

-- a number without a bit from k on is below 2^k
small : (m n k : ℕ) → n < 2 ^ m → ((i : ℕ) → k ≤ i → bit_at n i ≡ 0) → n < 2 ^ k
small zero n k below none = omega (arith, below, positive k)
small (suc m) n zero below none =
    let half : n / 2 < 2 ^ m = omega (arith, below, doubled m) in
    let rest = small m (n / 2) zero half (λ i from. sym (bit_at-suc n i) ∙ none (suc i) (omega arith)) in
    let low : n % 2 ≡ 0 = sym (bit_at_lowest n) ∙ none 0 (omega arith) in
    omega (arith, rest, low)
small (suc m) n (suc k) below none =
    let half : n / 2 < 2 ^ m = omega (arith, below, doubled m) in
    let rest = small m (n / 2) k half (λ i from. sym (bit_at-suc n i) ∙ none (suc i) (omega (arith, from))) in
    omega (arith, rest, doubled k)

-- more edges, more room
powers : (j k : ℕ) → 2 ^ j ≤ 2 ^ (j + k)
powers j zero = let same : j + 0 ≡ j = omega arith in rw same (omega arith)
powers j (suc k) =
    let same : j + suc k ≡ suc (j + k) = omega arith in
    let rest = powers j k in
    rw same (omega (arith, rest, doubled (j + k)))

no_bit : (n i : ℕ) → names_edge n i ≡ false → bit_at n i ≡ 0
no_bit n i e = grind (arith, nat_tests, bit_at-lt n i)

-- no edge stands after the last
past_none : (edges : List Edge) (paths : List (List NodeId)) (mask : ℕ) → IsMaskOf edges paths mask → (i : ℕ) → length edges ≤ i → bit_at mask i ≡ 0
past_none edges paths mask is i from =
    no_bit mask i (is i ∙ ap (is_used paths) (slice_get_past edges i from) ∙ none_used paths)

-- the edges that aren't withdrawn are below the last place
open_small : (place : ℕ) (weights : List ℕ) → open_edges place weights + 2 ^ place ≤ 2 ^ (place + length weights)
open_small place [] = let same : place + 0 ≡ place = omega arith in rw same (omega arith)
open_small place (w ∷ weights) =
    let rest = open_small (place + 1) weights in
    let same : place + suc (length weights) ≡ place + 1 + length weights = omega arith in
    let one : place + 1 ≡ suc place = omega arith in
    let twice : 2 ^ (place + 1) ≡ 2 ^ place * 2 = ap (λ (k : ℕ). 2 ^ k) one ∙ doubled place in
    rw same (go (w == 0) rest twice)
  where
    go : (t : Bool) → open_edges (place + 1) weights + 2 ^ (place + 1) ≤ 2 ^ (place + 1 + length weights) → 2 ^ (place + 1) ≡ 2 ^ place * 2
        → (if t then open_edges (place + 1) weights else 2 ^ place + open_edges (place + 1) weights) + 2 ^ place ≤ 2 ^ (place + 1 + length weights)
    go true rest twice = omega (arith, rest, twice)
    go false rest twice = omega (arith, rest, twice)

-- the mask that was chosen names no edge behind the last
pub mask_within : (t : Topology) (w : WeightState) (g : Graph) (s d : NodeId) (count mask : ℕ) → w.edges ≡ t.edges → length w.least ≡ length t.edges
    → IsChoice w g s d count (Mask mask) → mask < 2 ^ length t.edges
mask_within t w g s d count mask edges least is = go count is
  where
    go : (count : ℕ) → IsChoice w g s d count (Mask mask) → mask < 2 ^ length t.edges
    go zero is =
        let same : mask ≡ open_edges 0 w.least = cc in
        let few : open_edges 0 w.least + 2 ^ 0 ≤ 2 ^ (0 + length w.least) = open_small 0 w.least in
        let one : 0 + length w.least ≡ length t.edges = omega (arith, least) in
        let less : open_edges 0 w.least + 1 ≤ 2 ^ length t.edges = subst (λ (k : ℕ). open_edges 0 w.least + 1 ≤ 2 ^ k) one few in
        omega (arith, same, less)
    go (suc more) is =
        subst (λ (k : ℕ). mask < 2 ^ k) (ap length edges) (small mask mask (length w.edges) (below_its_power mask) (past_none w.edges is.paths mask is.mask_of))

-- so it has room in its field
mask_small : (t : Topology) (w : WeightState) (g : Graph) (s d : NodeId) (count mask most : ℕ) → length t.edges ≤ most → w.edges ≡ t.edges
    → length w.least ≡ length t.edges → IsChoice w g s d count (Mask mask) → mask < 2 ^ most
mask_small t w g s d count mask most few edges least is =
    let more = powers (length t.edges) (most - length t.edges) in
    let same : length t.edges + (most - length t.edges) ≡ most = omega (arith, few) in
    let room : 2 ^ length t.edges ≤ 2 ^ most = subst (λ (n : ℕ). 2 ^ length t.edges ≤ 2 ^ n) same more in
    omega (arith, mask_within t w g s d count mask edges least is, room)

-- its halves have room in theirs
halves_small : (format n : ℕ) → n < 2 ^ max_edges format → GoodMask format (mask_from n)
halves_small format n small = let both = go (format == FORMAT_1) small in record { high = both.0; low = both.1 }
  where
    go : (b : Bool) → n < 2 ^ (if b then MAX_EDGES else MAX_EDGES_2)
        → IsInRange (free (if b then 0 else 16)) (n / HALF) × IsInRange (if b then ranged fields.Mask 16 0 (2 ^ MAX_EDGES - 1) else free 16) (n % HALF)
    go true small = (omega (arith, small), (omega arith, omega (arith, small)))
    go false small = (omega (arith, small), omega arith)

pub good_mask : (format : ℕ) (t : Topology) (w : WeightState) (g : Graph) (s d : NodeId) (count mask : ℕ) → length t.edges ≤ max_edges format
    → w.edges ≡ t.edges → length w.least ≡ length t.edges → IsChoice w g s d count (Mask mask) → GoodMask format (mask_from mask)
good_mask format t w g s d count mask few edges least is =
    halves_small format mask (mask_small t w g s d count mask (max_edges format) few edges least is)
