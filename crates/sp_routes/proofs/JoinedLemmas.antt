-- The flags of the nodes that steps join, and the mask of the edges between these.
use Rattle.std.proofs.Common.{◌≡◌, ◌≢◌, ◌⊎◌, ℕ, ◌+◌, ◌-◌, ◌==◌, ◌||◌, ◌<◌, ◌≤◌, ◌^◌, inl, inr, Bool, true, false, Some, None, List, [], ◌∷◌, length, drop, take}
use Rattle.std.proofs.Common.{refl, sym, ap, subst, ◌∙◌, arith}
use Rattle.std.specs.Prelude.{slice_get, slice_index_or}
use Rattle.std.specs.List.{All}
use Rattle.std.specs.Int.RustNames.{bit_or}
use Rattle.std.proofs.lemmas.Bool.{cases_eq, cases_lt}
use Rattle.std.proofs.Math.Seq.{take-length}
use Rattle.std.proofs.lemmas.Nat.Bits.{bit_at-pow_other, bit_at-pow_same, bit_at-zero}
use Rattle.std.proofs.lemmas.Option.{slice_get-get_or, slice_get_cases}
use Rattle.sp_base.specs.declared.id.NodeId.{NodeId}
use Rattle.sp_graph.proofs.MaskLemmas.{named_or, regroup}
use Rattle.sp_graph.specs.Masks.{is_walked}
use Rattle.sp_graph.specs.Walks.{is_between}
use Rattle.sp_msg.specs.Views.{names_edge}
use Rattle.sp_rules.proofs.MaskLemmas.{none_used}
use Rattle.sp_rules.specs.Masks.{is_used}
use Rattle.sp_topology.specs.declared.topology.Edge.{Edge}
use Rattle.sp_routes.specs.Joined.{Adds, HasFlag, joins, joins_at}

or_true : (b : Bool) → (b || true) ≡ true
or_true true = refl
or_true false = refl

or_false : (b : Bool) → (b || false) ≡ b
or_false true = refl
or_false false = refl

-- ---- one thing after another

-- what was added so far and what is left are all together
abbrev pub AddsAll : List Bool → List Bool → (Edge → Bool) → (Edge → Bool) → Type 0
AddsAll old now left whole = (e : Edge) → HasFlag e → (joins now e || left e) ≡ (joins old e || whole e)

pub one_added : (old now next : List Bool) (left one rest whole : Edge → Bool) → AddsAll old now left whole → ((e : Edge) → left e ≡ (one e || rest e))
    → Adds now next one → AddsAll old next rest whole
one_added old now next left one rest whole so_far split adds e has =
    ap (λ (b : Bool). b || rest e) (adds e has) ∙ regroup (joins now e) (one e) (rest e)
    ∙ ap (λ (b : Bool). joins now e || b) (sym (split e)) ∙ so_far e has

pub all_added : (old now : List Bool) (left whole : Edge → Bool) → AddsAll old now left whole → ((e : Edge) → left e ≡ false) → Adds old now whole
all_added old now left whole so_far none e has =
    sym (ap (λ (b : Bool). joins now e || b) (none e) ∙ or_false (joins now e)) ∙ so_far e has

-- ---- the steps of a path

pub step_split : (u v : NodeId) (more : List NodeId) (e : Edge) → is_walked e (u ∷ v ∷ more) ≡ (is_between u v e || is_walked e (v ∷ more))
step_split u v more e = refl

pub few_steps : (rest : List NodeId) (e : Edge) → length rest < 2 → is_walked e rest ≡ false
few_steps [] e few = refl
few_steps (u ∷ []) e few = refl
few_steps (u ∷ v ∷ more) e few = absurd (omega (arith, few))

take_rest : (rest : List NodeId) → take (length rest - 1) (drop 1 rest) ≡ drop 1 rest
take_rest [] = refl
take_rest (u ∷ more) = let one_less : length (u ∷ more) - 1 ≡ length more = omega arith in rw one_less (take-length more)

-- as the code has it: the first two nodes are joined, and the first is left behind
pub next_step : (old now next : List Bool) (rest path : List NodeId) (d f : NodeId) → 2 ≤ length rest
    → AddsAll old now (λ e. is_walked e rest) (λ e. is_walked e path) → Adds now next (is_between (slice_index_or rest 0 d) (slice_index_or rest 1 f))
    → AddsAll old next (λ e. is_walked e (take (length rest - 1) (drop 1 rest))) (λ e. is_walked e path)
next_step old now next [] path d f long so_far adds = absurd (omega (arith, long))
next_step old now next (u ∷ []) path d f long so_far adds = absurd (omega (arith, long))
next_step old now next (u ∷ v ∷ more) path d f long so_far adds =
    rw (take_rest (u ∷ v ∷ more))
    (one_added old now next (λ e. is_walked e (u ∷ v ∷ more)) (is_between u v) (λ e. is_walked e (v ∷ more)) (λ e. is_walked e path)
    so_far (step_split u v more) adds)

-- ---- the mask

-- of the first so many edges the mask has those whose ends are joined, and it has no others
pub record IsMaskTo (flags : List Bool) (edges : List Edge) (n mask : ℕ) : Type 0 where
  pub named : (place : ℕ) → place < n → names_edge mask place ≡ joins_at flags (slice_get edges place)
  pub rest : (place : ℕ) → n ≤ place → names_edge mask place ≡ false

no_bit : (place : ℕ) → names_edge 0 place ≡ false
no_bit place = ap (λ (q : ℕ). q == 1) (bit_at-zero place)

pub no_edges : (flags : List Bool) (edges : List Edge) → IsMaskTo flags edges 0 0
no_edges flags edges = record { named = λ place less. absurd (omega (arith, less)); rest = λ place after. no_bit place }

pub joins_here : (flags : List Bool) (edges : List Edge) (n : ℕ) (d : Edge) (b : Bool) → n < length edges → joins flags (slice_index_or edges n d) ≡ b
    → joins_at flags (slice_get edges n) ≡ b
joins_here flags edges n d b inside is = ap (joins_at flags) (slice_get-get_or edges n d inside) ∙ is

pub edge_in : (flags : List Bool) (edges : List Edge) (n mask : ℕ) → IsMaskTo flags edges n mask → joins_at flags (slice_get edges n) ≡ true
    → IsMaskTo flags edges (n + 1) (bit_or mask (2 ^ n))
edge_in flags edges n mask so_far joined = record {
  named = λ place less. named place less (cases_eq place n);
  rest = λ place after. other place (omega (arith, after)) ∙ so_far.rest place (omega (arith, after));
}
  where
    other : (place : ℕ) → place ≢ n → names_edge (bit_or mask (2 ^ n)) place ≡ names_edge mask place
    other place apart =
        named_or mask (2 ^ n) place ∙ ap (λ (b : Bool). names_edge mask place || b) (ap (λ (q : ℕ). q == 1) (bit_at-pow_other n place apart))
        ∙ or_false (names_edge mask place)

    here : names_edge (bit_or mask (2 ^ n)) n ≡ true
    here = named_or mask (2 ^ n) n ∙ ap (λ (b : Bool). names_edge mask n || b) (ap (λ (q : ℕ). q == 1) (bit_at-pow_same n)) ∙ or_true (names_edge mask n)

    named : (place : ℕ) → place < n + 1 → (place ≡ n) ⊎ (place ≢ n) → names_edge (bit_or mask (2 ^ n)) place ≡ joins_at flags (slice_get edges place)
    named place less (inl same) = rw same (here ∙ sym joined)
    named place less (inr apart) = other place apart ∙ so_far.named place (omega (arith, less, apart))

pub edge_out : (flags : List Bool) (edges : List Edge) (n mask : ℕ) → IsMaskTo flags edges n mask → joins_at flags (slice_get edges n) ≡ false
    → IsMaskTo flags edges (n + 1) mask
edge_out flags edges n mask so_far apart = record {
  named = λ place less. named place less (cases_eq place n);
  rest = λ place after. so_far.rest place (omega (arith, after));
}
  where
    named : (place : ℕ) → place < n + 1 → (place ≡ n) ⊎ (place ≢ n) → names_edge mask place ≡ joins_at flags (slice_get edges place)
    named place less (inl same) = rw same (so_far.rest n (omega arith) ∙ sym apart)
    named place less (inr other) = so_far.named place (omega (arith, less, other))

-- an edge stands at the place, or the place is past the last one
abbrev StandsAt : List Edge → ℕ → Type 0
StandsAt edges place =
    ((x : Edge) × (place < length edges) × (slice_get edges place ≡ Some x) × (slice_index_or edges place x ≡ x))
    ⊎ ((length edges ≤ place) × (slice_get edges place ≡ None))

pub all_edges : (flags : List Bool) (edges : List Edge) (n mask : ℕ) → length edges ≤ n → IsMaskTo flags edges n mask
    → (place : ℕ) → names_edge mask place ≡ joins_at flags (slice_get edges place)
all_edges flags edges n mask all so_far place = go (slice_get_cases edges place).1
  where
    go : StandsAt edges place → names_edge mask place ≡ joins_at flags (slice_get edges place)
    go (inl (x, within, got, read)) = so_far.named place (omega (arith, within, all))
    go (inr (far, none)) = beyond (cases_lt place n)
      where
        beyond : (place < n) ⊎ (n ≤ place) → names_edge mask place ≡ joins_at flags (slice_get edges place)
        beyond (inl before) = so_far.named place before
        beyond (inr after) = so_far.rest place after ∙ sym (ap (joins_at flags) none)

-- where the flags are those of paths, so is the mask
pub mask_is : (flags : List Bool) (edges : List Edge) (paths : List (List NodeId)) (mask : ℕ) → All HasFlag edges
    → ((e : Edge) → HasFlag e → joins flags e ≡ is_used paths (Some e)) → ((place : ℕ) → names_edge mask place ≡ joins_at flags (slice_get edges place))
    → (place : ℕ) → names_edge mask place ≡ is_used paths (slice_get edges place)
mask_is flags edges paths mask ends are is place = is place ∙ go (slice_get_cases edges place).1
  where
    go : StandsAt edges place → joins_at flags (slice_get edges place) ≡ is_used paths (slice_get edges place)
    go (inl (x, within, got, read)) = rw got (are x (subst HasFlag read (ends place x within)))
    go (inr (far, none)) = rw none (sym (none_used paths))
