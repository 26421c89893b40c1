-- What starts and reserves one after another give to a node.
use Rattle.std.proofs.Common.{◌≡◌, ℕ, ◌-◌, ◌<◌, ◌≤◌, ◌==◌, Bool, true, false, cond, inl, inr, List, [], ◌∷◌, length, replicate}
use Rattle.std.proofs.Common.{refl, sym, ap, subst, ◌∙◌, arith, lit<, lit≤}
use Rattle.std.specs.Prelude.{slice_index_or, slice_set, Ok, Err}
use Rattle.std.proofs.lemmas.Bool.{cases_eq, eqb-true}
use Rattle.std.proofs.lemmas.List.{get_or-set_other, get_or-set_same}
use Rattle.sp_base.specs.declared.id.NodeId.{NodeId}
use Rattle.sp_keystate.specs.declared.numbers.Numbers.{Numbers}
use Rattle.sp_keystate.specs.States.{first_numbers}
use Rattle.sp_epoch.specs.declared.started.Started.{Started}
use Rattle.sp_epoch.specs.declared.refused.EpochRefused.TheVariants.{Exhausted, Memory}
use Rattle.sp_epoch.specs.Numbers.{IsOneOf, after_more, after_start, numbers_at, with_numbers}
use Rattle.sp_epoch.specs.Calls.{Starts}
use Rattle.sp_epoch.specs.Histories.{And_then, BootsRise, Call, Does, DoesAll, More, Nothing_more, RangesRise, Start, boots_of, ranges_of}
use Rattle.sp_epoch.specs.Laws.{NothingIsGivenTwice, SomeCallsAreAHistory, node_1}
use Rattle.sp_epoch.proofs.NumberLemmas.{at_own, set_same}

-- no lower
record NoLower (low high : Numbers) : Type 0 where
  boot : low.boot ≤ high.boot
  bound : low.bound ≤ high.bound

no_lower : (old : List Numbers) (u v : NodeId) (n : Numbers) → IsOneOf old u → NoLower (numbers_at old u) n
    → NoLower (numbers_at old v) (numbers_at (with_numbers old u n) v)
no_lower old u v n one up = elim (cases_eq (v.0 - 1) (u.0 - 1)) [
  | inl same ↦
      subst (λ (m : Numbers). NoLower (numbers_at old v) m) (sym (set_same old (u.0 - 1) (v.0 - 1) n (omega (arith, one.0, one.1)) same))
      (subst (λ (i : ℕ). NoLower (slice_index_or old i first_numbers) n) (sym same) up)
  | inr other ↦
      subst (λ (m : Numbers). NoLower (numbers_at old v) m) (sym (get_or-set_other old (u.0 - 1) (v.0 - 1) n first_numbers other))
      (record { boot = omega arith; bound = omega arith })
]

start_up : (total : ℕ) (n : Numbers) → n.bound < total → NoLower n (after_start total n)
start_up total n left = record { boot = omega arith; bound = omega (arith, left) }

more_up : (total : ℕ) (n : Numbers) → n.bound < total → NoLower n (after_more total n)
more_up total n left = record { boot = omega arith; bound = omega (arith, left) }

-- ---- what a call gives to a node, and the calls after it

abbrev AtLeast : (boot least : ℕ) → Numbers → Type 0
AtLeast boot least n = (boot ≤ n.boot) × (least ≤ n.bound)

-- boots above this one, and ranges from this index on
abbrev Rise : (boot least : ℕ) → NodeId → List Call → Type 0
Rise boot least v calls = BootsRise boot (boots_of v calls) × RangesRise least (ranges_of v calls)

-- whatever the later calls give rises from any numbers on that are no higher than the node's after the call
abbrev RisesLater : NodeId → List Numbers → List Call → Type 0
RisesLater v between calls = (boot least : ℕ) → AtLeast boot least (numbers_at between v) → Rise boot least v calls

at_least : (boot least : ℕ) (low high : Numbers) → AtLeast boot least low → NoLower low high → AtLeast boot least high
at_least boot least low high at up = (let a = at.0 in let b = up.boot in omega (arith, a, b), let a = at.1 in let b = up.bound in omega (arith, a, b))

became : (old new : List Numbers) (u v : NodeId) (n : Numbers) → IsOneOf old u → NoLower (numbers_at old u) n → new ≡ with_numbers old u n
    → NoLower (numbers_at old v) (numbers_at new v)
became old new u v n one up is = subst (λ (all : List Numbers). NoLower (numbers_at old v) (numbers_at all v)) (sym is) (no_lower old u v n one up)

became_own : (old new : List Numbers) (u v : NodeId) (n : Numbers) → IsOneOf old u → v.0 ≡ u.0 → new ≡ with_numbers old u n → numbers_at new v ≡ n
became_own old new u v n one same is = ap (λ (all : List Numbers). numbers_at all v) is ∙ at_own old u v n one same

start_gives : (old new : List Numbers) (total : ℕ) (u v : NodeId) (started : Started) (calls : List Call) (boot least : ℕ)
    → IsOneOf old u → Starts total u old new (Ok started) → AtLeast boot least (numbers_at old v) → RisesLater v new calls
    → Rise boot least v (Start total u (Ok started) ∷ calls)
start_gives old new total u v started calls boot least one start at later = go (u.0 == v.0) refl
  where
    after : Numbers
    after = after_start total (numbers_at old u)

    go : (own : Bool) → (u.0 == v.0) ≡ own
        → BootsRise boot (cond own (started.boot ∷ boots_of v calls) (boots_of v calls))
        × RangesRise least (cond own ((started.index, started.bound) ∷ ranges_of v calls) (ranges_of v calls))
    go false is = later boot least (at_least boot least (numbers_at old v) (numbers_at new v) at
        (became old new u v after one (start_up total (numbers_at old u) start.0) start.2))
    go true is =
        let same : v.0 ≡ u.0 = sym (eqb-true _ _ is) in
        let here : numbers_at old v ≡ numbers_at old u = ap (λ (i : ℕ). slice_index_or old (i - 1) first_numbers) same in
        let then : numbers_at new v ≡ after = became_own old new u v after one same start.2 in
        let boot_here = ap (λ (n : Numbers). n.boot) here in
        let bound_here = ap (λ (n : Numbers). n.bound) here in
        let boot_then = ap (λ (n : Numbers). n.boot) then in
        let bound_then = ap (λ (n : Numbers). n.bound) then in
        let boot_is = ap (λ (s : Started). s.boot) start.1 in
        let index_is = ap (λ (s : Started). s.index) start.1 in
        let bound_is = ap (λ (s : Started). s.bound) start.1 in
        let left = start.0 in
        let low = at.0 in
        let least_low = at.1 in
        let rise = later started.boot started.bound (omega (arith, boot_then, boot_is), omega (arith, bound_then, bound_is)) in
        ((omega (arith, low, boot_here, boot_is), rise.0), (omega (arith, least_low, bound_here, index_is), omega (arith, left, index_is, bound_is), rise.1))

more_gives : (old new : List Numbers) (total : ℕ) (u v : NodeId) (index bound : ℕ) (calls : List Call) (boot least : ℕ)
    → Does old (More total u index bound) new → AtLeast boot least (numbers_at old v) → RisesLater v new calls
    → Rise boot least v (More total u index bound ∷ calls)
more_gives old new total u v index bound calls boot least does at later = go (u.0 == v.0) refl
  where
    after : Numbers
    after = after_more total (numbers_at old u)

    left : (numbers_at old u).bound < total
    left = subst (λ (i : ℕ). i < total) does.1 does.2

    go : (own : Bool) → (u.0 == v.0) ≡ own
        → BootsRise boot (boots_of v calls) × RangesRise least (cond own ((index, bound) ∷ ranges_of v calls) (ranges_of v calls))
    go false is = later boot least (at_least boot least (numbers_at old v) (numbers_at new v) at
        (became old new u v after does.0 (more_up total (numbers_at old u) left) does.3.1))
    go true is =
        let same : v.0 ≡ u.0 = sym (eqb-true _ _ is) in
        let here : numbers_at old v ≡ numbers_at old u = ap (λ (i : ℕ). slice_index_or old (i - 1) first_numbers) same in
        let then : numbers_at new v ≡ after = became_own old new u v after does.0 same does.3.1 in
        let boot_here = ap (λ (n : Numbers). n.boot) here in
        let bound_here = ap (λ (n : Numbers). n.bound) here in
        let boot_then = ap (λ (n : Numbers). n.boot) then in
        let bound_then = ap (λ (n : Numbers). n.bound) then in
        let index_is = does.1 in
        let bound_is = does.3.0 in
        let below = left in
        let low = at.0 in
        let least_low = at.1 in
        let rise = later boot bound (omega (arith, low, boot_here, boot_then), omega (arith, bound_then, bound_is)) in
        (rise.0, (omega (arith, least_low, bound_here, index_is), omega (arith, below, index_is, bound_is), rise.1))

call_gives : (old new : List Numbers) (call : Call) (v : NodeId) (calls : List Call) (boot least : ℕ) → Does old call new
    → AtLeast boot least (numbers_at old v) → RisesLater v new calls → Rise boot least v (call ∷ calls)
call_gives old new (Start total u (Ok started)) v calls boot least does at later = start_gives old new total u v started calls boot least does.0 does.1 at later
call_gives old new (Start total u (Err (Exhausted bound))) v calls boot least does at later = go (u.0 == v.0)
  where
    rise : Rise boot least v calls
    rise = later boot least (subst (λ (all : List Numbers). AtLeast boot least (numbers_at all v)) (sym does.1.2) at)

    go : (own : Bool) → BootsRise boot (cond own (boots_of v calls) (boots_of v calls)) × RangesRise least (cond own (ranges_of v calls) (ranges_of v calls))
    go true = rise
    go false = rise
call_gives old new (Start total u (Err Memory)) v calls boot least does at later = absurd does.1
call_gives old new (More total u index bound) v calls boot least does at later = more_gives old new total u v index bound calls boot least does at later

-- ---- a history

history_gives : (old new : List Numbers) (calls : List Call) (v : NodeId) → DoesAll old calls new → RisesLater v old calls
history_gives old new calls v (Nothing_more all) boot least at = (tt, tt)
history_gives old new calls v (And_then s between t call rest does more) boot least at =
    call_gives s between call v rest boot least does at (history_gives between t rest v more)

pub nothing_is_given_twice : NothingIsGivenTwice
nothing_is_given_twice nodes calls history v = history_gives (replicate nodes first_numbers) history.0 calls v history.1 0 0 (omega arith, omega arith)

-- the numbers of one node alone
abbrev one : (serial bound boot : ℕ) → List Numbers
one serial bound boot = record { serial = serial; bound = bound; boot = boot } ∷ []

abbrev end : List Numbers
end = one 6 70 2

abbrev first : Started
first = record { boot = 1; index = 0; bound = 32 }

abbrev second : Started
second = record { boot = 2; index = 64; bound = 70 }

abbrev last_call : List Call
last_call = Start 70 node_1 (Err (Exhausted 70)) ∷ []

abbrev last_two : List Call
last_two = Start 70 node_1 (Ok second) ∷ last_call

abbrev last_three : List Call
last_three = More 70 node_1 32 64 ∷ last_two

pub some_calls_are_a_history : SomeCallsAreAHistory
some_calls_are_a_history = (
  end,
  And_then (one 1 0 0) (one 3 32 1) end (Start 70 node_1 (Ok first)) last_three ((lit≤ tt, lit≤ tt), (lit< tt, refl, refl))
      (And_then (one 3 32 1) (one 4 64 1) end (More 70 node_1 32 64) last_two ((lit≤ tt, lit≤ tt), refl, lit< tt, (refl, refl))
      (And_then (one 4 64 1) end end (Start 70 node_1 (Ok second)) last_call ((lit≤ tt, lit≤ tt), (lit< tt, refl, refl))
      (And_then end end end (Start 70 node_1 (Err (Exhausted 70))) [] ((lit≤ tt, lit≤ tt), (lit≤ tt, refl, refl)) (Nothing_more end)))),
)
