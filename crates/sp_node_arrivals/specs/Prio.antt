-- Priority messages: what is ready of each before anything is taken, how many signatures may be checked for them, and the room that they need: ids of
-- the stores, and what may be told.
use Rattle.std.specs.Prelude.{ℕ, ◌≡◌, ◌≤◌, ◌+◌, ◌*◌, ◌^◌, ◌&&◌, Bool, true, false, List, [], ◌∷◌, length}
use Rattle.std.specs.Prelude.{Option, Some, IfSome, is_some}
use Rattle.std.specs.List.{All}
use Rattle.sp_msg.specs.declared.kept.Kept.{Kept}
use Rattle.sp_prio.specs.Parcel.{Parcel}
use Rattle.sp_rules.specs.Handle as rules
use Rattle.sp_rules.specs.Lives.{is_dated}
use Rattle.sp_rules.specs.Prio.{PrioState, judge_prio, places}
use Rattle.sp_rules.specs.declared.lives.Life.{Life}
use Rattle.sp_rules.specs.declared.prio.PrioJudged.{PrioJudged}
use Rattle.sp_rules.specs.declared.prio.PrioJudged.TheVariants as prios
use Rattle.sp_node_arrivals.specs.Signed.{is_right, one_if}

pub record IsPrioReady (at : rules.Arrival) (lives : List Life) (s : PrioState) (o : Kept) (ready : Option Parcel) : Type 0 where
  pub parcel : IfSome ready (λ p. p ≡ record { kept = o; came = Some at.from; copies = places s o.body (Some at.from) })
  pub right : is_dated lives o.body ≡ true → judge_prio s o.body at.now ≡ prios.New → is_some ready ≡ is_right at.fixed o

-- of messages one after another
abbrev pub ArePriosReady : rules.Arrival → List Life → PrioState → List (ℕ × Kept) → List (Option Parcel) → Type 0
ArePriosReady at lives s [] readies = readies ≡ []
ArePriosReady at lives s (m ∷ ms) [] = ⊥
ArePriosReady at lives s (m ∷ ms) (ready ∷ readies) = IsPrioReady at lives s m.1 ready × ArePriosReady at lives s ms readies

-- a priority message that is new
abbrev pub is_new_prio : PrioJudged → Bool
is_new_prio prios.New = true
is_new_prio _ = false

-- it may be new: by the boot that it names and by its judgement
abbrev pub may_be_new_prio : rules.Arrival → List Life → PrioState → Kept → Bool
may_be_new_prio at lives s o = is_dated lives o.body && is_new_prio (judge_prio s o.body at.now)

-- how many signatures of a priority message may be checked
abbrev pub prio_checks : rules.Arrival → List Life → PrioState → Kept → ℕ
prio_checks at lives s o = one_if (may_be_new_prio at lives s o)

-- how many signatures of priority messages may be checked
abbrev pub prios_checks : rules.Arrival → List Life → PrioState → List (ℕ × Kept) → ℕ
prios_checks at lives s [] = 0
prios_checks at lives s (m ∷ ms) = prio_checks at lives s m.1 + prios_checks at lives s ms

-- ---- the room that they need

-- what one priority message tells at most: two things in each place, and three at its destination
abbrev pub prio_room : PrioState → ℕ
prio_room s = 2 * length s.peers + 3

-- each place has so many ids left
pub record HasIds (count : ℕ) (s : PrioState) : Type 0 where
  pub inbox : s.inbox.last + count ≤ 2 ^ 63
  pub stores : All (λ q. q.store.last + count ≤ 2 ^ 63) s.peers

-- for so many priority messages there are ids, and room for what they tell
pub record HasRoom (count : ℕ) (s : PrioState) (room : ℕ) : Type 0 where
  pub ids : HasIds count s
  pub told : count * prio_room s ≤ room
