-- The events of a run with epochs in which no node moves: a start, one that is refused, a stop, or what comes to nobody.
use Rattle.std.proofs.Common.{◌≡◌, refl, sym, subst, inl, inr}
use Rattle.sp_base.specs.declared.id.NodeId.{NodeId}
use Rattle.sp_rules.specs.Arts.{Arts}
use Rattle.sp_runs.specs.Lives.{IsDown, IsExhausted, IsOther, IsStart, IsStop, Life}
use Rattle.sp_runs.specs.Settings.{Setting}
use Rattle.sp_runs.specs.Worlds.{World}
use Rattle.sp_journal.specs.declared.entry.Entry.{Entry}
use Rattle.sp_schedule_events.specs.declared.event.Event.{Event}
use Rattle.sp_schedule_events.specs.declared.event.Event.TheVariants as events

-- the cases of an event of lives
pub data LifeCase (arts : Arts) (x : Setting) (old : World) (e : Event) (j : Entry) (new : World) : Type 0 where
  Starts_now : (u : NodeId) → e ≡ events.Start u → IsStart arts x old u j new → LifeCase arts x old e j new
  Exhausts : (u : NodeId) → e ≡ events.Start u → IsExhausted x old u j new → LifeCase arts x old e j new
  Stops : (u : NodeId) → e ≡ events.Stop u → IsStop x old u j new → LifeCase arts x old e j new
  Nobody : IsOther e → IsDown old e j new → LifeCase arts x old e j new

-- an event of lives is one of its cases
pub life_case : (arts : Arts) (x : Setting) (old : World) (e : Event) (j : Entry) (new : World) → Life arts x old e j new → LifeCase arts x old e j new
life_case arts x old (events.Start u) j new (inl start) = Starts_now u refl start
life_case arts x old (events.Start u) j new (inr none) = Exhausts u refl none
life_case arts x old (events.Stop u) j new stop = Stops u refl stop
life_case arts x old (events.Rel s d p) j new down = Nobody tt down
life_case arts x old (events.Krel s d paths p) j new down = Nobody tt down
life_case arts x old (events.Prio s d prio expiry paths p) j new down = Nobody tt down
life_case arts x old (events.Take d s) j new down = Nobody tt down
life_case arts x old (events.KTake d s) j new down = Nobody tt down
life_case arts x old (events.TakePrio d) j new down = Nobody tt down
life_case arts x old (events.Tick v now) j new down = Nobody tt down
life_case arts x old (events.Weight a b k) j new down = Nobody tt down
life_case arts x old (events.Poll a b) j new down = Nobody tt down
life_case arts x old (events.Pass a b k) j new down = Nobody tt down
life_case arts x old (events.Flip a b k back bit) j new down = Nobody tt down
life_case arts x old (events.Inject a b bytes) j new down = Nobody tt down
life_case arts x old (events.Craft c v key object) j new down = Nobody tt down
life_case arts x old (events.CraftStatus c v s d base have) j new down = Nobody tt down
life_case arts x old (events.Publish u' weights) j new down = Nobody tt down
life_case arts x old (events.CraftDocument c' v' key' version weights) j new down = Nobody tt down

-- and each of these cases is such an event
pub life_of : (arts : Arts) (x : Setting) (old : World) (e : Event) (j : Entry) (new : World) → LifeCase arts x old e j new → Life arts x old e j new
life_of arts x old e j new (Starts_now u is start) = subst (λ (f : Event). Life arts x old f j new) (sym is) (inl start)
life_of arts x old e j new (Exhausts u is none) = subst (λ (f : Event). Life arts x old f j new) (sym is) (inr none)
life_of arts x old e j new (Stops u is stop) = subst (λ (f : Event). Life arts x old f j new) (sym is) stop
life_of arts x old e j new (Nobody other down) = nobody e other down
  where
    nobody : (f : Event) → IsOther f → IsDown old f j new → Life arts x old f j new
    nobody (events.Rel s d p) other down = down
    nobody (events.Krel s d paths p) other down = down
    nobody (events.Prio s d prio expiry paths p) other down = down
    nobody (events.Take d s) other down = down
    nobody (events.KTake d s) other down = down
    nobody (events.TakePrio d) other down = down
    nobody (events.Tick v now) other down = down
    nobody (events.Weight a b k) other down = down
    nobody (events.Poll a b) other down = down
    nobody (events.Pass a b k) other down = down
    nobody (events.Flip a b k back bit) other down = down
    nobody (events.Inject a b bytes) other down = down
    nobody (events.Craft c v key object) other down = down
    nobody (events.CraftStatus c v s d base have) other down = down
    nobody (events.Publish u' weights) other down = down
    nobody (events.CraftDocument c' v' key' version weights) other down = down
    nobody (events.Start v) other down = absurd other
    nobody (events.Stop v) other down = absurd other

-- a start, a stop, or neither
pub data Kind (e : Event) : Type 0 where
  Begins : (u : NodeId) → e ≡ events.Start u → Kind e
  Ends : (u : NodeId) → e ≡ events.Stop u → Kind e
  Other : IsOther e → Kind e

pub kind_of : (e : Event) → Kind e
kind_of (events.Rel s d p) = Other tt
kind_of (events.Krel s d paths p) = Other tt
kind_of (events.Prio s d prio expiry paths p) = Other tt
kind_of (events.Take d s) = Other tt
kind_of (events.KTake d s) = Other tt
kind_of (events.TakePrio d) = Other tt
kind_of (events.Tick v now) = Other tt
kind_of (events.Weight a b k) = Other tt
kind_of (events.Poll a b) = Other tt
kind_of (events.Pass a b k) = Other tt
kind_of (events.Flip a b k back bit) = Other tt
kind_of (events.Inject a b bytes) = Other tt
kind_of (events.Craft c v key object) = Other tt
kind_of (events.CraftStatus c v s d base have) = Other tt
kind_of (events.Publish u' weights) = Other tt
kind_of (events.CraftDocument c' v' key' version weights) = Other tt
kind_of (events.Start v) = Begins v refl
kind_of (events.Stop v) = Ends v refl
