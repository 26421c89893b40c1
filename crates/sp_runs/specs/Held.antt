-- What the effects of a node say that its places hold, and what each eviction leaves.
use Rattle.std.specs.Prelude.{ℕ, ◌≡◌, ◌+◌, ◌<◌, ◌≤◌, ◌/◌, ◌==◌, ◌&&◌, Bool, false, not, List, [], ◌∷◌, ◌++◌, length, filter, count_by, if◌then◌else◌}
use Rattle.std.specs.List.{All, flat_map, list_any}
use Rattle.sp_base.specs.declared.id.NodeId.{NodeId}
use Rattle.sp_msg.specs.declared.effect.Effect.{Effect}
use Rattle.sp_msg.specs.declared.effect.Effect.TheVariants as effects
use Rattle.sp_msg.specs.declared.effect.Why.TheVariants.{Evicted}
use Rattle.sp_rules.specs.Store.{ids}
use Rattle.sp_runs.specs.Told.{effects_at}
use Rattle.sp_journal.specs.declared.entry.Entry.{Entry}
use Rattle.sp_schedule_events.specs.declared.event.Event.{Event}

-- ---- what a place holds

-- an entry: its id in its place, its source, its number and its priority
pub record Held : Type 0 where
  pub id : ℕ
  pub src : ℕ
  pub seq : ℕ
  pub prio : ℕ

-- an entry that was stored in place p
abbrev pub stored_in : ℕ → Effect → List Held
stored_in p (effects.Stored place id src seq prio) = if place == p then (record { id = id; src = src.0; seq = seq; prio = prio }) ∷ [] else []
stored_in p _ = []

-- an entry of this id went from place p
abbrev pub goes_from : (p id : ℕ) → Effect → Bool
goes_from p id (effects.Gone place gone why) = (place == p) && (gone == id)
goes_from p id _ = false

-- the entries that were stored in place p, in the order of these effects, without those that went
abbrev pub held_in : ℕ → List Effect → List Held
held_in p es = filter (λ h. not (list_any (goes_from p h.id) es)) (flat_map (stored_in p) es)

-- what place p of node u holds after these events
abbrev pub held : List Event → List Entry → NodeId → ℕ → List Held
held es js u p = held_in p (effects_at es js u)

-- ---- what an eviction leaves

-- how many entries of this source are among them
abbrev pub count_held : List Held → ℕ → ℕ
count_held hs src = count_by (λ h. h.src == src) hs

-- the sources of these entries
abbrev pub sources_held : List Held → List ℕ
sources_held hs = filter (λ id. list_any (λ h. h.src == id) hs) ids

-- Of the entries of a place, one more than its capacity, the one of this id goes: of the source that has most, and the lowest of those that have,
-- the entry of lowest priority, and of these the first. What that source keeps is at least its share.
pub record IsShare (capacity : ℕ) (hs : List Held) (id : ℕ) : Type 0 where
  pub full : length hs ≡ capacity + 1
  pub before : List Held
  pub entry : Held
  pub after : List Held
  pub there : hs ≡ before ++ entry ∷ after
  pub named : entry.id ≡ id
  pub most : All (λ h. count_held hs h.src ≤ count_held hs entry.src) hs
  pub lowest_source : All (λ h. count_held hs h.src ≡ count_held hs entry.src → entry.src ≤ h.src) hs
  pub lowest : All (λ h. h.src ≡ entry.src → entry.prio ≤ h.prio) hs
  pub first : All (λ h. h.src ≡ entry.src → entry.prio < h.prio) before
  pub share : capacity / length (sources_held hs) ≤ count_held (before ++ after) entry.src

-- where the effect is an eviction from place p, which held these
abbrev pub ShareIf : (capacity p : ℕ) → List Held → Effect → Type 0
ShareIf capacity p hs (effects.Gone place id Evicted) = place ≡ p → IsShare capacity hs id
ShareIf capacity p hs _ = Unit {0}

-- each eviction among the later of these effects, by what the place held before it
abbrev pub AreShares : (capacity p : ℕ) → (before later : List Effect) → Type 0
AreShares capacity p before [] = Unit {0}
AreShares capacity p before (e ∷ later) = ShareIf capacity p (held_in p before) e × AreShares capacity p (before ++ e ∷ []) later
