-- The earliest end of what is sought in a list: the least beginning of it that has it.
use Rattle.std.specs.Prelude.{ℕ, suc, ◌≡◌, ◌+◌, ◌-◌, ◌<◌, ◌≤◌, ◌&&◌, Bool, true, false, IsTrue, List, [], ◌∷◌, ◌++◌, length, take, nat_le}
use Rattle.std.specs.Prelude.{slice_index_or, if◌then◌else◌}
use Rattle.std.specs.List.{list_any}
use Rattle.sp_base.specs.declared.id.NodeId.{NodeId}
use Rattle.sp_rules.specs.declared.kflow.FlowKind.TheVariants.{Plain}
use Rattle.sp_runs.specs.Rounds.{IsSweep, is_pass, is_take}
use Rattle.sp_runs.specs.Runs.{is_poll, polls}
use Rattle.sp_schedule_events.specs.declared.event.Event.{Event}

-- The beginning of so many has it and no shorter one. Where no beginning has it, the number is one more than there are.
pub record IsFirstEnd (P : List Event → Type 0) (es : List Event) (n : ℕ) : Type 0 where
  pub most : n ≤ length es + 1
  pub has : n ≤ length es → P (take n es)
  pub none : (m : ℕ) → m < n → P (take m es) → ⊥

-- a sweep from u to v stands in the interval
pub record HasSweep (least : ℕ) (u v : NodeId) (before during : List Event) : Type 0 where
  pub early : List Event
  pub middle : List Event
  pub late : List Event
  pub parts : during ≡ early ++ (middle ++ late)
  pub is : IsSweep least u v (before ++ early) middle

-- what must stand before the sweep forth: a sweep back, and on the hop to d a take
pub record IsReady (least : ℕ) (s d u v : NodeId) (before during : List Event) : Type 0 where
  pub back : HasSweep least v u before during
  pub take : v ≡ d → IsTrue (list_any (is_take Plain d s) during)

-- ---- how many frames were made before

-- for each hop of the path, at the place of its second node, the frames that its ends made for each other among these events
abbrev pub AreMade : (forth back : List ℕ) → List NodeId → List Event → Type 0
AreMade forth back path es =
    (place : ℕ) (d : NodeId) → 1 ≤ place → place < length path
    → (slice_index_or forth place 0 ≡ polls es (slice_index_or path (place - 1) d) (slice_index_or path place d))
    × (slice_index_or back place 0 ≡ polls es (slice_index_or path place d) (slice_index_or path (place - 1) d))

-- ---- how an auditor finds the earliest end of a sweep

-- How many events go by up to it, one more than there are where there is none. So many frames were made, so many of the last ones passed in time, and
-- whether the last one still waits for its pass. A frame that waits when the next is made ends all that came before.
abbrev pub sweep_end : (least : ℕ) (u v : NodeId) (made good : ℕ) (waits : Bool) → List Event → ℕ
sweep_end least u v made good waits [] = 1
sweep_end least u v made good waits (e ∷ es) =
    if is_poll u v e then suc (sweep_end least u v (made + 1) (if waits then 0 else good) true es)
    else (if waits && is_pass u v made e then (if nat_le least (good + 1) then 1 else suc (sweep_end least u v made (good + 1) false es))
    else suc (sweep_end least u v made good waits es))
