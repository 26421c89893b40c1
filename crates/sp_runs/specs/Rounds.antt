-- Complete rounds of a path, as intervals of the events of a run: what an auditor counts. They say which frames are made and which arrive, and nothing of time.
use Rattle.std.specs.Prelude.{ℕ, zero, suc, ◌≡◌, ◌+◌, ◌≤◌, ◌==◌, ◌&&◌, ◌||◌, max, Bool, true, false, not, IsTrue, List, [], ◌∷◌, ◌++◌, count_by, if◌then◌else◌}
use Rattle.std.specs.List.{All, list_any}
use Rattle.sp_base.specs.declared.id.Flow.{Flow}
use Rattle.sp_base.specs.declared.id.NodeId.{NodeId}
use Rattle.sp_graph.specs.Walks.{steps}
use Rattle.sp_rules.specs.Parts.{nodes_of}
use Rattle.sp_rules.specs.Rel.{pairs_of}
use Rattle.sp_rules.specs.declared.kflow.FlowKind.{FlowKind}
use Rattle.sp_rules.specs.declared.kflow.FlowKind.TheVariants as kinds
use Rattle.sp_runs.specs.Runs.{is_poll, polls}
use Rattle.sp_runs.specs.Settings.{Setting, is_correct}
use Rattle.sp_schedule_events.specs.declared.event.Event.{Event}
use Rattle.sp_schedule_events.specs.declared.event.Event.TheVariants as events

-- ---- how many flows may wait for their turn

-- a client of the flow's source sends to its destination, by the kind of flows
abbrev pub is_send : FlowKind → Flow → Event → Bool
is_send kinds.Plain flow (events.Rel from to payload) = (from.0 == flow.src.0) && (to.0 == flow.dst.0)
is_send kinds.Paths flow (events.Krel from to paths payload) = (from.0 == flow.src.0) && (to.0 == flow.dst.0)
is_send kind flow _ = false

-- both of its ends are correct
abbrev pub has_correct_ends : Setting → Flow → Bool
has_correct_ends x flow = is_correct x flow.src && is_correct x flow.dst

-- So many flows of a kind may ever wait for their turn at a node: those between correct nodes that a client sends to among these events, and each that has a
-- compromised end. At least 1
abbrev pub flow_count : FlowKind → Setting → List Event → ℕ
flow_count kind x es =
    let flows = pairs_of (nodes_of x.topology) in
    max 1 (count_by (λ flow. has_correct_ends x flow && list_any (is_send kind flow) es) flows + count_by (λ flow. not (has_correct_ends x flow)) flows)

-- ---- a sweep

-- the frame of this number from u reaches v as it is
abbrev pub is_pass : NodeId → NodeId → ℕ → Event → Bool
is_pass u v number (events.Pass from to n) = (from.0 == u.0) && (to.0 == v.0) && (n == number)
is_pass u v number _ = false

-- the frame of this number is passed before the next poll of its direction
abbrev pub is_passed : NodeId → NodeId → ℕ → List Event → Bool
is_passed u v number [] = false
is_passed u v number (e ∷ es) = is_pass u v number e || (not (is_poll u v e) && is_passed u v number es)

-- so is each frame that u makes for v in this interval, after so many before
abbrev pub are_passed : NodeId → NodeId → ℕ → List Event → Bool
are_passed u v made [] = true
are_passed u v made (e ∷ es) = if is_poll u v e then is_passed u v (made + 1) es && are_passed u v (made + 1) es else are_passed u v made es

-- The interval, after the events before it, is a sweep from u to v: u makes so many frames for v at least, and each is passed before the next is made.
pub record IsSweep (least : ℕ) (u v : NodeId) (before during : List Event) : Type 0 where
  pub enough : least ≤ polls during u v
  pub passed : IsTrue (are_passed u v (polls before u v) during)

-- ---- a round

-- a client of d takes what came from s
abbrev pub is_take : FlowKind → NodeId → NodeId → Event → Bool
is_take kinds.Plain d s (events.Take at from) = (at.0 == d.0) && (from.0 == s.0)
is_take kinds.Paths d s (events.KTake at from) = (at.0 == d.0) && (from.0 == s.0)
is_take kind d s _ = false

-- The interval serves the hop from u to v for the flow from s to d: it has a sweep from v to u, and wholly after it one from u to v. On the hop to d a client
-- of d takes before that second sweep.
pub record IsHopServed (kind : FlowKind) (least : ℕ) (s d u v : NodeId) (before during : List Event) : Type 0 where
  pub early : List Event
  pub back : List Event
  pub between : List Event
  pub forth : List Event
  pub late : List Event
  pub parts : during ≡ early ++ (back ++ (between ++ (forth ++ late)))
  pub is_back : IsSweep least v u (before ++ early) back
  pub is_forth : IsSweep least u v (before ++ (early ++ (back ++ between))) forth
  pub take : v ≡ d → IsTrue (list_any (is_take kind d s) (early ++ (back ++ between)))

-- The interval is a complete round of the path for the flow of this kind from s to d: each hop is served, in whatever order.
abbrev pub IsCompleteRound : FlowKind → (least : ℕ) → (s d : NodeId) → List NodeId → (before during : List Event) → Type 0
IsCompleteRound kind least s d path before during = All (λ hop. IsHopServed kind least s d hop.0 hop.1 before during) (steps path)

-- In the events after those before so many complete rounds follow one another. Between two and after the last there may be any events.
pub data CompleteRounds (kind : FlowKind) (least : ℕ) (s d : NodeId) (path : List NodeId) : ℕ → (before after : List Event) → Type 0 where
  None_left : {before after : List Event} → CompleteRounds kind least s d path zero before after
  Round : {n : ℕ} {before : List Event} (gap during : List Event) {after : List Event}
      → IsCompleteRound kind least s d path (before ++ gap) during → CompleteRounds kind least s d path n (before ++ (gap ++ during)) after
      → CompleteRounds kind least s d path (suc n) before (gap ++ (during ++ after))
