-- Rounds that tell starts: intervals in which each node of a path makes, for each of its neighbours on the path, as many frames as there are nodes.
use Rattle.std.specs.Prelude.{ℕ, zero, suc, ◌≡◌, List, ◌++◌}
use Rattle.std.specs.List.{All}
use Rattle.sp_base.specs.declared.id.NodeId.{NodeId}
use Rattle.sp_graph.specs.Walks.{steps}
use Rattle.sp_runs.specs.Rounds.{IsSweep}
use Rattle.sp_schedule_events.specs.declared.event.Event.{Event}

-- the interval, after the events before it, has a sweep from u to v
pub record HasSweep (least : ℕ) (u v : NodeId) (before during : List Event) : Type 0 where
  pub early : List Event
  pub sweep : List Event
  pub late : List Event
  pub parts : during ≡ early ++ (sweep ++ late)
  pub is_sweep : IsSweep least u v (before ++ early) sweep

-- over each hop of the path there is one in each direction, in whatever order
abbrev pub IsTellingRound : (least : ℕ) → List NodeId → (before during : List Event) → Type 0
IsTellingRound least path before during =
    All (λ hop. HasSweep least hop.0 hop.1 before during × HasSweep least hop.1 hop.0 before during) (steps path)

-- In the events after those before so many such rounds follow one another. Between two and after the last there may be any events.
pub data TellingRounds (least : ℕ) (path : List NodeId) : ℕ → (before after : List Event) → Type 0 where
  None_left : {before after : List Event} → TellingRounds least path zero before after
  Round : {n : ℕ} {before : List Event} (gap during : List Event) {after : List Event}
      → IsTellingRound least path (before ++ gap) during → TellingRounds least path n (before ++ (gap ++ during)) after
      → TellingRounds least path (suc n) before (gap ++ (during ++ after))
