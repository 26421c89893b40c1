-- A worked example of rounds that tell starts: three nodes in a row start, and by the end of three such rounds each end knows the boot of the other. And rounds
-- and intervals that are none.
use Rattle.std.specs.Prelude.{ℕ, ◌≡◌, ◌*◌, true, List, [], ◌∷◌, ◌++◌, length, Some}
use Rattle.sp_base.specs.declared.format.TheConstants.{FORMAT_2}
use Rattle.sp_rules.specs.Arts.{Arts}
use Rattle.sp_rules.specs.Lives.{held_boot}
use Rattle.sp_rules.specs.Node.{NodeState, booted}
use Rattle.sp_runs.specs.Paths.{hops}
use Rattle.sp_runs.specs.Runs.{Clean, polls}
use Rattle.sp_runs.specs.Settings.{Setting, first_signer, fixed_at, link_keys}
use Rattle.sp_runs.specs.Worlds.{World, node_in}
use Rattle.sp_journal.specs.declared.entry.Entry.{Entry}
use Rattle.sp_schedule_events.specs.Documents.{none_published}
use Rattle.sp_schedule_events.specs.declared.event.Event.{Event}
use Rattle.sp_schedule_events.specs.declared.event.Event.TheVariants as events
use Rattle.laws_progress.specs.Calm.{KnowEachOther, StaysUpIn}
use Rattle.laws_progress.specs.LifeDelivery.{StartsAreTold}
use Rattle.laws_progress.specs.Telling.{IsTellingRound, TellingRounds}
use Rattle.laws_progress.specs.Within.{IsPathUnder, StaysUnder}
use Rattle.laws_progress.specs.Worked.{frames, line, line_path, line_weights, node}

-- ---- three nodes in a row, which start by events

abbrev pub row : Setting
row = record line { topology = record line.topology { format = FORMAT_2 }; epochs = true }

-- each node starts
abbrev pub starts : List Event
starts = events.Start (node 1) ∷ events.Start (node 2) ∷ events.Start (node 3) ∷ []

-- three frames over each hop in each direction, after so many such rounds
abbrev pub telling_round : ℕ → List Event
telling_round before = frames 1 2 (3 * before) 3 ++ (frames 2 1 (3 * before) 3 ++ (frames 3 2 (3 * before) 3 ++ frames 2 3 (3 * before) 3))

-- three rounds that tell starts
abbrev pub three_rounds : List Event
three_rounds = telling_round 0 ++ (telling_round 1 ++ (telling_round 2 ++ []))

-- what the promise says of it, over whatever arts it holds: 3 holds the boot of 1's life, and 1 that of 3's
abbrev pub EndsKnowEachOther : Type 0
EndsKnowEachOther = (arts : Arts) (js more : List Entry) (w v : World) (one two three n m : NodeState)
    → StartsAreTold arts row → Clean arts row starts js w → Clean arts row (starts ++ three_rounds) (js ++ more) v
    → StaysUnder 1 line_weights line_path w v → node_in w.nodes (node 1) ≡ Some one → node_in w.nodes (node 2) ≡ Some two → node_in w.nodes (node 3)
    ≡ Some three
    → node_in v.nodes (node 1) ≡ Some n → node_in v.nodes (node 3) ≡ Some m
    → (held_boot m.parts.lives (node 1) ≡ n.fixed.boot) × (held_boot n.parts.lives (node 3) ≡ m.fixed.boot)

-- ---- what is none

-- the last frame of 1 for 2 is missing
abbrev pub short_round : List Event
short_round = frames 1 2 0 2 ++ (frames 2 1 0 3 ++ (frames 3 2 0 3 ++ frames 2 3 0 3))

-- the first frame of 2 for 3 is passed after the second is made
abbrev pub late_frames : List Event
late_frames =
    events.Poll (node 2) (node 3) ∷ events.Poll (node 2) (node 3) ∷ events.Pass (node 2) (node 3) 1
    ∷ (events.Pass (node 2) (node 3) 2 ∷ frames 2 3 2 1)

-- a round in which one direction comes too late
abbrev pub late_round : List Event
late_round = frames 1 2 0 3 ++ (frames 2 1 0 3 ++ (frames 3 2 0 3 ++ late_frames))

-- 2 starts again on the way
abbrev pub restart : List Event
restart = telling_round 0 ++ (events.Stop (node 2) ∷ events.Start (node 2) ∷ telling_round 1)

-- nodes that booted and were told nothing, the second of them in its second life
abbrev pub booted_at : (u boot : ℕ) → NodeState
booted_at u boot = booted (fixed_at row (node u) boot) (first_signer row (node u)) (link_keys row (node u)) 2 4

-- a world in which one node is in another life
abbrev pub untold : World
untold = record { keys = []; nodes = booted_at 1 1 ∷ booted_at 2 2 ∷ booted_at 3 1 ∷ []; directions = []; crafted = []; published = none_published }

-- after three rounds the starts are told, and after less they needn't be
pub record TellingIsWorked : Type 0 where
  pub path : IsPathUnder row line_weights (node 1) (node 3) line_path
  pub two_hops : hops line_path ≡ 2
  pub three_nodes : length row.topology.nodes ≡ 3
  -- three rounds are enough for two hops. Each has three polls of each of its four directions
  pub rounds : TellingRounds 3 line_path 3 starts three_rounds
  pub events : length three_rounds ≡ 3 * (4 * 3 * 2)
  pub polls : polls three_rounds (node 2) (node 3) ≡ 9
  pub told : EndsKnowEachOther
  -- a direction lacks a poll, or a frame comes too late
  pub short : IsTellingRound 3 line_path starts short_round → ⊥
  pub late : IsTellingRound 3 line_path starts late_round → ⊥
  -- a node starts again meanwhile
  pub restarts : (w : World) → StaysUpIn w restart (node 2) → ⊥
  -- nodes that were told nothing don't know each other
  pub unknown : KnowEachOther untold line_path → ⊥
