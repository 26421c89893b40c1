-- A worked example of counted delivery where nodes start and stop: three nodes in a row start, their starts are told, 1 sends to 3, four rounds follow, and
-- then 2 starts again. The interval of the rounds is calm. With the new start in it it isn't, nor is one in which 2 holds an older boot of 1. And no version
-- covers one in which 2 takes version 2.
use Rattle.std.specs.Prelude.{ℕ, ◌≡◌, ◌≤◌, true, List, [], ◌∷◌, ◌++◌, length, slice_get, Some}
use Rattle.sp_msg.specs.declared.body.Body.TheVariants as bodies
use Rattle.sp_rules.specs.Arts.{Arts}
use Rattle.sp_rules.specs.Node.{NodeState}
use Rattle.sp_rules.specs.declared.lives.Life.{Life}
use Rattle.sp_rules.specs.declared.kflow.FlowKind.TheVariants.{Plain}
use Rattle.sp_runs.specs.Paths.{hops}
use Rattle.sp_runs.specs.Rounds.{CompleteRounds, flow_count}
use Rattle.sp_runs.specs.Runs.{Clean}
use Rattle.sp_runs.specs.Settings.{Setting, node_at_boot}
use Rattle.sp_runs.specs.Worlds.{World, node_in}
use Rattle.sp_journal.specs.declared.entry.Entry.{Entry}
use Rattle.sp_schedule_events.specs.Documents.{none_published}
use Rattle.sp_schedule_events.specs.declared.event.Event.{Event}
use Rattle.sp_schedule_events.specs.declared.event.Event.TheVariants as events
use Rattle.laws_progress.specs.Calm.{IsCalm}
use Rattle.laws_progress.specs.LifeDelivery.{DeliversInLives}
use Rattle.laws_progress.specs.Within.{IsPathUnder, StaysUnder}
use Rattle.laws_progress.specs.Worked.{line, line_path, line_round, line_weights, node, send}
use Rattle.laws_runs.specs.Past.{delivered_under, past, sent_under}

-- three nodes in a row that start and stop
abbrev pub restless : Setting
restless = record line { topology = record line.topology { format = 2 }; epochs = true }

-- ---- events

-- each node starts
abbrev pub starts : List Event
starts = events.Start (node 1) ∷ events.Start (node 2) ∷ events.Start (node 3) ∷ []

-- they start, six frames over each hop in each direction tell it, and 1 sends
abbrev pub sent_by : List Event
sent_by = starts ++ (line_round 0 ++ (line_round 1 ++ (line_round 2 ++ (line_round 3 ++ (line_round 4 ++ (line_round 5 ++ send))))))

-- the rounds of a message of these lives
abbrev pub four_rounds : List Event
four_rounds = line_round 6 ++ (line_round 7 ++ (line_round 8 ++ (line_round 9 ++ [])))

-- 2 starts again
abbrev pub again : List Event
again = events.Stop (node 2) ∷ events.Start (node 2) ∷ []

-- ---- worlds

-- what a node holds of the start of v
abbrev pub heard : (v boot : ℕ) → Life
heard v boot = record {
  node = node v;
  object = Some (record { body = bodies.Epoch (record { origin = node v; boot = boot }); signature = [] });
}

-- a node that runs and holds these boots of 1 and of 3
abbrev pub holding : (u one three : ℕ) → NodeState
holding u one three =
    let n = node_at_boot restless (node u) in record n { parts = record n.parts { lives = heard 1 one ∷ heard 2 1 ∷ heard 3 three ∷ [] } }

-- a world of three nodes
abbrev pub world : (one two three : NodeState) → World
world one two three = record { keys = []; nodes = one ∷ two ∷ three ∷ []; directions = []; crafted = []; published = none_published }

-- all starts are told
abbrev pub told : World
told = world (holding 1 1 1) (holding 2 1 1) (holding 3 1 1)

-- 1 started twice, and 2 didn't hear of its second start
abbrev pub behind : World
behind = world (holding 1 2 1) (holding 2 1 1) (holding 3 2 1)

-- 2 runs under version 2, which leaves both edges
abbrev pub changed : World
changed =
    let n = holding 2 1 1 in
    world (holding 1 1 1) (record n { live = record { version = 2; weights = line_weights; document = [] } }) (holding 3 1 1)

-- ---- what is claimed

-- where the interval is calm and 1 accepted the message under the boots 1 of both, it is the first that 3 delivered under them by its end
abbrev pub IsDeliveredUnder : Type 0
IsDeliveredUnder = (arts : Arts) (js more : List Entry) (w v : World) (n : NodeState)
    → DeliversInLives arts restless → (run : Clean arts restless sent_by js w) → (longer : Clean arts restless (sent_by ++ four_rounds) (js ++ more) v)
    → StaysUnder 1 line_weights line_path w v → IsCalm w four_rounds (node 1) 1 (node 3) 1 line_path → node_in w.nodes (node 1) ≡ Some n
    → 1 ≤ length (sent_under Plain (past arts restless sent_by js w run) (node 1) 1 (node 3) 1)
    → (payload : List ℕ) × (slice_get (sent_under Plain (past arts restless sent_by js w run) (node 1) 1 (node 3) 1) 0 ≡ Some (1, payload))
    × (slice_get (delivered_under Plain (past arts restless (sent_by ++ four_rounds) (js ++ more) v longer) (node 1) 1 (node 3) 1) 0 ≡ Some (1, payload))

-- a message is counted in the lives of its path
pub record LivesAreCounted : Type 0 where
  pub path : IsPathUnder restless line_weights (node 1) (node 3) line_path
  pub two_hops : hops line_path ≡ 2
  -- the one flow that a client sends to
  pub one_flow : flow_count Plain restless (sent_by ++ four_rounds) ≡ 1
  -- four rounds are enough for the first message: two hops, one above the base, and one
  pub rounds : CompleteRounds Plain 1 (node 1) (node 3) line_path 4 sent_by four_rounds
  -- where all starts are told their interval is calm for the boots 1 of both, and so for no others
  pub calm : IsCalm told four_rounds (node 1) 1 (node 3) 1 line_path
  pub no_other : (a b : ℕ) → IsCalm told four_rounds (node 1) a (node 3) b line_path → (a ≡ 1) × (b ≡ 1)
  pub is_delivered : IsDeliveredUnder
  -- its nodes run under version 1 where all starts are told. No version covers an interval by the end of which 2 runs under another
  pub under_one : StaysUnder 1 line_weights line_path told told
  pub changes : (version : ℕ) (weights : List ℕ) → StaysUnder version weights line_path told changed → ⊥
  -- no interval is calm in which 2 starts again
  pub restarts : (w : World) (a b : ℕ) → IsCalm w (four_rounds ++ again) (node 1) a (node 3) b line_path → ⊥
  -- nor one at the beginning of which 2 holds an older boot of 1 than the others
  pub behind_one : (a b : ℕ) → IsCalm behind four_rounds (node 1) a (node 3) b line_path → ⊥
