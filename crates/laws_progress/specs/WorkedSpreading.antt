-- A worked example of the way of a document: three nodes in a row start, and by the end of three rounds 3 runs under the version that 1 had taken, or a later
-- one. And a world in which a version hasn't spread, after which no node goes back.
use Rattle.std.specs.Prelude.{◌≡◌, ◌≤◌, true, List, ◌++◌, Some}
use Rattle.sp_rules.specs.Arts.{Arts}
use Rattle.sp_rules.specs.Node.{NodeState}
use Rattle.sp_runs.specs.Runs.{Clean}
use Rattle.sp_runs.specs.Settings.{may_change}
use Rattle.sp_runs.specs.Worlds.{World, node_in}
use Rattle.sp_journal.specs.declared.entry.Entry.{Entry}
use Rattle.sp_schedule_events.specs.declared.event.Event.{Event}
use Rattle.laws_progress.specs.Calm.{StaysUpIn}
use Rattle.laws_progress.specs.Rising.{VersionsNeverFall}
use Rattle.laws_progress.specs.Spreading.{HaveSpread, SpreadsInRounds}
use Rattle.laws_progress.specs.Worked.{line_path, node}
use Rattle.laws_progress.specs.WorkedLives.{changed, restless, told}
use Rattle.laws_progress.specs.WorkedTelling.{row, starts, three_rounds}

-- what the promise says of these rounds, over whatever arts it holds
abbrev pub EndFollows : Type 0
EndFollows = (arts : Arts) (js more : List Entry) (w v : World) (one two three m : NodeState)
    → SpreadsInRounds arts row → Clean arts row starts js w → Clean arts row (starts ++ three_rounds) (js ++ more) v
    → node_in w.nodes (node 1) ≡ Some one → node_in w.nodes (node 2) ≡ Some two → node_in w.nodes (node 3) ≡ Some three
    → node_in v.nodes (node 3) ≡ Some m → one.live.version ≤ m.live.version

-- what is promised of versions says that 2 doesn't go back to version 1 while it stays up
abbrev pub NeverBack : Type 0
NeverBack = (arts : Arts) (es after : List Event) (js more : List Entry)
    → VersionsNeverFall arts restless → Clean arts restless es js changed → Clean arts restless (es ++ after) (js ++ more) told
    → StaysUpIn changed after (node 2) → ⊥

-- where a version has spread, and where it hasn't
pub record SpreadingIsWorked : Type 0 where
  pub changes : may_change row ≡ true
  pub follows : EndFollows
  -- where all run under version 1 it has spread, and where 2 alone took version 2 that one hasn't
  pub spread : HaveSpread told told line_path
  pub behind : HaveSpread changed changed line_path → ⊥
  pub back : NeverBack
