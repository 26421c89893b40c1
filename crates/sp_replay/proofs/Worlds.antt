-- What the laws of runs say of a world: all that is claimed of it, and that its journal's length and deliveries have room in a summary.
use Rattle.std.proofs.Common.{◌<◌, ◌^◌, length, arith}
use Rattle.laws_runs_format.specs.Headline.{EveryLife, EveryRun}
use Rattle.laws_runs_format.specs.Journals.{IsCountable, JournalsAreCountable}
use Rattle.sp_journal.specs.JournalText.{delivered_count, priority_count}
use Rattle.sp_world.specs.Past.{Past, IsPast}
use Rattle.sp_replay.specs.Claims.{WorldClaims}
use Rattle.sp_replay.specs.Played.{HasBuffers, IsShort}

pub world_claims : EveryRun → EveryLife → (p : Past) → IsPast p → HasBuffers p → WorldClaims p
world_claims every_run every_life p is some = record {
  run = is;
  lives = every_life p.scenario p.events p.journal is.last is.header some is.clean;
  claims = λ plain. every_run p.scenario p.events p.journal is.last is.header plain some is.clean;
}

countable : JournalsAreCountable → (p : Past) → IsPast p → IsCountable p.events p.journal
countable law p is = law p.scenario p.events p.journal is.last is.header is.clean

pub journal_is_short : JournalsAreCountable → (p : Past) → IsPast p → IsShort p → length p.journal < 2 ^ 32
journal_is_short law p is short = omega (arith, (countable law p is).entries, short)

pub deliveries_are_few : JournalsAreCountable → (p : Past) → IsPast p → IsShort p → delivered_count p.journal < 2 ^ 64
deliveries_are_few law p is short = let c = countable law p is in omega (arith, c.entries, c.deliveries, short)

pub priority_is_few : JournalsAreCountable → (p : Past) → IsPast p → IsShort p → priority_count p.journal < 2 ^ 64
priority_is_few law p is short = let c = countable law p is in omega (arith, c.entries, c.priority, short)
