-- How the program ends over a reader and a writer: its number, and what the writer got.
use Rattle.std.specs.Prelude.{ℕ, ◌≡◌, ◌≢◌, ◌⊎◌, false, List, Option, Some, None, IfSome}
use Rattle.sp_world.specs.Past.{Past}
use Rattle.sp_top.specs.declared.command.Command.{Command}
use Rattle.sp_top.specs.declared.command.Command.TheVariants as commands
use Rattle.sp_words.specs.declared.status.Status.{Status}
use Rattle.sp_words.specs.declared.status.Status.TheVariants as statuses
use Rattle.sp_words.specs.Statuses.{code_of}
use Rattle.sp_top.specs.Claims.{Wrote}
use Rattle.sp_replay.specs.Claims.{WorldClaims}
use Rattle.sp_top.specs.Commands.{BySaid}
use Rattle.sp_top.specs.Complete.{GeneratesAll, IsComplete, calls_keeper, calls_wire}
use Rattle.sp_replay.specs.Fronts.{IsBrokenOff}

-- what is claimed by what the words say, where the wire, the clock and the key file tell nothing
pub record SaidEnded (said : Option Command) (left : Option (List ℕ)) (past : Option Past) (status : Status) (before after : Option (List ℕ)) : Type 0 where
  -- what was written is the output that the words and the input have
  pub wrote : calls_wire said ≡ false → calls_keeper said ≡ false → Wrote said left past status before after
  -- a schedule of which nothing is forged is run to its end, and a text with a bad line is refused, unless something outside fails
  pub complete : status ≢ statuses.Source → status ≢ statuses.Sink → IsComplete said left status
  -- the schedule of a number never meets a forgery
  pub generated : GeneratesAll said status
  pub usage : status ≡ statuses.Usage → said ≡ None
  pub only_usage : said ≡ None → (status ≡ statuses.Usage) ⊎ ((status ≡ statuses.Sink) ⊎ (status ≡ statuses.Memory))

-- the run of these words ended with this number. A reader had so much left before and after, and a writer held so much before and after
pub record Ended (words : List (List ℕ)) (left rest before after : Option (List ℕ)) (code : ℕ) : Type 0 where
  pub status : Status
  pub code_is : code ≡ code_of status
  pub world : Option Past
  pub said : BySaid words (λ said. SaidEnded said left world status before after)
  -- where the reader of a replay failed, the journal of all events that had come was written
  pub broken : BySaid words (λ said. said ≡ Some commands.Replay → status ≡ statuses.Source → IsBrokenOff left rest world before after)
  -- the world is a run, of which all claims hold that are made of it
  pub claims : IfSome world WorldClaims
