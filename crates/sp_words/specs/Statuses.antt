-- The number with which the program ends, by its status.
use Rattle.std.specs.Prelude.{ℕ}
use Rattle.sp_words.specs.declared.status.Status.{Status}
use Rattle.sp_words.specs.declared.status.Status.TheVariants as statuses

abbrev pub code_of : Status → ℕ
code_of statuses.Done = 0
code_of statuses.Usage = 2
code_of statuses.Refused = 3
code_of statuses.Forged = 4
code_of statuses.Source = 5
code_of statuses.Sink = 6
code_of statuses.Wire = 7
code_of statuses.Keeper = 8
code_of statuses.Memory = 9
code_of statuses.Mismatch = 10
code_of statuses.Unanswered = 11
code_of statuses.Fewer = 12
code_of statuses.KeyState = 13
