use Rattle.std.proofs.Common.{◌≡◌, ◌++◌, Ok, drop, map}
use Rattle.sp_base.specs.Refusals.{◌>>=◌}
use Rattle.sp_journal_reading.specs.ReplyTable.{items_at}
use Rattle.sp_journal_reading.proofs.item_words.read_items.Given as goal

-- what was read, and the words still to read
abbrev pub invariant-words : goal.invariant-words
invariant-words l = items_at (map (λ w. w.now) l.words) ≡ (items_at (map (λ w. w.now) (drop l.word-index l.words)) >>= λ more. Ok (l.items.items ++ more))
