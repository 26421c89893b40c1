use Rattle.std.proofs.Common.{◌≡◌, ◌∷◌, ◌++◌, take}
use Rattle.std.specs.List.{flat_map}
use Rattle.std.specs.String.{string_bytes}
use Rattle.sp_journal.specs.Words.{item_word}
use Rattle.sp_journal.proofs.replies.push_items.Given as goal

abbrev pub invariant-items : goal.invariant-items
invariant-items l = string_bytes l.out ≡ string_bytes l.fn.out ++ flat_map (λ item. 32 ∷ item_word item) (take l.item-index l.items)
