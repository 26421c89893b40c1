use Rattle.std.proofs.Common.{◌≡◌, ◌+◌, ◌≤◌, drop, map, length, take}
use Rattle.std.specs.Prelude.{vec_len, vec_capacity}
use Rattle.sp_node_words.specs.Words.{item_word}
use Rattle.sp_node_words.proofs.words.item_words.Given as goal

abbrev pub invariant-items : goal.invariant-items
invariant-items l = record {
  told : l.words.items ≡ map item_word (take l.item-index l.items);
  room : vec_len l.words + length (drop l.item-index l.items) ≤ vec_capacity l.words;
}
