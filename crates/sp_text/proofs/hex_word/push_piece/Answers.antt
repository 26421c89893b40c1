use Rattle.std.proofs.lemmas.Str.{IsUtf8-from_ascii}
use Rattle.sp_text.proofs.SpelledLemmas.{spelled_plain}
use Rattle.sp_text.proofs.hex_word.push_piece.Goals as goal

pub unreachable-requires : goal.unreachable-requires
unreachable-requires c = c.in_default.ensures.cases.0 (rw c.write_digits.ensures (IsUtf8-from_ascii _ (spelled_plain c.args.piece.now)))
