use Rattle.std.proofs.Common.{◌≡◌, ◌*◌, ◌/◌, length, take}
use Rattle.hex.specs.Hex.{encode_lower}
use Rattle.sp_base.specs.Spelling.{AreBytes}
use Rattle.sp_text.proofs.hex_word.of_pairs.Given as goal

abbrev pub invariant-pairs : goal.invariant-pairs
invariant-pairs l = record {
  spelled : encode_lower (take l.place l.bytes.items) ≡ take (2 * l.place) l.digits;
  count : length l.bytes.items ≡ length l.digits / 2;
  bytes : AreBytes l.bytes.items;
}
