use Rattle.std.proofs.Common.{◌≡◌, ◌&&◌, drop}
use Rattle.std.specs.List.{list_all}
use Rattle.sp_text.specs.Spelling.{is_digit}
use Rattle.sp_text.proofs.hex_word.are_digits.Given as goal

abbrev pub invariant-bytes : goal.invariant-bytes
invariant-bytes l = (l.all && list_all is_digit (drop l.byte-index l.word)) ≡ list_all is_digit l.word
