use Rattle.sp_lines.proofs.Words.{found_bytes}
use Rattle.sp_lines.proofs.places.bytes_of.Goals as goal

pub returns : goal.returns
returns c = found_bytes c.args.word.now _ c.hex_word_bytes.ensures.found c.hex_word_bytes.ensures.bytes c.hex_word_bytes.ensures.none
