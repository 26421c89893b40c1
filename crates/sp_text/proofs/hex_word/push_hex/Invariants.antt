use Rattle.std.proofs.Common.{◌≡◌, ◌++◌}
use Rattle.std.specs.Slice.Iter.{chunks_rest, chunks_size}
use Rattle.std.specs.String.{string_bytes}
use Rattle.hex.specs.Hex.{encode_lower}
use Rattle.sp_text.specs.declared.hex_word.TheConstants.{PIECE_BYTES}
use Rattle.sp_text.proofs.hex_word.push_hex.Given as goal

abbrev pub invariant-pieces : goal.invariant-pieces
invariant-pieces l =
    (goal.iterator-pieces).can_next l.piece-iterator
    × (goal.iterator-pieces).is_finite l.piece-iterator
    × (chunks_size l.piece-iterator ≡ PIECE_BYTES)
    × (string_bytes l.out ++ encode_lower (chunks_rest l.piece-iterator) ≡ string_bytes l.fn.out ++ encode_lower l.bytes)
