use Rattle.std.proofs.Common.{sym, ◌∙◌, arith, rules}
use Rattle.std.proofs.lemmas.Bool.{eqb-false}
use Rattle.sp_text.proofs.SpelledLemmas.{all_written, piece_written}
use Rattle.sp_text.proofs.hex_word.push_hex.Goals as goal

pub pieces-preserved : goal.pieces-preserved
pieces-preserved c =
    let steps = c.in-Some.ensures.steps in (
      search rules,
      tt,
      steps.0 ∙ c.pieces.invariant.2,
      piece_written _ _ _ _ _ _ steps.1.0 c.in_ok-push_piece.ensures c.pieces.invariant.3,
    )

pub returns : goal.returns
returns c =
    let full = eqb-false _ 0 (sym c.is_empty.ensures ∙ c.if-is_empty.false) in
    all_written _ _ _ _ c.in-None.ensures.steps.1.0 (omega (arith, full)) c.pieces.invariant.3
