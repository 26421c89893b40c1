use Rattle.std.proofs.Common.{◌≢◌, refl, sym, ◌∙◌}
use Rattle.std.specs.Prelude.{codes}
use Rattle.std.proofs.lemmas.Bool.{both_ways, eqb-false, eqb-true}
use Rattle.sp_text.proofs.HexWordLemmas.{empty_spells_none, odd_spells_none, other_spells_none, pairs_spelled}
use Rattle.sp_text.proofs.hex_word.hex_word_bytes.Goals.{then-is_empty-via-then-is_empty, then-is_empty-via-else-is_empty+then-word-ne0}
use Rattle.sp_text.proofs.hex_word.hex_word_bytes.Goals.{then-is_empty-via-else-is_empty+else-word-ne0+then-not-are_digits}
use Rattle.sp_text.proofs.hex_word.hex_word_bytes.Goals as goal

pub returns-then-is_empty-clause-none : goal.returns-then-is_empty-clause-none
returns-then-is_empty-clause-none c =
    let no_dash : c.args.word.now ≢ codes "-" = λ same. both_ways _ c.if-eq.false (c.eq.ensures ∙ rw (c.as_slice.ensures, same) refl) in
    elim c.then-is_empty.branch [
      | then-is_empty-via-then-is_empty w ↦ empty_spells_none _ (eqb-true _ _ (sym c.is_empty.ensures ∙ w.if-is_empty.true))
      | then-is_empty-via-else-is_empty+then-word-ne0 w ↦ odd_spells_none _ w.if-word-ne0.true no_dash
      | then-is_empty-via-else-is_empty+else-word-ne0+then-not-are_digits w ↦ other_spells_none _ (sym w.are_digits.ensures ∙ w.if-not-are_digits.true) no_dash
    ]

pub returns-clause-found : goal.returns-clause-found
returns-clause-found c =
    let full = eqb-false _ 0 (sym c.is_empty.ensures ∙ c.if-is_empty.false) in
    rw c.from_vec-2.ensures (pairs_spelled _ _ full c.in_ok-of_pairs.ensures.spelled)
