use Rattle.std.proofs.Common.{sym, ◌∙◌}
use Rattle.sp_text.proofs.HexWordLemmas.{capital_encodes_none, sized_gives_bytes, sized_is_exact}
use Rattle.sp_text.proofs.hex_word.hex_array.Goals as goal

pub returns-then-has_capital-clause-none : goal.returns-then-has_capital-clause-none
returns-then-has_capital-clause-none c = λ bytes are long. capital_encodes_none _ bytes (sym c.has_capital.ensures ∙ c.if-has_capital.true)

pub returns-clause-found : goal.returns-clause-found
returns-clause-found c =
    rw c.ok.ensures.value (sized_is_exact _ 32 _ (sym c.has_capital.ensures ∙ c.if-has_capital.false) c.from_hex.ensures).0

pub returns-clause-none : goal.returns-clause-none
returns-clause-none c =
    rw c.ok.ensures.value (sized_is_exact _ 32 _ (sym c.has_capital.ensures ∙ c.if-has_capital.false) c.from_hex.ensures).1

pub returns-clause-bytes : goal.returns-clause-bytes
returns-clause-bytes c = rw c.ok.ensures.value (sized_gives_bytes c.args.word.now 32 _ c.from_hex.ensures)
