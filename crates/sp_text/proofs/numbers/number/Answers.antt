use Rattle.std.proofs.lemmas.Bool.{iff_false}
use Rattle.sp_text.proofs.DecimalLemmas.{bytes_spell_none, padded_spells_none, read_is_exact}
use Rattle.sp_text.proofs.numbers.number.Goals as goal

pub returns-then-is_padded-clause-none : goal.returns-then-is_padded-clause-none
returns-then-is_padded-clause-none c = padded_spells_none _ (c.is_padded.ensures.0 c.if-is_padded.true)

pub returns-in_default-clause-none : goal.returns-in_default-clause-none
returns-in_default-clause-none c = bytes_spell_none _ c.in_default.ensures.cases.0

pub returns-clause-found : goal.returns-clause-found
returns-clause-found c =
    let plain = iff_false c.is_padded.ensures c.if-is_padded.false in
    rw c.ok.ensures.value (read_is_exact _ _ plain (rw c.in-Ok.ensures.cases.0 at c.parse.ensures.value.0)).0

pub returns-clause-none : goal.returns-clause-none
returns-clause-none c =
    let plain = iff_false c.is_padded.ensures c.if-is_padded.false in
    rw c.ok.ensures.value (read_is_exact _ _ plain (rw c.in-Ok.ensures.cases.0 at c.parse.ensures.value.0)).2

pub returns-clause-small : goal.returns-clause-small
returns-clause-small c =
    let plain = iff_false c.is_padded.ensures c.if-is_padded.false in
    rw c.ok.ensures.value (read_is_exact _ _ plain (rw c.in-Ok.ensures.cases.0 at c.parse.ensures.value.0)).1
