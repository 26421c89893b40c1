use Rattle.std.proofs.Common.{refl, sym, ◌∙◌}
use Rattle.std.proofs.lemmas.Bool.{eqb-true}
use Rattle.sp_words.specs.Views.{texts_in}
use Rattle.sp_words.proofs.PathsLemmas.{not_apart}
use Rattle.sp_words.proofs.values.paths.Goals as goal

pub returns-then-eq : goal.returns-then-eq
returns-then-eq c =
    not_apart (texts_in c.args.given.now) c.as_bytes.result.now c.as_bytes-2.result.now c.in_ok-from-2.from c.in_ok-to-2.to
    (rw (c.in_ok-from.was, c.as_bytes.ensures.value) refl) (rw (c.in_ok-to.was, c.as_bytes-2.ensures.value) refl) c.in_ok-from-2.ensures c.in_ok-to-2.ensures
    (eqb-true _ _ (sym c.eq.ensures ∙ c.if-eq.true))
