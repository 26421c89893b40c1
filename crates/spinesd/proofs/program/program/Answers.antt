use Rattle.std.proofs.Common.{ap, rules, sym, ◌∙◌}
use Rattle.spinesd.proofs.Lifts.{broken, ended, quiet, unread}
use Rattle.spinesd.proofs.program.program.Goals as goal

pub returns-clause-ended : goal.returns-clause-ended
returns-clause-ended g c =
    rw c.in-Ok.is (record {
      status = c.run-outcome.result.status;
      code_is = search rules;
      world = c.run-outcome.result.world;
      said = ended _ _ _ _ _ _ _ _ _ _ _ _ _ _ _ (ap g.R.Read.remaining (ap (λ s. s.reader) c.new-source.ensures))
          (ap g.W.Write.contents (ap (λ s. s.writer) c.new-sink.ensures))
          (sym (ap g.W.Write.contents c.into_writer.ensures)) (rw c.as_slice.ensures.value at c.run-outcome.ensures.said);
      broken = broken _ _ _ _ _ _ _ _ _ _ _ (ap g.R.Read.remaining (ap (λ s. s.reader) c.new-source.ensures))
          (sym (ap g.R.Read.remaining c.into_reader.ensures))
          (ap g.W.Write.contents (ap (λ s. s.writer) c.new-sink.ensures)) (sym (ap g.W.Write.contents c.into_writer.ensures))
          (rw c.as_slice.ensures.value at c.run-outcome.ensures.broken);
      claims = search rules;
    })

pub returns-clause-unread : goal.returns-clause-unread
returns-clause-unread g c =
    rw c.in-Ok.is
    (unread _ _ _ _ _ (rw c.as_slice.ensures.value at c.run-outcome.ensures.unread)
    (λ same. c.into_reader.ensures ∙ ap (λ s. s.reader) same ∙ ap (λ s. s.reader) c.new-source.ensures))

pub returns-clause-quiet : goal.returns-clause-quiet
returns-clause-quiet g c =
    rw c.in-Ok.is
    (quiet _ _ _ _ _ c.run-outcome.result.status _ (search rules) (rw c.as_slice.ensures.value at c.run-outcome.ensures.quiet)
    (λ same. c.into_writer.ensures ∙ ap (λ s. s.writer) same ∙ ap (λ s. s.writer) c.new-sink.ensures))
