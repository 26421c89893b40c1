use Rattle.std.proofs.Common.{arith}
use Rattle.sp_audit.proofs.PathLemmas.{correct_below, ends_of, no_longer}
use Rattle.sp_audit.proofs.path.is_path.Goals as goal

pub returns-clause-holds : goal.returns-clause-holds
returns-clause-holds c = (
  λ is.
      (let ends = ends_of c.args.path.now (omega (arith, c.if-path-lt2.false)) in (
        ends.0,
        ends.1,
        record {
          walks = record { ends = (ends.2, ends.3); joined = c.are_joined.ensures.0 c.if-not-are_joined.false; once = c.are_apart.ensures.0 is };
          correct = c.are_correct.ensures.0 c.if-not-are_correct.false;
        },
      )),
  λ p. c.are_apart.ensures.1 p.2.walks.once,
)

pub returns-clause-short : goal.returns-clause-short
returns-clause-short c = λ is.
    no_longer c.args.path.now 256
    (correct_below c.args.scenario.now c.args.path.now c.recall.ensures (c.are_correct.ensures.0 c.if-not-are_correct.false))
    (c.are_apart.ensures.0 is)
