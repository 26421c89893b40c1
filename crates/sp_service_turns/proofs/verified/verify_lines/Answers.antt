use Rattle.std.proofs.Common.{◌+◌, List, ℕ, arith, take, refl, sym, subst}
use Rattle.sp_recording.specs.declared.line.Line.{Line}
use Rattle.sp_service_turns.specs.Compared.{counted}
use Rattle.sp_service_turns.specs.Verified.{Agrees, Starts, asked}
use Rattle.sp_service_turns.proofs.VerifiedLemmas.{agrees_on, take_more}
use Rattle.sp_service_turns.proofs.verified.verify_lines.Goals as goal

pub lines-init : goal.lines-init
lines-init g c = record { agrees = Starts; few = omega arith }

pub lines-preserved : goal.lines-preserved
lines-preserved g c =
    let line = c.line_at.result.now in
    let steps = g.N.Core.steps in
    let more = agrees_on steps c.args.node.now c.lines.node c.judge.new.node (take c.lines.place c.args.lines.now) line c.lines.count (asked line)
    c.in-Ok.judged c.lines.invariant.agrees refl
    c.in-Ok.ensures c.in_default-judged.not-Other in
    let upto = subst (λ (ls : List Line). Agrees steps c.args.node.now ls c.judge.new.node (c.lines.count + counted c.in-Ok.judged))
    (sym (take_more c.args.lines.now c.lines.place line c.line_at.ensures)) more in
    record {
      agrees = subst (λ (n : ℕ). Agrees steps c.args.node.now (take (c.lines.place + 1) c.args.lines.now) c.judge.new.node (c.lines.count + n))
          (sym c.counted-count.ensures.count) upto;
      few = omega (arith, c.counted-count.ensures.one, c.lines.invariant.few);
    }
