use Rattle.std.proofs.Common.{ℕ, ◌<◌, ◌∙◌, ap, get_or, arith}
use Rattle.sp_audit.proofs.MadeLemmas.{all_counted, back_is, back_of, counted_on, forth_is, forth_of, sum_to}
use Rattle.sp_audit.proofs.made.Made.count.Goals as goal

pub hops-preserved : goal.hops-preserved
hops-preserved c =
    let path = c.args.path.now in
    let es = c.args.events.now in
    let place = c.hops.place in
    let below : place < 256 = omega (arith, c.hops-test.true, c.requires) in
    record {
      forth = λ d.
          counted_on c.args.self.now.forth c.hops.self.forth (forth_of path es d) place c.saturating_add.result below (c.hops.invariant.forth d)
          (c.saturating_add.ensures
          ∙ ap (λ (n : ℕ). sum_to (get_or c.hops.self.forth place 0) n) (c.polls.ensures ∙ forth_is path es d (record { 0 = 0 }) place c.hops-test.true));
      back = λ d.
          counted_on c.args.self.now.back c.hops.self.back (back_of path es d) place c.saturating_add-in-hops.result below (c.hops.invariant.back d)
          (c.saturating_add-in-hops.ensures
          ∙ ap (λ (n : ℕ). sum_to (get_or c.hops.self.back place 0) n)
          (c.polls-in-hops.ensures ∙ back_is path es d (record { 0 = 0 }) place c.hops-test.true));
    }

pub returns : goal.returns
returns c = λ es few made.
    all_counted c.args.path.now es c.args.events.now c.args.self.now.forth c.args.self.now.back c.hops.self.forth c.hops.self.back few made c.hops.place
    c.hops-test.false c.hops.invariant.forth c.hops.invariant.back
