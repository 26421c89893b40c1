use Rattle.std.proofs.Common.{ap, arith}
use Rattle.sp_rules.proofs.Standing.{standing_in}
use Rattle.sp_rel.proofs.flows.Flows.numbers.Goals as goal

pub returns-in-Some-clause-sound : goal.returns-in-Some-clause-sound
returns-in-Some-clause-sound c =
    let there = standing_in c.args.self.now.me c.args.self.now.bound c.args.self.now.flows c.args.place.flow c.recall.ensures in
    omega (
      arith,
      there.sound,
      c.numbers.ensures.base,
      c.numbers.ensures.have,
      ap (λ g. g.at.base) c.in-Some.ensures.there,
      ap
          (λ g. g.at.have) c.in-Some.ensures.there,
    )

pub returns-in-Some-clause-small : goal.returns-in-Some-clause-small
returns-in-Some-clause-small c =
    let there = standing_in c.args.self.now.me c.args.self.now.bound c.args.self.now.flows c.args.place.flow c.recall.ensures in
    omega (arith, there.numbers, c.numbers.ensures.have, ap (λ g. g.at.have) c.in-Some.ensures.there)
