use Rattle.std.proofs.Common.{◌/◌, refl, arith}
use Rattle.sp_ots.specs.declared.lanes.Lanes.{Lanes}
use Rattle.sp_ots.proofs.UnderWay.{passed, turned}
use Rattle.sp_ots.proofs.lanes.Lanes.seek.Goals as goal

-- the next chain in turn is found
pub returns-then-self-to-clause-under_way : goal.returns-then-self-to-clause-under_way
returns-then-self-to-clause-under_way c = λ front old now long u.
    let chain = c.next_chain-self.ensures in
    let after : Lanes = record c.turns.self { next = c.next_chain-self.result } in
    passed front c.args.from.now c.args.to.now old now c.turns.self after (c.turns.invariant.under_way front old now long u)
    (omega (arith, chain.low c.if-self-to.true)) chain.others refl refl refl refl

pub turns-preserved : goal.turns-preserved
turns-preserved c =
    let chain = c.next_chain-self.ensures in
    let most = c.turns.self.most in
    let after : Lanes = record c.turns.self { most = most / 3; next = 0 } in
    record {
      under_way = λ front old now long u.
          turned front c.args.from.now c.args.to.now old now c.turns.self after (c.turns.invariant.under_way front old now long u)
          (λ i later within. chain.others i later (omega (arith, c.if-self-to.false, long))) refl refl refl refl refl;
      none = λ none. omega (arith, c.turns.invariant.none none);
      chains = c.turns.invariant.chains;
      left = c.turns.invariant.left;
      messages = c.turns.invariant.messages;
      work = omega (arith, c.turns.invariant.work, c.requires.numbers, c.turns-test.true);
    }
