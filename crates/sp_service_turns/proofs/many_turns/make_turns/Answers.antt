use Rattle.std.proofs.Common.{arith, ◌∙◌, refl}
use Rattle.sp_service_turns.proofs.EndingLemmas.{ended_on, ends_with}
use Rattle.sp_service_turns.proofs.KeyLemmas.{kept_none, kept_on, on_again, unchanged}
use Rattle.sp_service_turns.proofs.RunLemmas.{made_more, none_made}
use Rattle.sp_service_turns.proofs.many_turns.make_turns.Goals as goal

pub turns-init : goal.turns-init
turns-init g c = record {
  made = none_made g.N.Core.steps g.N.Core.indexes c.args.daemon.now _ c.requires.fresh.0 c.requires.fresh.1 c.requires.held;
  counted = c.requires.fresh.0;
  held = c.requires.held;
  later = omega arith;
  sunk = refl;
  on = unchanged _ _;
  kept = kept_none _ _ _;
  faultless = refl;
  opens = refl;
}

pub returns-in_err-turn-clause-ended : goal.returns-in_err-turn-clause-ended
returns-in_err-turn-clause-ended g c =
    ended_on c.from_residual.result c.in_err-turn.field-0.0 _ c.from_residual.ensures.1
    (ends_with g.N.Core.steps g.N.Core.indexes c.turns._made c.args.turns c.args.daemon.now c.turns.daemon _ _ c.turns.invariant.made _ c.in_err-turn.field-0.0
    (omega (arith, c.turns-test.true)) c.in_err-turn.ensures.ended)

pub returns-in_err-turn-clause-kept : goal.returns-in_err-turn-clause-kept
returns-in_err-turn-clause-kept g c = kept_on _ _ _ _ _ _ _ c.turns.invariant.on c.turns.invariant.kept c.in_err-turn.ensures.kept

pub turns-preserved : goal.turns-preserved
turns-preserved g c = record {
  made = made_more g.N.Core.steps g.N.Core.indexes c.turns._made c.args.daemon.now c.turns.daemon c.turn.new.self _ _ _ c.turns.invariant.made
      c.in_ok-turn.ensures.made c.in_ok-turn.ensures.held;
  counted = (let made = c.in_ok-turn.ensures.made in omega (arith, made.counted, c.turns.invariant.counted));
  held = c.in_ok-turn.ensures.held;
  later = omega (arith, c.turns.invariant.later, c.in_ok-turn.ensures.later);
  sunk = c.in_ok-turn.ensures.sunk (λ is. absurd (cc)) ∙ c.turns.invariant.sunk;
  on = on_again _ _ _ _ _ _ c.turns.invariant.on c.in_ok-turn.ensures.on;
  kept = kept_on _ _ _ _ _ _ _ c.turns.invariant.on c.turns.invariant.kept c.in_ok-turn.ensures.kept;
  faultless = c.in_ok-turn.ensures.faultless ∙ c.turns.invariant.faultless;
  opens = c.in_ok-turn.ensures.opens ∙ c.turns.invariant.opens;
}
