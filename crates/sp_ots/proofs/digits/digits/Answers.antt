use Rattle.std.proofs.Common.{ℕ, List, ◌∙◌, ap, arith}
use Rattle.std.proofs.lemmas.List.{length-set}
use Rattle.sp_ots.specs.Parameters.{width}
use Rattle.sp_ots.specs.Strings.{coef}
use Rattle.sp_ots.specs.Digits.{digit}
use Rattle.sp_ots.proofs.Parameters.{digit_within, few_chains}
use Rattle.sp_ots.proofs.Places.{filled_more}
use Rattle.sp_ots.proofs.digits.digits.Goals as goal

pub coef-requires-clause-within : goal.coef-requires-clause-within
coef-requires-clause-within c = omega (arith, digit_within c.args.param c.chains.i (omega arith))

pub chains-preserved : goal.chains-preserved
unfolding digit
chains-preserved c = record {
  long = omega (arith, length-set c.chains.digits c.chains.i c.coef.result);
  made = filled_more (digit c.args.param c.args.hash.now) c.chains.digits c.chains.i c.coef.result (omega (arith, few_chains c.args.param))
      c.chains.invariant.made
      (c.coef.ensures.value ∙ ap (λ (string : List ℕ). coef string c.chains.i (width c.args.param)) c.with_checksum-string.ensures);
}
