use Rattle.std.proofs.Common.{◌∙◌, ap, arith}
use Rattle.sha2.specs.Sha256.{sha256}
use Rattle.sp_ots.specs.Keys.{private_start}
use Rattle.std.proofs.lemmas.List.{length-set}
use Rattle.sp_ots.proofs.Places.{filled_more}
use Rattle.sp_ots.proofs.keys.private_starts_one_by_one.Goals as goal

pub chains-preserved : goal.chains-preserved
unfolding private_start
chains-preserved c = record {
  long = omega (arith, length-set c.chains.starts c.chains.i c.digest.result);
  made = filled_more (private_start c.args.id.now c.args.q c.args.seed.now) c.chains.starts c.chains.i c.digest.result (omega arith) c.chains.invariant.made
      (c.digest.ensures ∙ ap sha256 c.element_message.ensures);
}
