use Rattle.std.proofs.Common.{length}
use Rattle.sp_ots.proofs.KeyPairs.{elements_from_starts}
use Rattle.sp_ots.proofs.signing.signed_elements.Goals as goal

pub returns : goal.returns
returns c =
    elements_from_starts c.args.param c.args.id.now c.args.q c.args.seed.now c.args.hash.now c.chain_count-count.result (length c.args.elements.now)
    c.digits-to.result c.private_starts.new.starts c.run_chains.new.elements
    c.chain_count-count.ensures c.requires c.private_starts.ensures c.digits-to.ensures c.run_chains.ensures
