use Rattle.std.proofs.Common.{length}
use Rattle.sp_ots.proofs.KeyPairs.{key_from_starts}
use Rattle.sp_ots.proofs.keys.public_key.Goals as goal

pub returns : goal.returns
returns c =
    key_from_starts c.args.param c.args.id.now c.args.q c.args.seed.now c.chain_count-count.result c.last_step-to.result (length c.args.elements.now)
    c.private_starts.new.starts c.run_chains.new.elements c.key_of_ends.result
    c.chain_count-count.ensures c.last_step-to.ensures c.requires c.private_starts.ensures c.run_chains.ensures c.key_of_ends.ensures
