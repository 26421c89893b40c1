use Rattle.std.proofs.Common.{◌∙◌}
use Rattle.sp_ots.proofs.SignedEnds.{key_from_signature}
use Rattle.sp_ots.proofs.check.candidate_key.Goals as goal

pub returns : goal.returns
returns c =
    key_from_signature c.args.param c.args.id.now c.args.q c.args.msg.now c.args.sig.now c.chain_count-count.result c.last_step-to.result
    c.message_hash.result c.digits-from.result c.copy_from_slice.new.self c.run_chains.new.elements c.key_of_ends.result
    c.chain_count-count.ensures c.last_step-to.ensures c.requires.whole c.message_hash.ensures c.digits-from.ensures
    (c.copy_from_slice.ensures.after ∙ c.as_chunks.ensures.front) c.run_chains.ensures c.key_of_ends.ensures
