use Rattle.std.proofs.Common.{sym}
use Rattle.std.proofs.lemmas.List.{map-id}
use Rattle.sha2.specs.Sha256.{initial_hash_256}
use Rattle.sp_ots.proofs.block.hash_blocks.Goals as goal

pub returns : goal.returns
returns c =
    let bs = c.args.blocks.now in
    let sums = c.take_in.ensures bs (λ _. initial_hash_256) (λ b. b) (c.initial-hash.ensures bs c.told-blocks) (sym (map-id bs)) in
    c.rows.ensures bs _ c.told-blocks sums
