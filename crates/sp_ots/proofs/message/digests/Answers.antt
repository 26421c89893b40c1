use Rattle.std.proofs.Common.{◌++◌, [], ◌∷◌, map, take, sym, ap, ◌∙◌, arith}
use Rattle.std.proofs.lemmas.List.{length-set, map_more, map-append, take_all, take_more_set}
use Rattle.sha2.specs.Sha256.{sha256}
use Rattle.sp_ots.specs.Blocks.{block_digest}
use Rattle.sp_ots.proofs.message.digests.Goals as goal

pub fill-preserved : goal.fill-preserved
fill-preserved c =
    let k = c.fill.k in
    let filled = c.fill.padded_messages in (
      length-set filled k c.padded.result ∙ c.fill.invariant.0,
      ap (map block_digest) (take_more_set filled k c.padded.result (omega (arith, c.fill.invariant.0)))
          ∙ map-append block_digest (take k filled) (c.padded.result ∷ [])
          ∙ (λ i. c.fill.invariant.1 i ++ c.padded.ensures i ∷ [])
          ∙ sym (map_more sha256 c.args.messages.now k [] (omega arith)),
    )

pub returns : goal.returns
returns c =
    let all = take_all c.fill.k c.fill.padded_messages (omega (arith, c.fill.invariant.0)) in
    let read = take_all c.fill.k c.args.messages.now (omega arith) in
    c.hash_blocks.ensures ∙ ap (map block_digest) (sym all) ∙ c.fill.invariant.1 ∙ ap (map sha256) read
