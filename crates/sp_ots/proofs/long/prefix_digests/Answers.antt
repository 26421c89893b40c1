use Rattle.std.proofs.Common.{◌≡◌, ℕ, ◌+◌, ◌/◌, ◌<◌, List, length, take, ap, ◌∙◌, arith}
use Rattle.sha2.specs.Sha256.{hash_after, initial_hash_256, padded_message, padding}
use Rattle.sp_ots.specs.Blocks.{block_at}
use Rattle.sp_ots.proofs.Padding.{length_of_padding}
use Rattle.sp_ots.proofs.HashValues.{digests_of_all, hash_more}
use Rattle.sp_ots.proofs.long.prefix_digests.Goals as goal

pub next-init : goal.next-init
unfolding hash_after
next-init g c = record { hash = c.initial-hash.ensures c.args.messages.now c.told-messages; long = λ l. omega (arith, l) }

pub next-preserved : goal.next-preserved
next-preserved g c =
    let ms = c.args.messages.now in
    let n = c.next.n in
    let before : List ℕ → List ℕ = λ m. hash_after initial_hash_256 (padded_message (take c.args.len m)) n in
    let block : List ℕ → List ℕ = λ m. block_at (take c.args.len m) n in
    record {
      hash = c.take_in.ensures ms before block c.next.invariant.hash c.blocks_at.ensures.blocks ∙ hash_more ms c.args.len n;
      long = λ _. c.blocks_at.ensures.long;
    }

pub returns : goal.returns
returns g c =
    let ms = c.args.messages.now in
    let len = c.args.len in
    let behind = c.padding_len.result in
    let long = c.padding_len.ensures in
    let size : length (take behind c.padding-padding.result) ≡ length (padding len) =
    ap (λ (n : ℕ). length (take n c.padding-padding.result)) long ∙ ap length c.padding-padding.ensures in
    let count : c.next.n ≡ (len + length (padding len)) / 64 = omega (arith, c.next.auto.n-end, c.next-test.false) ∙ ap (λ (n : ℕ). (len + n) / 64) size in
    let some : 0 < c.next.n = omega (arith, count, length_of_padding len) in
    c.rows.ensures ms _ c.told-messages c.next.invariant.hash ∙ digests_of_all ms len c.next.n (c.next.invariant.long some) count
