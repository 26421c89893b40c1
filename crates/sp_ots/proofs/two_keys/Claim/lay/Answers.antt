use Rattle.std.proofs.Common.{◌≡◌, ℕ, ◌+◌, ◌-◌, ◌<◌, List, [], length, take, drop, get_or, ap, ◌∙◌, arith}
use Rattle.std.proofs.lemmas.List.{get_or-take, take_rest}
use Rattle.sp_ots.specs.Parameters.{chain_count}
use Rattle.sp_ots.specs.Digits.{digit}
use Rattle.sp_ots.proofs.Ends.{element_at, length-chunks, same_for_all}
use Rattle.sp_ots.proofs.Parameters.{few_chains}
use Rattle.sp_ots.proofs.Places.{put_within}
use Rattle.sp_ots.proofs.SignedEnds.{chunks_are, digit_at}
use Rattle.sp_ots.proofs.two_keys.Claim.lay.Goals as goal

pub returns-clause-from : goal.returns-clause-from
returns-clause-from c = λ i within.
    let claim = c.args.self.now in
    let place = c.args.place in
    let k = place + c.chain_count-count.result - place in
    let count = chain_count claim.param in
    let made = c.digits.ensures in
    let long : length c.copy_from_slice.new.self ≡ k = omega arith in
    put_within place k c.args.from.now c.copy_from_slice.new.self i 0 (omega arith) (omega (arith, c.chain_count-count.ensures))
    ∙ ap (λ (xs : List ℕ). get_or xs i 0) c.copy_from_slice.ensures.after
    ∙ get_or-take c.chain_count-count.result c.digits.result i 0 (omega (arith, c.chain_count-count.ensures))
    ∙ digit_at claim.param c.message_hash-hash.result c.digits.result i made within
    ∙ ap (λ (hash : List ℕ). digit claim.param hash i) c.message_hash-hash.ensures

pub returns-clause-to : goal.returns-clause-to
returns-clause-to c = λ i within.
    let place = c.args.place in
    let k = place + c.chain_count-count.result - place in
    put_within place k c.args.to.now c.copy_from_slice-2.new.self i 0 (omega arith) (omega (arith, c.chain_count-count.ensures))
    ∙ ap (λ (xs : List ℕ). get_or xs i 0) c.copy_from_slice-2.ensures.after
    ∙ same_for_all c.chain_count-count.result 265 c.last_step.result i (omega (arith, few_chains c.args.self.now.param, c.chain_count-count.ensures))
    (omega (arith, c.chain_count-count.ensures))
    ∙ c.last_step.ensures

pub returns-clause-elements : goal.returns-clause-elements
returns-clause-elements c = λ i within.
    let place = c.args.place in
    let sig = c.args.self.now.sig.now in
    let n = c.chain_count-count.result in
    let lt : i < n = omega (arith, c.chain_count-count.ensures) in
    let laid = c.copy_from_slice-3.ensures.after ∙ c.as_chunks.ensures.front
    ∙ chunks_are c.args.self.now.param sig (take (length sig - 36) (drop 36 sig)) n c.chain_count-count.ensures c.requires.whole (take_rest sig 36) in
    put_within place (place + n - place) c.args.elements.now c.copy_from_slice-3.new.self i [] (omega arith)
    (omega (arith, ap length laid, length-chunks n (drop 36 sig)))
    ∙ ap (λ (xs : List (List ℕ)). get_or xs i []) laid ∙ element_at sig n i lt
