use Rattle.std.proofs.Common.{◌≡◌, ◌+◌, ◌*◌, ℕ, [], ◌++◌, get_or, take, sym, ap, ◌∙◌, arith}
use Rattle.std.proofs.lemmas.List.{append-nil}
use Rattle.sp_ots.specs.Leaves.{front_of}
use Rattle.sp_ots.proofs.EachLeaf.{ends_more, keys_of_messages}
use Rattle.sp_ots.proofs.leaves.publics.Goals as goal

pub chains-init : goal.chains-init
chains-init c = record {
  long = omega arith;
  laid = λ k lt. c.fronts-messages.ensures k lt ∙ sym (append-nil (front_of c.args.id.now (c.args.q + k) 0x8080));
}

pub chains-preserved : goal.chains-preserved
chains-preserved c =
    let i = c.chains.i in
    let place : 22 + 32 * (i + 1) ≡ 22 + 32 * i + 32 = omega arith in
    record {
      long = c.put.array_long;
      laid = λ k lt.
          ap (λ (n : ℕ). take n (get_or c.put.new.messages k [])) place ∙ c.put.ensures k lt
          ∙ (λ x. c.chains.invariant.laid k lt x ++ c.ends-ends.ensures k lt x)
          ∙ ends_more c.args.id.now (c.args.q + k) c.last_step-last.result c.args.seed.now i;
    }

pub returns : goal.returns
returns c =
    let count : c.chains.i ≡ c.chain_count.result = omega (arith, c.chain_count.ensures, c.chain_count-i-end.ensures) in
    let len : 22 + 32 * c.chain_count.result ≡ 22 + 32 * c.chains.i = omega arith in
    keys_of_messages c.args.param c.args.id.now c.args.q c.args.seed.now c.chains.i c.last_step-last.result (22 + 32 * c.chain_count.result)
    c.chains.messages c.prefix_digests.result (count ∙ c.chain_count.ensures) c.last_step-last.ensures c.chains.invariant.long len c.prefix_digests.ensures
    c.chains.invariant.laid
