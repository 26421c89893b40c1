use Rattle.std.proofs.Common.{ℕ, List, [], length, ◌∙◌, ap, arith, slice_index, slice_index_or}
use Rattle.std.proofs.lemmas.List.{length-set}
use Rattle.sp_ots.specs.Chains.{chain_end, chain_ends}
use Rattle.sp_ots.proofs.Places.{filled_more, filled_all, rest_more, rest_first}
use Rattle.sp_ots.proofs.chains.run_chains_one_by_one.Goals as goal

pub chains-preserved : goal.chains-preserved
chains-preserved c =
    let f : ℕ → List ℕ =
    λ i. chain_end c.args.id.now c.args.q i (slice_index c.args.from.now i) (slice_index c.args.to.now i) (slice_index_or c.args.elements.now i []) in
    let i = c.chains.i in
    let was = c.args.elements.now in
    let now = c.chains.elements in
    record {
      long = omega (arith, length-set now i c.run_chain.result);
      run = filled_more f now i c.run_chain.result (omega arith) c.chains.invariant.run
          (c.run_chain.ensures ∙ ap (λ (x : List ℕ). chain_end c.args.id.now c.args.q i (slice_index c.args.from.now i) (slice_index c.args.to.now i) x)
          (rest_first was now i [] c.chains.invariant.rest));
      rest = rest_more was now i c.run_chain.result c.chains.invariant.rest;
    }

pub returns : goal.returns
unfolding chain_ends
returns c =
    let f : ℕ → List ℕ =
    λ i. chain_end c.args.id.now c.args.q i (slice_index c.args.from.now i) (slice_index c.args.to.now i) (slice_index_or c.args.elements.now i []) in
    filled_all f c.chains.elements c.chains.i (length c.args.elements.now) (omega arith) (omega arith) (omega arith) c.chains.invariant.run
