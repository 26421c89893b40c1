use Rattle.std.proofs.Common.{◌≡◌, [], length, take, drop, map, slice_index, slice_index_or}
use Rattle.std.specs.List.{range_with_len}
use Rattle.sp_ots.specs.Chains.{chain_end}
use Rattle.sp_ots.proofs.chains.run_chains_one_by_one.Given as goal

abbrev pub invariant-chains : goal.invariant-chains
invariant-chains l = record {
  long : length l.elements ≡ length l.fn.elements;
  run : take l.i l.elements
      ≡ map (λ i. chain_end l.id l.q i (slice_index l.from i) (slice_index l.to i) (slice_index_or l.fn.elements i [])) (range_with_len 0 l.i);
  rest : drop l.i l.elements ≡ drop l.i l.fn.elements;
}
