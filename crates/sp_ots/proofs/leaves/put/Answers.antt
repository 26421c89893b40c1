use Rattle.std.proofs.Common.{◌≡◌, ◌+◌, ◌++◌, ℕ, List, [], take, get_or, ap, ◌∙◌, arith}
use Rattle.std.proofs.lemmas.List.{length-set}
use Rattle.sp_ots.proofs.EachLeaf.{each_more, rest_same}
use Rattle.sp_ots.proofs.leaves.put.Goals as goal

pub lanes-preserved : goal.lanes-preserved
lanes-preserved c =
    let k = c.lanes.k in
    let message = c.put_piece.new.message in
    let was = c.args.messages.now in
    let pieces = c.args.pieces.now in
    record {
      long = length-set c.lanes.messages k message ∙ c.lanes.invariant.long;
      laid = each_more (λ m x. take (c.args.place + 32) x ≡ take c.args.place (get_or was m []) ++ get_or pieces m []) c.lanes.messages k message
          (omega (arith, c.lanes.invariant.long)) c.lanes.invariant.laid
          (c.put_piece.ensures ∙ ap (λ (xs : List ℕ). take c.args.place xs ++ get_or pieces k []) (c.lanes.invariant.rest k (omega arith)));
      rest = rest_same was c.lanes.messages k message c.lanes.invariant.rest;
    }
