use Rattle.std.proofs.Common.{◌≡◌, ◌++◌, ℕ, List, [], take, get_or, ap, ◌∙◌, arith}
use Rattle.std.proofs.lemmas.List.{length-set}
use Rattle.sp_ots.specs.Strings.{u8str}
use Rattle.sp_ots.proofs.EachLeaf.{each_more, rest_same}
use Rattle.sp_ots.proofs.leaves.renew_all.Goals as goal

pub lanes-preserved : goal.lanes-preserved
lanes-preserved c =
    let k = c.lanes.k in
    let message = c.renew.new.message in
    let was = c.args.messages.now in
    let elements = c.args.elements.now in
    record {
      long = length-set c.lanes.messages k message ∙ c.lanes.invariant.long;
      laid = each_more (λ m x. x ≡ take 22 (get_or was m []) ++ u8str c.args.step ++ get_or elements m []) c.lanes.messages k message
          (omega (arith, c.lanes.invariant.long)) c.lanes.invariant.laid
          (c.renew.ensures ∙ ap (λ (xs : List ℕ). take 22 xs ++ u8str c.args.step ++ get_or elements k []) (c.lanes.invariant.rest k (omega arith)));
      rest = rest_same was c.lanes.messages k message c.lanes.invariant.rest;
    }
