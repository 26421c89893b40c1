use Rattle.std.proofs.Common.{◌++◌, ◌≤◌, List, ℕ, [], ◌∷◌, length, map, take, sym, ap, ◌∙◌, arith}
use Rattle.std.proofs.lemmas.List.Elements.{All-more}
use Rattle.std.proofs.lemmas.List.{length-set, map_more, take_all, take_more_set}
use Rattle.sp_ots.specs.Blocks.{block_at}
use Rattle.sp_ots.proofs.long.blocks_at.Goals as goal

pub lanes-preserved : goal.lanes-preserved
lanes-preserved g c =
    let ms = c.args.messages.now in
    let k = c.lanes.k in
    let made = c.prefix_block.result in
    let block : List ℕ → List ℕ = λ m. block_at (take c.args.len m) c.args.n in
    record {
      count = length-set c.lanes.cut k made ∙ c.lanes.invariant.count;
      made = take_more_set c.lanes.cut k made (omega (arith, c.lanes.invariant.count))
          ∙ (λ i. c.lanes.invariant.made i ++ c.prefix_block.ensures.block i ∷ [])
          ∙ sym (map_more block ms k [] (omega (arith, c.told-messages)));
      long = All-more (λ m. c.args.len ≤ length m) ms k [] (omega (arith, c.told-messages)) c.lanes.invariant.long c.prefix_block.ensures.long;
    }

pub returns-clause-blocks : goal.returns-clause-blocks
returns-clause-blocks g c =
    let block : List ℕ → List ℕ = λ m. block_at (take c.args.len m) c.args.n in
    sym (take_all c.lanes.k c.lanes.cut (omega (arith, c.lanes.invariant.count))) ∙ c.lanes.invariant.made
    ∙ ap (map block) (take_all c.lanes.k c.args.messages.now (omega (arith, c.told-messages)))
