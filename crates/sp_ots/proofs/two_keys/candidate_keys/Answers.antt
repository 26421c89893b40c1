use Rattle.std.proofs.Common.{◌≡◌, ℕ, ◌+◌, ◌<◌, List, [], length, take, get_or, ap, ◌∙◌, arith}
use Rattle.std.proofs.lemmas.List.{get_or-drop, get_or-take, length-drop, length-take-le, take_rest}
use Rattle.sp_ots.specs.declared.two_leaves.Leaf.{Leaf}
use Rattle.sp_ots.specs.declared.two_leaves.TwoLeaves.{TwoLeaves}
use Rattle.sp_ots.specs.Parameters.{chain_count}
use Rattle.sp_ots.specs.Leaves.{front_of}
use Rattle.sp_ots.specs.TwoLeaves.{front_in}
use Rattle.sp_ots.proofs.SignedEnds.{AreLaid, key_of_part}
use Rattle.sp_ots.proofs.TwoLeaves.{front_first, front_second}
use Rattle.sp_ots.proofs.two_keys.candidate_keys.Goals as goal

pub returns-clause-first : goal.returns-clause-first
returns-clause-first c =
    let one = c.args.first.now in
    let two = c.args.second.now in
    let split = c.chain_count-split.result in
    let count = length c.args.elements.now in
    let leaf_one : Leaf = record { id = one.id.now; q = one.q } in
    let leaf_two : Leaf = record { id = two.id.now; q = two.q } in
    let leaves : TwoLeaves = record { first = leaf_one; second = leaf_two; split = split } in
    let from = take count c.lay-2.new.from in
    let to = take count c.lay-2.new.to in
    let elements = c.lay-2.new.elements in
    let ends = c.run_both.new.elements in
    let before : (i : ℕ) → i < chain_count one.param → 0 + i < split = λ i within. omega (arith, c.chain_count-split.ensures) in
    let laid : AreLaid one.param one.id.now one.q one.msg.now one.sig.now (front_in leaves) from to elements 0 = record {
      room = omega (arith, c.requires.room, c.lay.ensures.long, c.lay-2.ensures.long);
      fronts = λ i within. let place : 0 + i ≡ i = omega arith in front_first leaves (0 + i) (before i within) ∙ ap (front_of one.id.now one.q) place;
      digits = λ i within. get_or-take count c.lay-2.new.from (0 + i) 0 (omega (arith, c.requires.room)) ∙ c.lay-2.ensures.from_before (0 + i) (before i within)
          ∙ c.lay.ensures.from i within;
      last = λ i within. get_or-take count c.lay-2.new.to (0 + i) 0 (omega (arith, c.requires.room)) ∙ c.lay-2.ensures.to_before (0 + i) (before i within)
          ∙ c.lay.ensures.to i within;
      signed = λ i within. c.lay-2.ensures.elements_before (0 + i) (before i within) ∙ c.lay.ensures.elements i within;
    } in
    c.key_of_ends.ensures
    ∙ key_of_part one.param one.id.now one.q one.msg.now one.sig.now (front_in leaves) from to elements ends 0 _ laid c.run_both.ensures
    (length-take-le split ends (omega arith) ∙ c.chain_count-split.ensures)
    (λ i within. get_or-take split ends i [] (omega (arith, c.chain_count-split.ensures))
    ∙ (let place : i ≡ 0 + i = omega arith in ap (λ (n : ℕ). get_or ends n []) place))

pub returns-clause-second : goal.returns-clause-second
returns-clause-second c =
    let one = c.args.first.now in
    let two = c.args.second.now in
    let split = c.chain_count-split.result in
    let count = length c.args.elements.now in
    let leaf_one : Leaf = record { id = one.id.now; q = one.q } in
    let leaf_two : Leaf = record { id = two.id.now; q = two.q } in
    let leaves : TwoLeaves = record { first = leaf_one; second = leaf_two; split = split } in
    let from = take count c.lay-2.new.from in
    let to = take count c.lay-2.new.to in
    let elements = c.lay-2.new.elements in
    let ends = c.run_both.new.elements in
    let inside : (i : ℕ) → i < chain_count two.param → split + i < count = λ i within. omega (arith, c.requires.room, c.chain_count-split.ensures) in
    let laid : AreLaid two.param two.id.now two.q two.msg.now two.sig.now (front_in leaves) from to elements split = record {
      room = omega (arith, c.requires.room, c.lay.ensures.long, c.lay-2.ensures.long, c.chain_count-split.ensures);
      fronts = λ i within. front_second leaves i;
      digits = λ i within. get_or-take count c.lay-2.new.from (split + i) 0 (inside i within) ∙ c.lay-2.ensures.from i within;
      last = λ i within. get_or-take count c.lay-2.new.to (split + i) 0 (inside i within) ∙ c.lay-2.ensures.to i within;
      signed = λ i within. c.lay-2.ensures.elements i within;
    } in
    let rest = take_rest ends split in
    c.key_of_ends-2.ensures
    ∙ key_of_part two.param two.id.now two.q two.msg.now two.sig.now (front_in leaves) from to elements ends split _ laid c.run_both.ensures
    (ap length rest ∙ length-drop split ends ∙ omega arith)
    (λ i within. ap (λ (xs : List (List ℕ)). get_or xs i []) rest ∙ get_or-drop split ends i [])
