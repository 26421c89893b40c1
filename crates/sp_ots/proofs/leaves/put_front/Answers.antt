use Rattle.std.proofs.Common.{replicate, ◌∙◌, arith}
use Rattle.std.proofs.lemmas.List.{length-take-le, take_at}
use Rattle.sp_ots.proofs.Steps.{begun}
use Rattle.sp_ots.proofs.leaves.put_front.Goals as goal

pub returns : goal.returns
returns c =
    let front = begun c.args.id.now c.args.q 0x8080 0 (replicate 32 0) c.element_message-other.result c.told-id c.element_message-other.ensures in
    take_at c.copy_from_slice.new.self _ 22 (omega (arith, c.copy_from_slice.ensures.len, length-take-le 22 c.args.message.now (omega (arith, c.told-message))))
    ∙ c.copy_from_slice.ensures.after ∙ front.0
