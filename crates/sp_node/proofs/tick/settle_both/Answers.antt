use Rattle.sp_node.proofs.Dues.{due_second, second_told}
use Rattle.sp_node.proofs.tick.settle_both.Goals as goal

pub settle-paths-requires-clause-owed : goal.settle-paths-requires-clause-owed
settle-paths-requires-clause-owed c =
    due_second c.args.state.now c.settle-plain.new.state c.args.dues c.settle-plain.ensures.state c.requires.dues

pub returns-clause-told : goal.returns-clause-told
returns-clause-told c =
    second_told c.args.state.now c.settle-plain.new.state c.args.effects.now c.settle-plain.new.effects c.settle-paths.new.effects c.args.dues
    c.requires.dues c.settle-plain.ensures.state c.settle-plain.ensures.told c.settle-paths.ensures.told
