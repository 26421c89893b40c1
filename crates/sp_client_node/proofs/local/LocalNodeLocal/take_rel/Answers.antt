use Rattle.std.proofs.Common.{rules, ◌≡◌, true}
use Rattle.sp_node_state.specs.States.{is_other}
use Rattle.sp_client_node.proofs.Takes.{short}
use Rattle.sp_client_node.proofs.local.LocalNodeLocal.take_rel.Goals as goal

pub returns-clause-size : goal.returns-clause-size
returns-clause-size c =
    let is : is_other c.args.self.now.node.state c.args.src ≡ true = (let test = c.if-not-is_other.false in let told = c.is_other.ensures in search rules) in
    short c.args.self.now.node.state c.take_rel.new.self.state c.args.src c.take_rel.result c.is_kept.ensures is c.take_rel.ensures.step
