use Rattle.std.proofs.Common.{rules, ◌≡◌, true}
use Rattle.sp_client_node.specs.Steps.{may_come_on_paths}
use Rattle.sp_client_node.proofs.Takes.{short_on_paths}
use Rattle.sp_client_node.proofs.local.LocalNodeLocal.take_krel.Goals as goal

pub returns-clause-size : goal.returns-clause-size
returns-clause-size c =
    let may : may_come_on_paths c.args.self.now.node.state c.args.src ≡ true =
    (let test = c.if-not-may_come_on_paths.false in let told = c.may_come_on_paths.ensures in search rules) in
    short_on_paths c.args.self.now.node.state c.take_krel.new.self.state c.args.src c.take_krel.result c.is_kept.ensures may c.take_krel.ensures.step
