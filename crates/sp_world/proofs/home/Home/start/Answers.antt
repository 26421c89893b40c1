use Rattle.sp_world.proofs.Booting.{may_start, own_boot, own_id}
use Rattle.sp_world.proofs.home.Home.start.Goals as goal

-- src/home.rt:93:15
pub boot-requires : goal.boot-requires
boot-requires c =
    may_start c.args.scenario.now c.args.u c.args.start c.in_ok-config.config c.in_ok-signer.signer c.in_ok-config.ensures c.in_ok-signer.ensures
    c.requires.header c.requires.correct c.requires.can

-- src/home.rt:99:24
pub new-requires-clause-me : goal.new-requires-clause-me
new-requires-clause-me c =
    own_id c.args.scenario.now c.args.u c.args.start c.in_ok-config.config c.in_ok-signer.signer c.in-Ok.field-0.reply c.in_ok-config.ensures
    c.in-Ok.ensures.node

-- src/home.rt:99:24
pub new-requires-clause-boot : goal.new-requires-clause-boot
new-requires-clause-boot c = own_boot c.args.start c.in_ok-config.config c.in_ok-signer.signer c.in-Ok.field-0.reply c.in-Ok.ensures.node
