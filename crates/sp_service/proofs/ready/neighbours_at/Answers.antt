use Rattle.sp_service.proofs.Openings.{few_read}
use Rattle.sp_service.proofs.ready.neighbours_at.Goals as goal

pub returns-clause-few : goal.returns-clause-few
returns-clause-few c = few_read c.args.config.now c.args._topology.now _ c.requires.fits c.requires.topology c.in_ok-peers.ensures
