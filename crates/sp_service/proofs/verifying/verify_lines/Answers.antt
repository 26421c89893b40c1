-- What a verification gives is what comes of the lines.
use Rattle.sp_service.proofs.Judging as judging
use Rattle.sp_service.proofs.verifying.verify_lines.Goals as goal

pub returns : goal.returns
returns c =
    judging.judged c.args.station.now c.verify-verified.new.node c.args.before c.args.reading.now c.verify-verified.result c.judged.result
    c.verify-verified.ensures.agrees c.verify-verified.ensures.refused c.judged.ensures
