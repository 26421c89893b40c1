use Rattle.sp_service.proofs.Beginnings.{map_ok}
use Rattle.sp_service.proofs.Judging.{opened}
use Rattle.sp_service.proofs.verifying.verify_opened.Goals as goal

pub returns : goal.returns
returns c =
    map_ok c.verify_lines-judged.result _ _
    (λ judged comes. opened c.args.config.now c.args.fitted.topology c.args.opening c.args.before c.args.reading.now c.in_ok-station.station judged.verdict
    judged.line
    c.in_ok-station.ensures comes)
    c.verify_lines-judged.ensures
