use Rattle.sp_service_station.proofs.Supplied.{turns_are_supplied}
use Rattle.sp_service_station.proofs.laws.turns_are_supplied.Goals as goal

pub returns : goal.returns
returns c = turns_are_supplied
