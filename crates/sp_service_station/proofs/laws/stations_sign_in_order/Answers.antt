use Rattle.sp_service_station.proofs.Order.{in_order}
use Rattle.sp_service_station.proofs.laws.stations_sign_in_order.Goals as goal

pub returns : goal.returns
returns c = in_order
