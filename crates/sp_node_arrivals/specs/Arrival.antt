-- Where a frame comes to, as the rules have it.
use Rattle.sp_rules.specs.Handle as rules
use Rattle.sp_node_arrivals.specs.declared.arrival.Arrival.{Arrival}

abbrev pub as_arrival : Arrival → rules.Arrival
as_arrival a = record { fixed = a.fixed.now; now = a.time; from = a.from }
