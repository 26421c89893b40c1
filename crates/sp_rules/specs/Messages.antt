-- A client's priority message, and its message on paths, as the rules see them.
use Rattle.sp_rules.specs.KflowSends.{KSend}
use Rattle.sp_rules.specs.Sends.{PrioSend}
use Rattle.sp_rules.specs.declared.kflow.KSend as on_paths
use Rattle.sp_rules.specs.declared.sends.PrioSend as lent

abbrev pub as_send : lent.PrioSend → PrioSend
as_send m = record { dst = m.dst; prio = m.prio; expiry = m.expiry; paths = m.paths; payload = m.payload.now }

-- the same of a message on paths
abbrev pub as_ksend : on_paths.KSend → KSend
as_ksend m = record { dst = m.dst; paths = m.paths; payload = m.payload.now }
