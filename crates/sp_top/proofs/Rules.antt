-- The lemmas that a command needs together.
use Rattle.sp_service.proofs.Endings.{kept_quiet}
use Rattle.sp_top.proofs.Services as services
use Rattle.sp_top.proofs.Whole.{daemon_whole}
use Rattle.sp_top.proofs.Daemons.{runs}
use Rattle.sp_top.proofs.SaidRuns.{answered, asked, formatted, generated, no_command, replayed, served, verified}

pub ruleset said = (replayed, generated, answered, verified, served, asked, formatted, no_command, runs)

pub ruleset daemon_ends = (services.served, services.unread, daemon_whole, kept_quiet)
