use Rattle.std.proofs.Common.{List, ℕ}
use Rattle.std.specs.Prelude.{IfOk}
use Rattle.sp_base.specs.Finds.{Finds}
use Rattle.sp_client.specs.Requests.{IsNamed}
use Rattle.sp_client.proofs.FiveFields.{five}
use Rattle.sp_client.proofs.reading.command.Goals as goal

pub returns-in-len5 : goal.returns-in-len5
returns-in-len5 c =
    five (λ (words : List (List ℕ)). IfOk c.send_prio.result (Finds (IsNamed c.args.name.now words))) c.args.fields.now _ c.in-len5.len_at_least
    c.in-len5.len_below c.send_prio.ensures
