use Rattle.std.proofs.Common.{◌∙◌, sym, ap}
use Rattle.sp_hss.specs.Decision.{is_valid}
use Rattle.sp_rules.specs.Parts.{Fixed}
use Rattle.sp_node_state.proofs.Published.{checked_is}
use Rattle.sp_node_state.proofs.document.is_signed.Goals as goal

pub returns-clause-signed : goal.returns-clause-signed
returns-clause-signed c =
    let message = c.args.reading.now.message.now in
    let signature = c.args.reading.now.signature.now in
    sym (ap (λ (f : Fixed). is_valid f.admin message signature) (sym c.fixed.view_is)
    ∙ checked_is c.fixed.inside.admin message signature c.check_topology.result c.check_topology.ensures.valid)
