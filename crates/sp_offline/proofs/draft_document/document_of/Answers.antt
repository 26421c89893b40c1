use Rattle.sp_offline.proofs.DraftKeys.{in_range}
use Rattle.sp_offline.proofs.draft_document.document_of.Goals as goal

pub write-requires : goal.write-requires
write-requires c =
    in_range c.a_graph_without_fault_is_in_range.ensures c.args.draft.now c.in_ok-topology.topology c.in_ok-topology.ensures.topology c.requires
    c.in_ok-topology.ensures.version
    c.in_ok-topology.ensures.keys
