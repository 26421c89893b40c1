use Rattle.std.proofs.lemmas.List.Elements.{All-push}
use Rattle.sp_topology.specs.declared.topology.NodeKey.{NodeKey}
use Rattle.sp_topology.specs.Ranges.{IsKey}
use Rattle.sp_offline.proofs.DraftKeys.{one_more_key}
use Rattle.sp_offline.proofs.draft_document.keys_of.Goals as goal

pub nodes-preserved : goal.nodes-preserved
nodes-preserved c = record {
  so_far = rw c.in_ok-push.ensures.items
      (one_more_key c.args.height c.args.nodes.now c.nodes.keys.items c.nodes.node-index _ c.in_ok-key_of.field-0 c.nodes-test.true c.in_ok-key_of.ensures.key
      c.nodes.invariant.so_far);
  good = rw c.in_ok-push.ensures.items
      (All-push (λ (n : NodeKey). IsKey c.args.height n.key) c.nodes.keys.items c.in_ok-key_of.field-0 c.nodes.invariant.good c.in_ok-key_of.ensures.good);
}
