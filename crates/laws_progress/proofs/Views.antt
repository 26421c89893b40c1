-- The rows of views stand at each peer, one for each pair of nodes, and the part's nodes are those of the topology: so in every state of a run.
use Rattle.std.proofs.Common.{◌≡◌, List, [], ◌∷◌, map, Some, ap}
use Rattle.std.specs.List.{All}
use Rattle.std.proofs.lemmas.List.Elements.{All-cons, All-nil}
use Rattle.sp_base.specs.declared.id.EdgeId.{EdgeId}
use Rattle.sp_base.specs.declared.id.NodeId.{NodeId}
use Rattle.sp_rules.specs.Arts.{Arts}
use Rattle.sp_rules.specs.Node.{NodeState}
use Rattle.sp_rules.specs.Parts.{neighbours_of, nodes_of}
use Rattle.sp_rules.specs.Rel.{RelPeer, RelState, pairs_of}
use Rattle.laws_node.specs.Shapes.{RelPeerShape, Shape, rel_peer_shape, view_ends}
use Rattle.sp_runs.specs.Runs.{Clean}
use Rattle.sp_runs.specs.Settings.{Setting, SettingFits, fixed_of}
use Rattle.sp_runs.specs.Worlds.{World, node_in}
use Rattle.sp_journal.specs.declared.entry.Entry.{Entry}
use Rattle.sp_schedule_events.specs.declared.event.Event.{Event}
use Rattle.laws_runs.specs.Premises.{Carries}
use Rattle.laws_runs.proofs.Signed.{signs}
use Rattle.sp_rules.specs.Parts.{flows_of}
use Rattle.sp_rules.specs.declared.kflow.FlowKind.{FlowKind}
use Rattle.sp_rules.specs.declared.kflow.FlowKind.TheVariants.{Plain, Paths}
use Rattle.sp_runs.specs.Settings.{fixed_at, link_keys, signer_from}
use Rattle.laws_node.specs.Shapes.{shape_at_start, shape_of}

abbrev pub ViewsAre : List NodeId → RelPeer → Type 0
ViewsAre nodes p = map view_ends p.views ≡ pairs_of nodes

pub record RelRows (nodes : List NodeId) (r : RelState) : Type 0 where
  pub nodes_are : r.nodes ≡ nodes
  pub views : All (ViewsAre nodes) r.peers

each_peer : (nodes : List NodeId) (ps : List RelPeer) (ns : List (NodeId × EdgeId))
    → map rel_peer_shape ps ≡ map (λ n. record { peer = n.0; views = pairs_of nodes }) ns
    → All (ViewsAre nodes) ps
each_peer nodes [] ns same = All-nil (ViewsAre nodes)
each_peer nodes (p ∷ ps) [] same = absurd cc
each_peer nodes (p ∷ ps) (n ∷ ns) same =
    let first : rel_peer_shape p ≡ record { peer = n.0; views = pairs_of nodes } = cc in
    let rest : map rel_peer_shape ps ≡ map (λ n. record { peer = n.0; views = pairs_of nodes }) ns = cc in
    All-cons (ViewsAre nodes) p ps (ap (λ (s : RelPeerShape). s.views) first) (each_peer nodes ps ns rest)

pub views_are : (kind : FlowKind) (arts : Arts) (x : Setting) (es : List Event) (js : List Entry) (w : World) → SettingFits arts x
    → Carries x.topology.format arts
    → Clean arts x es js w
    → (u : NodeId) (n : NodeState) → node_in w.nodes u ≡ Some n → RelRows (nodes_of x.topology) (flows_of kind n.parts)
views_are kind arts x es js w fits reads run u n at = of_kind kind ((signs arts x es js w fits reads run).nodes u n at).shape
  where
    of_kind : (kind : FlowKind)
        → shape_of n ≡ shape_at_start (fixed_at x u n.fixed.boot) (signer_from x u 0 n.signer.bound) (link_keys x u) x.buffer x.store
        → RelRows (nodes_of x.topology) (flows_of kind n.parts)
    of_kind Plain shape = record {
      nodes_are = ap (λ (s : Shape). s.rel.nodes) shape;
      views = each_peer (nodes_of x.topology) n.parts.rel.peers (neighbours_of (fixed_of x u)) (ap (λ (s : Shape). s.rel.peers) shape);
    }
    of_kind Paths shape = record {
      nodes_are = ap (λ (s : Shape). s.kflow.flows.nodes) shape;
      views = each_peer (nodes_of x.topology) n.parts.kflow.flows.peers (neighbours_of (fixed_of x u)) (ap (λ (s : Shape). s.kflow.flows.peers) shape);
    }
