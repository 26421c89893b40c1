-- A document that is adopted leaves a node within its bounds.
use Rattle.std.proofs.Common.{◌≡◌, ℕ, List, length, Option, Some, None, sym, ap, ◌∙◌}
use Rattle.std.specs.Prelude.{IfSome}
use Rattle.sp_rules.specs.Arrivals.{read_by}
use Rattle.sp_rules.specs.Arts.{Arts, Document}
use Rattle.sp_rules.specs.Documents.{after_publish, under_topology}
use Rattle.sp_rules.specs.Node.{NodeState, topology_now}
use Rattle.sp_rules.specs.Parts.{nodes_of}
use Rattle.sp_rules.specs.Topologies.{removed_of, weights_in}
use Rattle.laws_node.specs.Inputs.{IsVersion}
use Rattle.laws_node.specs.Nodes.{FitsAFrame, NodeHolds}
use Rattle.laws_node.specs.Sizes.{Sizes, ids_after, numbers_after}
use Rattle.laws_node.proofs.Adopting.{IsAdopted, publishing}
use Rattle.laws_node.proofs.Successors.{later, same_count}
use Rattle.laws_node.proofs.Withdrawals.{closed_holds}

under_holds : (k : Sizes) (arts : Arts) (n : NodeState) (bytes : List ℕ) (d : Document) → FitsAFrame bytes → IsVersion d.topology
    → IsAdopted arts n d → NodeHolds k n → NodeHolds k (under_topology n bytes d.topology)
under_holds k arts n bytes d are is by h =
    let t = d.topology in
    let edges : length n.fixed.topology.edges ≡ length k.edges = ap length h.fixed.edges in
    let count : length (weights_in t.edges) ≡ length k.edges =
    same_count n.fixed.topology.edges n.live.weights t.edges (h.live.count ∙ sym edges) (later (topology_now n) t by.follows).ends ∙ edges in
    record {
      fixed = h.fixed;
      live = record { version = is.version; count = count; weights = is.weights; document = are };
      now = h.now;
      calls = h.calls;
      links = h.links;
      signer = h.signer;
      parts = closed_holds k (numbers_after n.calls) (ids_after n.calls n.signer.index) n.signer.index n.parts (weights_in t.edges)
          (removed_of (nodes_of t) t.edges) count h.parts;
    }

pub publish_holds : (k : Sizes) (arts : Arts) (n : NodeState) (bytes : List ℕ) → FitsAFrame bytes
    → ((d : Document) → arts.read_document bytes ≡ Some d → IsVersion d.topology) → NodeHolds k n → NodeHolds k (after_publish arts n bytes)
publish_holds k arts n bytes are reads h =
    publishing arts n bytes (λ m told. NodeHolds k m) h (λ d is by. under_holds k arts n bytes d are (reads d is) by h)

pub read_holds : (k : Sizes) (arts : Arts) (n : NodeState) (document : Option (List ℕ)) → IfSome document FitsAFrame
    → ((bytes : List ℕ) (d : Document) → FitsAFrame bytes → arts.read_document bytes ≡ Some d → IsVersion d.topology) → NodeHolds k n
    → NodeHolds k (read_by arts n document)
read_holds k arts n None are reads h = h
read_holds k arts n (Some bytes) are reads h = publish_holds k arts n bytes are (λ d is. reads bytes d are is) h
