use Rattle.std.proofs.Common.{ℕ, List, map, ap, subst, sym, ◌∙◌}
use Rattle.std.specs.Prelude.{zip}
use Rattle.sp_base.specs.Spelling.{AreBytes}
use Rattle.sp_base.specs.declared.id.EdgeId.{EdgeId}
use Rattle.sp_base.specs.declared.id.NodeId.{NodeId}
use Rattle.sp_rules.specs.Link.{new_link}
use Rattle.sp_rules.specs.Parts.{neighbours_of}
use Rattle.sp_rules.specs.Versions.{Live}
use Rattle.sp_node_parts.specs.declared.withdrawn.Withdrawn.{Withdrawn}
use Rattle.sp_node_state.proofs.Starts.{started, with_len}
use Rattle.sp_node_state.proofs.state.State.boot.Goals as goal

pub returns-clause-state : goal.returns-clause-state
returns-clause-state c =
    let config = c.args.config in
    let live_with : List ℕ → Live = λ weights. record { version = config.topology.version; weights = weights; document = config.document } in
    started config c.args.signer c.args.boot c.signature_len.result c.in_ok-live.live c.in_ok-heard.heard.items c.in_ok-links.links.items c.in_ok-core.core
    (c.in_ok-live.ensures ∙ ap (λ (w : Withdrawn). live_with w.weights) c.in_ok-withdrawn.ensures) c.in_ok-heard.ensures c.signature_len.ensures
    c.requires.height
    (c.in_ok-links.ensures
    ∙ ap (λ (ks : List (EdgeId × List ℕ)). map (λ (p : (NodeId × EdgeId) × (EdgeId × List ℕ)). new_link config.me p.0.0 c.args.boot p.1.1)
    (zip (neighbours_of (with_len config c.args.boot c.signature_len.result)) ks)) c.as_slice-2.ensures)
    c.in_ok-core.ensures

pub returns-clause-document : goal.returns-clause-document
returns-clause-document c =
    subst AreBytes (sym (ap (λ (l : Live). l.document) c.in_ok-live.ensures)) (subst AreBytes c.as_slice.ensures c.recall_bytes.ensures)
