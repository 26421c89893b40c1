-- What a version needs at a node is as much after another life of a neighbour was met.
use Rattle.std.proofs.Common.{◌≡◌, ◌∙◌, ℕ, ◌+◌, ◌&&◌, Bool, true, false, List, [], ◌∷◌, length, Option, None, Some, refl, sym, ap, cond}
use Rattle.std.specs.Prelude.{sum_by}
use Rattle.std.proofs.lemmas.List.Sums.{sum_by-cons}
use Rattle.sp_base.specs.Rows.{first_where, replace_where}
use Rattle.sp_base.specs.declared.id.NodeId.{NodeId}
use Rattle.sp_node_parts.specs.Closing.{active_flows, closing_room}
use Rattle.sp_rules.specs.Arrivals.{greeted, unheard}
use Rattle.sp_node_state.specs.Publications.{Fits, FitsSo}
use Rattle.sp_node_state.specs.declared.document.NewVersion.{NewVersion}
use Rattle.sp_node_state.specs.declared.document.Publication.{Publication}
use Rattle.sp_rules.specs.Node.{NodeState}
use Rattle.sp_rules.specs.Parts.{Parts, flows_of}
use Rattle.sp_rules.specs.Prio as prio
use Rattle.sp_rules.specs.Prio.{PrioState, entry_count, is_peer, no_peer, peer_in}
use Rattle.sp_rules.specs.PrioPeer as rows
use Rattle.sp_rules.specs.PrioPeer.{PrioPeer}
use Rattle.sp_rules.specs.declared.kflow.FlowKind.{FlowKind}
use Rattle.sp_rules.specs.declared.kflow.FlowKind.TheVariants as kinds

-- a row in the place of another one that counts as much
sum_with : (g : PrioPeer → ℕ) (test : PrioPeer → Bool) (none q : PrioPeer) (peers : List PrioPeer) → g q ≡ g (first_where test none peers)
    → sum_by g (replace_where test q peers) ≡ sum_by g peers
sum_with g test none q [] same = refl
sum_with g test none q (p ∷ peers) same = go (test p) refl same (sum_with g test none q peers)
  where
    go : (t : Bool) → test p ≡ t → g q ≡ g (cond t p (first_where test none peers))
        → (g q ≡ g (first_where test none peers) → sum_by g (replace_where test q peers) ≡ sum_by g peers)
        → sum_by g (cond t (q ∷ peers) (p ∷ replace_where test q peers)) ≡ sum_by g (p ∷ peers)
    go true is e later = sum_by-cons g q peers ∙ ap (λ (m : ℕ). m + sum_by g peers) e ∙ sym (sum_by-cons g p peers)
    go false is e later =
        sum_by-cons g p (replace_where test q peers) ∙ ap (λ (m : ℕ). g p + m) (later e) ∙ sym (sum_by-cons g p peers)

unheard_count : (s : PrioState) (v : ℕ) → entry_count (prio.unheard s v) ≡ entry_count s
unheard_count s v =
    ap (λ (m : ℕ). length s.inbox.entries + m)
    (sum_with (λ (q : PrioPeer). length q.store.entries) (is_peer v) no_peer (rows.unheard (peer_in s v)) s.peers refl)

greeted_same : {X : Type 0} (of : Parts → X) (epochs risen : Bool) (v : NodeId) (p : Parts) → of (unheard v p) ≡ of p
    → of (greeted epochs risen v p) ≡ of p
greeted_same of epochs risen v p same = go (epochs && risen)
  where
    go : (t : Bool) → of (cond t (unheard v p) p) ≡ of p
    go true = same
    go false = refl

greeted_closing : (epochs risen : Bool) (v : NodeId) (p : Parts) → closing_room (greeted epochs risen v p) ≡ closing_room p
greeted_closing epochs risen v p =
    greeted_same closing_room epochs risen v p (ap (λ (m : ℕ). m + active_flows p) (unheard_count p.prio v.0))

flow_nodes : (kind : FlowKind) (v : NodeId) (p : Parts) → length (flows_of kind (unheard v p)).nodes ≡ length (flows_of kind p).nodes
flow_nodes kinds.Plain v p = refl
flow_nodes kinds.Paths v p = refl

-- so what a node needs for a version it has then
pub fits_greeted : (n m : NodeState) (p : Publication) (risen : Bool) (v : NodeId) → m.parts ≡ greeted n.fixed.epochs risen v n.parts → Fits n p → Fits m p
fits_greeted n m p risen v is = go p.version
  where
    same : {X : Type 0} (of : Parts → X) → of (unheard v n.parts) ≡ of n.parts → of n.parts ≡ of m.parts
    same of e = sym (ap of is ∙ greeted_same of n.fixed.epochs risen v n.parts e)

    go : (o : Option NewVersion) → FitsSo n p o → FitsSo m p o
    go None fits = fits
    go (Some w) fits = record {
      withdrawn = fits.withdrawn;
      edges = fits.edges ∙ same (λ (q : Parts). length q.weights.edges) refl;
      nodes = fits.nodes ∙ same (λ (q : Parts). length q.prio.nodes) refl;
      flows = λ kind. fits.flows kind ∙ same (λ (q : Parts). length (flows_of kind q).nodes) (flow_nodes kind v n.parts);
      room = fits.room ∙ ap (λ (room : ℕ). record { list = []; room = 1 + room })
          (sym (ap closing_room is ∙ greeted_closing n.fixed.epochs risen v n.parts));
    }
