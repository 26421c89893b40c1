-- Effects that say nothing of reliable messages and signatures.
use Rattle.std.proofs.Common.{◌≡◌, ℕ, ◌+◌, Bool, true, false, cond, List, [], ◌∷◌, ◌++◌, map, Option, Some, None, refl, ◌∙◌, filter}
use Rattle.std.specs.Prelude.{◌&&◌}
use Rattle.std.specs.List.{flat_map}
use Rattle.std.proofs.lemmas.List.Concat.{flat_map-append}
use Rattle.sp_base.specs.declared.id.Flow.{Flow}
use Rattle.sp_base.specs.declared.id.NodeId.{NodeId}
use Rattle.sp_msg.specs.declared.body.Body.{Body}
use Rattle.sp_msg.specs.declared.body.Body.TheVariants as bodies
use Rattle.sp_msg.specs.declared.effect.Effect.{Effect}
use Rattle.sp_msg.specs.declared.effect.Effect.TheVariants as effects
use Rattle.sp_msg.specs.declared.effect.Why.{Why}
use Rattle.sp_msg.specs.declared.effect.Why.TheVariants.{Acked, Evicted, Expired, Withdrawn}
use Rattle.sp_msg.specs.declared.kept.Kept.{Kept}
use Rattle.sp_rules.specs.Arts.{Arts}
use Rattle.sp_rules.specs.Documents.{publish_effects, version_effects}
use Rattle.sp_rules.specs.Handle.{met_effects, weight_effects}
use Rattle.sp_rules.specs.Node.{NodeState}
use Rattle.sp_rules.specs.Parts.{Parts, closed_effects, nodes_of}
use Rattle.sp_rules.specs.Rel as rel
use Rattle.sp_rules.specs.Steps.{document_effects}
use Rattle.sp_rules.specs.Topologies.{is_shut, removed_of, weights_in}
use Rattle.sp_topology.specs.declared.topology.Topology.{Topology}
use Rattle.laws_node.proofs.Adopting.{publishing, reading}
use Rattle.sp_rules.specs.Prio as prio
use Rattle.sp_rules.specs.Prio.{PrioState, acked_effects, prio_effects, expired_effects}
use Rattle.sp_rules.specs.PrioPeer as rows
use Rattle.sp_rules.specs.PrioPeer.{PrioPeer}
use Rattle.sp_rules.specs.Flow.{ends}
use Rattle.sp_rules.specs.Rel.{RelState, ended_by, is_end, restart_effects}
use Rattle.sp_rules.specs.Store.{Store, entry_in, expired_entries, removed}
use Rattle.sp_rules.specs.declared.kflow.FlowKind.{FlowKind}
use Rattle.sp_rules.specs.declared.kflow.FlowKind.TheVariants.{Plain, Paths}
use Rattle.sp_rules.specs.declared.store.Entry.{Entry}
use Rattle.sp_runs.specs.Told.{delivered_by, signed_by}

pub record Quiet (es : List Effect) : Type 0 where
  pub no_delivery : (kind : FlowKind) (a : NodeId) → flat_map (delivered_by kind a) es ≡ []
  pub no_signature : flat_map signed_by es ≡ []

-- effects that say nothing of messages of either kind
quiet_of : (es : List Effect) → ((a : NodeId) → flat_map (delivered_by Plain a) es ≡ []) → ((a : NodeId) → flat_map (delivered_by Paths a) es ≡ [])
    → flat_map signed_by es ≡ [] → Quiet es
quiet_of es plain paths unsigned = record { no_delivery = none; no_signature = unsigned }
  where
    none : (kind : FlowKind) (a : NodeId) → flat_map (delivered_by kind a) es ≡ []
    none Plain a = plain a
    none Paths a = paths a

pub quiet_none : Quiet []
quiet_none = quiet_of [] (λ a. refl) (λ a. refl) refl

pub quiet_append : (xs ys : List Effect) → Quiet xs → Quiet ys → Quiet (xs ++ ys)
quiet_append xs ys h k = record {
  no_delivery = λ kind a. flat_map-append (delivered_by kind a) xs ys ∙ rw (h.no_delivery kind a, k.no_delivery kind a) refl;
  no_signature = flat_map-append signed_by xs ys ∙ rw (h.no_signature, k.no_signature) refl;
}

pub quiet_either : (t : Bool) (xs ys : List Effect) → Quiet xs → Quiet ys → Quiet (cond t xs ys)
quiet_either true xs ys h k = h
quiet_either false xs ys h k = k

pub quiet_flat : {X : Type 0} (f : X → List Effect) → ((x : X) → Quiet (f x)) → (xs : List X) → Quiet (flat_map f xs)
quiet_flat f each [] = quiet_none
quiet_flat f each (x ∷ xs) = quiet_append (f x) (flat_map f xs) (each x) (quiet_flat f each xs)

pub quiet_weight : (body : Body) → Quiet (weight_effects body)
quiet_weight (bodies.Prio p) = quiet_none
quiet_weight (bodies.Rel r) = quiet_none
quiet_weight (bodies.Ack a) = quiet_none
quiet_weight (bodies.Weight u) = quiet_of _ (λ a. refl) (λ a. refl) refl
quiet_weight (bodies.Krel a) = quiet_none
quiet_weight (bodies.Kack a) = quiet_none
quiet_weight (bodies.Epoch a) = quiet_none

pub quiet_gone : (place : ℕ) (why : Why) (e : Option Entry) → Quiet (rows.gone place why e)
quiet_gone place why None = quiet_none
quiet_gone place why (Some e) = quiet_of _ (λ a. refl) (λ a. refl) refl

quiet_stored : (place id : ℕ) (body : Body) → Quiet (rows.stored place id body)
quiet_stored place id (bodies.Prio p) = quiet_of _ (λ a. refl) (λ a. refl) refl
quiet_stored place id (bodies.Rel r) = quiet_none
quiet_stored place id (bodies.Ack a) = quiet_none
quiet_stored place id (bodies.Weight u) = quiet_none
quiet_stored place id (bodies.Krel u) = quiet_none
quiet_stored place id (bodies.Kack u) = quiet_none
quiet_stored place id (bodies.Epoch u) = quiet_none

quiet_put : (place : ℕ) (s : Store) (o : Kept) → Quiet (rows.put_effects place s o)
quiet_put place s o = quiet_append (rows.stored place (s.last + 1) o.body) _ (quiet_stored place (s.last + 1) o.body) (quiet_gone place Evicted _)

quiet_delivered : (body : Body) → Quiet (prio.delivered body)
quiet_delivered (bodies.Prio p) = quiet_of _ (λ a. refl) (λ a. refl) refl
quiet_delivered (bodies.Rel r) = quiet_none
quiet_delivered (bodies.Ack a) = quiet_none
quiet_delivered (bodies.Weight u) = quiet_none
quiet_delivered (bodies.Krel u) = quiet_none
quiet_delivered (bodies.Kack u) = quiet_none
quiet_delivered (bodies.Epoch u) = quiet_none

pub quiet_prio : (p : PrioState) (o : Kept) (came : Option NodeId) → Quiet (prio_effects p o came)
quiet_prio p o came =
    quiet_either (prio.is_here p o.body) (prio.delivered o.body ++ rows.put_effects 0 p.inbox o) (flat_map (rows.given_effects o came) p.peers)
    (quiet_append (prio.delivered o.body) (rows.put_effects 0 p.inbox o) (quiet_delivered o.body) (quiet_put 0 p.inbox o))
    (quiet_flat (rows.given_effects o came)
    (λ q. quiet_either (rows.goes_to o.body came q) (rows.put_effects q.peer q.store o) [] (quiet_put q.peer q.store o) quiet_none) p.peers)

quiet_left : (place : ℕ) (s : Store) (pairs : List (ℕ × ℕ)) → Quiet (rows.left_effects place s pairs)
quiet_left place s [] = quiet_none
quiet_left place s (pair ∷ pairs) =
    quiet_append (rows.gone place Acked (entry_in s pair.1)) (rows.left_effects place (removed s pair.1) pairs)
    (quiet_gone place Acked (entry_in s pair.1)) (quiet_left place (removed s pair.1) pairs)

pub quiet_acked : (p : PrioState) (v number : ℕ) → Quiet (acked_effects p v number)
quiet_acked p v number = let q = prio.peer_in p v in quiet_left q.peer q.store (rows.landed q number)

quiet_leaving : (why : Why) (place : ℕ) (es : List Entry) → Quiet (map (λ e. effects.Gone place e.id why) es)
quiet_leaving why place [] = quiet_none
quiet_leaving why place (e ∷ es) =
    let rest = quiet_leaving why place es in
    quiet_of (effects.Gone place e.id why ∷ map (λ e. effects.Gone place e.id why) es) (rest.no_delivery Plain) (rest.no_delivery Paths) rest.no_signature

pub quiet_expired : (p : PrioState) (now : ℕ) → Quiet (expired_effects p now)
quiet_expired p now =
    quiet_append (rows.expired_effects 0 p.inbox now) _ (quiet_leaving Expired 0 (expired_entries p.inbox now))
    (quiet_flat (λ (q : PrioPeer). rows.expired_effects q.peer q.store now) (λ q. quiet_leaving Expired q.peer (expired_entries q.store now)) p.peers)

quiet_over : (t : Bool) (kind : FlowKind) (flow : Flow) → Quiet (cond t (rel.ending kind flow ∷ []) [])
quiet_over true Plain flow = quiet_of (effects.Ended flow ∷ []) (λ a. refl) (λ a. refl) refl
quiet_over true Paths flow = quiet_of (effects.Kended flow ∷ []) (λ a. refl) (λ a. refl) refl
quiet_over false kind flow = quiet_none

-- flows end where a node starts anew
pub quiet_ended : (kind : FlowKind) (r : RelState) (v : NodeId) → Quiet (restart_effects kind r v)
quiet_ended kind r v = quiet_flat (ended_by kind v) (λ f. quiet_over (is_end v (ends f) && f.active) kind (ends f)) r.flows

-- of plain flows first
pub quiet_met : (p : Parts) (v : NodeId) → Quiet (met_effects p v)
quiet_met p v =
    quiet_append (restart_effects Plain p.rel v) (restart_effects Paths p.kflow.flows v) (quiet_ended Plain p.rel v) (quiet_ended Paths p.kflow.flows v)

-- ---- another version of the topology

quiet_ends : (kind : FlowKind) (gone : List NodeId) (r : RelState) → Quiet (rel.closed_effects kind r gone)
quiet_ends kind gone r = quiet_flat (rel.ended_effect kind gone) (λ f. quiet_over (f.active && rel.is_over gone (ends f)) kind (ends f)) r.flows

quiet_closed : (p : Parts) (least : List ℕ) (gone : List NodeId) → Quiet (closed_effects p least gone)
quiet_closed p least gone =
    let plain = rel.closed_effects Plain p.rel gone in
    let paths = rel.closed_effects Paths p.kflow.flows gone in
    quiet_append (prio.closed_effects p.prio least gone) (plain ++ paths)
    (quiet_flat (rows.closed_effects least gone) (λ q. quiet_leaving Withdrawn q.peer (filter (rows.leaves (is_shut least q.edge) gone) q.store.entries))
    p.prio.peers)
    (quiet_append plain paths (quiet_ends Plain gone p.rel) (quiet_ends Paths gone p.kflow.flows))

quiet_version : (n : NodeState) (t : Topology) → Quiet (version_effects n t)
quiet_version n t =
    let h = quiet_closed n.parts (weights_in t.edges) (removed_of (nodes_of t) t.edges) in
    quiet_of (version_effects n t) (h.no_delivery Plain) (h.no_delivery Paths) h.no_signature

pub quiet_publish : (arts : Arts) (n : NodeState) (bytes : List ℕ) → Quiet (publish_effects arts n bytes)
quiet_publish arts n bytes = publishing arts n bytes (λ m told. Quiet told) quiet_none (λ d reads by. quiet_version n d.topology)

pub quiet_document : (arts : Arts) (n : NodeState) (document : Option (List ℕ)) → Quiet (document_effects arts n document)
quiet_document arts n document = reading arts n document (λ m told. Quiet told) quiet_none (λ bytes d is reads by. quiet_version n d.topology)
