-- Effects that tell no weight.
use Rattle.std.proofs.Common.{◌≡◌, ℕ, ◌+◌, ◌&&◌, Bool, true, false, cond, List, [], ◌∷◌, ◌++◌, filter, map, Option, Some, None, refl, ap, ◌∙◌, inl, inr}
use Rattle.std.specs.List.{flat_map}
use Rattle.std.proofs.lemmas.Bool.{cases_Bool}
use Rattle.sp_base.specs.declared.id.Flow.{Flow}
use Rattle.sp_base.specs.declared.id.NodeId.{NodeId}
use Rattle.sp_msg.specs.declared.body.Body.{Body}
use Rattle.sp_msg.specs.declared.body.Body.TheVariants as bodies
use Rattle.sp_msg.specs.declared.effect.Effect.{Effect}
use Rattle.sp_msg.specs.declared.effect.Effect.TheVariants as effects
use Rattle.sp_msg.specs.declared.effect.Why.{Why}
use Rattle.sp_msg.specs.declared.effect.Why.TheVariants as whys
use Rattle.sp_msg.specs.declared.kept.Kept.{Kept}
use Rattle.sp_rules.specs.Flow.{FlowState, ends}
use Rattle.sp_rules.specs.Handle.{met_effects}
use Rattle.sp_rules.specs.Parts.{Parts, closed_effects}
use Rattle.sp_rules.specs.Prio as prio
use Rattle.sp_rules.specs.Prio.{PrioState, prio_effects}
use Rattle.sp_rules.specs.PrioPeer as rows
use Rattle.sp_rules.specs.PrioPeer.{PrioPeer, leaves}
use Rattle.sp_rules.specs.Rel as rel
use Rattle.sp_rules.specs.Rel.{RelState, delivery, ended_by, ended_effect, ending, is_end, is_over, restart_effects}
use Rattle.sp_rules.specs.Store.{Store, entry_in, evicted, expired_entries, removed}
use Rattle.sp_rules.specs.Topologies.{is_shut}
use Rattle.sp_rules.specs.declared.kflow.FlowKind.{FlowKind}
use Rattle.sp_rules.specs.declared.kflow.FlowKind.TheVariants.{Plain, Paths}
use Rattle.sp_rules.specs.declared.store.Entry.{Entry}
use Rattle.laws_node.specs.Lives.{last_told, weight_told}

-- ---- effects without an update

-- no weight is told by these
abbrev pub Silent : List Effect → Type 0
Silent es = (edge end w : ℕ) → last_told edge end w es ≡ w

pub last_both : (edge end : ℕ) (xs ys : List Effect) (w : ℕ) → last_told edge end w (xs ++ ys) ≡ last_told edge end (last_told edge end w xs) ys
last_both edge end [] ys w = refl
last_both edge end (e ∷ xs) ys w = last_both edge end xs ys (weight_told edge end w e)

pub silent_both : (xs ys : List Effect) → Silent xs → Silent ys → Silent (xs ++ ys)
silent_both xs ys h k = λ edge end w. last_both edge end xs ys w ∙ ap (λ (v : ℕ). last_told edge end v ys) (h edge end w) ∙ k edge end w

pub silent_either : (t : Bool) (es : List Effect) → Silent es → Silent (cond t es [])
silent_either true es h = h
silent_either false es h = λ edge end w. refl

pub silent_flat : {X : Type 0} (f : X → List Effect) → ((x : X) → Silent (f x)) → (xs : List X) → Silent (flat_map f xs)
silent_flat f each [] = λ edge end w. refl
silent_flat f each (x ∷ xs) = silent_both (f x) (flat_map f xs) (each x) (silent_flat f each xs)

pub silent_gone : (place : ℕ) (why : Why) (e : Option Entry) → Silent (rows.gone place why e)
silent_gone place why None = λ edge end w. refl
silent_gone place why (Some e) = λ edge end w. refl

pub silent_left : (place : ℕ) (s : Store) (pairs : List (ℕ × ℕ)) → Silent (rows.left_effects place s pairs)
silent_left place s [] = λ edge end w. refl
silent_left place s (pair ∷ pairs) =
    silent_both (rows.gone place whys.Acked (entry_in s pair.1)) (rows.left_effects place (removed s pair.1) pairs)
    (silent_gone place whys.Acked (entry_in s pair.1)) (silent_left place (removed s pair.1) pairs)

pub silent_stored : (place id : ℕ) (body : Body) → Silent (rows.stored place id body)
silent_stored place id (bodies.Prio p) = λ edge end w. refl
silent_stored place id (bodies.Rel r) = λ edge end w. refl
silent_stored place id (bodies.Ack a) = λ edge end w. refl
silent_stored place id (bodies.Weight u) = λ edge end w. refl
silent_stored place id (bodies.Krel u) = λ edge end w. refl
silent_stored place id (bodies.Kack u) = λ edge end w. refl
silent_stored place id (bodies.Epoch u) = λ edge end w. refl

pub silent_put : (place : ℕ) (s : Store) (o : Kept) → Silent (rows.put_effects place s o)
silent_put place s o =
    silent_both (rows.stored place (s.last + 1) o.body) (rows.gone place whys.Evicted (evicted s o)) (silent_stored place (s.last + 1) o.body)
    (silent_gone place whys.Evicted (evicted s o))

pub silent_delivered : (body : Body) → Silent (prio.delivered body)
silent_delivered (bodies.Prio p) = λ edge end w. refl
silent_delivered (bodies.Rel r) = λ edge end w. refl
silent_delivered (bodies.Ack a) = λ edge end w. refl
silent_delivered (bodies.Weight u) = λ edge end w. refl
silent_delivered (bodies.Krel u) = λ edge end w. refl
silent_delivered (bodies.Kack u) = λ edge end w. refl
silent_delivered (bodies.Epoch u) = λ edge end w. refl

pub silent_prio : (p : PrioState) (o : Kept) (came : Option NodeId) → Silent (prio_effects p o came)
silent_prio p o came = elim (cases_Bool (prio.is_here p o.body)) [
  | inl t ↦
      let all = silent_both (prio.delivered o.body) (rows.put_effects 0 p.inbox o) (silent_delivered o.body) (silent_put 0 p.inbox o) in
      rw t all
  | inr t ↦
      let all = silent_flat (rows.given_effects o came)
      (λ q. silent_either (rows.goes_to o.body came q) (rows.put_effects q.peer q.store o) (silent_put q.peer q.store o)) p.peers in
      rw t all
]

pub silent_leaving : (place : ℕ) (why : Why) (es : List Entry) → Silent (map (λ e. effects.Gone place e.id why) es)
silent_leaving place why [] = λ edge end w. refl
silent_leaving place why (e ∷ es) = λ edge end w. silent_leaving place why es edge end w

pub silent_expired : (p : PrioState) (now : ℕ) → Silent (prio.expired_effects p now)
silent_expired p now =
    silent_both (rows.expired_effects 0 p.inbox now) (flat_map (λ (q : PrioPeer). rows.expired_effects q.peer q.store now) p.peers)
    (silent_leaving 0 whys.Expired (expired_entries p.inbox now))
    (silent_flat (λ (q : PrioPeer). rows.expired_effects q.peer q.store now) (λ q. silent_leaving q.peer whys.Expired (expired_entries q.store now)) p.peers)

silent_delivery : (body : Body) → Silent (delivery body ∷ [])
silent_delivery (bodies.Rel b) = λ edge end w. refl
silent_delivery (bodies.Krel b) = λ edge end w. refl
silent_delivery (bodies.Prio b) = λ edge end w. refl
silent_delivery (bodies.Ack b) = λ edge end w. refl
silent_delivery (bodies.Weight b) = λ edge end w. refl
silent_delivery (bodies.Kack b) = λ edge end w. refl
silent_delivery (bodies.Epoch b) = λ edge end w. refl

pub silent_rel : (t : Bool) (body : Body) → Silent (cond t (delivery body ∷ []) [])
silent_rel t body = silent_either t (delivery body ∷ []) (silent_delivery body)

-- a flow of either kind ends
silent_end : (kind : FlowKind) (flow : Flow) → Silent (ending kind flow ∷ [])
silent_end Plain flow = λ edge end w. refl
silent_end Paths flow = λ edge end w. refl

pub silent_ended : (kind : FlowKind) (v : NodeId) (f : FlowState) → Silent (ended_by kind v f)
silent_ended kind v f = silent_either (is_end v (ends f) && f.active) (ending kind (ends f) ∷ []) (silent_end kind (ends f))

pub silent_restart : (kind : FlowKind) (r : RelState) (v : NodeId) → Silent (restart_effects kind r v)
silent_restart kind r v = silent_flat (ended_by kind v) (silent_ended kind v) r.flows

-- another life of a node began
pub silent_met : (p : Parts) (v : NodeId) → Silent (met_effects p v)
silent_met p v =
    silent_both (restart_effects Plain p.rel v) (restart_effects Paths p.kflow.flows v) (silent_restart Plain p.rel v) (silent_restart Paths p.kflow.flows v)

-- another version of the topology
silent_ending : (kind : FlowKind) (gone : List NodeId) (f : FlowState) → Silent (ended_effect kind gone f)
silent_ending kind gone f = silent_either (f.active && is_over gone (ends f)) (ending kind (ends f) ∷ []) (silent_end kind (ends f))

pub silent_closed : (p : Parts) (least : List ℕ) (gone : List NodeId) → Silent (closed_effects p least gone)
silent_closed p least gone =
    silent_both (prio.closed_effects p.prio least gone) (rel.closed_effects Plain p.rel gone ++ rel.closed_effects Paths p.kflow.flows gone)
    (silent_flat (rows.closed_effects least gone)
    (λ q. silent_leaving q.peer whys.Withdrawn (filter (leaves (is_shut least q.edge) gone) q.store.entries)) p.prio.peers)
    (silent_both (rel.closed_effects Plain p.rel gone) (rel.closed_effects Paths p.kflow.flows gone)
    (silent_flat (ended_effect Plain gone) (silent_ending Plain gone) p.rel.flows)
    (silent_flat (ended_effect Paths gone) (silent_ending Paths gone) p.kflow.flows.flows))
