-- What effects tell of weights, and which of them tell none.
use Rattle.std.proofs.Common.{◌≡◌, ℕ, ◌+◌, Bool, true, false, cond, List, [], ◌∷◌, ◌++◌, map, Option, Some, None, refl, ap, ◌∙◌, inl, inr}
use Rattle.std.specs.Prelude.{◌&&◌}
use Rattle.std.specs.List.{flat_map}
use Rattle.std.proofs.lemmas.Bool.{cases_Bool}
use Rattle.sp_base.specs.declared.id.Flow.{Flow}
use Rattle.sp_base.specs.declared.id.NodeId.{NodeId}
use Rattle.sp_msg.specs.declared.body.Body.{Body}
use Rattle.sp_msg.specs.declared.body.Body.TheVariants as bodies
use Rattle.sp_msg.specs.declared.body.WeightBody.{WeightBody}
use Rattle.sp_msg.specs.declared.effect.Effect.{Effect}
use Rattle.sp_msg.specs.declared.effect.Effect.TheVariants as effects
use Rattle.sp_msg.specs.declared.effect.Why.{Why}
use Rattle.sp_msg.specs.declared.effect.Why.TheVariants as whys
use Rattle.sp_msg.specs.declared.kept.Kept.{Kept}
use Rattle.sp_rules.specs.Flow.{ends}
use Rattle.sp_rules.specs.Prio as prio
use Rattle.sp_rules.specs.Prio.{PrioState, prio_effects}
use Rattle.sp_rules.specs.PrioPeer as rows
use Rattle.sp_rules.specs.PrioPeer.{PrioPeer}
use Rattle.sp_rules.specs.Rel.{RelState, delivery, ended_by, ending, is_end, restart_effects}
use Rattle.sp_rules.specs.declared.kflow.FlowKind.{FlowKind}
use Rattle.sp_rules.specs.Store.{Store, entry_in, evicted, expired_entries, removed}
use Rattle.sp_rules.specs.declared.store.Entry.{Entry}
use Rattle.laws_node.specs.Lives.{last_told, weight_told}
use Rattle.laws_runs.specs.Weights.{EachHeld}
use Rattle.laws_runs.proofs.EachKind.{of_delivery, of_ending}

-- the last weight that is told of an end of an edge
abbrev pub last_weight : (edge : ℕ) → NodeId → ℕ → List Effect → ℕ
last_weight edge end weight es = last_told edge end.0 weight es

abbrev weight_after : (edge : ℕ) → NodeId → ℕ → Effect → ℕ
weight_after edge end weight e = weight_told edge end.0 weight e

-- ---- effects without an update

pub record NoUpdates (es : List Effect) : Type 1 where
  pub last : (edge : ℕ) (end : NodeId) (w : ℕ) → last_weight edge end w es ≡ w
  pub each : (P : WeightBody → Type 0) → EachHeld P es

pub no_none : NoUpdates []
no_none = record { last = λ edge end w. refl; each = λ P. tt }

pub last_both : (edge : ℕ) (end : NodeId) (w : ℕ) (xs ys : List Effect)
    → last_weight edge end w (xs ++ ys) ≡ last_weight edge end (last_weight edge end w xs) ys
last_both edge end w [] ys = refl
last_both edge end w (e ∷ xs) ys = last_both edge end (weight_after edge end w e) xs ys

pub each_both : (P : WeightBody → Type 0) (xs ys : List Effect) → EachHeld P xs → EachHeld P ys → EachHeld P (xs ++ ys)
each_both P [] ys one two = two
each_both P (effects.WeightHeld origin edge seq weight ∷ xs) ys one two = (one.0, each_both P xs ys one.1 two)
each_both P (effects.Signed bytes ∷ xs) ys one two = each_both P xs ys one two
each_both P (effects.Stored place id src seq prio ∷ xs) ys one two = each_both P xs ys one two
each_both P (effects.Gone place id why ∷ xs) ys one two = each_both P xs ys one two
each_both P (effects.Delivered src seq payload ∷ xs) ys one two = each_both P xs ys one two
each_both P (effects.DeliveredPrio src seq payload ∷ xs) ys one two = each_both P xs ys one two
each_both P (effects.Ended flow ∷ xs) ys one two = each_both P xs ys one two
each_both P (effects.DeliveredKrel src seq payload ∷ xs) ys one two = each_both P xs ys one two
each_both P (effects.Kended flow ∷ xs) ys one two = each_both P xs ys one two
each_both P (effects.Version version ∷ xs) ys one two = each_both P xs ys one two

pub each_less : (P Q : WeightBody → Type 0) → ((u : WeightBody) → P u → Q u) → (es : List Effect) → EachHeld P es → EachHeld Q es
each_less P Q less [] h = tt
each_less P Q less (effects.WeightHeld origin edge seq weight ∷ es) h =
    (less (record { origin = origin; edge = edge; seq = seq; weight = weight }) h.0, each_less P Q less es h.1)
each_less P Q less (effects.Signed bytes ∷ es) h = each_less P Q less es h
each_less P Q less (effects.Stored place id src seq prio ∷ es) h = each_less P Q less es h
each_less P Q less (effects.Gone place id why ∷ es) h = each_less P Q less es h
each_less P Q less (effects.Delivered src seq payload ∷ es) h = each_less P Q less es h
each_less P Q less (effects.DeliveredPrio src seq payload ∷ es) h = each_less P Q less es h
each_less P Q less (effects.Ended flow ∷ es) h = each_less P Q less es h
each_less P Q less (effects.DeliveredKrel src seq payload ∷ es) h = each_less P Q less es h
each_less P Q less (effects.Kended flow ∷ es) h = each_less P Q less es h
each_less P Q less (effects.Version version ∷ es) h = each_less P Q less es h

pub no_both : (xs ys : List Effect) → NoUpdates xs → NoUpdates ys → NoUpdates (xs ++ ys)
no_both xs ys h k = record {
  last = λ edge end w. last_both edge end w xs ys ∙ ap (λ v. last_weight edge end v ys) (h.last edge end w) ∙ k.last edge end w;
  each = λ P. each_both P xs ys (h.each P) (k.each P);
}

pub no_signed : (bytes : List ℕ) (es : List Effect) → NoUpdates es → NoUpdates (effects.Signed bytes ∷ es)
no_signed bytes es h = record { last = λ edge end w. h.last edge end w; each = λ P. h.each P }

pub no_either : (t : Bool) (es : List Effect) → NoUpdates es → NoUpdates (cond t es [])
no_either true es h = h
no_either false es h = no_none

pub no_flat : {X : Type 0} (f : X → List Effect) → ((x : X) → NoUpdates (f x)) → (xs : List X) → NoUpdates (flat_map f xs)
no_flat f each [] = no_none
no_flat f each (x ∷ xs) = no_both (f x) (flat_map f xs) (each x) (no_flat f each xs)

pub no_gone : (place : ℕ) (why : Why) (e : Option Entry) → NoUpdates (rows.gone place why e)
no_gone place why None = no_none
no_gone place why (Some e) = record { last = λ edge end w. refl; each = λ P. tt }

no_stored : (place id : ℕ) (body : Body) → NoUpdates (rows.stored place id body)
no_stored place id (bodies.Prio p) = record { last = λ edge end w. refl; each = λ P. tt }
no_stored place id (bodies.Rel r) = no_none
no_stored place id (bodies.Ack a) = no_none
no_stored place id (bodies.Weight u) = no_none
no_stored place id (bodies.Krel u) = no_none
no_stored place id (bodies.Kack u) = no_none
no_stored place id (bodies.Epoch u) = no_none

no_put : (place : ℕ) (s : Store) (o : Kept) → NoUpdates (rows.put_effects place s o)
no_put place s o =
    no_both (rows.stored place (s.last + 1) o.body) (rows.gone place whys.Evicted (evicted s o)) (no_stored place (s.last + 1) o.body)
    (no_gone place whys.Evicted (evicted s o))

no_delivered : (body : Body) → NoUpdates (prio.delivered body)
no_delivered (bodies.Prio p) = record { last = λ edge end w. refl; each = λ P. tt }
no_delivered (bodies.Rel r) = no_none
no_delivered (bodies.Ack a) = no_none
no_delivered (bodies.Weight u) = no_none
no_delivered (bodies.Krel u) = no_none
no_delivered (bodies.Kack u) = no_none
no_delivered (bodies.Epoch u) = no_none

pub no_prio : (p : PrioState) (o : Kept) (came : Option NodeId) → NoUpdates (prio_effects p o came)
no_prio p o came = elim (cases_Bool (prio.is_here p o.body)) [
  | inl t ↦ let all = no_both (prio.delivered o.body) (rows.put_effects 0 p.inbox o) (no_delivered o.body) (no_put 0 p.inbox o) in rw t all
  | inr t ↦
      let all =
      no_flat (rows.given_effects o came)
      (λ q. no_either (rows.goes_to o.body came q) (rows.put_effects q.peer q.store o) (no_put q.peer q.store o)) p.peers in rw t all
]

no_left : (place : ℕ) (s : Store) (pairs : List (ℕ × ℕ)) → NoUpdates (rows.left_effects place s pairs)
no_left place s [] = no_none
no_left place s (pair ∷ pairs) =
    no_both (rows.gone place whys.Acked (entry_in s pair.1)) (rows.left_effects place (removed s pair.1) pairs)
    (no_gone place whys.Acked (entry_in s pair.1)) (no_left place (removed s pair.1) pairs)

pub no_acked : (p : PrioState) (v number : ℕ) → NoUpdates (prio.acked_effects p v number)
no_acked p v number = let q = prio.peer_in p v in no_left q.peer q.store (rows.landed q number)

no_expiring : (place : ℕ) (es : List Entry) → NoUpdates (map (λ e. effects.Gone place e.id whys.Expired) es)
no_expiring place [] = no_none
no_expiring place (e ∷ es) = let rest = no_expiring place es in record { last = λ edge end w. rest.last edge end w; each = λ P. rest.each P }

pub no_expired : (p : PrioState) (now : ℕ) → NoUpdates (prio.expired_effects p now)
no_expired p now =
    no_both (rows.expired_effects 0 p.inbox now) (flat_map (λ (q : PrioPeer). rows.expired_effects q.peer q.store now) p.peers)
    (no_expiring 0 (expired_entries p.inbox now))
    (no_flat (λ (q : PrioPeer). rows.expired_effects q.peer q.store now) (λ q. no_expiring q.peer (expired_entries q.store now)) p.peers)

pub no_rel : (t : Bool) (body : Body) → NoUpdates (cond t (delivery body ∷ []) [])
no_rel true body =
    record {
      last = λ edge end w. of_delivery (λ e. last_weight edge end w (e ∷ []) ≡ w) (λ src seq payload. refl) (λ src seq payload. refl) body;
      each = λ P. of_delivery (λ e. EachHeld P (e ∷ [])) (λ src seq payload. tt) (λ src seq payload. tt) body;
    }
no_rel false body = no_none

-- a flow that ended
pub no_ending : (kind : FlowKind) (flow : Flow) → NoUpdates (ending kind flow ∷ [])
no_ending kind flow = record {
  last = λ edge end w. of_ending (λ e. last_weight edge end w (e ∷ []) ≡ w) kind flow refl refl;
  each = λ P. of_ending (λ e. EachHeld P (e ∷ [])) kind flow tt tt;
}

pub no_restart : (kind : FlowKind) (r : RelState) (v : NodeId) → NoUpdates (restart_effects kind r v)
no_restart kind r v =
    no_flat (ended_by kind v) (λ f. no_either (is_end v (ends f) && f.active) (ending kind (ends f) ∷ []) (no_ending kind (ends f))) r.flows
