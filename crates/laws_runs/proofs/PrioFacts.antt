-- What each change of the priority part of a node keeps of the numbers of a source that were told.
use Rattle.std.proofs.Common.{◌≡◌, ◌<◌, ℕ, zero, suc, ◌+◌, ◌==◌, Bool, true, false, cond, eqb, List, [], ◌∷◌, ◌++◌, length, map, Option, Some, None, refl}
use Rattle.std.proofs.Common.{sym, ap, subst, ◌∙◌, inl, inr, arith, filter}
use Rattle.std.specs.Prelude.{◌⊎◌, ◌≢◌, ◌&&◌, slice_index_or, slice_set}
use Rattle.std.specs.List.{flat_map}
use Rattle.std.proofs.lemmas.Bool.{cases_Bool, cases_eq, eq-eqb, eqb-true}
use Rattle.std.proofs.lemmas.List.{get_or-set_other, get_or-set_same}
use Rattle.std.proofs.lemmas.List.Concat.{flat_map-append}
use Rattle.std.proofs.lemmas.List.Quantifiers.{all_pairs_push}
use Rattle.sp_base.specs.declared.id.Flow.{Flow}
use Rattle.sp_base.specs.declared.id.NodeId.{NodeId}
use Rattle.sp_msg.specs.declared.body.Body.{Body}
use Rattle.sp_msg.specs.declared.body.Body.TheVariants as bodies
use Rattle.sp_msg.specs.declared.effect.Effect.{Effect}
use Rattle.sp_msg.specs.declared.effect.Effect.TheVariants as effects
use Rattle.sp_msg.specs.declared.effect.Why.{Why}
use Rattle.sp_msg.specs.declared.effect.Why.TheVariants.{Acked, Evicted, Expired, Withdrawn}
use Rattle.sp_msg.specs.declared.kept.Kept.{Kept}
use Rattle.sp_rules.specs.Documents.{version_effects}
use Rattle.sp_rules.specs.Handle.{met_effects, weight_effects}
use Rattle.sp_rules.specs.Node.{NodeState}
use Rattle.sp_rules.specs.Parts.{Parts, nodes_of}
use Rattle.sp_rules.specs.Rel as rel
use Rattle.sp_rules.specs.Topologies.{is_shut, removed_of, weights_in}
use Rattle.sp_topology.specs.declared.topology.Topology.{Topology}
use Rattle.sp_rules.specs.Prio as prio
use Rattle.sp_rules.specs.Prio.{PrioState, acked_effects, is_here, is_node, place_of, prio_effects, renewed, spread, window_at, window_in, windows_with}
use Rattle.sp_rules.specs.PrioPeer as rows
use Rattle.sp_rules.specs.PrioPeer.{PrioPeer}
use Rattle.sp_rules.specs.Rel.{delivery, ended_by, ending, is_end, restart_effects}
use Rattle.sp_rules.specs.declared.kflow.FlowKind.{FlowKind}
use Rattle.sp_rules.specs.declared.kflow.FlowKind.TheVariants.{Plain, Paths}
use Rattle.sp_rules.specs.Flow.{FlowState, ends}
use Rattle.sp_rules.specs.Store.{Store, entry_in, expired_entries, removed}
use Rattle.sp_rules.specs.Window.{is_in, is_seen, with_mark}
use Rattle.sp_rules.specs.declared.store.Entry.{Entry}
use Rattle.laws_node.proofs.Updates.{place_within}
use Rattle.laws_node.proofs.WindowMarks.{marked_is_seen, seen_stays}
use Rattle.laws_node.proofs.WindowPlaces.{has_place, less_there, long_less, long_with}
use Rattle.sp_runs.specs.Told.{Message, prio_by}
use Rattle.laws_runs.specs.Priority.{AreOnce}
use Rattle.laws_runs.proofs.EachKind.{of_delivery, of_ending}

-- ---- effects without a priority delivery

pub record Mute (es : List Effect) : Type 0 where
  pub none : (s : NodeId) → flat_map (prio_by s) es ≡ []

pub mute_none : Mute []
mute_none = record { none = λ s. refl }

pub mute_append : (xs ys : List Effect) → Mute xs → Mute ys → Mute (xs ++ ys)
mute_append xs ys h k = record { none = λ s. flat_map-append (prio_by s) xs ys ∙ rw (h.none s, k.none s) refl }

pub mute_signed : (bytes : List ℕ) (es : List Effect) → Mute es → Mute (effects.Signed bytes ∷ es)
mute_signed bytes es h = record { none = λ s. h.none s }

mute_either : (t : Bool) (xs ys : List Effect) → Mute xs → Mute ys → Mute (cond t xs ys)
mute_either true xs ys h k = h
mute_either false xs ys h k = k

mute_flat : {X : Type 0} (f : X → List Effect) → ((x : X) → Mute (f x)) → (xs : List X) → Mute (flat_map f xs)
mute_flat f each [] = mute_none
mute_flat f each (x ∷ xs) = mute_append (f x) (flat_map f xs) (each x) (mute_flat f each xs)

pub mute_weight : (body : Body) → Mute (weight_effects body)
mute_weight (bodies.Prio p) = mute_none
mute_weight (bodies.Rel r) = mute_none
mute_weight (bodies.Ack a) = mute_none
mute_weight (bodies.Weight u) = record { none = λ s. refl }
mute_weight (bodies.Krel a) = mute_none
mute_weight (bodies.Kack a) = mute_none
mute_weight (bodies.Epoch a) = mute_none

pub mute_gone : (place : ℕ) (why : Why) (e : Option Entry) → Mute (rows.gone place why e)
mute_gone place why None = mute_none
mute_gone place why (Some e) = record { none = λ s. refl }

mute_stored : (place id : ℕ) (body : Body) → Mute (rows.stored place id body)
mute_stored place id (bodies.Prio p) = record { none = λ s. refl }
mute_stored place id (bodies.Rel r) = mute_none
mute_stored place id (bodies.Ack a) = mute_none
mute_stored place id (bodies.Weight u) = mute_none
mute_stored place id (bodies.Krel u) = mute_none
mute_stored place id (bodies.Kack u) = mute_none
mute_stored place id (bodies.Epoch u) = mute_none

pub mute_put : (place : ℕ) (s : Store) (o : Kept) → Mute (rows.put_effects place s o)
mute_put place s o = mute_append (rows.stored place (s.last + 1) o.body) _ (mute_stored place (s.last + 1) o.body) (mute_gone place Evicted _)

pub mute_given : (p : PrioState) (o : Kept) (came : Option NodeId) → Mute (flat_map (rows.given_effects o came) p.peers)
mute_given p o came = mute_flat (rows.given_effects o came)
    (λ q. mute_either (rows.goes_to o.body came q) (rows.put_effects q.peer q.store o) [] (mute_put q.peer q.store o) mute_none) p.peers

mute_left : (place : ℕ) (s : Store) (pairs : List (ℕ × ℕ)) → Mute (rows.left_effects place s pairs)
mute_left place s [] = mute_none
mute_left place s (pair ∷ pairs) =
    mute_append (rows.gone place Acked (entry_in s pair.1)) (rows.left_effects place (removed s pair.1) pairs)
    (mute_gone place Acked (entry_in s pair.1)) (mute_left place (removed s pair.1) pairs)

pub mute_acked : (p : PrioState) (v number : ℕ) → Mute (acked_effects p v number)
mute_acked p v number = let q = prio.peer_in p v in mute_left q.peer q.store (rows.landed q number)

mute_leaving : (why : Why) (place : ℕ) (es : List Entry) → Mute (map (λ e. effects.Gone place e.id why) es)
mute_leaving why place [] = mute_none
mute_leaving why place (e ∷ es) = let rest = mute_leaving why place es in record { none = λ s. rest.none s }

pub mute_expired : (p : PrioState) (now : ℕ) → Mute (prio.expired_effects p now)
mute_expired p now =
    mute_append (rows.expired_effects 0 p.inbox now) _ (mute_leaving Expired 0 (expired_entries p.inbox now))
    (mute_flat (λ (q : PrioPeer). rows.expired_effects q.peer q.store now) (λ q. mute_leaving Expired q.peer (expired_entries q.store now)) p.peers)

mute_over : (t : Bool) (kind : FlowKind) (flow : Flow) → Mute (cond t (ending kind flow ∷ []) [])
mute_over true kind flow = of_ending (λ e. Mute (e ∷ [])) kind flow (record { none = λ s. refl }) (record { none = λ s. refl })
mute_over false kind flow = mute_none

mute_ends : (kind : FlowKind) (gone : List NodeId) (r : rel.RelState) → Mute (rel.closed_effects kind r gone)
mute_ends kind gone r = mute_flat (rel.ended_effect kind gone) (λ f. mute_over (f.active && rel.is_over gone (ends f)) kind (ends f)) r.flows

-- another version of the topology
pub mute_version : (n : NodeState) (t : Topology) → Mute (version_effects n t)
mute_version n t =
    let least = weights_in t.edges in
    let gone = removed_of (nodes_of t) t.edges in
    let plain = rel.closed_effects Plain n.parts.rel gone in
    let paths = rel.closed_effects Paths n.parts.kflow.flows gone in
    let h =
    mute_append (prio.closed_effects n.parts.prio least gone) (plain ++ paths)
    (mute_flat (rows.closed_effects least gone) (λ q. mute_leaving Withdrawn q.peer (filter (rows.leaves (is_shut least q.edge) gone) q.store.entries))
    n.parts.prio.peers)
    (mute_append plain paths (mute_ends Plain gone n.parts.rel) (mute_ends Paths gone n.parts.kflow.flows)) in
    record { none = λ s. h.none s }

pub mute_rel : (t : Bool) (body : Body) → Mute (cond t (delivery body ∷ []) [])
mute_rel true body =
    of_delivery (λ e. Mute (e ∷ [])) (λ src seq payload. record { none = λ s. refl }) (λ src seq payload. record { none = λ s. refl }) body
mute_rel false body = mute_none

mute_restart : (kind : FlowKind) (v : NodeId) (fs : List FlowState) → Mute (flat_map (ended_by kind v) fs)
mute_restart kind v fs = mute_flat (ended_by kind v) (λ f. mute_over (is_end v (ends f) && f.active) kind (ends f)) fs

-- flows of both kinds
pub mute_met : (p : Parts) (v : NodeId) → Mute (met_effects p v)
mute_met p v =
    mute_append (restart_effects Plain p.rel v) (restart_effects Paths p.kflow.flows v) (mute_restart Plain v p.rel.flows)
    (mute_restart Paths v p.kflow.flows.flows)

-- an own message for another node is delivered to none
pub mute_own : (p : PrioState) (o : Kept) → is_here p o.body ≡ false → Mute (prio_effects p o None)
mute_own p o away = rw away (mute_given p o None)

-- ---- numbers

pub in_last : (q q0 : ℕ) (xs : List ℕ) → is_in q (xs ++ q0 ∷ []) ≡ true → (is_in q xs ≡ true) ⊎ (q0 ≡ q)
in_last q q0 [] i = elim (cases_Bool (eqb q0 q)) [ inl t ↦ inr (eqb-true _ _ t) | inr t ↦ absurd (let f : false ≡ true = rw t at i in cc) ]
in_last q q0 (x ∷ xs) i = elim (cases_Bool (eqb x q)) [
  | inl t ↦ inl (rw t refl)
  | inr t ↦ elim (in_last q q0 xs (rw t at i)) [ inl h ↦ inl (rw (t, h) refl) | inr h ↦ inr h ]
]

-- what stands at a place is among them
at_place : (xs : List ℕ) (k d : ℕ) → k < length xs → is_in (slice_index_or xs k d) xs ≡ true
at_place [] k d inside = absurd (omega (arith, inside))
at_place (x ∷ xs) zero d inside = rw (eq-eqb x x refl) refl
at_place (x ∷ xs) (suc k) d inside = let rest = at_place xs k d (omega (arith, inside)) in elim
    (cases_Bool (eqb x (slice_index_or xs k d))) [ inl t ↦ rw t refl | inr t ↦ rw (t, rest) refl ]

once_last : (q0 : ℕ) (xs : List ℕ) → is_in q0 xs ≡ false → AreOnce xs → AreOnce (xs ++ q0 ∷ [])
once_last q0 xs new once = all_pairs_push (λ p q. p ≢ q) xs q0 once (λ k d inside same.
    let f : true ≡ false = sym (at_place xs k d inside) ∙ ap (λ (q : ℕ). is_in q xs) same ∙ new in absurd cc)

pub none_once : AreOnce []
none_once = λ i j d less inside. absurd (omega (arith, inside))

-- ---- windows

with_window : (windows : List (List ℕ)) (a b : Option ℕ) (seq q : ℕ) → ((i : ℕ) → a ≡ Some i → i < length windows) → is_seen (window_at windows b) q ≡ true
    → is_seen (window_at (windows_with windows a seq) b) q ≡ true
with_window windows None b seq q inside h = h
with_window windows (Some i) None seq q inside h = h
with_window windows (Some i) (Some k) seq q inside h =
    let new = with_mark (slice_index_or windows i []) seq in
    elim (cases_eq k i) [
      | inl same ↦
          let at : slice_index_or (slice_set windows i new) k [] ≡ new = ap (λ n. slice_index_or (slice_set windows i new) n []) same
          ∙ get_or-set_same windows i new [] (inside i refl) in
          subst (λ (w : List ℕ). is_seen w q ≡ true) (sym at)
          (seen_stays (slice_index_or windows i []) seq q (subst (λ n. is_seen (slice_index_or windows n []) q ≡ true) same h))
      | inr other ↦
          let at : slice_index_or (slice_set windows i new) k [] ≡ slice_index_or windows k [] = get_or-set_other windows i k new [] other in
          subst (λ (w : List ℕ). is_seen w q ≡ true) (sym at) h
    ]

marked_there : (windows : List (List ℕ)) (i seq : ℕ) → i < length windows → is_seen (window_at (windows_with windows (Some i) seq) (Some i)) seq ≡ true
marked_there windows i seq inside =
    let new = with_mark (slice_index_or windows i []) seq in
    subst (λ (w : List ℕ). is_seen w seq ≡ true) (sym (get_or-set_same windows i new [] inside)) (marked_is_seen (slice_index_or windows i []) seq)

-- ---- what stands at a correct d: each number of s that was told is seen, and none was told twice

pub record PrioIs (s d : NodeId) (told : List ℕ) (p : PrioState) : Type 0 where
  pub me : p.me ≡ d.0
  pub len : length p.windows ≡ length p.nodes
  pub seen : (q : ℕ) → is_in q told ≡ true → is_seen (window_in p s.0) q ≡ true
  pub once : AreOnce told

pub same_windows : (s d : NodeId) (told : List ℕ) (p p2 : PrioState) → p2.me ≡ p.me → p2.nodes ≡ p.nodes → p2.windows ≡ p.windows → PrioIs s d told p
    → PrioIs s d told p2
same_windows s d told p p2 e f g h = record { me = e ∙ h.me; len = rw (f, g) h.len; seen = rw (f, g) h.seen; once = h.once }

inside : (p : PrioState) (id : ℕ) → length p.windows ≡ length p.nodes → (i : ℕ) → place_of p.nodes id ≡ Some i → i < length p.windows
inside p id len i e = let within = place_within (λ (n : NodeId). n.0 == id) p.nodes i e in omega (arith, within, len)

-- a number is marked
pub marks : (s d : NodeId) (told : List ℕ) (p p2 : PrioState) (src seq : ℕ) → p2.me ≡ p.me → p2.nodes ≡ p.nodes
    → p2.windows ≡ windows_with p.windows (place_of p.nodes src) seq → PrioIs s d told p
    → PrioIs s d told p2
marks s d told p p2 src seq e f g h = record {
  me = e ∙ h.me;
  len = rw (f, g) (long_with p.windows (place_of p.nodes src) seq ∙ h.len);
  seen = λ q i. rw (f, g) (with_window p.windows (place_of p.nodes src) (place_of p.nodes s.0) seq q (inside p src h.len) (h.seen q i));
  once = h.once;
}

-- a number of s that was not seen is marked, and told
pub marks_told : (s d : NodeId) (told : List ℕ) (p p2 : PrioState) (seq : ℕ) → p2.me ≡ p.me → p2.nodes ≡ p.nodes
    → p2.windows ≡ windows_with p.windows (place_of p.nodes s.0) seq → is_node p.nodes s.0 ≡ true
    → is_seen (window_in p s.0) seq ≡ false → PrioIs s d told p → PrioIs s d (told ++ seq ∷ []) p2
marks_told s d told p p2 seq e f g node unseen h =
    let old = marks s d told p p2 s.0 seq e f g h in
    let at = has_place p.nodes s.0 node in
    let now : is_seen (window_in p2 s.0) seq ≡ true =
    rw (f, g, at.1) (marked_there p.windows at.0 seq (inside p s.0 h.len at.0 at.1)) in
    record {
      me = old.me;
      len = old.len;
      seen = λ q i. elim (in_last q seq told i) [ inl was ↦ old.seen q was | inr is ↦ subst (λ n. is_seen (window_in p2 s.0) n ≡ true) is now ];
      once = once_last seq told (elim
          (cases_Bool (is_in seq told)) [ inl t ↦ absurd (let k = h.seen seq t in let k2 : true ≡ false = sym k ∙ unseen in cc) | inr t ↦ t ]) h.once;
    }

-- another life of s began: none of its numbers was told
pub begun : (s d v : NodeId) (told : List ℕ) (p : PrioState) → PrioIs s d told p → PrioIs s d [] (renewed p v.0)
begun s d v told p h = record {
  me = h.me;
  len = long_less p.windows (place_of p.nodes v.0) ∙ h.len;
  seen = λ q i. absurd (let f : false ≡ true = i in cc);
  once = none_once;
}

-- another life of another node began
pub other_begun : (s d v : NodeId) (told : List ℕ) (p : PrioState) → (v.0 ≡ s.0 → ⊥) → PrioIs s d told p → PrioIs s d told (renewed p v.0)
other_begun s d v told p other h = record {
  me = h.me;
  len = long_less p.windows (place_of p.nodes v.0) ∙ h.len;
  seen = λ q i. subst (λ (w : List ℕ). is_seen w q ≡ true) (sym (less_there p.windows p.nodes v.0 s.0 other)) (h.seen q i);
  once = h.once;
}

pub spread_same : (s : PrioState) (o : Kept) (came : Option NodeId)
    → ((spread s o came).me ≡ s.me) × ((spread s o came).nodes ≡ s.nodes) × ((spread s o came).windows ≡ s.windows)
spread_same s o came = elim (cases_Bool (is_here s o.body)) [ inl t ↦ rw t (refl, refl, refl) | inr t ↦ rw t (refl, refl, refl) ]

-- what is told at a node
abbrev pub prio_numbers : NodeId → List Effect → List ℕ
prio_numbers s es = map (λ (m : Message). m.0) (flat_map (prio_by s) es)
