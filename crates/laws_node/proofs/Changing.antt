-- Over any step: the administrator alone changes the topology of a node, its version never falls, and no removed node returns.
use Rattle.std.proofs.Common.{ap, ap₂, arith, cond, Bool, ◌&&◌, ◌||◌, ◌==◌, ◌≡◌, ◌∙◌, ℕ, true, false, not, List, [], ◌∷◌, length, map, Option}
use Rattle.std.proofs.Common.{Some, None, refl, subst, sym, inl, inr}
use Rattle.std.specs.Prelude.{◌⊎◌}
use Rattle.std.specs.List.{list_any}
use Rattle.sp_base.specs.declared.id.NodeId.{NodeId}
use Rattle.sp_msg.specs.declared.body.Ack.{Ack}
use Rattle.sp_msg.specs.declared.refused.SendRefused.{SendRefused}
use Rattle.sp_rules.specs.Arrivals.{before_document, document_at, read_by}
use Rattle.sp_rules.specs.Arts.{Arts, Document}
use Rattle.sp_rules.specs.Documents.{under_topology}
use Rattle.sp_rules.specs.KflowSends.{send_krel_refusal}
use Rattle.sp_rules.specs.Node.{NodeState, call_refusal, kept_or, topology_now}
use Rattle.sp_rules.specs.Parts.{Fixed, nodes_of}
use Rattle.sp_rules.specs.Rel.{is_one_of}
use Rattle.sp_rules.specs.Sends.{rel_refusal, send_prio_refusal, signer_refusal, weight_refusal}
use Rattle.sp_rules.specs.Steps.{Poll, Datagram, Tick, SendRel, SendPrio, SetWeight, TakeRel, TakePrio, SendKrel, TakeKrel, Publish}
use Rattle.sp_rules.specs.Ticks.{after_plain, at_time, due_now, second_refusal, settled_by}
use Rattle.sp_rules.specs.Topologies.{is_removed, removed_of, returns, under, weights_in}
use Rattle.sp_rules.specs.Versions.{Live}
use Rattle.sp_rules.specs.declared.kflow.FlowKind.{FlowKind}
use Rattle.sp_rules.specs.declared.kflow.FlowKind.TheVariants.{Plain, Paths}
use Rattle.sp_topology.specs.declared.topology.Edge.{Edge}
use Rattle.sp_topology.specs.declared.topology.LmsHeight.{LmsHeight}
use Rattle.sp_topology.specs.declared.topology.NodeKey.{NodeKey}
use Rattle.sp_topology.specs.declared.topology.Topology.{Topology}
use Rattle.laws_node.specs.Shapes.{Shape}
use Rattle.laws_node.specs.Withdrawals.{Obeys, Adopts, OnlyTheAdministratorChanges, RisesTo, VersionsRise, removed_now}
use Rattle.laws_node.proofs.Adopting.{IsAdopted, publishing, reading}
use Rattle.laws_node.proofs.Shapes.{shapes_stay}
use Rattle.laws_node.proofs.Successors.{Later, later, under_later}
use Rattle.laws_node.proofs.Tables.{or_right}

-- ---- the node that adopted a document

now_is : (n : NodeState) (bytes : List ℕ) (t : Topology) → length n.live.weights ≡ length n.fixed.topology.edges → Later (topology_now n) t
    → topology_now (under_topology n bytes t) ≡ t
now_is n bytes t count l =
    let edges = under n.fixed.topology.edges (weights_in t.edges) in
    let first = n.fixed.topology in
    ap (λ (format : ℕ). record { format = format; version = t.version; height = first.height; nodes = first.nodes; edges = edges }) l.format
    ∙ ap₂ (λ (h : LmsHeight) (ns : List NodeKey). record { format = t.format; version = t.version; height = h; nodes = ns; edges = edges }) l.height l.nodes
    ∙ ap (λ (es : List Edge). record { format = t.format; version = t.version; height = t.height; nodes = t.nodes; edges = es })
    (under_later n.fixed.topology.edges n.live.weights t.edges count l.ends)

adopts : (arts : Arts) (n : NodeState) (bytes : List ℕ) (d : Document) → length n.live.weights ≡ length n.fixed.topology.edges
    → arts.read_document bytes ≡ Some d → IsAdopted arts n d → Adopts arts n (under_topology n bytes d.topology)
adopts arts n bytes d count reads by =
    let l = later (topology_now n) d.topology by.follows in
    record {
      bytes = bytes;
      document = d;
      reads = reads;
      signed = by.signed;
      follows = by.follows;
      rises = l.above;
      version = refl;
      bytes_are = refl;
      topology = now_is n bytes d.topology count l;
    }

-- ---- the topology

abbrev Changes : Arts → (old new : NodeState) → Type 0
Changes arts old new = (new.live ≡ old.live) ⊎ Adopts arts old new

kept_live : {R : Type 0} (arts : Arts) (old done : NodeState) (r : Option R) → Changes arts old done → Changes arts old (kept_or r old done)
kept_live arts old done (Some x) h = inl refl
kept_live arts old done None h = h

settled_live : (arts : Arts) (kind : FlowKind) (n : NodeState) (o : Option Ack) (r : Option SendRefused) → (settled_by arts kind n o r).live ≡ n.live
settled_live arts kind n None r = refl
settled_live arts kind n (Some ack) (Some refusal) = refl
settled_live arts kind n (Some ack) None = refl

-- a document that came in a frame is read by the node whose link and pieces were handled, under the same topology
read_changes : (arts : Arts) (n : NodeState) (v : NodeId) (bytes : List ℕ) → length n.live.weights ≡ length n.fixed.topology.edges
    → Changes arts n (read_by arts (before_document arts n v bytes) (document_at arts n v bytes))
read_changes arts n v bytes count =
    reading arts left (document_at arts n v bytes) (λ m told. Changes arts n m) (inl refl)
    (λ document d is reads by. inr (from_the_same document d (adopts arts left document d count reads by)))
  where
    left : NodeState
    left = before_document arts n v bytes

    from_the_same : (document : List ℕ) (d : Document) → Adopts arts left (under_topology left document d.topology)
        → Adopts arts n (under_topology left document d.topology)
    from_the_same document d a = record {
      bytes = a.bytes;
      document = a.document;
      reads = a.reads;
      signed = a.signed;
      follows = a.follows;
      rises = a.rises;
      version = a.version;
      bytes_are = a.bytes_are;
      topology = a.topology;
    }

pub only_the_administrator_changes : OnlyTheAdministratorChanges
only_the_administrator_changes arts n (Poll v) output new kept s =
    subst (λ (m : NodeState). Changes arts n m) (sym s.1) (kept_live arts n _ (call_refusal n v) (inl refl))
only_the_administrator_changes arts n (Datagram v bytes) output new kept s =
    subst (λ (m : NodeState). Changes arts n m) (sym s.1)
    (kept_live arts n (read_by arts (before_document arts n v bytes) (document_at arts n v bytes)) (call_refusal n v)
    (read_changes arts n v bytes kept.weights))
only_the_administrator_changes arts n (Tick now) output new kept s =
    inl (ap (λ (m : NodeState). m.live) s.1 ∙ settled_live arts Paths (after_plain arts n now) (due_now Paths n) (second_refusal arts n now)
    ∙ settled_live arts Plain (at_time n now) (due_now Plain n) (signer_refusal n.signer))
only_the_administrator_changes arts n (SendRel dst payload) output new kept s =
    subst (λ (m : NodeState). Changes arts n m) (sym s.1) (kept_live arts n _ (rel_refusal n dst) (inl refl))
only_the_administrator_changes arts n (SendPrio m) output new kept s =
    subst (λ (x : NodeState). Changes arts n x) (sym s.new_is) (kept_live arts n _ (send_prio_refusal n m s.choice) (inl refl))
only_the_administrator_changes arts n (SetWeight v weight) output new kept s =
    subst (λ (m : NodeState). Changes arts n m) (sym s.1) (kept_live arts n _ (weight_refusal n v weight) (inl refl))
only_the_administrator_changes arts n (TakeRel src) output new kept s = inl (ap (λ (m : NodeState). m.live) s.1)
only_the_administrator_changes arts n (SendKrel m) output new kept s =
    subst (λ (x : NodeState). Changes arts n x) (sym s.new_is) (kept_live arts n _ (send_krel_refusal n m s.choice) (inl refl))
only_the_administrator_changes arts n (TakeKrel src) output new kept s = inl (ap (λ (m : NodeState). m.live) s.1)
only_the_administrator_changes arts n TakePrio output new kept s = inl (ap (λ (m : NodeState). m.live) s.1)
only_the_administrator_changes arts n (Publish document) output new kept s =
    subst (λ (m : NodeState). Changes arts n m) (sym s.1)
    (publishing arts n document (λ m told. Changes arts n m) (inl refl) (λ d reads by. inr (adopts arts n document d kept.weights reads by)))

-- ---- versions rise, and removed nodes stay removed

stay_removed : (u : NodeId) (old new : List Edge) (nodes : List NodeKey) → list_any (returns old new) nodes ≡ false
    → is_one_of (removed_of (map (λ n. n.id) nodes) old) u ≡ true → is_one_of (removed_of (map (λ n. n.id) nodes) new) u ≡ true
stay_removed u old new [] none is = absurd (cc)
stay_removed u old new (n ∷ nodes) none is =
    go (is_removed old n.id.0) (is_removed new n.id.0) (list_any (returns old new) nodes) (stay_removed u old new nodes) none is
  where
    ids : List NodeId
    ids = map (λ m. m.id) nodes

    same_first : (t a b : Bool) → (a ≡ true → b ≡ true) → (t || a) ≡ true → (t || b) ≡ true
    same_first true a b h e = refl
    same_first false a b h e = h e

    go : (a b c : Bool) → (c ≡ false → is_one_of (removed_of ids old) u ≡ true → is_one_of (removed_of ids new) u ≡ true)
        → ((a && not b) || c) ≡ false
        → is_one_of (cond a (n.id ∷ removed_of ids old) (removed_of ids old)) u ≡ true
        → is_one_of (cond b (n.id ∷ removed_of ids new) (removed_of ids new)) u ≡ true
    go true true c rest none is = same_first (n.id.0 == u.0) (is_one_of (removed_of ids old) u) (is_one_of (removed_of ids new) u) (rest none) is
    go true false c rest none is = absurd (cc)
    go false true c rest none is = or_right (n.id.0 == u.0) (is_one_of (removed_of ids new) u) (rest none is)
    go false false c rest none is = rest none is

pub versions_rise : VersionsRise
versions_rise arts n input output new kept s = go (only_the_administrator_changes arts n input output new kept s)
  where
    fixed : new.fixed ≡ n.fixed
    fixed = ap (λ (x : Shape). x.fixed) (shapes_stay arts n input output new s)

    go : (new.live ≡ n.live) ⊎ Adopts arts n new → RisesTo n new
    go (inl same) = record {
      version = let e : new.live.version ≡ n.live.version = ap (λ (l : Live). l.version) same in omega (arith, e);
      removed = λ u is. subst (λ (x : List NodeId). is_one_of x u ≡ true)
          (sym (ap₂ (λ (l : Live) (f : Fixed). removed_of (nodes_of f.topology) (under f.topology.edges l.weights)) same fixed)) is;
    }
    go (inr a) =
        let l = later (topology_now n) a.document.topology a.follows in
        record {
          version = omega (arith, a.rises);
          removed = λ u is.
              let stays = stay_removed u (topology_now n).edges a.document.topology.edges n.fixed.topology.nodes l.stay is in
              subst (λ (x : List NodeId). is_one_of x u ≡ true)
              (ap₂ (λ (es : List Edge) (f : Fixed). removed_of (nodes_of f.topology) es) (sym (ap (λ (t : Topology). t.edges) a.topology)) (sym fixed)) stays;
        }

-- a node that the parts know as removed is removed in each version that follows
pub still_removed : (arts : Arts) (n : NodeState) (d : Document) → IsAdopted arts n d → Obeys n → (u : NodeId) → is_one_of n.parts.rel.removed u ≡ true
    → is_one_of (removed_of (nodes_of d.topology) d.topology.edges) u ≡ true
still_removed arts n d by h u is =
    let l = later (topology_now n) d.topology by.follows in
    let known : is_one_of (removed_now n) u ≡ true = subst (λ (x : List NodeId). is_one_of x u ≡ true) h.rel is in
    subst (λ (ns : List NodeKey). is_one_of (removed_of (map (λ m. m.id) ns) d.topology.edges) u ≡ true) l.nodes
    (stay_removed u (topology_now n).edges d.topology.edges n.fixed.topology.nodes l.stay known)
