-- The version that a node keeps of a neighbour never falls while that one's known boot doesn't rise.
use Rattle.std.proofs.Common.{◌≡◌, ◌≤◌, ℕ, ◌==◌, Bool, true, false, cond, List, [], ◌∷◌, Option, Some, None, refl, sym, ap, subst, ◌∙◌}
use Rattle.std.proofs.Common.{arith}
use Rattle.std.proofs.lemmas.Bool.{eqb-true}
use Rattle.sp_base.specs.declared.id.NodeId.{NodeId}
use Rattle.sp_rules.specs.Arts.{Arts}
use Rattle.sp_rules.specs.Arrivals.{before_document, document_at, is_told, read_by, rises, version_after}
use Rattle.sp_rules.specs.Node.{NodeState, call_refusal, kept_or, link_in, version_of}
use Rattle.sp_rules.specs.Sends.{rel_refusal, send_prio_refusal, weight_refusal}
use Rattle.sp_rules.specs.Steps.{Input, NodeStep, Output, Poll, Datagram, Tick, SendRel, SendPrio, SetWeight, TakeRel, TakePrio, SendKrel, TakeKrel, Publish}
use Rattle.sp_rules.specs.Ticks.{after_tick}
use Rattle.laws_progress.proofs.Ticked.{ticked}
use Rattle.sp_base.specs.Rows.{first_where}
use Rattle.sp_rules.specs.Versions.{Heard, is_heard_of, kept_version, none_heard, version_in, with_version}
use Rattle.sp_rules.specs.declared.node.NodeRefused.{NodeRefused}
use Rattle.sp_rules.specs.KflowSends.{send_krel_refusal}
use Rattle.laws_node.proofs.Adopting.{publishing}
use Rattle.laws_runs.proofs.Tables.{same_node}
use Rattle.laws_progress.proofs.Versions.{read_known}

-- ---- the row of a neighbour

-- another version in the row of u
put_heard : (rows : List Heard) (u v : NodeId) (version : ℕ) → (u ≡ v → version_in rows v ≤ version)
    → version_in rows v ≤ version_in (with_version rows u version) v
put_heard [] u v version low = omega arith
put_heard (h ∷ rows) u v version low = go (put_heard rows u v version) (is_heard_of u h) refl (is_heard_of v h) refl (u.0 == v.0) refl
  where
    new : Heard
    new = record { peer = u; version = version }

    go : ((u ≡ v → version_in rows v ≤ version) → version_in rows v ≤ version_in (with_version rows u version) v)
        → (a : Bool) → is_heard_of u h ≡ a → (b : Bool) → is_heard_of v h ≡ b → (c : Bool) → (u.0 == v.0) ≡ c
        → (cond b h (first_where (is_heard_of v) (none_heard v) rows)).version
        ≤ version_in (cond a (new ∷ rows) (h ∷ with_version rows u version)) v
    go rest true one b two true three =
        let same = same_node u v (eqb-true _ _ three) in
        let here : b ≡ true = sym two ∙ ap (λ (q : NodeId). is_heard_of q h) (sym same) ∙ one in
        let most : (first_where (is_heard_of v) (none_heard v) (h ∷ rows)).version ≤ version = low same in
        let is : (first_where (is_heard_of v) (none_heard v) (new ∷ rows)).version ≡ version =
        ap (λ (t : Bool). (cond t new (first_where (is_heard_of v) (none_heard v) rows)).version) three in
        let was : (first_where (is_heard_of v) (none_heard v) (h ∷ rows)).version ≡ (cond b h (first_where (is_heard_of v) (none_heard v) rows)).version =
        ap (λ (t : Bool). (cond t h (first_where (is_heard_of v) (none_heard v) rows)).version) two in
        omega (arith, most, is, was)
    go rest true one b two false three =
        let away : b ≡ false = sym two ∙ ap (λ k. k == v.0) (eqb-true h.peer.0 u.0 one) ∙ three in
        let is : (first_where (is_heard_of v) (none_heard v) (new ∷ rows)).version ≡ (first_where (is_heard_of v) (none_heard v) rows).version =
        ap (λ (t : Bool). (cond t new (first_where (is_heard_of v) (none_heard v) rows)).version) three in
        let was = ap (λ (t : Bool). (cond t h (first_where (is_heard_of v) (none_heard v) rows)).version) away in
        omega (arith, is, was)
    go rest false one true two c three =
        let is : (first_where (is_heard_of v) (none_heard v) (h ∷ with_version rows u version)).version ≡ h.version =
        ap (λ (t : Bool). (cond t h (first_where (is_heard_of v) (none_heard v) (with_version rows u version))).version) two in
        omega (arith, is)
    go rest false one false two c three =
        let is : (first_where (is_heard_of v) (none_heard v) (h ∷ with_version rows u version)).version ≡ version_in (with_version rows u version) v =
        ap (λ (t : Bool). (cond t h (first_where (is_heard_of v) (none_heard v) (with_version rows u version))).version) two in
        let was : version_in (h ∷ rows) v ≡ version_in rows v =
        ap (λ (t : Bool). (cond t h (first_where (is_heard_of v) (none_heard v) rows)).version) two in
        let later = rest (λ same. (let most = low same in omega (arith, most, was))) in
        omega (arith, is, later)

-- ---- steps

abbrev NeverFalls : NodeState → NodeId → NodeState → Type 0
NeverFalls n v m = version_of n v ≤ version_of m v

same_heard : (n m : NodeState) (v : NodeId) → m.heard ≡ n.heard → NeverFalls n v m
same_heard n m v same = let e = ap (λ rows. version_in rows v) same in omega (arith, e)

kept_heard : {X : Type 0} (r : Option X) (n m : NodeState) (v : NodeId) → m.heard ≡ n.heard → NeverFalls n v (kept_or r n m)
kept_heard None n m v same = same_heard n m v same
kept_heard (Some x) n m v same = omega arith

more_kept : (epochs known : Bool) (kept theirs : ℕ) → kept ≤ kept_version epochs false known kept theirs
more_kept false known kept theirs = omega arith
more_kept true true kept theirs = omega arith
more_kept true false kept theirs = omega arith

met_heard : (arts : Arts) (n : NodeState) (u v : NodeId) (bytes : List ℕ) → (u ≡ v → rises arts n u bytes ≡ false)
    → NeverFalls n v (before_document arts n u bytes)
met_heard arts n u v bytes low = go (is_told arts n u bytes)
  where
    more : u ≡ v → version_in n.heard v ≤ version_after arts n u bytes
    more same =
        let own : version_in n.heard v ≡ version_of n u = ap (version_in n.heard) (sym same) in
        let risen = low same in
        let least : version_of n u ≤ version_after arts n u bytes =
        subst (λ t. version_of n u
        ≤ kept_version n.fixed.epochs t ((arts.head bytes).boot == (link_in n u).peer_boot) (version_of n u) (arts.head bytes).topology) (sym risen)
        (more_kept n.fixed.epochs ((arts.head bytes).boot == (link_in n u).peer_boot) (version_of n u) (arts.head bytes).topology) in
        omega (arith, own, least)

    go : (t : Bool) → version_in n.heard v ≤ version_in (cond t (with_version n.heard u (version_after arts n u bytes)) n.heard) v
    go true = put_heard n.heard u v (version_after arts n u bytes) more
    go false = omega arith

pub heard_rises : (arts : Arts) (n : NodeState) (i : Input) (o : Output) (m : NodeState) (v : NodeId) → NodeStep arts n i o m
    → ((bytes : List ℕ) → i ≡ Datagram v bytes → rises arts n v bytes ≡ false) → NeverFalls n v m
heard_rises arts n (Poll u) o m v s low = subst (NeverFalls n v) (sym s.1) (kept_heard (call_refusal n u) n _ v refl)
heard_rises arts n (Datagram u bytes) o m v s low = subst (NeverFalls n v) (sym s.1) (go (call_refusal n u))
  where
    left : NodeState
    left = before_document arts n u bytes

    go : (r : Option NodeRefused) → NeverFalls n v (kept_or r n (read_by arts left (document_at arts n u bytes)))
    go (Some refused) = omega arith
    go None =
        let same = ap (λ rows. version_in rows v) (read_known arts left (document_at arts n u bytes)).heard in
        let met = met_heard arts n u v bytes
        (λ same. ap (λ (w : NodeId). rises arts n w bytes) same ∙ low bytes (ap (λ (w : NodeId). Datagram w bytes) same)) in
        omega (arith, same, met)
heard_rises arts n (Tick now) o m v s low =
    subst (NeverFalls n v) (sym s.1) (same_heard n (after_tick arts n now) v (ticked (λ q. q.heard ≡ n.heard) arts n now refl (λ o. refl) (λ q r same. same)))
heard_rises arts n (SendRel dst payload) o m v s low = subst (NeverFalls n v) (sym s.1) (kept_heard (rel_refusal n dst) n _ v refl)
heard_rises arts n (SendPrio q) o m v s low = subst (NeverFalls n v) (sym s.new_is) (kept_heard (send_prio_refusal n q s.choice) n _ v refl)
heard_rises arts n (SetWeight u weight) o m v s low = subst (NeverFalls n v) (sym s.1) (kept_heard (weight_refusal n u weight) n _ v refl)
heard_rises arts n (TakeRel src) o m v s low = subst (NeverFalls n v) (sym s.1) (omega arith)
heard_rises arts n (SendKrel q) o m v s low = subst (NeverFalls n v) (sym s.new_is) (kept_heard (send_krel_refusal n q s.choice) n _ v refl)
heard_rises arts n (TakeKrel src) o m v s low = subst (NeverFalls n v) (sym s.1) (omega arith)
heard_rises arts n TakePrio o m v s low = subst (NeverFalls n v) (sym s.1) (omega arith)
heard_rises arts n (Publish document) o m v s low =
    subst (NeverFalls n v) (sym s.1) (publishing arts n document (λ q told. NeverFalls n v q) (omega arith) (λ d reads by. omega arith))
