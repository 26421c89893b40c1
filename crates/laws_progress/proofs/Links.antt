-- What a step does to the link of a neighbour, and what a link is in each state: its frames are counted by the polls.
use Rattle.laws_node.proofs.Adopting.{publishing, reading}
use Rattle.std.proofs.Common.{◌≡◌, ℕ, true, List, [], Option, Some, None, refl, sym, ap, subst, ◌∙◌, inl, inr}
use Rattle.std.specs.List.{list_any}
use Rattle.std.proofs.lemmas.Bool.{cases_eq, eqb-true, eq-eqb, ne_eqb}
use Rattle.sp_base.specs.Rows.{first_where}
use Rattle.sp_base.specs.declared.id.NodeId.{NodeId}
use Rattle.sp_rules.specs.Arts.{Arts}
use Rattle.sp_rules.specs.Arrivals.{link_after, before_document, document_at, read_by}
use Rattle.sp_rules.specs.Link.{Link, advanced, new_link}
use Rattle.sp_rules.specs.Node.{NodeState, call_refusal, called, is_link, kept_or, link_in, with_link}
use Rattle.sp_rules.specs.Parts.{Fixed}
use Rattle.sp_rules.specs.Polls.{parts_after}
use Rattle.sp_rules.specs.Sends.{rel_refusal, send_prio_refusal, weight_refusal}
use Rattle.sp_rules.specs.Steps.{Input, NodeStep, Output, Poll, Datagram, Tick, SendRel, SendPrio, SetWeight, TakeRel, TakePrio, SendKrel, TakeKrel, Publish}
use Rattle.laws_progress.proofs.Ticked.{ticked}
use Rattle.sp_rules.specs.declared.node.NodeRefused.{NodeRefused}
use Rattle.sp_rules.specs.KflowSends.{send_krel_refusal}
use Rattle.laws_runs.proofs.FlowFacts.{first_replaced, other_replaced}
use Rattle.laws_runs.proofs.Tables.{same_node}
use Rattle.sp_runs.specs.Journals.{reply_word}
use Rattle.sp_runs.specs.Settings.{Setting}
use Rattle.sp_journal.specs.declared.entry.Reply.{Reply}
use Rattle.laws_progress.proofs.Keys.{after_peer, link_is}
use Rattle.laws_progress.proofs.Lasts.{NoPoll}
use Rattle.laws_progress.proofs.Polls.{answered}

pub data LinkAfter (arts : Arts) (n : NodeState) (i : Input) (m : NodeState) (v : NodeId) : Type 0 where
  Rests : NoPoll v i → link_in m v ≡ link_in n v → LinkAfter arts n i m v
  Sends : i ≡ Poll v → link_in m v ≡ advanced (link_in n v) → LinkAfter arts n i m v
  Hears : (bytes : List ℕ) → i ≡ Datagram v bytes → link_in m v ≡ link_after arts n v bytes → LinkAfter arts n i m v

-- a link that was put is found, and the others stay
pub put_link : (n : NodeState) (v : NodeId) (l : Link) → l.peer ≡ v → list_any (is_link v) n.links ≡ true
    → first_where (is_link v) (new_link n.fixed.me v 0 []) (with_link n v l) ≡ l
put_link n v l is there = first_replaced (is_link v) (new_link n.fixed.me v 0 []) l n.links (eq-eqb _ _ (ap (λ (u : NodeId). u.0) is)) there

other_link : (n : NodeState) (u v : NodeId) (l : Link) → l.peer ≡ u → (u ≡ v → ⊥)
    → first_where (is_link v) (new_link n.fixed.me v 0 []) (with_link n u l) ≡ link_in n v
other_link n u v l is away =
    other_replaced (is_link u) (is_link v) (new_link n.fixed.me v 0 []) l n.links
    (λ k t. ne_eqb _ _ (λ z. away (sym (same_node _ _ (eqb-true _ _ t)) ∙ same_node _ _ z)))
    (ne_eqb _ _ (λ z. away (sym is ∙ same_node _ _ z)))

same_link : (arts : Arts) (n m : NodeState) (i : Input) (v : NodeId) → NoPoll v i → m.links ≡ n.links → m.fixed ≡ n.fixed → LinkAfter arts n i m v
same_link arts n m i v quiet ls f =
    Rests quiet (ap (λ (g : Fixed). first_where (is_link v) (new_link g.me v 0 []) m.links) f ∙ ap (first_where (is_link v) (new_link n.fixed.me v 0 [])) ls)

kept_link : {X : Type 0} (arts : Arts) (r : Option X) (n q : NodeState) (i : Input) (v : NodeId) → NoPoll v i → q.links ≡ n.links → q.fixed ≡ n.fixed
    → LinkAfter arts n i (kept_or r n q) v
kept_link arts None n q i v quiet ls f = same_link arts n q i v quiet ls f
kept_link arts (Some y) n q i v quiet ls f = same_link arts n n i v quiet refl refl

pub link_step : (arts : Arts) (x : Setting) (n : NodeState) (i : Input) (o : Output) (m : NodeState) (v : NodeId) (k : ℕ) (reply : Reply)
    → list_any (is_link v) n.links ≡ true
    → NodeStep arts n i o m → reply_word x k o.reply ≡ Some reply → LinkAfter arts n i m v
link_step arts x n (Poll u) o m v k reply there s says =
    let free = answered x k (call_refusal n u) _ reply (ap (λ (p : Output). reply_word x k p.reply) (sym s.0) ∙ says) in
    let made = called n (with_link n u (advanced (link_in n u))) (parts_after n u) in
    let after : m ≡ made = s.1 ∙ ap (λ (r : Option NodeRefused). kept_or r n made) free in
    elim (cases_eq u.0 v.0) [
      | inl z ↦
          let is : u ≡ v = same_node u v z in
          Sends (ap Poll is)
          (ap (λ (q : NodeState). link_in q v) after
          ∙ ap (λ w. first_where (is_link v) (new_link n.fixed.me v 0 []) (with_link n w (advanced (link_in n w)))) is
          ∙ put_link n v (advanced (link_in n v)) (link_is n v) there)
      | inr z ↦
          let away : u ≡ v → ⊥ = λ e. z (ap (λ (w : NodeId). w.0) e) in
          Rests away (ap (λ (q : NodeState). link_in q v) after ∙ other_link n u v (advanced (link_in n u)) (link_is n u) away)
    ]
link_step arts x n (Datagram u bytes) o m v k reply there s says =
    let free = answered x k (call_refusal n u) _ reply (ap (λ (p : Output). reply_word x k p.reply) (sym s.0) ∙ says) in
    let left = before_document arts n u bytes in
    let made = read_by arts left (document_at arts n u bytes) in
    let same : link_in made v ≡ link_in left v =
    reading arts left (document_at arts n u bytes) (λ q told. link_in q v ≡ link_in left v) refl (λ document d is reads by. refl) in
    let after : m ≡ made = s.1 ∙ ap (λ (r : Option NodeRefused). kept_or r n made) free in
    elim (cases_eq u.0 v.0) [
      | inl z ↦
          let is : u ≡ v = same_node u v z in
          Hears bytes (ap (λ w. Datagram w bytes) is)
          (ap (λ (q : NodeState). link_in q v) after ∙ same
          ∙ ap (λ w. first_where (is_link v) (new_link n.fixed.me v 0 []) (with_link n w (link_after arts n w bytes))) is
          ∙ put_link n v (link_after arts n v bytes) (after_peer arts n v bytes) there)
      | inr z ↦
          let away : u ≡ v → ⊥ = λ e. z (ap (λ (w : NodeId). w.0) e) in
          Rests tt (ap (λ (q : NodeState). link_in q v) after ∙ same ∙ other_link n u v (link_after arts n u bytes) (after_peer arts n u bytes) away)
    ]
link_step arts x n (Tick now) o m v k reply there s says =
    subst (λ q. LinkAfter arts n (Tick now) q v) (sym s.1)
    (same_link arts n _ (Tick now) v tt
    (ticked (λ q. q.links ≡ n.links) arts n now refl (λ o. refl) (λ q r same. same))
    (ticked (λ q. q.fixed ≡ n.fixed) arts n now refl (λ o. refl) (λ q r same. same)))
link_step arts x n (SendRel dst payload) o m v k reply there s says =
    subst (λ q. LinkAfter arts n (SendRel dst payload) q v) (sym s.1) (kept_link arts (rel_refusal n dst) n _ _ v tt refl refl)
link_step arts x n (SendPrio q) o m v k reply there s says =
    subst (λ z. LinkAfter arts n (SendPrio q) z v) (sym s.new_is) (kept_link arts (send_prio_refusal n q s.choice) n _ _ v tt refl refl)
link_step arts x n (SetWeight u weight) o m v k reply there s says =
    subst (λ q. LinkAfter arts n (SetWeight u weight) q v) (sym s.1) (kept_link arts (weight_refusal n u weight) n _ _ v tt refl refl)
link_step arts x n (TakeRel src) o m v k reply there s says = subst (λ q. LinkAfter arts n (TakeRel src) q v) (sym s.1) (same_link arts n _ _ v tt refl refl)
link_step arts x n (SendKrel q) o m v k reply there s says =
    subst (λ z. LinkAfter arts n (SendKrel q) z v) (sym s.new_is) (kept_link arts (send_krel_refusal n q s.choice) n _ _ v tt refl refl)
link_step arts x n (TakeKrel src) o m v k reply there s says = subst (λ q. LinkAfter arts n (TakeKrel src) q v) (sym s.1) (same_link arts n _ _ v tt refl refl)
link_step arts x n TakePrio o m v k reply there s says = subst (λ q. LinkAfter arts n TakePrio q v) (sym s.1) (same_link arts n _ _ v tt refl refl)
link_step arts x n (Publish document) o m v k reply there s says =
    Rests tt (ap (λ (q : NodeState). link_in q v) s.1 ∙ publishing arts n document (λ q told. link_in q v ≡ link_in n v) refl (λ d reads by. refl))
