-- A row that is found by a neighbour is that neighbour's, and whatever arrives leaves it so.
use Rattle.std.proofs.Common.{◌≡◌, ℕ, Bool, true, List, [], ◌∷◌, Result, Ok, Err, refl, ◌∙◌, inl, inr, ap}
use Rattle.std.proofs.lemmas.Bool.{cases_Bool, eqb-true, eq-eqb}
use Rattle.sp_base.specs.Rows.{first_where}
use Rattle.sp_base.specs.declared.id.NodeId.{NodeId}
use Rattle.sp_frame.specs.declared.head.Head.{Head}
use Rattle.sp_frame.specs.declared.refused.FrameRefused.{FrameRefused}
use Rattle.sp_rules.proofs.ArrivalLemmas.{link_stays, link_with}
use Rattle.sp_rules.specs.Arrivals.{link_after}
use Rattle.sp_rules.specs.Arts.{Arts, is_right}
use Rattle.sp_rules.specs.Link.{Link, after_answer, link_answer}
use Rattle.sp_rules.specs.Node.{NodeState, is_link, link_in}
use Rattle.sp_rules.specs.Rel.{RelState, is_peer, peer_in}
use Rattle.sp_rules.specs.declared.link.LinkAnswer.{LinkAnswer}
use Rattle.sp_rules.specs.declared.link.LinkAnswer.TheVariants as links
use Rattle.laws_runs.proofs.Tables.{same_node}

first_key : {X : Type 0} (p : X → Bool) (none : X) (xs : List X) → p none ≡ true → p (first_where p none xs) ≡ true
first_key p none [] e = e
first_key p none (x ∷ xs) e = elim (cases_Bool (p x)) [
  | inl t ↦ rw t t
  | inr t ↦ rw t (first_key p none xs e)
]

pub peer_is : (r : RelState) (v : NodeId) → (peer_in r.peers v).peer ≡ v
peer_is r v = same_node _ _ (eqb-true _ _ (first_key (is_peer v) _ r.peers (eq-eqb v.0 v.0 refl)))

pub link_is : (n : NodeState) (v : NodeId) → (link_in n v).peer ≡ v
link_is n v = same_node _ _ (eqb-true _ _ (first_key (is_link v) _ n.links (eq-eqb v.0 v.0 refl)))

pub answered_peer : (l : Link) (h : Head) (a : LinkAnswer) → (after_answer l h a).peer ≡ l.peer
answered_peer l h links.NotForMe = refl
answered_peer l h links.BadTag = refl
answered_peer l h (links.Learned boot) = refl
answered_peer l h (links.Stale boot counter) = refl
answered_peer l h links.Fresh = refl

pub after_peer : (arts : Arts) (n : NodeState) (v : NodeId) (bytes : List ℕ) → (link_after arts n v bytes).peer ≡ v
after_peer arts n v bytes = go (arts.opened bytes) ∙ link_is n v
  where
    go : (o : Result (List ℕ) FrameRefused) → (link_with arts (link_in n v) bytes o).peer ≡ (link_in n v).peer
    go (Err refused) = ap (λ (l : Link). l.peer) (link_stays arts (link_in n v) bytes refused)
    go (Ok frame) = answered_peer (link_in n v) (arts.head bytes) (link_answer (link_in n v) (arts.head bytes) (is_right arts (link_in n v).key bytes))
