-- Whether a poll or a datagram is answered, by where the link to the neighbour stands.
use Rattle.std.proofs.Common.{◌≡◌, ◌≤◌, ℕ, ◌==◌, not, Bool, true, false, List, [], ◌∷◌, Option, Some, None, refl, ap, ◌∙◌, arith, cond}
use Rattle.std.specs.Prelude.{position}
use Rattle.std.specs.List.{find, list_any}
use Rattle.std.proofs.lemmas.Bool.Decides.{nat_tests}
use Rattle.std.proofs.lemmas.List.Folds.{list_any_at}
use Rattle.std.proofs.lemmas.List.Quantifiers.{position-Some}
use Rattle.sp_base.specs.declared.id.NodeId.{NodeId}
use Rattle.sp_rules.proofs.ChoiceLemmas.{find-no_position}
use Rattle.sp_rules.specs.Link.{Link, new_link}
use Rattle.sp_rules.specs.Node.{NodeState, call_refusal, is_link, is_neighbour}
use Rattle.sp_rules.specs.declared.node.NodeRefused.{NodeRefused}
use Rattle.sp_rules.specs.declared.node.NodeRefused.TheVariants as calls
use Rattle.sp_rules.specs.declared.node.TheConstants.{MAX_CALLS}
use Rattle.sp_node_state.specs.ReadyStates.{IsAnswered}

none_found : (test : Link → Bool) (links : List Link) → find test links ≡ None → list_any test links ≡ false
none_found test [] e = refl
none_found test (l ∷ links) e = go (test l) refl e (none_found test links)
  where
    go : (t : Bool) → test l ≡ t → cond t (Some l) (find test links) ≡ None → (find test links ≡ None → list_any test links ≡ false)
        → list_any test (l ∷ links) ≡ false
    go true is e later = absurd (cc)
    go false is e later = rw is (later e)

-- the refusal by its two tests

abbrev refusal_by : (there worn : Bool) → Option NodeRefused
refusal_by there worn = cond (not there) (Some calls.NotNeighbour) (cond worn (Some calls.Worn) None)

pub not_there : (n : NodeState) (v : NodeId) → position (is_link v) n.links ≡ None → call_refusal n v ≡ Some calls.NotNeighbour
not_there n v none = ap (λ (t : Bool). refusal_by t (n.calls == MAX_CALLS)) (none_found (is_link v) n.links (find-no_position (is_link v) n.links none))

is_there : (n : NodeState) (v : NodeId) (place : ℕ) → position (is_link v) n.links ≡ Some place → is_neighbour n v ≡ true
is_there n v place at =
    let d = new_link n.fixed.me v 0 [] in
    let facts = position-Some (is_link v) n.links place d at in
    list_any_at (is_link v) n.links place d facts.0 facts.1

pub worn : (n : NodeState) (v : NodeId) (place : ℕ) → position (is_link v) n.links ≡ Some place → (n.calls == MAX_CALLS) ≡ true
    → call_refusal n v ≡ Some calls.Worn
worn n v place at many =
    ap (λ (t : Bool). refusal_by t (n.calls == MAX_CALLS)) (is_there n v place at) ∙ ap (λ (t : Bool). refusal_by true t) many

pub answered : (n : NodeState) (v : NodeId) (place : ℕ) → n.calls ≤ MAX_CALLS → position (is_link v) n.links ≡ Some place → (n.calls == MAX_CALLS) ≡ false
    → IsAnswered n v place
answered n v place most at few = record {
  place_is = at;
  within = (position-Some (is_link v) n.links place (new_link n.fixed.me v 0 []) at).0;
  answered = ap (λ (t : Bool). refusal_by t (n.calls == MAX_CALLS)) (is_there n v place at) ∙ ap (λ (t : Bool). refusal_by true t) few;
  left = grind (arith, nat_tests, few, most);
}
