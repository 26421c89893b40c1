-- An own priority message goes from a node of the topology to another one.
use Rattle.std.proofs.Common.{◌≡◌, ◌≢◌, ◌∙◌, ℕ, ◌==◌, ◌&&◌, ◌||◌, not, Bool, true, false, List, [], ◌∷◌, map, Option, Some, None, refl, sym, ap, arith, cond}
use Rattle.std.proofs.lemmas.Bool.Decides.{nat_tests}
use Rattle.sp_base.specs.declared.id.NodeId.{NodeId}
use Rattle.sp_node_format.specs.Format.{format_of}
use Rattle.sp_msg.specs.declared.refused.SendRefused.{SendRefused}
use Rattle.sp_rules.specs.Node.{NodeState}
use Rattle.sp_rules.specs.Parts.{nodes_of}
use Rattle.sp_rules.specs.Prio.{is_node, is_there}
use Rattle.sp_rules.specs.Sends.{PrioSend, is_unmet, prio_refusal}
use Rattle.sp_topology.specs.Keys.{key_of}
use Rattle.sp_topology.specs.declared.topology.NodeKey.{NodeKey}
use Rattle.laws_node.specs.Nodes.{IsKept}

-- one that has a key is a node
node_there : (me : ℕ) (nodes : List NodeKey) (key : List ℕ) → key_of me nodes ≡ Some key → is_node (map (λ (n : NodeKey). n.id) nodes) me ≡ true
node_there me [] key is = absurd (cc)
node_there me (n ∷ nodes) key is = go (n.id.0 == me) refl is (node_there me nodes key)
  where
    go : (t : Bool) → (n.id.0 == me) ≡ t → cond t (Some n.key) (key_of me nodes) ≡ Some key
        → (key_of me nodes ≡ Some key → is_node (map (λ (n : NodeKey). n.id) nodes) me ≡ true) → is_node (n.id ∷ map (λ (n : NodeKey). n.id) nodes) me ≡ true
    go true is e later = rw is refl
    go false is e later = rw is (later e)

other : (a b c d : Bool) (refused : SendRefused) (rest : Option SendRefused) → cond (a || not b || not c || d) (Some refused) rest ≡ None
    → (a ≡ false) × (b ≡ true)
other true b c d refused rest is = absurd (cc)
other false true c d refused rest is = (refl, refl)
other false false c d refused rest is = absurd (cc)

first_of_both : (a b : Bool) → (a && b) ≡ true → a ≡ true
first_of_both true b is = refl
first_of_both false b is = absurd (cc)

pub ends_of : (n : NodeState) (m : PrioSend) (key : List ℕ) → key_of n.fixed.me.0 n.fixed.topology.nodes ≡ Some key → prio_refusal n m ≡ None
    → IsKept (format_of n.fixed) n
    → (is_node (nodes_of n.fixed.topology) n.fixed.me.0 ≡ true) × (is_node (nodes_of n.fixed.topology) m.dst.0 ≡ true) × (n.fixed.me ≢ m.dst)
ends_of n m key mine free kept =
    let s = n.parts.prio in
    let two = other (m.dst.0 == n.fixed.me.0) (is_there s m.dst.0) (is_there s n.fixed.me.0) (is_unmet n m.dst) _ _ free in (
      node_there n.fixed.me.0 n.fixed.topology.nodes key mine,
      ap (λ (ids : List NodeId). is_node ids m.dst.0) (sym kept.parts.prio.known)
          ∙ first_of_both (is_node s.nodes m.dst.0) (not (is_node s.removed m.dst.0)) two.1,
      λ e. (let same : m.dst.0 ≡ n.fixed.me.0 = ap (λ (u : NodeId). u.0) (sym e) in absurd (grind (arith, nat_tests, same, two.0))),
    )
