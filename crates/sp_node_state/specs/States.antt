-- What a contract sees of a node in memory, and what never changes of it.
use Rattle.std.specs.Prelude.{ℕ, ◌≡◌, ◌==◌, ◌&&◌, not, Bool, List, Some}
use Rattle.sp_base.specs.declared.id.NodeId.{NodeId}
use Rattle.sp_hss.specs.KeyTree.{public_key, signature_len, total}
use Rattle.sp_rules.specs.Link.{Link}
use Rattle.sp_rules.specs.Node.{NodeState, Signer}
use Rattle.sp_rules.specs.Parts.{Fixed, Parts, nodes_of}
use Rattle.sp_rules.specs.Prio.{is_node}
use Rattle.sp_rules.specs.Versions.{Heard, Live}
use Rattle.sp_sign.specs.Heights.{param_of}
use Rattle.sp_sign.specs.NodeSigner.{NodeSigner}
use Rattle.sp_topology.specs.Keys.{key_of}

-- the signer as the rules see it
abbrev pub signer_in : NodeSigner → Signer
signer_in own = record { seed = own.signer.seed; index = own.signer.index; bound = own.signer.bound; total = total own.signer.height }

-- a node by the rules, of what a node in memory holds
abbrev pub state_of : Fixed → Live → List Heard → (now calls : ℕ) → List Link → NodeSigner → Parts → NodeState
state_of f live heard now calls links own parts = record {
  fixed = f;
  live = live;
  heard = heard;
  now = now;
  calls = calls;
  links = links;
  signer = signer_in own;
  parts = parts;
}

-- the signer is this node's, with the key that the topology has for it
pub record IsFitted (f : Fixed) (own : NodeSigner) : Type 0 where
  pub node : own.node ≡ f.me
  pub height : own.signer.height ≡ param_of f.topology.height
  pub signature_len : f.signature_len ≡ signature_len own.signer.height
  pub is_mine : key_of f.me.0 f.topology.nodes ≡ Some (public_key own.signer.height own.signer.seed)

-- another node of the overlay, also one that is removed
abbrev pub is_other : NodeState → NodeId → Bool
is_other n v = not (v.0 == n.fixed.me.0) && is_node (nodes_of n.fixed.topology) v.0
