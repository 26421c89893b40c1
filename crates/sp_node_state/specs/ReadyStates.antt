-- What is ready before a call changes anything: the link of a neighbour, and a message of this node.
use Rattle.std.specs.Prelude.{ℕ, ◌≡◌, ◌<◌, ◌+◌, None, Some, length, position}
use Rattle.sp_base.specs.declared.id.NodeId.{NodeId}
use Rattle.sp_msg.specs.Bodies.{HasGoodFieldsIn}
use Rattle.sp_msg.specs.Views.{signer_of}
use Rattle.sp_rules.specs.Node.{NodeState, call_refusal, is_link}
use Rattle.sp_rules.specs.Sends.{signer_refusal}
use Rattle.sp_rules.specs.declared.node.TheConstants.{MAX_CALLS}
use Rattle.sp_sign.specs.Blanks.{blank_in}
use Rattle.sp_sign.specs.declared.blank.Blank.{Blank}

-- a poll of this neighbour or a datagram from it is answered: its link stands in this place
pub record IsAnswered (n : NodeState) (v : NodeId) (place : ℕ) : Type 0 where
  pub place_is : position (is_link v) n.links ≡ Some place
  pub within : place < length n.links
  pub answered : call_refusal n v ≡ None
  pub left : n.calls < MAX_CALLS

-- ---- a message of this node

-- the node after so many more signatures, as far as its signer goes
abbrev pub later : ℕ → NodeState → NodeState
later used n = record n { signer = record n.signer { index = n.signer.index + used } }

-- it is in its ranges, and the signer signs it
pub record IsReadyBlank (n : NodeState) (blank : Blank) : Type 0 where
  pub free : signer_refusal n.signer ≡ None
  pub mine : signer_of blank.kept.body ≡ n.fixed.me
  pub fields : HasGoodFieldsIn n.fixed.topology.format blank.kept.body
  pub blank_is : blank ≡ blank_in n.fixed.topology.format n.fixed.signature_len blank.kept.body
