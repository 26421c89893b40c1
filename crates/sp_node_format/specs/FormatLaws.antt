-- When a node is one of its topology's format, and the laws that the arts of the format fit it, and which messages are good.
use Rattle.std.specs.Prelude.{ℕ, ◌≡◌, ◌↔◌, IsTrue, Some}
use Rattle.sp_msg.specs.Bodies.{HasGoodFieldsIn}
use Rattle.sp_msg.specs.declared.body.Body.{Body}
use Rattle.sp_hss.specs.KeyTree.{public_key, signature_len, total}
use Rattle.sp_rules.specs.Node.{Signer}
use Rattle.sp_rules.specs.Parts.{Fixed}
use Rattle.sp_sign.specs.Heights.{param_of}
use Rattle.sp_topology.specs.Keys.{key_of}
use Rattle.laws_node.specs.Inputs.{ArtsFit}
use Rattle.sp_node_format.specs.Format.{format_in, format_of}

-- the signer has the key that the topology has for the node, with trees of the topology's height
pub record IsOfFormat (f : Fixed) (s : Signer) : Type 0 where
  pub signature_len : f.signature_len ≡ signature_len (param_of f.topology.height)
  pub total : s.total ≡ total (param_of f.topology.height)
  pub is_mine : key_of f.me.0 f.topology.nodes ≡ Some (public_key (param_of f.topology.height) s.seed)

-- the law that the arts of a format fit each node that is of it
abbrev pub FormatFits : Type 0
FormatFits = (f : Fixed) (s : Signer) → IsOfFormat f s → ArtsFit (format_of f) f s

-- a message is good exactly where each of its fields is in its range
abbrev pub GoodIsInRange : Type 0
GoodIsInRange = (format : ℕ) (body : Body) → IsTrue ((format_in format).is_good body) ↔ HasGoodFieldsIn format body
