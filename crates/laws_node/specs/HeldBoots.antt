-- What holds of the lives that a node knows: each object is what its row's node said of its start.
use Rattle.std.specs.Prelude.{◌≡◌, IfSome}
use Rattle.sp_base.specs.declared.id.NodeId.{NodeId}
use Rattle.sp_msg.specs.declared.body.Body.{Body}
use Rattle.sp_msg.specs.declared.body.Body.TheVariants as bodies
use Rattle.sp_msg.specs.declared.kept.Kept.{Kept}
use Rattle.sp_rules.specs.declared.lives.Life.{Life}
use Rattle.laws_node.specs.Sizes.{Fits, Sizes}

-- what a node says of its start
abbrev pub IsEpochOf : NodeId → Body → Type 0
IsEpochOf v (bodies.Epoch e) = e.origin ≡ v
IsEpochOf v _ = ⊥

-- an Epoch object that is kept: it is of this node, and fits
pub record EpochKept (k : Sizes) (v : NodeId) (o : Kept) : Type 0 where
  pub kind : IsEpochOf v o.body
  pub fits : Fits k o

-- a life whose object, if there is one, is its node's
pub record LifeHolds (k : Sizes) (l : Life) : Type 0 where
  pub object : IfSome l.object (EpochKept k l.node)
