-- What each step of a node keeps.
use Rattle.std.specs.Prelude.{ℕ, ◌≡◌, ◌<◌, ◌≤◌, true, List}
use Rattle.sp_base.specs.declared.format.TheConstants.{FORMAT_2}
use Rattle.sp_base.specs.declared.id.NodeId.{NodeId}
use Rattle.sp_frame.specs.Ranges.{IsContentsIn}
use Rattle.sp_rules.specs.Arts.{Arts}
use Rattle.sp_rules.specs.Node.{NodeState, Signer, booted, extended, started}
use Rattle.sp_rules.specs.Parts.{Fixed}
use Rattle.sp_rules.specs.Polls.{contents_at}
use Rattle.sp_rules.specs.Steps.{Input, NodeStep, Output}
use Rattle.laws_node.specs.Inputs.{ArtsFit, Boots, InputFits}
use Rattle.laws_node.specs.Nodes.{IsKept}

-- whatever is called, and whatever arrives
abbrev pub EachStepKeeps : Type 0
EachStepKeeps = (arts : Arts) (old : NodeState) (input : Input) (output : Output) (new : NodeState)
    → ArtsFit arts old.fixed old.signer → InputFits input → NodeStep arts old input output new → IsKept arts old → IsKept arts new

-- the start of a life
abbrev pub BootKeeps : Type 0
BootKeeps = (arts : Arts) (f : Fixed) (signer : Signer) (keys : List (List ℕ)) (buffer store : ℕ) → Boots f signer
    → IsKept arts (booted f signer keys buffer store)

-- the start of a life that signs its boot, where nodes run with epochs: with an index that is reserved, in the format that has such messages
abbrev pub StartKeeps : Type 0
StartKeeps = (arts : Arts) (f : Fixed) (signer : Signer) (keys : List (List ℕ)) (buffer store : ℕ) → Boots f signer → ArtsFit arts f signer
    → (f.epochs ≡ true → (signer.index < signer.bound) × (f.topology.format ≡ FORMAT_2))
    → IsKept arts (started arts f signer keys buffer store)

-- more indexes are reserved
abbrev pub ExtendKeeps : Type 0
ExtendKeeps = (arts : Arts) (n : NodeState) (upto : ℕ) → n.signer.bound ≤ upto → upto ≤ n.signer.total → IsKept arts n → IsKept arts (extended n upto)

-- what a poll writes is in the ranges of a frame, so it is read back as it is
abbrev pub FramesFit : Type 0
FramesFit = (arts : Arts) (n : NodeState) (v : NodeId) → IsKept arts n
    → IsContentsIn n.fixed.topology.format n.fixed.signature_len (contents_at n v)
