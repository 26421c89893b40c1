-- What is asked of each message that a node takes or signs: where each new one and each own one has it, all that the node keeps has it.
use Rattle.std.specs.Prelude.{ℕ, ◌≡◌, ◌+◌, ◌<◌, Bool, true, IsTrue, List, [], ◌∷◌, ◌++◌}
use Rattle.sp_msg.specs.Bodies.{HasGoodFieldsIn, payload_of}
use Rattle.sp_msg.specs.Views.{signer_of}
use Rattle.sp_msg.specs.declared.body.Body.{Body}
use Rattle.sp_msg.specs.declared.effect.Effect.{Effect}
use Rattle.sp_msg.specs.declared.effect.Effect.TheVariants.{Signed}
use Rattle.sp_msg.specs.declared.kept.Kept.{Kept}
use Rattle.sp_rules.specs.Answers.{is_new}
use Rattle.sp_rules.specs.Arts.{Arts}
use Rattle.sp_rules.specs.Node.{NodeState, signed_now}
use Rattle.sp_rules.specs.Steps.{Input, NodeStep, Output, SendKrel, SendPrio, SendRel}
use Rattle.sp_rules.specs.declared.answers.Item.{Item}
use Rattle.laws_node.specs.About.{IsAbout}
use Rattle.laws_node.specs.Inputs.{ArtsFit, InputFits}
use Rattle.laws_node.specs.Nodes.{KeepsOnly}

-- each object that was answered that it is new has this
abbrev pub NewKeep : (Kept → Type 0) → List (Kept × Item) → Type 0
NewKeep P [] = Unit {0}
NewKeep P (a ∷ others) = (is_new a.1 ≡ true → P a.0) × NewKeep P others

-- the payload that a client asks to be sent
abbrev pub payload_in : Input → List ℕ
payload_in (SendRel dst payload) = payload
payload_in (SendPrio m) = m.payload
payload_in (SendKrel m) = m.payload
payload_in _ = []

-- how many signatures an effect tells
abbrev pub signatures_in : Effect → ℕ
signatures_in (Signed object) = 1
signatures_in _ = 0

-- how many all of these tell
abbrev pub signatures : List Effect → ℕ
signatures [] = 0
signatures (e ∷ es) = signatures_in e + signatures es

-- the node where its signer comes to this index
abbrev pub at_index : NodeState → ℕ → NodeState
at_index n index = record n { signer = record n.signer { index = index } }

-- the node signed this message with this index in a step on this input with these effects
pub record IsOwn (arts : Arts) (n : NodeState) (input : Input) (effects : List Effect) (index : ℕ) (body : Body) : Type 0 where
  pub mine : signer_of body ≡ n.fixed.me
  pub fields : HasGoodFieldsIn n.fixed.topology.format body
  pub about : IsAbout n.fixed.topology body
  pub payload : payload_of body ≡ payload_in input
  pub left : index < n.signer.total
  pub before : List Effect
  pub after : List Effect
  pub told : effects ≡ before ++ Signed (arts.spell body) ∷ after
  -- each signature in a step has an index of its own, in their order
  pub place : index ≡ n.signer.index + signatures before

-- each message that it signed has this
abbrev pub OwnKeep : Arts → (Kept → Type 0) → NodeState → Input → List Effect → Type 0
OwnKeep arts P n input effects = (index : ℕ) (body : Body) → IsOwn arts n input effects index body → P (signed_now arts (at_index n index) body)

-- whatever is asked: beside it a node keeps what it always keeps
abbrev pub WhatIsNewIsKept : Type 0
WhatIsNewIsKept = (keeps : Kept → Bool) (arts : Arts) (old : NodeState) (input : Input) (output : Output) (new : NodeState)
    → ArtsFit arts old.fixed old.signer → InputFits input → NodeStep arts old input output new
    → NewKeep (λ o. IsTrue (keeps o)) output.answered → OwnKeep arts (λ o. IsTrue (keeps o)) old input output.effects
    → KeepsOnly keeps old → KeepsOnly keeps new
