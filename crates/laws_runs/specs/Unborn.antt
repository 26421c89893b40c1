-- In a run without epochs no node signs its start, nor heeds what says of one. So each boot that a node holds is 0, and so is
-- each that its messages name.
use Rattle.std.specs.Prelude.{◌≡◌, IfSome, List}
use Rattle.std.specs.List.{All}
use Rattle.sp_base.specs.declared.id.NodeId.{NodeId}
use Rattle.sp_msg.specs.declared.body.Body.{Body}
use Rattle.sp_msg.specs.declared.body.Body.TheVariants as bodies
use Rattle.sp_rules.specs.Flow.{FlowState}
use Rattle.sp_rules.specs.Lives.{held_boot}
use Rattle.sp_rules.specs.Parts.{Parts, flows_of}
use Rattle.sp_rules.specs.declared.kflow.FlowKind.{FlowKind}
use Rattle.sp_rules.specs.declared.lives.Life.{Life}

-- the boots that a message names are 0
abbrev pub NamesNone : Body → Type 0
NamesNone (bodies.Prio p) = p.sboot ≡ 0
NamesNone (bodies.Rel r) = (r.sboot ≡ 0) × (r.dboot ≡ 0)
NamesNone (bodies.Ack a) = (a.sboot ≡ 0) × (a.dboot ≡ 0)
NamesNone (bodies.Krel r) = (r.sboot ≡ 0) × (r.dboot ≡ 0)
NamesNone (bodies.Kack a) = (a.sboot ≡ 0) × (a.dboot ≡ 0)
NamesNone _ = Unit {0}

-- of no node a start is known
abbrev pub HoldNone : List Life → Type 0
HoldNone lives = (v : NodeId) → held_boot lives v ≡ 0

-- what is kept of a flow names none
pub record FlowUnborn (f : FlowState) : Type 0 where
  pub messages : All (λ o. NamesNone o.body) f.at.list
  pub ack : IfSome f.ack (λ o. NamesNone o.body)

-- parts that hold no start of anybody
pub record Unborn (p : Parts) : Type 0 where
  pub lives : HoldNone p.lives
  pub flows : (kind : FlowKind) → All FlowUnborn (flows_of kind p).flows
