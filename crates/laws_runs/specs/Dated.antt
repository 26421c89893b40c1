-- What a node keeps of a flow names the flow's ends, and of both the boots that the node holds.
use Rattle.std.specs.Prelude.{ℕ, ◌≡◌, IfSome, List}
use Rattle.std.specs.List.{All}
use Rattle.sp_base.specs.declared.id.Flow.{Flow}
use Rattle.sp_base.specs.declared.id.NodeId.{NodeId}
use Rattle.sp_msg.specs.declared.body.Body.{Body}
use Rattle.sp_msg.specs.declared.body.Body.TheVariants as bodies
use Rattle.sp_rules.specs.Flow.{FlowState, ends}
use Rattle.sp_rules.specs.Lives.{held_boot}
use Rattle.sp_rules.specs.Parts.{Parts, flows_of}
use Rattle.sp_rules.specs.declared.kflow.FlowKind.{FlowKind}
use Rattle.sp_rules.specs.declared.lives.Life.{Life}

pub record NamesBoth (lives : List Life) (flow : Flow) (src dst : NodeId) (sboot dboot : ℕ) : Type 0 where
  pub from : src ≡ flow.src
  pub to : dst ≡ flow.dst
  pub source : sboot ≡ held_boot lives flow.src
  pub end : dboot ≡ held_boot lives flow.dst

-- a message of this flow
abbrev pub NamesHeld : List Life → Flow → Body → Type 0
NamesHeld lives flow (bodies.Rel r) = NamesBoth lives flow r.src r.dst r.sboot r.dboot
NamesHeld lives flow (bodies.Ack a) = NamesBoth lives flow a.src a.dst a.sboot a.dboot
NamesHeld lives flow (bodies.Krel r) = NamesBoth lives flow r.src r.dst r.sboot r.dboot
NamesHeld lives flow (bodies.Kack a) = NamesBoth lives flow a.src a.dst a.sboot a.dboot
NamesHeld lives flow _ = ⊥

-- what is kept of a flow names its ends under the boots that are held
pub record FlowDated (lives : List Life) (f : FlowState) : Type 0 where
  pub messages : All (λ o. NamesHeld lives (ends f) o.body) f.at.list
  pub ack : IfSome f.ack (λ o. NamesHeld lives (ends f) o.body)

-- what is kept of all flows names their ends so
abbrev pub AreDated : Parts → Type 0
AreDated p = (kind : FlowKind) → All (FlowDated p.lives) (flows_of kind p).flows
