-- What holds of the reliable flows of a kind at a node after any steps: bounds, kinds, ranges and counts.
use Rattle.std.specs.Prelude.{ℕ, ◌≡◌, ◌<◌, ◌≤◌, ◌^◌, ◌==◌, true, false, List, IfSome, length, map}
use Rattle.std.specs.List.{All, AllPairs}
use Rattle.sp_base.specs.declared.format.TheConstants.{FORMAT_1}
use Rattle.sp_base.specs.declared.id.Flow.{Flow}
use Rattle.sp_base.specs.declared.limits.TheConstants.{MAX_PAYLOAD_BYTES}
use Rattle.sp_msg.specs.Masks.{bits}
use Rattle.sp_msg.specs.declared.body.Body.{Body}
use Rattle.sp_msg.specs.declared.body.Body.TheVariants as bodies
use Rattle.sp_msg.specs.declared.kept.Kept.{Kept}
use Rattle.sp_rules.specs.Flow.{FlowState, IsStanding, ends}
use Rattle.sp_rules.specs.Rel.{RelState, pairs_of}
use Rattle.sp_rules.specs.declared.kflow.FlowKind.{FlowKind}
use Rattle.sp_rules.specs.declared.kflow.FlowKind.TheVariants as kinds
use Rattle.laws_node.specs.Sizes.{Fits, IsNode, Sizes}

-- the format has flows of this kind: the first one has plain ones alone
abbrev pub HasFlows : FlowKind → ℕ → Type 0
HasFlows kinds.Plain format = Unit {0}
HasFlows kinds.Paths format = (format == FORMAT_1) ≡ false

-- an acknowledgement of a flow of this kind
abbrev pub IsAckOf : FlowKind → Flow → Body → Type 0
IsAckOf kinds.Plain flow (bodies.Ack a) = (a.src ≡ flow.src) × (a.dst ≡ flow.dst)
IsAckOf kinds.Paths flow (bodies.Kack a) = (a.src ≡ flow.src) × (a.dst ≡ flow.dst)
IsAckOf kind flow _ = ⊥

-- a message of a flow of this kind
abbrev pub IsRelOf : FlowKind → Body → Type 0
IsRelOf kinds.Plain (bodies.Rel r) = Unit {0}
IsRelOf kinds.Paths (bodies.Krel r) = Unit {0}
IsRelOf kind _ = ⊥

-- a mask that names no edge behind the last. A message without a mask names none
abbrev pub IsWithin : Sizes → Body → Type 0
IsWithin k (bodies.Krel r) = bits r.mask < 2 ^ length k.edges
IsWithin k _ = Unit {0}

-- a payload that isn't longer than one may be
abbrev pub IsShort : List ℕ → Type 0
IsShort payload = length payload ≤ MAX_PAYLOAD_BYTES

-- an acknowledgement that is kept: it is of this flow, and fits
pub record AckKept (kind : FlowKind) (k : Sizes) (flow : Flow) (o : Kept) : Type 0 where
  pub is_ack : IsAckOf kind flow o.body
  pub fits : Fits k o

-- index: so many messages were signed at most
pub record FlowHolds (kind : FlowKind) (k : Sizes) (index : ℕ) (f : FlowState) : Type 0 where
  pub src : IsNode k.format f.src
  pub dst : IsNode k.format f.dst
  -- its numbers are bounded, and its list has the messages of their numbers
  pub standing : IsStanding k.me k.buffer f
  -- an active flow is of a kind that the format has, and has something
  pub later : f.active ≡ true → HasFlows kind k.format
  pub busy : f.active ≡ true → 1 ≤ f.at.have
  pub own : (f.src.0 == k.me.0) ≡ true → f.at.have ≤ index
  pub messages : All (Fits k) f.at.list
  -- none of the other kind, and own ones have masks of edges that are there
  pub reliable : All (λ m. IsRelOf kind m.body) f.at.list
  pub within : (f.src.0 == k.me.0) ≡ true → All (λ m. IsWithin k m.body) f.at.list
  pub ack : IfSome f.ack (AckKept kind k (ends f))
  pub inbox : All IsShort f.inbox

-- two flows that aren't the same
abbrev pub Differ : Flow → Flow → Type 0
Differ f g = ¬ (f ≡ g)

-- the flows of a kind within their bounds, with a row for each, and with what was said of each alone
pub record RelHolds (kind : FlowKind) (k : Sizes) (index : ℕ) (r : RelState) : Type 0 where
  pub me : r.me ≡ k.me
  pub bound : r.bound ≡ k.buffer
  pub nodes : All (IsNode k.format) r.nodes
  pub known : r.nodes ≡ k.nodes
  pub flows : All (FlowHolds kind k index) r.flows
  -- the rows are those of the ordered pairs of two nodes, in their order, and so each flow has one row
  pub keys : map ends r.flows ≡ pairs_of k.nodes
  pub once : AllPairs Differ (map ends r.flows)
