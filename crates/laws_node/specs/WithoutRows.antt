-- An example: tables without rows take what is new and forget it, so it is new again. No node has such tables.
use Rattle.std.specs.Prelude.{ℕ, ◌≡◌, ◌≢◌, List, [], ◌∷◌, Some, length}
use Rattle.sp_base.specs.declared.format.TheConstants.{FORMAT_1}
use Rattle.sp_base.specs.declared.id.Flow.{Flow}
use Rattle.sp_base.specs.declared.id.NodeId.{NodeId}
use Rattle.sp_msg.specs.Masks.{mask_from}
use Rattle.sp_msg.specs.declared.body.Body.TheVariants as bodies
use Rattle.sp_msg.specs.declared.effect.Effect.TheVariants.{Delivered}
use Rattle.sp_msg.specs.declared.kept.Kept.{Kept}
use Rattle.sp_rules.specs.Node.{NodeState}
use Rattle.sp_rules.specs.Prio.{PrioState, admit_prio, judge_prio}
use Rattle.sp_rules.specs.Rel.{RelState, admit_rel, judge_rel_of, rel_effects, start}
use Rattle.sp_rules.specs.Store.{empty_store}
use Rattle.sp_rules.specs.declared.kflow.FlowKind.TheVariants.{Plain}
use Rattle.sp_rules.specs.declared.prio.PrioJudged.TheVariants as prios
use Rattle.sp_rules.specs.declared.rel.RelJudged.TheVariants as rels
use Rattle.laws_node.specs.Flows.{RelHolds}
use Rattle.laws_node.specs.Shapes.{rel_shape}
use Rattle.laws_node.specs.Sizes.{Sizes}

-- the node of this id
abbrev pub node : ℕ → NodeId
node n = record { 0 = n }

-- the nodes 1 and 2
abbrev pub both : List NodeId
both = node 1 ∷ node 2 ∷ []

-- what node 2 of these keeps of flows at its start, with room for 2 messages of each
abbrev pub whole : RelState
whole = start (node 2) both (node 1 ∷ []) 2

-- the same without a row for any flow
abbrev pub hollow : RelState
hollow = record whole { flows = [] }

-- the same with another bound
abbrev pub wider : RelState
wider = record whole { bound = 3 }

-- message 1 of the flow from 1 to 2
abbrev pub message : Kept
message = record { body = bodies.Rel (record { src = node 1; dst = node 2; sboot = 0; dboot = 0; seq = 1; payload = [] }); signature = [] }

-- this flow
abbrev pub flow : Flow
flow = record { src = node 1; dst = node 2 }

-- without a window for any node
abbrev pub blind : PrioState
blind = record { me = 2; nodes = both; removed = []; inbox = empty_store 4; peers = []; windows = []; next = 1 }

-- priority message 1 from 1 to 2
abbrev pub urgent : Kept
urgent = record
    { body = bodies.Prio (record { src = node 1; dst = node 2; sboot = 0; seq = 1; prio = 1; expiry = 9; mask = mask_from 0; payload = [] }); signature = [] }

-- the sizes of node 2
abbrev pub sizes : Sizes
sizes = record { me = node 2; format = FORMAT_1; nodes = both; edges = []; signature_len = 4756; buffer = 2; store = 4; keeps = λ o. Unit {0} }

-- without its row a message is new again and again
pub record RowsAreNeeded : Type 0 where
  -- without a row a message is new, its delivery is told, and it is new again; so is a priority message without a window
  pub new : judge_rel_of hollow flow message.body ≡ rels.New
  pub told : rel_effects hollow message ≡ Delivered (node 1) 1 [] ∷ []
  pub left : admit_rel hollow message ≡ hollow
  pub prio_new : judge_prio blind urgent.body 0 ≡ prios.New
  pub prio_again : judge_prio (admit_prio blind urgent (Some (node 1))) urgent.body 0 ≡ prios.New
  -- what a node keeps always has the rows, and no step leads from a node with rows and bounds to one without these rows, or with other bounds
  pub not_kept : ¬ (RelHolds Plain sizes 0 hollow)
  pub not_left : rel_shape hollow ≢ rel_shape whole
  pub not_wider : rel_shape wider ≢ rel_shape whole
  -- nor does one lose its windows
  pub not_blind : (n : NodeState) → n.parts.prio ≡ blind → length n.parts.prio.windows ≢ length both
