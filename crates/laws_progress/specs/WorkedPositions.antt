-- What counted delivery rests on, for three nodes in a row where 1 sent one message to 3: what the claims say there in numbers, and worlds that break one each.
use Rattle.std.specs.Prelude.{ℕ, ◌≡◌, ◌≤◌, true, List, [], ◌∷◌, count_by, map, Some}
use Rattle.sp_base.specs.declared.id.Flow.{Flow}
use Rattle.sp_base.specs.declared.id.NodeId.{NodeId}
use Rattle.sp_msg.specs.declared.body.Body.TheVariants as bodies
use Rattle.sp_msg.specs.declared.kept.Kept.{Kept}
use Rattle.sp_rules.specs.Arts.{Arts}
use Rattle.sp_rules.specs.Flow.{FlowState, no_flow}
use Rattle.sp_rules.specs.Node.{NodeState}
use Rattle.sp_rules.specs.Rel.{RelPeer, put_flow, put_view}
use Rattle.sp_runs.specs.Settings.{node_at_boot}
use Rattle.sp_runs.specs.Worlds.{World, node_in}
use Rattle.sp_journal.specs.declared.entry.Entry.{Entry}
use Rattle.sp_journal.specs.declared.entry.Reply.TheVariants as replies
use Rattle.sp_rules.specs.declared.kflow.FlowKind.TheVariants.{Plain}
use Rattle.laws_progress.specs.Positions.{ProgressClaims}
use Rattle.laws_progress.specs.Worked.{line, node, send}
use Rattle.sp_schedule_events.specs.Documents.{none_published}

-- ---- worlds

-- 1 accepted the message
abbrev pub accepted : List Entry
accepted = (record { reply = replies.Accepted 1; effects = [] }) ∷ []

-- the first message of the flow from 1 to 3
abbrev pub message : (payload : List ℕ) → Kept
message payload = record { body = bodies.Rel (record { src = node 1; dst = node 3; sboot = 0; dboot = 0; seq = 1; payload = payload }); signature = [] }

-- it, with its payload
abbrev pub sent_message : Kept
sent_message = message (104 ∷ 105 ∷ [])

-- a flow by the numbers of its ends
abbrev pub flow_from : (src dst : ℕ) → Flow
flow_from src dst = record { src = node src; dst = node dst }

-- a flow that is active, with these numbers and this list
abbrev pub row : (flow : Flow) (base have : ℕ) (list : List Kept) → FlowState
row flow base have list = record (no_flow flow) { active = true; at = record { base = base; have = have; list = list } }

-- with this row of its flow
abbrev pub with_row : FlowState → NodeState → NodeState
with_row f n = record n { parts = record n.parts { rel = record n.parts.rel { flows = put_flow n.parts.rel.flows (record { src = f.src; dst = f.dst }) f } } }

-- each neighbour reported this of the flow from 1 to 3
abbrev pub reporting : (base have : ℕ) → RelPeer → RelPeer
reporting base have p = record p { views = put_view p.views (flow_from 1 3) (record { src = node 1; dst = node 3; base = base; have = have }) }

-- a node whose neighbours all reported this
abbrev pub with_views : (base have : ℕ) → NodeState → NodeState
with_views base have n = record n { parts = record n.parts { rel = record n.parts.rel { peers = map (reporting base have) n.parts.rel.peers } } }

-- a node of the three at its start, and where it stands in the flow from 1 to 3
abbrev pub at_boot : ℕ → NodeState
at_boot u = node_at_boot line (node u)

-- a node at which the flow from 1 to 3 stands so
abbrev pub standing : (u base have : ℕ) (list : List Kept) → NodeState
standing u base have list = with_row (row (flow_from 1 3) base have list) (at_boot u)

-- 1 has its message
abbrev pub source : NodeState
source = standing 1 0 1 (sent_message ∷ [])

-- a world of three nodes
abbrev pub world : (one two three : NodeState) → World
world one two three = record { keys = []; nodes = one ∷ two ∷ three ∷ []; directions = []; crafted = []; published = none_published }

-- ---- what is claimed

-- a world that the claims exclude
abbrev pub IsRefused : World → Type 0
IsRefused w = (arts : Arts) → ProgressClaims Plain arts line send accepted w → ⊥

-- what the claims exclude
pub record PositionsAreWorked : Type 0 where
  -- only the flow from 1 to 3 can be active
  pub one_active : (arts : Arts) (w : World) (u : NodeId) (n : NodeState) → ProgressClaims Plain arts line send accepted w → node_in w.nodes u ≡ Some n
      → count_by (λ f. f.active) n.parts.rel.flows ≤ 1
  -- 2 counts as acknowledged what 3 doesn't, 3 what it hasn't, and 2 has what 1 hasn't
  pub base_ahead : IsRefused (world source (standing 2 1 1 []) (at_boot 3))
  pub end_ahead : IsRefused (world source (at_boot 2) (standing 3 1 0 []))
  pub have_ahead : IsRefused (world (at_boot 1) (standing 2 0 1 (sent_message ∷ [])) (at_boot 3))
  -- a list lacks a message, or has another
  pub list_short : IsRefused (world (standing 1 0 1 []) (at_boot 2) (at_boot 3))
  pub list_other : IsRefused (world (standing 1 0 1 (message [] ∷ [])) (at_boot 2) (at_boot 3))
  -- 1 counts it as acknowledged without 3's word
  pub no_word : IsRefused (world (standing 1 1 1 []) (at_boot 2) (standing 3 1 1 []))
  -- 2 knows more of 1 than 1 has
  pub view_ahead : IsRefused (world source (with_views 0 2 (at_boot 2)) (at_boot 3))
  pub view_of_base_ahead : IsRefused (world source (with_views 1 1 (at_boot 2)) (at_boot 3))
  -- a flow is active that nobody sends to
  pub uncounted : IsRefused (world source (with_row (row (flow_from 3 1) 0 1 []) (at_boot 2)) (at_boot 3))
