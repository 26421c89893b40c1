-- What clients of a node ask of flows on paths: a message over so many paths that share no node, and what waits for them.
use Rattle.std.specs.Prelude.{ℕ, ◌+◌, ◌||◌, List, [], ◌∷◌, Option, None, Some, Result, Ok, Err}
use Rattle.sp_base.specs.Cursor.{or_else}
use Rattle.sp_base.specs.declared.id.NodeId.{NodeId}
use Rattle.sp_msg.specs.Masks.{mask_from}
use Rattle.sp_msg.specs.declared.body.Body.{Body}
use Rattle.sp_msg.specs.declared.body.Body.TheVariants as bodies
use Rattle.sp_msg.specs.declared.effect.Effect.{Effect}
use Rattle.sp_msg.specs.declared.mask.Mask.{Mask}
use Rattle.sp_msg.specs.declared.refused.SendRefused.{SendRefused}
use Rattle.sp_rules.specs.Arts.{Arts}
use Rattle.sp_rules.specs.Kflow.{pushed, room, waiting_mask, with_flows}
use Rattle.sp_rules.specs.Lives.{held_boot}
use Rattle.sp_rules.specs.Masks.{Choice}
use Rattle.sp_rules.specs.Node.{NodeState, kept_or, signed_now, signed_once}
use Rattle.sp_rules.specs.Parts.{is_first}
use Rattle.sp_rules.specs.Rel.{flow_in, own_flow, took}
use Rattle.sp_rules.specs.Sends.{is_unmet, mask_in, no_life, no_paths, signed_effect, signer_refusal}
use Rattle.sp_rules.specs.declared.kflow.KRoom.{KRoom}

-- what a client asks for: 1 to 8 paths
pub record KSend : Type 0 where
  pub dst : NodeId
  pub paths : ℕ
  pub payload : List ℕ

-- the refusal where a flow has no room for a message on so many paths
abbrev pub no_place : Result KRoom SendRefused → Option SendRefused
no_place (Ok place) = None
no_place (Err refused) = Some refused

-- why a message is refused before its mask is chosen: the format has none, no known start, no room, other paths, no signature, in this order
abbrev pub krel_refusal : NodeState → KSend → Option SendRefused
krel_refusal n m =
    or_else (no_life (is_first n.fixed || is_unmet n m.dst)) (or_else (no_place (room n.parts.kflow m.dst m.paths)) (signer_refusal n.signer))

-- too few paths are refused only where a mask is chosen
abbrev pub no_mask : Option Mask → Choice → Option SendRefused
no_mask (Some waiting) choice = None
no_mask None choice = no_paths choice

-- paths are sought only where nothing else refuses
abbrev pub send_krel_refusal : NodeState → KSend → Choice → Option SendRefused
send_krel_refusal n m choice = or_else (krel_refusal n m) (no_mask (waiting_mask n.parts.kflow m.dst) choice)

-- the mask of the messages that wait, or the one that was chosen
abbrev pub mask_for : Option Mask → Choice → Mask
mask_for (Some waiting) choice = waiting
mask_for None choice = mask_from (mask_in choice)

-- the number after the last of the flow
abbrev pub krel_number : NodeState → NodeId → ℕ
krel_number n dst = (flow_in n.parts.kflow.flows.flows (own_flow n.parts.kflow.flows dst)).at.have + 1

-- the object of a message over a mask
abbrev pub krel_body : NodeState → KSend → Mask → Body
krel_body n m mask = bodies.Krel (record {
  src = n.fixed.me;
  dst = m.dst;
  sboot = held_boot n.parts.lives n.fixed.me;
  dboot = held_boot n.parts.lives m.dst;
  seq = krel_number n m.dst;
  mask = mask;
  payload = m.payload;
})

-- the object that is sent
abbrev pub krel_sends : NodeState → KSend → Choice → Body
krel_sends n m choice = krel_body n m (mask_for (waiting_mask n.parts.kflow m.dst) choice)

-- the node after a client sent a message on paths
abbrev pub after_send_krel : Arts → NodeState → KSend → Choice → NodeState
after_send_krel arts n m choice =
    kept_or (send_krel_refusal n m choice) n
    (signed_once n (record n.parts { kflow = pushed n.parts.kflow (signed_now arts n (krel_sends n m choice)) m.paths }))

-- what is told where a message on paths is sent
abbrev pub krel_sent : Arts → NodeState → KSend → Choice → List Effect
krel_sent arts n m choice = signed_effect arts (krel_sends n m choice) ∷ []

-- the node after a client took a message on paths
abbrev pub after_take_krel : NodeState → NodeId → NodeState
after_take_krel n src = record n { parts = record n.parts { kflow = with_flows n.parts.kflow (took n.parts.kflow.flows src) } }
