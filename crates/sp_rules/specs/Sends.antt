-- What clients of a node ask for: messages, a weight of a link, and what waits for them. Each is refused by the first cause that applies, and
-- then nothing changes. What is accepted is signed with the next index, and kept.
use Rattle.std.specs.Prelude.{ℕ, ◌==◌, ◌+◌, nat_lt, Bool, not, ◌&&◌, ◌||◌, List, [], ◌∷◌, Option, None, Some, Result, Ok, Err, if◌then◌else◌}
use Rattle.sp_base.specs.Cursor.{or_else}
use Rattle.sp_base.specs.declared.id.NodeId.{NodeId}
use Rattle.sp_msg.specs.Masks.{mask_from}
use Rattle.sp_msg.specs.declared.body.Body.{Body}
use Rattle.sp_msg.specs.declared.body.Body.TheVariants as bodies
use Rattle.sp_msg.specs.declared.body.Prio.{Prio}
use Rattle.sp_msg.specs.declared.body.Rel.{Rel}
use Rattle.sp_msg.specs.declared.effect.Effect.{Effect}
use Rattle.sp_msg.specs.declared.effect.Effect.TheVariants.{Signed}
use Rattle.sp_msg.specs.declared.effect.Why.TheVariants.{Taken}
use Rattle.sp_msg.specs.declared.kept.Kept.{Kept}
use Rattle.sp_msg.specs.declared.refused.SendRefused.{SendRefused}
use Rattle.sp_msg.specs.declared.refused.SendRefused.TheVariants as refusals
use Rattle.sp_rules.specs.Arts.{Arts}
use Rattle.sp_rules.specs.Handle.{weight_effects}
use Rattle.sp_rules.specs.Lives.{held_boot}
use Rattle.sp_rules.specs.Masks.{Choice, Mask, OnlyPaths}
use Rattle.sp_rules.specs.Node.{NodeState, Signer, kept_or, signed_now, signed_once}
use Rattle.sp_rules.specs.Parts.{edge_to}
use Rattle.sp_rules.specs.Prio.{admit_prio, is_there, prio_effects, taken}
use Rattle.sp_rules.specs.PrioPeer.{gone}
use Rattle.sp_rules.specs.Rel.{flow_in, own_flow, pushed_in, room, took}
use Rattle.sp_rules.specs.Store.{oldest}
use Rattle.sp_rules.specs.Weights.{held, is_withdrawn, minimum, next_seq}
use Rattle.sp_rules.specs.declared.rel.RelRefused.{RelRefused}
use Rattle.sp_rules.specs.declared.rel.RelRefused.TheVariants as rels

-- the signer has used all indexes, or all that are reserved
abbrev pub signer_refusal : Signer → Option SendRefused
signer_refusal s = if s.index == s.total then Some (refusals.Spent s.index) else if s.index == s.bound then Some (refusals.NotReserved s.bound) else None

-- with epochs nothing is sent to a node of which no life is known
abbrev pub is_unmet : NodeState → NodeId → Bool
is_unmet n dst = n.fixed.epochs && (held_boot n.parts.lives dst == 0)

-- the refusal where no start of the other end is known
abbrev pub no_life : Bool → Option SendRefused
no_life unmet = if unmet then Some refusals.BadEnd else None

-- ---- a reliable message

-- the refusal where a flow has no room
abbrev pub no_room : Result ℕ RelRefused → Option SendRefused
no_room (Ok number) = None
no_room (Err rels.BadEnd) = Some refusals.BadEnd
no_room (Err (rels.Full base have)) = Some (refusals.Full base have)
no_room (Err rels.Memory) = Some refusals.Memory

-- why a reliable message is refused: no known start, no room, no signature, in this order
abbrev pub rel_refusal : NodeState → NodeId → Option SendRefused
rel_refusal n dst = or_else (no_life (is_unmet n dst)) (or_else (no_room (room n.parts.rel dst)) (signer_refusal n.signer))

-- the number after the last of the flow
abbrev pub rel_number : NodeState → NodeId → ℕ
rel_number n dst = (flow_in n.parts.rel.flows (own_flow n.parts.rel dst)).at.have + 1

-- the reliable message that is sent
abbrev pub rel_of : NodeState → NodeId → List ℕ → Rel
rel_of n dst payload = record {
  src = n.fixed.me;
  dst = dst;
  sboot = held_boot n.parts.lives n.fixed.me;
  dboot = held_boot n.parts.lives dst;
  seq = rel_number n dst;
  payload = payload;
}

-- the object of a reliable message that is sent
abbrev pub rel_body : NodeState → NodeId → List ℕ → Body
rel_body n dst payload = bodies.Rel (rel_of n dst payload)

-- the node after a client sent a reliable message
abbrev pub after_send_rel : Arts → NodeState → NodeId → List ℕ → NodeState
after_send_rel arts n dst payload =
    kept_or (rel_refusal n dst) n (signed_once n (record n.parts { rel = pushed_in n.parts.rel (signed_now arts n (rel_body n dst payload)) }))

-- ---- a priority message

-- what a client asks for: over how many paths, 0 for all edges
pub record PrioSend : Type 0 where
  pub dst : NodeId
  pub prio : ℕ
  pub expiry : ℕ
  pub paths : ℕ
  pub payload : List ℕ

-- why a priority message is refused before its edges are chosen
abbrev pub prio_refusal : NodeState → PrioSend → Option SendRefused
prio_refusal n m =
    let s = n.parts.prio in
    if (m.dst.0 == n.fixed.me.0) || not (is_there s m.dst.0) || not (is_there s n.fixed.me.0) || is_unmet n m.dst then Some refusals.BadEnd
    else if nat_lt m.expiry n.now then Some (refusals.Expired n.now)
    else signer_refusal n.signer

-- the priority message that is sent over the edges of a mask
abbrev pub prio_of : NodeState → PrioSend → ℕ → Prio
prio_of n m mask = record {
  src = n.fixed.me;
  dst = m.dst;
  sboot = held_boot n.parts.lives n.fixed.me;
  seq = n.parts.prio.next;
  prio = m.prio;
  expiry = m.expiry;
  mask = mask_from mask;
  payload = m.payload;
}

-- the object of a priority message that is sent
abbrev pub prio_body : NodeState → PrioSend → ℕ → Body
prio_body n m mask = bodies.Prio (prio_of n m mask)

-- the paths that were asked for aren't there
abbrev pub no_paths : Choice → Option SendRefused
no_paths (Mask mask) = None
no_paths (OnlyPaths found) = Some (refusals.NoPaths found)

-- the mask that was chosen; where there are too few paths it is empty
abbrev pub mask_in : Choice → ℕ
mask_in (Mask mask) = mask
mask_in (OnlyPaths found) = 0

-- paths are sought only where nothing else refuses
abbrev pub send_prio_refusal : NodeState → PrioSend → Choice → Option SendRefused
send_prio_refusal n m choice = or_else (prio_refusal n m) (no_paths choice)

-- the priority message that is sent, with its signature
abbrev pub own_prio : Arts → NodeState → PrioSend → Choice → Kept
own_prio arts n m choice = signed_now arts n (prio_body n m (mask_in choice))

-- the node after a client sent a priority message
abbrev pub after_send_prio : Arts → NodeState → PrioSend → Choice → NodeState
after_send_prio arts n m choice =
    kept_or (send_prio_refusal n m choice) n (signed_once n (record n.parts { prio = admit_prio n.parts.prio (own_prio arts n m choice) None }))

-- ---- the weight of a link

-- why a weight of the edge at a place is refused, before its signature
abbrev pub weight_refusal_at : NodeState → Option ℕ → ℕ → Option SendRefused
weight_refusal_at n None weight = Some refusals.BadEnd
weight_refusal_at n (Some edge) weight =
    if is_withdrawn n.parts.weights edge then Some refusals.BadEnd
    else if nat_lt weight (minimum n.parts.weights edge) then Some (refusals.Low (minimum n.parts.weights edge)) else signer_refusal n.signer

-- why a weight of the edge to a neighbour is refused
abbrev pub weight_refusal : NodeState → NodeId → ℕ → Option SendRefused
weight_refusal n v weight = weight_refusal_at n (edge_to n.fixed v) weight

-- the place of an edge; without one it is 0
abbrev pub edge_or : Option ℕ → ℕ
edge_or None = 0
edge_or (Some edge) = edge

-- the number after the last of this node's end
abbrev pub weight_number : NodeState → NodeId → ℕ
weight_number n v = next_seq n.parts.weights (edge_or (edge_to n.fixed v)) n.fixed.me.0

-- the object of an update of a weight
abbrev pub weight_body : NodeState → NodeId → ℕ → Body
weight_body n v weight = bodies.Weight (record {
  origin = n.fixed.me;
  edge = record { 0 = edge_or (edge_to n.fixed v) };
  seq = weight_number n v;
  weight = weight;
})

-- the node after a client set a weight
abbrev pub after_set_weight : Arts → NodeState → NodeId → ℕ → NodeState
after_set_weight arts n v weight =
    kept_or (weight_refusal n v weight) n
    (signed_once n (record n.parts { weights = held n.parts.weights (signed_now arts n (weight_body n v weight)) }))

-- ---- what an accepted message causes: it is signed, and then what its part tells

-- what is told of each signature
abbrev pub signed_effect : Arts → Body → Effect
signed_effect arts body = Signed (arts.spell body)

-- what is told where a reliable message is sent
abbrev pub rel_sent : Arts → NodeState → NodeId → List ℕ → List Effect
rel_sent arts n dst payload = signed_effect arts (rel_body n dst payload) ∷ []

-- what is told where a priority message is sent
abbrev pub prio_sent : Arts → NodeState → PrioSend → Choice → List Effect
prio_sent arts n m choice = signed_effect arts (prio_body n m (mask_in choice)) ∷ prio_effects n.parts.prio (own_prio arts n m choice) None

-- what is told where a weight is set
abbrev pub weight_sent : Arts → NodeState → NodeId → ℕ → List Effect
weight_sent arts n v weight = signed_effect arts (weight_body n v weight) ∷ weight_effects (weight_body n v weight)

-- ---- a client takes what waits for it

-- the node after a client took a reliable message
abbrev pub after_take_rel : NodeState → NodeId → NodeState
after_take_rel n src = record n { parts = record n.parts { rel = took n.parts.rel src } }

-- the node after a client took a priority message
abbrev pub after_take_prio : NodeState → NodeState
after_take_prio n = record n { parts = record n.parts { prio = taken n.parts.prio } }

-- its entry leaves place 0
abbrev pub take_prio_effects : NodeState → List Effect
take_prio_effects n = gone 0 Taken (oldest n.parts.prio.inbox)
