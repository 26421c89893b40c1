-- What a client takes of a flow is in its range.
use Rattle.std.proofs.Common.{◌≡◌, ◌≤◌, ℕ, ◌==◌, ◌&&◌, not, Bool, true, false, List, [], ◌∷◌, length, Option, None, refl, sym, ap, subst}
use Rattle.std.proofs.lemmas.List.Elements.{All-head}
use Rattle.std.specs.Prelude.{IfSome, IsTrue, slice_get}
use Rattle.std.specs.List.{All}
use Rattle.sp_base.specs.declared.id.NodeId.{NodeId}
use Rattle.sp_base.specs.declared.limits.TheConstants.{MAX_PAYLOAD_BYTES}
use Rattle.sp_node_format.specs.Format.{format_of}
use Rattle.sp_client_node.specs.Steps.{may_come_on_paths}
use Rattle.sp_node.specs.Calls.{TakesKrel, TakesRel}
use Rattle.sp_node_state.specs.States.{is_other}
use Rattle.sp_rules.specs.Node.{NodeState}
use Rattle.sp_rules.specs.Parts.{changes, flows_of, is_signed, nodes_of}
use Rattle.sp_rules.specs.Prio.{is_node}
use Rattle.sp_rules.specs.Rel as rel
use Rattle.sp_rules.specs.Steps.{Output, Payload, Reply}
use Rattle.sp_rules.specs.declared.kflow.FlowKind.{FlowKind}
use Rattle.sp_rules.specs.declared.kflow.FlowKind.TheVariants as kinds
use Rattle.laws_node.proofs.FlowKinds.{flows_hold}
use Rattle.laws_node.proofs.FlowRows.{read}
use Rattle.laws_node.proofs.Reliable.{in_range}
use Rattle.laws_node.specs.Flows.{IsShort}
use Rattle.laws_node.specs.Nodes.{IsKept, sizes_of}
use Rattle.laws_node.specs.Sizes.{IsNode, Sizes}

abbrev sizes : NodeState → Sizes
sizes n = sizes_of (λ o. IsTrue (is_signed (format_of n.fixed) n.fixed o)) n

abbrev payload_in : Reply → Option (List ℕ)
payload_in (Payload payload) = payload
payload_in _ = None

first_short : (inbox : List (List ℕ)) → All IsShort inbox → IfSome (slice_get inbox 0) IsShort
first_short [] all = tt
first_short (payload ∷ inbox) all = All-head IsShort payload inbox all

second : (a b : Bool) → (a && b) ≡ true → b ≡ true
second true true is = refl
second true false is = absurd (cc)
second false b is = absurd (cc)

-- the oldest message of a flow of a kind is as short as a payload
oldest_short : (kind : FlowKind) (n : NodeState) (src : NodeId) → IsKept (format_of n.fixed) n → is_other n src ≡ true
    → IfSome (rel.oldest (flows_of kind n.parts) src) IsShort
oldest_short kind n src h is =
    let flows = flows_of kind n.parts in
    let holds = flows_hold kind (sizes n) n.parts h.parts in
    let one = second (not (src.0 == n.fixed.me.0)) (is_node (nodes_of n.fixed.topology) src.0) is in
    let node = subst (λ (nodes : List NodeId). is_node nodes src.0 ≡ true) (sym holds.known) one in
    let from = in_range (sizes n).format flows.nodes src holds.nodes node in
    let me : IsNode (sizes n).format flows.me = subst (IsNode (sizes n).format) (sym holds.me) h.fixed.is_node in
    let row = read kind (sizes n) n.signer.index flows.flows (rel.flow_to_me flows src) from me holds.flows in
    first_short _ row.inbox

-- so is what a client takes of a plain flow
pub short : (n new : NodeState) (src : NodeId) (payload : Option (List ℕ)) → IsKept (format_of n.fixed) n → is_other n src ≡ true → TakesRel n src payload new
    → IfSome payload (λ p. length p ≤ MAX_PAYLOAD_BYTES)
short n new src payload h is takes =
    let same : payload ≡ rel.oldest n.parts.rel src = ap (λ (o : Output). payload_in o.reply) takes.0 in
    subst (λ (o : Option (List ℕ)). IfSome o (λ p. length p ≤ MAX_PAYLOAD_BYTES)) (sym same) (oldest_short kinds.Plain n src h is)

-- and of one on paths
pub short_on_paths : (n new : NodeState) (src : NodeId) (payload : Option (List ℕ)) → IsKept (format_of n.fixed) n → may_come_on_paths n src ≡ true
    → TakesKrel n src payload new → IfSome payload (λ p. length p ≤ MAX_PAYLOAD_BYTES)
short_on_paths n new src payload h may takes =
    let is : is_other n src ≡ true = second (changes n.fixed) (is_other n src) may in
    let same : payload ≡ rel.oldest n.parts.kflow.flows src = ap (λ (o : Output). payload_in o.reply) takes.0 in
    subst (λ (o : Option (List ℕ)). IfSome o (λ p. length p ≤ MAX_PAYLOAD_BYTES)) (sym same) (oldest_short kinds.Paths n src h is)
