-- What flows of both kinds have alike: the objects of each kind, and the part of a node that it is.
use Rattle.std.proofs.Common.{◌≡◌, ◌≤◌, ℕ, ◌==◌, Bool, true, false, [], refl, ap, cond}
use Rattle.sp_base.specs.Formats.{by_format}
use Rattle.sp_base.specs.declared.format.TheConstants.{FORMAT_1}
use Rattle.sp_base.specs.declared.id.Flow.{Flow}
use Rattle.sp_frame.specs.Objects.{is_of}
use Rattle.sp_frame.specs.declared.kind.Kind.{Kind}
use Rattle.sp_frame.specs.declared.kind.Kind.TheVariants as objects
use Rattle.sp_msg.proofs.GoodFields.{good_ack, good_kack}
use Rattle.sp_msg.specs.Bodies.{HasGoodFieldsIn, payload_of}
use Rattle.sp_msg.specs.Views.{signer_of}
use Rattle.sp_msg.specs.declared.body.Ack.{Ack}
use Rattle.sp_msg.specs.declared.body.Body.{Body}
use Rattle.sp_msg.specs.declared.body.Body.TheVariants as bodies
use Rattle.sp_rules.specs.Flow.{IsReliable, flow_said, number_said}
use Rattle.sp_rules.specs.Kflow.{ack_body}
use Rattle.sp_rules.specs.Parts.{Parts, flows_of, with_flows}
use Rattle.sp_rules.specs.Rel.{RelState, plain, undated}
use Rattle.sp_rules.specs.declared.kflow.FlowKind.{FlowKind}
use Rattle.sp_rules.specs.declared.kflow.FlowKind.TheVariants.{Plain, Paths}
use Rattle.laws_node.specs.About.{HasNode, IsAbout}
use Rattle.laws_node.specs.Flows.{HasFlows, IsAckOf, IsRelOf, RelHolds}
use Rattle.laws_node.specs.Nodes.{PartsHold}
use Rattle.laws_node.specs.Sizes.{Sizes}
use Rattle.sp_topology.specs.declared.topology.Topology.{Topology}

-- ---- the objects of a kind

-- its acknowledgements
abbrev pub ack_kind : FlowKind → Kind
ack_kind Plain = objects.Ack
ack_kind Paths = objects.Kack

-- its messages
abbrev pub rel_kind : FlowKind → Kind
rel_kind Plain = objects.Rel
rel_kind Paths = objects.Krel

-- an object of the kind of its messages is one
pub is_rel_of : (kind : FlowKind) (body : Body) → is_of (rel_kind kind) body ≡ true → IsRelOf kind body
is_rel_of Plain (bodies.Prio b) is = absurd (cc)
is_rel_of Plain (bodies.Rel b) is = tt
is_rel_of Plain (bodies.Ack b) is = absurd (cc)
is_rel_of Plain (bodies.Weight b) is = absurd (cc)
is_rel_of Plain (bodies.Krel b) is = absurd (cc)
is_rel_of Plain (bodies.Kack b) is = absurd (cc)
is_rel_of Plain (bodies.Epoch b) is = absurd (cc)
is_rel_of Paths (bodies.Prio b) is = absurd (cc)
is_rel_of Paths (bodies.Rel b) is = absurd (cc)
is_rel_of Paths (bodies.Ack b) is = absurd (cc)
is_rel_of Paths (bodies.Weight b) is = absurd (cc)
is_rel_of Paths (bodies.Krel b) is = tt
is_rel_of Paths (bodies.Kack b) is = absurd (cc)
is_rel_of Paths (bodies.Epoch b) is = absurd (cc)

-- and the other way round
pub rel_is_of : (kind : FlowKind) (body : Body) → IsRelOf kind body → is_of (rel_kind kind) body ≡ true
rel_is_of Plain (bodies.Prio b) is = absurd is
rel_is_of Plain (bodies.Rel b) is = refl
rel_is_of Plain (bodies.Ack b) is = absurd is
rel_is_of Plain (bodies.Weight b) is = absurd is
rel_is_of Plain (bodies.Krel b) is = absurd is
rel_is_of Plain (bodies.Kack b) is = absurd is
rel_is_of Plain (bodies.Epoch b) is = absurd is
rel_is_of Paths (bodies.Prio b) is = absurd is
rel_is_of Paths (bodies.Rel b) is = absurd is
rel_is_of Paths (bodies.Ack b) is = absurd is
rel_is_of Paths (bodies.Weight b) is = absurd is
rel_is_of Paths (bodies.Krel b) is = refl
rel_is_of Paths (bodies.Kack b) is = absurd is
rel_is_of Paths (bodies.Epoch b) is = absurd is

-- it is a message of a flow
pub rel_is_reliable : (kind : FlowKind) (body : Body) → IsRelOf kind body → IsReliable body
rel_is_reliable Plain (bodies.Prio b) is = absurd is
rel_is_reliable Plain (bodies.Rel b) is = tt
rel_is_reliable Plain (bodies.Ack b) is = absurd is
rel_is_reliable Plain (bodies.Weight b) is = absurd is
rel_is_reliable Plain (bodies.Krel b) is = absurd is
rel_is_reliable Plain (bodies.Kack b) is = absurd is
rel_is_reliable Plain (bodies.Epoch b) is = absurd is
rel_is_reliable Paths (bodies.Prio b) is = absurd is
rel_is_reliable Paths (bodies.Rel b) is = absurd is
rel_is_reliable Paths (bodies.Ack b) is = absurd is
rel_is_reliable Paths (bodies.Weight b) is = absurd is
rel_is_reliable Paths (bodies.Krel b) is = tt
rel_is_reliable Paths (bodies.Kack b) is = absurd is
rel_is_reliable Paths (bodies.Epoch b) is = absurd is

-- an acknowledgement of this kind is one of the flow that it says
pub is_ack_of : (kind : FlowKind) (flow : Flow) (body : Body) → is_of (ack_kind kind) body ≡ true → flow_said body ≡ flow → IsAckOf kind flow body
is_ack_of Plain flow (bodies.Prio b) is e = absurd (cc)
is_ack_of Plain flow (bodies.Rel b) is e = absurd (cc)
is_ack_of Plain flow (bodies.Ack b) is e = (ap (λ (f : Flow). f.src) e, ap (λ (f : Flow). f.dst) e)
is_ack_of Plain flow (bodies.Weight b) is e = absurd (cc)
is_ack_of Plain flow (bodies.Krel b) is e = absurd (cc)
is_ack_of Plain flow (bodies.Kack b) is e = absurd (cc)
is_ack_of Plain flow (bodies.Epoch b) is e = absurd (cc)
is_ack_of Paths flow (bodies.Prio b) is e = absurd (cc)
is_ack_of Paths flow (bodies.Rel b) is e = absurd (cc)
is_ack_of Paths flow (bodies.Ack b) is e = absurd (cc)
is_ack_of Paths flow (bodies.Weight b) is e = absurd (cc)
is_ack_of Paths flow (bodies.Krel b) is e = absurd (cc)
is_ack_of Paths flow (bodies.Kack b) is e = (ap (λ (f : Flow). f.src) e, ap (λ (f : Flow). f.dst) e)
is_ack_of Paths flow (bodies.Epoch b) is e = absurd (cc)

-- and the other way round
pub ack_is_of : (kind : FlowKind) (flow : Flow) (body : Body) → IsAckOf kind flow body → is_of (ack_kind kind) body ≡ true
ack_is_of Plain flow (bodies.Prio b) is = absurd is
ack_is_of Plain flow (bodies.Rel b) is = absurd is
ack_is_of Plain flow (bodies.Ack b) is = refl
ack_is_of Plain flow (bodies.Weight b) is = absurd is
ack_is_of Plain flow (bodies.Krel b) is = absurd is
ack_is_of Plain flow (bodies.Kack b) is = absurd is
ack_is_of Plain flow (bodies.Epoch b) is = absurd is
ack_is_of Paths flow (bodies.Prio b) is = absurd is
ack_is_of Paths flow (bodies.Rel b) is = absurd is
ack_is_of Paths flow (bodies.Ack b) is = absurd is
ack_is_of Paths flow (bodies.Weight b) is = absurd is
ack_is_of Paths flow (bodies.Krel b) is = absurd is
ack_is_of Paths flow (bodies.Kack b) is = refl
ack_is_of Paths flow (bodies.Epoch b) is = absurd is

-- ---- formats

later_format : (format : ℕ) → by_format format false true ≡ true → (format == FORMAT_1) ≡ false
later_format format e = go (format == FORMAT_1) e
  where
    go : (t : Bool) → cond t false true ≡ true → t ≡ false
    go true e = absurd (cc)
    go false e = refl

-- a format that has a message of a kind has flows of that kind
pub rel_later : (kind : FlowKind) (format : ℕ) (body : Body) → IsRelOf kind body → HasGoodFieldsIn format body → HasFlows kind format
rel_later Plain format (bodies.Prio b) is good = absurd is
rel_later Plain format (bodies.Rel b) is good = tt
rel_later Plain format (bodies.Ack b) is good = absurd is
rel_later Plain format (bodies.Weight b) is good = absurd is
rel_later Plain format (bodies.Krel b) is good = absurd is
rel_later Plain format (bodies.Kack b) is good = absurd is
rel_later Plain format (bodies.Epoch b) is good = absurd is
rel_later Paths format (bodies.Prio b) is good = absurd is
rel_later Paths format (bodies.Rel b) is good = absurd is
rel_later Paths format (bodies.Ack b) is good = absurd is
rel_later Paths format (bodies.Weight b) is good = absurd is
rel_later Paths format (bodies.Krel b) is good = later_format format good.0
rel_later Paths format (bodies.Kack b) is good = absurd is
rel_later Paths format (bodies.Epoch b) is good = absurd is

-- so has one that has an acknowledgement of that kind
pub ack_later : (kind : FlowKind) (format : ℕ) (flow : Flow) (body : Body) → IsAckOf kind flow body → HasGoodFieldsIn format body → HasFlows kind format
ack_later Plain format flow (bodies.Prio b) is good = absurd is
ack_later Plain format flow (bodies.Rel b) is good = absurd is
ack_later Plain format flow (bodies.Ack b) is good = tt
ack_later Plain format flow (bodies.Weight b) is good = absurd is
ack_later Plain format flow (bodies.Krel b) is good = absurd is
ack_later Plain format flow (bodies.Kack b) is good = absurd is
ack_later Plain format flow (bodies.Epoch b) is good = absurd is
ack_later Paths format flow (bodies.Prio b) is good = absurd is
ack_later Paths format flow (bodies.Rel b) is good = absurd is
ack_later Paths format flow (bodies.Ack b) is good = absurd is
ack_later Paths format flow (bodies.Weight b) is good = absurd is
ack_later Paths format flow (bodies.Krel b) is good = absurd is
ack_later Paths format flow (bodies.Kack b) is good = later_format format good.0
ack_later Paths format flow (bodies.Epoch b) is good = absurd is

-- acknowledgements are of message 1 or a later one
pub ack_some : (kind : FlowKind) (format : ℕ) (flow : Flow) (body : Body) → IsAckOf kind flow body → HasGoodFieldsIn format body → 1 ≤ number_said body
ack_some Plain format flow (bodies.Prio b) is good = absurd is
ack_some Plain format flow (bodies.Rel b) is good = absurd is
ack_some Plain format flow (bodies.Ack b) is good = (good_ack format b good).seq.0
ack_some Plain format flow (bodies.Weight b) is good = absurd is
ack_some Plain format flow (bodies.Krel b) is good = absurd is
ack_some Plain format flow (bodies.Kack b) is good = absurd is
ack_some Plain format flow (bodies.Epoch b) is good = absurd is
ack_some Paths format flow (bodies.Prio b) is good = absurd is
ack_some Paths format flow (bodies.Rel b) is good = absurd is
ack_some Paths format flow (bodies.Ack b) is good = absurd is
ack_some Paths format flow (bodies.Weight b) is good = absurd is
ack_some Paths format flow (bodies.Krel b) is good = absurd is
ack_some Paths format flow (bodies.Kack b) is good = (good_kack format b good).seq.0
ack_some Paths format flow (bodies.Epoch b) is good = absurd is

-- ---- the acknowledgement that a node signs

-- its flow
pub ack_said : (kind : FlowKind) (a : Ack) → flow_said (ack_body kind a) ≡ record { src = a.src; dst = a.dst }
ack_said Plain a = refl
ack_said Paths a = refl

-- its number
pub ack_numbered : (kind : FlowKind) (a : Ack) → number_said (ack_body kind a) ≡ a.seq
ack_numbered Plain a = refl
ack_numbered Paths a = refl

-- as one of a plain flow, without boots
pub ack_plain : (kind : FlowKind) (a : Ack) → plain (ack_body kind a) ≡ bodies.Ack (undated a)
ack_plain Plain a = refl
ack_plain Paths a = refl

-- its destination signs it
pub ack_signer : (kind : FlowKind) (a : Ack) → signer_of (ack_body kind a) ≡ a.dst
ack_signer Plain a = refl
ack_signer Paths a = refl

-- it has no payload
pub ack_empty : (kind : FlowKind) (a : Ack) → payload_of (ack_body kind a) ≡ []
ack_empty Plain a = refl
ack_empty Paths a = refl

-- it is of its kind
pub ack_of_kind : (kind : FlowKind) (a : Ack) → is_of (ack_kind kind) (ack_body kind a) ≡ true
ack_of_kind Plain a = refl
ack_of_kind Paths a = refl

-- it is in its ranges where a plain one is, in a format that has such flows
pub ack_body_is_good : (kind : FlowKind) (format : ℕ) (a : Ack) → HasFlows kind format → HasGoodFieldsIn format (bodies.Ack a)
    → HasGoodFieldsIn format (ack_body kind a)
ack_body_is_good Plain format a later good = good
ack_body_is_good Paths format a later good = (ap (λ (t : Bool). cond t false true) later, good.1)

-- it speaks of its two ends
pub ack_is_about : (kind : FlowKind) (t : Topology) (a : Ack) → HasNode t a.src × HasNode t a.dst → IsAbout t (ack_body kind a)
ack_is_about Plain t a both = both
ack_is_about Paths t a both = both

-- ---- the parts of a node

-- flows within their bounds
pub flows_hold : {numbers ids index : ℕ} (kind : FlowKind) (k : Sizes) (p : Parts) → PartsHold k numbers ids index p
    → RelHolds kind k index (flows_of kind p)
flows_hold Plain k p h = h.rel
flows_hold Paths k p h = h.kflow

-- the parts with other flows of a kind that are within theirs
pub with_flows_hold : {numbers ids index : ℕ} (kind : FlowKind) (k : Sizes) (r : RelState) (p : Parts) → RelHolds kind k index r
    → PartsHold k numbers ids index p → PartsHold k numbers ids index (with_flows kind r p)
with_flows_hold Plain k r p new h = record { weights = h.weights; prio = h.prio; rel = new; kflow = h.kflow; lives = h.lives; origins = h.origins }
with_flows_hold Paths k r p new h = record { weights = h.weights; prio = h.prio; rel = h.rel; kflow = new; lives = h.lives; origins = h.origins }

-- what stands beside the flows stays
pub lives_beside : (kind : FlowKind) (r : RelState) (p : Parts) → (with_flows kind r p).lives ≡ p.lives
lives_beside Plain r p = refl
lives_beside Paths r p = refl

pub prio_beside : (kind : FlowKind) (r : RelState) (p : Parts) → (with_flows kind r p).prio ≡ p.prio
prio_beside Plain r p = refl
prio_beside Paths r p = refl

pub weights_beside : (kind : FlowKind) (r : RelState) (p : Parts) → (with_flows kind r p).weights ≡ p.weights
weights_beside Plain r p = refl
weights_beside Paths r p = refl
