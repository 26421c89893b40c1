-- Each call of a node keeps what a node keeps.
use Rattle.std.proofs.Common.{◌≡◌, ◌<◌, ◌≤◌, ◌^◌, ℕ, List, length, Option, Result, Ok, Err, IfOk, OnErr, refl, sym, subst, ap, ◌∙◌}
use Rattle.sp_base.specs.Spelling.{AreBytes}
use Rattle.sp_base.specs.declared.id.NodeId.{NodeId}
use Rattle.sp_base.specs.declared.memory.Memory.{Memory}
use Rattle.sp_base.specs.declared.limits.TheConstants.{MAX_PAYLOAD_BYTES, MAX_WEIGHT}
use Rattle.sp_node_format.specs.Format.{document_in, format_of}
use Rattle.sp_msg.specs.declared.refused.SendRefused.{SendRefused}
use Rattle.sp_msg.specs.declared.refused.SendRefused.TheVariants as sends
use Rattle.sp_rules.specs.Documents.{adopting, after_publish, document_answer}
use Rattle.sp_rules.specs.KflowSends.{KSend, after_take_krel, krel_refusal}
use Rattle.sp_rules.specs.Node.{NodeState, extended}
use Rattle.sp_rules.specs.Parts.{Fixed}
use Rattle.sp_rules.specs.Sends.{PrioSend, after_take_prio, after_take_rel, prio_refusal, rel_refusal, weight_refusal}
use Rattle.sp_rules.specs.Steps.{Datagram, Input, Poll, Publish, SendKrel, SendPrio, SendRel, SetWeight, TakeKrel, TakePrio, TakeRel, Tick, NodeStep, Output}
use Rattle.sp_rules.specs.declared.node.NodeRefused.{NodeRefused}
use Rattle.sp_rules.specs.declared.node.NodeRefused.TheVariants as calls
use Rattle.sp_rules.specs.declared.node.Step.{Step}
use Rattle.sp_rules.specs.declared.node.Taken.{Taken}
use Rattle.sp_rules.specs.declared.node.TickReply.{TickReply}
use Rattle.laws_node.specs.Inputs.{ArtsFit, InputFits, PrioSendFits}
use Rattle.laws_node.proofs.Shapes.{shapes_stay}
use Rattle.laws_node.proofs.Steps.{each_step_keeps, extend_keeps}
use Rattle.laws_node.proofs.Withdrawing.{step_obeys}
use Rattle.laws_node.specs.Nodes.{IsKept}
use Rattle.laws_node.specs.Shapes.{Shape}
use Rattle.sp_node.proofs.Adopted.{adopted_is_short}
use Rattle.sp_node.specs.Life.{IsLife}
use Rattle.sp_topology.specs.declared.topology.NodeKey.{NodeKey}
use Rattle.sp_node_state.specs.Sends.{Sends}
use Rattle.sp_node.specs.Calls.{Datagrams, Polls, Ticks}
use Rattle.sp_rules.specs.declared.answers.DocumentAnswer.{DocumentAnswer}
use Rattle.sp_rules.specs.declared.answers.DocumentAnswer.TheVariants as answers

-- a step of the rules keeps what always holds, since it changes no key and no format of the topology
step_life : (keys : List NodeKey) (n : NodeState) (input : Input) (output : Output) (new : NodeState) → ArtsFit (format_of n.fixed) n.fixed n.signer
    → InputFits input
    → NodeStep (format_of n.fixed) n input output new → IsLife n keys → IsLife new keys
step_life keys n input output new fits range is life =
    let same : new.fixed ≡ n.fixed = ap (λ (s : Shape). s.fixed) (shapes_stay (format_of n.fixed) n input output new is) in
    record {
      kept = subst (λ (f : Fixed). IsKept (format_of f) new) (sym same) (each_step_keeps (format_of n.fixed) n input output new fits range is life.kept);
      obeys = step_obeys (format_of n.fixed) n input output new
          (record { weights = life.kept.live.count; me = life.kept.parts.rel.me; on_paths = life.kept.parts.kflow.me }) is life.obeys;
      known = life.known ∙ ap (λ (f : Fixed). f.topology.nodes) (sym same);
    }

-- so does a call that leaves the node as it was
same_life : (keys : List NodeKey) (n new : NodeState) → new ≡ n → IsLife n keys → IsLife new keys
same_life keys n new same life = subst (λ (m : NodeState). IsLife m keys) (sym same) life

pub life_by_poll : (keys : List NodeKey) (n new : NodeState) (v : NodeId) (r : Result (List ℕ) NodeRefused)
    → ArtsFit (format_of n.fixed) n.fixed n.signer → IsLife n keys → Polls n v r new
    → IsLife new keys
life_by_poll keys n new v (Ok bytes) fits life step = step_life keys n (Poll v) _ new fits tt step life
life_by_poll keys n new v (Err calls.NotNeighbour) fits life step = step_life keys n (Poll v) _ new fits tt step life
life_by_poll keys n new v (Err calls.Worn) fits life step = step_life keys n (Poll v) _ new fits tt step life
life_by_poll keys n new v (Err calls.Memory) fits life step = same_life keys n new step.1 life

pub life_by_tick : (keys : List NodeKey) (n new : NodeState) (now : ℕ) (r : Result (Step TickReply) NodeRefused) → now < 2 ^ 64
    → ArtsFit (format_of n.fixed) n.fixed n.signer → IsLife n keys
    → Ticks n now r new → IsLife new keys
life_by_tick keys n new now (Ok step) small fits life is = step_life keys n (Tick now) _ new fits small is life
life_by_tick keys n new now (Err e) small fits life is = same_life keys n new is.1 life

pub life_by_send : (keys : List NodeKey) (n new : NodeState) (input : Input) (refusal : Option SendRefused) (r : Result (Step ℕ) SendRefused) → InputFits input
    → ArtsFit (format_of n.fixed) n.fixed n.signer → IsLife n keys → Sends input refusal n r new → IsLife new keys
life_by_send keys n new input refusal (Ok step) range fits life is = step_life keys n input _ new fits range is life
life_by_send keys n new input refusal (Err sends.BadEnd) range fits life is = step_life keys n input _ new fits range is life
life_by_send keys n new input refusal (Err (sends.Full base have)) range fits life is = step_life keys n input _ new fits range is life
life_by_send keys n new input refusal (Err (sends.Busy paths)) range fits life is = step_life keys n input _ new fits range is life
life_by_send keys n new input refusal (Err (sends.Expired now)) range fits life is = step_life keys n input _ new fits range is life
life_by_send keys n new input refusal (Err (sends.NoPaths found)) range fits life is = step_life keys n input _ new fits range is life
life_by_send keys n new input refusal (Err (sends.Low min)) range fits life is = step_life keys n input _ new fits range is life
life_by_send keys n new input refusal (Err (sends.Spent index)) range fits life is = step_life keys n input _ new fits range is life
life_by_send keys n new input refusal (Err (sends.NotReserved bound)) range fits life is = step_life keys n input _ new fits range is life
life_by_send keys n new input refusal (Err sends.Memory) range fits life is = same_life keys n new is.1 life

pub life_by_extend : (keys : List NodeKey) (n : NodeState) (upto : ℕ) → n.signer.bound ≤ upto → upto ≤ n.signer.total → IsLife n keys
    → IsLife (extended n upto) keys
life_by_extend keys n upto forward within life = record {
  kept = extend_keeps (format_of n.fixed) n upto forward within life.kept;
  obeys = life.obeys;
  known = life.known;
}

-- only a document that is adopted changes it, and that one has room in a frame
pub life_by_publish : (keys : List NodeKey) (n new : NodeState) (document : List ℕ) (r : Result (Step DocumentAnswer) Memory) → AreBytes document
    → ArtsFit (format_of n.fixed) n.fixed n.signer → IsLife n keys → IfOk r (λ step. new ≡ after_publish (format_of n.fixed) n document) → OnErr r (new ≡ n)
    → IsLife new keys
life_by_publish keys n new document (Err memory) are fits life is as_before = same_life keys n new as_before life
life_by_publish keys n new document (Ok step) are fits life is as_before = go (document_answer (format_of n.fixed) n document) refl
  where
    stays : (a : DocumentAnswer) → document_answer (format_of n.fixed) n document ≡ a → n ≡ adopting a n document (document_in document) → IsLife new keys
    stays a e same =
        same_life keys n new (is ∙ ap (λ (b : DocumentAnswer). adopting b n document (document_in document)) e ∙ sym same) life

    go : (a : DocumentAnswer) → document_answer (format_of n.fixed) n document ≡ a → IsLife new keys
    go answers.Bad e = stays answers.Bad e refl
    go (answers.Old held) e = stays (answers.Old held) e refl
    go answers.BadSig e = stays answers.BadSig e refl
    go answers.Strange e = stays answers.Strange e refl
    go (answers.Adopted version) e =
        step_life keys n (Publish document) _ new fits (are, adopted_is_short n document version are e) (refl, is) life

pub life_by_rel : (keys : List NodeKey) (n new : NodeState) (dst : NodeId) (payload : List ℕ) (r : Result (Step ℕ) SendRefused)
    → length payload ≤ MAX_PAYLOAD_BYTES
    → ArtsFit (format_of n.fixed) n.fixed n.signer → IsLife n keys → Sends (SendRel dst payload) (rel_refusal n dst) n r new → IsLife new keys
life_by_rel keys n new dst payload r short fits life is = life_by_send keys n new (SendRel dst payload) (rel_refusal n dst) r short fits life is

pub life_by_weight : (keys : List NodeKey) (n new : NodeState) (v : NodeId) (weight : ℕ) (r : Result (Step ℕ) SendRefused) → 1 ≤ weight → weight ≤ MAX_WEIGHT
    → ArtsFit (format_of n.fixed) n.fixed n.signer → IsLife n keys → Sends (SetWeight v weight) (weight_refusal n v weight) n r new → IsLife new keys
life_by_weight keys n new v weight r least most fits life is = life_by_send keys n new (SetWeight v weight) (weight_refusal n v weight) r
    (least, most) fits life is

pub life_by_take_rel : (keys : List NodeKey) (n new : NodeState) (src : NodeId) → ArtsFit (format_of n.fixed) n.fixed n.signer → IsLife n keys
    → new ≡ after_take_rel n src → IsLife new keys
life_by_take_rel keys n new src fits life is = step_life keys n (TakeRel src) _ new fits tt (refl, is) life

pub life_by_take_krel : (keys : List NodeKey) (n new : NodeState) (src : NodeId) → ArtsFit (format_of n.fixed) n.fixed n.signer → IsLife n keys
    → new ≡ after_take_krel n src → IsLife new keys
life_by_take_krel keys n new src fits life is = step_life keys n (TakeKrel src) _ new fits tt (refl, is) life

pub life_by_krel : (keys : List NodeKey) (n new : NodeState) (m : KSend) (r : Result (Step ℕ) SendRefused) → length m.payload ≤ MAX_PAYLOAD_BYTES
    → ArtsFit (format_of n.fixed) n.fixed n.signer → IsLife n keys → Sends (SendKrel m) (krel_refusal n m) n r new → IsLife new keys
life_by_krel keys n new m r short fits life is = life_by_send keys n new (SendKrel m) (krel_refusal n m) r short fits life is

pub life_by_take_prio : (keys : List NodeKey) (n new : NodeState) → ArtsFit (format_of n.fixed) n.fixed n.signer → IsLife n keys
    → new ≡ after_take_prio n → IsLife new keys
life_by_take_prio keys n new fits life is = step_life keys n TakePrio _ new fits tt (refl, is) life

pub life_by_datagram : (keys : List NodeKey) (n new : NodeState) (v : NodeId) (bytes : List ℕ) (r : Result (Step Taken) NodeRefused) → AreBytes bytes
    → ArtsFit (format_of n.fixed) n.fixed n.signer → IsLife n keys → Datagrams n v bytes r new → IsLife new keys
life_by_datagram keys n new v bytes (Ok step) are fits life is = step_life keys n (Datagram v bytes) _ new fits are is life
life_by_datagram keys n new v bytes (Err calls.NotNeighbour) are fits life is = step_life keys n (Datagram v bytes) _ new fits are is life
life_by_datagram keys n new v bytes (Err calls.Worn) are fits life is = step_life keys n (Datagram v bytes) _ new fits are is life
life_by_datagram keys n new v bytes (Err calls.Memory) are fits life is = same_life keys n new is.1 life

pub life_by_prio : (keys : List NodeKey) (n new : NodeState) (m : PrioSend) (r : Result (Step ℕ) SendRefused) → PrioSendFits m
    → ArtsFit (format_of n.fixed) n.fixed n.signer → IsLife n keys → Sends (SendPrio m) (prio_refusal n m) n r new → IsLife new keys
life_by_prio keys n new m r range fits life is = life_by_send keys n new (SendPrio m) (prio_refusal n m) r range fits life is
