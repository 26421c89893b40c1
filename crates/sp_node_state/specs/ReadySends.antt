-- What is ready before a send changes anything.
use Rattle.std.specs.Prelude.{◌≡◌, ◌<◌, ◌+◌, ◌*◌, ◌^◌, [], All, None, Result, Ok, Err, length}
use Rattle.sp_msg.specs.Masks.{bits}
use Rattle.sp_msg.specs.declared.mask.Mask.{Mask as EdgeSet}
use Rattle.sp_msg.specs.declared.refused.SendRefused.{SendRefused}
use Rattle.sp_msg.specs.declared.refused.SendRefused.TheVariants as refusals
use Rattle.sp_prio.specs.Spare.{IsSpareOf}
use Rattle.sp_rel.specs.Seated.{IsSeated}
use Rattle.sp_rules.specs.Flow.{flow_said}
use Rattle.sp_rules.specs.Masks.{IsChoice, Mask, OnlyPaths, graph_of}
use Rattle.sp_rules.specs.Node.{NodeState}
use Rattle.sp_rules.specs.Prio.{places}
use Rattle.sp_rules.specs.Rel.{IsNextOwn}
use Rattle.sp_rules.specs.Sends.{PrioSend}
use Rattle.sp_rules.specs.Handle.{offer_of}
use Rattle.sp_rules.specs.declared.weights.Offer.TheVariants as offers
use Rattle.sp_node_state.specs.declared.priority.ReadyPrio.{ReadyPrio}
use Rattle.sp_node_state.specs.declared.reliable.ReadyRel.{ReadyRel}
use Rattle.sp_node_state.specs.declared.weight.ReadyUpdate.{ReadyUpdate}
use Rattle.sp_node_state.specs.ReadyStates.{IsReadyBlank}

-- ---- a reliable message

pub record IsReadyRel (n : NodeState) (ready : ReadyRel) : Type 0 where
  pub blank : IsReadyBlank n ready.blank
  pub next : IsNextOwn n.parts.rel ready.blank.kept.body
  pub seat : IsSeated n.parts.rel (flow_said ready.blank.kept.body) ready.seat
  pub room : ready.effects ≡ record { list = []; room = 1 }

-- ---- an update of a weight

-- an update of a weight that waits for its signature alone
pub record IsReadyUpdate (n : NodeState) (ready : ReadyUpdate) : Type 0 where
  pub blank : IsReadyBlank n ready.blank
  pub new : offer_of n.parts.weights ready.blank.kept.body ≡ offers.New
  pub room : ready.effects ≡ record { list = []; room = 2 }

-- ---- a priority message

-- how the search for its edges ends: with those of a choice that the rules leave, with fewer paths, or for want of memory
abbrev pub IsMaskFor : NodeState → PrioSend → Result EdgeSet SendRefused → Type 0
IsMaskFor n m (Ok mask) = IsChoice n.parts.weights (graph_of n.fixed.topology n.parts.weights) n.fixed.me m.dst m.paths (Mask (bits mask))
IsMaskFor n m (Err (refusals.NoPaths found)) = IsChoice n.parts.weights (graph_of n.fixed.topology n.parts.weights) n.fixed.me m.dst m.paths (OnlyPaths found)
IsMaskFor n m (Err refused) = refused ≡ refusals.Memory

-- a priority message that waits for its signature alone, with room for each copy
pub record IsReadyPrio (n : NodeState) (ready : ReadyPrio) : Type 0 where
  pub blank : IsReadyBlank n ready.blank
  pub spare : IsSpareOf ready.blank.kept ready.spare
  pub copies : ready.spare.copies ≡ places n.parts.prio ready.blank.kept.body None
  pub inbox : n.parts.prio.inbox.last < 2 ^ 63
  pub stores : All (λ q. q.store.last < 2 ^ 63) n.parts.prio.peers
  pub room : ready.effects ≡ record { list = []; room = 1 + 2 * length n.parts.prio.peers + 3 }
