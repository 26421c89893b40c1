use Rattle.std.proofs.Common.{◌≡◌, ◌≤◌, ◌+◌, ◌*◌, ◌-◌, List, [], ◌++◌, ◌∷◌, length, map, refl, sym, subst, ap, ◌∙◌, arith}
use Rattle.std.specs.Prelude.{IfSome, option_map}
use Rattle.sp_base.specs.declared.limits.TheConstants.{MAX_MESSAGES}
use Rattle.sp_frame.specs.Views.{as_list, as_numbered, as_object, as_report}
use Rattle.sp_msg.specs.Caused.{Caused}
use Rattle.sp_msg.specs.declared.effect.Effect.{Effect}
use Rattle.sp_rules.specs.Handle.{handle, handle_all, met_effects}
use Rattle.sp_rules.specs.Kflow.{KState}
use Rattle.sp_rules.specs.Lives.{origin_said}
use Rattle.sp_rules.specs.Parts.{Parts}
use Rattle.sp_rules.specs.Pieces.{EpochPiece, PrioAckPiece, WeightPiece, prio_piece, slot_pieces}
use Rattle.sp_rules.specs.Prio.{PrioState, acked}
use Rattle.sp_rules.specs.declared.kflow.FlowKind.TheVariants.{Plain, Paths}
use Rattle.sp_rules.specs.declared.lives.Life.{Life}
use Rattle.sp_node_arrivals.proofs.DoneLemmas.{done_then, one_done}
use Rattle.sp_node_arrivals.proofs.EndsLemmas.{ends_have_room, few_messages, plain_beside, same_ended, slot_lives, slots_used}
use Rattle.sp_node_arrivals.proofs.KindLemmas.{slot_follows}
use Rattle.sp_node_arrivals.proofs.PrioLemmas.{acked_follows, acked_ids, prios_follow}
use Rattle.sp_node_arrivals.specs.Done.{IsDone}
use Rattle.sp_node_arrivals.specs.Epoch.{IsEpochReady}
use Rattle.sp_node_arrivals.specs.Slot.{slot_items}
use Rattle.sp_node_arrivals.specs.Arrival.{as_arrival}
use Rattle.sp_node_arrivals.specs.Prio.{ArePriosReady}
use Rattle.sp_node_arrivals.specs.Prio.{HasIds}
use Rattle.sp_node_format.specs.Format.{format_of}
use Rattle.sp_node_arrivals.proofs.arriving.admit.Goals as goal

pub admit_from-prios-requires-clause-ready : goal.admit_from-prios-requires-clause-ready
admit_from-prios-requires-clause-ready c =
    let at = as_arrival c.args.at.now in
    let s = c.args.parts.now.prio in
    let v = c.args.at.now.from.0 in
    let number = c.args.sections.now.prio_ack in
    let same = ap (λ (p : Parts). p.prio) c.acknowledge.ensures.parts ∙ ap (λ (q : PrioState). acked q v number) c.admit-weight.ensures.prio in
    let lives = ap (λ (p : Parts). p.lives) c.acknowledge.ensures.parts ∙ c.admit-weight.ensures.lives in
    subst (λ (ls : List Life). ArePriosReady at ls c.acknowledge.new.parts.prio (map as_numbered c.args.sections.now.prios) c.args.ready.prios) (sym lives)
    (subst (λ (q : PrioState). ArePriosReady at c.args.parts.now.lives q (map as_numbered c.args.sections.now.prios) c.args.ready.prios) (sym same)
    (prios_follow at c.args.parts.now.lives s (acked s v number) (map as_numbered c.args.sections.now.prios) c.args.ready.prios
    (acked_follows s v number) c.requires.ready.messages))

pub admit_from-prios-requires-clause-room : goal.admit_from-prios-requires-clause-room
admit_from-prios-requires-clause-room c =
    let s = c.args.parts.now.prio in
    let v = c.args.at.now.from.0 in
    let number = c.args.sections.now.prio_ack in
    let same = ap (λ (p : Parts). p.prio) c.acknowledge.ensures.parts ∙ ap (λ (q : PrioState). acked q v number) c.admit-weight.ensures.prio in
    let long = ap (λ (q : PrioState). length q.peers) same ∙ (acked_follows s v number).peers in
    record {
      ids = subst (HasIds MAX_MESSAGES) (sym same) (acked_ids MAX_MESSAGES s v number c.requires.ids);
      told = omega (arith, long, c.requires.room, c.admit-weight.ensures.room, c.acknowledge.ensures.room);
    }

pub admit-slot-requires-clause-room : goal.admit-slot-requires-clause-room
admit-slot-requires-clause-room c =
    let s = c.args.parts.now.prio in
    let v = c.args.at.now.from.0 in
    let number = c.args.sections.now.prio_ack in
    let same = ap (λ (p : Parts). p.prio) c.acknowledge.ensures.parts ∙ ap (λ (q : PrioState). acked q v number) c.admit-weight.ensures.prio in
    let long = ap (λ (q : PrioState). length q.peers) same ∙ (acked_follows s v number).peers in
    omega (arith, long, c.requires.room, c.admit-weight.ensures.room, c.acknowledge.ensures.room, c.admit_from-prios.ensures.room)

pub admit-slot-requires-clause-ready : goal.admit-slot-requires-clause-ready
admit-slot-requires-clause-ready c =
    let p = c.args.parts.now in
    let two = c.admit_from-prios.new.parts in
    let lives = c.admit_from-prios.ensures.lives ∙ ap (λ (q : Parts). q.lives) c.acknowledge.ensures.parts ∙ c.admit-weight.ensures.lives in
    let kflow = c.admit_from-prios.ensures.kflow ∙ ap (λ (q : Parts). q.kflow) c.acknowledge.ensures.parts ∙ c.admit-weight.ensures.kflow in
    let rel = c.admit_from-prios.ensures.rel ∙ ap (λ (q : Parts). q.rel) c.acknowledge.ensures.parts ∙ c.admit-weight.ensures.rel in
    slot_follows (as_arrival c.args.at.now) p two p.rel two.rel c.args.sections.now.slot c.args.ready.slot lives kflow rel c.requires.ready.slot

-- the plain slot leaves the flows on paths
pub admit-paths-requires-clause-ready : goal.admit-paths-requires-clause-ready
admit-paths-requires-clause-ready c =
    let at = as_arrival c.args.at.now in
    let arts = format_of c.args.at.now.fixed.now in
    let p = c.args.parts.now in
    let two = c.admit_from-prios.new.parts in
    let three = c.admit-slot.new.parts in
    let slot = option_map as_report c.args.sections.now.slot in
    let lives = ap (λ (q : Parts). q.lives) c.admit-slot.ensures.done.parts ∙ slot_lives arts at two Plain slot
    ∙ c.admit_from-prios.ensures.lives ∙ ap (λ (q : Parts). q.lives) c.acknowledge.ensures.parts ∙ c.admit-weight.ensures.lives in
    let kflow = ap (λ (q : Parts). q.kflow) c.admit-slot.ensures.done.parts ∙ plain_beside arts at two slot
    ∙ c.admit_from-prios.ensures.kflow ∙ ap (λ (q : Parts). q.kflow) c.acknowledge.ensures.parts ∙ c.admit-weight.ensures.kflow in
    slot_follows at p three p.kflow.flows three.kflow.flows c.args.sections.now.paths c.args.ready.paths lives kflow (ap (λ (k : KState). k.flows) kflow)
    c.requires.ready.paths

pub admit-paths-requires-clause-room : goal.admit-paths-requires-clause-room
admit-paths-requires-clause-room c =
    let s = c.args.parts.now.prio in
    let v = c.args.at.now.from.0 in
    let number = c.args.sections.now.prio_ack in
    let same = ap (λ (p : Parts). p.prio) c.acknowledge.ensures.parts ∙ ap (λ (q : PrioState). acked q v number) c.admit-weight.ensures.prio in
    let long = ap (λ (q : PrioState). length q.peers) same ∙ (acked_follows s v number).peers in
    omega (
      arith,
      long,
      c.requires.room,
      c.admit-weight.ensures.room,
      c.acknowledge.ensures.room,
      c.admit_from-prios.ensures.room,
      c.admit-slot.ensures.room,
    )

-- no object before it changes a life
pub admit-epoch-requires-clause-ready : goal.admit-epoch-requires-clause-ready
admit-epoch-requires-clause-ready c =
    let at = as_arrival c.args.at.now in
    let arts = format_of c.args.at.now.fixed.now in
    let f = c.args.at.now.fixed.now in
    let s = c.args.sections.now in
    let two = c.admit_from-prios.new.parts in
    let three = c.admit-slot.new.parts in
    let lives = ap (λ (q : Parts). q.lives) c.admit-paths.ensures.done.parts ∙ slot_lives arts at three Paths (option_map as_report s.paths)
    ∙ ap (λ (q : Parts). q.lives) c.admit-slot.ensures.done.parts ∙ slot_lives arts at two Plain (option_map as_report s.slot)
    ∙ c.admit_from-prios.ensures.lives ∙ ap (λ (q : Parts). q.lives) c.acknowledge.ensures.parts ∙ c.admit-weight.ensures.lives in
    subst (λ (ls : List Life). IfSome (option_map as_object s.epoch) (λ o. IsEpochReady f ls o c.args.ready.epoch)) (sym lives) c.requires.ready.epoch

pub admit-epoch-requires-clause-room : goal.admit-epoch-requires-clause-room
admit-epoch-requires-clause-room c =
    let at = as_arrival c.args.at.now in
    let arts = format_of c.args.at.now.fixed.now in
    let f = c.args.at.now.fixed.now in
    let s = c.args.sections.now in
    let p = c.args.parts.now in
    let v = c.args.at.now.from.0 in
    let number = s.prio_ack in
    let two = c.admit_from-prios.new.parts in
    let three = c.admit-slot.new in
    let four = c.admit-paths.new in
    let slot = option_map as_report s.slot in
    let paths = option_map as_report s.paths in
    let same = ap (λ (q : Parts). q.prio) c.acknowledge.ensures.parts ∙ ap (λ (q : PrioState). acked q v number) c.admit-weight.ensures.prio in
    let long = ap (λ (q : PrioState). length q.peers) same ∙ (acked_follows p.prio v number).peers in
    let lives = ap (λ (q : Parts). q.lives) c.admit-paths.ensures.done.parts ∙ slot_lives arts at three.parts Paths paths
    ∙ ap (λ (q : Parts). q.lives) c.admit-slot.ensures.done.parts ∙ slot_lives arts at two Plain slot
    ∙ c.admit_from-prios.ensures.lives ∙ ap (λ (q : Parts). q.lives) c.acknowledge.ensures.parts ∙ c.admit-weight.ensures.lives in
    let rel : two.rel ≡ p.rel = c.admit_from-prios.ensures.rel ∙ ap (λ (q : Parts). q.rel) c.acknowledge.ensures.parts ∙ c.admit-weight.ensures.rel in
    let kflow : two.kflow ≡ p.kflow =
    c.admit_from-prios.ensures.kflow ∙ ap (λ (q : Parts). q.kflow) c.acknowledge.ensures.parts ∙ c.admit-weight.ensures.kflow in
    let one : List Effect = (handle_all arts at two (slot_pieces Plain slot)).effects in
    let other : List Effect = (handle_all arts at three.parts (slot_pieces Paths paths)).effects in
    let told : three.out.room ≡ c.admit_from-prios.new.out.room - length one = ap (λ (e : Caused). e.room) c.admit-slot.ensures.done.effects in
    let more : four.out.room ≡ three.out.room - length other = ap (λ (e : Caused). e.room) c.admit-paths.ensures.done.effects in
    ends_have_room f.me p four.parts four.out.room (option_map as_object s.epoch) lives
    (λ o new.
    let ends : length (met_effects two (origin_said o.body)) ≡ length (met_effects p (origin_said o.body)) =
    same_ended (origin_said o.body) p two rel kflow in
    let used : length (met_effects four.parts (origin_said o.body)) + (length one + length other)
    ≤ length (met_effects two (origin_said o.body)) + 2 * (1 + 2 * MAX_MESSAGES) =
    slots_used (origin_said o.body) arts at two three.parts four.parts slot paths c.admit-slot.ensures.done.parts c.admit-paths.ensures.done.parts
    (few_messages s.slot c.admit-slot.ensures.short) (few_messages s.paths c.admit-paths.ensures.short) in
    omega (
      arith,
      long,
      ends,
      used,
      told,
      more,
      new,
      c.requires.room,
      c.admit-weight.ensures.room,
      c.acknowledge.ensures.room,
      c.admit_from-prios.ensures.room,
    ))

pub returns : goal.returns
returns c =
    let at = as_arrival c.args.at.now in
    let arts = format_of c.args.at.now.fixed.now in
    let s = c.args.sections.now in
    let first = map WeightPiece (as_list (option_map as_object s.weight)) in
    let ack = PrioAckPiece s.prio_ack ∷ [] in
    let second = map prio_piece (map as_numbered s.prios) in
    let third = slot_pieces Plain (option_map as_report s.slot) in
    let fourth = slot_pieces Paths (option_map as_report s.paths) in
    let fifth = map EpochPiece (as_list (option_map as_object s.epoch)) in
    let one = c.admit-weight.new in
    let heard = c.acknowledge.new in
    let two = c.admit_from-prios.new in
    let three = c.admit-slot.new in
    let four = c.admit-paths.new in
    let five = c.admit-epoch.new in
    let ends = slot_items c.admit-paths.result ++ as_list c.admit-epoch.result in
    let last = slot_items c.admit-slot.result ++ ends in
    let acked_done : IsDone (handle arts at one.parts (PrioAckPiece s.prio_ack)) heard.parts [] one.out heard.out =
    record { parts = c.acknowledge.ensures.parts; items = refl; effects = c.acknowledge.ensures.told } in
    let slots : IsDone (handle_all arts at two.parts (third ++ (fourth ++ fifth))) five.parts last two.out five.out =
    done_then arts at two.parts three.parts five.parts third (fourth ++ fifth) (slot_items c.admit-slot.result) ends two.out three.out five.out
    c.admit-slot.ensures.done
    (done_then arts at three.parts four.parts five.parts fourth fifth (slot_items c.admit-paths.result) (as_list c.admit-epoch.result)
    three.out four.out five.out c.admit-paths.ensures.done c.admit-epoch.ensures) in
    done_then arts at c.args.parts.now one.parts five.parts first (ack ++ (second ++ (third ++ (fourth ++ fifth)))) (as_list c.admit-weight.result)
    (c.admit_from-prios.result ++ last) c.args.out.now one.out five.out c.admit-weight.ensures.done
    (done_then arts at one.parts heard.parts five.parts ack (second ++ (third ++ (fourth ++ fifth))) [] (c.admit_from-prios.result ++ last)
    one.out heard.out five.out (one_done arts at one.parts heard.parts (PrioAckPiece s.prio_ack) [] one.out heard.out acked_done)
    (done_then arts at heard.parts two.parts five.parts second (third ++ (fourth ++ fifth)) c.admit_from-prios.result last
    heard.out two.out five.out c.admit_from-prios.ensures.done slots))
