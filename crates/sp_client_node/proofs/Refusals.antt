-- What a node refuses a client's send for is what such a send may be refused for.
use Rattle.std.proofs.Common.{◌≡◌, ℕ, ◌==◌, ◌&&◌, ◌||◌, not, nat_lt, Bool, true, false, List, Option, Some, None, Result, Ok, Err, refl, sym, ap, subst}
use Rattle.std.specs.Prelude.{IfErr, IfSome, if◌then◌else◌}
use Rattle.sp_base.specs.Cursor.{or_else}
use Rattle.sp_base.specs.declared.id.NodeId.{NodeId}
use Rattle.sp_client.specs.Locals.{may_refuse_krel, may_refuse_prio, may_refuse_rel}
use Rattle.sp_msg.specs.Caused.{Caused}
use Rattle.sp_msg.specs.declared.effect.Effect.{Effect}
use Rattle.sp_msg.specs.declared.mask.Mask.{Mask as KrelMask}
use Rattle.sp_msg.specs.declared.refused.SendRefused.{SendRefused}
use Rattle.sp_msg.specs.declared.refused.SendRefused.TheVariants as refusals
use Rattle.sp_node_format.specs.Format.{format_of}
use Rattle.sp_node_state.specs.Sends.{Sends}
use Rattle.sp_rules.specs.Kflow.{KState, busy, paths_to, waiting_mask}
use Rattle.sp_rules.specs.Kflow.{room as room_on_paths}
use Rattle.sp_rules.specs.KflowSends.{KSend, krel_refusal, no_mask, no_place, send_krel_refusal}
use Rattle.sp_rules.specs.Masks.{Choice, Mask, OnlyPaths}
use Rattle.sp_rules.specs.Node.{NodeState, Signer}
use Rattle.sp_rules.specs.Prio.{is_there}
use Rattle.sp_rules.specs.Parts.{is_first}
use Rattle.sp_rules.specs.Rel.{is_waiting, room}
use Rattle.sp_rules.specs.Sends.{PrioSend, is_unmet, no_life, no_paths, no_room, prio_refusal, rel_refusal, send_prio_refusal, signer_refusal}
use Rattle.sp_rules.specs.Steps.{Accepted, Input, NodeStep, Output, Refused, SendKrel, SendPrio, SendRel, accepted, refused_send, replied}
use Rattle.sp_rules.specs.declared.kflow.KRoom.{KRoom}
use Rattle.sp_rules.specs.declared.node.Step.{Step}
use Rattle.sp_rules.specs.declared.rel.RelRefused.{RelRefused}
use Rattle.sp_rules.specs.declared.rel.RelRefused.TheVariants as rels
use Rattle.sp_client_node.specs.Kept.{Keeps}

-- a refusal, where there is one, is one of these
abbrev Within : (SendRefused → Bool) → Option SendRefused → Type 0
Within may refusal = IfSome refusal (λ e. may e ≡ true)

within_or : (may : SendRefused → Bool) (first second : Option SendRefused) → Within may first → Within may second → Within may (or_else first second)
within_or may None second one other = other
within_or may (Some refused) second one other = one

within_test : (may : SendRefused → Bool) (t : Bool) (refused : SendRefused) (rest : Option SendRefused) → may refused ≡ true → Within may rest
    → Within may (if t then Some refused else rest)
within_test may true refused rest one other = one
within_test may false refused rest one other = other

within_signer : (may : SendRefused → Bool) (s : Signer) → may (refusals.Spent s.index) ≡ true → may (refusals.NotReserved s.bound) ≡ true
    → Within may (signer_refusal s)
within_signer may s spent reserved =
    within_test may (s.index == s.total) (refusals.Spent s.index) (if s.index == s.bound then Some (refusals.NotReserved s.bound) else None) spent
    (within_test may (s.index == s.bound) (refusals.NotReserved s.bound) None reserved tt)

-- what was answered is the refusal of the send
answered : (may : SendRefused → Bool) (refusal : Option SendRefused) (refused : SendRefused) (number : ℕ) (effects : List Effect) → Within may refusal
    → replied (Refused refused) ≡ refused_send refusal (accepted number effects) → may refused ≡ true
answered may (Some e) refused number effects within is =
    let told : Refused refused ≡ Refused e = ap (λ (o : Output). o.reply) is in
    let same : refused ≡ e = cc in
    subst (λ (r : SendRefused). may r ≡ true) (sym same) within
answered may None refused number effects within is = let told : Refused refused ≡ Accepted number = ap (λ (o : Output). o.reply) is in absurd (cc)

-- ---- a reliable message

rel_room : (r : Result ℕ RelRefused) → Within may_refuse_rel (no_room r)
rel_room (Ok number) = tt
rel_room (Err rels.BadEnd) = refl
rel_room (Err (rels.Full base have)) = refl
rel_room (Err rels.Memory) = refl

rel_within : (n : NodeState) (dst : NodeId) → Within may_refuse_rel (rel_refusal n dst)
rel_within n dst =
    within_or may_refuse_rel (no_life (is_unmet n dst)) (or_else (no_room (room n.parts.rel dst)) (signer_refusal n.signer))
    (within_test may_refuse_rel (is_unmet n dst) refusals.BadEnd None refl tt)
    (within_or may_refuse_rel (no_room (room n.parts.rel dst)) (signer_refusal n.signer) (rel_room (room n.parts.rel dst))
    (within_signer may_refuse_rel n.signer refl refl))

pub rel_answered : (n new : NodeState) (dst : NodeId) (payload : List ℕ) (refused : SendRefused)
    → NodeStep (format_of n.fixed) n (SendRel dst payload) (replied (Refused refused)) new → may_refuse_rel refused ≡ true
rel_answered n new dst payload refused step = answered may_refuse_rel (rel_refusal n dst) refused _ _ (rel_within n dst) step.0

-- ---- a priority message

prio_paths : (choice : Choice) → Within may_refuse_prio (no_paths choice)
prio_paths (Mask mask) = tt
prio_paths (OnlyPaths found) = refl

prio_within : (n : NodeState) (m : PrioSend) (choice : Choice) → Within may_refuse_prio (send_prio_refusal n m choice)
prio_within n m choice =
    within_or may_refuse_prio (prio_refusal n m) (no_paths choice)
    (within_test may_refuse_prio
    ((m.dst.0 == n.fixed.me.0) || not (is_there n.parts.prio m.dst.0) || not (is_there n.parts.prio n.fixed.me.0) || is_unmet n m.dst) refusals.BadEnd
    (if nat_lt m.expiry n.now then Some (refusals.Expired n.now) else signer_refusal n.signer) refl
    (within_test may_refuse_prio (nat_lt m.expiry n.now) (refusals.Expired n.now) (signer_refusal n.signer) refl
    (within_signer may_refuse_prio n.signer refl refl)))
    (prio_paths choice)

pub prio_answered : (n new : NodeState) (m : PrioSend) (refused : SendRefused)
    → NodeStep (format_of n.fixed) n (SendPrio m) (replied (Refused refused)) new → may_refuse_prio refused ≡ true
prio_answered n new m refused step = answered may_refuse_prio (send_prio_refusal n m step.choice) refused _ _ (prio_within n m step.choice) step.output_is

-- ---- a message on paths

-- why a flow on paths has no room, where it has none
abbrev RoomRefuses : Result KRoom SendRefused → Type 0
RoomRefuses r = IfErr r (λ e. may_refuse_krel e ≡ true)

krel_room : (r : Result KRoom SendRefused) → RoomRefuses r → Within may_refuse_krel (no_place r)
krel_room (Ok place) may = tt
krel_room (Err refused) may = may

room_refuses : (k : KState) (dst : NodeId) (count : ℕ) → RoomRefuses (room_on_paths k dst count)
room_refuses k dst count = go (room k.flows dst)
  where
    busy_or : (t : Bool) (place : KRoom) (paths : ℕ) → RoomRefuses (if t then Err (refusals.Busy paths) else Ok place)
    busy_or true place paths = refl
    busy_or false place paths = tt

    go : (r : Result ℕ RelRefused) → RoomRefuses (busy k dst count r)
    go (Ok seq) =
        busy_or (is_waiting k.flows dst && not (paths_to k dst == count)) (record { seq = seq; mask = waiting_mask k dst }) (paths_to k dst)
    go (Err rels.BadEnd) = refl
    go (Err (rels.Full base have)) = refl
    go (Err rels.Memory) = refl

krel_paths : (waiting : Option KrelMask) (choice : Choice) → Within may_refuse_krel (no_mask waiting choice)
krel_paths (Some mask) choice = tt
krel_paths None (Mask mask) = tt
krel_paths None (OnlyPaths found) = refl

krel_within : (n : NodeState) (m : KSend) (choice : Choice) → Within may_refuse_krel (send_krel_refusal n m choice)
krel_within n m choice =
    let unmet = is_first n.fixed || is_unmet n m.dst in
    let place = no_place (room_on_paths n.parts.kflow m.dst m.paths) in
    within_or may_refuse_krel (krel_refusal n m) (no_mask (waiting_mask n.parts.kflow m.dst) choice)
    (within_or may_refuse_krel (no_life unmet) (or_else place (signer_refusal n.signer)) (within_test may_refuse_krel unmet refusals.BadEnd None refl tt)
    (within_or may_refuse_krel place (signer_refusal n.signer)
    (krel_room (room_on_paths n.parts.kflow m.dst m.paths) (room_refuses n.parts.kflow m.dst m.paths))
    (within_signer may_refuse_krel n.signer refl refl)))
    (krel_paths (waiting_mask n.parts.kflow m.dst) choice)

-- a send on paths is refused only so
pub krel_answered : (n new : NodeState) (m : KSend) (refused : SendRefused)
    → NodeStep (format_of n.fixed) n (SendKrel m) (replied (Refused refused)) new → may_refuse_krel refused ≡ true
krel_answered n new m refused step = answered may_refuse_krel (send_krel_refusal n m step.choice) refused _ _ (krel_within n m step.choice) step.output_is

-- ---- what is told

-- the answer of a call that is refused is one of these, where a step's is
pub own : (may : SendRefused → Bool) (input : Input) (refusal : Option SendRefused) (old new : NodeState) (call : Result (Step ℕ) SendRefused)
    (answer : Result ℕ SendRefused) (before after : Option Caused) → may refusals.Memory ≡ true
    → ((refused : SendRefused) → NodeStep (format_of old.fixed) old input (replied (Refused refused)) new → may refused ≡ true)
    → Sends input refusal old call new → Keeps before call answer after → IfErr answer (λ e. may e ≡ true)
own may input refusal old new (Ok step) answer before after memory by_step is keeps =
    subst (λ (r : Result ℕ SendRefused). IfErr r (λ e. may e ≡ true)) (sym keeps.0) tt
own may input refusal old new (Err refusals.Memory) answer before after memory by_step is keeps =
    subst (λ (r : Result ℕ SendRefused). IfErr r (λ e. may e ≡ true)) (sym keeps.0) memory
own may input refusal old new (Err refusals.BadEnd) answer before after memory by_step is keeps =
    subst (λ (r : Result ℕ SendRefused). IfErr r (λ e. may e ≡ true)) (sym keeps.0) (by_step refusals.BadEnd is)
own may input refusal old new (Err (refusals.Full base have)) answer before after memory by_step is keeps =
    subst (λ (r : Result ℕ SendRefused). IfErr r (λ e. may e ≡ true)) (sym keeps.0) (by_step (refusals.Full base have) is)
own may input refusal old new (Err (refusals.Busy paths)) answer before after memory by_step is keeps =
    subst (λ (r : Result ℕ SendRefused). IfErr r (λ e. may e ≡ true)) (sym keeps.0) (by_step (refusals.Busy paths) is)
own may input refusal old new (Err (refusals.Expired now)) answer before after memory by_step is keeps =
    subst (λ (r : Result ℕ SendRefused). IfErr r (λ e. may e ≡ true)) (sym keeps.0) (by_step (refusals.Expired now) is)
own may input refusal old new (Err (refusals.NoPaths found)) answer before after memory by_step is keeps =
    subst (λ (r : Result ℕ SendRefused). IfErr r (λ e. may e ≡ true)) (sym keeps.0) (by_step (refusals.NoPaths found) is)
own may input refusal old new (Err (refusals.Low min)) answer before after memory by_step is keeps =
    subst (λ (r : Result ℕ SendRefused). IfErr r (λ e. may e ≡ true)) (sym keeps.0) (by_step (refusals.Low min) is)
own may input refusal old new (Err (refusals.Spent index)) answer before after memory by_step is keeps =
    subst (λ (r : Result ℕ SendRefused). IfErr r (λ e. may e ≡ true)) (sym keeps.0) (by_step (refusals.Spent index) is)
own may input refusal old new (Err (refusals.NotReserved bound)) answer before after memory by_step is keeps =
    subst (λ (r : Result ℕ SendRefused). IfErr r (λ e. may e ≡ true)) (sym keeps.0) (by_step (refusals.NotReserved bound) is)
