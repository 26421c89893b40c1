-- A send on paths that is answered is a step of the rules.
use Rattle.std.proofs.Common.{◌≡◌, ◌≢◌, ◌∙◌, ◌<◌, ℕ, List, [], ◌∷◌, Option, Some, None, Result, Ok, Err, refl, sym, ap, subst}
use Rattle.std.specs.Result.{IsErrAnd}
use Rattle.sp_base.specs.Cursor.{or_else}
use Rattle.sp_node_format.specs.Format.{format_of}
use Rattle.sp_msg.proofs.HalfLemmas.{mask_back}
use Rattle.sp_msg.specs.Masks.{HALF, bits}
use Rattle.sp_msg.specs.declared.body.Body.{Body}
use Rattle.sp_msg.specs.declared.effect.Effect.{Effect}
use Rattle.sp_msg.specs.declared.mask.Mask.{Mask as EdgeSet}
use Rattle.sp_msg.specs.declared.refused.SendRefused.{SendRefused}
use Rattle.sp_msg.specs.declared.refused.SendRefused.TheVariants as sends
use Rattle.sp_rules.specs.Kflow.{pushed, waiting_mask}
use Rattle.sp_rules.specs.KflowSends.{KSend, krel_body, krel_number, krel_refusal, krel_sends, krel_sent, mask_for, no_mask, send_krel_refusal}
use Rattle.sp_rules.specs.Masks.{Choice, Mask}
use Rattle.sp_rules.specs.Node.{NodeState, kept_or, signed_now, signed_once}
use Rattle.sp_rules.specs.Sends.{signed_effect}
use Rattle.sp_rules.specs.Steps.{NodeStep, Output, Refused, SendKrel, accepted, refused_send, replied}
use Rattle.sp_rules.specs.declared.kflow.KRoom.{KRoom}
use Rattle.sp_rules.specs.declared.node.Step.{Step}
use Rattle.laws_node.proofs.OwnPaths.{KChoice}
use Rattle.sp_node_state.specs.OnPaths.{IsMaskTo}
use Rattle.sp_node_state.specs.Sends.{Sends}

-- ---- the choice behind a mask

-- a choice that the rules leave, and by which the message takes this mask
pub record MaskChosen (n : NodeState) (m : KSend) (mask : EdgeSet) : Type 0 where
  pub choice : Choice
  pub is_choice : KChoice n m choice
  pub free : no_mask (waiting_mask n.parts.kflow m.dst) choice ≡ None
  pub mask_is : mask_for (waiting_mask n.parts.kflow m.dst) choice ≡ mask

-- where a mask stays, any choice leaves it
pub chosen : (n : NodeState) (m : KSend) (mask : EdgeSet) → mask.low < HALF → IsMaskTo (waiting_mask n.parts.kflow m.dst) n m mask → MaskChosen n m mask
chosen n m mask small = go (waiting_mask n.parts.kflow m.dst) refl
  where
    go : (o : Option EdgeSet) → waiting_mask n.parts.kflow m.dst ≡ o → IsMaskTo o n m mask → MaskChosen n m mask
    go None waits is = record {
      choice = Mask (bits mask);
      is_choice = λ _ _. is;
      free = ap (λ (o : Option EdgeSet). no_mask o (Mask (bits mask))) waits;
      mask_is = ap (λ (o : Option EdgeSet). mask_for o (Mask (bits mask))) waits ∙ mask_back mask.high mask.low small;
    }
    go (Some waiting) waits is = record {
      choice = Mask 0;
      is_choice = λ _ none. absurd (let e : Some waiting ≡ None = sym waits ∙ none in cc);
      free = ap (λ (o : Option EdgeSet). no_mask o (Mask 0)) waits;
      mask_is = ap (λ (o : Option EdgeSet). mask_for o (Mask 0)) waits ∙ sym is;
    }

-- ---- refused

abbrev done : NodeState → KSend → Choice → NodeState
done n m choice = signed_once n (record n.parts { kflow = pushed n.parts.kflow (signed_now (format_of n.fixed) n (krel_sends n m choice)) m.paths })

abbrev told : NodeState → KSend → Choice → Output
told n m choice = accepted (krel_number n m.dst) (krel_sent (format_of n.fixed) n m choice)

refused_by : (n : NodeState) (m : KSend) (choice : Choice) (r : SendRefused) → send_krel_refusal n m choice ≡ Some r → KChoice n m choice
    → NodeStep (format_of n.fixed) n (SendKrel m) (replied (Refused r)) n
refused_by n m choice r is chosen = record {
  choice = choice;
  is_choice = chosen;
  output_is = sym (ap (λ (o : Option SendRefused). refused_send o (told n m choice)) is);
  new_is = sym (ap (λ (o : Option SendRefused). kept_or o n (done n m choice)) is);
}

at_once : (n : NodeState) (m : KSend) (r : SendRefused) → krel_refusal n m ≡ Some r → NodeStep (format_of n.fixed) n (SendKrel m) (replied (Refused r)) n
at_once n m r is =
    refused_by n m (Mask 0) r (ap (λ (o : Option SendRefused). or_else o (no_mask (waiting_mask n.parts.kflow m.dst) (Mask 0))) is)
    (λ free waits. absurd (let e : Some r ≡ None = sym is ∙ free in cc))

refused_krel : (n : NodeState) (m : KSend) (r : SendRefused) → krel_refusal n m ≡ Some r → r ≢ sends.Memory
    → Sends (SendKrel m) (krel_refusal n m) n (Err r) n
refused_krel n m sends.BadEnd is other = at_once n m sends.BadEnd is
refused_krel n m (sends.Full base have) is other = at_once n m (sends.Full base have) is
refused_krel n m (sends.Busy paths) is other = at_once n m (sends.Busy paths) is
refused_krel n m (sends.Expired now) is other = at_once n m (sends.Expired now) is
refused_krel n m (sends.NoPaths found) is other = at_once n m (sends.NoPaths found) is
refused_krel n m (sends.Low min) is other = at_once n m (sends.Low min) is
refused_krel n m (sends.Spent index) is other = at_once n m (sends.Spent index) is
refused_krel n m (sends.NotReserved bound) is other = at_once n m (sends.NotReserved bound) is
refused_krel n m sends.Memory is other = absurd (other refl)

-- what place_for answers
abbrev failed : SendRefused → Result KRoom SendRefused
failed r = Err r

-- a send that is refused before its mask is sought
pub krel_refused_so : (n : NodeState) (m : KSend) (answer : Result (Step ℕ) SendRefused) (r : SendRefused) → krel_refusal n m ≡ Some r
    → failed r ≢ failed sends.Memory
    → IsErrAnd answer (λ e. e ≡ r) → Sends (SendKrel m) (krel_refusal n m) n answer n
krel_refused_so n m (Ok step) r is other same = absurd same
krel_refused_so n m (Err e) r is other same =
    subst (λ (e : SendRefused). Sends (SendKrel m) (krel_refusal n m) n (Err e) n) (sym same) (refused_krel n m r is (λ e. other (ap failed e)))

-- ---- accepted

-- a message that is signed and kept over such a mask, with its number of paths, is a step
pub accepted_krel : (n new : NodeState) (m : KSend) (mask : EdgeSet) (body : Body) (step : Step ℕ) → mask.low < HALF → krel_refusal n m ≡ None
    → IsMaskTo (waiting_mask n.parts.kflow m.dst) n m mask → body ≡ krel_body n m mask → step.reply ≡ krel_number n m.dst
    → step.effects.list ≡ signed_effect (format_of n.fixed) body ∷ []
    → new ≡ signed_once n (record n.parts { kflow = pushed n.parts.kflow (signed_now (format_of n.fixed) n body) m.paths })
    → Sends (SendKrel m) (krel_refusal n m) n (Ok step) new
accepted_krel n new m mask body step small free is body_is number effects after =
    let c = chosen n m mask small is in
    let none : send_krel_refusal n m c.choice ≡ None =
    ap (λ (o : Option SendRefused). or_else o (no_mask (waiting_mask n.parts.kflow m.dst) c.choice)) free ∙ c.free in
    let sent : body ≡ krel_sends n m c.choice = body_is ∙ ap (krel_body n m) (sym c.mask_is) in
    record {
      choice = c.choice;
      is_choice = c.is_choice;
      output_is =
          ap (λ (q : ℕ). accepted q step.effects.list) number
          ∙ ap (λ (es : List Effect). accepted (krel_number n m.dst) es) (effects ∙ ap (λ (b : Body). signed_effect (format_of n.fixed) b ∷ []) sent)
          ∙ sym (ap (λ (o : Option SendRefused). refused_send o (told n m c.choice)) none);
      new_is =
          after
          ∙ ap (λ (b : Body). signed_once n (record n.parts { kflow = pushed n.parts.kflow (signed_now (format_of n.fixed) n b) m.paths })) sent
          ∙ sym (ap (λ (o : Option SendRefused). kept_or o n (done n m c.choice)) none);
    }
