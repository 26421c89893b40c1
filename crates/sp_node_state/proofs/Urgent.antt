-- A priority send that is answered is a step of the rules.
use Rattle.std.proofs.Common.{◌≡◌, ◌≢◌, ◌∙◌, ℕ, List, ◌∷◌, Option, Some, None, Result, Ok, Err, refl, sym, ap, subst}
use Rattle.std.specs.Result.{IsErrAnd}
use Rattle.sp_base.specs.Cursor.{or_else}
use Rattle.sp_node_format.specs.Format.{format_of}
use Rattle.sp_msg.specs.declared.body.Body.{Body}
use Rattle.sp_msg.specs.declared.effect.Effect.{Effect}
use Rattle.sp_msg.specs.declared.refused.SendRefused.{SendRefused}
use Rattle.sp_msg.specs.declared.refused.SendRefused.TheVariants as sends
use Rattle.sp_rules.specs.Masks.{Choice, IsChoice, Mask, OnlyPaths, graph_of}
use Rattle.sp_rules.specs.Node.{NodeState, kept_or, signed_now, signed_once}
use Rattle.sp_rules.specs.Prio.{admit_prio, prio_effects}
use Rattle.sp_rules.specs.Sends.{PrioSend, no_paths, own_prio, prio_body, prio_refusal, prio_sent, send_prio_refusal, signed_effect}
use Rattle.sp_rules.specs.Steps.{NodeStep, Output, Refused, SendPrio, accepted, refused_send, replied}
use Rattle.sp_rules.specs.declared.node.Step.{Step}
use Rattle.sp_node_state.specs.Sends.{Sends}

abbrev Chooses : NodeState → PrioSend → Choice → Type 0
Chooses n m choice = IsChoice n.parts.weights (graph_of n.fixed.topology n.parts.weights) n.fixed.me m.dst m.paths choice

abbrev done : NodeState → PrioSend → Choice → NodeState
done n m choice = signed_once n (record n.parts { prio = admit_prio n.parts.prio (own_prio (format_of n.fixed) n m choice) None })

abbrev told : NodeState → PrioSend → Choice → Output
told n m choice = accepted n.parts.prio.next (prio_sent (format_of n.fixed) n m choice)

refused_by : (n : NodeState) (m : PrioSend) (choice : Choice) (r : SendRefused) → send_prio_refusal n m choice ≡ Some r
    → (prio_refusal n m ≡ None → Chooses n m choice) → NodeStep (format_of n.fixed) n (SendPrio m) (replied (Refused r)) n
refused_by n m choice r is chosen = record {
  choice = choice;
  is_choice = chosen;
  output_is = sym (ap (λ (o : Option SendRefused). refused_send o (told n m choice)) is);
  new_is = sym (ap (λ (o : Option SendRefused). kept_or o n (done n m choice)) is);
}

at_once : (n : NodeState) (m : PrioSend) (r : SendRefused) → prio_refusal n m ≡ Some r → NodeStep (format_of n.fixed) n (SendPrio m) (replied (Refused r)) n
at_once n m r is =
    refused_by n m (Mask 0) r (ap (λ (o : Option SendRefused). or_else o (no_paths (Mask 0))) is) (λ free. absurd (let e : Some r ≡ None = sym is ∙ free in cc))

refused_prio : (n : NodeState) (m : PrioSend) (r : SendRefused) → prio_refusal n m ≡ Some r → r ≢ sends.Memory
    → Sends (SendPrio m) (prio_refusal n m) n (Err r) n
refused_prio n m sends.BadEnd is other = at_once n m sends.BadEnd is
refused_prio n m (sends.Full base have) is other = at_once n m (sends.Full base have) is
refused_prio n m (sends.Busy paths) is other = at_once n m (sends.Busy paths) is
refused_prio n m (sends.Expired now) is other = at_once n m (sends.Expired now) is
refused_prio n m (sends.NoPaths found) is other = at_once n m (sends.NoPaths found) is
refused_prio n m (sends.Low min) is other = at_once n m (sends.Low min) is
refused_prio n m (sends.Spent index) is other = at_once n m (sends.Spent index) is
refused_prio n m (sends.NotReserved bound) is other = at_once n m (sends.NotReserved bound) is
refused_prio n m sends.Memory is other = absurd (other refl)

pub few_paths : (n : NodeState) (m : PrioSend) (found : ℕ) → prio_refusal n m ≡ None → Chooses n m (OnlyPaths found)
    → Sends (SendPrio m) (prio_refusal n m) n (Err (sends.NoPaths found)) n
few_paths n m found free is =
    refused_by n m (OnlyPaths found) (sends.NoPaths found) (ap (λ (o : Option SendRefused). or_else o (no_paths (OnlyPaths found))) free) (λ _. is)

pub accepted_prio : (n new : NodeState) (m : PrioSend) (mask : ℕ) (body : Body) (step : Step ℕ) → prio_refusal n m ≡ None → Chooses n m (Mask mask)
    → body ≡ prio_body n m mask → step.reply ≡ n.parts.prio.next
    → step.effects.list ≡ signed_effect (format_of n.fixed) body ∷ prio_effects n.parts.prio (signed_now (format_of n.fixed) n body) None
    → new ≡ signed_once n (record n.parts { prio = admit_prio n.parts.prio (signed_now (format_of n.fixed) n body) None })
    → Sends (SendPrio m) (prio_refusal n m) n (Ok step) new
accepted_prio n new m mask body step free chosen is number effects after =
    let none : send_prio_refusal n m (Mask mask) ≡ None = ap (λ (o : Option SendRefused). or_else o (no_paths (Mask mask))) free in
    record {
      choice = Mask mask;
      is_choice = λ _. chosen;
      output_is =
          ap (λ (q : ℕ). accepted q step.effects.list) number
          ∙ ap (λ (es : List Effect). accepted n.parts.prio.next es)
          (effects ∙ ap (λ (b : Body). signed_effect (format_of n.fixed) b ∷ prio_effects n.parts.prio (signed_now (format_of n.fixed) n b) None) is)
          ∙ sym (ap (λ (o : Option SendRefused). refused_send o (told n m (Mask mask))) none);
      new_is =
          after
          ∙ ap (λ (b : Body). signed_once n (record n.parts { prio = admit_prio n.parts.prio (signed_now (format_of n.fixed) n b) None })) is
          ∙ sym (ap (λ (o : Option SendRefused). kept_or o n (done n m (Mask mask))) none);
    }

-- what may_send answers
abbrev failed : SendRefused → Result (Unit {0}) SendRefused
failed r = Err r

pub refused_so : (n : NodeState) (m : PrioSend) (answer : Result (Step ℕ) SendRefused) (r : SendRefused) → prio_refusal n m ≡ Some r
    → failed r ≢ failed sends.Memory
    → IsErrAnd answer (λ e. e ≡ r) → Sends (SendPrio m) (prio_refusal n m) n answer n
refused_so n m (Ok step) r is other same = absurd same
refused_so n m (Err e) r is other same =
    subst (λ (e : SendRefused). Sends (SendPrio m) (prio_refusal n m) n (Err e) n) (sym same) (refused_prio n m r is (λ e. other (ap failed e)))
