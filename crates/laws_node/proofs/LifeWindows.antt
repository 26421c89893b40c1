-- What each step marks of a source, and a life of all of them.
use Rattle.std.proofs.Common.{Bool, true, false, ◌≡◌, ℕ, true, false, cond, List, [], ◌∷◌, length, Option, Some, None}
use Rattle.std.proofs.Common.{refl, sym, ap, subst, ◌∙◌}
use Rattle.std.specs.Prelude.{fold}
use Rattle.std.proofs.lemmas.List.{length-replicate}
use Rattle.sp_base.specs.declared.id.NodeId.{NodeId}
use Rattle.sp_msg.specs.declared.body.Ack.{Ack}
use Rattle.sp_msg.specs.declared.refused.SendRefused.{SendRefused}
use Rattle.sp_rules.specs.Arrivals.{arrival_at, before_document, document_at, handled, parts_met, pieces_in, pieces_where, read_by, reply_at, rises}
use Rattle.sp_rules.specs.Arrivals.{sections_in}
use Rattle.sp_rules.specs.Arts.{Arts}
use Rattle.sp_rules.specs.Documents.{under_topology}
use Rattle.sp_rules.specs.Kflow.{ack_body, pushed}
use Rattle.sp_rules.specs.KflowSends.{krel_number, krel_sends, krel_sent, send_krel_refusal}
use Rattle.sp_rules.specs.Link.{advanced}
use Rattle.sp_rules.specs.Node.{NodeState, announced, booted, call_refusal, called, kept_or, link_in, signed_now, signed_once, with_link}
use Rattle.sp_rules.specs.Parts.{Parts, flows_of, nodes_of}
use Rattle.sp_rules.specs.Polls.{frame_to, is_served, parts_after, polled}
use Rattle.sp_rules.specs.Prio as prio
use Rattle.sp_rules.specs.Prio.{PrioState, admit_prio, is_here, is_node, judge_prio, marked, place_of, spread, window_at, window_in, windows_less, windows_with}
use Rattle.sp_rules.specs.Rel.{pushed_in, settled}
use Rattle.sp_rules.specs.Sends.{own_prio, prio_sent, rel_body, rel_number, rel_refusal, rel_sent, send_prio_refusal, signer_refusal, weight_body}
use Rattle.sp_rules.specs.Sends.{weight_number, weight_refusal, weight_sent}
use Rattle.sp_rules.specs.Steps.{Input, NodeStep, Output, Poll, Datagram, Tick, SendRel, SendPrio, SetWeight, TakeRel, TakePrio, SendKrel, TakeKrel, Publish}
use Rattle.sp_rules.specs.Steps.{Frame}
use Rattle.sp_rules.specs.Steps.{accepted}
use Rattle.sp_rules.specs.Steps.{arrived, refused_call, refused_send, replied}
use Rattle.sp_rules.specs.Ticks.{after_plain, after_tick, at_time, due_now, second_refusal, settled_by}
use Rattle.sp_rules.specs.Weights.{held}
use Rattle.sp_rules.specs.declared.kflow.FlowKind.{FlowKind}
use Rattle.sp_rules.specs.declared.kflow.FlowKind.TheVariants.{Plain, Paths}
use Rattle.sp_rules.specs.declared.node.NodeRefused.{NodeRefused}
use Rattle.sp_topology.specs.declared.topology.Topology.{Topology}
use Rattle.laws_node.specs.LifeLaws.{WindowsOfLives}
use Rattle.laws_node.specs.Lives.{Life, marks_of_life, marks_told}
use Rattle.laws_node.specs.Shapes.{Shape}
use Rattle.laws_node.proofs.Adopting.{publishing, reading}
use Rattle.laws_node.proofs.LifeMarks.{from_empty, mark_on}
use Rattle.laws_node.proofs.Shapes.{shapes_stay}
use Rattle.laws_node.proofs.Tables.{cond_either}
use Rattle.laws_node.proofs.WindowPlaces.{empty_window}
use Rattle.laws_node.proofs.WindowPieces.{HasWindows, Marks, admitted, all_pieces, beside, greeted_marks, none, on, told, windows_on}

module _ (src : ℕ) where
  -- ---- each step

  abbrev Done : NodeState → Input → Output → NodeState → Type 0
  Done n input output new = Marks src n.parts.prio (marks_told n.fixed.me.0 src input output) new.parts.prio

  by : (n : NodeState) (input : Input) (output o : Output) (new m : NodeState) → output ≡ o → new ≡ m → Done n input o m → Done n input output new
  by n input output o new m e f done =
      subst (λ (x : Output). Done n input x new) (sym e) (subst (λ (y : NodeState). Done n input o y) (sym f) done)

  -- a document leaves the windows
  adopted_marks : (n : NodeState) (bytes : List ℕ) (t : Topology) → Marks src n.parts.prio [] (under_topology n bytes t).parts.prio
  adopted_marks n bytes t = none src n.parts.prio (under_topology n bytes t).parts.prio refl refl

  -- an acknowledgement that is signed marks nothing
  settled_marks : (arts : Arts) (kind : FlowKind) (n : NodeState) (a : Option Ack) (r : Option SendRefused)
      → Marks src n.parts.prio [] (settled_by arts kind n a r).parts.prio
  settled_marks arts kind n None r = none src n.parts.prio n.parts.prio refl refl
  settled_marks arts kind n (Some ack) (Some refusal) = none src n.parts.prio n.parts.prio refl refl
  settled_marks arts kind n (Some ack) None = beside src kind (settled (flows_of kind n.parts) (signed_now arts n (ack_body kind ack))) n.parts

  step_marks : (arts : Arts) (n : NodeState) (input : Input) (output : Output) (new : NodeState) → NodeStep arts n input output new
      → HasWindows n.parts.prio → is_node n.parts.prio.nodes src ≡ true → Done n input output new
  step_marks arts n (Poll v) output new s h there = by n (Poll v) output _ new _ s.0 s.1 (go (call_refusal n v))
    where
      done : NodeState
      done = called n (with_link n v (advanced (link_in n v))) (parts_after n v)

      go : (r : Option NodeRefused) → Done n (Poll v) (refused_call r (replied (Frame (frame_to arts n v)))) (kept_or r n done)
      go None =
          cond_either (λ (p : Parts). Marks src n.parts.prio [] p.prio) (is_served n v) (polled n.fixed n.parts v) n.parts
          (none src n.parts.prio (polled n.fixed n.parts v).prio refl refl) (none src n.parts.prio n.parts.prio refl refl)
      go (Some refused) = none src n.parts.prio n.parts.prio refl refl
  step_marks arts n (Datagram v bytes) output new s h there = by n (Datagram v bytes) output _ new _ s.0 s.1 (go (call_refusal n v))
    where
      left : NodeState
      left = before_document arts n v bytes

      done : NodeState
      done = read_by arts left (document_at arts n v bytes)

      met_at : Parts
      met_at = parts_met arts n v bytes

      greeting : Marks src n.parts.prio [] met_at.prio
      greeting = greeted_marks src n.fixed.epochs (rises arts n v bytes) v n.parts

      go : (r : Option NodeRefused) → Done n (Datagram v bytes) (refused_call r (arrived arts n v bytes)) (kept_or r n done)
      go None =
          on src n.parts.prio left.parts.prio done.parts.prio (told src (handled arts n v bytes).answered) []
          (on src n.parts.prio met_at.prio left.parts.prio [] (told src (handled arts n v bytes).answered) greeting
          (all_pieces src arts (arrival_at n v) met_at (pieces_where (reply_at arts n v bytes) (pieces_in n.fixed (sections_in arts n.fixed bytes)))
          (windows_on src n.parts.prio met_at.prio [] greeting h) (ap (λ (ns : List NodeId). is_node ns src) greeting.nodes ∙ there)))
          (reading arts left (document_at arts n v bytes) (λ m caused. Marks src left.parts.prio [] m.parts.prio)
          (none src left.parts.prio left.parts.prio refl refl) (λ document d is reads by. adopted_marks left document d.topology))
      go (Some refused) = none src n.parts.prio n.parts.prio refl refl
  step_marks arts n (Tick now) output new s h there =
      by n (Tick now) output _ new _ s.0 s.1
      (on src n.parts.prio (after_plain arts n now).parts.prio (after_tick arts n now).parts.prio [] []
      (on src n.parts.prio (at_time n now).parts.prio (after_plain arts n now).parts.prio [] [] (none src n.parts.prio (at_time n now).parts.prio refl refl)
      (settled_marks arts Plain (at_time n now) (due_now Plain n) (signer_refusal n.signer)))
      (settled_marks arts Paths (after_plain arts n now) (due_now Paths n) (second_refusal arts n now)))
  step_marks arts n (SendRel dst payload) output new s h there = by n (SendRel dst payload) output _ new _ s.0 s.1 (go (rel_refusal n dst))
    where
      done : NodeState
      done = signed_once n (record n.parts { rel = pushed_in n.parts.rel (signed_now arts n (rel_body n dst payload)) })

      go : (r : Option SendRefused)
          → Done n (SendRel dst payload) (refused_send r (accepted (rel_number n dst) (rel_sent arts n dst payload))) (kept_or r n done)
      go None = none src n.parts.prio n.parts.prio refl refl
      go (Some refused) = none src n.parts.prio n.parts.prio refl refl
  step_marks arts n (SendPrio m) output new s h there = by n (SendPrio m) output _ new _ s.output_is s.new_is (go (send_prio_refusal n m s.choice))
    where
      done : NodeState
      done = signed_once n (record n.parts { prio = admit_prio n.parts.prio (own_prio arts n m s.choice) None })

      go : (r : Option SendRefused) → Done n (SendPrio m) (refused_send r (accepted n.parts.prio.next (prio_sent arts n m s.choice))) (kept_or r n done)
      go None = admitted src n.parts.prio (own_prio arts n m s.choice) None h there
      go (Some refused) = none src n.parts.prio n.parts.prio refl refl
  step_marks arts n (SetWeight v weight) output new s h there = by n (SetWeight v weight) output _ new _ s.0 s.1 (go (weight_refusal n v weight))
    where
      done : NodeState
      done = signed_once n (record n.parts { weights = held n.parts.weights (signed_now arts n (weight_body n v weight)) })

      go : (r : Option SendRefused)
          → Done n (SetWeight v weight) (refused_send r (accepted (weight_number n v) (weight_sent arts n v weight))) (kept_or r n done)
      go None = none src n.parts.prio n.parts.prio refl refl
      go (Some refused) = none src n.parts.prio n.parts.prio refl refl
  step_marks arts n (TakeRel from) output new s h there = by n (TakeRel from) output _ new _ s.0 s.1 (none src n.parts.prio n.parts.prio refl refl)
  step_marks arts n (SendKrel m) output new s h there = by n (SendKrel m) output _ new _ s.output_is s.new_is (go (send_krel_refusal n m s.choice))
    where
      done : NodeState
      done = signed_once n (record n.parts { kflow = pushed n.parts.kflow (signed_now arts n (krel_sends n m s.choice)) m.paths })

      go : (r : Option SendRefused)
          → Done n (SendKrel m) (refused_send r (accepted (krel_number n m.dst) (krel_sent arts n m s.choice))) (kept_or r n done)
      go None = none src n.parts.prio n.parts.prio refl refl
      go (Some refused) = none src n.parts.prio n.parts.prio refl refl
  step_marks arts n (TakeKrel from) output new s h there = by n (TakeKrel from) output _ new _ s.0 s.1 (none src n.parts.prio n.parts.prio refl refl)
  step_marks arts n TakePrio output new s h there = by n TakePrio output _ new _ s.0 s.1 (none src n.parts.prio (prio.taken n.parts.prio) refl refl)
  step_marks arts n (Publish document) output new s h there =
      by n (Publish document) output _ new _ s.0 s.1
      (publishing arts n document (λ m caused. Marks src n.parts.prio [] m.parts.prio) (none src n.parts.prio n.parts.prio refl refl)
      (λ d reads is. adopted_marks n document d.topology))

  -- ---- a life

  life_marks : (arts : Arts) (n : NodeState) (steps : List (Input × Output)) (last : NodeState) → Life arts n steps last → HasWindows n.parts.prio
      → is_node n.parts.prio.nodes src ≡ true → Marks src n.parts.prio (marks_of_life n.fixed.me.0 src steps) last.parts.prio
  life_marks arts n [] last life h there =
      subst (λ (m : NodeState). Marks src n.parts.prio [] m.parts.prio) (sym life) (none src n.parts.prio n.parts.prio refl refl)
  life_marks arts n (step ∷ steps) last life h there =
      let next = life.0 in
      let me : next.fixed.me.0 ≡ n.fixed.me.0 = ap (λ (x : Shape). x.fixed.me.0) (shapes_stay arts n step.0 step.1 next life.1) in
      let one = step_marks arts n step.0 step.1 next life.1 h there in
      let rest = life_marks arts next steps last life.2 (windows_on src n.parts.prio next.parts.prio _ one h)
      (ap (λ (ns : List NodeId). is_node ns src) one.nodes ∙ there) in
      on src n.parts.prio next.parts.prio last.parts.prio (marks_told n.fixed.me.0 src step.0 step.1) (marks_of_life n.fixed.me.0 src steps) one
      (subst (λ (id : ℕ). Marks src next.parts.prio (marks_of_life id src steps) last.parts.prio) me rest)

pub windows_of_lives : WindowsOfLives
windows_of_lives arts f signer keys buffer store steps last src life there =
    let marks = begins f.epochs life in
    marks.window ∙ ap (λ (w : List ℕ). fold mark_on w (marks_of_life f.me.0 src steps)) (empty_window count (place_of (nodes_of f.topology) src))
    ∙ from_empty (marks_of_life f.me.0 src steps)
  where
    n : NodeState
    n = booted f signer keys buffer store

    count : ℕ
    count = length (nodes_of f.topology)

    begins : (epochs : Bool) → Life arts (cond epochs (announced arts n) n) steps last
        → Marks src n.parts.prio (marks_of_life f.me.0 src steps) last.parts.prio
    begins true life = life_marks src arts (announced arts n) steps last life (record { long = length-replicate count [] }) there
    begins false life = life_marks src arts n steps last life (record { long = length-replicate count [] }) there
