-- A datagram that arrived at a node among all: it is told, or something of it is forged.
use Rattle.std.proofs.Common.{◌≡◌, ℕ, true, List, map, Option, None, Some, refl, sym, ap, ◌∙◌, subst, eq-eqb}
use Rattle.std.proofs.lemmas.Option.{same_Some}
use Rattle.sp_base.specs.declared.id.NodeId.{NodeId}
use Rattle.sp_forgery.specs.Found.{Answered, answered}
use Rattle.laws_runs_format.specs.Arts.{arts_of}
use Rattle.sp_journal.specs.declared.entry.Entry.{Entry}
use Rattle.sp_journal.specs.declared.entry.Reply.TheVariants as replies
use Rattle.sp_rules.specs.Node.{NodeState, call_refusal}
use Rattle.sp_rules.specs.Parts.{Fixed}
use Rattle.sp_rules.specs.Steps.{Datagram}
use Rattle.sp_rules.specs.declared.node.Step.{Step}
use Rattle.sp_rules.specs.declared.node.Taken.{Taken}
use Rattle.sp_runs.specs.Forgery.{forged}
use Rattle.sp_node_words.specs.Words.{item_word, link_word}
use Rattle.sp_runs.specs.Scenarios.{setting_of}
use Rattle.sp_runs.specs.Worlds.{Crafted, Direction, World, is_me, without_node}
use Rattle.sp_runs.specs.declared.what.What.{What}
use Rattle.sp_schedule_events.specs.declared.event.Event.{Event}
use Rattle.sp_schedule_events.specs.declared.published.Published.{Published}
use Rattle.sp_schedule_events.specs.declared.scenario.Scenario.{Scenario}
use Rattle.sp_keystate.specs.declared.numbers.Numbers.{Numbers}
use Rattle.sp_world.specs.Arrivals.{CanHear, IsFound, IsHeard}
use Rattle.sp_world_steps.specs.Polls.{world_of}
use Rattle.sp_node.proofs.FixedStays.{fixed_stays}
use Rattle.sp_world_steps.proofs.Without.{without_is_same}
use Rattle.sp_world_steps.specs.Gave.{Tells, taken}
use Rattle.sp_world_steps.specs.Members.{HeardAmong}

module _ (s : Scenario) (es : List Event) (js : List Entry) (nodes after : List NodeState) (ds : List Direction) (u v : NodeId) (bytes : List ℕ)
    (step : Step Taken) (len : ℕ) where
  -- what is judged of any state that took it so
  abbrev pub IsJudged : Option What → Type 0
  IsJudged what = (n new : NodeState) (w : World) → n.fixed.me ≡ v → n.fixed.signature_len ≡ len
      → n.fixed.epochs ≡ s.epochs → call_refusal n u ≡ None → w.directions ≡ ds → Answered s.format n u bytes step new
      → what ≡ forged (arts_of (setting_of s)) (setting_of s) es js w n (Datagram u bytes) (answered s.format n u bytes step)

  same_old : (can : CanHear s len nodes v u) → (h : HeardAmong nodes u v bytes step after) → can.call.node ≡ h.old
  same_old can h = same_Some can.call.node h.old (sym can.call.is_there ∙ h.is_there)

  -- it took it in the format of the scenario
  took : CanHear s len nodes v u → (h : HeardAmong nodes u v bytes step after) → Answered s.format h.old u bytes step h.new
  took can h =
      let of_format : h.old.fixed.topology.format ≡ s.format =
      subst (λ (n : NodeState). n.fixed.topology.format ≡ s.format) (same_old can h) can.of_format in
      subst (λ (format : ℕ). Answered format h.old u bytes step h.new) of_format h.took

  -- what is said of any state that took it so, holds of the one that did
  pub when_heard : (P : Type 0) → CanHear s len nodes v u → HeardAmong nodes u v bytes step after
      → ((n new : NodeState) → n.fixed.signature_len ≡ len → n.fixed.epochs ≡ s.epochs → call_refusal n u ≡ None
      → Answered s.format n u bytes step new → P) → P
  when_heard P can h says =
      let same = same_old can h in
      says h.old h.new (subst (λ (n : NodeState). n.fixed.signature_len ≡ len) same can.long)
      (subst (λ (n : NodeState). n.fixed.epochs ≡ s.epochs) same can.epochs)
      (subst (λ (n : NodeState). call_refusal n u ≡ None) same can.call.answers) (took can h)

  judged_is : (keys : List Numbers) (crafted : List Crafted) (last : Published) (what : Option What) → (can : CanHear s len nodes v u)
      → (h : HeardAmong nodes u v bytes step after) → IsJudged what
      → what ≡ forged (arts_of (setting_of s)) (setting_of s) es js (world_of keys nodes ds crafted last) h.old (Datagram u bytes)
      (answered s.format h.old u bytes step)
  judged_is keys crafted last what can h judged =
      let same = same_old can h in
      judged h.old h.new (world_of keys nodes ds crafted last)
      (subst (λ (n : NodeState). n.fixed.me ≡ v) same can.me)
      (subst (λ (n : NodeState). n.fixed.signature_len ≡ len) same can.long)
      (subst (λ (n : NodeState). n.fixed.epochs ≡ s.epochs) same can.epochs)
      (subst (λ (n : NodeState). call_refusal n u ≡ None) same can.call.answers)
      refl (took can h)

  pub is_heard : (entry : Entry) → CanHear s len nodes v u → HeardAmong nodes u v bytes step after → IsJudged None
      → ((n : NodeState) (w : NodeId) (bs : List ℕ) → Tells 0 (taken n w bs step) entry)
      → IsHeard s es js nodes ds u v bytes entry after
  is_heard entry can h judged tells = record {
    old = h.old;
    new = h.new;
    output = answered s.format h.old u bytes step;
    is_there = h.is_there;
    step = took can h;
    says = record { reply = (tells h.old u bytes s).reply; effects = (tells h.old u bytes s).effects };
    unforged = λ keys crafted last. sym (judged_is keys crafted last None can h judged);
    nodes_are = h.nodes_are;
  }

  pub is_found : (what : What) → CanHear s len nodes v u → HeardAmong nodes u v bytes step after → IsJudged (Some what)
      → IsFound s es js nodes ds u v bytes what (without_node after v)
  is_found what can h judged =
      let me : h.old.fixed.me ≡ v = subst (λ (n : NodeState). n.fixed.me ≡ v) (same_old can h) can.me in
      let stays : h.new.fixed.me ≡ h.old.fixed.me = ap (λ (f : Fixed). f.me) (fixed_stays h.old (Datagram u bytes) (taken h.old u bytes step) h.new h.took) in
      let is : is_me v h.new ≡ true = eq-eqb h.new.fixed.me.0 v.0 (ap (λ (id : NodeId). id.0) (stays ∙ me)) in
      record {
        old = h.old;
        new = h.new;
        output = answered s.format h.old u bytes step;
        entry = record { reply = replies.Arrived (link_word step.reply.link) (map item_word step.reply.items); effects = step.effects.list };
        is_there = h.is_there;
        step = took can h;
        says = record { reply = refl; effects = refl };
        found = λ keys crafted last. sym (judged_is keys crafted last (Some what) can h judged);
        nodes_are = ap (λ (ns : List NodeState). without_node ns v) h.nodes_are ∙ without_is_same nodes v h.new is;
      }
