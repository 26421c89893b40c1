-- What is played is a run without forgery.
use Rattle.std.proofs.Common.{cond, inl, inr, ◌≡◌, ℕ, Bool, true, false, List, [], ◌∷◌, ◌++◌, Option, Some, None, refl, sym, ap, subst, ◌∙◌}
use Rattle.std.specs.Prelude.{nat_lt, option_map, unwrap_or}
use Rattle.std.proofs.lemmas.Bool.{cases_Bool}
use Rattle.sp_frame.specs.Sections.{with_document}
use Rattle.sp_rules.specs.Node.{NodeState}
use Rattle.sp_rules.specs.Steps as steps
use Rattle.sp_rules.specs.Steps.{Input, NodeStep}
use Rattle.laws_node.specs.Story.{toys}
use Rattle.sp_runs.specs.Forgery.{forged}
use Rattle.sp_runs.specs.Inputs.{acting, crafted_contents, crafted_document, crafted_frame, flipped, input_of, last_weights, may_sign}
use Rattle.sp_runs.specs.Journals.{reply_word}
use Rattle.sp_runs.specs.Runs.{Clean, InRange, next_frame}
use Rattle.sp_runs.specs.Settings.{Setting}
use Rattle.sp_runs.specs.Worlds.{World, crafts, frame_in, node_in}
use Rattle.sp_runs.specs.declared.what.What.{What}
use Rattle.sp_journal.specs.declared.entry.Reply.{Reply}
use Rattle.sp_schedule_crafts.specs.Objects.{body_of}
use Rattle.sp_schedule_events.specs.declared.event.Event.{Event}
use Rattle.sp_schedule_events.specs.declared.event.Event.TheVariants as events
use Rattle.laws_runs.specs.Story.{Played, after, after_input, after_words, at_acting, one_more, output_of, play_on}
use Rattle.laws_runs.proofs.PlainTurns.{clean_on}

-- no message is sent that chooses its edges
abbrev IsPlain : Input → Type 0
IsPlain (steps.SendPrio m) = ⊥
IsPlain (steps.SendKrel m) = ⊥
IsPlain _ = Unit {0}

plain_step : (n : NodeState) (i : Input) → IsPlain i → NodeStep toys n i (output_of n i) (after n i)
plain_step n (steps.Poll v) plain = (refl, refl)
plain_step n (steps.Datagram v bytes) plain = (refl, refl)
plain_step n (steps.Tick now) plain = (refl, refl)
plain_step n (steps.SendRel dst payload) plain = (refl, refl)
plain_step n (steps.SendPrio m) plain = absurd plain
plain_step n (steps.SetWeight v weight) plain = (refl, refl)
plain_step n (steps.TakeRel src) plain = (refl, refl)
plain_step n (steps.SendKrel m) plain = absurd plain
plain_step n (steps.TakeKrel src) plain = (refl, refl)
plain_step n steps.TakePrio plain = (refl, refl)
plain_step n (steps.Publish document) plain = (refl, refl)

abbrev IsClean : Setting → Played → Type 0
IsClean x p = Clean toys x p.events p.journal p.world

-- one event more, where it goes on
module _ (x : Setting) (off : x.epochs ≡ false) (p : Played) (e : Event) (h : IsClean x p) (range : InRange x p.events e) where
  of_words : (n : NodeState) (i : Input) → node_in p.world.nodes (acting e) ≡ Some n → input_of toys x p.world n e ≡ Some i → IsPlain i
      → (o : Option Reply) (what : Option What) → reply_word x (next_frame p.world e) (output_of n i).reply ≡ o
      → forged toys x p.events p.journal p.world n i (output_of n i) ≡ what
      → (after_words x p e n i o what).goes_on ≡ true → IsClean x (after_words x p e n i o what)
  of_words n i there reaches plain None what words is on = absurd (let wrong : false ≡ true = on in cc)
  of_words n i there reaches plain (Some reply) (Some what) words is on = absurd (let wrong : false ≡ true = on in cc)
  of_words n i there reaches plain (Some reply) None words is on =
      clean_on toys x p.events p.journal p.world (after_words x p e n i (Some reply) None).world e
      (record { reply = reply; effects = (output_of n i).effects }) off h range (record {
        node = n;
        is_there = there;
        input = i;
        reaches = reaches;
        output = output_of n i;
        after = after n i;
        step = plain_step n i plain;
        journal = record { reply = words; effects = refl };
        world = refl;
      }) is

  of_input : (n : NodeState) → node_in p.world.nodes (acting e) ≡ Some n → ((i : Input) → input_of toys x p.world n e ≡ Some i → IsPlain i)
      → (o : Option Input) → input_of toys x p.world n e ≡ o → (after_input x p e n o).goes_on ≡ true → IsClean x (after_input x p e n o)
  of_input n there plain None reaches on = absurd (let wrong : false ≡ true = on in cc)
  of_input n there plain (Some i) reaches on = of_words n i there reaches (plain i reaches) _ _ refl refl on

  of_node : ((n : NodeState) (i : Input) → input_of toys x p.world n e ≡ Some i → IsPlain i)
      → (o : Option NodeState) → node_in p.world.nodes (acting e) ≡ o → (at_acting x p e o).goes_on ≡ true → IsClean x (at_acting x p e o)
  of_node plain None there on = absurd (let wrong : false ≡ true = on in cc)
  of_node plain (Some n) there on = of_input n there (plain n) _ refl on

-- an event that sends no message that chooses its edges gives no such input
abbrev IsNoPrio : Event → Type 0
IsNoPrio (events.Prio s d prio expiry paths payload) = ⊥
IsNoPrio (events.Krel s d paths payload) = ⊥
IsNoPrio _ = Unit {0}

from_frame : (take : List ℕ → Input) → ((bytes : List ℕ) → IsPlain (take bytes)) → (o : Option (List ℕ)) (i : Input) → option_map take o ≡ Some i → IsPlain i
from_frame take plain None i is = absurd cc
from_frame take plain (Some bytes) i is = let same : take bytes ≡ i = cc in subst IsPlain same (plain bytes)

just : (j i : Input) → IsPlain j → Some j ≡ Some i → IsPlain i
just j i plain is = let same : j ≡ i = cc in subst IsPlain same plain

plain_input : (x : Setting) (es : List Event) (w : World) (n : NodeState) (e : Event) (i : Input) → IsNoPrio e → input_of toys x w n e ≡ Some i → IsPlain i
plain_input x es w n (events.Rel a b c) i none is = just _ i tt is
plain_input x es w n (events.Krel a b count c) i none is = absurd none
plain_input x es w n (events.Prio a b c d f g) i none is = absurd none
plain_input x es w n (events.Take a b) i none is = just _ i tt is
plain_input x es w n (events.KTake a b) i none is = just _ i tt is
plain_input x es w n (events.TakePrio a) i none is = just _ i tt is
plain_input x es w n (events.Tick a b) i none is = just _ i tt is
plain_input x es w n (events.Weight a b c) i none is = just _ i tt is
plain_input x es w n (events.Poll a b) i none is = just _ i tt is
plain_input x es w n (events.Pass a b c) i none is = from_frame (steps.Datagram a) (λ bytes. tt) (frame_in w.directions a b c) i is
plain_input x es w n (events.Flip a b c d f) i none is =
    from_frame (λ bytes. steps.Datagram a (flipped d f bytes)) (λ bytes. tt) (frame_in w.directions a b c) i is
plain_input x es w n (events.Publish u weights) i none is = just _ i tt is
plain_input x es w n (events.CraftDocument c v key version weights) i none is = go (may_sign x w.crafted key) is
  where
    bytes : List ℕ
    bytes = crafted_frame toys n c (with_document (crafted_document toys x w.crafted key version (unwrap_or weights (last_weights x w.published))))

    go : (t : Bool) → cond t (Some (steps.Datagram c bytes)) None ≡ Some i → IsPlain i
    go true is = just _ i tt is
    go false is = absurd cc
plain_input x es w n (events.Inject a b c) i none is = just _ i tt is
plain_input x es w n (events.Craft a b c d) i none is = go (nat_lt (crafts w.crafted c) x.total) is
  where
    go : (t : Bool) → cond t (Some (steps.Datagram a (crafted_frame toys n a (crafted_contents toys x w.crafted n c (body_of d))))) None ≡ Some i → IsPlain i
    go true is = just _ i tt is
    go false is = absurd cc
plain_input x es w n (events.CraftStatus a b c d f g) i none is = just _ i tt is
plain_input x es w n (events.Start a) i none is = absurd cc
plain_input x es w n (events.Stop a) i none is = absurd cc

-- each event is in its range after those before it, and sends no message that chooses its edges
abbrev pub AreInRange : Setting → List Event → List Event → Type 0
AreInRange x before [] = Unit {0}
AreInRange x before (e ∷ es) = InRange x before e × IsNoPrio e × AreInRange x (before ++ e ∷ []) es

-- where all were played, they are a run without forgery
off_stays : (x : Setting) (p : Played) (es : List Event) → p.goes_on ≡ false → (play_on x p es).goes_on ≡ false
off_stays x p [] off = off
off_stays x p (e ∷ es) off = off_stays x (one_more x p.goes_on p e) es (ap (λ b. (one_more x b p e).goes_on) off ∙ off)

events_go : (x : Setting) (p : Played) (e : Event) → p.goes_on ≡ true → (one_more x p.goes_on p e).goes_on ≡ true
    → (one_more x p.goes_on p e).events ≡ p.events ++ e ∷ []
events_go x p e was on =
    ap (λ b. (one_more x b p e).events) was ∙ by_node (node_in p.world.nodes (acting e)) (sym (ap (λ b. (one_more x b p e).goes_on) was) ∙ on)
  where
    by_words : (n : NodeState) (i : Input) (o : Option Reply) (what : Option What) → (after_words x p e n i o what).goes_on ≡ true
        → (after_words x p e n i o what).events ≡ p.events ++ e ∷ []
    by_words n i None what on = absurd (let wrong : false ≡ true = on in cc)
    by_words n i (Some reply) (Some what) on = absurd (let wrong : false ≡ true = on in cc)
    by_words n i (Some reply) None on = refl

    by_input : (n : NodeState) (o : Option Input) → (after_input x p e n o).goes_on ≡ true → (after_input x p e n o).events ≡ p.events ++ e ∷ []
    by_input n None on = absurd (let wrong : false ≡ true = on in cc)
    by_input n (Some i) on = by_words n i _ _ on

    by_node : (o : Option NodeState) → (at_acting x p e o).goes_on ≡ true → (at_acting x p e o).events ≡ p.events ++ e ∷ []
    by_node None on = absurd (let wrong : false ≡ true = on in cc)
    by_node (Some n) on = by_input n _ on

pub plays_are_clean : (x : Setting) (p : Played) (es : List Event) → x.epochs ≡ false → IsClean x p
    → p.goes_on ≡ true → AreInRange x p.events es → (play_on x p es).goes_on ≡ true → IsClean x (play_on x p es)
plays_are_clean x p [] off h was range on = h
plays_are_clean x p (e ∷ es) off h was range on =
    let next = one_more x p.goes_on p e in
    let one : next.goes_on ≡ true → IsClean x next = λ goes.
    subst (λ b. IsClean x (one_more x b p e)) (sym was)
    (of_node x off p e h range.0 (λ n i is. plain_input x p.events p.world n e i range.1 is) _ refl (sym (ap (λ b. (one_more x b p e).goes_on) was) ∙ goes)) in
    elim (cases_Bool next.goes_on) [
      | inl goes ↦ plays_are_clean x next es off (one goes) goes (subst (λ before. AreInRange x before es) (sym (events_go x p e was goes)) range.2) on
      | inr ends ↦ absurd (let stays = off_stays x next es ends in let wrong : true ≡ false = sym on ∙ stays in cc)
    ]
