-- The turns of a run without epochs, whether or not something of them is forged; and that signed objects are kept by them, whatever key files say.
use Rattle.std.proofs.Common.{◌≡◌, true, false, List, [], ◌∷◌, ◌++◌, Some, None, sym, subst, ◌∙◌, inl, inr, ap}
use Rattle.std.specs.Prelude.{◌⊎◌}
use Rattle.sp_rules.specs.Arts.{Arts}
use Rattle.sp_runs.specs.Forgery.{forged}
use Rattle.sp_runs.specs.Runs.{Clean, InRange, Lives, Move, Moves, Spends, Stays, Turn, Turned, forged_in}
use Rattle.sp_runs.specs.Settings.{Setting, StaysUp}
use Rattle.sp_runs.specs.Worlds.{World, node_in}
use Rattle.sp_journal.specs.declared.entry.Entry.{Entry}
use Rattle.sp_schedule_events.specs.Documents.{with_list}
use Rattle.sp_schedule_events.specs.declared.event.Event.{Event}
use Rattle.laws_runs.specs.Premises.{Carries}
use Rattle.laws_runs.specs.Signs.{Signs}
use Rattle.laws_runs.proofs.Plain.{Goes, Plain, Rests, plain_turn}
use Rattle.laws_runs.proofs.Ready.{ready_plain}
use Rattle.laws_runs.proofs.Started.{craft_list}
use Rattle.laws_runs.proofs.Signed.{moves_keep, stay_keep}
use Rattle.laws_runs.proofs.SignedEvents.{EachFrame}

-- a turn is a move in the world as it is, or the crafting signer is spent
pub moves_or_rests : (arts : Arts) (x : Setting) (old new : World) (e : Event) (j : Entry) → x.epochs ≡ false → Turn arts x old e j new
    → Move arts x old e j new ⊎ Spends x old e j new
moves_or_rests arts x old new e j plain (Moves m) = inl (subst (λ (w : World). Move arts x w e j new) (ready_plain x old e plain) m)
moves_or_rests arts x old new e j plain (Stays s) = inr s
moves_or_rests arts x old new e j plain (Lives on life) = absurd (let wrong : false ≡ true = sym plain ∙ on in cc)

-- where nothing of it is forged, the run goes on
pub clean_on : (arts : Arts) (x : Setting) (es : List Event) (js : List Entry) (old new : World) (e : Event) (j : Entry) → x.epochs ≡ false
    → Clean arts x es js old → InRange x es e → (m : Move arts x old e j new) → forged arts x es js old m.node m.input m.output ≡ None
    → Clean arts x (es ++ e ∷ []) (js ++ j ∷ []) new
clean_on arts x es js old new e j plain run range m unforged =
    subst (λ (w : World). (n : Move arts x w e j new) → forged arts x es js w n.node n.input n.output ≡ None
    → Clean arts x (es ++ e ∷ []) (js ++ j ∷ []) new)
    (ready_plain x old e plain) (λ n none. Turned run range (Moves n) none) m unforged

-- signed objects
pub plain_signs : (arts : Arts) (x : Setting) (es : List Event) (js : List Entry) (old : World) (e : Event) (j : Entry) (new : World) → StaysUp arts x
    → Carries x.topology.format arts → Signs arts x es js old → InRange x es e
    → (turn : Turn arts x old e j new) → forged_in arts x es js old e j new turn ≡ None
    → Signs arts x (es ++ e ∷ []) (js ++ j ∷ []) new
plain_signs arts x es js old e j new fits reads h range turn unforged = go (plain_turn arts x es js old new e j fits.plain turn unforged)
  where
    go : Plain arts x es js old e j new → Signs arts x (es ++ e ∷ []) (js ++ j ∷ []) new
    go (Goes m none) = moves_keep arts x es js old e j new fits.fits reads h range.fields m none
    go (Rests s) =
        stay_keep arts x es js old e j new h range.fields
        (ap (λ (w : World). w.published) s.world ∙ sym (ap (with_list old.published) (craft_list s.key e s.is_craft)))
        (λ u n at. inl (subst (λ (w : World). node_in w.nodes u ≡ Some n) s.world at))
        (λ F all. subst (λ (w : World). EachFrame F w.directions) (sym s.world) all)
