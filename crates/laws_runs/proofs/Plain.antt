-- The turns of a run without epochs: its acting node moves in the world as it is, or its crafting signer is spent.
use Rattle.std.proofs.Common.{◌≡◌, true, false, List, None, sym, subst, ◌∙◌}
use Rattle.sp_rules.specs.Arts.{Arts}
use Rattle.sp_runs.specs.Forgery.{forged}
use Rattle.sp_runs.specs.Runs.{Lives, Move, Moves, Spends, Stays, Turn, forged_in}
use Rattle.sp_runs.specs.Settings.{Setting}
use Rattle.sp_runs.specs.Worlds.{World}
use Rattle.sp_journal.specs.declared.entry.Entry.{Entry}
use Rattle.sp_schedule_events.specs.declared.event.Event.{Event}
use Rattle.laws_runs.proofs.Ready.{ready_plain}

pub data Plain (arts : Arts) (x : Setting) (es : List Event) (js : List Entry) (old : World) (e : Event) (j : Entry) (new : World) : Type 0 where
  Goes : (m : Move arts x old e j new) → forged arts x es js old m.node m.input m.output ≡ None → Plain arts x es js old e j new
  Rests : Spends x old e j new → Plain arts x es js old e j new

pub plain_turn : (arts : Arts) (x : Setting) (es : List Event) (js : List Entry) (old new : World) (e : Event) (j : Entry) → x.epochs ≡ false
    → (turn : Turn arts x old e j new) → forged_in arts x es js old e j new turn ≡ None → Plain arts x es js old e j new
plain_turn arts x es js old new e j plain (Moves m) unforged =
    subst (λ (w : World). (n : Move arts x w e j new) → forged arts x es js w n.node n.input n.output ≡ None → Plain arts x es js old e j new)
    (sym (ready_plain x old e plain)) (λ n none. Goes n none) m unforged
plain_turn arts x es js old new e j plain (Stays s) unforged = Rests s
plain_turn arts x es js old new e j plain (Lives on life) unforged = absurd (let wrong : false ≡ true = sym plain ∙ on in cc)
