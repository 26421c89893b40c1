-- The boots that nodes hold of each other in a run: of itself a node holds its own, and of a correct node none that this one didn't take.
use Rattle.std.specs.Prelude.{◌≡◌, ◌≤◌, true, false, IsTrue, List, [], ◌∷◌, ◌++◌, None, Some}
use Rattle.sp_base.specs.declared.id.NodeId.{NodeId}
use Rattle.sp_epoch.specs.Numbers.{numbers_at}
use Rattle.sp_msg.specs.declared.body.Body.TheVariants as bodies
use Rattle.sp_msg.specs.declared.body.Epoch.{Epoch}
use Rattle.sp_rules.specs.Arts.{Arts}
use Rattle.sp_rules.specs.Lives.{held_boot}
use Rattle.sp_rules.specs.Node.{NodeState}
use Rattle.sp_runs.specs.Forgery.{is_among}
use Rattle.sp_runs.specs.Runs.{Clean, InRange, Turn, forged_in}
use Rattle.sp_runs.specs.Settings.{Setting, SettingFits, is_correct}
use Rattle.sp_runs.specs.Told.{signed}
use Rattle.sp_runs.specs.Worlds.{World, at_start, node_in}
use Rattle.sp_journal.specs.declared.entry.Entry.{Entry}
use Rattle.sp_schedule_events.specs.declared.event.Event.{Event}
use Rattle.laws_runs.specs.KeyFiles.{KeysStand}
use Rattle.laws_runs.specs.Premises.{Carries}
use Rattle.laws_runs.specs.Signs.{Signs}

pub record BootClaims (arts : Arts) (x : Setting) (es : List Event) (js : List Entry) (w : World) : Type 0 where
  -- with epochs, each node that runs holds of itself the boot of its life
  pub own : x.epochs ≡ true → (u : NodeId) (n : NodeState) → node_in w.nodes u ≡ Some n → held_boot n.parts.lives u ≡ n.fixed.boot
  -- without them it holds 0 of each node
  pub none : x.epochs ≡ false → (u v : NodeId) (n : NodeState) → node_in w.nodes u ≡ Some n → held_boot n.parts.lives v ≡ 0
  -- no node that runs holds a boot of a correct node above the last one that this one took, which is in its key file
  pub born : (u v : NodeId) (n : NodeState) → node_in w.nodes u ≡ Some n → IsTrue (is_correct x v)
      → held_boot n.parts.lives v ≤ (numbers_at w.keys v).boot
  -- and no node signed one above the last that it took
  pub signed : (e : Epoch) → IsTrue (arts.is_good (bodies.Epoch e)) → is_among (arts.spell (bodies.Epoch e)) (signed es js e.origin) ≡ true
      → e.boot ≤ (numbers_at w.keys e.origin).boot

-- of each run without forgery, with epochs or without
abbrev pub HeldBootsAreBorn : Type 0
HeldBootsAreBorn = (arts : Arts) (x : Setting) (es : List Event) (js : List Entry) (w : World) → SettingFits arts x → Carries x.topology.format arts
    → Clean arts x es js w → BootClaims arts x es js w

-- ---- it holds at the start, and each turn of which nothing is forged keeps it, where key files and signed objects are as they are in a run

-- the law that the claims of boots hold at the start
abbrev pub BootsBegin : Type 0
BootsBegin = (arts : Arts) (x : Setting) → SettingFits arts x → BootClaims arts x [] [] (at_start x)

-- the law that each turn keeps the claims of boots
abbrev pub TurnsKeepBoots : Type 0
TurnsKeepBoots = (arts : Arts) (x : Setting) (es : List Event) (js : List Entry) (old : World) (e : Event) (j : Entry) (new : World)
    → SettingFits arts x → Carries x.topology.format arts
    → KeysStand x es old → Signs arts x es js old → InRange x es e → (turn : Turn arts x old e j new) → forged_in arts x es js old e j new turn ≡ None
    → BootClaims arts x es js old → BootClaims arts x (es ++ e ∷ []) (js ++ j ∷ []) new
