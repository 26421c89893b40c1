-- Priority messages over a run whose nodes may start and stop, of each pair of boots: each is told at most once, and those of a correct source were sent.
use Rattle.std.specs.Prelude.{ℕ, ◌≡◌, ◌<◌, true, IsTrue, List, [], ◌∷◌, ◌++◌, map, None, Some}
use Rattle.std.specs.List.{All, Contains}
use Rattle.sp_base.specs.declared.id.NodeId.{NodeId}
use Rattle.sp_epoch.specs.Numbers.{numbers_at}
use Rattle.sp_msg.specs.declared.body.Body.TheVariants as bodies
use Rattle.sp_msg.specs.declared.body.Prio.{Prio}
use Rattle.sp_rules.specs.Arts.{Arts}
use Rattle.sp_rules.specs.Lives.{held_boot}
use Rattle.sp_rules.specs.Node.{NodeState}
use Rattle.sp_rules.specs.Prio.{window_in}
use Rattle.sp_rules.specs.Window.{is_in, is_seen}
use Rattle.sp_runs.specs.Forgery.{is_among}
use Rattle.sp_runs.specs.Runs.{Clean, InRange, Turn, forged_in}
use Rattle.sp_runs.specs.Settings.{Setting, SettingFits, is_correct}
use Rattle.sp_runs.specs.Told.{signed}
use Rattle.sp_runs.specs.Worlds.{World, node_in}
use Rattle.sp_journal.specs.declared.entry.Entry.{Entry}
use Rattle.sp_schedule_events.specs.declared.event.Event.{Event}
use Rattle.laws_runs.specs.HeldBoots.{BootClaims}
use Rattle.laws_runs.specs.KeyFiles.{KeysStand}
use Rattle.laws_runs.specs.Past.{Happened, mover_in, past, prio_delivered_under, prio_sent_under, under}
use Rattle.laws_runs.specs.Premises.{Carries}
use Rattle.laws_runs.specs.Priority.{AreOnce}
use Rattle.laws_runs.specs.Signs.{Signs}

-- at a correct d, of messages from any source s. A message names the boot of its source alone
pub record LifePrioClaims (x : Setting) (s d : NodeId) (happened : List Happened) : Type 0 where
  pub once : (a b : ℕ) → AreOnce (map (λ m. m.0) (prio_delivered_under happened s a d b))
  pub authentic : IsTrue (is_correct x s) → (a b : ℕ) → All (Contains (prio_sent_under happened s a d)) (prio_delivered_under happened s a d b)

-- of each run without forgery, with epochs or without
abbrev pub LifePriorityIsKept : Type 0
LifePriorityIsKept = (arts : Arts) (x : Setting) (es : List Event) (js : List Entry) (w : World) → SettingFits arts x → Carries x.topology.format arts
    → (run : Clean arts x es js w) → (s d : NodeId) → IsTrue (is_correct x d) → LifePrioClaims x s d (past arts x es js w run)

-- ---- what turns keep of it

-- the claims of priority messages, with what carries them over starts and stops
pub record PrioPart (arts : Arts) (x : Setting) (s d : NodeId) (es : List Event) (js : List Entry) (happened : List Happened) (w : World) : Type 0 where
  pub claims : LifePrioClaims x s d happened
  -- the numbers that were told under the boots that d holds count as seen there
  pub seen : (n : NodeState) → node_in w.nodes d ≡ Some n → (q : ℕ)
      → is_in q (map (λ m. m.0) (under n s d (λ a b. prio_delivered_under happened s a d b))) ≡ true → is_seen (window_in n.parts.prio s.0) q ≡ true
  -- in its life nothing was told yet under a boot of s above the one that it holds
  pub fresh : (n : NodeState) → node_in w.nodes d ≡ Some n → (a : ℕ) → held_boot n.parts.lives s < a
      → prio_delivered_under happened s a d (held_boot n.parts.lives d) ≡ []
  -- and nothing in a life of d that didn't begin yet
  pub unborn : (a b : ℕ) → (numbers_at w.keys d).boot < b → prio_delivered_under happened s a d b ≡ []
  -- whatever a correct s signed as a priority message for d was sent under the boot that it names
  pub messages : IsTrue (is_correct x s) → (m : Prio) → IsTrue (arts.is_good (bodies.Prio m)) → m.src ≡ s → m.dst ≡ d
      → is_among (arts.spell (bodies.Prio m)) (signed es js s) ≡ true → Contains (prio_sent_under happened s m.sboot d) (m.seq, m.payload)

-- each turn of which nothing is forged keeps it, where key files, signed objects and held boots are as they are in a run
abbrev pub TurnsKeepPriority : Type 0
TurnsKeepPriority = (arts : Arts) (x : Setting) (es : List Event) (js : List Entry) (old : World) (e : Event) (j : Entry) (new : World)
    → SettingFits arts x → Carries x.topology.format arts
    → KeysStand x es old → Signs arts x es js old → BootClaims arts x es js old
    → InRange x es e → (turn : Turn arts x old e j new) → forged_in arts x es js old e j new turn ≡ None
    → (s d : NodeId) (happened : List Happened) → PrioPart arts x s d es js happened old
    → PrioPart arts x s d (es ++ e ∷ []) (js ++ j ∷ []) (happened ++ record { event = e; entry = j; mover = mover_in arts x old e j new turn } ∷ []) new
