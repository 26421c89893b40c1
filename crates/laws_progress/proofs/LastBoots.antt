-- The last boot that a node took: it never falls, it is the boot of a node that runs, and no other node holds a later one.
use Rattle.std.proofs.Common.{◌≡◌, ◌≤◌, ℕ, ◌+◌, ◌-◌, Bool, true, false, cond, List, Some, refl, sym, ap, subst, ◌∙◌, inl, inr, arith}
use Rattle.std.specs.Prelude.{IsTrue, if◌then◌else◌}
use Rattle.std.proofs.lemmas.Bool.{cases_Bool}
use Rattle.sp_base.specs.declared.id.NodeId.{NodeId}
use Rattle.sp_epoch.specs.Numbers.{after_start, numbers_at}
use Rattle.sp_rules.specs.Arts.{Arts}
use Rattle.sp_rules.specs.Lives.{held_boot}
use Rattle.sp_rules.specs.Node.{NodeState}
use Rattle.sp_runs.specs.Lives.{next_start}
use Rattle.sp_runs.specs.Runs.{Clean, Lives, Moves, Stays, Turn}
use Rattle.sp_runs.specs.Settings.{Setting, SettingFits, is_correct}
use Rattle.sp_runs.specs.Worlds.{World, node_in}
use Rattle.sp_journal.specs.declared.entry.Entry.{Entry}
use Rattle.sp_schedule_events.specs.declared.event.Event.{Event}
use Rattle.sp_schedule_events.specs.declared.event.Event.TheVariants as events
use Rattle.laws_runs.specs.Premises.{Carries}
use Rattle.laws_runs.proofs.HeldBoots.{boots_rise, held_boots_are_born}
use Rattle.laws_runs.proofs.KeyFiles.{key_files_stand}
use Rattle.laws_runs.proofs.LifeCases.{Exhausts, LifeCase, Nobody, Starts_now, Stops, life_case}
use Rattle.laws_runs.proofs.Ready.{ready_boots}
use Rattle.laws_runs.proofs.Signed.{signs}

-- with epochs that of its key file, else that of its only life
abbrev pub last_boot : Setting → World → NodeId → ℕ
last_boot x w v = if x.epochs then (numbers_at w.keys v).boot else 1

pub with_epochs : (x : Setting) (w : World) (v : NodeId) → x.epochs ≡ true → last_boot x w v ≡ (numbers_at w.keys v).boot
with_epochs x w v on = rw on refl

pub without_epochs : (x : Setting) (w : World) (v : NodeId) → x.epochs ≡ false → last_boot x w v ≡ 1
without_epochs x w v off = rw off refl

-- ---- one event

pub last_rises : (arts : Arts) (x : Setting) (old : World) (e : Event) (j : Entry) (new : World) → Turn arts x old e j new → (v : NodeId)
    → last_boot x old v ≤ last_boot x new v
last_rises arts x old e j new turn v = go x.epochs
  where
    life : LifeCase arts x old e j new → (numbers_at old.keys v).boot ≤ (numbers_at new.keys v).boot
    life (Starts_now u is start) =
        subst (λ (y : World). (numbers_at old.keys v).boot ≤ (numbers_at y.keys v).boot) (sym start.world)
        (boots_rise old.keys (u.0 - 1) (v.0 - 1) (after_start x.total (numbers_at old.keys u)) (omega arith))
    life (Exhausts u is none) = let same = ap (λ (y : World). (numbers_at y.keys v).boot) none.world in omega (arith, same)
    life (Stops u is stop) =
        let same = ap (λ (y : World). (numbers_at y.keys v).boot) stop.world in
        let was = ready_boots x old (events.Stop u) v in
        omega (arith, same, was)
    life (Nobody other down) = let same = ap (λ (y : World). (numbers_at y.keys v).boot) down.world in omega (arith, same)

    of : Turn arts x old e j new → (numbers_at old.keys v).boot ≤ (numbers_at new.keys v).boot
    of (Moves m) =
        let same = ap (λ (y : World). (numbers_at y.keys v).boot) m.world in
        let was = ready_boots x old e v in
        omega (arith, same, was)
    of (Stays s) = let same = ap (λ (y : World). (numbers_at y.keys v).boot) s.world in omega (arith, same)
    of (Lives on l) = life (life_case arts x old e j new l)

    go : (t : Bool) → cond t (numbers_at old.keys v).boot 1 ≤ cond t (numbers_at new.keys v).boot 1
    go true = of turn
    go false = omega arith

-- a start takes the next one
pub start_boot : (x : Setting) (w : World) (u : NodeId) → x.epochs ≡ true → (next_start x w u).boot ≡ last_boot x w u + 1
start_boot x w u on = ap (λ b. b + 1) (sym (with_epochs x w u on))

-- ---- over a run

pub running_boot : (arts : Arts) (x : Setting) (es : List Event) (js : List Entry) (w : World) → SettingFits arts x → Carries x.topology.format arts
    → Clean arts x es js w → (u : NodeId) (n : NodeState) → node_in w.nodes u ≡ Some n → n.fixed.boot ≡ last_boot x w u
running_boot arts x es js w fits reads run u n at = elim (cases_Bool x.epochs) [
  | inl on ↦ (((key_files_stand arts x es js w fits run).files on).nodes u n at).boot ∙ sym (with_epochs x w u on)
  | inr off ↦ (((signs arts x es js w fits reads run).nodes u n at).plain off).first ∙ sym (without_epochs x w u off)
]

pub held_below : (arts : Arts) (x : Setting) (es : List Event) (js : List Entry) (w : World) → SettingFits arts x → Carries x.topology.format arts
    → Clean arts x es js w → (u v : NodeId) (n : NodeState) → node_in w.nodes u ≡ Some n → IsTrue (is_correct x v)
    → held_boot n.parts.lives v ≤ last_boot x w v
held_below arts x es js w fits reads run u v n at correct =
    let boots = held_boots_are_born arts x es js w fits reads run in
    elim (cases_Bool x.epochs) [
      | inl on ↦ let low = boots.born u v n at correct in let same = with_epochs x w v on in omega (arith, low, same)
      | inr off ↦ let none = boots.none off u v n at in omega (arith, none)
    ]

-- without epochs no node holds any
pub held_none : (arts : Arts) (x : Setting) (es : List Event) (js : List Entry) (w : World) → SettingFits arts x → Carries x.topology.format arts
    → Clean arts x es js w → x.epochs ≡ false → (u : NodeId) (n : NodeState) → node_in w.nodes u ≡ Some n → (v : NodeId) → held_boot n.parts.lives v ≡ 0
held_none arts x es js w fits reads run off u n at v = (held_boots_are_born arts x es js w fits reads run).none off u v n at
