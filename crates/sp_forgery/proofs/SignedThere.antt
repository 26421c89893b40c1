-- What was signed at one event was signed.
use Rattle.std.proofs.Common.{◌≡◌, ℕ, zero, suc, ◌<◌, Bool, true, false, List, [], ◌∷◌, length, get_or, refl, arith}
use Rattle.std.specs.Prelude.{◌||◌}
use Rattle.std.proofs.lemmas.List.Folds.{list_any-append}
use Rattle.sp_runs.specs.Forgery.{is_among}
use Rattle.sp_runs.specs.Told.{signed, signed_by, told_at}
use Rattle.sp_journal.specs.declared.entry.Entry.{Entry}
use Rattle.sp_schedule_events.specs.declared.event.Event.{Event}
use Rattle.std.specs.Cmp.Lexicographic.{pointwise}
use Rattle.std.specs.Prelude.{nat_eq}
use Rattle.sp_base.specs.declared.id.NodeId.{NodeId}

-- what was signed at an event was signed
pub signed_there : (m : List ℕ) (u : NodeId) (es : List Event) (js : List Entry) (place : ℕ) (e : Event) (j : Entry) → place < length es → length es ≡ length js
    → e ≡ get_or es place e → j ≡ get_or js place j → is_among m (told_at u signed_by (e, j)) ≡ true → is_among m (signed es js u) ≡ true
signed_there m u [] js place e j inside even is_e is_j here = absurd (omega arith)
signed_there m u (x ∷ es) [] place e j inside even is_e is_j here = absurd (omega arith)
signed_there m u (x ∷ es) (y ∷ js) zero e j inside even is_e is_j here =
    let first : is_among m (told_at u signed_by (x, y)) ≡ true = rw (is_e, is_j) at here in
    rw (list_any-append (λ z. pointwise nat_eq z m) (told_at u signed_by (x, y)) (signed es js u), first) refl
signed_there m u (x ∷ es) (y ∷ js) (suc place) e j inside even is_e is_j here =
    let later = signed_there m u es js place e j (omega arith) (omega (arith, even)) is_e is_j here in
    rw (list_any-append (λ z. pointwise nat_eq z m) (told_at u signed_by (x, y)) (signed es js u), later) (or_true (is_among m (told_at u signed_by (x, y))))
  where
    or_true : (b : Bool) → (b || true) ≡ true
    or_true true = refl
    or_true false = refl
