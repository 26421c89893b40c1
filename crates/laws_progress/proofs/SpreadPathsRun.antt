-- The law on what the way of a document is for: no node of the path runs under a later version than the last, and one version has one list of weights.
use Rattle.std.proofs.Common.{◌≡◌, ◌≤◌, ℕ, ◌+◌, List, ◌++◌, get_or, length, Some, sym, ap, ◌∙◌, inl, inr, arith}
use Rattle.std.specs.Prelude.{slice_get}
use Rattle.std.proofs.lemmas.Option.{same_Some, slice_get_within}
use Rattle.sp_rules.specs.Arts.{Arts}
use Rattle.sp_rules.specs.Node.{NodeState}
use Rattle.sp_runs.specs.Forgery.{lists_in}
use Rattle.sp_runs.specs.Settings.{Setting, SettingFits}
use Rattle.sp_runs.specs.Worlds.{node_in}
use Rattle.sp_schedule_events.specs.declared.event.Event.{Event}
use Rattle.laws_progress.specs.Spreading.{SpreadPathsRunUnder}
use Rattle.laws_runs.specs.Versions.{IsPublished}
use Rattle.laws_runs.proofs.Published.{placed, still_published}
use Rattle.laws_runs.proofs.Versions.{versions_are_published}

-- no version is above the last
last_version : (arts : Arts) (x : Setting) (es : List Event) (version : ℕ) (weights : List ℕ) → SettingFits arts x → IsPublished x es version weights
    → version ≤ length (lists_in es) + 1
last_version arts x es version weights fits (inl first) = let is = first.0 in let one = fits.first in omega (arith, is, one)
last_version arts x es version weights fits (inr one) =
    let p = placed es version weights one in
    let is = p.version_is in
    let low = slice_get_within (lists_in es) p.place weights p.there in
    omega (arith, is, low)

-- and a version has one list of weights
one_list : (arts : Arts) (x : Setting) (es : List Event) (version a : ℕ) (old new : List ℕ) → SettingFits arts x → version ≡ a
    → IsPublished x es version old → IsPublished x es a new → new ≡ old
one_list arts x es version a old new fits same (inl first) (inl second) = second.1 ∙ sym first.1
one_list arts x es version a old new fits same (inl first) (inr second) =
    let is = (placed es a new second).version_is in
    let first_is = first.0 in
    let one = fits.first in
    absurd (omega (arith, same, is, first_is, one))
one_list arts x es version a old new fits same (inr first) (inl second) =
    let is = (placed es version old first).version_is in
    let second_is = second.0 in
    let one = fits.first in
    absurd (omega (arith, same, is, second_is, one))
one_list arts x es version a old new fits same (inr first) (inr second) =
    let p = placed es version old first in
    let q = placed es a new second in
    let one = p.version_is in
    let two = q.version_is in
    let place : q.place ≡ p.place = omega (arith, same, one, two) in
    same_Some new old (sym q.there ∙ ap (slice_get (lists_in es)) place ∙ p.there)

pub spread_paths_run_under : SpreadPathsRunUnder
spread_paths_run_under arts x fits reads es js w after more v early run path spread i none low n at_n last j other_none close = record {
  version_is = λ m at_m. same m at_m;
  weights_are = λ m at_m. one_list arts x (es ++ after) n.live.version m.live.version n.live.weights m.live.weights fits (sym (same m at_m)) first (of m at_m);
}
  where
    first : IsPublished x (es ++ after) n.live.version n.live.weights
    first = still_published x es after n.live.version n.live.weights (versions_are_published arts x es js w fits reads early _ n at_n)

    of : (m : NodeState) → node_in v.nodes (get_or path j other_none) ≡ Some m → IsPublished x (es ++ after) m.live.version m.live.weights
    of m at_m = versions_are_published arts x (es ++ after) (js ++ more) v fits reads run _ m at_m

    same : (m : NodeState) → node_in v.nodes (get_or path j other_none) ≡ Some m → m.live.version ≡ n.live.version
    same m at_m =
        let least = spread j other_none close i none low n m at_n at_m in
        let most = last_version arts x (es ++ after) m.live.version m.live.weights fits (of m at_m) in
        omega (arith, least, most, last)
