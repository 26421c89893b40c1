-- The law on told starts: the nodes of a path that stay up hold the boots of each other's lives after hops + 1 rounds that tell starts.
use Rattle.std.proofs.Common.{sym, ◌≡◌, ◌<◌, ◌≤◌, ℕ, suc, ◌+◌, List, [], ◌∷◌, ◌++◌, length, get_or, Some, refl, ap, subst, ◌∙◌, arith}
use Rattle.std.specs.Prelude.{IsTrue, slice_get}
use Rattle.std.proofs.lemmas.Option.{get_or_from_slice_get, slice_get-get_or}
use Rattle.sp_base.specs.declared.id.NodeId.{NodeId}
use Rattle.sp_rules.specs.Lives.{held_boot}
use Rattle.sp_rules.specs.Arts.{Arts}
use Rattle.sp_rules.specs.Node.{NodeState}
use Rattle.laws_node.proofs.Tables.{all_get}
use Rattle.laws_runs.specs.Premises.{ComesThrough}
use Rattle.sp_runs.specs.Paths.{IsCorrectPath, hops}
use Rattle.sp_runs.specs.Runs.{polls}
use Rattle.sp_runs.specs.Settings.{Setting, SettingFits, is_correct}
use Rattle.sp_runs.specs.Worlds.{World, node_in}
use Rattle.sp_schedule_events.specs.declared.event.Event.{Event}
use Rattle.laws_progress.specs.Calm.{StaysUpIn}
use Rattle.laws_progress.specs.Within.{RunsUnder}
use Rattle.laws_progress.proofs.Within.{hop_open}
use Rattle.laws_progress.specs.LifeDelivery.{CountedStarts}
use Rattle.laws_progress.specs.Telling.{TellingRounds}
use Rattle.laws_runs.proofs.HeldBoots.{held_boots_are_born}
use Rattle.laws_progress.proofs.Facts.{AreHops, Goes, Stays, Steps}
use Rattle.laws_progress.proofs.LastBoots.{held_below, last_boot, running_boot}
use Rattle.laws_progress.proofs.LifeRows.{many_rows, place_low}
use Rattle.laws_progress.proofs.Places.{nobody}
use Rattle.laws_progress.proofs.SpreadPaths.{all_told}
use Rattle.laws_progress.proofs.RunStates.{are_hops, ends_are, split}
use Rattle.laws_progress.proofs.States.{State, last_state, seen_at}
use Rattle.laws_progress.proofs.UpFacts.{node_there}
use Rattle.laws_progress.proofs.UpFrames.{UpHop, boot_stays}
use Rattle.laws_progress.proofs.UpStates.{Between, Interval, IsTelling, UpNext, UpState, stays_under, up_to}
use Rattle.laws_progress.proofs.UpTold.{OpenHop, back_hop, spreading}
use Rattle.laws_progress.proofs.Versions.{Under}

-- the nodes of a path
abbrev pub On : List NodeId → NodeId → Type 0
On path u = (i : ℕ) × (slice_get path i ≡ Some u)

-- they stay up in an interval, with hops between neighbours
abbrev pub interval : (arts : Arts) (x : Setting) (all : List Event) → SettingFits arts x → ComesThrough x.topology.format arts x.signature_len
    → (Holds : NodeState → Type 0) → Between Holds → (s d : NodeId) (path : List NodeId) → IsCorrectPath x s d path → Interval
interval arts x all fits reads Holds between s d path is = record {
  arts = arts;
  x = x;
  all = all;
  Up = On path;
  fits = fits;
  reads = reads;
  Holds = Holds;
  between = between;
  correct = λ u up. all_get (λ n. IsTrue (is_correct x n)) path up.0 u is.correct up.1;
}

pub on_hops : (arts : Arts) (x : Setting) (all : List Event) (fits : SettingFits arts x) (reads : ComesThrough x.topology.format arts x.signature_len)
    (Holds : NodeState → Type 0) (between : Between Holds) (s d : NodeId) (path : List NodeId) (is : IsCorrectPath x s d path)
    → AreHops (UpHop (interval arts x all fits reads Holds between s d path is)) path
on_hops arts x all fits reads Holds between s d path is i u v a b =
    let both = are_hops x s d path is i u v a b in
    (record { near = (i, a); far = (suc i, b); joined = both.0.joined }, record { near = (suc i, b); far = (i, a); joined = both.1.joined })

-- the life of a node that stays up is the same at the end of an interval
same_life : (c : Interval) (es : List Event) (w y : UpState c) → Goes (UpState c) (UpNext c) w es y → (u : NodeId) → c.Up u
    → last_boot c.x y.state.world u ≡ last_boot c.x w.state.world u
same_life c [] w y Stays u up = refl
same_life c (e ∷ es) w y (Steps {x = m} step g) u up = same_life c es m y g u up ∙ boot_stays c w m e step u up

-- a node at a place, whatever stands for none
pub at_place : (path : List NodeId) (i : ℕ) (none : NodeId) → i < length path
    → (slice_get path i ≡ Some (get_or path i none)) × (get_or path i nobody ≡ get_or path i none)
at_place path i none low =
    let there = slice_get-get_or path i none low in
    (there, get_or_from_slice_get path i (get_or path i none) nobody there)

pub starts_are_told : CountedStarts
starts_are_told arts x fits reads epochs es js w after more v early run version weights s d path way under ups least enough rounds i one_none low j other_none
    close n m
    at_n at_m =
    let all = es ++ after in
    let is = way.walks in
    let c = interval arts x all fits reads (Under version weights) (stays_under version weights) s d path is in
    let telling : IsTelling c = record { epochs = epochs; version = version; weights = weights; under = λ q holds. holds } in
    let hops_of = on_hops arts x all fits reads (Under version weights) (stays_under version weights) s d path is in
    let ends = ends_are x s d path is in
    let long = ends.long in
    let y = last_state arts x all (js ++ more) v run in
    let parts = split arts x fits reads.carries es after js more w v early run in
    let up_in = λ (u : NodeId) (up : On path u). all_get (StaysUpIn w after) path up.0 u ups up.1 in
    let first : UpState c = record {
      state = parts.mid;
      runs = λ u up. ((up_in u up).node, ap (λ (z : World). node_in z.nodes u) parts.world ∙ (up_in u up).runs);
      holds = λ u up q at_q.
          let runs = all_get (RunsUnder version weights w) path up.0 u under.begins up.1 in
          let here = sym (ap (λ (z : World). node_in z.nodes u) parts.world) ∙ at_q in
          (runs.version_is q here, runs.weights_are q here);
    } in
    let to = up_to c after first y parts.goes (λ u up. (up_in u up).stays)
    (λ u up q at_q. let runs = all_get (RunsUnder version weights v) path up.0 u under.ends up.1 in (runs.version_is q at_q, runs.weights_are q at_q)) in
    let last : UpState c = to.last in
    let r = spreading c telling in
    let begin_there = place_low x.topology.nodes s (node_there x s (c.correct s (0, ends.begins))) in
    let rows = many_rows x.topology.nodes in
    let u = get_or path i one_none in
    let o = get_or path j other_none in
    let at_u = at_place path i one_none low in
    let at_o = at_place path j other_none close in
    let up_o : On path o = (j, at_o.0) in
    let count : hops path + 1 ≡ suc (hops path) = omega arith in
    let spread =
    all_told r least (omega (arith, begin_there, enough)) (omega (arith, rows, enough)) path
    (λ k a b at_a at_b.
    let there : OpenHop c telling a b = record { hop = (hops_of k a b at_a at_b).0; open_edge = hop_open x weights s d path way k a b at_a at_b } in
    (there, back_hop c telling a b there))
    (λ k z at. (k, at)) (hops path) long
    es after first last to.goes (λ a b hop. ap (λ zs. polls zs a b) parts.events) (subst (λ k. TellingRounds least path k es after) count rounds)
    o i j (omega (arith, low, long)) (omega (arith, close, long)) in
    let spread_on : r.at.held first o o ≤ r.at.held last u o =
    subst (λ z. r.at.held first o o ≤ r.at.held last z o) at_u.1 (subst (λ z. r.at.held first z o ≤ r.at.held last (get_or path i nobody) o) at_o.1 spread) in
    let begins = first.runs o up_o in
    let boots = held_boots_are_born arts x parts.mid.events parts.mid.journal parts.mid.world fits reads.carries parts.mid.run in
    let own = boots.own epochs o begins.0 begins.1 in
    let held_first = ap (seen_at 0 (λ q. held_boot q.parts.lives o)) begins.1 in
    let world : last.state.world ≡ v = ap (λ (z : State arts x all). z.world) to.is in
    let held_last = ap (seen_at 0 (λ q. held_boot q.parts.lives o)) (ap (λ (z : World). node_in z.nodes u) world ∙ at_n) in
    let life_first = running_boot arts x parts.mid.events parts.mid.journal parts.mid.world fits reads.carries parts.mid.run o begins.0 begins.1 in
    let life_last = running_boot arts x all (js ++ more) v fits reads.carries run o m at_m in
    let life = same_life c after first last to.goes o up_o in
    let same_last = ap (λ (z : World). last_boot x z o) world in
    let born = held_below arts x all (js ++ more) v fits reads.carries run u o n at_n (c.correct o up_o) in
    omega (arith, spread_on, own, held_first, held_last, life_first, life_last, life, same_last, born)
