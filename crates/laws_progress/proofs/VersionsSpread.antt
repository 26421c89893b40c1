-- The law on the way of a document: while the nodes of a path stay up, each runs after hops + 1 rounds under at least the version of each of them before.
use Rattle.std.proofs.Common.{◌≡◌, ◌≤◌, suc, ◌+◌, true, [], ◌∷◌, ◌++◌, get_or, refl, ap, subst, ◌∙◌, arith}
use Rattle.sp_base.specs.declared.id.NodeId.{NodeId}
use Rattle.sp_runs.specs.Paths.{hops}
use Rattle.sp_runs.specs.Runs.{polls}
use Rattle.sp_runs.specs.Worlds.{World, node_in}
use Rattle.laws_node.proofs.Tables.{all_get}
use Rattle.laws_progress.specs.Calm.{StaysUpIn}
use Rattle.laws_progress.specs.Spreading.{VersionsSpreadInRounds}
use Rattle.laws_progress.specs.Telling.{TellingRounds}
use Rattle.laws_progress.proofs.Places.{nobody}
use Rattle.laws_progress.proofs.RunStates.{ends_are, split}
use Rattle.laws_progress.proofs.Service.{number_on}
use Rattle.laws_progress.proofs.SpreadPaths.{all_told}
use Rattle.laws_progress.proofs.StartsTold.{On, at_place, interval, on_hops}
use Rattle.laws_progress.proofs.States.{State, last_state, seen_at}
use Rattle.laws_progress.proofs.UpStates.{UpState, up_to}
use Rattle.laws_progress.proofs.VersionTold.{version_spreading}

pub versions_spread : VersionsSpreadInRounds
versions_spread arts x fits reads documents may es js w after more v early run s d path is ups least one rounds i one_none low j other_none close n m
    at_n at_m =
    let all = es ++ after in
    let c = interval arts x all fits reads (λ q. Unit {0}) (λ n m q first one two last. tt) s d path is in
    let ends = ends_are x s d path is in
    let long = ends.long in
    let y = last_state arts x all (js ++ more) v run in
    let parts = split arts x fits reads.carries es after js more w v early run in
    let up_in = λ (u : NodeId) (up : On path u). all_get (StaysUpIn w after) path up.0 u ups up.1 in
    let first : UpState c = record {
      state = parts.mid;
      runs = λ u up. ((up_in u up).node, ap (λ (z : World). node_in z.nodes u) parts.world ∙ (up_in u up).runs);
      holds = λ u up q there. tt;
    } in
    let to = up_to c after first y parts.goes (λ u up. (up_in u up).stays) (λ u up q there. tt) in
    let last : UpState c = to.last in
    let r = version_spreading c documents may in
    let o = get_or path j other_none in
    let u = get_or path i one_none in
    let at_u = at_place path i one_none low in
    let at_o = at_place path j other_none close in
    let count : hops path + 1 ≡ suc (hops path) = omega arith in
    let rows : number_on (true ∷ []) ≡ 1 = refl in
    let spread =
    all_told r least one (omega (arith, rows, one)) path (on_hops arts x all fits reads (λ q. Unit {0}) (λ n m q first one two last. tt) s d path is)
    (λ k z there. (k, there)) (hops path) long
    es after first last to.goes (λ a b hop. ap (λ zs. polls zs a b) parts.events) (subst (λ k. TellingRounds least path k es after) count rounds)
    o i j (omega (arith, low, long)) (omega (arith, close, long)) in
    let spread_on : r.at.held first o o ≤ r.at.held last u o =
    subst (λ z. r.at.held first o o ≤ r.at.held last z o) at_u.1 (subst (λ z. r.at.held first z o ≤ r.at.held last (get_or path i nobody) o) at_o.1 spread) in
    let begins = ap (seen_at 0 (λ q. q.live.version)) (ap (λ (z : World). node_in z.nodes o) parts.world ∙ at_n) in
    let world : last.state.world ≡ v = ap (λ (z : State arts x all). z.world) to.is in
    let ends_so = ap (seen_at 0 (λ q. q.live.version)) (ap (λ (z : World). node_in z.nodes u) world ∙ at_m) in
    omega (arith, spread_on, begins, ends_so)
