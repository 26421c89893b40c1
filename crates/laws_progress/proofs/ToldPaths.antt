-- A path whose nodes were told each other's starts is calm under the boots of its ends for as long as they stay up.
use Rattle.std.proofs.Common.{◌≡◌, ◌==◌, ◌++◌, true, get_or, Some, refl, sym, ap, ◌∙◌}
use Rattle.std.specs.List.{list_any}
use Rattle.std.proofs.lemmas.Bool.{eq-eqb}
use Rattle.std.proofs.lemmas.List.Folds.{list_any-append}
use Rattle.std.proofs.lemmas.Option.{slice_get-get_or}
use Rattle.sp_base.specs.declared.id.NodeId.{NodeId}
use Rattle.sp_rules.specs.Lives.{held_boot}
use Rattle.sp_rules.specs.Node.{NodeState}
use Rattle.sp_runs.specs.Worlds.{World, node_in}
use Rattle.laws_node.proofs.Tables.{all_get}
use Rattle.laws_progress.specs.Calm.{StaysUpIn, is_life_of}
use Rattle.laws_progress.specs.LifeDelivery.{ToldPathsAreCalm}
use Rattle.laws_progress.proofs.RunStates.{ends_are, split}
use Rattle.laws_progress.proofs.StartsTold.{On}
use Rattle.laws_progress.proofs.States.{last_state}
use Rattle.laws_progress.proofs.UpStates.{off_first, runs_through}

pub told_paths_are_calm : ToldPathsAreCalm
told_paths_are_calm arts x fits reads epochs es js w after more v early run later s d path is ups known n m at_n at_m i none low =
    let all = es ++ after in
    let ends = ends_are x s d path is in
    let y = last_state arts x all (js ++ more) v run in
    let parts = split arts x fits reads.carries es after js more w v early run in
    let up_in = λ (u : NodeId) (up : On path u). all_get (StaysUpIn w (after ++ later)) path up.0 u ups up.1 in
    let quiet = λ (u : NodeId) (up : On path u). off_first (list_any (is_life_of u) after) (list_any (is_life_of u) later)
    (sym (list_any-append (is_life_of u) after later) ∙ (up_in u up).stays) in
    let u = get_or path i none in
    let up : On path u = (i, slice_get-get_or path i none low) in
    let began = (up_in u up).node in
    let here =
    runs_through arts x all fits reads.carries after parts.mid y parts.goes u (quiet u up).0
    began (ap (λ (z : World). node_in z.nodes u) parts.world ∙ (up_in u up).runs) in
    let knows = λ (o : NodeId) (at : On path o) (q : NodeState) (there : node_in v.nodes o ≡ Some q).
    all_get (λ (p : NodeId). (a b : NodeState) → node_in v.nodes u ≡ Some a → node_in v.nodes p ≡ Some b → held_boot a.parts.lives p ≡ b.fixed.boot)
    path at.0 o (known i none low) at.1 here.node q here.there there in
    let from : (held_boot here.node.parts.lives s == n.fixed.boot) ≡ true = eq-eqb _ _ (knows s (0, ends.begins) n at_n) in
    let to_end : (held_boot here.node.parts.lives d == m.fixed.boot) ≡ true = eq-eqb _ _ (knows d (_, ends.ends) m at_m) in
    record {
      up = record { node = here.node; runs = here.there; stays = (quiet u up).1 };
      held = rw (from, to_end) refl;
    }
