-- The worked example of lives is computed.
use Rattle.std.proofs.Common.{◌≡◌, ◌++◌, ℕ, true, false, List, [], ◌∷◌, Some, refl, sym, ap, subst, ◌∙◌, arith}
use Rattle.std.proofs.lemmas.Option.{same_Some}
use Rattle.std.proofs.lemmas.List.Elements.{All-cons, All-head, All-nil, All-tail}
use Rattle.sp_base.specs.declared.id.NodeId.{NodeId}
use Rattle.sp_rules.specs.Lives.{held_boot}
use Rattle.sp_rules.specs.Node.{NodeState}
use Rattle.sp_runs.specs.Rounds.{CompleteRounds, None_left, Round}
use Rattle.sp_runs.specs.Worlds.{World, node_in}
use Rattle.sp_schedule_events.specs.declared.event.Event.{Event}
use Rattle.laws_progress.specs.Calm.{IsCalm, IsCalmAt}
use Rattle.laws_progress.specs.Within.{IsPathUnder, RunsUnder}
use Rattle.std.specs.List.{All}
use Rattle.laws_progress.specs.Worked.{line_path, line_round, line_weights, node}
use Rattle.laws_progress.specs.WorkedLives.{LivesAreCounted, again, behind, changed, four_rounds, holding, restless, sent_by, told}
use Rattle.laws_progress.proofs.Changes.{holds_both}
use Rattle.laws_progress.proofs.Worked.{line_is, three_path, three_under}
use Rattle.sp_rules.specs.declared.kflow.FlowKind.TheVariants.{Plain}

rounds_are : CompleteRounds Plain 1 (node 1) (node 3) line_path 4 sent_by four_rounds
rounds_are =
    Round [] (line_round 6) (line_is (sent_by ++ []) 6 refl refl refl refl)
    (Round [] (line_round 7) (line_is _ 7 refl refl refl refl)
    (Round [] (line_round 8) (line_is _ 8 refl refl refl refl)
    (Round [] (line_round 9) (line_is _ 9 refl refl refl refl) None_left)))

is_calm : IsCalm told four_rounds (node 1) 1 (node 3) 1 line_path
is_calm =
    let At = IsCalmAt told four_rounds (node 1) 1 (node 3) 1 in
    All-cons At (node 1) (node 2 ∷ node 3 ∷ []) (record { up = record { node = holding 1 1 1; runs = refl; stays = refl }; held = refl })
    (All-cons At (node 2) (node 3 ∷ []) (record { up = record { node = holding 2 1 1; runs = refl; stays = refl }; held = refl })
    (All-cons At (node 3) [] (record { up = record { node = holding 3 1 1; runs = refl; stays = refl }; held = refl }) (All-nil At)))

-- the boots that a node of the path holds at the beginning
boots_at : (w : World) (during : List Event) (a b : ℕ) (u : NodeId) (n : NodeState) → node_in w.nodes u ≡ Some n → IsCalmAt w during (node 1) a (node 3) b u
    → (held_boot n.parts.lives (node 1) ≡ a) × (held_boot n.parts.lives (node 3) ≡ b)
boots_at w during a b u n at c =
    let same : c.up.node ≡ n = same_Some c.up.node n (sym c.up.runs ∙ at) in
    let held = holds_both c.up.node (node 1) (node 3) a b c.held in
    subst (λ (m : NodeState). (held_boot m.parts.lives (node 1) ≡ a) × (held_boot m.parts.lives (node 3) ≡ b)) same held

is_path : IsPathUnder restless line_weights (node 1) (node 3) line_path
is_path = three_under restless line_weights 1 2 3
    (three_path restless 1 2 3 (λ e. omega (arith, e)) (λ e. omega (arith, e)) (λ e. omega (arith, e)) refl refl refl refl refl) refl refl

-- a node of this world that runs under version 1
runs_one : (u : ℕ) → node_in told.nodes (node u) ≡ Some (holding u 1 1) → RunsUnder 1 line_weights told (node u)
runs_one u at = record {
  version_is = λ n is. ap (λ (m : NodeState). m.live.version) (same_Some n (holding u 1 1) (sym is ∙ at));
  weights_are = λ n is. ap (λ (m : NodeState). m.live.weights) (same_Some n (holding u 1 1) (sym is ∙ at));
}

pub all_run : All (RunsUnder 1 line_weights told) line_path
all_run =
    let Runs = RunsUnder 1 line_weights told in
    All-cons Runs (node 1) (node 2 ∷ node 3 ∷ []) (runs_one 1 refl)
    (All-cons Runs (node 2) (node 3 ∷ []) (runs_one 2 refl) (All-cons Runs (node 3) [] (runs_one 3 refl) (All-nil Runs)))

-- the version of the node in the middle
second_of : (version : ℕ) (weights : List ℕ) (w : World) (n : NodeState) → node_in w.nodes (node 2) ≡ Some n → All (RunsUnder version weights w) line_path
    → n.live.version ≡ version
second_of version weights w n at all =
    let Runs = RunsUnder version weights w in
    (All-head Runs (node 2) (node 3 ∷ []) (All-tail Runs (node 1) (node 2 ∷ node 3 ∷ []) all)).version_is n at

pub lives_are_counted : LivesAreCounted
lives_are_counted = record {
  path = is_path;
  two_hops = refl;
  one_flow = refl;
  rounds = rounds_are;
  calm = is_calm;
  no_other = λ a b calm.
      let At = IsCalmAt told four_rounds (node 1) a (node 3) b in
      let boots = boots_at told four_rounds a b (node 1) (holding 1 1 1) refl (All-head At (node 1) (node 2 ∷ node 3 ∷ []) calm) in
      (sym boots.0, sym boots.1);
  under_one = record { begins = all_run; ends = all_run };
  changes = λ version weights under.
      let first : 1 ≡ version = second_of version weights told (holding 2 1 1) refl under.begins in
      let last : 2 ≡ version = second_of version weights changed _ refl under.ends in
      omega (arith, first, last);
  is_delivered = λ arts js more w v n promise run longer under calm at has.
      let it = promise Plain sent_by js w four_rounds more v run longer 1 line_weights (node 1) (node 3) line_path is_path under 1 1 calm n at tt 1 1
      (omega arith) has
      (omega arith) 1
      (omega arith) rounds_are in
      (it.payload, it.sent.there, it.delivered.there);
  restarts = λ w a b calm.
      let At = IsCalmAt w (four_rounds ++ again) (node 1) a (node 3) b in
      let two = All-head At (node 2) (node 3 ∷ []) (All-tail At (node 1) (node 2 ∷ node 3 ∷ []) calm) in
      (let f : true ≡ false = two.up.stays in cc);
  behind_one = λ a b calm.
      let At = IsCalmAt behind four_rounds (node 1) a (node 3) b in
      let one = boots_at behind four_rounds a b (node 1) (holding 1 2 1) refl (All-head At (node 1) (node 2 ∷ node 3 ∷ []) calm) in
      let two = boots_at behind four_rounds a b (node 2) (holding 2 1 1) refl
      (All-head At (node 2) (node 3 ∷ []) (All-tail At (node 1) (node 2 ∷ node 3 ∷ []) calm)) in
      let first : 2 ≡ a = one.0 in
      let second : 1 ≡ a = two.0 in
      omega (arith, first, second);
}
