use Rattle.std.proofs.Common.{◌≡◌, ◌+◌, ◌-◌, ℕ, List, drop, take, sym, ap, subst, ◌∙◌}
use Rattle.sp_base.specs.declared.id.NodeId.{NodeId}
use Rattle.sp_rules.specs.declared.kflow.FlowKind.TheVariants.{Plain}
use Rattle.sp_runs.specs.Rounds.{CompleteRounds}
use Rattle.sp_schedule_events.specs.declared.event.Event.{Event}
use Rattle.sp_audit.proofs.PathLemmas.{drop_least, first_is, last_is, take_least}
use Rattle.sp_audit.proofs.counted.rounds.Goals as goal

moved : (path : List NodeId) (n a b : ℕ) (s t d e : NodeId) (xs ys zs ws : List Event) → a ≡ b → s ≡ t → d ≡ e → xs ≡ ys → zs ≡ ws
    → CompleteRounds Plain a s d path n xs zs → CompleteRounds Plain b t e path n ys ws
moved path n a b s t d e xs ys zs ws p q r u w rounds =
    subst (λ (k : ℕ). CompleteRounds Plain k t e path n ys ws) p
    (subst (λ (v : NodeId). CompleteRounds Plain a v e path n ys ws) q
    (subst (λ (v : NodeId). CompleteRounds Plain a s v path n ys ws) r
    (subst (λ (vs : List Event). CompleteRounds Plain a s d path n vs ws) u
    (subst (CompleteRounds Plain a s d path n xs) w rounds))))

pub returns-clause-counted : goal.returns-clause-counted
returns-clause-counted c =
    let path = c.args.path.now in
    let es = c.args.events.now in
    let found = c.is_path.ensures.holds.0 c.if-not-is_path.false in
    let ends = found.2.walks.ends in
    let first = first_is path ends.0 found.0 found.1 (record { 0 = 0 }) ends.1 in
    let last = last_is path ends.0 found.0 found.1 (record { 0 = 0 }) ends.1 in
    let least = c.flow_count-least.ensures.counted in
    let before = ap (λ (n : ℕ). take n es) c.min-at.ensures ∙ take_least es (c.args.from - 1) in
    let after = ap (λ (n : ℕ). drop n es) c.min-at.ensures ∙ drop_least es (c.args.from - 1) in
    record {
      source = found.0;
      target = found.1;
      is_path = found.2;
      counted = moved path c.count_rounds.result _ _ _ _ _ _ _ _ _ _ least first last before after c.count_rounds.ensures.counted;
      no_more = λ rounds.
          c.count_rounds.ensures.no_more
          (moved path (c.count_rounds.result + 1) _ _ _ _ _ _ _ _ _ _ (sym least) (sym first) (sym last) (sym before) (sym after) rounds);
    }
