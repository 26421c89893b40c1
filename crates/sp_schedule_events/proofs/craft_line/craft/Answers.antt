use Rattle.std.proofs.Common.{List, ℕ, ◌∷◌}
use Rattle.std.specs.Prelude.{codes}
use Rattle.sp_lines.specs.Answers.{Reads}
use Rattle.sp_schedule_events.specs.EventLines.{read_event}
use Rattle.sp_schedule_events.proofs.CraftLemmas.{crafted_few, from_four}
use Rattle.sp_schedule_events.proofs.craft_line.craft.Goals as goal

pub returns-in-len4-up : goal.returns-in-len4-up
returns-in-len4-up c =
    from_four (λ (ws : List (List ℕ)). Reads c.crafted.result (read_event c.args.line.now.scenario.now c.args.line.now.before.now (codes "craft" ∷ ws)))
    c.args.words.now _ c.in-len4-up.len_at_least c.crafted.ensures

pub returns-in_default : goal.returns-in_default
returns-in_default c = crafted_few c.args.line.now.scenario.now c.args.line.now.before.now c.args.words.now c.in_default.len_below
