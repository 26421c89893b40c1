use Rattle.std.proofs.Common.{Option, Some, ap, map, refl, sym, subst, ◌∙◌, ◌∷◌, List, ℕ}
use Rattle.sp_lines.specs.Answers.{Reads}
use Rattle.sp_schedule_events.specs.EventLines.{read_event, read_for}
use Rattle.sp_schedule_events.specs.Table.{Form}
use Rattle.sp_schedule_events.specs.declared.line_of.LineName.TheVariants as lines
use Rattle.sp_schedule_events.proofs.NameLemmas.{is_named, read_named, unnamed}
use Rattle.sp_schedule_events.proofs.lines.event_named.Goals as goal

pub returns-in-Rel : goal.returns-in-Rel
returns-in-Rel c =
    read_named c.args.line.now.scenario.now c.args.line.now.before.now lines.Rel c.args.name.now (map (λ w. w.now) c.args.words.now) c.rel.result refl
    (sym c.line_named.ensures ∙ c.in-Some.is ∙ ap Some c.in-Rel.is) c.rel.ensures

pub returns-in-Prio : goal.returns-in-Prio
returns-in-Prio c =
    read_named c.args.line.now.scenario.now c.args.line.now.before.now lines.Prio c.args.name.now (map (λ w. w.now) c.args.words.now) c.prio.result refl
    (sym c.line_named.ensures ∙ c.in-Some.is ∙ ap Some c.in-Prio.is) c.prio.ensures

pub returns-in-Take : goal.returns-in-Take
returns-in-Take c =
    read_named c.args.line.now.scenario.now c.args.line.now.before.now lines.Take c.args.name.now (map (λ w. w.now) c.args.words.now) c.take.result refl
    (sym c.line_named.ensures ∙ c.in-Some.is ∙ ap Some c.in-Take.is) c.take.ensures

pub returns-in-TakePrio : goal.returns-in-TakePrio
returns-in-TakePrio c =
    read_named c.args.line.now.scenario.now c.args.line.now.before.now lines.TakePrio c.args.name.now (map (λ w. w.now) c.args.words.now) c.takep.result refl
    (sym c.line_named.ensures ∙ c.in-Some.is ∙ ap Some c.in-TakePrio.is) c.takep.ensures

pub returns-in-Tick : goal.returns-in-Tick
returns-in-Tick c =
    read_named c.args.line.now.scenario.now c.args.line.now.before.now lines.Tick c.args.name.now (map (λ w. w.now) c.args.words.now) c.tick.result refl
    (sym c.line_named.ensures ∙ c.in-Some.is ∙ ap Some c.in-Tick.is) c.tick.ensures

pub returns-in-Weight : goal.returns-in-Weight
returns-in-Weight c =
    read_named c.args.line.now.scenario.now c.args.line.now.before.now lines.Weight c.args.name.now (map (λ w. w.now) c.args.words.now) c.weight.result refl
    (sym c.line_named.ensures ∙ c.in-Some.is ∙ ap Some c.in-Weight.is) c.weight.ensures

pub returns-in-Poll : goal.returns-in-Poll
returns-in-Poll c =
    read_named c.args.line.now.scenario.now c.args.line.now.before.now lines.Poll c.args.name.now (map (λ w. w.now) c.args.words.now) c.poll.result refl
    (sym c.line_named.ensures ∙ c.in-Some.is ∙ ap Some c.in-Poll.is) c.poll.ensures

pub returns-in-Pass : goal.returns-in-Pass
returns-in-Pass c =
    read_named c.args.line.now.scenario.now c.args.line.now.before.now lines.Pass c.args.name.now (map (λ w. w.now) c.args.words.now) c.pass.result refl
    (sym c.line_named.ensures ∙ c.in-Some.is ∙ ap Some c.in-Pass.is) c.pass.ensures

pub returns-in-Flip : goal.returns-in-Flip
returns-in-Flip c =
    read_named c.args.line.now.scenario.now c.args.line.now.before.now lines.Flip c.args.name.now (map (λ w. w.now) c.args.words.now) c.flip.result refl
    (sym c.line_named.ensures ∙ c.in-Some.is ∙ ap Some c.in-Flip.is) c.flip.ensures

pub returns-in-Inject : goal.returns-in-Inject
returns-in-Inject c =
    read_named c.args.line.now.scenario.now c.args.line.now.before.now lines.Inject c.args.name.now (map (λ w. w.now) c.args.words.now) c.inject.result refl
    (sym c.line_named.ensures ∙ c.in-Some.is ∙ ap Some c.in-Inject.is) c.inject.ensures

pub returns-in-Craft : goal.returns-in-Craft
returns-in-Craft c =
    subst (λ (x : List ℕ). Reads c.craft.result (read_event c.args.line.now.scenario.now c.args.line.now.before.now (x ∷ map (λ w. w.now) c.args.words.now)))
    (sym (is_named c.args.name.now lines.Craft (sym c.line_named.ensures ∙ c.in-Some.is ∙ ap Some c.in-Craft.is))) c.craft.ensures

pub returns-in-Start : goal.returns-in-Start
returns-in-Start c =
    read_named c.args.line.now.scenario.now c.args.line.now.before.now lines.Start c.args.name.now (map (λ w. w.now) c.args.words.now) c.start.result refl
    (sym c.line_named.ensures ∙ c.in-Some.is ∙ ap Some c.in-Start.is) c.start.ensures

pub returns-in-Stop : goal.returns-in-Stop
returns-in-Stop c =
    read_named c.args.line.now.scenario.now c.args.line.now.before.now lines.Stop c.args.name.now (map (λ w. w.now) c.args.words.now) c.stop.result refl
    (sym c.line_named.ensures ∙ c.in-Some.is ∙ ap Some c.in-Stop.is) c.stop.ensures

pub returns-in-Publish : goal.returns-in-Publish
returns-in-Publish c =
    read_named c.args.line.now.scenario.now c.args.line.now.before.now lines.Publish c.args.name.now (map (λ w. w.now) c.args.words.now) c.publish.result refl
    (sym c.line_named.ensures ∙ c.in-Some.is ∙ ap Some c.in-Publish.is) c.publish.ensures

pub returns-in-Krel : goal.returns-in-Krel
returns-in-Krel c =
    read_named c.args.line.now.scenario.now c.args.line.now.before.now lines.Krel c.args.name.now (map (λ w. w.now) c.args.words.now) c.krel.result refl
    (sym c.line_named.ensures ∙ c.in-Some.is ∙ ap Some c.in-Krel.is) c.krel.ensures

pub returns-in-KTake : goal.returns-in-KTake
returns-in-KTake c =
    read_named c.args.line.now.scenario.now c.args.line.now.before.now lines.KTake c.args.name.now (map (λ w. w.now) c.args.words.now) c.ktake.result refl
    (sym c.line_named.ensures ∙ c.in-Some.is ∙ ap Some c.in-KTake.is) c.ktake.ensures

pub returns-in_default : goal.returns-in_default
returns-in_default c =
    ap (λ (found : Option Form). read_for c.args.line.now.scenario.now c.args.line.now.before.now found (c.args.name.now ∷ map (λ w. w.now) c.args.words.now))
    (unnamed c.args.line.now.scenario.now c.args.name.now (map (λ w. w.now) c.args.words.now) (sym c.line_named.ensures ∙ c.in_default.is))
