use Rattle.std.proofs.Common.{◌∙◌, map, subst, sym}
use Rattle.std.proofs.lemmas.List.{length-map}
use Rattle.sp_lines.specs.Answers.{Reads}
use Rattle.sp_schedule_events.proofs.CraftLemmas.{crafted, documented, reported}
use Rattle.sp_schedule_events.proofs.craft_line.crafted.Goals as goal

pub returns-then-named : goal.returns-then-named
returns-then-named c =
    subst (Reads c.report.result)
    (sym (reported c.args.line.now.scenario.now c.args.line.now.before.now c.args.c.now c.args.v.now c.args.key.now c.args.name.now
    (map (λ w. w.now) c.args.fields.now)
    (sym c.named.ensures ∙ c.if-named.true)))
    c.report.ensures

pub returns-then-named-2 : goal.returns-then-named-2
returns-then-named-2 c =
    subst (Reads c.document.result)
    (sym (documented c.args.line.now.scenario.now c.args.line.now.before.now c.args.c.now c.args.v.now c.args.key.now c.args.name.now
    (map (λ w. w.now) c.args.fields.now)
    (sym c.named.ensures ∙ c.if-named.false) (sym c.named-2.ensures ∙ c.if-named-2.true)))
    c.document.ensures

pub returns : goal.returns
returns c =
    subst (Reads c.object.result)
    (sym (crafted c.args.line.now.scenario.now c.args.line.now.before.now c.args.c.now c.args.v.now c.args.key.now c.args.name.now
    (map (λ w. w.now) c.args.fields.now) c.in-Some.form
    (sym c.named.ensures ∙ c.if-named.false) (sym c.named-2.ensures ∙ c.if-named-2.false)
    (rw (length-map c.args.fields.now (λ w. w.now)) (sym c.object_form.ensures ∙ c.in-Some.is))))
    c.object.ensures
