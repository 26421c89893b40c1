use Rattle.std.proofs.Common.{◌+◌, ◌-◌, length, drop, refl, sym, ◌∙◌, arith, length-drop}
use Rattle.std.proofs.lemmas.List.{take_all}
use Rattle.sp_text.proofs.NextLine.{is_not_empty, line_found, line_missing}
use Rattle.sp_text.proofs.lines.Lines.next.Goals as goal

pub returns-in_default : goal.returns-in_default
returns-in_default c =
    let text = c.self.inside.rest.now in
    let full = is_not_empty text c.if-is_empty.ensures in
    let missing =
    line_missing (c.self.inside.given + 1) text _ c.endless.result c.min-searched.ensures (sym c.newline.ensures ∙ c.in_default.is) c.endless.ensures.long
    c.endless.ensures.cut in
    rw (← c.self.view_is) (full, missing, refl)

pub returns : goal.returns
returns c =
    let text = c.self.inside.rest.now in
    let full = is_not_empty text c.if-is_empty.ensures in
    let found = line_found (c.self.inside.given + 1) text _ c.in-Some.end c.min-searched.ensures (sym c.newline.ensures ∙ c.in-Some.is) in
    let rest = take_all (length text - (c.in-Some.end + 1)) (drop (c.in-Some.end + 1) text) (omega (arith, length-drop (c.in-Some.end + 1) text)) in
    rw (← c.self.view_is, rest) (full, refl, found)
