use Rattle.std.proofs.Common.{◌≡◌, ◌<◌, ◌∷◌, ◌∙◌, Some, ap, arith, subst, sym}
use Rattle.std.proofs.lemmas.Bool.Decides.{nat_tests}
use Rattle.std.specs.List.{slice_get}
use Rattle.std.specs.Option.{option_copied}
use Rattle.sp_flow.proofs.TakeLemmas.{take_first}
use Rattle.sp_flow.proofs.flow_buf.FlowBuffer.+from.Goals as goal

pub returns-clause-messages : goal.returns-clause-messages
returns-clause-messages g t c =
    let here : slice_get c.self.inside.items.items c.args.place ≡ Some c.in-Some.message.now = sym c.get.ensures ∙ ap option_copied c.in-Some.is in
    let at = subst (λ b. slice_get b.at.list c.args.place ≡ Some c.in-Some.message.now) c.self.view_is here in
    let some : 0 < c.args.room = grind (arith, nat_tests, c.if-room-eq0.false) in
    let first = take_first c.args.self.now.at.list c.args.place c.args.room c.in-Some.message.now some at in
    rw (c.led_by.ensures, first) (ap (λ others. c.in-Some.message.now ∷ others) c.from.ensures.messages)
