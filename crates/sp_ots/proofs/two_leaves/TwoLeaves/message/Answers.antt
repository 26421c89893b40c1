use Rattle.std.proofs.Common.{◌++◌, List, ◌∷◌, [], ◌∙◌, ◌-◌, ◌+◌, ◌≡◌, ℕ, sym, ap, arith}
use Rattle.sp_ots.specs.TwoLeaves.{front_in}
use Rattle.sp_ots.proofs.TwoLeaves.{front_first, front_second}
use Rattle.sp_ots.proofs.two_leaves.TwoLeaves.message.Goals as goal

pub returns-then-place-self : goal.returns-then-place-self
returns-then-place-self c =
    c.element_message.ensures
    ∙ ap (λ (front : List ℕ). front ++ c.args.step ∷ [] ++ c.args.element.now) (sym (front_first c.args.self.now c.args.place (omega arith)))

pub returns-else-place-self : goal.returns-else-place-self
returns-else-place-self c =
    let leaves = c.args.self.now in
    let place : leaves.split + (c.args.place - leaves.split) ≡ c.args.place = omega arith in
    c.element_message-else-place-self.ensures
    ∙ ap (λ (front : List ℕ). front ++ c.args.step ∷ [] ++ c.args.element.now)
    (sym (front_second leaves (c.args.place - leaves.split)) ∙ ap (front_in leaves) place)
