use Rattle.std.proofs.Common.{◌≡◌, nat_le, false, sym, subst, ◌∙◌, arith}
use Rattle.std.proofs.lemmas.Bool.Decides.{nat_tests}
use Rattle.sp_rules.specs.Window.{is_in}
use Rattle.sp_audit.specs.Shelves.{Shelf}
use Rattle.sp_audit.proofs.ShelfLemmas.{none_above}
use Rattle.sp_audit.proofs.shelf.Shelf.is_gone.Goals as goal

pub returns-else-id-self : goal.returns-else-id-self
returns-else-id-self c =
    let is_no : nat_le c.args.id c.self.inside.most ≡ false = grind (arith, nat_tests, c.if-id-self.false) in
    let none = none_above c.args.id c.self.inside.most c.self.inside.gone.items c.self.invariant c.if-id-self.false in
    is_no ∙ sym (subst (λ (s : Shelf). is_in c.args.id s.gone ≡ false) c.self.view_is none)
