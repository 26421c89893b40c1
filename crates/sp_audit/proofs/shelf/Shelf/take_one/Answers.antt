use Rattle.std.proofs.Common.{◌≡◌, false, true, sym, ◌∙◌}
use Rattle.sp_audit.proofs.ShelfLemmas.{takes_no_one, takes_one}
use Rattle.sp_audit.proofs.shelf.Shelf.take_one.Goals as goal

pub returns-then-not-leaves_share : goal.returns-then-not-leaves_share
returns-then-not-leaves_share c =
    takes_no_one c.args.capacity c.args.p c.args.self.now c.args.self.now c.args.effect.now
    (λ share. let wrong : true ≡ false = sym (c.leaves_share.ensures.1 share) ∙ c.if-not-leaves_share.true in let no : ⊥ = cc in no)

pub returns : goal.returns
returns c = takes_one c.args.capacity c.args.p c.args.self.now c.note.new.self c.args.effect.now (c.leaves_share.ensures.0 c.if-not-leaves_share.false)
    c.in_ok-note.ensures
