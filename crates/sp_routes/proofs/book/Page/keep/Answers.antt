use Rattle.std.proofs.Common.{refl}
use Rattle.sp_routes.specs.Pages.{IsAnswer}
use Rattle.sp_routes.proofs.PageLemmas.{page_with}
use Rattle.sp_routes.proofs.book.Page.keep.Goals as goal

pub returns-then-is_of-clause-page : goal.returns-then-is_of-clause-page
returns-then-is_of-clause-page c =
    let p = c.args.self.now in
    let same = c.is_of.ensures.0 c.if-is_of.true in
    let here : IsAnswer p.graph p.source c.args.set = rw (same.0, same.1) c.requires.answer in
    page_with p _ c.args.set c.requires.page here (c.requires.new same.0 same.1) refl refl c.in_ok-push.ensures.items
