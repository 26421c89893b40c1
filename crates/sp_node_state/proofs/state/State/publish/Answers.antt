use Rattle.std.proofs.Common.{◌∙◌, refl}
use Rattle.sp_node_state.proofs.Published.{told_is, under_is}
use Rattle.sp_node_state.proofs.state.State.publish.Goals as goal

pub adopt-requires : goal.adopt-requires
adopt-requires c = c.in_ok-publication.ensures.judged.fits

pub returns-clause-answer : goal.returns-clause-answer
returns-clause-answer c = c.adopt.ensures.answer ∙ c.in_ok-publication.ensures.judged.answer

pub returns-clause-state : goal.returns-clause-state
returns-clause-state c =
    c.adopt.ensures.state ∙ under_is c.args.self.now c.args.self.now c.args.document.now c.in_ok-publication.publication c.in_ok-publication.ensures.judged refl

pub returns-clause-told : goal.returns-clause-told
returns-clause-told c =
    c.adopt.ensures.told ∙ told_is c.args.self.now c.args.self.now c.args.document.now c.in_ok-publication.publication c.in_ok-publication.ensures.judged refl
