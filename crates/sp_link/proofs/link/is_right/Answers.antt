use Rattle.std.proofs.Common.{ap, ◌∙◌}
use Rattle.std.specs.Prelude.{nat_eq}
use Rattle.std.specs.Cmp.Lexicographic.{pointwise}
use Rattle.sp_frame.specs.Frames.{tag_part}
use Rattle.sp_hmac.specs.Hmac.{hmac}
use Rattle.sp_link.proofs.TagLemmas.{same_answer}
use Rattle.sp_link.specs.Sealing.{is_right}
use Rattle.sp_link.proofs.link.is_right.Goals as goal

pub returns-clause-right : goal.returns-clause-right
unfolding is_right
returns-clause-right c =
    same_answer c.verify.result c.tag.result.now (hmac c.args.key.now c.tagged_part.result.now) c.verify.ensures
    ∙ ap (λ t. pointwise nat_eq t (hmac c.args.key.now c.tagged_part.result.now)) c.tag.ensures
    ∙ ap (λ s. pointwise nat_eq (tag_part c.args.frame.now) (hmac c.args.key.now s)) c.tagged_part.ensures
