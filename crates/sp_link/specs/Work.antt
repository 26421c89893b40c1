-- How many tags are checked for a frame, by what the link says of it: one, and none of a frame that doesn't name the ends of the link.
use Rattle.std.specs.Prelude.{ℕ, ◌+◌, ◌-◌, ◌^◌, min}
use Rattle.sp_rules.specs.declared.link.LinkAnswer.{LinkAnswer}
use Rattle.sp_rules.specs.declared.link.LinkAnswer.TheVariants as answers

-- one more was checked. The count stands still at the end of its type
abbrev pub one_more : ℕ → ℕ
one_more tags = min (tags + 1) (2 ^ 64 - 1)

-- the count after this answer
abbrev pub tags_after : ℕ → LinkAnswer → ℕ
tags_after tags answers.NotForMe = tags
tags_after tags _ = one_more tags
