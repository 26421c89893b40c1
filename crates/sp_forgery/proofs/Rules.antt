-- The lemmas that a judgement needs together.
use Rattle.sp_forgery.proofs.Outcomes.{items_are, link_is, object_is, tag_is}

pub ruleset judged = (tag_is, object_is, link_is, items_are)
