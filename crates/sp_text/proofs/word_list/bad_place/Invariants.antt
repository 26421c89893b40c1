use Rattle.std.proofs.Common.{◌≡◌, ◌+◌, drop, not}
use Rattle.std.specs.List.{position_or_len}
use Rattle.sp_text.specs.Texts.{bad_place, may_follow, pairs_after}
use Rattle.sp_text.proofs.word_list.bad_place.Given as goal

abbrev pub invariant-bytes : goal.invariant-bytes
invariant-bytes l =
    bad_place l.line ≡ l.place + position_or_len (λ pair. not (may_follow pair.0 pair.1)) (pairs_after l.before (drop l.place l.line))
