use Rattle.std.proofs.Common.{◌≡◌, ◌++◌, Ok, drop, map}
use Rattle.sp_base.specs.Refusals.{◌>>=◌}
use Rattle.sp_lines.specs.Cells.{each_at}
use Rattle.sp_lines.proofs.number_list.each.Given as goal

-- what was read, and the words still to read
abbrev pub invariant-words : goal.invariant-words
invariant-words l =
    each_at l.most (map (λ w. w.now) l.words) ≡ (each_at l.most (map (λ w. w.now) (drop l.word-index l.words)) >>= λ more. Ok (l.numbers.items ++ more))
