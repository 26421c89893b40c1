use Rattle.std.proofs.Common.{◌≡◌, ◌++◌, ◌∷◌, take}
use Rattle.std.specs.Fmt.{decimal}
use Rattle.std.specs.List.{flat_map}
use Rattle.std.specs.String.{string_bytes}
use Rattle.sp_lines.proofs.number_list.push_more.Given as goal

abbrev pub invariant-numbers : goal.invariant-numbers
invariant-numbers l = string_bytes l.out ≡ string_bytes l.fn.out ++ flat_map (λ n. 44 ∷ decimal n) (take l.number-index l.numbers)
