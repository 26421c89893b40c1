use Rattle.std.proofs.Common.{◌≡◌, ◌++◌, take}
use Rattle.std.specs.String.{string_bytes}
use Rattle.sp_journal.specs.JournalText.{effect_lines}
use Rattle.sp_journal.proofs.effect_text.push_effect_lines.Given as goal

abbrev pub invariant-effects : goal.invariant-effects
invariant-effects l = string_bytes l.out ≡ string_bytes l.fn.out ++ effect_lines (take l.effect-index l.effects)
