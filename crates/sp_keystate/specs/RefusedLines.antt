-- The line that tells an operator why a call on a key file was refused.
--
--     keeper                   it couldn't be read, written or synced
--     keystate unformatted     no slot of it is open
--     keystate formatted       a slot of it is open already
--     keystate exhausted       the bound, the boot or the serial is at its end
use Rattle.std.specs.Prelude.{List, ℕ, codes}
use Rattle.sp_keystate.specs.declared.refused.KeyRefused.{KeyRefused}
use Rattle.sp_keystate.specs.declared.refused.KeyRefused.TheVariants.{KeeperFault, Unformatted, Formatted, Exhausted}

abbrev pub refused_line : KeyRefused → List ℕ
refused_line KeeperFault = codes "keeper\n"
refused_line Unformatted = codes "keystate unformatted\n"
refused_line Formatted = codes "keystate formatted\n"
refused_line (Exhausted number) = codes "keystate exhausted\n"
