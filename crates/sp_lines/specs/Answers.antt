-- What calls that read words answer.
use Rattle.std.specs.Prelude.{◌≡◌, Option, Some, None, Result, Ok, Err, IsErr}
use Rattle.sp_base.specs.declared.memory.Memory.{Memory}
use Rattle.sp_lines.specs.declared.fault.Fault.{Fault}
use Rattle.sp_lines.specs.declared.fault.LineRefused.{LineRefused}
use Rattle.sp_lines.specs.declared.fault.LineRefused.TheVariants as refusals

-- what a call answered is what reading gives, unless memory was wanting
abbrev pub Reads : {X : Type 0} → Result X LineRefused → Result X Fault → Type 0
Reads (Ok x) read = read ≡ Ok x
Reads (Err (refusals.Bad fault)) read = read ≡ Err fault
Reads (Err refusals.Memory) read = Unit {0}

-- what a search answered, seen by view, is what reading gives, whatever the fault is where it gives none
abbrev pub Says : {X Y : Type 0} → (X → Y) → Option X → Result Y Fault → Type 0
Says view (Some x) read = read ≡ Ok (view x)
Says view None read = IsErr read

-- what a search answered, unless memory was wanting
abbrev pub Found : {X : Type 0} → Result (Option X) Memory → Option X → Type 0
Found (Ok found) right = found ≡ right
Found (Err e) right = Unit {0}
