-- Want of memory, which may come at any time, and all other refusals, which have their cause in the text.
use Rattle.std.specs.Prelude.{Result, Err}
use Rattle.sp_text.specs.declared.place.TextRefused.{TextRefused}
use Rattle.sp_text.specs.declared.place.TextRefused.TheVariants as texts
use Rattle.sp_graph.specs.declared.refused.GraphRefused.{GraphRefused}
use Rattle.sp_graph.specs.declared.refused.GraphRefused.TheVariants as refusals

abbrev pub of_text : TextRefused → GraphRefused
of_text texts.Memory = refusals.Memory
of_text refused = refusals.Text refused

-- it holds of the answer, unless memory was wanting
abbrev pub UnlessMemory : {X : Type 0} → (Result X GraphRefused → Type 0) → Result X GraphRefused → Type 0
UnlessMemory Holds (Err refusals.Memory) = Unit {0}
UnlessMemory Holds answer = Holds answer
