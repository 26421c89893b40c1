-- How a refusal is told: a word for its kind, in a line.
use Rattle.std.specs.Prelude.{ℕ, List, ◌++◌, codes}
use Rattle.std.specs.Fmt.{decimal}
use Rattle.sp_lines.specs.declared.fault.Fault.{Fault}
use Rattle.sp_lines.specs.declared.fault.Fault.TheVariants as faults
use Rattle.sp_text.specs.declared.place.TextRefused.{TextRefused}
use Rattle.sp_text.specs.declared.place.TextRefused.TheVariants as texts
use Rattle.sp_schedule.specs.declared.refused.Kind.{Kind}
use Rattle.sp_schedule.specs.declared.refused.Kind.TheVariants as kinds

-- the word of a kind
abbrev pub kind_word : Kind → List ℕ
kind_word kinds.LineLong = codes "LineLong"
kind_word kinds.Cut = codes "Cut"
kind_word kinds.Word = codes "Word"
kind_word kinds.Header = codes "Header"
kind_word kinds.TooMany = codes "TooMany"
kind_word kinds.Event = codes "Event"
kind_word kinds.Number = codes "Number"
kind_word kinds.Hex = codes "Hex"
kind_word kinds.Range = codes "Range"
kind_word kinds.NoEnd = codes "NoEnd"
kind_word kinds.AfterEnd = codes "AfterEnd"
kind_word kinds.TooBig = codes "TooBig"

-- the kind of a fault in an event's line
abbrev pub kind_of : Fault → Kind
kind_of faults.Form = kinds.Event
kind_of faults.Number = kinds.Number
kind_of faults.Hex = kinds.Hex
kind_of faults.Range = kinds.Range

-- the kind of a line that isn't words: too long, without a newline, or not words one space apart
abbrev pub text_kind : TextRefused → Kind
text_kind (texts.LineLong place) = kinds.LineLong
text_kind (texts.Cut place) = kinds.Cut
text_kind _ = kinds.Word

-- refused LINE KIND
unfoldable pub refused_line : ℕ → Kind → List ℕ
refused_line line kind = codes "refused " ++ (decimal line ++ (codes " " ++ (kind_word kind ++ codes "\n")))
