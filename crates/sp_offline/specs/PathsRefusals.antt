-- How the refusal of a graph's text, of an end and of a text that is too big is told.
--
--     refused LINE KIND       LineLong, Cut, Word, Number, Event, Range, NoEnd, AfterEnd
--     refused 0 Range         an end is no node of the graph
--     refused 0 TooBig        more bytes than may be read
use Rattle.std.specs.Prelude.{ℕ, List, ◌++◌, codes}
use Rattle.std.specs.Fmt.{decimal}
use Rattle.sp_text.specs.declared.place.TextRefused.{TextRefused}
use Rattle.sp_text.specs.declared.place.TextRefused.TheVariants as texts
use Rattle.sp_graph.specs.declared.refused.GraphRefused.{GraphRefused}
use Rattle.sp_graph.specs.declared.refused.GraphRefused.TheVariants as refusals

abbrev pub text_line : TextRefused → ℕ
text_line (texts.LineLong place) = place.line
text_line (texts.Cut place) = place.line
text_line (texts.BadWord place) = place.line
text_line (texts.BadNumber place) = place.line
text_line (texts.BadHex place) = place.line
text_line texts.Memory = 0

-- the word of what is wrong with a text
abbrev pub text_word : TextRefused → List ℕ
text_word (texts.LineLong place) = codes "LineLong"
text_word (texts.Cut place) = codes "Cut"
text_word (texts.BadWord place) = codes "Word"
text_word (texts.BadNumber place) = codes "Number"
text_word (texts.BadHex place) = codes "Hex"
text_word texts.Memory = codes "Memory"

-- the bad line. Want of memory is told of none
abbrev pub line_of : GraphRefused → ℕ
line_of (refusals.Text refused) = text_line refused
line_of (refusals.Form line) = line
line_of (refusals.Range line) = line
line_of (refusals.NoEnd line) = line
line_of (refusals.AfterEnd line) = line
line_of refusals.Memory = 0

-- the word of what is wrong with a graph
abbrev pub kind_word : GraphRefused → List ℕ
kind_word (refusals.Text refused) = text_word refused
kind_word (refusals.Form line) = codes "Event"
kind_word (refusals.Range line) = codes "Range"
kind_word (refusals.NoEnd line) = codes "NoEnd"
kind_word (refusals.AfterEnd line) = codes "AfterEnd"
kind_word refusals.Memory = codes "Memory"

-- the line of a refusal
unfoldable pub refused_line : ℕ → List ℕ → List ℕ
refused_line line kind = codes "refused " ++ (decimal line ++ (codes " " ++ (kind ++ codes "\n")))
