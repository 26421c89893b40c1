-- What was read so far: whatever the rest of a text says, the whole text says.
use Rattle.std.proofs.Common.{◌≡◌, ◌≤◌, ◌+◌, ℕ, List, [], ◌∷◌, length, Result, Ok, Err, refl, sym, ap, subst, inl, arith, length-append}
use Rattle.std.specs.Prelude.{Option, Some, None, IfErr, IfOk, IsErrAnd}
use Rattle.sp_base.specs.Formats.{max_nodes}
use Rattle.sp_text.specs.Spelling.{Word}
use Rattle.sp_text.specs.Texts.{GivesInMemory, TakesNext, line_at, text_of, words_at}
use Rattle.sp_text.specs.Unread.{LineText, Unread}
use Rattle.sp_text.specs.declared.place.Line.{Line}
use Rattle.sp_text.specs.declared.place.TextRefused.{TextRefused}
use Rattle.sp_text.specs.declared.place.TextRefused.TheVariants as texts
use Rattle.sp_graph.specs.declared.graph.Graph.{Graph}
use Rattle.sp_graph.specs.declared.stage.Stage.{Stage}
use Rattle.sp_graph.specs.declared.stage.Stage.TheVariants as stages
use Rattle.sp_graph.specs.declared.refused.GraphRefused.{GraphRefused}
use Rattle.sp_graph.specs.declared.refused.GraphRefused.TheVariants as refusals
use Rattle.sp_graph.specs.Lines.{AreFields, Edge_line, IsField, Nodes_line, Says, edge_form, nodes_form, place_1}
use Rattle.sp_base.specs.declared.limits.TheConstants.{MAX_LINE_BYTES}
use Rattle.sp_text.proofs.NextLine.{read_lines_are_spelled}
use Rattle.sp_graph.specs.Readings.{Bad_line, Good_line, IsEnd, IsReading, No_end, No_words, Reads, Whole, before_rest, first_words, format_of}
use Rattle.sp_graph.specs.Refusals.{UnlessMemory, of_text}

-- whatever the rest says after so many good lines, the text says
abbrev pub GoesOn : List ℕ → Stage → ℕ → List ℕ → Type 0
GoesOn text stage count rest = (answer : Result Graph GraphRefused) → Reads (format_of text) stage (count + 1) rest answer → IsReading text answer

-- what holds of an answer holds of it unless memory was wanting
pub unless_memory : {X : Type 0} (Holds : Result X GraphRefused → Type 0) (answer : Result X GraphRefused) → Holds answer → UnlessMemory Holds answer
unless_memory Holds (Ok x) h = h
unless_memory Holds (Err (refusals.Text refused)) h = h
unless_memory Holds (Err (refusals.Form line)) h = h
unless_memory Holds (Err (refusals.Range line)) h = h
unless_memory Holds (Err (refusals.NoEnd line)) h = h
unless_memory Holds (Err (refusals.AfterEnd line)) h = h
unless_memory Holds (Err refusals.Memory) h = tt

-- a refusal that is handed on
pub handed_on : {X : Type 0} (Holds : Result X GraphRefused → Type 0) (answer : Result X GraphRefused) (refused : GraphRefused)
    → IsErrAnd answer (λ e. e ≡ refused)
    → Holds (Err refused) → Holds answer
handed_on Holds (Ok x) refused is h = absurd is
handed_on Holds (Err e) refused is h = subst (λ (r : GraphRefused). Holds (Err r)) (sym is) h

-- a field is refused
pub bad_nodes : (format : ℕ) → (line : ℕ) (words : List Word) (n : Word) (answer : Result Stage GraphRefused) (refused : GraphRefused)
    → IsErrAnd answer (λ e. e ≡ refused) → words ≡ nodes_form n
    → IsField (place_1 line 5) 2 (max_nodes format) n (Err refused) → Says format line words stages.Version answer
bad_nodes format line words n answer refused is form field = handed_on (Says format line words stages.Version) answer refused is (Nodes_line n form field)

pub bad_edge : (format : ℕ) → (g : Graph) (line : ℕ) (words : List Word) (a b w : Word) (answer : Result Stage GraphRefused) (refused : GraphRefused)
    → IsErrAnd answer (λ e. e ≡ refused)
    → words ≡ edge_form a b w → AreFields g.nodes line a b w (Err refused) → UnlessMemory (Says format line words (stages.Edges g)) answer
bad_edge format g line words a b w answer refused is form fields =
    unless_memory (Says format line words (stages.Edges g)) answer
    (handed_on (Says format line words (stages.Edges g)) answer refused is (Edge_line a b w form (inl fields)))

-- ---- one line more

-- a line that was taken: its number, its length, and what is left
pub record Taken (count : ℕ) (line : LineText) (text rest : List ℕ) : Type 0 where
  pub number : line.number ≡ count + 1
  pub short : length line.bytes ≤ MAX_LINE_BYTES
  pub less : length rest + 1 ≤ length text

pub taken : (count : ℕ) (old new : Unread) (line : Line) → old.given ≡ count → TakesNext old (Ok (Some line)) new → Taken count (text_of line) old.rest new.rest
taken count old new line given takes =
    let read = read_lines_are_spelled (old.given + 1) old.rest new.rest (text_of line) takes.2 in
    record {
      number = rw given at read.1;
      short = read.2;
      less = omega (arith, ap length read.0.split, length-append line.bytes.now (10 ∷ new.rest));
    }

-- the first line has these words
line_first : (number : ℕ) (text rest : List ℕ) (line : LineText) (words : Result (List Word) TextRefused) → line_at number text ≡ Ok (line, rest)
    → words_at number line.bytes ≡ words
    → first_words number text ≡ before_rest rest words
unfolding first_words
line_first number text rest line words first second = rw (first, second) refl

-- no line is there
no_line : (number : ℕ) (text : List ℕ) (refused : TextRefused) → line_at number text ≡ Err refused → first_words number text ≡ Err refused
unfolding first_words
no_line number text refused first = rw first refl

pub first_line : (count : ℕ) (old new : Unread) (line : Line) (words : Result (List Word) TextRefused) → old.given ≡ count → TakesNext old (Ok (Some line)) new
    → words_at line.number line.bytes.now ≡ words → first_words (count + 1) old.rest ≡ before_rest new.rest words
first_line count old new line words given takes are =
    let number : line.number ≡ count + 1 = (taken count old new line given takes).number in
    line_first (count + 1) old.rest new.rest (text_of line) words (rw given at takes.2) (subst (λ (n : ℕ). words_at n line.bytes.now ≡ words) number are)

-- after a good line the rest still says what the text does
pub goes_on : (text : List ℕ) (stage next : Stage) (count : ℕ) (old new : Unread) (line : Line) (words : List Word) → GoesOn text stage count old.rest
    → old.given ≡ count
    → TakesNext old (Ok (Some line)) new → words_at line.number line.bytes.now ≡ Ok words
    → UnlessMemory (Says (format_of text) (count + 1) words stage) (Ok next) → GoesOn text next (count + 1) new.rest
goes_on text stage next count old new line words so_far given takes are says =
    λ answer rest. so_far answer (Good_line words new.rest next (first_line count old new line (Ok words) given takes are) says rest)

-- ---- refusals

-- a refusal of the text is handed on
text_refused : (text : List ℕ) (answer : Result Graph GraphRefused) (refused : TextRefused) → IsReading text (Err (refusals.Text refused))
    → IsErrAnd answer (λ e. e ≡ of_text refused)
    → UnlessMemory (IsReading text) answer
text_refused text answer texts.Memory reading is = handed_on (UnlessMemory (IsReading text)) answer refusals.Memory is tt
text_refused text answer (texts.LineLong place) reading is = handed_on (UnlessMemory (IsReading text)) answer (refusals.Text (texts.LineLong place)) is reading
text_refused text answer (texts.Cut place) reading is = handed_on (UnlessMemory (IsReading text)) answer (refusals.Text (texts.Cut place)) is reading
text_refused text answer (texts.BadWord place) reading is = handed_on (UnlessMemory (IsReading text)) answer (refusals.Text (texts.BadWord place)) is reading
text_refused text answer (texts.BadNumber place) reading is =
    handed_on (UnlessMemory (IsReading text)) answer (refusals.Text (texts.BadNumber place)) is reading
text_refused text answer (texts.BadHex place) reading is = handed_on (UnlessMemory (IsReading text)) answer (refusals.Text (texts.BadHex place)) is reading

-- no line is there
pub line_refused : (text : List ℕ) (stage : Stage) (count : ℕ) (old new : Unread) (answer : Result Graph GraphRefused) (refused : TextRefused)
    → GoesOn text stage count old.rest → old.given ≡ count
    → TakesNext old (Err refused) new → IsErrAnd answer (λ e. e ≡ of_text refused) → UnlessMemory (IsReading text) answer
line_refused text stage count old new answer refused so_far given takes is =
    text_refused text answer refused
    (so_far (Err (refusals.Text refused)) (No_words refused takes.0 (no_line (count + 1) old.rest refused (rw given at takes.1)))) is

-- the line isn't words
pub words_refused : {X : Type 0} (view : X → List Word) (text : List ℕ) (stage : Stage) (count : ℕ) (old new : Unread) (line : Line)
    (answer : Result Graph GraphRefused) (refused : TextRefused)
    → GoesOn text stage count old.rest → old.given ≡ count → TakesNext old (Ok (Some line)) new
    → GivesInMemory view (Err refused) (words_at line.number line.bytes.now)
    → IsErrAnd answer (λ e. e ≡ of_text refused) → UnlessMemory (IsReading text) answer
words_refused view text stage count old new line answer refused so_far given takes gives is = go refused gives is
  where
    at_line : (r : TextRefused) → words_at line.number line.bytes.now ≡ Err r → IsReading text (Err (refusals.Text r))
    at_line r are = so_far (Err (refusals.Text r)) (No_words r takes.0 (first_line count old new line (Err r) given takes are))

    go : (r : TextRefused) → GivesInMemory view (Err r) (words_at line.number line.bytes.now) → IsErrAnd answer (λ e. e ≡ of_text r)
        → UnlessMemory (IsReading text) answer
    go texts.Memory are so = handed_on (UnlessMemory (IsReading text)) answer refusals.Memory so tt
    go (texts.LineLong place) are so = text_refused text answer (texts.LineLong place) (at_line (texts.LineLong place) are) so
    go (texts.Cut place) are so = text_refused text answer (texts.Cut place) (at_line (texts.Cut place) are) so
    go (texts.BadWord place) are so = text_refused text answer (texts.BadWord place) (at_line (texts.BadWord place) are) so
    go (texts.BadNumber place) are so = text_refused text answer (texts.BadNumber place) (at_line (texts.BadNumber place) are) so
    go (texts.BadHex place) are so = text_refused text answer (texts.BadHex place) (at_line (texts.BadHex place) are) so

-- the words say nothing that may stand there
pub stage_refused : (text : List ℕ) (stage : Stage) (count : ℕ) (old new : Unread) (line : Line) (words : List Word) (answer : Result Graph GraphRefused)
    (refused : GraphRefused)
    → GoesOn text stage count old.rest → old.given ≡ count → TakesNext old (Ok (Some line)) new → words_at line.number line.bytes.now ≡ Ok words
    → UnlessMemory (Says (format_of text) (count + 1) words stage) (Err refused) → IsErrAnd answer (λ e. e ≡ refused) → UnlessMemory (IsReading text) answer
stage_refused text stage count old new line words answer refused so_far given takes are says is = go refused says is
  where
    at_line : (r : GraphRefused) → Says (format_of text) (count + 1) words stage (Err r) → IsReading text (Err r)
    at_line r bad = so_far (Err r) (Bad_line words new.rest r (first_line count old new line (Ok words) given takes are) bad)

    hand : (r : GraphRefused) → Says (format_of text) (count + 1) words stage (Err r) → IsErrAnd answer (λ e. e ≡ r) → UnlessMemory (IsReading text) answer
    hand r bad so = unless_memory (IsReading text) answer (handed_on (IsReading text) answer r so (at_line r bad))

    go : (r : GraphRefused) → UnlessMemory (Says (format_of text) (count + 1) words stage) (Err r) → IsErrAnd answer (λ e. e ≡ r)
        → UnlessMemory (IsReading text) answer
    go refusals.Memory bad so = handed_on (UnlessMemory (IsReading text)) answer refusals.Memory so tt
    go (refusals.Text r) bad so = hand (refusals.Text r) bad so
    go (refusals.Form n) bad so = hand (refusals.Form n) bad so
    go (refusals.Range n) bad so = hand (refusals.Range n) bad so
    go (refusals.NoEnd n) bad so = hand (refusals.NoEnd n) bad so
    go (refusals.AfterEnd n) bad so = hand (refusals.AfterEnd n) bad so

-- the text is read to its end
pub ends : (text : List ℕ) (stage : Stage) (count : ℕ) (rest : List ℕ) (answer : Result Graph GraphRefused) → GoesOn text stage count rest → rest ≡ []
    → IfOk answer (λ g. stage ≡ stages.End g) → IfErr answer (λ refused. (refused ≡ refusals.NoEnd (count + 1)) × (IsEnd stage → ⊥))
    → UnlessMemory (IsReading text) answer
ends text stage count rest answer so_far none ok err = unless_memory (IsReading text) answer (so_far answer (rw none (at_end answer ok err)))
  where
    at_end : (a : Result Graph GraphRefused) → IfOk a (λ g. stage ≡ stages.End g)
        → IfErr a (λ refused. (refused ≡ refusals.NoEnd (count + 1)) × (IsEnd stage → ⊥)) → Reads (format_of text) stage (count + 1) [] a
    at_end (Ok g) good bad = rw good Whole
    at_end (Err refused) good bad = rw bad.0 (No_end bad.1)

-- no line was left
pub none_left : (old new : Unread) (line : Option Line) → TakesNext old (Ok line) new → ((x : Line) → line ≡ Some x → ⊥) → old.rest ≡ []
none_left old new None takes none = takes.0
none_left old new (Some x) takes none = absurd (none x refl)
