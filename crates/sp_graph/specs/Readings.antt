-- What a whole text says: a graph, or its first bad line and why it is refused.
use Rattle.std.specs.Prelude.{ℕ, ◌≡◌, ◌≢◌, ◌+◌, ◌++◌, ◌∷◌, ◌↔◌, codes, nat_eq, List, [], Result, Ok, Err, if◌then◌else◌}
use Rattle.std.specs.List.{starts_with}
use Rattle.sp_base.specs.declared.format.TheConstants.{FORMAT_1, FORMAT_2}
use Rattle.sp_base.specs.Refusals.{◌>>=◌}
use Rattle.sp_text.specs.Spelling.{Word}
use Rattle.sp_text.specs.Texts.{line_at, words_at}
use Rattle.sp_text.specs.declared.place.TextRefused.{TextRefused}
use Rattle.sp_graph.specs.declared.graph.Graph.{Graph}
use Rattle.sp_graph.specs.declared.stage.Stage.{Stage}
use Rattle.sp_graph.specs.declared.stage.Stage.TheVariants as stages
use Rattle.sp_graph.specs.declared.refused.GraphRefused.{GraphRefused}
use Rattle.sp_graph.specs.declared.refused.GraphRefused.TheVariants as refusals
use Rattle.sp_graph.specs.Edges.{IsGraphIn}
use Rattle.sp_graph.specs.Lines.{Says}
use Rattle.sp_graph.specs.Spelling.{graph_text}

abbrev pub before_rest : List ℕ → Result (List Word) TextRefused → Result (List Word × List ℕ) TextRefused
before_rest rest (Ok words) = Ok (words, rest)
before_rest rest (Err refused) = Err refused

-- the words of the first line of a text, which has this number, and what comes after its newline
unfoldable pub first_words : ℕ → List ℕ → Result (List Word × List ℕ) TextRefused
first_words number text = line_at number text >>= λ line. before_rest line.1 (words_at number line.0.bytes)

-- the line `end` was read
pub record IsEnd (stage : Stage) : Type 0 where
  pub graph : Graph
  pub is : stage ≡ stages.End graph

-- in a format, the rest of a text, whose first line has this number and stands at this stage, says a graph, or is refused at a line
pub data Reads (format : ℕ) : Stage → ℕ → List ℕ → Result Graph GraphRefused → Type 0 where
  Whole : {g : Graph} {number : ℕ} → Reads format (stages.End g) number [] (Ok g)
  No_end : {stage : Stage} {number : ℕ} → (IsEnd stage → ⊥) → Reads format stage number [] (Err (refusals.NoEnd number))
  No_words : {stage : Stage} {number : ℕ} {text : List ℕ} (refused : TextRefused) → text ≢ [] → first_words number text ≡ Err refused
      → Reads format stage number text (Err (refusals.Text refused))
  Bad_line : {stage : Stage} {number : ℕ} {text : List ℕ} (words : List Word) (rest : List ℕ) (refused : GraphRefused)
      → first_words number text ≡ Ok (words, rest) → Says format number words stage (Err refused) → Reads format stage number text (Err refused)
  Good_line : {stage : Stage} {number : ℕ} {text : List ℕ} {answer : Result Graph GraphRefused} (words : List Word) (rest : List ℕ) (next : Stage)
      → first_words number text ≡ Ok (words, rest) → Says format number words stage (Ok next) → Reads format next (number + 1) rest answer
      → Reads format stage number text answer

-- the format of a text is 2 exactly where it begins with the line `graph 2`, and else 1
abbrev pub format_of : List ℕ → ℕ
format_of text = if starts_with nat_eq text (codes "graph 2" ++ 10 ∷ []) then FORMAT_2 else FORMAT_1

-- a whole text says this
abbrev pub IsReading : List ℕ → Result Graph GraphRefused → Type 0
IsReading text answer = Reads (format_of text) stages.Start 1 text answer

-- ---- laws

-- a text says a graph exactly where it is the graph's text
abbrev pub TextsAreRead : Type 0
TextsAreRead = (text : List ℕ) (g : Graph) → IsReading text (Ok g) ↔ (IsGraphIn (format_of text) g × (text ≡ graph_text (format_of text) g))

-- the text of a graph in a format says that format
abbrev pub FormatsAreSaid : Type 0
FormatsAreSaid = (g : Graph) → (format_of (graph_text FORMAT_1 g) ≡ FORMAT_1) × (format_of (graph_text FORMAT_2 g) ≡ FORMAT_2)

-- and says one thing
abbrev pub OneReading : Type 0
OneReading = (text : List ℕ) (a b : Result Graph GraphRefused) → IsReading text a → IsReading text b → a ≡ b
