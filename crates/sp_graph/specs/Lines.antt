-- What one line of a graph's text says at its stage, and why a bad one is refused.
--
--     stage       good lines       the next stage
--     Start       graph FORMAT     Version
--     Version     nodes N          Edges, with no edge yet
--     Edges       edge A B W       Edges, with one edge more
--                 end              End
--     End         none
--
-- On one line the refusals are tried in this order: a line after the end; no such form; each field from left to right, whether it is a number
-- and then whether it is in its range; an edge that may not come next.
use Rattle.std.specs.Prelude.{ℕ, ◌≡◌, ◌≢◌, ◌+◌, ◌-◌, ◌^◌, ◌<◌, ◌≤◌, ◌⊎◌, min, List, [], ◌∷◌, length, codes, Result, Ok, Err}
use Rattle.std.specs.Fmt.{decimal}
use Rattle.sp_base.specs.declared.limits.TheConstants.{MAX_WEIGHT}
use Rattle.sp_base.specs.Formats.{max_nodes}
use Rattle.sp_text.specs.Spelling.{Word}
use Rattle.sp_text.specs.declared.place.At.{At}
use Rattle.sp_text.specs.declared.place.TextRefused.TheVariants as texts
use Rattle.sp_topology.specs.declared.topology.Edge.{Edge}
use Rattle.sp_graph.specs.declared.graph.Graph.{Graph}
use Rattle.sp_graph.specs.declared.stage.Stage.{Stage}
use Rattle.sp_graph.specs.declared.stage.Stage.TheVariants as stages
use Rattle.sp_graph.specs.declared.refused.GraphRefused.{GraphRefused}
use Rattle.sp_graph.specs.declared.refused.GraphRefused.TheVariants as refusals
use Rattle.sp_graph.specs.Edges.{IsNextEdge, with_edge}
use Rattle.sp_graph.specs.Spelling.{end_words, version_words}

-- ---- forms

abbrev pub nodes_form : Word → List Word
nodes_form n = codes "nodes" ∷ n ∷ []

-- the words of an edge's line
abbrev pub edge_form : Word → Word → Word → List Word
edge_form a b w = codes "edge" ∷ a ∷ b ∷ w ∷ []

-- a line with these words may stand here, whatever its fields say
abbrev pub HasForm : (format : ℕ) → Stage → List Word → Type 0
HasForm format stages.Start words = words ≡ version_words format
HasForm format stages.Version words = (n : Word) × (words ≡ nodes_form n)
HasForm format (stages.Edges g) words = ((a b w : Word) × (words ≡ edge_form a b w)) ⊎ (words ≡ end_words)
HasForm format (stages.End g) words = Unit {0}

-- ---- fields

-- the column of the word after this one. It stands still at the end of its type
abbrev pub column_after : ℕ → Word → ℕ
column_after column word = min (column + length word + 1) (2 ^ 32 - 1)

-- the field at this place says a number between these two, or is refused
pub data IsField (place : At) (low high : ℕ) (word : Word) : Result ℕ GraphRefused → Type 0 where
  In_range : (n : ℕ) → word ≡ decimal n → n < 2 ^ 64 → low ≤ n → n ≤ high → IsField place low high word (Ok n)
  No_number : ((n : ℕ) → n < 2 ^ 64 → word ≢ decimal n) → IsField place low high word (Err (refusals.Text (texts.BadNumber place)))
  Out_of_range : (n : ℕ) → word ≡ decimal n → n < 2 ^ 64 → (n < low) ⊎ (high < n) → IsField place low high word (Err (refusals.Range place.line))

-- the place of the first field, after a name of so many bytes, and those of the fields after these words
abbrev pub place_1 : ℕ → ℕ → At
place_1 line name = record { line = line; column = name + 2 }

-- where the word after the first value of a line stands
abbrev pub place_2 : ℕ → ℕ → Word → At
place_2 line name a = record { line = line; column = column_after (name + 2) a }

-- where the word after the second value of a line stands
abbrev pub place_3 : ℕ → ℕ → Word → Word → At
place_3 line name a b = record { line = line; column = column_after (column_after (name + 2) a) b }

-- the fields of an edge between so many nodes, or the first one that is refused
abbrev pub AreFields : ℕ → ℕ → Word → Word → Word → Result Edge GraphRefused → Type 0
AreFields nodes line a b w (Ok e) =
    IsField (place_1 line 4) 1 nodes a (Ok e.low.0) × IsField (place_2 line 4 a) 1 nodes b (Ok e.high.0)
    × IsField (place_3 line 4 a b) 1 MAX_WEIGHT w (Ok e.weight)
AreFields nodes line a b w (Err refused) =
    IsField (place_1 line 4) 1 nodes a (Err refused)
    ⊎ ((low : ℕ) × IsField (place_1 line 4) 1 nodes a (Ok low) × IsField (place_2 line 4 a) 1 nodes b (Err refused))
    ⊎ ((low high : ℕ) × IsField (place_1 line 4) 1 nodes a (Ok low) × IsField (place_2 line 4 a) 1 nodes b (Ok high)
    × IsField (place_3 line 4 a b) 1 MAX_WEIGHT w (Err refused))

-- ---- lines

-- what a line of this number of nodes says
abbrev pub SaysNodes : (format : ℕ) → ℕ → Word → Result Stage GraphRefused → Type 0
SaysNodes format line word (Ok next) =
    (n : ℕ) × IsField (place_1 line 5) 2 (max_nodes format) word (Ok n) × (next ≡ stages.Edges (record { nodes = n; edges = [] }))
SaysNodes format line word (Err refused) = IsField (place_1 line 5) 2 (max_nodes format) word (Err refused)

-- what a line of an edge with these fields says, after those of the graph
abbrev pub SaysEdge : (format : ℕ) → Graph → ℕ → Word → Word → Word → Result Stage GraphRefused → Type 0
SaysEdge format g line a b w (Ok next) = (e : Edge) × AreFields g.nodes line a b w (Ok e) × IsNextEdge format g e × (next ≡ stages.Edges (with_edge g e))
SaysEdge format g line a b w (Err refused) =
    AreFields g.nodes line a b w (Err refused)
    ⊎ ((e : Edge) × AreFields g.nodes line a b w (Ok e) × (IsNextEdge format g e → ⊥) × (refused ≡ refusals.Range line))

-- what the words of the line of this number say at a stage: where they lead, or why they are refused
pub data Says (format line : ℕ) (words : List Word) : Stage → Result Stage GraphRefused → Type 0 where
  Version_line : words ≡ version_words format → Says format line words stages.Start (Ok stages.Version)
  Nodes_line : {said : Result Stage GraphRefused} (n : Word) → words ≡ nodes_form n → SaysNodes format line n said
      → Says format line words stages.Version said
  Edge_line : {g : Graph} {said : Result Stage GraphRefused} (a b w : Word) → words ≡ edge_form a b w → SaysEdge format g line a b w said
      → Says format line words (stages.Edges g) said
  End_line : {g : Graph} → words ≡ end_words → Says format line words (stages.Edges g) (Ok (stages.End g))
  After_end : {g : Graph} → Says format line words (stages.End g) (Err (refusals.AfterEnd line))
  No_form : {stage : Stage} → (HasForm format stage words → ⊥) → Says format line words stage (Err (refusals.Form line))
