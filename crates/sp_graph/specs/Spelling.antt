-- A graph as text: lines of words, one space between two words, and a newline after each line.
--
--     graph 1, or graph 2: the format
--     nodes N             the nodes are 1 to N
--     edge A B W          one line for each edge, with its weight
--     end
use Rattle.std.specs.Prelude.{ℕ, List, [], ◌∷◌, ◌++◌, map, codes}
use Rattle.std.specs.List.{flat_map, join_with_byte}
use Rattle.std.specs.Fmt.{decimal}
use Rattle.sp_base.specs.Formats.{by_format}
use Rattle.sp_text.specs.Spelling.{Word}
use Rattle.sp_topology.specs.declared.topology.Edge.{Edge}
use Rattle.sp_graph.specs.declared.graph.Graph.{Graph}

abbrev pub version_words : (format : ℕ) → List Word
version_words format = codes "graph" ∷ by_format format (codes "1") (codes "2") ∷ []

-- the line that tells how many nodes there are
abbrev pub nodes_words : ℕ → List Word
nodes_words nodes = codes "nodes" ∷ decimal nodes ∷ []

-- the line of an edge
abbrev pub edge_words : Edge → List Word
edge_words e = codes "edge" ∷ decimal e.low.0 ∷ decimal e.high.0 ∷ decimal e.weight ∷ []

-- the line that ends a graph
abbrev pub end_words : List Word
end_words = codes "end" ∷ []

-- the words one space apart, and a newline
abbrev pub line_text : List Word → List ℕ
line_text words = join_with_byte 32 words ++ 10 ∷ []

-- the lines of a graph
abbrev pub graph_lines : (format : ℕ) → Graph → List (List Word)
graph_lines format g = version_words format ∷ nodes_words g.nodes ∷ (map edge_words g.edges ++ end_words ∷ [])

-- the text of a graph
unfoldable pub graph_text : (format : ℕ) → Graph → List ℕ
graph_text format g = flat_map line_text (graph_lines format g)
