-- What is written for a query and the text of a graph.
use Rattle.std.specs.Prelude.{ℕ, ◌≡◌, ◌≢◌, ◌⊎◌, Bool, true, false, List, codes, Err}
use Rattle.sp_graph.specs.declared.graph.Graph.{Graph}
use Rattle.sp_graph.specs.declared.part.Part.{Part}
use Rattle.sp_graph.specs.declared.refused.GraphRefused.{GraphRefused}
use Rattle.sp_graph.specs.declared.refused.GraphRefused.TheVariants as refusals
use Rattle.sp_graph.specs.Edges.{IsGraphIn}
use Rattle.sp_graph.specs.Readings.{IsReading, format_of}
use Rattle.sp_graph.specs.Spelling.{graph_text}
use Rattle.sp_paths.specs.declared.paths.Paths.{Paths}
use Rattle.sp_paths.specs.Cheapest.{AreCheapest, IsNode}
use Rattle.sp_paths.specs.Fewer.{AreFewer}
use Rattle.sp_offline.specs.declared.paths_query.Query.{Query}
use Rattle.sp_offline.specs.declared.paths_answer.PathsAnswer.{PathsAnswer}
use Rattle.sp_offline.specs.declared.paths_answer.PathsAnswer.TheVariants as answers
use Rattle.sp_offline.specs.PathsRefusals.{kind_word, line_of, refused_line}
use Rattle.sp_offline.specs.PathsLines.{fewer_text, paths_text}

-- the text is that of the graph in its format
abbrev pub SaysGraph : List ℕ → Graph → Type 0
SaysGraph text g = IsGraphIn (format_of text) g × (text ≡ graph_text (format_of text) g)

-- the cheapest paths of the graph
pub record IsFound (q : Query) (text out : List ℕ) : Type 0 where
  pub graph : Graph
  pub says : SaysGraph text graph
  pub paths : Paths
  pub cheapest : AreCheapest graph q.from q.to q.paths paths
  pub written : out ≡ paths_text paths

-- fewer paths than were asked for, and the smallest cut that proves it
pub record IsFewer (q : Query) (text out : List ℕ) : Type 0 where
  pub graph : Graph
  pub says : SaysGraph text graph
  pub ends : IsNode graph q.from × IsNode graph q.to
  pub found : ℕ
  pub cut : List Part
  pub few : AreFewer graph q.from q.to q.paths found cut
  pub written : out ≡ fewer_text q.from q.to found cut

-- the first bad line of a text
pub record IsBadText (text out : List ℕ) : Type 0 where
  pub refused : GraphRefused
  pub no_want : refused ≢ refusals.Memory
  pub says : IsReading text (Err refused)
  -- it is the text of no graph
  pub bad : (g : Graph) → IsGraphIn (format_of text) g → text ≢ graph_text (format_of text) g
  pub written : out ≡ refused_line (line_of refused) (kind_word refused)

-- an end that is no node of the graph
pub record IsBadEnd (q : Query) (text out : List ℕ) : Type 0 where
  pub graph : Graph
  pub says : SaysGraph text graph
  pub unknown : ¬ (IsNode graph q.from × IsNode graph q.to)
  pub written : out ≡ refused_line 0 (codes "Range")

-- what is written for a text, of which there is more where it is cut
abbrev pub IsAnswer : Query → List ℕ → Bool → PathsAnswer → Type 0
IsAnswer q text false (answers.Found out) = IsFound q text out
IsAnswer q text true (answers.Found out) = ⊥
IsAnswer q text false (answers.Fewer out) = IsFewer q text out
IsAnswer q text true (answers.Fewer out) = ⊥
IsAnswer q text false (answers.Refused out) = IsBadText text out ⊎ IsBadEnd q text out
IsAnswer q text true (answers.Refused out) = out ≡ refused_line 0 (codes "TooBig")
