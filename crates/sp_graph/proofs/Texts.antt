-- A text says a graph exactly where it is the graph's text.
use Rattle.std.proofs.Common.{◌≡◌, ◌≢◌, ℕ, ◌+◌, ◌-◌, ◌<◌, ◌≤◌, ◌^◌, nat_le, ◌&&◌, ◌==◌, Bool, true, false, if◌then◌else◌, List, [], ◌∷◌, ◌++◌, length, map}
use Rattle.std.proofs.Common.{Result, Ok, Err, refl, sym, ap, subst, ◌∙◌, arith, append_assoc, length-append}
use Rattle.std.specs.Prelude.{All, IfErr, IfOk, IfSome, Option, codes, slice_get, slice_index_or}
use Rattle.std.specs.List.{flat_map, join_with_byte, list_all}
use Rattle.std.specs.Fmt.{decimal}
use Rattle.std.specs.Str.Parse.{AllDigits}
use Rattle.std.proofs.lemmas.Fmt.{decimal_is_IsNumeral, decimal_nonempty, length-decimal-le}
use Rattle.std.proofs.lemmas.Str.Parse.{digit_from_value}
use Rattle.std.proofs.lemmas.Grind.{flat_map-append}
use Rattle.std.proofs.lemmas.List.{append-nil, get_or_append_left, get_or_at, map-append}
use Rattle.std.proofs.lemmas.Option.{slice_get-get_or}
use Rattle.std.proofs.lemmas.List.Sums.{AllPass-from_list_all}
use Rattle.std.proofs.lemmas.Bool.Decides.{nat_tests}
use Rattle.std.proofs.lemmas.List.Elements.{All-cons, All-nil, All-weaker}
use Rattle.sp_base.specs.declared.limits.TheConstants.{MAX_LINE_BYTES, MAX_WEIGHT}
use Rattle.sp_base.specs.Refusals.{◌>>=◌}
use Rattle.sp_text.specs.Lines.{IsInOneLine}
use Rattle.sp_text.specs.Spelling.{Word}
use Rattle.sp_text.specs.Texts.{IsWord, line_at, words_at}
use Rattle.sp_text.specs.Unread.{LineText}
use Rattle.sp_text.specs.declared.place.At.{At}
use Rattle.sp_text.specs.declared.place.TextRefused.{TextRefused}
use Rattle.sp_text.proofs.GoodWords.{read_words_are_spelled, spelled_words_are_read}
use Rattle.sp_text.proofs.NextLine.{read_lines_are_spelled, spelled_lines_are_read}
use Rattle.sp_text.proofs.Separators.{IsInOneLine-join}
use Rattle.sp_topology.specs.declared.topology.Edge.{Edge}
use Rattle.sp_graph.specs.declared.graph.Graph.{Graph}
use Rattle.sp_graph.specs.declared.stage.Stage.{Stage}
use Rattle.sp_graph.specs.declared.stage.Stage.TheVariants as stages
use Rattle.sp_graph.specs.declared.refused.GraphRefused.{GraphRefused}
use Rattle.sp_graph.specs.declared.refused.GraphRefused.TheVariants as refusals
use Rattle.sp_base.specs.Formats.{max_nodes}
use Rattle.sp_base.specs.declared.format.TheConstants.{FORMAT_1}
use Rattle.sp_base.proofs.FormatLemmas.{few_nodes}
use Rattle.sp_graph.specs.Refusals.{UnlessMemory}
use Rattle.sp_graph.proofs.OneReading.{one_reading}
use Rattle.sp_graph.specs.Edges.{IsEdge, IsGraphIn, IsLower, IsNextEdge, last_edge}
use Rattle.sp_graph.specs.Lines.{AreFields, Edge_line, End_line, In_range, IsField, Nodes_line, Says, Version_line}
use Rattle.sp_graph.specs.Readings.{Bad_line, FormatsAreSaid, Good_line, IsReading, No_end, No_words, Reads, TextsAreRead, Whole, before_rest, first_words}
use Rattle.sp_graph.specs.Readings.{format_of}
use Rattle.sp_graph.specs.Spelling.{edge_words, end_words, graph_lines, graph_text, line_text, nodes_words, version_words}
use Rattle.sp_graph.proofs.GraphLemmas.{graph_begins, graph_grows}

-- ---- what was read is spelled by just these lines

abbrev IsGood : (format : ℕ) → Stage → Type 0
IsGood format stages.Start = Unit {0}
IsGood format stages.Version = Unit {0}
IsGood format (stages.Edges g) = IsGraphIn format g
IsGood format (stages.End g) = IsGraphIn format g

-- the lines up to a stage
abbrev lines_to : (format : ℕ) → Stage → List (List Word)
lines_to format stages.Start = []
lines_to format stages.Version = version_words format ∷ []
lines_to format (stages.Edges g) = version_words format ∷ nodes_words g.nodes ∷ map edge_words g.edges
lines_to format (stages.End g) = graph_lines format g

record Goes (format : ℕ) (stage next : Stage) (words : List Word) : Type 0 where
  good : IsGood format stage → IsGood format next
  lines : lines_to format next ≡ lines_to format stage ++ words ∷ []

said_number : {place : At} {low high : ℕ} {word : Word} {n : ℕ} → IsField place low high word (Ok n) → (word ≡ decimal n) × (low ≤ n) × (n ≤ high)
said_number (In_range n is small above below) = (is, above, below)

goes : {format line : ℕ} {words : List Word} {stage next : Stage} → Says format line words stage (Ok next) → Goes format stage next words
goes {format} (Version_line is) = record { good = λ _. tt; lines = rw is refl }
goes {format} (Nodes_line word is says) =
    let n = said_number says.1 in
    record { good = λ _. rw says.2 (graph_begins format says.0 (n.1, n.2)); lines = rw (says.2, is, n.0) refl }
goes {format} (Edge_line {g = g} a b w is says) =
    let low = said_number says.1.0 in
    let high = said_number says.1.1 in
    let weight = said_number says.1.2 in
    record { good = λ good. rw says.3 (graph_grows format g says.0 good says.2); lines = rw (says.3, is, low.0, high.0, weight.0, map-append) refl }
goes {format} (End_line is) = record { good = λ good. good; lines = rw is refl }

-- the first line is spelled by its words
spelled_first : (number : ℕ) (text rest : List ℕ) (words : List Word) → first_words number text ≡ Ok (words, rest) → text ≡ line_text words ++ rest
unfolding first_words
spelled_first number text rest words first = go (line_at number text) refl (λ i. first i)
  where
    at_words : (line : LineText) (left : List ℕ) (read : Result (List Word) TextRefused) → line_at number text ≡ Ok (line, left)
        → words_at number line.bytes ≡ read
        → before_rest left read ≡ Ok (words, rest) → text ≡ line_text words ++ rest
    at_words line left (Ok ws) split read is =
        let pairs : (ws, left) ≡ (words, rest) = cc in
        let same_words : ws ≡ words = ap (λ (p : List Word × List ℕ). p.0) pairs in
        let same_rest : left ≡ rest = ap (λ (p : List Word × List ℕ). p.1) pairs in
        let begins = read_lines_are_spelled number text left line split in
        let spelled = read_words_are_spelled number line.bytes ws read in
        begins.0.split ∙ rw (spelled.0, same_words, same_rest) (simp append_assoc)
    at_words line left (Err refused) split read is = absurd cc

    go : (read : Result (LineText × List ℕ) TextRefused) → line_at number text ≡ read
        → (read >>= λ line. before_rest line.1 (words_at number line.0.bytes)) ≡ Ok (words, rest)
        → text ≡ line_text words ++ rest
    go (Ok line) is all = at_words line.0 line.1 (words_at number line.0.bytes) is refl all
    go (Err refused) is all = absurd cc

-- what a graph's text says is the graph
says_graph : {format : ℕ} {stage : Stage} {number : ℕ} {text : List ℕ} {answer : Result Graph GraphRefused} (g : Graph)
    → Reads format stage number text answer → answer ≡ Ok g → IsGood format stage
    → IsGraphIn format g × (flat_map line_text (lines_to format stage) ++ text ≡ graph_text format g)
unfolding graph_text
says_graph {format} g (Whole {g = h}) is good = let same : h ≡ g = cc in
    (subst (IsGraphIn format) same good, append-nil (flat_map line_text (graph_lines format h)) ∙ ap (graph_text format) same)
says_graph g (No_end open_end) is good = absurd cc
says_graph g (No_words r some first) is good = absurd cc
says_graph g (Bad_line words rest r first says) is good = absurd cc
says_graph {format} {stage} {number} {text} g (Good_line words rest next first says reads) is good =
    let on = goes says in
    let rest_says = says_graph g reads is (on.good good) in
    let front : flat_map line_text (lines_to format stage) ++ text ≡ flat_map line_text (lines_to format next) ++ rest =
    rw (spelled_first number text rest words first, on.lines, flat_map-append) (simp (append_assoc, append-nil)) in
    (rest_says.0, front ∙ rest_says.1)

-- ---- the lines of a graph are read

clean_number : (n : ℕ) → n < 2 ^ 64 → IsWord (decimal n)
clean_number n small = record { full = decimal_nonempty n small; bytes = digits (decimal n) (decimal_is_IsNumeral n small).0.1 }
  where
    digits : (ds : List ℕ) → AllDigits 10 ds → All (λ b. (33 ≤ b) × (b ≤ 126)) ds
    digits [] all = All-nil (λ b. (33 ≤ b) × (b ≤ 126))
    digits (b ∷ ds) all =
        let range = digit_from_value b all.0 in
        All-cons (λ b. (33 ≤ b) × (b ≤ 126)) b ds (omega (arith, range.0), omega (arith, range.1)) (digits ds all.1)

-- a line of such words is read as them
record IsGoodLine (words : List Word) : Type 0 where
  some : 0 < length words
  each : All IsWord words
  short : length (join_with_byte 32 words) ≤ MAX_LINE_BYTES

in_line : (word : Word) → IsWord word → IsInOneLine word
in_line word is = All-weaker (λ b. (33 ≤ b) × (b ≤ 126)) (λ b. b ≢ 10) (λ b byte same. omega (arith, byte.0, same)) word is.bytes

read_first : (number : ℕ) (words : List Word) (rest : List ℕ) → IsGoodLine words → first_words number (line_text words ++ rest) ≡ Ok (words, rest)
unfolding first_words
read_first number words rest good =
    let line = join_with_byte 32 words in
    let one = IsInOneLine-join words (All-weaker IsWord IsInOneLine in_line words good.each) in
    let split : line_text words ++ rest ≡ line ++ 10 ∷ rest = simp append_assoc in
    rw (split, spelled_lines_are_read number line rest one good.short, spelled_words_are_read number words good.some good.each) refl

good_line : {format : ℕ} {stage next : Stage} {answer : Result Graph GraphRefused} (words : List Word) (rest : List ℕ) → IsGoodLine words
    → ((number : ℕ) → Says format number words stage (Ok next))
    → ((number : ℕ) → Reads format next number rest answer) → (number : ℕ) → Reads format stage number (line_text words ++ rest) answer
good_line {next = next} words rest good says reads number = Good_line words rest next (read_first number words rest good) (says number) (reads (number + 1))

named : (word : Word) → list_all (λ b. nat_le 33 b && nat_le b 126) word ≡ true → 0 < length word → IsWord word
named word test full =
    record {
      full = full;
      bytes =
          All-weaker (λ b. (nat_le 33 b && nat_le b 126) ≡ true) (λ b. (33 ≤ b) × (b ≤ 126)) within word
          (AllPass-from_list_all (λ b. nat_le 33 b && nat_le b 126) word test);
    }
  where
    within : (b : ℕ) → (nat_le 33 b && nat_le b 126) ≡ true → (33 ≤ b) × (b ≤ 126)
    within b is = (grind (arith, nat_tests), grind (arith, nat_tests))

short_number : (n : ℕ) → n < 2 ^ 64 → length (decimal n) ≤ 20
short_number n small = length-decimal-le 20 n (omega arith) (omega arith) small

one : (a : Word) → IsWord a → All IsWord (a ∷ [])
one a is = All-cons IsWord a [] is (All-nil IsWord)

two : (a b : Word) → IsWord a → IsWord b → All IsWord (a ∷ b ∷ [])
two a b is_a is_b = All-cons IsWord a (b ∷ []) is_a (one b is_b)

four : (a b c d : Word) → IsWord a → IsWord b → IsWord c → IsWord d → All IsWord (a ∷ b ∷ c ∷ d ∷ [])
four a b c d is_a is_b is_c is_d = All-cons IsWord a (b ∷ c ∷ d ∷ []) is_a (All-cons IsWord b (c ∷ d ∷ []) is_b (two c d is_c is_d))

version_good : (format : ℕ) → IsGoodLine (version_words format)
version_good format = go (format == FORMAT_1)
  where
    go : (b : Bool) → IsGoodLine (codes "graph" ∷ (if b then codes "1" else codes "2") ∷ [])
    go true = record {
      some = omega arith;
      each = two (codes "graph") (codes "1") (named (codes "graph") refl (omega arith)) (named (codes "1") refl (omega arith));
      short = omega arith;
    }
    go false = record {
      some = omega arith;
      each = two (codes "graph") (codes "2") (named (codes "graph") refl (omega arith)) (named (codes "2") refl (omega arith));
      short = omega arith;
    }

end_good : IsGoodLine end_words
end_good = record { some = omega arith; each = one (codes "end") (named (codes "end") refl (omega arith)); short = omega arith }

nodes_good : (n : ℕ) → n < 2 ^ 64 → IsGoodLine (nodes_words n)
nodes_good n small = record {
  some = omega arith;
  each = two (codes "nodes") (decimal n) (named (codes "nodes") refl (omega arith)) (clean_number n small);
  short = omega (arith, short_number n small);
}

edge_good : (e : Edge) → e.low.0 < 2 ^ 64 → e.high.0 < 2 ^ 64 → e.weight < 2 ^ 64 → IsGoodLine (edge_words e)
edge_good e low high weight =
    let a = decimal e.low.0 in
    let b = decimal e.high.0 in
    let w = decimal e.weight in
    record {
      some = omega arith;
      each = four (codes "edge") a b w (named (codes "edge") refl (omega arith)) (clean_number e.low.0 low) (clean_number e.high.0 high)
          (clean_number e.weight weight);
      short = omega (
        arith,
        length-append a (32 ∷ (b ++ 32 ∷ w)),
        length-append b (32 ∷ w),
        short_number e.low.0 low,
        short_number e.high.0 high,
        short_number e.weight weight,
      );
    }

-- ---- the edges of a graph

-- the graph with these edges alone
abbrev pub with_edges : Graph → List Edge → Graph
with_edges g edges = record { nodes = g.nodes; edges = edges }

in_range : (place : At) (low high n : ℕ) → n < 2 ^ 64 → low ≤ n → n ≤ high → IsField place low high (decimal n) (Ok n)
in_range place low high n small above below = In_range n refl small above below

edge_says : (format : ℕ) → (g : Graph) (front : List Edge) (e : Edge) (line : ℕ) → IsGraphIn format g → IsEdge g.nodes e
    → IsNextEdge format (with_edges g front) e
    → Says format line (edge_words e) (stages.Edges (with_edges g front)) (Ok (stages.Edges (with_edges g (front ++ e ∷ []))))
edge_says format g front e line good is next =
    let few : g.nodes ≤ 32 = omega (arith, good.nodes.1, few_nodes format) in
    let fields : AreFields g.nodes line (decimal e.low.0) (decimal e.high.0) (decimal e.weight) (Ok e) = (
      in_range _ 1 g.nodes e.low.0 (omega (arith, is.1, is.2, few)) is.0 (omega (arith, is.1, is.2)),
      in_range _ 1 g.nodes e.high.0 (omega (arith, is.2, few)) (omega (arith, is.0, is.1)) is.2,
      in_range _ 1 MAX_WEIGHT e.weight (omega (arith, is.3)) is.3.0 is.3.1,
    ) in
    Edge_line (decimal e.low.0) (decimal e.high.0) (decimal e.weight) refl (e, fields, next, refl)

ascends_after : (format : ℕ) → (g : Graph) (front back : List Edge) (e : Edge) → IsGraphIn format g → g.edges ≡ front ++ e ∷ back
    → IfSome (last_edge front) (λ f. IsLower f e)
ascends_after format g [] back e good is = tt
ascends_after format g (f ∷ front) back e good is =
    let before = f ∷ front in
    let last = length front in
    let inside : length before < length g.edges = omega (arith, ap length is, length-append before (e ∷ back)) in
    let at : slice_index_or g.edges (length before) e ≡ e = rw is (get_or_at before e back e (length before) refl) in
    let at_last : slice_index_or g.edges last e ≡ slice_index_or before last e = rw is (get_or_append_left before (e ∷ back) e last (omega arith)) in
    let lower = rw (at, at_last) at (good.ascend last (length before) e (omega arith) inside) in
    let there : length before - 1 ≡ last = omega arith in
    subst (λ (o : Option Edge). IfSome o (λ x. IsLower x e)) (sym (ap (slice_get before) there ∙ slice_get-get_or before last e (omega arith))) lower

-- an edge of a graph may come after those before it
pub next_of : (format : ℕ) → (g : Graph) (front back : List Edge) (e : Edge) → IsGraphIn format g → g.edges ≡ front ++ e ∷ back
    → IsEdge g.nodes e × IsNextEdge format (with_edges g front) e
next_of format g front back e good is =
    let inside : length front < length g.edges = omega (arith, ap length is, length-append front (e ∷ back)) in
    let at : slice_index_or g.edges (length front) e ≡ e = rw is (get_or_at front e back e (length front) refl) in
    let edge : IsEdge g.nodes e = rw at at (good.edges (length front) e inside) in (
      edge,
      record
          { ends = (edge.0, edge.1, edge.2); weight = edge.3; ascends = ascends_after format g front back e good is; few = omega (arith, inside, good.few) },
    )

-- the edges from one on lead to the graph
edges_read : {format : ℕ} {answer : Result Graph GraphRefused} {rest : List ℕ} (g : Graph) (front back : List Edge) → IsGraphIn format g
    → g.edges ≡ front ++ back
    → ((number : ℕ) → Reads format (stages.Edges g) number rest answer) → (number : ℕ)
    → Reads format (stages.Edges (with_edges g front)) number (flat_map line_text (map edge_words back) ++ rest) answer
edges_read {format} {answer} {rest} g front [] good is reads number =
    let all : with_edges g g.edges ≡ with_edges g front = ap (with_edges g) (is ∙ append-nil front) in
    subst (λ (h : Graph). Reads format (stages.Edges h) number rest answer) all (reads number)
edges_read {format} {answer} {rest} g front (e ∷ back) good is reads number =
    let next = next_of format g front back e good is in
    let few : g.nodes ≤ 32 = omega (arith, good.nodes.1, few_nodes format) in
    let line : IsGoodLine (edge_words e) = edge_good e (omega (arith, next.0.1, next.0.2, few)) (omega (arith, next.0.2, few)) (omega (arith, next.0.3)) in
    let more = edges_read g (front ++ e ∷ []) back good (is ∙ sym (append_assoc front (e ∷ []) back)) reads in
    rw append_assoc
    (good_line (edge_words e) (flat_map line_text (map edge_words back) ++ rest) line (λ n. edge_says format g front e n good next.0 next.1) more number)

-- ---- the whole text

reads_whole : (format : ℕ) → (g : Graph) → IsGraphIn format g → Reads format stages.Start 1 (graph_text format g) (Ok g)
unfolding graph_text
reads_whole format g good =
    let edges = flat_map line_text (map edge_words g.edges) in
    let few : g.nodes ≤ 32 = omega (arith, good.nodes.1, few_nodes format) in
    let end : (number : ℕ) → Reads format (stages.Edges g) number (line_text end_words ++ []) (Ok g) =
    good_line end_words [] end_good (λ n. End_line refl) (λ n. Whole) in
    let none = with_edges g [] in
    let on : (number : ℕ) → Reads format (stages.Edges none) number (edges ++ (line_text end_words ++ [])) (Ok g) = edges_read g [] g.edges good refl end in
    let nodes : (number : ℕ) → Reads format stages.Version number (line_text (nodes_words g.nodes) ++ (edges ++ (line_text end_words ++ []))) (Ok g) =
    good_line (nodes_words g.nodes) (edges ++ (line_text end_words ++ [])) (nodes_good g.nodes (omega (arith, few)))
    (λ n. Nodes_line (decimal g.nodes) refl (g.nodes, in_range _ 2 (max_nodes format) g.nodes (omega (arith, few)) good.nodes.0 good.nodes.1, refl)) on in
    let all = good_line (version_words format) (line_text (nodes_words g.nodes) ++ (edges ++ (line_text end_words ++ []))) (version_good format)
    (λ n. Version_line refl) nodes 1 in
    let text : graph_text format g ≡ line_text (version_words format) ++ (line_text (nodes_words g.nodes) ++ (edges ++ (line_text end_words ++ []))) =
    ap (λ (xs : List ℕ). line_text (version_words format) ++ (line_text (nodes_words g.nodes) ++ xs))
    (flat_map-append line_text (map edge_words g.edges) (end_words ∷ [])) in
    rw text all

pub texts_are_read : TextsAreRead
texts_are_read text g = (
  λ reads. let says = says_graph g reads refl tt in (says.0, says.1),
  λ is. subst (λ (t : List ℕ). Reads (format_of text) stages.Start 1 t (Ok g)) (sym is.1) (reads_whole (format_of text) g is.0),
)

never : (text : List ℕ) (g : Graph) (refused : GraphRefused) → IsReading text (Err refused) → IsGraphIn (format_of text) g
    → text ≡ graph_text (format_of text) g → ⊥
never text g refused reads good is = let both = one_reading text (Err refused) (Ok g) reads ((texts_are_read text g).1 (good, is)) in cc

-- what was read is the graph of the text, and a text that is refused is of none
pub is_of_text : (text : List ℕ) (answer : Result Graph GraphRefused) → UnlessMemory (IsReading text) answer
    → IfOk answer (λ g. IsGraphIn (format_of text) g × (text ≡ graph_text (format_of text) g))
is_of_text text (Ok g) reads = (texts_are_read text g).0 reads
is_of_text text (Err refused) reads = tt

pub is_of_none : (text : List ℕ) (answer : Result Graph GraphRefused) → UnlessMemory (IsReading text) answer
    → IfErr answer (λ refused. refused ≢ refusals.Memory → (g : Graph) → IsGraphIn (format_of text) g → text ≢ graph_text (format_of text) g)
is_of_none text (Ok g) reads = tt
is_of_none text (Err refusals.Memory) reads = λ no_memory g good is. no_memory refl
is_of_none text (Err (refusals.Text refused)) reads = λ no_memory g good is. never text g (refusals.Text refused) reads good is
is_of_none text (Err (refusals.Form line)) reads = λ no_memory g good is. never text g (refusals.Form line) reads good is
is_of_none text (Err (refusals.Range line)) reads = λ no_memory g good is. never text g (refusals.Range line) reads good is
is_of_none text (Err (refusals.NoEnd line)) reads = λ no_memory g good is. never text g (refusals.NoEnd line) reads good is
is_of_none text (Err (refusals.AfterEnd line)) reads = λ no_memory g good is. never text g (refusals.AfterEnd line) reads good is

pub formats_are_said : FormatsAreSaid
unfolding graph_text
formats_are_said g = (refl, refl)
