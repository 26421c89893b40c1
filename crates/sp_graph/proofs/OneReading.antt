-- A text says one thing.
use Rattle.std.proofs.Common.{◌≡◌, ℕ, ◌+◌, ◌<◌, ◌^◌, inl, inr, List, [], Result, Ok, Err, refl, sym, ap, subst, ◌∙◌, arith}
use Rattle.std.specs.Prelude.{codes}
use Rattle.std.specs.Fmt.{decimal}
use Rattle.sp_text.specs.Spelling.{Word}
use Rattle.sp_text.specs.Texts.{line_at}
use Rattle.sp_text.specs.declared.place.At.{At}
use Rattle.sp_text.specs.declared.place.TextRefused.{TextRefused}
use Rattle.sp_text.proofs.FieldLemmas.{one_number, other_name}
use Rattle.sp_topology.specs.declared.topology.Edge.{Edge}
use Rattle.sp_graph.specs.declared.graph.Graph.{Graph}
use Rattle.sp_graph.specs.declared.stage.Stage.{Stage}
use Rattle.sp_graph.specs.declared.stage.Stage.TheVariants as stages
use Rattle.sp_graph.specs.declared.refused.GraphRefused.{GraphRefused}
use Rattle.sp_graph.specs.declared.refused.GraphRefused.TheVariants as refusals
use Rattle.sp_graph.specs.Edges.{IsNextEdge}
use Rattle.sp_graph.specs.Lines.{After_end, AreFields, Edge_line, End_line, In_range, IsField, No_form, No_number, Nodes_line, Out_of_range, Says, SaysEdge}
use Rattle.sp_graph.specs.Lines.{SaysNodes, Version_line, edge_form, nodes_form}
use Rattle.sp_graph.specs.Readings.{Bad_line, Good_line, No_end, No_words, OneReading, Reads, Whole, first_words}

-- ---- fields

one_value : (word : Word) (m n : ℕ) → word ≡ decimal m → m < 2 ^ 64 → word ≡ decimal n → n < 2 ^ 64 → m ≡ n
one_value word m n is_m small_m is_n small_n = one_number word m n small_m small_n is_m is_n

one_field : {place : At} {low high : ℕ} {word : Word} {a b : Result ℕ GraphRefused} → IsField place low high word a → IsField place low high word b → a ≡ b
one_field {word = word} (In_range m is small above below) (In_range n is_n small_n above_n below_n) = ap Ok (one_value word m n is small is_n small_n)
one_field (In_range m is small above below) (No_number none) = absurd (none m small is)
one_field {word = word} (In_range m is small above below) (Out_of_range n is_n small_n out) =
    absurd (let same = one_value word m n is small is_n small_n in elim out [ inl less ↦ omega arith | inr more ↦ omega arith ])
one_field (No_number none) (In_range n is small above below) = absurd (none n small is)
one_field (No_number none) (No_number none_too) = refl
one_field (No_number none) (Out_of_range n is small out) = absurd (none n small is)
one_field {word = word} (Out_of_range m is small out) (In_range n is_n small_n above below) =
    absurd (let same = one_value word m n is small is_n small_n in elim out [ inl less ↦ omega arith | inr more ↦ omega arith ])
one_field (Out_of_range m is small out) (No_number none) = absurd (none m small is)
one_field (Out_of_range m is small out) (Out_of_range n is_n small_n out_n) = refl

same_value : {place : At} {low high : ℕ} {word : Word} {m n : ℕ} → IsField place low high word (Ok m) → IsField place low high word (Ok n) → m ≡ n
same_value x y = let same = one_field x y in cc

same_refusal : {place : At} {low high : ℕ} {word : Word} {r q : GraphRefused} → IsField place low high word (Err r) → IsField place low high word (Err q)
    → r ≡ q
same_refusal x y = let same = one_field x y in cc

not_both : {place : At} {low high : ℕ} {word : Word} {n : ℕ} {r : GraphRefused} → IsField place low high word (Ok n) → IsField place low high word (Err r) → ⊥
not_both x y = let same = one_field x y in cc

one_edge : {nodes line : ℕ} {a b w : Word} (e f : Edge) → AreFields nodes line a b w (Ok e) → AreFields nodes line a b w (Ok f) → e ≡ f
one_edge e f x y =
    let low = same_value x.0 y.0 in
    let high = same_value x.1 y.1 in
    let weight = same_value x.2 y.2 in
    let parts : Edge → Edge = λ z. record { low = record { 0 = z.low.0 }; high = record { 0 = z.high.0 }; weight = z.weight } in
    let all : parts e ≡ parts f = rw (low, high, weight) refl in
    all

no_refusal : {nodes line : ℕ} {a b w : Word} (e : Edge) (r : GraphRefused) → AreFields nodes line a b w (Ok e) → AreFields nodes line a b w (Err r) → ⊥
no_refusal e r x (inl bad) = not_both x.0 bad
no_refusal e r x (inr (inl bad)) = not_both x.1 bad.2
no_refusal e r x (inr (inr bad)) = not_both x.2 bad.4

one_refusal : {nodes line : ℕ} {a b w : Word} (r q : GraphRefused) → AreFields nodes line a b w (Err r) → AreFields nodes line a b w (Err q) → r ≡ q
one_refusal r q (inl x) (inl y) = same_refusal x y
one_refusal r q (inl x) (inr (inl y)) = absurd (not_both y.1 x)
one_refusal r q (inl x) (inr (inr y)) = absurd (not_both y.2 x)
one_refusal r q (inr (inl x)) (inl y) = absurd (not_both x.1 y)
one_refusal r q (inr (inl x)) (inr (inl y)) = same_refusal x.2 y.2
one_refusal r q (inr (inl x)) (inr (inr y)) = absurd (not_both y.3 x.2)
one_refusal r q (inr (inr x)) (inl y) = absurd (not_both x.2 y)
one_refusal r q (inr (inr x)) (inr (inl y)) = absurd (not_both x.3 y.2)
one_refusal r q (inr (inr x)) (inr (inr y)) = same_refusal x.4 y.4

-- ---- lines

nodes_once : (format : ℕ) → (line : ℕ) (word : Word) (a b : Result Stage GraphRefused) → SaysNodes format line word a → SaysNodes format line word b → a ≡ b
nodes_once format line word (Ok x) (Ok y) p q =
    let next : ℕ → Result Stage GraphRefused = λ n. Ok (stages.Edges (record { nodes = n; edges = [] })) in
    ap (λ (s : Stage). Ok s) p.2 ∙ ap next (same_value p.1 q.1) ∙ sym (ap (λ (s : Stage). Ok s) q.2)
nodes_once format line word (Ok x) (Err r) p q = absurd (not_both p.1 q)
nodes_once format line word (Err r) (Ok y) p q = absurd (not_both q.1 p)
nodes_once format line word (Err r) (Err s) p q = ap (λ (e : GraphRefused). Err e) (same_refusal p q)

edge_once : (format : ℕ) → (g : Graph) (line : ℕ) (a b w : Word) (x y : Result Stage GraphRefused) → SaysEdge format g line a b w x
    → SaysEdge format g line a b w y → x ≡ y
edge_once format g line a b w (Ok x) (Ok y) p q =
    let edge = one_edge p.0 q.0 p.1 q.1 in
    rw (p.3, q.3, edge) refl
edge_once format g line a b w (Ok x) (Err r) p (inl q) = absurd (no_refusal p.0 r p.1 q)
edge_once format g line a b w (Ok x) (Err r) p (inr q) = absurd (q.2 (subst (λ (e : Edge). IsNextEdge format g e) (one_edge p.0 q.0 p.1 q.1) p.2))
edge_once format g line a b w (Err r) (Ok y) (inl p) q = absurd (no_refusal q.0 r q.1 p)
edge_once format g line a b w (Err r) (Ok y) (inr p) q = absurd (p.2 (subst (λ (e : Edge). IsNextEdge format g e) (one_edge q.0 p.0 q.1 p.1) q.2))
edge_once format g line a b w (Err r) (Err s) (inl p) (inl q) = ap (λ (e : GraphRefused). Err e) (one_refusal r s p q)
edge_once format g line a b w (Err r) (Err s) (inl p) (inr q) = absurd (no_refusal q.0 r q.1 p)
edge_once format g line a b w (Err r) (Err s) (inr p) (inl q) = absurd (no_refusal p.0 s p.1 q)
edge_once format g line a b w (Err r) (Err s) (inr p) (inr q) = ap (λ (e : GraphRefused). Err e) (p.3 ∙ sym q.3)

one_saying : {format line : ℕ} {words : List Word} {stage : Stage} {a b : Result Stage GraphRefused} → Says format line words stage a
    → Says format line words stage b → a ≡ b
one_saying (Version_line is) (Version_line is_too) = refl
one_saying (Version_line is) (No_form none) = absurd (none is)
one_saying {format} {line} {a = a} {b = b} (Nodes_line n is says) (Nodes_line m is_too says_too) =
    let forms : nodes_form m ≡ nodes_form n = sym is_too ∙ is in
    let same : m ≡ n = cc in
    nodes_once format line n a b says (subst (λ (x : Word). SaysNodes format line x b) same says_too)
one_saying (Nodes_line n is says) (No_form none) = absurd (none (n, is))
one_saying {format} {line} {a = x} {b = y} (Edge_line {g = g} a b w is says) (Edge_line c d v is_too says_too) =
    let forms : edge_form c d v ≡ edge_form a b w = sym is_too ∙ is in
    let first : c ≡ a = cc in
    let second : d ≡ b = cc in
    let third : v ≡ w = cc in
    edge_once format g line a b w x y says (rw (first, second, third) at says_too)
one_saying {words = words} (Edge_line a b w is says) (End_line end) = absurd (other_name words (codes "edge") (codes "end") _ _ refl is end)
one_saying (Edge_line a b w is says) (No_form none) = absurd (none (inl (a, b, w, is)))
one_saying {words = words} (End_line end) (Edge_line a b w is says) = absurd (other_name words (codes "edge") (codes "end") _ _ refl is end)
one_saying (End_line end) (End_line end_too) = refl
one_saying (End_line end) (No_form none) = absurd (none (inr end))
one_saying After_end After_end = refl
one_saying After_end (No_form none) = absurd (none tt)
one_saying (No_form none) (Version_line is) = absurd (none is)
one_saying (No_form none) (Nodes_line n is says) = absurd (none (n, is))
one_saying (No_form none) (Edge_line a b w is says) = absurd (none (inl (a, b, w, is)))
one_saying (No_form none) (End_line end) = absurd (none (inr end))
one_saying (No_form none) After_end = absurd (none tt)
one_saying (No_form none) (No_form none_too) = refl

-- ---- texts

nothing_first : (number : ℕ) (words : List Word) (rest : List ℕ) → first_words number [] ≡ Ok (words, rest) → ⊥
unfolding first_words line_at
nothing_first number words rest is = cc

abbrev Parts : Type 0
Parts = Result (List Word × List ℕ) TextRefused

same_words : {a b : List Word} {x y : List ℕ} → ◌≡◌ {A = Parts} (Ok (a, x)) (Ok (b, y)) → (a ≡ b) × (x ≡ y)
same_words {a} {b} {x} {y} same =
    let pairs : (a, x) ≡ (b, y) = cc in
    (ap (λ (p : List Word × List ℕ). p.0) pairs, ap (λ (p : List Word × List ℕ). p.1) pairs)

pub same_reading : {format : ℕ} {stage : Stage} {number : ℕ} {text : List ℕ} {a b : Result Graph GraphRefused} → Reads format stage number text a
    → Reads format stage number text b → a ≡ b
same_reading Whole Whole = refl
same_reading (Whole {g = g}) (No_end open_end) = absurd (open_end (record { graph = g; is = refl }))
same_reading Whole (No_words r some first) = absurd (some refl)
same_reading {number = number} Whole (Bad_line words rest r first says) = absurd (nothing_first number words rest first)
same_reading {number = number} Whole (Good_line words rest next first says reads) = absurd (nothing_first number words rest first)
same_reading (No_end open_end) (Whole {g = g}) = absurd (open_end (record { graph = g; is = refl }))
same_reading (No_end open_end) (No_end so_too) = refl
same_reading (No_end open_end) (No_words r some first) = absurd (some refl)
same_reading {number = number} (No_end open_end) (Bad_line words rest r first says) = absurd (nothing_first number words rest first)
same_reading {number = number} (No_end open_end) (Good_line words rest next first says reads) = absurd (nothing_first number words rest first)
same_reading (No_words r some first) Whole = absurd (some refl)
same_reading (No_words r some first) (No_end open_end) = absurd (some refl)
same_reading (No_words r some first) (No_words q some_too first_too) = let same = sym first ∙ first_too in let refused : r ≡ q = cc in
    ap (λ (x : TextRefused). Err (refusals.Text x)) refused
same_reading (No_words r some first) (Bad_line words rest q first_too says) = absurd (let same = sym first ∙ first_too in cc)
same_reading (No_words r some first) (Good_line words rest next first_too says reads) = absurd (let same = sym first ∙ first_too in cc)
same_reading {number = number} (Bad_line words rest r first says) Whole = absurd (nothing_first number words rest first)
same_reading {number = number} (Bad_line words rest r first says) (No_end open_end) = absurd (nothing_first number words rest first)
same_reading (Bad_line words rest r first says) (No_words q some first_too) = absurd (let same = sym first ∙ first_too in cc)
same_reading {format} {stage} {number} (Bad_line words rest r first says) (Bad_line words_too rest_too q first_too says_too) =
    let same = sym first_too ∙ first in
    let of_words : words_too ≡ words = (same_words same).0 in
    let refused = one_saying says (subst (λ (ws : List Word). Says format number ws stage (Err q)) of_words says_too) in
    let again : r ≡ q = cc in
    ap (λ (x : GraphRefused). Err x) again
same_reading {format} {stage} {number} (Bad_line words rest r first says) (Good_line words_too rest_too next first_too says_too reads) =
    let same = sym first_too ∙ first in
    let of_words : words_too ≡ words = (same_words same).0 in
    absurd (let both = one_saying says (subst (λ (ws : List Word). Says format number ws stage (Ok next)) of_words says_too) in cc)
same_reading {number = number} (Good_line words rest next first says reads) Whole = absurd (nothing_first number words rest first)
same_reading {number = number} (Good_line words rest next first says reads) (No_end open_end) = absurd (nothing_first number words rest first)
same_reading (Good_line words rest next first says reads) (No_words q some first_too) = absurd (let same = sym first ∙ first_too in cc)
same_reading {format} {stage} {number} (Good_line words rest next first says reads) (Bad_line words_too rest_too q first_too says_too) =
    let same = sym first_too ∙ first in
    let of_words : words_too ≡ words = (same_words same).0 in
    absurd (let both = one_saying says (subst (λ (ws : List Word). Says format number ws stage (Err q)) of_words says_too) in cc)
same_reading {format} {stage} {number} {b = b} (Good_line words rest next first says reads) (Good_line words_too rest_too other first_too says_too reads_too) =
    let same = sym first_too ∙ first in
    let of_words : words_too ≡ words = (same_words same).0 in
    let of_rest : rest_too ≡ rest = (same_words same).1 in
    let both = one_saying says (subst (λ (ws : List Word). Says format number ws stage (Ok other)) of_words says_too) in
    let of_next : other ≡ next = cc in
    same_reading reads
    (subst (λ (s : Stage). Reads format s (number + 1) rest b) of_next (subst (λ (t : List ℕ). Reads format other (number + 1) t b) of_rest reads_too))

pub one_reading : OneReading
one_reading text a b x y = same_reading x y
