-- What is printed, piece by piece, is the text of the schedule.
use Rattle.std.proofs.Common.{◌≡◌, ℕ, List, [], ◌∷◌, ◌++◌, map, refl, sym, ap, ◌∙◌, append_assoc, append-nil}
use Rattle.std.specs.Prelude.{codes}
use Rattle.std.specs.List.{flat_map}
use Rattle.std.proofs.lemmas.Grind.{flat_map-append}
use Rattle.sp_text.specs.Spelling.{Word}
use Rattle.sp_lines.specs.Rows.{line_text}
use Rattle.sp_schedule_events.specs.Events.{event_words}
use Rattle.sp_schedule_events.specs.declared.scenario.Scenario.{Scenario}
use Rattle.sp_schedule_events.specs.declared.event.Event.{Event}
use Rattle.sp_schedule.specs.Spelling.{bad_words, begin_words, edge_words, end_words, epochs_lines, front_lines, schedule_text}

lines_of : {X : Type 0} (words : X → List Word) (xs : List X) → flat_map line_text (map words xs) ≡ flat_map (λ x. line_text (words x)) xs
lines_of words [] = refl
lines_of words (x ∷ xs) = ap (λ (ys : List ℕ). line_text (words x) ++ ys) (lines_of words xs)

one_line : (words : List Word) → flat_map line_text (words ∷ []) ≡ line_text words
one_line words = append-nil (line_text words)

-- the text of lines in six parts
parts : (front edges bads life events : List (List Word)) (begin end : List Word)
    → flat_map line_text (((front ++ (edges ++ bads)) ++ (life ++ begin ∷ [])) ++ (events ++ end ∷ []))
    ≡ (((((flat_map line_text front ++ flat_map line_text edges) ++ flat_map line_text bads) ++ flat_map line_text life) ++ line_text begin)
    ++ flat_map line_text events) ++ line_text end
parts front edges bads life events begin end =
    flat_map-append line_text ((front ++ (edges ++ bads)) ++ (life ++ begin ∷ [])) (events ++ end ∷ [])
    ∙ ap (λ (xs : List ℕ). xs ++ flat_map line_text (events ++ end ∷ [])) header ∙ ap (λ (xs : List ℕ). all ++ xs) back
    ∙ join (flat_map line_text front) (flat_map line_text edges) (flat_map line_text bads) (flat_map line_text life) (line_text begin)
    (flat_map line_text events) (line_text end)
  where
    all : List ℕ
    all = (flat_map line_text front ++ (flat_map line_text edges ++ flat_map line_text bads)) ++ (flat_map line_text life ++ line_text begin)

    header : flat_map line_text ((front ++ (edges ++ bads)) ++ (life ++ begin ∷ [])) ≡ all
    header =
        flat_map-append line_text (front ++ (edges ++ bads)) (life ++ begin ∷ [])
        ∙ ap (λ (xs : List ℕ). xs ++ flat_map line_text (life ++ begin ∷ []))
        (flat_map-append line_text front (edges ++ bads) ∙ ap (λ (xs : List ℕ). flat_map line_text front ++ xs) (flat_map-append line_text edges bads))
        ∙ ap (λ (xs : List ℕ). (flat_map line_text front ++ (flat_map line_text edges ++ flat_map line_text bads)) ++ xs)
        (flat_map-append line_text life (begin ∷ []) ∙ ap (λ (xs : List ℕ). flat_map line_text life ++ xs) (one_line begin))

    back : flat_map line_text (events ++ end ∷ []) ≡ flat_map line_text events ++ line_text end
    back = flat_map-append line_text events (end ∷ []) ∙ ap (λ (xs : List ℕ). flat_map line_text events ++ xs) (one_line end)

    join : (a b c l d e f : List ℕ) → ((a ++ (b ++ c)) ++ (l ++ d)) ++ (e ++ f) ≡ (((((a ++ b) ++ c) ++ l) ++ d) ++ e) ++ f
    join a b c l d e f = simp append_assoc

pub printed : (s : Scenario) (es : List Event) (a b c l d e f : List ℕ) → a ≡ flat_map line_text (front_lines s.format s.seed s.height s.limits s.graph.nodes)
    → b ≡ a ++ flat_map (λ x. line_text (edge_words x)) s.graph.edges → c ≡ b ++ flat_map (λ x. line_text (bad_words x)) s.bad
    → l ≡ c ++ flat_map line_text (epochs_lines s) → d ≡ l ++ codes "begin\n"
    → e ≡ d ++ flat_map (λ x. line_text (event_words s x)) es → f ≡ e ++ codes "end\n" → f ≡ schedule_text s es
unfolding schedule_text
printed s es a b c l d e f is_a is_b is_c is_l is_d is_e is_f =
    let text = parts (front_lines s.format s.seed s.height s.limits s.graph.nodes) (map edge_words s.graph.edges) (map bad_words s.bad) (epochs_lines s)
    (map (event_words s) es) begin_words end_words in
    let in_b : b ≡ a ++ flat_map line_text (map edge_words s.graph.edges) = is_b ∙ ap (λ (xs : List ℕ). a ++ xs) (sym (lines_of edge_words s.graph.edges)) in
    let in_c : c ≡ b ++ flat_map line_text (map bad_words s.bad) = is_c ∙ ap (λ (xs : List ℕ). b ++ xs) (sym (lines_of bad_words s.bad)) in
    let in_e : e ≡ d ++ flat_map line_text (map (event_words s) es) = is_e ∙ ap (λ (xs : List ℕ). d ++ xs) (sym (lines_of (event_words s) es)) in
    is_f
    ∙ ap (λ (xs : List ℕ). xs ++ codes "end\n") (in_e
    ∙ ap (λ (xs : List ℕ). xs ++ flat_map line_text (map (event_words s) es)) (is_d
    ∙ ap (λ (xs : List ℕ). xs ++ codes "begin\n") (is_l
    ∙ ap (λ (xs : List ℕ). xs ++ flat_map line_text (epochs_lines s)) (in_c
    ∙ ap (λ (xs : List ℕ). xs ++ flat_map line_text (map bad_words s.bad)) (in_b
    ∙ ap (λ (xs : List ℕ). xs ++ flat_map line_text (map edge_words s.graph.edges)) is_a)))))
    ∙ sym text
