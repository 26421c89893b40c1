-- Where the lines of a text lead: to one stage, where one thing stops them.
use Rattle.std.proofs.Common.{◌≡◌, ℕ, ◌+◌, List, [], ◌∷◌, ◌++◌, length, Result, Ok, Err, refl, sym, ap, subst, ◌∙◌, arith, append_assoc}
use Rattle.std.specs.Prelude.{All}
use Rattle.std.specs.List.{flat_map}
use Rattle.std.proofs.lemmas.List.Elements.{All-head, All-tail}
use Rattle.sp_base.proofs.RefusalLemmas.{then_ok}
use Rattle.sp_text.specs.Spelling.{Word}
use Rattle.sp_text.specs.Texts.{line_at}
use Rattle.sp_text.specs.declared.place.TextRefused.{TextRefused}
use Rattle.sp_lines.specs.Rows.{line_text}
use Rattle.sp_lines.specs.Texts.{At_end, At_line, At_words, Bad_words, Good, Leads, No_words, Nothing_left, Stop, first_words, follow_all}
use Rattle.sp_lines.proofs.TextLemmas.{IsGoodLine, read_first, spelled_first}

nothing_first : (number : ℕ) (words : List Word) (rest : List ℕ) → first_words number [] ≡ Ok (words, rest) → ⊥
unfolding first_words line_at
nothing_first number words rest is = cc

abbrev Parts : Type 0
Parts = Result (List Word × List ℕ) TextRefused

same_parts : {a b : List Word} {x y : List ℕ} → ◌≡◌ {A = Parts} (Ok (a, x)) (Ok (b, y)) → (a ≡ b) × (x ≡ y)
same_parts {a} {b} {x} {y} same =
    let pairs : (a, x) ≡ (b, y) = cc in
    (ap (λ (p : List Word × List ℕ). p.0) pairs, ap (λ (p : List Word × List ℕ). p.1) pairs)

module _ {S K : Type 0} (says : S → List Word → Result S K) where
  -- the same stage, the same line, and the same that stops there
  pub record IsOne (t u : S) (m k : ℕ) (a b : Stop K) : Type 0 where
    pub stage : t ≡ u
    pub line : m ≡ k
    pub stop : a ≡ b

  -- from one stage a text leads to one stage, at one line, with one end
  pub one_lead : {s t u : S} {number m k : ℕ} {text : List ℕ} {a b : Stop K} → Leads says s number text t m a → Leads says s number text u k b
      → IsOne t u m k a b
  one_lead At_end At_end = record { stage = refl; line = refl; stop = refl }
  one_lead At_end (At_line r some first) = absurd (some refl)
  one_lead {number = number} At_end (At_words words rest r first bad) = absurd (nothing_first number words rest first)
  one_lead {number = number} At_end (Good words rest next first good on) = absurd (nothing_first number words rest first)
  one_lead (At_line r some first) At_end = absurd (some refl)
  one_lead (At_line r some first) (At_line q some_too first_too) =
      let same = sym first ∙ first_too in
      let refused : r ≡ q = cc in
      record { stage = refl; line = refl; stop = ap (λ (x : TextRefused). No_words x) refused }
  one_lead (At_line r some first) (At_words words rest q first_too bad) = absurd (let same = sym first ∙ first_too in cc)
  one_lead (At_line r some first) (Good words rest next first_too good on) = absurd (let same = sym first ∙ first_too in cc)
  one_lead {number = number} (At_words words rest r first bad) At_end = absurd (nothing_first number words rest first)
  one_lead (At_words words rest r first bad) (At_line q some first_too) = absurd (let same = sym first ∙ first_too in cc)
  one_lead {s} (At_words words rest r first bad) (At_words words_too rest_too q first_too bad_too) =
      let same = same_parts (sym first_too ∙ first) in
      let again : says s words ≡ Err q = subst (λ (ws : List Word). says s ws ≡ Err q) same.0 bad_too in
      let refused = sym bad ∙ again in
      let is : r ≡ q = cc in
      record { stage = refl; line = refl; stop = ap (λ (x : K). Bad_words x) is }
  one_lead {s} (At_words words rest r first bad) (Good words_too rest_too next first_too good on) =
      let same = same_parts (sym first_too ∙ first) in
      let again : says s words ≡ Ok next = subst (λ (ws : List Word). says s ws ≡ Ok next) same.0 good in
      absurd (let both = sym bad ∙ again in cc)
  one_lead {number = number} (Good words rest next first good on) At_end = absurd (nothing_first number words rest first)
  one_lead (Good words rest next first good on) (At_line q some first_too) = absurd (let same = sym first ∙ first_too in cc)
  one_lead {s} (Good words rest next first good on) (At_words words_too rest_too q first_too bad) =
      let same = same_parts (sym first_too ∙ first) in
      let again : says s words ≡ Err q = subst (λ (ws : List Word). says s ws ≡ Err q) same.0 bad in
      absurd (let both = sym good ∙ again in cc)
  one_lead {s} {u = u} {number = number} {k = k} {b = b} (Good words rest next first good on) (Good words_too rest_too other first_too good_too on_too) =
      let same = same_parts (sym first_too ∙ first) in
      let again : says s words ≡ Ok other = subst (λ (ws : List Word). says s ws ≡ Ok other) same.0 good_too in
      let both = sym again ∙ good in
      let of_next : other ≡ next = cc in
      one_lead on (subst (λ (z : S). Leads says z (number + 1) rest u k b) of_next
      (subst (λ (t : List ℕ). Leads says other (number + 1) t u k b) same.1 on_too))

  -- lines that are good one after the other are read, and lead on
  pub leads_on : (lines : List (List Word)) (s t : S) → follow_all says s lines ≡ Ok t → All IsGoodLine lines
      → (rest : List ℕ) (last : S) (stop : Stop K) (end number : ℕ)
      → Leads says t (number + length lines) rest last end stop → Leads says s number (flat_map line_text lines ++ rest) last end stop
  leads_on [] s t follows good rest last stop end number on =
      let same : s ≡ t = cc in
      let none : number + length {A = List Word} [] ≡ number = omega arith in
      subst (λ (z : S). Leads says z number rest last end stop) (sym same) (subst (λ (n : ℕ). Leads says t n rest last end stop) none on)
  leads_on (words ∷ lines) s t follows good rest last stop end number on =
      let step = then_ok (says s words) (λ next. follow_all says next lines) t follows in
      let count : number + length (words ∷ lines) ≡ (number + 1) + length lines = omega arith in
      let more = leads_on lines step.0 t step.2 (All-tail IsGoodLine words lines good) rest last stop end (number + 1)
      (subst (λ (n : ℕ). Leads says t n rest last end stop) count on) in
      rw append_assoc
      (Good words (flat_map line_text lines ++ rest) step.0 (read_first number words (flat_map line_text lines ++ rest) (All-head IsGoodLine words lines good))
      step.1 more)

  -- a text that leads somewhere begins with lines that do
  pub record IsLed (s t : S) (number end : ℕ) (text : List ℕ) : Type 0 where
    pub lines : List (List Word)
    pub rest : List ℕ
    pub spelled : text ≡ flat_map line_text lines ++ rest
    pub follows : follow_all says s lines ≡ Ok t
    pub count : end ≡ number + length lines

  -- what a text leads to is reached by the lines that it has
  pub led_by : {s t : S} {number end : ℕ} {text : List ℕ} {stop : Stop K} → Leads says s number text t end stop → IsLed s t number end text
  led_by At_end = record { lines = []; rest = _; spelled = refl; follows = refl; count = omega arith }
  led_by (At_line r some first) = record { lines = []; rest = _; spelled = refl; follows = refl; count = omega arith }
  led_by (At_words words rest r first bad) = record { lines = []; rest = _; spelled = refl; follows = refl; count = omega arith }
  led_by {s} {t} {number} {end} {text} (Good words rest next first good on) =
      let more = led_by on in
      let spelled : text ≡ flat_map line_text (words ∷ more.lines) ++ more.rest =
      spelled_first number text rest words first ∙ ap (λ (xs : List ℕ). line_text words ++ xs) more.spelled
      ∙ sym (append_assoc (line_text words) (flat_map line_text more.lines) more.rest) in
      record {
        lines = words ∷ more.lines;
        rest = more.rest;
        spelled = spelled;
        follows = rw good more.follows;
        count = omega (arith, more.count);
      }

  -- a text that is read to its end is its lines
  pub record IsLines (s t : S) (text : List ℕ) : Type 0 where
    pub lines : List (List Word)
    pub spelled : text ≡ flat_map line_text lines
    pub follows : follow_all says s lines ≡ Ok t

  -- a text of which nothing is left has been read in whole lines
  pub whole_lines : {s t : S} {number end : ℕ} {text : List ℕ} {stop : Stop K} → Leads says s number text t end stop → stop ≡ Nothing_left → IsLines s t text
  whole_lines At_end is = record { lines = []; spelled = refl; follows = refl }
  whole_lines (At_line r some first) is = absurd (cc)
  whole_lines (At_words words rest r first bad) is = absurd (cc)
  whole_lines {s} {t} {number} {end} {text} (Good words rest next first good on) is =
      let more = whole_lines on is in
      record {
        lines = words ∷ more.lines;
        spelled = spelled_first number text rest words first ∙ ap (λ (xs : List ℕ). line_text words ++ xs) more.spelled;
        follows = rw good more.follows;
      }

  -- where no line is good, something stops every text
  pub record Stops (t : S) (number : ℕ) (text : List ℕ) : Type 0 where
    pub stop : Stop K
    pub leads : Leads says t number text t number stop

  -- where each line is refused, a text stops at its first one
  pub stops_there : (t : S) (refused : K) → ((words : List Word) → says t words ≡ Err refused) → (number : ℕ) (text : List ℕ) → Stops t number text
  stops_there t refused bad number [] = record { stop = Nothing_left; leads = At_end }
  stops_there t refused bad number (b ∷ text) = go (first_words number (b ∷ text)) refl
    where
      go : (parts : Parts) → first_words number (b ∷ text) ≡ parts → Stops t number (b ∷ text)
      go (Ok pair) is = record { stop = Bad_words refused; leads = At_words pair.0 pair.1 refused is (bad pair.0) }
      go (Err r) is = record { stop = No_words r; leads = At_line r (λ none. absurd (cc)) is }

  -- whatever the rest leads to after so many good lines, the text leads to
  abbrev pub GoesOn : S → List ℕ → S → ℕ → List ℕ → Type 0
  GoesOn start text stage count rest =
      (last : S) (end : ℕ) (stop : Stop K) → Leads says stage (count + 1) rest last end stop → Leads says start 1 text last end stop

  -- and after one more
  pub goes_on : (start : S) (text : List ℕ) (stage next : S) (count : ℕ) (old rest : List ℕ) (words : List Word) → GoesOn start text stage count old
      → first_words (count + 1) old ≡ Ok (words, rest) → says stage words ≡ Ok next → GoesOn start text next (count + 1) rest
  goes_on start text stage next count old rest words so_far first good = λ last end stop on. so_far last end stop (Good words rest next first good on)
