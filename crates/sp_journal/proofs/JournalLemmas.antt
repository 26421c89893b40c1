-- Pieces of a journal, written one after the other.
use Rattle.std.proofs.Common.{◌≡◌, ℕ, List, [], ◌∷◌, ◌++◌, map, Result, Ok, Err, refl, sym, ap, ◌∙◌, append_assoc}
use Rattle.std.specs.Prelude.{OnOk, codes}
use Rattle.std.specs.Fmt.{decimal}
use Rattle.std.specs.List.{flat_map, join_with_byte}
use Rattle.sp_text.specs.Spelling.{Word}
use Rattle.sp_base.specs.declared.memory.Memory.{Memory}
use Rattle.sp_lines.specs.Rows.{after_spaces, line_text}
use Rattle.sp_lines.proofs.WrittenLemmas.{after_append, line_written}
use Rattle.sp_journal.specs.Words.{item_word, reply_words}
use Rattle.sp_journal.specs.JournalText.{effect_lines, entry_text, summary_of}
use Rattle.sp_journal.specs.declared.entry.Entry.{Entry}
use Rattle.sp_journal.specs.declared.entry.ItemWord.{ItemWord}

abbrev pub Done : Type 0
Done = Result (Unit {0}) Memory

-- the words of items, each after a space
items_spaced : (items : List ItemWord) → flat_map (λ item. 32 ∷ item_word item) items ≡ after_spaces (map item_word items)
items_spaced [] = refl
items_spaced (item ∷ items) = ap (λ (xs : List ℕ). (32 ∷ item_word item) ++ xs) (items_spaced items)

-- what a link answered, and its items
pub arrival_written : (r : Done) (fields : List Word) (items : List ItemWord) (old a new : List ℕ) → a ≡ old ++ after_spaces fields
    → OnOk r (new ≡ a ++ flat_map (λ item. 32 ∷ item_word item) items) → OnOk r (new ≡ old ++ after_spaces (fields ++ map item_word items))
arrival_written (Ok done) fields items old a new is_a is_new =
    is_new ∙ ap (λ (xs : List ℕ). xs ++ flat_map (λ item. 32 ∷ item_word item) items) is_a
    ∙ append_assoc old (after_spaces fields) (flat_map (λ item. 32 ∷ item_word item) items)
    ∙ ap (λ (xs : List ℕ). old ++ (after_spaces fields ++ xs)) (items_spaced items)
    ∙ ap (λ (xs : List ℕ). old ++ xs) (sym (after_append fields (map item_word items)))
arrival_written (Err e) fields items old a new is_a is_new = is_new

-- a number, a space, the line of a reply, and those of the effects
pub entry_written : (r : Done) (number : ℕ) (entry : Entry) (old a b c new : List ℕ) → a ≡ old ++ decimal number → b ≡ a ++ codes " "
    → c ≡ b ++ line_text (reply_words entry.reply)
    → OnOk r (new ≡ c ++ effect_lines entry.effects) → OnOk r (new ≡ old ++ entry_text number entry)
unfolding entry_text
entry_written (Ok done) number entry old a b c new is_a is_b is_c is_new =
    is_new ∙ ap (λ (xs : List ℕ). xs ++ effect_lines entry.effects)
    (is_c ∙ ap (λ (xs : List ℕ). xs ++ line_text (reply_words entry.reply)) (is_b ∙ ap (λ (xs : List ℕ). xs ++ codes " ") is_a))
    ∙ join old (decimal number) (join_with_byte 32 (reply_words entry.reply)) (effect_lines entry.effects)
  where
    join : (o d w e : List ℕ) → (((o ++ d) ++ codes " ") ++ (w ++ 10 ∷ [])) ++ e ≡ o ++ (((d ++ 32 ∷ w) ++ 10 ∷ []) ++ e)
    join o d w e = simp append_assoc
entry_written (Err e) number entry old a b c new is_a is_b is_c is_new = is_new

-- ---- a summary

five : (o : List ℕ) (x y z u v : List Word)
    → ((((o ++ after_spaces x) ++ after_spaces y) ++ after_spaces z) ++ after_spaces u) ++ after_spaces v ≡ o ++ after_spaces (x ++ (y ++ (z ++ (u ++ v))))
five o x y z u v = rw (after_append x (y ++ (z ++ (u ++ v))), after_append y (z ++ (u ++ v)), after_append z (u ++ v), after_append u v) (simp append_assoc)

-- five pieces of words after a name
five_written : (name : Word) (x y z u v : List Word) (old a b c d e f new : List ℕ) → a ≡ old ++ name → b ≡ a ++ after_spaces x → c ≡ b ++ after_spaces y
    → d ≡ c ++ after_spaces z
    → e ≡ d ++ after_spaces u → f ≡ e ++ after_spaces v → new ≡ f ++ 10 ∷ [] → new ≡ old ++ line_text (name ∷ (x ++ (y ++ (z ++ (u ++ v)))))
five_written name x y z u v old a b c d e f new is_a is_b is_c is_d is_e is_f is_new =
    line_written name (x ++ (y ++ (z ++ (u ++ v)))) old a f new is_a
    (is_f ∙ ap (λ (xs : List ℕ). xs ++ after_spaces v)
    (is_e ∙ ap (λ (xs : List ℕ). xs ++ after_spaces u)
    (is_d ∙ ap (λ (xs : List ℕ). xs ++ after_spaces z) (is_c ∙ ap (λ (xs : List ℕ). xs ++ after_spaces y) is_b)))
    ∙ five a x y z u v) is_new

pub summary_written : (events sent delivered priority frames : ℕ) (old a b c d e f new : List ℕ) → a ≡ old ++ codes "summary"
    → b ≡ a ++ after_spaces (codes "events" ∷ decimal events ∷ [])
    → c ≡ b ++ after_spaces (codes "sent" ∷ decimal sent ∷ []) → d ≡ c ++ after_spaces (codes "delivered" ∷ decimal delivered ∷ [])
    → e ≡ d ++ after_spaces (codes "priority" ∷ decimal priority ∷ [])
    → f ≡ e ++ after_spaces (codes "frames" ∷ decimal frames ∷ []) → new ≡ f ++ 10 ∷ []
    → new ≡ old ++ line_text (summary_of events sent delivered priority frames)
summary_written events sent delivered priority frames old a b c d e f new is_a is_b is_c is_d is_e is_f is_new =
    five_written (codes "summary") (codes "events" ∷ decimal events ∷ []) (codes "sent" ∷ decimal sent ∷ []) (codes "delivered" ∷ decimal delivered ∷ [])
    (codes "priority" ∷ decimal priority ∷ [])
    (codes "frames" ∷ decimal frames ∷ []) old a b c d e f new is_a is_b is_c is_d is_e is_f is_new
