-- The table of items, whose words are those of its items.
use Rattle.std.proofs.Common.{◌≡◌, List, [], ◌∷◌, map, Bor, refl, inl, inr}
use Rattle.std.specs.Prelude.{find, option_map}
use Rattle.std.proofs.lemmas.Bool.{cases_Bool}
use Rattle.sp_text.specs.Spelling.{Word}
use Rattle.sp_lines.specs.Cells.{same}
use Rattle.sp_journal.specs.Words.{item_word}
use Rattle.sp_journal.specs.declared.entry.ItemWord.{ItemWord}
use Rattle.sp_journal_reading.specs.ReplyTable.{item_among}

-- a search among rows is one among their items, where each row has the word of its item
pub rows_are_items : (word : Word) (rows : List (Bor Word × ItemWord)) → map (λ r. r.0.now) rows ≡ map (λ r. item_word r.1) rows
    → option_map (λ r. r.1) (find (λ r. same word r.0.now) rows) ≡ item_among (map (λ r. r.1) rows) word
rows_are_items word [] are = refl
rows_are_items word (row ∷ rows) are =
    let here : row.0.now ≡ item_word row.1 = cc in
    let more : map (λ r. r.0.now) rows ≡ map (λ r. item_word r.1) rows = cc in
    elim (cases_Bool (same word (item_word row.1))) [
      | inl t ↦ rw (here, t) refl
      | inr t ↦ rw (here, t) (rows_are_items word rows more)
    ]
