-- Replies, their rows and their words.
use Rattle.std.proofs.Common.{ℕ, ◌≡◌, ◌≤◌, true, List, [], ◌∷◌, length, map, Option, Some, None, Ok, inl, inr, refl, sym, ap, subst, ◌∙◌, arith}
use Rattle.std.specs.Prelude.{All, codes, nat_le}
use Rattle.std.proofs.lemmas.Bool.{cases_Bool}
use Rattle.std.proofs.lemmas.Bool.Decides.{nat_tests}
use Rattle.std.proofs.lemmas.List.Elements.{All-cons, All-head, All-nil, All-tail}
use Rattle.sp_base.specs.Refusals.{◌>>=◌}
use Rattle.sp_base.proofs.RefusalLemmas.{then_ok}
use Rattle.sp_text.specs.Spelling.{Word}
use Rattle.sp_lines.specs.Cells.{same}
use Rattle.sp_lines.specs.Rows.{AreIn, Values, fits, row_at, spelled}
use Rattle.sp_lines.specs.Widths.{is_good_row}
use Rattle.std.specs.Fmt.{decimal}
use Rattle.sp_lines.specs.Cells.{number_at}
use Rattle.sp_lines.proofs.PlaceLemmas.{number_at_back, number_at_read}
use Rattle.sp_journal_reading.specs.ReplyTable.{MAX_ENTRIES, read_entry}
use Rattle.sp_lines.proofs.RowLemmas.{fit_parts, row_back, row_read}
use Rattle.sp_lines.proofs.WidthLemmas.{good_row_room}
use Rattle.sp_lines.proofs.Words.{same_words}
use Rattle.sp_journal_reading.specs.Laws.{EntriesHaveOneLine, RepliesHaveOneLine}
use Rattle.sp_journal_reading.specs.ReplyTable as forms
use Rattle.sp_journal_reading.specs.ReplyTable.{Form, IsGoodReply, IsItem, Of_items, Of_row, all_items, cells, form_for, item_among, item_at, items_at, or_form}
use Rattle.sp_journal_reading.specs.ReplyTable.{read_for, read_form, read_fresh, read_reply, reply_of}
use Rattle.sp_journal.specs.Words.{item_word, reply_words}
use Rattle.sp_journal_reading.specs.declared.item_words.TheConstants.{MAX_ITEMS}
use Rattle.sp_journal.specs.declared.entry.ItemWord.{ItemWord}
use Rattle.sp_journal.specs.declared.entry.LinkWord.TheVariants as links
use Rattle.sp_journal.specs.declared.entry.SectionWord.TheVariants as sections
use Rattle.sp_journal.specs.declared.entry.Reply.{Reply}
use Rattle.sp_journal.specs.declared.entry.Reply.TheVariants as replies
use Rattle.sp_journal_reading.proofs.EffectLemmas.{found_fits}

-- ---- rows

-- the words of a row's values are those of its reply, fit that row and none before it, and aren't those of fresh
record IsOfForm (form : Form) (xs : Values (cells form)) : Type 0 where
  words : reply_words (reply_of form xs) ≡ spelled (cells form) xs
  reads : read_reply (spelled (cells form) xs) ≡ read_form form (spelled (cells form) xs)

of_form : (form : Form) (xs : Values (cells form)) → IsOfForm form xs
of_form forms.Accepted xs = record { words = refl; reads = refl }
of_form forms.Full xs = record { words = refl; reads = refl }
of_form forms.Spent xs = record { words = refl; reads = refl }
of_form forms.Expired xs = record { words = refl; reads = refl }
of_form forms.NoPaths xs = record { words = refl; reads = refl }
of_form forms.Busy xs = record { words = refl; reads = refl }
of_form forms.Payload xs = record { words = refl; reads = refl }
of_form forms.PayloadPrio xs = record { words = refl; reads = refl }
of_form forms.Empty xs = record { words = refl; reads = refl }
of_form forms.Ticked xs = record { words = refl; reads = refl }
of_form forms.TickSpent xs = record { words = refl; reads = refl }
of_form forms.TickNotReserved xs = record { words = refl; reads = refl }
of_form forms.Low xs = record { words = refl; reads = refl }
of_form forms.BadEnd xs = record { words = refl; reads = refl }
of_form forms.Frame xs = record { words = refl; reads = refl }
of_form forms.TooLong xs = record { words = refl; reads = refl }
of_form forms.Short xs = record { words = refl; reads = refl }
of_form forms.Magic xs = record { words = refl; reads = refl }
of_form forms.Version xs = record { words = refl; reads = refl }
of_form forms.NotForMe xs = record { words = refl; reads = refl }
of_form forms.BadTag xs = record { words = refl; reads = refl }
of_form forms.Learned xs = record { words = refl; reads = refl }
of_form forms.Stale xs = record { words = refl; reads = refl }
of_form forms.Topology xs = record { words = refl; reads = refl }
of_form (forms.Section sections.Cut) xs = record { words = refl; reads = refl }
of_form (forms.Section sections.Count) xs = record { words = refl; reads = refl }
of_form (forms.Section sections.Object) xs = record { words = refl; reads = refl }
of_form (forms.Section sections.Tail) xs = record { words = refl; reads = refl }
of_form forms.Started xs = record { words = refl; reads = refl }
of_form forms.Exhausted xs = record { words = refl; reads = refl }
of_form forms.Stopped xs = record { words = refl; reads = refl }
of_form forms.Down xs = record { words = refl; reads = refl }
of_form forms.Adopted xs = record { words = refl; reads = refl }
of_form forms.DocumentOld xs = record { words = refl; reads = refl }
of_form forms.Withdrawn xs = record { words = refl; reads = refl }

pub good_form : (form : Form) → is_good_row (cells form) ≡ true
good_form forms.Accepted = refl
good_form forms.Full = refl
good_form forms.Spent = refl
good_form forms.Expired = refl
good_form forms.NoPaths = refl
good_form forms.Busy = refl
good_form forms.Payload = refl
good_form forms.PayloadPrio = refl
good_form forms.Empty = refl
good_form forms.Ticked = refl
good_form forms.TickSpent = refl
good_form forms.TickNotReserved = refl
good_form forms.Low = refl
good_form forms.BadEnd = refl
good_form forms.Frame = refl
good_form forms.TooLong = refl
good_form forms.Short = refl
good_form forms.Magic = refl
good_form forms.Version = refl
good_form forms.NotForMe = refl
good_form forms.BadTag = refl
good_form forms.Learned = refl
good_form forms.Stale = refl
good_form forms.Topology = refl
good_form (forms.Section sections.Cut) = refl
good_form (forms.Section sections.Count) = refl
good_form (forms.Section sections.Object) = refl
good_form (forms.Section sections.Tail) = refl
good_form forms.Started = refl
good_form forms.Exhausted = refl
good_form forms.Stopped = refl
good_form forms.Down = refl
good_form forms.Adopted = refl
good_form forms.DocumentOld = refl
good_form forms.Withdrawn = refl

pub row_words : (form : Form) (xs : Values (cells form)) → reply_words (reply_of form xs) ≡ spelled (cells form) xs
row_words form xs = (of_form form xs).words

form_read : (form : Form) (words : List Word) (reply : Reply) → fits (cells form) words ≡ true → read_form form words ≡ Ok reply
    → IsGoodReply reply × (words ≡ reply_words reply)
unfolding read_form
form_read form words reply fit read =
    let step = then_ok (row_at (cells form) words) (λ xs. Ok (reply_of form xs)) reply read in
    let parts = fit_parts (cells form) words fit in
    let row = row_read (cells form) words step.0 parts.0 parts.1 step.1 in
    let is : reply_of form step.0 ≡ reply = let same_ok : Ok (reply_of form step.0) ≡ Ok reply = step.2 in cc in
    (Of_row form step.0 row.0 (sym is), row.1 ∙ sym (row_words form step.0) ∙ ap reply_words is)

row_reply_read : (words : List Word) (reply : Reply) (found : Option Form) → form_for words ≡ found → read_for found words ≡ Ok reply
    → IsGoodReply reply × (words ≡ reply_words reply)
row_reply_read words reply None is read = absurd cc
row_reply_read words reply (Some form) is read = form_read form words reply (found_fits (λ f. fits (cells f) words) forms.forms form is) read

row_reply_back : (form : Form) (xs : Values (cells form)) → AreIn (cells form) xs → read_reply (reply_words (reply_of form xs)) ≡ Ok (reply_of form xs)
unfolding read_form
row_reply_back form xs are =
    let row = row_back (cells form) xs (good_row_room (cells form) (good_form form)) are in
    let reads : read_reply (spelled (cells form) xs) ≡ Ok (reply_of form xs) = (of_form form xs).reads ∙ rw row refl in
    subst (λ (ws : List Word). read_reply ws ≡ Ok (reply_of form xs)) (sym (row_words form xs)) reads

-- ---- items

item_found : (word : Word) (item : ItemWord) (found : Option ItemWord) → item_among all_items word ≡ found → or_form found ≡ Ok item
    → IsItem item × (word ≡ item_word item)
item_found word item None is read = absurd cc
item_found word item (Some one) is read =
    let same_item : one ≡ item = let same_ok : Ok one ≡ Ok item = read in cc in
    let test : same word (item_word one) ≡ true = found_fits (λ other. same word (item_word other)) all_items one is in
    let spelled : word ≡ item_word one = same_words word (item_word one) test in
    let table : IsItem one = subst (λ (w : Word). item_among all_items w ≡ Some one) spelled is in
    (subst IsItem same_item table, spelled ∙ ap item_word same_item)

item_read : (word : Word) (item : ItemWord) → item_at word ≡ Ok item → IsItem item × (word ≡ item_word item)
unfolding item_at
item_read word item read = item_found word item (item_among all_items word) refl read

item_back : (item : ItemWord) → IsItem item → item_at (item_word item) ≡ Ok item
unfolding item_at
item_back item is = rw is refl

cons_words : (a b : Word) (vs ws : List Word) → a ≡ b → vs ≡ ws → (a ∷ vs) ≡ (b ∷ ws)
cons_words a b vs ws p q = rw (p, q) refl

items_read : (words : List Word) (each : List ItemWord) → items_at words ≡ Ok each → All IsItem each × (words ≡ map item_word each)
items_read [] each read =
    let none : [] ≡ each = let same_ok : Ok [] ≡ Ok each = read in cc in
    subst (λ (es : List ItemWord). All IsItem es × ([] ≡ map item_word es)) none (All-nil IsItem, refl)
items_read (word ∷ words) each read =
    let one = then_ok (item_at word) (λ item. items_at words >>= λ more. Ok (item ∷ more)) each read in
    let two = then_ok (items_at words) (λ more. Ok (one.0 ∷ more)) each one.2 in
    let first = item_read word one.0 one.1 in
    let others = items_read words two.0 two.1 in
    let all : one.0 ∷ two.0 ≡ each = let same_ok : Ok (one.0 ∷ two.0) ≡ Ok each = two.2 in cc in
    subst (λ (es : List ItemWord). All IsItem es × ((word ∷ words) ≡ map item_word es)) all
    (All-cons IsItem one.0 two.0 first.0 others.0, cons_words word (item_word one.0) words (map item_word two.0) first.1 others.1)

items_back : (each : List ItemWord) → All IsItem each → items_at (map item_word each) ≡ Ok each
items_back [] are = refl
items_back (item ∷ each) are = rw (item_back item (All-head IsItem item each are)) (rw (items_back each (All-tail IsItem item each are)) refl)

as_many_words : (each : List ItemWord) → length (map item_word each) ≡ length each
as_many_words [] = refl
as_many_words (item ∷ each) = omega (arith, as_many_words each)

fresh_read : (words : List Word) (reply : Reply) → read_fresh words ≡ Ok reply → IsGoodReply reply × ((codes "fresh" ∷ words) ≡ reply_words reply)
unfolding read_fresh
fresh_read words reply read =
    elim (cases_Bool (nat_le (length words) MAX_ITEMS)) [
      | inl few ↦ within (rw few at read) few
      | inr many ↦ absurd (let wrong = rw many at read in cc)
    ]
  where
    within : (items_at words >>= λ each. Ok (replies.Arrived links.Fresh each)) ≡ Ok reply → nat_le (length words) MAX_ITEMS ≡ true
        → IsGoodReply reply × ((codes "fresh" ∷ words) ≡ reply_words reply)
    within is few =
        let step = then_ok (items_at words) (λ each. Ok (replies.Arrived links.Fresh each)) reply is in
        let each = items_read words step.0 step.1 in
        let same_reply : replies.Arrived links.Fresh step.0 ≡ reply = let same_ok : Ok (replies.Arrived links.Fresh step.0) ≡ Ok reply = step.2 in cc in
        let count : length words ≡ length step.0 = ap (λ (ws : List Word). length ws) each.1 ∙ as_many_words step.0 in
        let enough : length words ≤ MAX_ITEMS = grind (arith, nat_tests, few) in (
          Of_items step.0 each.0 (omega (arith, count, enough)) (sym same_reply),
          ap (λ (ws : List Word). codes "fresh" ∷ ws) each.1 ∙ ap reply_words same_reply,
        )

fresh_back : (each : List ItemWord) → All IsItem each → length each ≤ MAX_ITEMS → read_fresh (map item_word each) ≡ Ok (replies.Arrived links.Fresh each)
unfolding read_fresh
fresh_back each are few =
    let count = as_many_words each in
    let test : nat_le (length (map item_word each)) MAX_ITEMS ≡ true = rw count (grind (arith, nat_tests, few)) in
    rw test (rw (items_back each are) refl)

-- ---- both

reply_read : (words : List Word) (reply : Reply) → read_reply words ≡ Ok reply → IsGoodReply reply × (words ≡ reply_words reply)
reply_read [] reply read = absurd cc
reply_read (name ∷ words) reply read =
    elim (cases_Bool (same name (codes "fresh"))) [
      | inl is ↦ (
          let both = fresh_read words reply (rw is at read) in
          (both.0, ap (λ (w : Word). w ∷ words) (same_words name (codes "fresh") is) ∙ both.1)
          )
      | inr other ↦ row_reply_read (name ∷ words) reply (form_for (name ∷ words)) refl (rw other at read)
    ]

reply_back : (reply : Reply) → IsGoodReply reply → read_reply (reply_words reply) ≡ Ok reply
reply_back reply (Of_row form xs are is) = subst (λ (r : Reply). read_reply (reply_words r) ≡ Ok r) (sym is) (row_reply_back form xs are)
reply_back reply (Of_items each are few is) = subst (λ (r : Reply). read_reply (reply_words r) ≡ Ok r) (sym is) (fresh_back each are few)

pub replies_have_one_line : RepliesHaveOneLine
replies_have_one_line words reply = (λ read. reply_read words reply read, λ is. rw is.1 (reply_back reply is.0))

-- ---- with the number

entry_read : (words : List Word) (number : ℕ) (reply : Reply) → read_entry words ≡ Ok (number, reply)
    → ((1 ≤ number) × (number ≤ MAX_ENTRIES) × IsGoodReply reply) × (words ≡ decimal number ∷ reply_words reply)
entry_read [] number reply read = absurd cc
entry_read (word ∷ words) number reply read =
    let one = then_ok (number_at 1 MAX_ENTRIES word) (λ n. read_reply words >>= λ r. Ok (n, r)) (number, reply) read in
    let two = then_ok (read_reply words) (λ r. Ok (one.0, r)) (number, reply) one.2 in
    let first = number_at_read 1 MAX_ENTRIES one.0 word one.1 in
    let more = reply_read words two.0 two.1 in
    let pair : (one.0, two.0) ≡ (number, reply) = let same_ok : Ok (one.0, two.0) ≡ Ok (number, reply) = two.2 in cc in
    subst (λ (p : ℕ × Reply). ((1 ≤ p.0) × (p.0 ≤ MAX_ENTRIES) × IsGoodReply p.1) × ((word ∷ words) ≡ decimal p.0 ∷ reply_words p.1)) pair
    ((first.1, first.2, more.0), cons_words word (decimal one.0) words (reply_words two.0) first.0 more.1)

pub entry_back : (number : ℕ) (reply : Reply) → 1 ≤ number → number ≤ MAX_ENTRIES → IsGoodReply reply
    → read_entry (decimal number ∷ reply_words reply) ≡ Ok (number, reply)
entry_back number reply low high good =
    rw (number_at_back 1 MAX_ENTRIES number (omega arith) low high) (rw (reply_back reply good) refl)

pub entries_have_one_line : EntriesHaveOneLine
entries_have_one_line words number reply =
    (λ read. entry_read words number reply read, λ is. rw is.1 (entry_back number reply is.0.0 is.0.1 is.0.2))
