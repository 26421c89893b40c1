-- Events, their rows and their words.
use Rattle.std.proofs.Common.{◌≡◌, ℕ, ◌<◌, ◌≤◌, ◌+◌, ◌^◌, ◌-◌, ◌==◌, Bool, true, false, List, [], ◌∷◌, length, Option, Some, None, Ok, Err, refl, sym}
use Rattle.std.proofs.Common.{subst, ◌∙◌, ap, arith, cond, inl, inr, if◌then◌else◌}
use Rattle.std.specs.Prelude.{◌&&◌, codes, find, nat_le, nat_lt, not}
use Rattle.std.specs.List.{list_all}
use Rattle.std.specs.Fmt.{decimal}
use Rattle.std.specs.Str.Parse.{AllDigits}
use Rattle.std.proofs.lemmas.Fmt.{decimal_is_IsNumeral}
use Rattle.std.proofs.lemmas.Str.Parse.{digit_from_value}
use Rattle.std.proofs.lemmas.Bool.{and_from, and_parts, cases_Bool}
use Rattle.std.proofs.lemmas.Bool.Decides.{nat_tests}
use Rattle.sp_base.specs.Formats.{max_edges, max_nodes}
use Rattle.sp_base.specs.declared.format.TheConstants.{FORMAT_1}
use Rattle.sp_base.specs.declared.id.NodeId.{NodeId}
use Rattle.sp_base.specs.declared.limits.TheConstants.{MAX_LINE_BYTES}
use Rattle.sp_base.proofs.RefusalLemmas.{then_ok}
use Rattle.sp_schedule_crafts.specs.Objects as crafts
use Rattle.sp_schedule_crafts.specs.declared.object.CraftedObject.{CraftedObject}
use Rattle.sp_schedule_crafts.specs.declared.object.CraftedObject.TheVariants as crafted
use Rattle.sp_text.specs.Spelling.{Word}
use Rattle.sp_lines.specs.Cells.{Cell, same}
use Rattle.sp_lines.specs.Rows.{AreIn, Values, fits, row_at, spelled}
use Rattle.sp_lines.specs.Widths.{is_good_cell, is_good_row, widths}
use Rattle.sp_lines.specs.declared.fault.Fault.TheVariants as faults
use Rattle.sp_lines.proofs.RowLemmas.{fit_parts, row_back, row_read}
use Rattle.sp_lines.proofs.TextLemmas.{IsGoodLine}
use Rattle.sp_lines.proofs.WidthLemmas.{good_cells, good_row_line}
use Rattle.sp_lines.proofs.Words.{same_words}
use Rattle.sp_schedule_crafts.specs.declared.form.ObjectForm.TheVariants as objects
use Rattle.sp_schedule_events.specs.Events.{event_of, event_words, form_of, has_object, is_joined, values_of}
use Rattle.sp_schedule_events.specs.EventLines.{InRange, form_for, if_joined, read_event, read_for, read_form}
use Rattle.sp_schedule_events.specs.Documents.{may_craft, may_publish, published}
use Rattle.sp_schedule_events.specs.Lives.{is_started, may_act}
use Rattle.sp_schedule_events.specs.Scenarios.{are_joined, differ, has_documents, has_paths}
use Rattle.sp_schedule_events.proofs.NameLemmas.{found_fits}
use Rattle.sp_schedule_events.specs.Laws.{EventsHaveOneLine}
use Rattle.sp_schedule_events.specs.Table as forms
use Rattle.sp_schedule_events.specs.Table.{Form, cells, has_form, is_report}
use Rattle.sp_schedule_events.specs.declared.scenario.Scenario.{Scenario}
use Rattle.sp_schedule_events.specs.declared.event.Event.{Event}
use Rattle.sp_schedule_events.specs.declared.event.Event.TheVariants as events

-- ---- rows and events

-- an event is that of its row with its values
event_back : (s : Scenario) (e : Event) → event_of s (form_of e) (values_of s e) ≡ e
event_back z (events.Rel s d payload) = refl
event_back z (events.Prio s d prio expiry paths payload) = refl
event_back z (events.Take d s) = refl
event_back z (events.TakePrio d) = refl
event_back z (events.Tick u now) = refl
event_back z (events.Weight u v weight) = refl
event_back z (events.Poll u v) = refl
event_back z (events.Pass u v n) = refl
event_back z (events.Flip u v n back bit) = refl
event_back z (events.Inject u v bytes) = refl
event_back z (events.CraftStatus c v s d base have) = refl
event_back z (events.Craft c v key (crafted.Rel r)) = refl
event_back z (events.Craft c v key (crafted.Ack a)) = refl
event_back z (events.Craft c v key (crafted.Prio p)) = refl
event_back z (events.Craft c v key (crafted.Weight w)) = refl
event_back z (events.Craft c v key (crafted.Krel r)) = refl
event_back z (events.Craft c v key (crafted.Kack a)) = refl
event_back z (events.Start u) = refl
event_back z (events.Stop u) = refl
event_back z (events.Publish u weights) = refl
event_back z (events.Krel s d paths payload) = refl
event_back z (events.KTake d s) = refl
event_back z (events.CraftDocument c v key version weights) = refl

-- the words of a row's values are those of its event, which are in the same ranges
record IsOfForm (s : Scenario) (form : Form) (xs : Values (cells s form)) : Type 0 where
  words : event_words s (event_of s form xs) ≡ spelled (cells s form) xs
  ranges : AreIn (cells s form) xs → AreIn (cells s (form_of (event_of s form xs))) (values_of s (event_of s form xs))

of_form : (s : Scenario) (form : Form) (xs : Values (cells s form)) → IsOfForm s form xs
of_form s forms.Rel xs = record { words = refl; ranges = λ are. are }
of_form s forms.Prio xs = record { words = refl; ranges = λ are. are }
of_form s forms.Take xs = record { words = refl; ranges = λ are. are }
of_form s forms.TakePrio xs = record { words = refl; ranges = λ are. are }
of_form s forms.Tick xs = record { words = refl; ranges = λ are. are }
of_form s forms.Weight xs = record { words = refl; ranges = λ are. are }
of_form s forms.Poll xs = record { words = refl; ranges = λ are. are }
of_form s forms.Pass xs = record { words = refl; ranges = λ are. are }
of_form s forms.Flip xs = record { words = refl; ranges = λ are. are }
of_form s forms.Inject xs = record { words = refl; ranges = λ are. are }
of_form s forms.CraftStatus xs = record { words = refl; ranges = λ are. are }
of_form s (forms.Craft objects.Rel) xs = record { words = refl; ranges = λ are. are }
of_form s (forms.Craft objects.Ack) xs = record { words = refl; ranges = λ are. are }
of_form s (forms.Craft objects.Prio) xs = record { words = refl; ranges = λ are. are }
of_form s (forms.Craft objects.Weight) xs = record { words = refl; ranges = λ are. are }
of_form s (forms.Craft objects.Krel) xs = record { words = refl; ranges = λ are. are }
of_form s (forms.Craft objects.Kack) xs = record { words = refl; ranges = λ are. are }
of_form s forms.Start xs = record { words = refl; ranges = λ are. are }
of_form s forms.Stop xs = record { words = refl; ranges = λ are. are }
of_form s forms.Publish xs = record { words = refl; ranges = λ are. are }
of_form s forms.Krel xs = record { words = refl; ranges = λ are. are }
of_form s forms.KTake xs = record { words = refl; ranges = λ are. are }
of_form s forms.CraftDocument xs = record { words = refl; ranges = λ are. are }

-- ---- the row that an event's words fit

-- no decimal is the word `status`
not_digits : AllDigits 10 (codes "status") → ⊥
not_digits all = let range = digit_from_value 115 all.0 in absurd (omega (arith, range.0, range.1))

not_status : (n : ℕ) → n < 2 ^ 64 → same (decimal n) (codes "status") ≡ false
not_status n small =
    elim (cases_Bool (same (decimal n) (codes "status"))) [
      | inr other ↦ other
      | inl is_same ↦ absurd (not_digits (subst (AllDigits 10) (same_words (decimal n) (codes "status") is_same) (decimal_is_IsNumeral n small).0.1))
    ]

-- the nodes and the edges of a format are few
pub nodes_small : (format : ℕ) → max_nodes format < 2 ^ 64
nodes_small format = elim (cases_Bool (format == FORMAT_1)) [
  | inl one ↦ rw one (omega arith)
  | inr two ↦ rw two (omega arith)
]

edges_small : (format : ℕ) → max_edges format - 1 < 2 ^ 64
edges_small format = elim (cases_Bool (format == FORMAT_1)) [
  | inl one ↦ rw one (omega arith)
  | inr two ↦ rw two (omega arith)
]

-- the key of a crafted frame is a node, or 0
key_small : (s : Scenario) → s.graph.nodes ≤ max_nodes s.format → (n : ℕ) → n ≤ s.graph.nodes → n < 2 ^ 64
key_small s few n below = omega (arith, few, below, nodes_small s.format)

-- the form of words that aren't those of a report
again : (s : Scenario) (words : List Word) (found : Form) → is_report words ≡ false
    → find (λ f. fits (cells s f) words && has_form s f) forms.forms ≡ Some found → form_for s words ≡ Some found
again s words found other is =
    ap (λ (report : Bool). find (λ f. fits (cells s f) words && has_form s f) (if report then forms.CraftStatus ∷ [] else forms.forms)) other ∙ is

-- the form that fits is the one, where the scenario has it
had : (form : Form) (has : Bool) → has ≡ true → cond has (Some form) None ≡ Some form
had form has is = ap (λ (t : Bool). cond t (Some form) None) is

-- an object is no report
object_again : (s : Scenario) (c v key : NodeId) (o : CraftedObject) → s.graph.nodes ≤ max_nodes s.format → key.0 ≤ s.graph.nodes → has_object s o ≡ true
    → form_for s (event_words s (events.Craft c v key o)) ≡ Some (forms.Craft (crafts.form_of o))
object_again z c v key o few below has =
    again z (event_words z (events.Craft c v key o)) (forms.Craft (crafts.form_of o)) (not_status key.0 (key_small z few key.0 below)) (go o has)
  where
    go : (o : CraftedObject) → has_object z o ≡ true
        → find (λ f. fits (cells z f) (event_words z (events.Craft c v key o)) && has_form z f) forms.forms ≡ Some (forms.Craft (crafts.form_of o))
    go (crafted.Rel x) has = had (forms.Craft objects.Rel) (crafts.has_form z.format objects.Rel) has
    go (crafted.Ack x) has = had (forms.Craft objects.Ack) (crafts.has_form z.format objects.Ack) has
    go (crafted.Prio x) has = had (forms.Craft objects.Prio) (crafts.has_form z.format objects.Prio) has
    go (crafted.Weight x) has = had (forms.Craft objects.Weight) (crafts.has_form z.format objects.Weight) has
    go (crafted.Krel x) has = had (forms.Craft objects.Krel) (crafts.has_form z.format objects.Krel) has
    go (crafted.Kack x) has = had (forms.Craft objects.Kack) (crafts.has_form z.format objects.Kack) has

form_again : (s : Scenario) (es : List Event) (e : Event) → s.graph.nodes ≤ max_nodes s.format → InRange s es e
    → form_for s (event_words s e) ≡ Some (form_of e)
form_again z es (events.Rel s d payload) few is = refl
form_again z es (events.Prio s d prio expiry paths payload) few is = refl
form_again z es (events.Take d s) few is = refl
form_again z es (events.TakePrio d) few is = refl
form_again z es (events.Tick u now) few is = refl
form_again z es (events.Weight u v weight) few is = refl
form_again z es (events.Poll u v) few is = refl
form_again z es (events.Pass u v n) few is = refl
form_again z es (events.Flip u v n back bit) few is = refl
form_again z es (events.Inject u v bytes) few is = refl
form_again z es (events.CraftStatus c v s d base have) few is = refl
form_again z es (events.Craft c v key o) few is =
    object_again z c v key o few is.values.2.3.1 (and_parts (has_object z o) (are_joined z c.0 v.0) is.joined).0
form_again z es (events.Start u) few is = had forms.Start z.epochs (and_parts z.epochs (not (is_started es u.0)) is.may).0
form_again z es (events.Stop u) few is = had forms.Stop z.epochs (and_parts z.epochs (is_started es u.0) is.may).0
form_again z es (events.Publish u weights) few is =
    had forms.Publish (has_documents z) (and_parts (has_documents z) (may_publish z (published es) weights) is.joined).0
form_again z es (events.Krel s d paths payload) few is = had forms.Krel (has_paths z) (and_parts (has_paths z) (differ s.0 d.0) is.joined).0
form_again z es (events.KTake d s) few is = had forms.KTake (has_paths z) (and_parts (has_paths z) (differ d.0 s.0) is.joined).0
form_again z es (events.CraftDocument c v key version weights) few is =
    again z (event_words z (events.CraftDocument c v key version weights)) forms.CraftDocument (not_status key (key_small z few key is.values.2.3.1))
    (had forms.CraftDocument (has_documents z)
    (and_parts (has_documents z) (are_joined z c.0 v.0 && may_craft z (published es) key version weights) is.joined).0)

-- ---- good rows

-- the places of each row are good
good_places : (s : Scenario) (form : Form) → s.graph.nodes ≤ max_nodes s.format → list_all is_good_cell (cells s form) ≡ true
good_places s form few = go form
  where
    room : nat_lt s.graph.nodes (2 ^ 64) ≡ true
    room = grind (arith, nat_tests, few, nodes_small s.format)

    ids : nat_lt (max_nodes s.format) (2 ^ 64) ≡ true
    ids = grind (arith, nat_tests, nodes_small s.format)

    edges : nat_lt (max_edges s.format - 1) (2 ^ 64) ≡ true
    edges = grind (arith, nat_tests, edges_small s.format)

    go : (f : Form) → list_all is_good_cell (cells s f) ≡ true
    go forms.Rel = rw room refl
    go forms.Prio = rw room refl
    go forms.Take = rw room refl
    go forms.TakePrio = rw room refl
    go forms.Tick = rw room refl
    go forms.Weight = rw room refl
    go forms.Poll = rw room refl
    go forms.Pass = rw room refl
    go forms.Flip = rw room refl
    go forms.Inject = rw room refl
    go forms.CraftStatus = rw room refl
    go (forms.Craft objects.Rel) = rw (room, ids) refl
    go (forms.Craft objects.Ack) = rw (room, ids) refl
    go (forms.Craft objects.Kack) = rw (room, ids) refl
    go (forms.Craft objects.Prio) = rw (room, ids) refl
    go (forms.Craft objects.Krel) = rw (room, ids) refl
    go (forms.Craft objects.Weight) = rw (room, ids, edges) refl
    go forms.Start = rw room refl
    go forms.Stop = rw room refl
    go forms.Krel = rw room refl
    go forms.KTake = rw room refl
    go forms.Publish = rw room refl
    go forms.CraftDocument = rw room refl

-- there is one, and the line isn't too long
record IsShort (cs : List Cell) : Type 0 where
  some : nat_le 1 (length cs) ≡ true
  short : nat_le (widths cs) (MAX_LINE_BYTES + 1) ≡ true

short_row : (s : Scenario) (form : Form) → length s.graph.edges ≤ max_edges s.format → IsShort (cells s form)
short_row s form few = go form
  where
    narrow : (count : ℕ) → count ≤ max_edges s.format → count ≤ 256
    narrow count within = elim (cases_Bool (s.format == FORMAT_1)) [
      | inl one ↦ (let small : count ≤ 120 = rw one at within in omega (arith, small))
      | inr two ↦ (let small : count ≤ 256 = rw two at within in small)
    ]

    go : (f : Form) → IsShort (cells s f)
    go forms.Rel = record { some = refl; short = refl }
    go forms.Prio = record { some = refl; short = refl }
    go forms.Take = record { some = refl; short = refl }
    go forms.TakePrio = record { some = refl; short = refl }
    go forms.Tick = record { some = refl; short = refl }
    go forms.Weight = record { some = refl; short = refl }
    go forms.Poll = record { some = refl; short = refl }
    go forms.Pass = record { some = refl; short = refl }
    go forms.Flip = record { some = refl; short = refl }
    go forms.Inject = record { some = refl; short = refl }
    go forms.CraftStatus = record { some = refl; short = refl }
    go (forms.Craft objects.Rel) = record { some = refl; short = refl }
    go (forms.Craft objects.Ack) = record { some = refl; short = refl }
    go (forms.Craft objects.Kack) = record { some = refl; short = refl }
    go (forms.Craft objects.Prio) = elim (cases_Bool (s.format == FORMAT_1)) [
      | inl one ↦ record { some = refl; short = rw one refl }
      | inr two ↦ record { some = refl; short = rw two refl }
    ]
    go (forms.Craft objects.Krel) = elim (cases_Bool (s.format == FORMAT_1)) [
      | inl one ↦ record { some = refl; short = rw one refl }
      | inr two ↦ record { some = refl; short = rw two refl }
    ]
    go (forms.Craft objects.Weight) = record { some = refl; short = refl }
    go forms.Start = record { some = refl; short = refl }
    go forms.Stop = record { some = refl; short = refl }
    go forms.Krel = record { some = refl; short = refl }
    go forms.KTake = record { some = refl; short = refl }
    go forms.Publish = record { some = refl; short = grind (arith, nat_tests, narrow (length s.graph.edges) few) }
    go forms.CraftDocument = record { some = refl; short = grind (arith, nat_tests, narrow (length s.graph.edges) few) }

-- the line of an event in its ranges can be read
pub good_event_line : (s : Scenario) (es : List Event) (e : Event) → s.graph.nodes ≤ max_nodes s.format → length s.graph.edges ≤ max_edges s.format
    → InRange s es e
    → IsGoodLine (event_words s e)
good_event_line s es e few many is =
    let cs = cells s (form_of e) in
    let short = short_row s (form_of e) many in
    let good : is_good_row cs ≡ true =
    and_from (nat_le 1 (length cs) && list_all is_good_cell cs) (nat_le (widths cs) (MAX_LINE_BYTES + 1))
    (and_from (nat_le 1 (length cs)) (list_all is_good_cell cs) short.some (good_places s (form_of e) few)) short.short in
    good_row_line cs (values_of s e) good is.values

-- ---- both ways

joined_read : (t : Bool) (e f : Event) → (if t then Ok e else Err faults.Range) ≡ Ok f → (e ≡ f) × (t ≡ true)
joined_read true e f is = (cc, refl)
joined_read false e f is = absurd cc

form_read : (s : Scenario) (es : List Event) (form : Form) (words : List Word) (e : Event) → fits (cells s form) words ≡ true → read_form s es form words ≡ Ok e
    → InRange s es e × (words ≡ event_words s e)
unfolding read_form
form_read s es form words e fit read =
    let step = then_ok (row_at (cells s form) words) (λ xs. if_joined s es (event_of s form xs)) e read in
    let xs = step.0 in
    let joined = joined_read (may_act s.epochs es (event_of s form xs) && is_joined s es (event_of s form xs)) (event_of s form xs) e step.2 in
    let rules = and_parts (may_act s.epochs es (event_of s form xs)) (is_joined s es (event_of s form xs)) joined.1 in
    let parts = fit_parts (cells s form) words fit in
    let row = row_read (cells s form) words xs parts.0 parts.1 step.1 in
    let of = of_form s form xs in
    let all : InRange s es (event_of s form xs) × (words ≡ event_words s (event_of s form xs)) =
    (record { values = of.ranges row.0; joined = rules.1; may = rules.0 }, row.1 ∙ sym of.words) in
    subst (λ (f : Event). InRange s es f × (words ≡ event_words s f)) joined.0 all

event_read : (s : Scenario) (es : List Event) (words : List Word) (e : Event) → (found : Option Form) → form_for s words ≡ found
    → read_for s es found words ≡ Ok e
    → InRange s es e × (words ≡ event_words s e)
event_read s es words e None is read = absurd cc
event_read s es words e (Some form) is read =
    let fit = found_fits (λ f. fits (cells s f) words && has_form s f) (forms.forms_for words) form is in
    form_read s es form words e (and_parts (fits (cells s form) words) (has_form s form) fit).0 read

event_back_read : (s : Scenario) (es : List Event) (e : Event) → s.graph.nodes ≤ max_nodes s.format → InRange s es e → read_event s es (event_words s e) ≡ Ok e
unfolding read_form
event_back_read s es e few is =
    let row = row_back (cells s (form_of e)) (values_of s e) (good_cells (cells s (form_of e)) (good_places s (form_of e) few)) is.values in
    rw (form_again s es e few is) (rw row (rw (event_back s e) (rw (is.may, is.joined) refl)))

pub events_have_one_line : EventsHaveOneLine
events_have_one_line s es words e few = (
  λ read. event_read s es words e (form_for s words) refl read,
  λ is. subst (λ (ws : List Word). read_event s es ws ≡ Ok e) (sym is.1) (event_back_read s es e few is.0),
)
