-- The line of a crafted frame: a report, or an object or a document behind the key that signs it.
use Rattle.std.proofs.Common.{◌≡◌, ◌<◌, ◌≤◌, ℕ, suc, get_or, ◌==◌, ◌&&◌, Bool, true, false, cond, List, [], ◌∷◌, Option, Some, None, Result, Ok, Err, Bor, refl}
use Rattle.std.proofs.Common.{sym, subst, ◌∙◌, ap, arith, inl, inr, drop, take, length, map, if◌then◌else◌}
use Rattle.std.specs.Prelude.{◌-◌, ◌^◌, codes, find, option_map}
use Rattle.std.proofs.lemmas.Bool.{cases_Bool, and_parts}
use Rattle.std.proofs.lemmas.Bool.Decides.{nat_tests}
use Rattle.std.proofs.lemmas.List.{take_all}
use Rattle.sp_base.specs.Refusals.{◌>>=◌}
use Rattle.sp_schedule_crafts.specs.declared.object.CraftedObject.{CraftedObject}
use Rattle.sp_text.specs.Spelling.{Word}
use Rattle.sp_lines.specs.Cells.{Bytes, Cell, Mask, Name, Number, Numbers, Tested, number_at, same, tested_at}
use Rattle.sp_lines.specs.Rows.{Values, agrees, fits, row_at}
use Rattle.sp_lines.specs.declared.fault.Fault.{Fault}
use Rattle.sp_lines.specs.declared.fault.Fault.TheVariants as faults
use Rattle.sp_lines.proofs.Words.{same_self, same_words}
use Rattle.sp_schedule_crafts.specs.Objects as objects
use Rattle.sp_schedule_crafts.specs.Objects.{id}
use Rattle.sp_schedule_crafts.specs.Reading as reading
use Rattle.sp_schedule_crafts.specs.declared.form.ObjectForm.{ObjectForm}
use Rattle.sp_schedule_crafts.specs.declared.form.ObjectForm.TheVariants as objs
use Rattle.sp_schedule_events.specs.Events.{event_of}
use Rattle.sp_schedule_events.specs.EventLines.{form_for, if_joined, read_event, read_for, read_form}
use Rattle.sp_schedule_events.specs.Names.{crafted_event, line_for, line_where}
use Rattle.sp_schedule_events.specs.Scenarios.{are_joined, has_documents, is_correct}
use Rattle.sp_schedule_events.specs.Table as forms
use Rattle.sp_schedule_events.specs.Table.{Form, cells, has_form}
use Rattle.sp_schedule_events.specs.declared.event.Event.{Event}
use Rattle.sp_schedule_events.specs.declared.event.Event.TheVariants as events
use Rattle.sp_schedule_events.specs.declared.scenario.Scenario.{Scenario}
use Rattle.sp_schedule_events.proofs.NameLemmas.{by_name, found_fits, one_form, one_less, same_search, starts, starts_so}

-- ---- which row

-- a row without names agrees with any words
abbrev HasNoName : List Cell → Type 0
HasNoName [] = Unit {0}
HasNoName (Name w ∷ cs) = ⊥
HasNoName (c ∷ cs) = HasNoName cs

agrees_all : (cs : List Cell) → HasNoName cs → (xs : List Word) → agrees cs xs ≡ true
agrees_all [] free xs = refl
agrees_all (Name w ∷ cs) free xs = absurd free
agrees_all (Number low high ∷ cs) free [] = refl
agrees_all (Number low high ∷ cs) free (x ∷ xs) = agrees_all cs free xs
agrees_all (Tested low high test ∷ cs) free [] = refl
agrees_all (Tested low high test ∷ cs) free (x ∷ xs) = agrees_all cs free xs
agrees_all (Bytes low high ∷ cs) free [] = refl
agrees_all (Bytes low high ∷ cs) free (x ∷ xs) = agrees_all cs free xs
agrees_all (Mask format ∷ cs) free [] = refl
agrees_all (Mask format ∷ cs) free (x ∷ xs) = agrees_all cs free xs
agrees_all (Numbers count high ∷ cs) free [] = refl
agrees_all (Numbers count high ∷ cs) free (x ∷ xs) = agrees_all cs free xs

turned : (a b : Bool) → (a && b) ≡ (b && a)
turned true true = refl
turned true false = refl
turned false true = refl
turned false false = refl

turned_count : (a b : ℕ) → (a == b) ≡ (b == a)
turned_count a b = grind (arith, nat_tests)

-- four words more on both sides
four_less : (a b : ℕ) → (suc (suc (suc (suc a))) == suc (suc (suc (suc b)))) ≡ (b == a)
four_less a b =
    one_less (suc (suc (suc a))) (suc (suc (suc b))) ∙ one_less (suc (suc a)) (suc (suc b)) ∙ one_less (suc a) (suc b) ∙ one_less a b ∙ turned_count a b

row_of : (a b : Cell) (c : Cell) (w : Word) (cs : List Cell) → HasNoName cs → (x y z name : Word) (fields : List Word)
    → agrees (a ∷ b ∷ c ∷ Name w ∷ cs) (x ∷ y ∷ z ∷ name ∷ fields) ≡ (same name w && agrees cs fields)
    → fits (a ∷ b ∷ c ∷ Name w ∷ cs) (x ∷ y ∷ z ∷ name ∷ fields) ≡ (same name w && (length fields == length cs))
row_of a b c w cs free x y z name fields is =
    ap (λ (t : Bool). (length (a ∷ b ∷ c ∷ Name w ∷ cs) == length (x ∷ y ∷ z ∷ name ∷ fields)) && t) is
    ∙ ap (λ (t : Bool). (length (a ∷ b ∷ c ∷ Name w ∷ cs) == length (x ∷ y ∷ z ∷ name ∷ fields)) && (same name w && t)) (agrees_all cs free fields)
    ∙ ap (λ (t : Bool). t && (same name w && true)) (four_less (length cs) (length fields))
    ∙ turned (length fields == length cs) (same name w && true)
    ∙ ap (λ (t : Bool). t && (length fields == length cs)) (always (same name w))
  where
    always : (t : Bool) → (t && true) ≡ t
    always true = refl
    always false = refl

-- the places behind an object's name
abbrev rest : (format : ℕ) → ObjectForm → List Cell
rest format o = drop 1 (objects.cells format o)

object_row : (s : Scenario) (o : ObjectForm) (c v key name : Word) (fields : List Word)
    → starts (cells s (forms.Craft o)) (codes "craft" ∷ c ∷ v ∷ key ∷ name ∷ fields) ≡ (same name (reading.name o) && (length fields == reading.count o))
object_row s objs.Rel c v key name fields =
    row_of (forms.node s) (forms.correct s) (forms.node s) (codes "rel") (rest s.format objs.Rel) tt c v key name fields refl
object_row s objs.Ack c v key name fields =
    row_of (forms.node s) (forms.correct s) (forms.node s) (codes "ack") (rest s.format objs.Ack) tt c v key name fields refl
object_row s objs.Prio c v key name fields =
    row_of (forms.node s) (forms.correct s) (forms.node s) (codes "prio") (rest s.format objs.Prio) tt c v key name fields refl
object_row s objs.Weight c v key name fields =
    row_of (forms.node s) (forms.correct s) (forms.node s) (codes "weight") (rest s.format objs.Weight) tt c v key name fields refl
object_row s objs.Krel c v key name fields =
    row_of (forms.node s) (forms.correct s) (forms.node s) (codes "krel") (rest s.format objs.Krel) tt c v key name fields refl
object_row s objs.Kack c v key name fields =
    row_of (forms.node s) (forms.correct s) (forms.node s) (codes "kack") (rest s.format objs.Kack) tt c v key name fields refl

document_row : (s : Scenario) (c v key name : Word) (fields : List Word)
    → starts (cells s forms.CraftDocument) (codes "craft" ∷ c ∷ v ∷ key ∷ name ∷ fields) ≡ (same name (codes "document") && (length fields == 2))
document_row s c v key name fields =
    row_of (forms.node s) (forms.correct s) (Number 0 s.graph.nodes) (codes "document") (Number 1 (2 ^ 32 - 1) ∷ forms.weights s ∷ []) tt c v key name fields
    refl

find_mapped : {F G : Type 0} (test : G → Bool) (g : F → G) (all : List F) → find test (map g all) ≡ option_map g (find (λ f. test (g f)) all)
find_mapped test g [] = refl
find_mapped test g (f ∷ all) = elim (cases_Bool (test (g f))) [
  | inl t ↦ rw t refl
  | inr t ↦ rw t (find_mapped test g all)
]

-- the row of a crafted line that is no report: that of a document, or of an object of the format
craft_form : (s : Scenario) (c v key name : Word) (fields : List Word) → same key (codes "status") ≡ false
    → form_for s (codes "craft" ∷ c ∷ v ∷ key ∷ name ∷ fields)
    ≡ cond ((same name (codes "document") && (length fields == 2)) && has_documents s) (Some forms.CraftDocument)
    (option_map forms.Craft (reading.form_named s.format name (length fields)))
craft_form s c v key name fields other =
    by_name s (codes "craft") (c ∷ v ∷ key ∷ name ∷ fields) other
    ∙ ap (λ (t : Bool). cond (t && has_documents s) (Some forms.CraftDocument) (find test (map forms.Craft objects.forms)))
    (document_row s c v key name fields)
    ∙ ap (cond ((same name (codes "document") && (length fields == 2)) && has_documents s) (Some forms.CraftDocument))
    (find_mapped test forms.Craft objects.forms
    ∙ ap (option_map forms.Craft)
    (same_search (λ o. test (forms.Craft o)) (λ o. (same name (reading.name o) && (length fields == reading.count o)) && objects.has_form s.format o)
    (λ o. ap (λ (t : Bool). t && objects.has_form s.format o) (object_row s o c v key name fields)) objects.forms))
  where
    test : Form → Bool
    test form = starts (cells s form) (codes "craft" ∷ c ∷ v ∷ key ∷ name ∷ fields) && has_form s form

-- ---- what the row says

abbrev with_first : {A B : Type 0} → A → Result B Fault → Result (A × B) Fault
with_first {A} {B} a rb = ◌>>=◌ {A = B} {B = A × B} rb (λ b. Ok (a, b))

steps : {A B K N X Y : Type 0} (ra : Result A Fault) (rb : Result B Fault) (rk : Result K Fault) (rn : Result N Fault) (f : A × (B × (K × N)) → Result X Fault)
    (y : N → Y)
    (g : A → B → K → Y → Result X Fault) → ((a : A) (b : B) (k : K) (n : N) → f (a, (b, (k, n))) ≡ g a b k (y n))
    → ((ra >>= λ a. with_first a (rb >>= λ b. with_first b (rk >>= λ k. with_first k rn))) >>= f)
    ≡ (ra >>= λ a. (rb >>= λ b. (rk >>= λ k. ((rn >>= λ n. Ok (y n)) >>= λ o. g a b k o))))
steps (Err e) rb rk rn f y g same = refl
steps (Ok a) (Err e) rk rn f y g same = refl
steps (Ok a) (Ok b) (Err e) rn f y g same = refl
steps (Ok a) (Ok b) (Ok k) (Err e) f y g same = refl
steps (Ok a) (Ok b) (Ok k) (Ok n) f y g same = same a b k n

fits_named : (fields : List Word) (w : Word) (cs : List Cell) → HasNoName cs → (length fields == length cs) ≡ true → fits (Name w ∷ cs) (w ∷ fields) ≡ true
fits_named fields w cs free is =
    rw (one_less (length cs) (length fields), turned_count (length cs) (length fields), is, same_self w) (agrees_all cs free fields)

-- an object's row reads what stands behind its name
object_read : (format : ℕ) (o : ObjectForm) (name : Word) (fields : List Word) → (length fields == reading.count o) ≡ true
    → reading.line_for format o (reading.name o ∷ fields) ≡ reading.read_form format o (name ∷ fields)
unfolding reading.read_form
object_read format objs.Rel name fields is = rw (fits_named fields (codes "rel") (rest format objs.Rel) tt is) refl
object_read format objs.Ack name fields is = rw (fits_named fields (codes "ack") (rest format objs.Ack) tt is) refl
object_read format objs.Prio name fields is = rw (fits_named fields (codes "prio") (rest format objs.Prio) tt is) refl
object_read format objs.Weight name fields is = rw (fits_named fields (codes "weight") (rest format objs.Weight) tt is) refl
object_read format objs.Krel name fields is = rw (fits_named fields (codes "krel") (rest format objs.Krel) tt is) refl
object_read format objs.Kack name fields is = rw (fits_named fields (codes "kack") (rest format objs.Kack) tt is) refl

-- an object is of its form
form_back : (format : ℕ) (o : ObjectForm) (xs : Values (objects.cells format o)) → objects.form_of (objects.object_of format o xs) ≡ o
form_back format objs.Rel xs = refl
form_back format objs.Ack xs = refl
form_back format objs.Prio xs = refl
form_back format objs.Weight xs = refl
form_back format objs.Krel xs = refl
form_back format objs.Kack xs = refl

craft_read : (s : Scenario) (es : List Event) (o : ObjectForm) (c v key name : Word) (fields : List Word) → (length fields == reading.count o) ≡ true
    → objects.has_form s.format o ≡ true
    → read_form s es (forms.Craft o) (codes "craft" ∷ c ∷ v ∷ key ∷ name ∷ fields) ≡ crafted_event s c v key o fields
unfolding read_form reading.read_form
craft_read s es o c v key name fields count has =
    steps (number_at 1 s.graph.nodes c) (tested_at 1 s.graph.nodes (is_correct s) v) (number_at 1 s.graph.nodes key)
    (row_at (objects.cells s.format o) (name ∷ fields)) (λ xs. if_joined s es (event_of s (forms.Craft o) xs)) (objects.object_of s.format o)
    (λ from to signer object. if are_joined s from to then Ok (events.Craft (id from) (id to) (id signer) object) else Err faults.Range)
    (λ a b k n. ap (λ (t : Bool). made a b k (objects.object_of s.format o n) (t && are_joined s a b)) (of_format n))
    ∙ ap
    (λ (r : Result CraftedObject Fault).
    number_at 1 s.graph.nodes c >>= λ from. tested_at 1 s.graph.nodes (is_correct s) v >>= λ to. number_at 1 s.graph.nodes key >>= λ signer.
    r >>= λ object. if are_joined s from to then Ok (events.Craft (id from) (id to) (id signer) object) else Err faults.Range)
    (sym (object_read s.format o name fields count))
  where
    made : ℕ → ℕ → ℕ → CraftedObject → Bool → Result Event Fault
    made a b k object good = if good then Ok (events.Craft (id a) (id b) (id k) object) else Err faults.Range

    of_format : (n : Values (objects.cells s.format o)) → objects.has_form s.format (objects.form_of (objects.object_of s.format o n)) ≡ true
    of_format n = ap (λ (f : ObjectForm). objects.has_form s.format f) (form_back s.format o n) ∙ has

-- the form that was found has so many words, and is of the format
found_form : (format : ℕ) (name : Word) (count : ℕ) (o : ObjectForm) → reading.form_named format name count ≡ Some o
    → ((count == reading.count o) ≡ true) × (objects.has_form format o ≡ true)
found_form format name count o is =
    let both = and_parts (same name (reading.name o) && (count == reading.count o)) (objects.has_form format o) (found_fits test objects.forms o is) in
    ((and_parts (same name (reading.name o)) (count == reading.count o) both.0).1, both.1)
  where
    test : ObjectForm → Bool
    test f = (same name (reading.name f) && (count == reading.count f)) && objects.has_form format f

-- a line with a report
pub reported : (s : Scenario) (es : List Event) (c v key name : Word) (fields : List Word) → same key (codes "status") ≡ true
    → read_event s es (codes "craft" ∷ c ∷ v ∷ key ∷ name ∷ fields) ≡ line_for s es forms.CraftStatus (codes "craft" ∷ c ∷ v ∷ codes "status" ∷ name ∷ fields)
reported s es c v key name fields is =
    subst (λ (k : Word). read_event s es (codes "craft" ∷ c ∷ v ∷ k ∷ name ∷ fields)
    ≡ line_for s es forms.CraftStatus (codes "craft" ∷ c ∷ v ∷ codes "status" ∷ name ∷ fields))
    (sym (same_words key (codes "status") is))
    (one_form s es forms.CraftStatus (codes "craft") (c ∷ v ∷ codes "status" ∷ name ∷ fields)
    (ap (λ (t : Bool). cond (t && true) (Some forms.CraftStatus) None)
    (starts_so (cells s forms.CraftStatus) (codes "craft") (c ∷ v ∷ codes "status" ∷ name ∷ fields))))

-- a line with a document
pub documented : (s : Scenario) (es : List Event) (c v key name : Word) (fields : List Word) → same key (codes "status") ≡ false
    → same name (codes "document") ≡ true
    → read_event s es (codes "craft" ∷ c ∷ v ∷ key ∷ name ∷ fields)
    ≡ line_where (has_documents s) s es forms.CraftDocument (codes "craft" ∷ c ∷ v ∷ key ∷ codes "document" ∷ fields)
documented s es c v key name fields other is =
    subst
    (λ (x : Word). read_event s es (codes "craft" ∷ c ∷ v ∷ key ∷ x ∷ fields)
    ≡ line_where (has_documents s) s es forms.CraftDocument (codes "craft" ∷ c ∷ v ∷ key ∷ codes "document" ∷ fields))
    (sym (same_words name (codes "document") is))
    (one_form s es forms.CraftDocument (codes "craft") (c ∷ v ∷ key ∷ codes "document" ∷ fields)
    (craft_form s c v key (codes "document") fields other
    ∙ ap (λ (t : Bool). cond (t && has_documents s) (Some forms.CraftDocument) None) (sym (document_row s c v key (codes "document") fields))))

-- a line with an object
pub crafted : (s : Scenario) (es : List Event) (c v key name : Word) (fields : List Word) (o : ObjectForm)
    → same key (codes "status") ≡ false → same name (codes "document") ≡ false → reading.form_named s.format name (length fields) ≡ Some o
    → read_event s es (codes "craft" ∷ c ∷ v ∷ key ∷ name ∷ fields) ≡ crafted_event s c v key o fields
crafted s es c v key name fields o other no_document is =
    let found : form_for s (codes "craft" ∷ c ∷ v ∷ key ∷ name ∷ fields) ≡ Some (forms.Craft o) =
    craft_form s c v key name fields other ∙ rw (is, no_document) refl in
    let form = found_form s.format name (length fields) o is in
    ap (λ (f : Option Form). read_for s es f (codes "craft" ∷ c ∷ v ∷ key ∷ name ∷ fields)) found ∙ craft_read s es o c v key name fields form.0 form.1

-- none of these
pub uncrafted : (s : Scenario) (es : List Event) (c v key name : Word) (fields : List Word)
    → same key (codes "status") ≡ false → same name (codes "document") ≡ false → reading.form_named s.format name (length fields) ≡ None
    → read_event s es (codes "craft" ∷ c ∷ v ∷ key ∷ name ∷ fields) ≡ Err faults.Form
uncrafted s es c v key name fields other no_document is =
    let found : form_for s (codes "craft" ∷ c ∷ v ∷ key ∷ name ∷ fields) ≡ None = craft_form s c v key name fields other ∙ rw (is, no_document) refl in
    ap (λ (f : Option Form). read_for s es f (codes "craft" ∷ c ∷ v ∷ key ∷ name ∷ fields)) found

-- too few words
pub crafted_few : (s : Scenario) (es : List Event) (words : List (Bor Word)) → length words < 4
    → read_event s es (codes "craft" ∷ map (λ w. w.now) words) ≡ Err faults.Form
crafted_few s es words few =
    ap (λ (found : Option Form). read_for s es found (codes "craft" ∷ map (λ w. w.now) words)) (none_fits words few)
  where
    three : (a b c : Word) (t : Bool) → same c (codes "status") ≡ t → form_for s (codes "craft" ∷ a ∷ b ∷ c ∷ []) ≡ None
    three a b c true is = rw is refl
    three a b c false is = by_name s (codes "craft") (a ∷ b ∷ c ∷ []) is

    none_fits : (ws : List (Bor Word)) → length ws < 4 → form_for s (codes "craft" ∷ map (λ w. w.now) ws) ≡ None
    none_fits [] few = by_name s (codes "craft") [] refl
    none_fits (a ∷ []) few = by_name s (codes "craft") (a.now ∷ []) refl
    none_fits (a ∷ b ∷ []) few = by_name s (codes "craft") (a.now ∷ b.now ∷ []) refl
    none_fits (a ∷ b ∷ c ∷ []) few = three a.now b.now c.now (same c.now (codes "status")) refl
    none_fits (a ∷ b ∷ c ∷ d ∷ more) few = absurd (omega (arith, few))

-- what words say stands at the first four places and behind them
pub from_four : (P : List Word → Type 0) (words : List (Bor Word)) (d : Bor Word) → 4 ≤ length words
    → P ((get_or words 0 d).now ∷ (get_or words 1 d).now ∷ (get_or words 2 d).now ∷ (get_or words 3 d).now
    ∷ map (λ w. w.now) (take (length words - 4) (drop 4 words)))
    → P (map (λ w. w.now) words)
from_four P (a ∷ b ∷ c ∷ e ∷ more) d low p =
    subst (λ (rest : List (Bor Word)). P (a.now ∷ b.now ∷ c.now ∷ e.now ∷ map (λ w. w.now) rest))
    (take_all (length (a ∷ b ∷ c ∷ e ∷ more) - 4) more (omega arith)) p
from_four P [] d low p = absurd (omega (arith, low))
from_four P (a ∷ []) d low p = absurd (omega (arith, low))
from_four P (a ∷ b ∷ []) d low p = absurd (omega (arith, low))
from_four P (a ∷ b ∷ c ∷ []) d low p = absurd (omega (arith, low))
