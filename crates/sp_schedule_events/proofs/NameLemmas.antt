-- A line is found by its name: no other row has words with that name.
use Rattle.std.proofs.Common.{◌≡◌, ℕ, suc, ◌==◌, ◌&&◌, Bool, true, false, cond, List, [], ◌∷◌, Option, Some, None, Result, if◌then◌else◌, refl, sym}
use Rattle.std.proofs.Common.{subst, ◌∙◌, ap, arith, inl, inr, length}
use Rattle.std.specs.Prelude.{codes, find}
use Rattle.std.proofs.lemmas.Bool.{cases_Bool}
use Rattle.std.proofs.lemmas.Bool.Decides.{nat_tests}
use Rattle.sp_text.specs.Spelling.{Word}
use Rattle.sp_lines.specs.Answers.{Reads}
use Rattle.sp_lines.specs.Cells.{Bytes, Cell, Mask, Name, Number, Numbers, Tested, same}
use Rattle.sp_lines.specs.Rows.{agrees, fits}
use Rattle.sp_lines.specs.declared.fault.LineRefused.{LineRefused}
use Rattle.sp_lines.proofs.Words.{same_words}
use Rattle.sp_schedule_events.specs.EventLines.{form_for, read_event, read_for}
use Rattle.sp_schedule_events.specs.Names.{line_named, line_where, name, names}
use Rattle.sp_schedule_events.specs.Table as forms
use Rattle.sp_schedule_events.specs.Table.{Form, cells, has_form, has_status, is_report}
use Rattle.sp_schedule_events.specs.declared.event.Event.{Event}
use Rattle.sp_schedule_events.specs.declared.line_of.LineName.{LineName}
use Rattle.sp_schedule_events.specs.declared.line_of.LineName.TheVariants as lines
use Rattle.sp_schedule_events.specs.declared.scenario.Scenario.{Scenario}

-- ---- the name comes first

-- the words begin with the name of a row, and those behind it fit the rest
abbrev pub starts : List Cell → List Word → Bool
starts (Name w ∷ cs) (x ∷ xs) = same x w && fits cs xs
starts cs xs = fits cs xs

never : (b : Bool) → (b && false) ≡ false
never true = refl
never false = refl

pub one_less : (a b : ℕ) → (suc a == suc b) ≡ (a == b)
one_less a b = grind (arith, nat_tests)

pub starts_so : (cs : List Cell) (x : Word) (xs : List Word) → fits cs (x ∷ xs) ≡ starts cs (x ∷ xs)
starts_so [] x xs = refl
starts_so (Name w ∷ cs) x xs = elim (cases_Bool (same x w)) [
  | inl t ↦ rw t (ap (λ (b : Bool). b && agrees cs xs) (one_less (length cs) (length xs)))
  | inr t ↦ rw t (never (length (Name w ∷ cs) == length (x ∷ xs)))
]
starts_so (Number low high ∷ cs) x xs = refl
starts_so (Tested low high test ∷ cs) x xs = refl
starts_so (Bytes low high ∷ cs) x xs = refl
starts_so (Mask format ∷ cs) x xs = refl
starts_so (Numbers count high ∷ cs) x xs = refl

pub same_search : {F : Type 0} (t u : F → Bool) → ((f : F) → t f ≡ u f) → (all : List F) → find t all ≡ find u all
same_search t u are [] = refl
same_search t u are (f ∷ all) = rw (are f, same_search t u are all) refl

-- the row that was found is fitted
pub found_fits : {F : Type 0} (test : F → Bool) (all : List F) (found : F) → find test all ≡ Some found → test found ≡ true
found_fits test [] found is = absurd cc
found_fits test (x ∷ all) found is =
    elim (cases_Bool (test x)) [
      | inl passes ↦ (let here : Some x ≡ Some found = rw passes at is in let same_form : x ≡ found = cc in rw same_form at passes)
      | inr fails ↦ found_fits test all found (rw fails at is)
    ]

-- the form of words by their name, where they aren't those of a report
pub by_name : (s : Scenario) (x : Word) (xs : List Word) → is_report (x ∷ xs) ≡ false
    → form_for s (x ∷ xs) ≡ find (λ form. starts (cells s form) (x ∷ xs) && has_form s form) forms.forms
by_name s x xs other =
    ap (λ (report : Bool). find (λ form. fits (cells s form) (x ∷ xs) && has_form s form) (if report then forms.CraftStatus ∷ [] else forms.forms)) other
    ∙ same_search (λ form. fits (cells s form) (x ∷ xs) && has_form s form) (λ form. starts (cells s form) (x ∷ xs) && has_form s form)
    (λ form. ap (λ (t : Bool). t && has_form s form) (starts_so (cells s form) x xs)) forms.forms

-- ---- a name of one form

pub one_form : (s : Scenario) (es : List Event) (form : Form) (x : Word) (xs : List Word)
    → form_for s (x ∷ xs) ≡ cond (starts (cells s form) (x ∷ xs) && has_form s form) (Some form) None
    → read_event s es (x ∷ xs) ≡ line_where (has_form s form) s es form (x ∷ xs)
one_form s es form x xs is = go (starts (cells s form) (x ∷ xs)) (has_form s form) (starts_so (cells s form) x xs) is
  where
    go : (t has : Bool) → fits (cells s form) (x ∷ xs) ≡ t → form_for s (x ∷ xs) ≡ cond (t && has) (Some form) None
        → read_event s es (x ∷ xs) ≡ line_where has s es form (x ∷ xs)
    go true true fit found = ap (λ (o : Option Form). read_for s es o (x ∷ xs)) found ∙ rw fit refl
    go false true fit found = ap (λ (o : Option Form). read_for s es o (x ∷ xs)) found ∙ rw fit refl
    go true false fit found = ap (λ (o : Option Form). read_for s es o (x ∷ xs)) found
    go false false fit found = ap (λ (o : Option Form). read_for s es o (x ∷ xs)) found

-- the form of a line's name, where there is one alone
abbrev pub form_of : LineName → Form
form_of lines.Rel = forms.Rel
form_of lines.Prio = forms.Prio
form_of lines.Take = forms.Take
form_of lines.TakePrio = forms.TakePrio
form_of lines.Tick = forms.Tick
form_of lines.Weight = forms.Weight
form_of lines.Poll = forms.Poll
form_of lines.Pass = forms.Pass
form_of lines.Flip = forms.Flip
form_of lines.Inject = forms.Inject
form_of lines.Craft = forms.CraftStatus
form_of lines.Start = forms.Start
form_of lines.Stop = forms.Stop
form_of lines.Publish = forms.Publish
form_of lines.Krel = forms.Krel
form_of lines.KTake = forms.KTake

-- no other form has the name
abbrev pub has_one : LineName → Bool
has_one lines.Craft = false
has_one line = true

only : (s : Scenario) (es : List Event) (line : LineName) (xs : List Word) → has_one line ≡ true
    → read_event s es (name line ∷ xs) ≡ line_where (has_form s (form_of line)) s es (form_of line) (name line ∷ xs)
only s es lines.Rel xs one = one_form s es forms.Rel (codes "rel") xs (by_name s (codes "rel") xs refl)
only s es lines.Prio xs one = one_form s es forms.Prio (codes "prio") xs (by_name s (codes "prio") xs refl)
only s es lines.Take xs one = one_form s es forms.Take (codes "take") xs (by_name s (codes "take") xs refl)
only s es lines.TakePrio xs one = one_form s es forms.TakePrio (codes "takep") xs (by_name s (codes "takep") xs refl)
only s es lines.Tick xs one = one_form s es forms.Tick (codes "tick") xs (by_name s (codes "tick") xs refl)
only s es lines.Weight xs one = one_form s es forms.Weight (codes "weight") xs (by_name s (codes "weight") xs refl)
only s es lines.Poll xs one = one_form s es forms.Poll (codes "poll") xs (by_name s (codes "poll") xs refl)
only s es lines.Pass xs one = one_form s es forms.Pass (codes "pass") xs (by_name s (codes "pass") xs refl)
only s es lines.Flip xs one = one_form s es forms.Flip (codes "flip") xs (by_name s (codes "flip") xs refl)
only s es lines.Inject xs one = one_form s es forms.Inject (codes "inject") xs (by_name s (codes "inject") xs refl)
only s es lines.Start xs one = one_form s es forms.Start (codes "start") xs (by_name s (codes "start") xs refl)
only s es lines.Stop xs one = one_form s es forms.Stop (codes "stop") xs (by_name s (codes "stop") xs refl)
only s es lines.Publish xs one = one_form s es forms.Publish (codes "publish") xs (by_name s (codes "publish") xs refl)
only s es lines.Krel xs one = one_form s es forms.Krel (codes "krel") xs (by_name s (codes "krel") xs refl)
only s es lines.KTake xs one = one_form s es forms.KTake (codes "ktake") xs (by_name s (codes "ktake") xs refl)
only s es lines.Craft xs one = absurd cc

-- the first word of a line that was found is its name
pub is_named : (x : Word) (line : LineName) → line_named x ≡ Some line → x ≡ name line
is_named x line is = same_words x (name line) (go names is)
  where
    go : (all : List LineName) → find (λ l. same x (name l)) all ≡ Some line → same x (name line) ≡ true
    go [] none = absurd cc
    go (l ∷ all) some = elim (cases_Bool (same x (name l))) [
      | inl t ↦ (let here : Some l ≡ Some line = rw t at some in let same_line : l ≡ line = cc in rw same_line at t)
      | inr t ↦ go all (rw t at some)
    ]

-- what a line's own call answered is what the words say
pub read_named : (s : Scenario) (es : List Event) (line : LineName) (x : Word) (xs : List Word) (r : Result Event LineRefused) → has_one line ≡ true
    → line_named x ≡ Some line
    → Reads r (line_where (has_form s (form_of line)) s es (form_of line) (name line ∷ xs)) → Reads r (read_event s es (x ∷ xs))
read_named s es line x xs r one is reads =
    subst (λ (ws : Word). Reads r (read_event s es (ws ∷ xs))) (sym (is_named x line is)) (subst (Reads r) (sym (only s es line xs one)) reads)

-- ---- no name

abbrev AllFail : {F : Type 0} → (F → Bool) → List F → Type 0
AllFail test [] = Unit {0}
AllFail test (f ∷ all) = (test f ≡ false) × AllFail test all

all_fail : {F : Type 0} (test : F → Bool) (all : List F) → find test all ≡ None → AllFail test all
all_fail test [] none = tt
all_fail test (f ∷ all) none = elim (cases_Bool (test f)) [
  | inl t ↦ absurd (let some : Some f ≡ None = rw t at none in cc)
  | inr t ↦ (t, all_fail test all (rw t at none))
]

-- words without a name of the table fit no row
pub unnamed : (s : Scenario) (x : Word) (xs : List Word) → line_named x ≡ None → form_for s (x ∷ xs) ≡ None
unnamed s x xs none =
    let f = all_fail (λ line. same x (name line)) names none in
    by_name s x xs (ap (λ (b : Bool). b && has_status xs) f.1.1.1.1.1.1.1.1.1.1.0)
    ∙ rw (
      f.0,
      f.1.0,
      f.1.1.0,
      f.1.1.1.0,
      f.1.1.1.1.0,
      f.1.1.1.1.1.0,
      f.1.1.1.1.1.1.0,
      f.1.1.1.1.1.1.1.0,
      f.1.1.1.1.1.1.1.1.0,
      f.1.1.1.1.1.1.1.1.1.0,
      f.1.1.1.1.1.1.1.1.1.1.0,
      f.1.1.1.1.1.1.1.1.1.1.1.0,
      f.1.1.1.1.1.1.1.1.1.1.1.1.0,
      f.1.1.1.1.1.1.1.1.1.1.1.1.1.0,
      f.1.1.1.1.1.1.1.1.1.1.1.1.1.1.0,
      f.1.1.1.1.1.1.1.1.1.1.1.1.1.1.1.0,
    ) refl
