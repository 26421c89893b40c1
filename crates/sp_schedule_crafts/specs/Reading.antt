-- How an object is found by its name, and read.
use Rattle.std.specs.Prelude.{ℕ, ◌-◌, ◌==◌, ◌&&◌, List, find, length, Option, Result, Ok, Err, codes, if◌then◌else◌}
use Rattle.sp_base.specs.Refusals.{◌>>=◌}
use Rattle.sp_base.specs.declared.format.TheConstants.{FORMAT_1}
use Rattle.sp_text.specs.Spelling.{Word}
use Rattle.sp_lines.specs.Cells.{same}
use Rattle.sp_lines.specs.Rows.{fits, row_at}
use Rattle.sp_lines.specs.declared.fault.Fault.{Fault}
use Rattle.sp_lines.specs.declared.fault.Fault.TheVariants as faults
use Rattle.sp_schedule_crafts.specs.Objects.{cells, forms, has_form, object_of}
use Rattle.sp_schedule_crafts.specs.declared.form.ObjectForm.{ObjectForm}
use Rattle.sp_schedule_crafts.specs.declared.form.ObjectForm.TheVariants.{Rel, Ack, Prio, Weight, Krel, Kack}
use Rattle.sp_schedule_crafts.specs.declared.object.CraftedObject.{CraftedObject}

-- the name of a form, and how many words stand behind it, in each format
abbrev pub name : ObjectForm → Word
name Rel = codes "rel"
name Ack = codes "ack"
name Prio = codes "prio"
name Weight = codes "weight"
name Krel = codes "krel"
name Kack = codes "kack"

-- how many words an object of a form has behind its name
abbrev pub count : ObjectForm → ℕ
count form = length (cells FORMAT_1 form) - 1

-- the form among these with this name and so many words behind it that the format has
abbrev pub form_among : List ObjectForm → (format : ℕ) → Word → ℕ → Option ObjectForm
form_among among format word words = find (λ form. (same word (name form) && (words == count form)) && has_form format form) among

-- the form of a format with this name and so many words behind it
abbrev pub form_named : (format : ℕ) → Word → ℕ → Option ObjectForm
form_named format word words = form_among forms format word words

-- the object of words that fit the row of a form in a format
unfoldable pub read_form : (format : ℕ) → ObjectForm → List Word → Result CraftedObject Fault
read_form format form words = row_at (cells format form) words >>= λ xs. Ok (object_of format form xs)

-- the same of any words, which are refused where they don't fit
abbrev pub line_for : (format : ℕ) → ObjectForm → List Word → Result CraftedObject Fault
line_for format form words = if fits (cells format form) words then read_form format form words else Err faults.Form
