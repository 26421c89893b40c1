use Rattle.std.proofs.Common.{◌≡◌, [], ◌∷◌, List, ℕ, Ok, codes, refl}
use Rattle.sp_schedule_crafts.specs.Reading.{line_for, read_form}
use Rattle.sp_schedule_crafts.specs.declared.form.ObjectForm.TheVariants as forms
use Rattle.sp_schedule_crafts.specs.declared.object.CraftedObject.TheVariants as crafted
use Rattle.sp_schedule_crafts.proofs.WordLists.{four}
use Rattle.sp_schedule_crafts.proofs.reading.weight.Goals as goal

pub returns : goal.returns
unfolding read_form
returns c =
    four (λ (ws : List (List ℕ)). line_for c.args.format forms.Weight (codes "weight" ∷ ws)
    ≡ Ok (crafted.Weight
    (record { origin = c.in_ok-origin.origin; edge = record { 0 = c.in_ok-edge.field-0 }; seq = c.in_ok-seq.seq; weight = c.in_ok-weight.field-0 })))
    c.args.fields.now (record { ref_ptr = (0, 0); now = [] }) c.in-len4.len_at_least c.in-len4.len_below
    (rw (
      c.in_ok-origin.ensures,
      rw (c.from.ensures, c.max_edges.ensures) at c.in_ok-edge.ensures.read,
      c.in_ok-seq.ensures.read,
      rw c.from-2.ensures at c.in_ok-weight.ensures.read,
    ) refl)
