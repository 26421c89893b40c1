use Rattle.std.proofs.Common.{◌≡◌, [], ◌∷◌, List, ℕ, Ok, codes, refl}
use Rattle.sp_schedule_crafts.specs.Reading.{line_for, read_form}
use Rattle.sp_schedule_crafts.specs.declared.form.ObjectForm.TheVariants as forms
use Rattle.sp_schedule_crafts.specs.declared.object.CraftedObject.TheVariants as crafted
use Rattle.sp_schedule_crafts.proofs.WordLists.{five}
use Rattle.sp_schedule_crafts.proofs.reading.krel.Goals as goal

pub returns : goal.returns
unfolding read_form
returns c =
    five (λ (ws : List (List ℕ)). line_for c.args.format forms.Krel (codes "krel" ∷ ws) ≡ Ok (crafted.Krel (record {
      src = c.in_ok-src.src;
      dst = c.in_ok-dst.dst;
      seq = c.in_ok-seq.seq;
      mask = record { low = c.in_ok-high.low; high = c.in_ok-high.high };
      payload = c.in_ok-payload.payload;
    })))
    c.args.fields.now (record { ref_ptr = (0, 0); now = [] }) c.in-len5.len_at_least c.in-len5.len_below
    (rw (c.in_ok-src.ensures, c.in_ok-dst.ensures, c.in_ok-seq.ensures.read, c.in_ok-high.ensures, c.in_ok-payload.ensures.read) refl)
