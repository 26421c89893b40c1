use Rattle.std.proofs.Common.{rules}
use Rattle.sp_keystate.proofs.Finding.{slot_read}
use Rattle.sp_keystate.proofs.reading.read_slot.Goals as goal

pub returns-clause-numbers : goal.returns-clause-numbers
returns-clause-numbers g c =
    rw (← c.place.ensures.place) (slot_read _ _ c.place.result _ c.read.new.buf _ (search rules) c.in_ok-count.ensures.bytes c.opened.ensures)
