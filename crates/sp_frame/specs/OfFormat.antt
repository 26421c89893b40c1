-- Of which format the objects of a frame are: their bytes are read in it.
use Rattle.std.specs.Prelude.{ℕ, ◌≡◌, ◌≤◌, All, IfSome, length}
use Rattle.sp_frame.specs.declared.object.ObjectRef.{ObjectRef}
use Rattle.sp_frame.specs.declared.sections.Sections.{Sections}
use Rattle.sp_frame.specs.declared.sections.Slot.{Slot}

abbrev pub IsOf : ℕ → ObjectRef → Type 0
IsOf format o = o.format ≡ format

-- what a slot carries is of this format
pub record IsSlotOf (format : ℕ) (s : Slot) : Type 0 where
  pub ack : IfSome s.ack (IsOf format)
  pub rels : All (IsOf format) s.rels

-- all of them, and a slot of flows on paths has at most one message
pub record AreOf (format : ℕ) (s : Sections) : Type 0 where
  pub weight : IfSome s.weight (IsOf format)
  pub prios : All (λ p. IsOf format p.1) s.prios
  pub slot : IfSome s.slot (IsSlotOf format)
  pub paths : IfSome s.paths (IsSlotOf format)
  pub one_on_paths : IfSome s.paths (λ p. length p.rels ≤ 1)
  pub epoch : IfSome s.epoch (IsOf format)
