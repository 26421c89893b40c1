-- The control section of a frame: what nodes say of the weights of edges.
--
--     count 1 | objects
use Rattle.std.specs.Prelude.{ℕ, List, Result}
use Rattle.sp_msg.specs.declared.kept.Kept.{Kept}
use Rattle.sp_frame.specs.Grammar.{counted, counted_bytes}
use Rattle.sp_frame.specs.Objects.{most, object, object_bytes}
use Rattle.sp_frame.specs.declared.kind.Kind.TheVariants as kinds
use Rattle.sp_frame.specs.declared.refused.SectionRefused.{SectionRefused}

unfoldable pub weights : ℕ → ℕ → List ℕ → Result (List Kept × List ℕ) SectionRefused
weights format len bytes = counted (object format kinds.Weight len) (most format kinds.Weight) bytes

-- the bytes of updates of weights
unfoldable pub weights_bytes : ℕ → List Kept → List ℕ
weights_bytes format objects = counted_bytes (object_bytes format) objects
