-- The sections of format 1: a frame has no document, and three sections.
use Rattle.std.proofs.Common.{◌≡◌, false, true, ℕ, List, [], Option, None, Some, ◌++◌, append-nil, refl, ap, ◌∙◌}
use Rattle.std.specs.Prelude.{IfSome}
use Rattle.byteorder.specs.Endian.{big_bytes}
use Rattle.sp_base.specs.declared.format.TheConstants.{FORMAT_1}
use Rattle.sp_frame.specs.Prioritized.{prios_bytes}
use Rattle.sp_frame.specs.Probes.{epoch_bytes, probes_bytes}
use Rattle.sp_frame.specs.Ranges.{IsContents, IsDocument, Later}
use Rattle.sp_frame.specs.Reliable.{paths_bytes, slot_bytes}
use Rattle.sp_frame.specs.Sections.{Contents, control_bytes, plain_bytes, sections_bytes, sections_bytes_in}
use Rattle.sp_frame.specs.Weights.{weights_bytes}

pub no_document : (len : ℕ) (s : Contents) → IsContents len s → s.document ≡ None
no_document len s is = go s.document is.document
  where
    go : (o : Option (List ℕ)) → IfSome o (Later FORMAT_1 (IsDocument s)) → o ≡ None
    go None none = refl
    go (Some document) later = absurd (let no : true ≡ false = later.0 in cc)

pub sections_are : (s : Contents) → s.document ≡ None
    → sections_bytes s ≡ weights_bytes FORMAT_1 s.weights ++ big_bytes 8 s.prio_ack ++ prios_bytes FORMAT_1 s.prios ++ slot_bytes FORMAT_1 s.slot
unfolding sections_bytes_in plain_bytes paths_bytes probes_bytes epoch_bytes
sections_are s none =
    let all = weights_bytes FORMAT_1 s.weights ++ big_bytes 8 s.prio_ack ++ prios_bytes FORMAT_1 s.prios ++ slot_bytes FORMAT_1 s.slot in
    ap (λ (d : Option (List ℕ)). control_bytes FORMAT_1 s d) none ∙ append-nil ((all ++ []) ++ []) ∙ append-nil (all ++ []) ∙ append-nil all
