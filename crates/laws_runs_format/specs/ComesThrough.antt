-- What counted delivery asks of arts, of each format with the signatures of trees of either height.
use Rattle.std.specs.Prelude.{ℕ}
use Rattle.sp_hss.specs.KeyTree.{signature_len}
use Rattle.sp_node_format.specs.Format.{format_in}
use Rattle.sp_sign.specs.Heights.{param_of}
use Rattle.sp_topology.specs.declared.topology.LmsHeight.{LmsHeight}
use Rattle.laws_runs.specs.Premises.{ComesThrough}

-- a frame that is written passes each test at the other end of its edge
abbrev pub FormatComesThrough : Type 0
FormatComesThrough = (format : ℕ) (h : LmsHeight) → ComesThrough format (format_in format) (signature_len (param_of h))
