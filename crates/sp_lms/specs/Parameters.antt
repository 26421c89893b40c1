-- The parameter sets of LMS with SHA-256 (RFC 8554, section 5.1, table 2). A hash has m = 32 bytes.
use Rattle.std.specs.Prelude.{ℕ, ◌+◌, ◌*◌, ◌^◌}
use Rattle.sp_ots.specs.declared.param.OtsParam.{OtsParam}
use Rattle.sp_ots.specs.Parameters as ots
use Rattle.sp_lms.specs.declared.param.LmsParam.{LmsParam}
use Rattle.sp_lms.specs.declared.param.LmsParam.TheVariants.{H5, H10, H15}

-- the levels of the tree above its leaves: h
abbrev pub height : LmsParam → ℕ
height H5 = 5
height H10 = 10
height H15 = 15

-- the number that stands for the parameter set
abbrev pub typecode : LmsParam → ℕ
typecode H5 = 5
typecode H10 = 6
typecode H15 = 7

-- how many leaves the tree has, each of which signs one message: 2^h
abbrev pub leaf_count : LmsParam → ℕ
leaf_count lms = 2 ^ height lms

-- the length of a signature in bytes: the leaf's number, its one-time signature, a typecode and the path (section 5.4)
abbrev pub signature_len : LmsParam → OtsParam → ℕ
signature_len lms one_time = 8 + ots.signature_len one_time + 32 * height lms
