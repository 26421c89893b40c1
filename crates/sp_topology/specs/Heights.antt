-- The two heights of signature trees (RFC 8554, section 5.1).
--
--     height   number   LMS typecode
--     Five     5        5
--     Ten      10       6
use Rattle.std.specs.Prelude.{ℕ, ◌==◌, Option, Some, None, if◌then◌else◌}
use Rattle.sp_topology.specs.declared.topology.LmsHeight.{LmsHeight}
use Rattle.sp_topology.specs.declared.topology.LmsHeight.TheVariants.{Five, Ten}

abbrev pub height_number : LmsHeight → ℕ
height_number Five = 5
height_number Ten = 10

-- the number of a height in key and signature
abbrev pub typecode_of : LmsHeight → ℕ
typecode_of Five = 5
typecode_of Ten = 6

-- the height of a number
abbrev pub height_at : ℕ → Option LmsHeight
height_at number = if number == 5 then Some Five else (if number == 10 then Some Ten else None)
