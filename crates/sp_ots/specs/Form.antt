-- The form of a signature, which a check looks at before it runs any chain.
use Rattle.std.specs.Prelude.{ℕ, List}
use Rattle.sp_ots.specs.declared.param.OtsParam.{OtsParam}
use Rattle.sp_ots.specs.Candidate.{HasLength, HasTypecode}

-- a signature has the length and the typecode of its parameter set
abbrev pub HasForm : OtsParam → List ℕ → Type 0
HasForm param signature = HasLength param signature × HasTypecode param signature
