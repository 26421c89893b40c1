-- The words of a grammar: how a part of a frame is read from the left, and how it is spelled.
use Rattle.std.specs.Prelude.{ℕ, zero, suc, ◌==◌, nat_le, Bool, true, false, Option, None, Some, List, [], ◌∷◌, ◌++◌, length, flat_map, Result, Ok, Err}
use Rattle.std.specs.Prelude.{if◌then◌else◌}
use Rattle.byteorder.specs.Endian.{big_bytes}
use Rattle.sp_base.specs.Reading.{number_at, piece_at}
use Rattle.sp_base.specs.Refusals.{◌>>=◌, as_refusal}
use Rattle.sp_frame.specs.declared.refused.SectionRefused.{SectionRefused}
use Rattle.sp_frame.specs.declared.refused.SectionRefused.TheVariants as refusals

-- a number of n bytes, its high byte first
unfoldable pub number : ℕ → List ℕ → Result (ℕ × List ℕ) SectionRefused
number n bytes = as_refusal (λ short. refusals.Cut) (number_at n bytes)

-- the first n bytes
unfoldable pub piece : ℕ → List ℕ → Result (List ℕ × List ℕ) SectionRefused
piece n bytes = as_refusal (λ short. refusals.Cut) (piece_at n bytes)

-- a number of n bytes that is at most so great
unfoldable pub limited : ℕ → ℕ → List ℕ → Result (ℕ × List ℕ) SectionRefused
limited n most bytes = number n bytes >>= λ x. if nat_le x.0 most then Ok x else Err refusals.Count

-- a count of at most so many
abbrev pub count : ℕ → List ℕ → Result (ℕ × List ℕ) SectionRefused
count most bytes = limited 1 most bytes

-- one part and the next
infixl 10 ◌⊗◌
-- one part, and then the other
abbrev pub ◌⊗◌ : {X Y : Type 0} → (List ℕ → Result (X × List ℕ) SectionRefused) → (List ℕ → Result (Y × List ℕ) SectionRefused) → List ℕ
    → Result ((X × Y) × List ℕ) SectionRefused
(one ⊗ two) bytes = one bytes >>= λ x. two x.1 >>= λ y. Ok ((x.0, y.0), y.1)

-- a part, made into a value of another type
abbrev pub made : {X Y : Type 0} → (X → Y) → (List ℕ → Result (X × List ℕ) SectionRefused) → List ℕ → Result (Y × List ℕ) SectionRefused
made make one bytes = one bytes >>= λ x. Ok (make x.0, x.1)

module _ {X : Type 0} (one : List ℕ → Result (X × List ℕ) SectionRefused) where
  -- so many, one after the other
  abbrev pub times : ℕ → List ℕ → Result (List X × List ℕ) SectionRefused
  times zero bytes = Ok ([], bytes)
  times (suc n) bytes = one bytes >>= λ x. times n x.1 >>= λ xs. Ok (x.0 ∷ xs.0, xs.1)

  -- a count of at most so many, and as many after it
  abbrev pub counted : ℕ → List ℕ → Result (List X × List ℕ) SectionRefused
  counted most bytes = count most bytes >>= λ n. times n.0 n.1

  -- a flag of 0 or 1, and one after it where it is 1
  abbrev pub flagged : List ℕ → Result (Option X × List ℕ) SectionRefused
  flagged bytes = count 1 bytes >>= λ flag. if flag.0 == 0 then Ok (None, flag.1) else one flag.1 >>= λ x. Ok (Some x.0, x.1)

  -- the same in format 2; format 1 has neither flag nor part
  abbrev pub later : Bool → List ℕ → Result (Option X × List ℕ) SectionRefused
  later true bytes = Ok (None, bytes)
  later false bytes = flagged bytes

-- ---- the same, spelled
module _ {X : Type 0} (spell : X → List ℕ) where
  -- a list: how many there are, and each
  abbrev pub counted_bytes : List X → List ℕ
  counted_bytes xs = big_bytes 1 (length xs) ++ flat_map spell xs

  -- what may be there: 0, or 1 and the thing itself
  abbrev pub flagged_bytes : Option X → List ℕ
  flagged_bytes None = big_bytes 1 0
  flagged_bytes (Some x) = big_bytes 1 1 ++ spell x

  -- what an earlier format lacks: nothing there, and else what may be there
  abbrev pub later_bytes : Bool → Option X → List ℕ
  later_bytes true x = []
  later_bytes false x = flagged_bytes x
