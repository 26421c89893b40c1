-- Rows of places: which words fit one, what they say, and how values are spelled.
use Rattle.std.specs.Prelude.{ℕ, ◌≡◌, ◌<◌, ◌≤◌, ◌^◌, ◌==◌, ◌&&◌, Bool, true, List, [], ◌∷◌, ◌++◌, length, Option, find, Result, Ok, Err, if◌then◌else◌}
use Rattle.std.specs.List.{join_with_byte}
use Rattle.std.specs.Fmt.{decimal}
use Rattle.sp_base.specs.Refusals.{◌>>=◌}
use Rattle.sp_text.specs.Spelling.{Word, hex_word}
use Rattle.sp_lines.specs.Cells.{AreNumbers, AreSoMany, Bytes, Cell, IsMask, Mask, Name, Number, Numbers, Tested}
use Rattle.sp_lines.specs.Cells.{bytes_at, mask_at, mask_word, number_at, numbers_at, numbers_word, same, tested_at}
use Rattle.sp_lines.specs.declared.fault.Fault.{Fault}
use Rattle.sp_lines.specs.declared.fault.Fault.TheVariants as faults

-- what a place says
abbrev pub Value : Cell → Type 0
Value (Bytes low high) = List ℕ
Value (Mask format) = ℕ × ℕ
Value (Numbers count high) = Option (List ℕ)
Value _ = ℕ

-- a value for each place but those of names
abbrev pub Values : List Cell → Type 0
Values [] = Unit {0}
Values (Name w ∷ cs) = Values cs
Values (c ∷ cs) = Value c × Values cs

-- ---- which words fit

-- each name of the row stands in its place
abbrev pub agrees : List Cell → List Word → Bool
agrees (Name w ∷ cs) (x ∷ xs) = same x w && agrees cs xs
agrees (c ∷ cs) (x ∷ xs) = agrees cs xs
agrees _ _ = true

-- as many words as places, and each name in its place
abbrev pub fits : List Cell → List Word → Bool
fits cs words = (length cs == length words) && agrees cs words

-- the first of these forms whose row the words fit
abbrev pub form_among : {F : Type 0} → (F → List Cell) → List F → List Word → Option F
form_among cells forms words = find (λ form. fits (cells form) words) forms

-- ---- what they say

-- the values of words that fit, or the first fault from the left
abbrev pub row_at : (cs : List Cell) → List Word → Result (Values cs) Fault
row_at [] words = Ok tt
row_at (c ∷ cs) [] = Err faults.Form
row_at (Name w ∷ cs) (x ∷ words) = row_at cs words
row_at (Number low high ∷ cs) (x ∷ words) = number_at low high x >>= λ n. row_at cs words >>= λ ns. Ok (n, ns)
row_at (Tested low high test ∷ cs) (x ∷ words) = tested_at low high test x >>= λ n. row_at cs words >>= λ ns. Ok (n, ns)
row_at (Bytes low high ∷ cs) (x ∷ words) = bytes_at low high x >>= λ bs. row_at cs words >>= λ ns. Ok (bs, ns)
row_at (Mask format ∷ cs) (x ∷ words) = mask_at format x >>= λ n. row_at cs words >>= λ ns. Ok (n, ns)
row_at (Numbers count high ∷ cs) (x ∷ words) = numbers_at count high x >>= λ n. row_at cs words >>= λ ns. Ok (n, ns)

-- the values of a line of this row
abbrev pub line_of : (cs : List Cell) → List Word → Result (Values cs) Fault
line_of cs words = if fits cs words then row_at cs words else Err faults.Form

-- ---- ranges and spelling

-- the words of values
abbrev pub spelled : (cs : List Cell) → Values cs → List Word
spelled [] xs = []
spelled (Name w ∷ cs) xs = w ∷ spelled cs xs
spelled (Number low high ∷ cs) xs = decimal xs.0 ∷ spelled cs xs.1
spelled (Tested low high test ∷ cs) xs = decimal xs.0 ∷ spelled cs xs.1
spelled (Bytes low high ∷ cs) xs = hex_word xs.0 ∷ spelled cs xs.1
spelled (Mask format ∷ cs) xs = mask_word format xs.0 ∷ spelled cs xs.1
spelled (Numbers count high ∷ cs) xs = numbers_word xs.0 ∷ spelled cs xs.1

-- each value is in its range
abbrev pub AreIn : (cs : List Cell) → Values cs → Type 0
AreIn [] xs = Unit {0}
AreIn (Name w ∷ cs) xs = AreIn cs xs
AreIn (Number low high ∷ cs) xs = (low ≤ xs.0) × (xs.0 ≤ high) × AreIn cs xs.1
AreIn (Tested low high test ∷ cs) xs = (low ≤ xs.0) × (xs.0 ≤ high) × (test xs.0 ≡ true) × AreIn cs xs.1
AreIn (Bytes low high ∷ cs) xs = AreSoMany low high xs.0 × AreIn cs xs.1
AreIn (Mask format ∷ cs) xs = IsMask format xs.0 × AreIn cs xs.1
AreIn (Numbers count high ∷ cs) xs = AreNumbers count high xs.0 × AreIn cs xs.1

-- each greatest number has room in 64 bits
abbrev pub HaveRoom : List Cell → Type 0
HaveRoom [] = Unit {0}
HaveRoom (Number low high ∷ cs) = (high < 2 ^ 64) × HaveRoom cs
HaveRoom (Tested low high test ∷ cs) = (high < 2 ^ 64) × HaveRoom cs
HaveRoom (Numbers count high ∷ cs) = (high < 2 ^ 64) × HaveRoom cs
HaveRoom (c ∷ cs) = HaveRoom cs

-- each word after a space
abbrev pub after_spaces : List Word → List ℕ
after_spaces [] = []
after_spaces (w ∷ words) = (32 ∷ w) ++ after_spaces words

-- the words one space apart, and a newline
abbrev pub line_text : List Word → List ℕ
line_text words = join_with_byte 32 words ++ 10 ∷ []
