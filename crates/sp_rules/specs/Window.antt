-- Which numbers of one source a node has seen: those that are marked of the last 1,024, and all before these.
--
--     0 .......................... | the 1,024 numbers up to the greatest mark | ..........
--     all seen                     | seen where marked                         | none seen
--
-- The value of a window is the list of the marks in the middle, ascending.
use Rattle.std.specs.Prelude.{ℕ, ◌==◌, ◌+◌, nat_lt, nat_le, max, Bool, not, ◌||◌, List, [], ◌∷◌, filter, fold, if◌then◌else◌}
use Rattle.std.specs.List.{list_any}
use Rattle.sp_rules.specs.declared.window.TheConstants.{WINDOW}

-- the greatest of these numbers, 0 where there is none
abbrev pub greatest : List ℕ → ℕ
greatest [] = 0
greatest (x ∷ xs) = max x (greatest xs)

-- whether a number is marked
abbrev pub is_in : ℕ → List ℕ → Bool
is_in x ms = list_any (λ m. m == x) ms

-- a number is too far below the greatest mark for the window
abbrev pub is_past : (top x : ℕ) → Bool
is_past top x = nat_le (x + WINDOW) top

-- a number counts as seen where it is marked, or past
abbrev pub is_seen : List ℕ → ℕ → Bool
is_seen ms q = is_in q ms || is_past (greatest ms) q

-- the number in its place among ascending ones, unless it is there
abbrev pub put_in : ℕ → List ℕ → List ℕ
put_in q [] = q ∷ []
put_in q (m ∷ ms) = if nat_lt q m then q ∷ m ∷ ms else if m == q then m ∷ ms else m ∷ put_in q ms

-- the number is marked, and the marks that are past then leave
abbrev pub with_mark : List ℕ → ℕ → List ℕ
with_mark ms q = filter (λ x. not (is_past (max q (greatest ms)) x)) (put_in q ms)

-- the window after these marks, in their order
abbrev pub window_of : List ℕ → List ℕ
window_of marks = fold with_mark [] marks
