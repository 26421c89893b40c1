-- What arrives at a link over its life, and which of it is fresh.
use Rattle.std.specs.Prelude.{ℕ, ◌≡◌, Bool, true, List, [], ◌∷◌, ◌++◌, if◌then◌else◌}
use Rattle.sp_frame.specs.declared.head.Head.{Head}
use Rattle.sp_rules.specs.Link.{Link, after_frame, is_above, link_answer, pair_of}
use Rattle.sp_rules.specs.declared.link.LinkAnswer.{LinkAnswer}
use Rattle.sp_rules.specs.declared.link.LinkAnswer.TheVariants as answers

-- a frame's head, and whether its tag is right
pub record Arrival : Type 0 where
  pub head : Head
  pub right : Bool

-- the link after these arrivals, one after the other
abbrev pub after_all : Link → List Arrival → Link
after_all l [] = l
after_all l (a ∷ others) = after_all (after_frame l a.head a.right) others

-- the pair of a frame that was answered so, where it is fresh
abbrev pub fresh_pair : Head → LinkAnswer → List (ℕ × ℕ)
fresh_pair h answers.Fresh = pair_of h ∷ []
fresh_pair h answers.NotForMe = []
fresh_pair h answers.BadTag = []
fresh_pair h (answers.Learned boot) = []
fresh_pair h (answers.Stale boot counter) = []

-- the pair with counter 0 of the boot that an answer carried
abbrev pub learned_pair : LinkAnswer → List (ℕ × ℕ)
learned_pair (answers.Learned boot) = (boot, 0) ∷ []
learned_pair answers.Fresh = []
learned_pair answers.NotForMe = []
learned_pair answers.BadTag = []
learned_pair (answers.Stale boot counter) = []

-- the pairs of the fresh frames, in their order
abbrev pub fresh_pairs : Link → List Arrival → List (ℕ × ℕ)
fresh_pairs l [] = []
fresh_pairs l (a ∷ others) = fresh_pair a.head (link_answer l a.head a.right) ++ fresh_pairs (after_frame l a.head a.right) others

-- the pairs of the fresh frames, and (b, 0) for each boot b that an answer carried, in their order
abbrev pub pairs : Link → List Arrival → List (ℕ × ℕ)
pairs l [] = []
pairs l (a ∷ others) =
    (fresh_pair a.head (link_answer l a.head a.right) ++ learned_pair (link_answer l a.head a.right)) ++ pairs (after_frame l a.head a.right) others

-- each is above the one before, and the first is above this one
abbrev pub Rise : ℕ × ℕ → List (ℕ × ℕ) → Type 0
Rise p [] = Unit {0}
Rise p (q ∷ qs) = (is_above q p ≡ true) × Rise q qs

-- the greatest of this pair and these
abbrev pub greatest : ℕ × ℕ → List (ℕ × ℕ) → ℕ × ℕ
greatest p [] = p
greatest p (q ∷ qs) = greatest (if is_above q p then q else p) qs
