-- Steps of which each may refuse: the first refusal is the answer.
use Rattle.std.specs.Prelude.{◌≡◌, Result, Ok, Err}

-- the next step, on what the one before it gave
infixl 10 ◌>>=◌
abbrev pub ◌>>=◌ : {A B E : Type 0} → Result A E → (A → Result B E) → Result B E
(Ok x) >>= f = f x
(Err e) >>= f = Err e

-- a refusal as a refusal of another kind
abbrev pub as_refusal : {A E F : Type 0} → (E → F) → Result A E → Result A F
as_refusal view (Ok x) = Ok x
as_refusal view (Err e) = Err (view e)

-- what a call answered, seen by view, is what reading gives
abbrev pub Gives : {X Y E : Type 0} → (X → Y) → Result X E → Result Y E → Type 0
Gives view (Ok x) read = read ≡ Ok (view x)
Gives view (Err e) read = read ≡ Err e
