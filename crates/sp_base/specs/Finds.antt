-- What a search answers: a value that is right, or none where none is.
use Rattle.std.specs.Prelude.{Option, Some, None}

-- the value is right, and none is given only where none is right
abbrev pub Finds : {X : Type 0} → (X → Type 0) → Option X → Type 0
Finds IsRight (Some x) = IsRight x
Finds {X} IsRight None = (x : X) → IsRight x → ⊥
