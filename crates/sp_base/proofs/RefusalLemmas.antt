-- Steps that may refuse: what stands where all of them passed.
use Rattle.std.proofs.Common.{◌≡◌, Result, Ok, Err, refl}
use Rattle.sp_base.specs.Refusals.{◌>>=◌, as_refusal}

-- both steps passed
pub then_ok : {A B E : Type 0} (r : Result A E) (f : A → Result B E) (y : B) → (r >>= f) ≡ Ok y → (x : A) × (r ≡ Ok x) × (f x ≡ Ok y)
then_ok (Ok x) f y e = (x, refl, e)
then_ok (Err z) f y e = absurd (cc)

-- what passed, passed before its refusal was renamed
pub as_refusal_ok : {A E F : Type 0} (view : E → F) (r : Result A E) (x : A) → as_refusal view r ≡ Ok x → r ≡ Ok x
as_refusal_ok view (Ok y) x e = cc
as_refusal_ok view (Err z) x e = absurd (cc)
