use Rattle.std.proofs.Common.{◌≡◌, ◌≢◌, ℕ, List, ◌++◌, Option, None, Some, MatchOption, IfSome, Bor}
use Rattle.std.proofs.lemmas.Bool.Decides.{Decides-eqb}
use Rattle.std.proofs.lemmas.Slice.Eq.{strip_prefix_is}
use Rattle.sp_hss.proofs.verifier.rest.Goals as goal

some_only : (r : Option (Bor (List ℕ))) (s p : List ℕ) → MatchOption r ((rest : List ℕ) → s ≢ p ++ rest) (λ x. s ≡ p ++ x.now) → IfSome r (λ x. s ≡ p ++ x.now)
some_only None s p told = tt
some_only (Some x) s p told = told

pub returns : goal.returns
returns c =
    some_only c.strip_prefix.result c.args.sig.now c.args.front.now
    (strip_prefix_is Decides-eqb c.args.sig.now c.args.front.now c.strip_prefix.result c.strip_prefix.ensures.cases)
