-- What an exchange adds to the sessions that the list of exchanges tells.
use Rattle.std.proofs.Common.{◌≡◌, ℕ, true, false, not, ◌==◌, ◌&&◌, List, [], ◌∷◌, refl, ◌∙◌}
use Rattle.std.proofs.lemmas.List.Sums.{take_while-cons}
use Rattle.sp_client.specs.Sessions.{Exchange, is_close, ran_from, session_of}

-- one that didn't run, or is of another port, adds nothing
pub skipped : (e : Exchange) (history : List Exchange) (q : ℕ) → (e.ran && (e.port == q)) ≡ false → session_of (e ∷ history) q ≡ session_of history q
skipped e history q off = rw off refl

-- a `close` ends the session
pub closed : (e : Exchange) (history : List Exchange) (q : ℕ) → (e.ran && (e.port == q)) ≡ true → is_close e.request.command ≡ true
    → session_of (e ∷ history) q ≡ []
closed e history q on close = rw on (take_while-cons (λ x. not (is_close x.request.command)) e (ran_from q history) ∙ (rw close refl))

-- and anything else is its last
pub added : (e : Exchange) (history : List Exchange) (q : ℕ) → (e.ran && (e.port == q)) ≡ true → is_close e.request.command ≡ false
    → session_of (e ∷ history) q ≡ e ∷ session_of history q
added e history q on goes = rw on (take_while-cons (λ x. not (is_close x.request.command)) e (ran_from q history) ∙ (rw goes refl))
