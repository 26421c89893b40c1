-- The lists that stand after more events.
use Rattle.std.proofs.Common.{◌≡◌, ℕ, ◌+◌, ◌-◌, List, [], ◌∷◌, ◌++◌, Option, Some, None, refl, ap, ◌∙◌, inl, inr}
use Rattle.std.specs.Prelude.{◌⊎◌}
use Rattle.std.proofs.lemmas.List.{append-nil}
use Rattle.sp_runs.specs.Forgery.{lists_in, with_published}
use Rattle.sp_schedule_events.specs.Documents.{list_in}
use Rattle.sp_schedule_events.specs.declared.event.Event.{Event}

-- the lists of two runs of events are those of the one and of the other
pub lists_more : (es more : List Event) → lists_in (es ++ more) ≡ lists_in es ++ lists_in more
lists_more [] more = refl
lists_more (e ∷ es) more = go (list_in e) (lists_more es more)
  where
    go : (o : Option (List ℕ)) → lists_in (es ++ more) ≡ lists_in es ++ lists_in more
        → with_published o (lists_in (es ++ more)) ≡ with_published o (lists_in es) ++ lists_in more
    go None rest = rest
    go (Some weights) rest = ap (λ (lists : List (List ℕ)). weights ∷ lists) rest

-- an event publishes a list, or none
pub list_of : (e : Event) → (list_in e ≡ None) ⊎ ((weights : List ℕ) × (list_in e ≡ Some weights))
list_of e = go (list_in e)
  where
    go : (o : Option (List ℕ)) → (o ≡ None) ⊎ ((weights : List ℕ) × (o ≡ Some weights))
    go None = inl refl
    go (Some weights) = inr (weights, refl)

-- an event that publishes none adds none
pub none_more : (es : List Event) (e : Event) → list_in e ≡ None → lists_in (es ++ e ∷ []) ≡ lists_in es
none_more es e none = lists_more es (e ∷ []) ∙ ap (λ (o : Option (List ℕ)). lists_in es ++ with_published o []) none ∙ append-nil (lists_in es)

-- one that does adds its own
pub list_more : (es : List Event) (e : Event) (weights : List ℕ) → list_in e ≡ Some weights → lists_in (es ++ e ∷ []) ≡ lists_in es ++ weights ∷ []
list_more es e weights some = lists_more es (e ∷ []) ∙ ap (λ (o : Option (List ℕ)). lists_in es ++ with_published o []) some
