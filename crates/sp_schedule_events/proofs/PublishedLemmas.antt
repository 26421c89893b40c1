-- What was published keeps up with the events, and no event makes more than one version.
use Rattle.std.proofs.Common.{◌≡◌, ◌≤◌, ℕ, ◌+◌, List, [], ◌∷◌, ◌++◌, Option, Some, None, length, sym, ap, ◌∙◌, arith}
use Rattle.std.specs.Prelude.{fold}
use Rattle.std.proofs.lemmas.List.Sums.{fold-append}
use Rattle.sp_schedule_events.specs.Documents.{list_in, none_published, published, with_list}
use Rattle.sp_schedule_events.specs.declared.event.Event.{Event}
use Rattle.sp_schedule_events.specs.declared.published.Published.{Published}

-- after one more event
pub published_more : (es : List Event) (last : Published) (e : Event) → last ≡ published es → with_list last (list_in e) ≡ published (es ++ e ∷ [])
published_more es last e is =
    ap (λ (was : Published). with_list was (list_in e)) is ∙ sym (fold-append (λ was f. with_list was (list_in f)) none_published es (e ∷ []))

one_version : (was : Published) (list : Option (List ℕ)) → (with_list was list).version ≤ was.version + 1
one_version was None = omega arith
one_version was (Some weights) = omega arith

few_versions : (es : List Event) (was : Published) → (fold (λ p e. with_list p (list_in e)) was es).version ≤ was.version + length es
few_versions [] was = omega arith
few_versions (e ∷ es) was = omega (arith, few_versions es (with_list was (list_in e)), one_version was (list_in e))

pub versions_below : (es : List Event) → (published es).version ≤ 1 + length es
versions_below es = few_versions es none_published
