-- The flags of started nodes keep up with the events, and so does all that a timeline keeps.
use Rattle.std.proofs.Common.{◌≡◌, ◌<◌, ℕ, ◌==◌, Bool, true, false, List, [], ◌∷◌, ◌++◌, set, replicate, get_or, refl, sym, ap, ◌∙◌, arith, get_or-set_same}
use Rattle.std.proofs.Common.{get_or-set_other}
use Rattle.std.proofs.lemmas.Bool.Decides.{nat_tests}
use Rattle.std.proofs.lemmas.List.{get_or-replicate, length-replicate, length-set}
use Rattle.std.proofs.lemmas.List.Sums.{fold-append}
use Rattle.sp_schedule_events.specs.Counts.{Count, with_event}
use Rattle.sp_schedule_events.specs.Documents.{list_in, with_list}
use Rattle.sp_schedule_events.specs.Lives.{is_started, started_after}
use Rattle.sp_schedule_events.specs.StartedNodes.{AreFlagged, AreKept, with_life}
use Rattle.sp_schedule_events.specs.declared.event.Event.{Event}
use Rattle.sp_schedule_events.specs.declared.event.Event.TheVariants as events
use Rattle.sp_schedule_events.specs.declared.published.Published.{Published}
use Rattle.sp_schedule_events.proofs.CountLemmas.{counted_more}
use Rattle.sp_schedule_events.proofs.PublishedLemmas.{published_more}

pub none_flagged : AreFlagged [] (replicate 256 false)
none_flagged = record {
  places = length-replicate {A = Bool} 256 false;
  each = λ u inside. get_or-replicate {A = Bool} 256 u false false inside;
}

-- what the last event leaves
started_last : (es : List Event) (e : Event) (u : ℕ) → is_started (es ++ e ∷ []) u ≡ started_after u (is_started es u) e
started_last es e u = fold-append (started_after u) false es (e ∷ [])

-- an event that neither starts nor stops a node
same_flags : (es : List Event) (flags : List Bool) (e : Event) → AreFlagged es flags → ((u : ℕ) (was : Bool) → started_after u was e ≡ was)
    → AreFlagged (es ++ e ∷ []) flags
same_flags es flags e are stays = record { places = are.places; each = λ u within. are.each u within ∙ sym (started_last es e u ∙ stays u (is_started es u)) }

-- a flag that is set
one_flag : (es : List Event) (flags : List Bool) (e : Event) (v : ℕ) (now : Bool) → AreFlagged es flags
    → ((was : Bool) → started_after v was e ≡ now) → ((u : ℕ) (was : Bool) → (v == u) ≡ false → started_after u was e ≡ was)
    → AreFlagged (es ++ e ∷ []) (set flags v now)
one_flag es flags e v now are own other = record {
  places = length-set flags v now ∙ are.places;
  each = λ u within. go u within (v == u) refl;
}
  where
    go : (u : ℕ) → u < 256 → (t : Bool) → (v == u) ≡ t → get_or (set flags v now) u false ≡ is_started (es ++ e ∷ []) u
    go u within true is =
        let same : u ≡ v = grind (arith, nat_tests) in
        ap (λ (n : ℕ). get_or (set flags v now) n false) same ∙ get_or-set_same flags v now false (omega (arith, are.places, within, same))
        ∙ sym (own (is_started es v))
        ∙ sym (started_last es e v) ∙ ap (λ (n : ℕ). is_started (es ++ e ∷ []) n) (sym same)
    go u within false is =
        let apart : u ≡ v → ⊥ = λ h. grind (arith, nat_tests) in
        get_or-set_other flags v u now false apart ∙ are.each u within ∙ sym (other u (is_started es u) is) ∙ sym (started_last es e u)

itself : (n : ℕ) → (n == n) ≡ true
itself n = grind (arith, nat_tests)

-- the flags keep up with one more event
pub flagged_more : (es : List Event) (flags : List Bool) (e : Event) → AreFlagged es flags → AreFlagged (es ++ e ∷ []) (with_life flags e)
flagged_more es flags (events.Start v) are =
    one_flag es flags (events.Start v) v.0 true are (λ was. rw (itself v.0) refl) (λ u was apart. rw apart refl)
flagged_more es flags (events.Stop v) are =
    one_flag es flags (events.Stop v) v.0 false are (λ was. rw (itself v.0) refl) (λ u was apart. rw apart refl)
flagged_more es flags (events.Rel s d payload) are = same_flags es flags (events.Rel s d payload) are (λ u was. refl)
flagged_more es flags (events.Prio s d prio expiry paths payload) are = same_flags es flags (events.Prio s d prio expiry paths payload) are (λ u was. refl)
flagged_more es flags (events.Take d s) are = same_flags es flags (events.Take d s) are (λ u was. refl)
flagged_more es flags (events.TakePrio d) are = same_flags es flags (events.TakePrio d) are (λ u was. refl)
flagged_more es flags (events.Tick a now) are = same_flags es flags (events.Tick a now) are (λ u was. refl)
flagged_more es flags (events.Weight a b weight) are = same_flags es flags (events.Weight a b weight) are (λ u was. refl)
flagged_more es flags (events.Poll a b) are = same_flags es flags (events.Poll a b) are (λ u was. refl)
flagged_more es flags (events.Pass a b number) are = same_flags es flags (events.Pass a b number) are (λ u was. refl)
flagged_more es flags (events.Flip a b number back bit) are = same_flags es flags (events.Flip a b number back bit) are (λ u was. refl)
flagged_more es flags (events.Inject a b bytes) are = same_flags es flags (events.Inject a b bytes) are (λ u was. refl)
flagged_more es flags (events.Craft c b key body) are = same_flags es flags (events.Craft c b key body) are (λ u was. refl)
flagged_more es flags (events.CraftStatus c b s d base have) are = same_flags es flags (events.CraftStatus c b s d base have) are (λ u was. refl)
flagged_more es flags (events.Krel s d paths payload) are = same_flags es flags (events.Krel s d paths payload) are (λ u was. refl)
flagged_more es flags (events.KTake d s) are = same_flags es flags (events.KTake d s) are (λ u was. refl)
flagged_more es flags (events.Publish a weights) are = same_flags es flags (events.Publish a weights) are (λ u was. refl)
flagged_more es flags (events.CraftDocument c b key version weights) are =
    same_flags es flags (events.CraftDocument c b key version weights) are (λ u was. refl)

-- and all that a timeline keeps does
pub kept_more : (es : List Event) (rows : List Count) (flags : List Bool) (last : Published) (e : Event) → AreKept es rows flags last
    → AreKept (es ++ e ∷ []) (with_event rows e) (with_life flags e) (with_list last (list_in e))
kept_more es rows flags last e kept = record {
  counted = counted_more es rows e kept.counted;
  flagged = flagged_more es flags e kept.flagged;
  published = published_more es last e kept.published;
}
