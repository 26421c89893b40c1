-- What is written of an event is its line.
use Rattle.std.proofs.Common.{◌≡◌, ℕ, List, [], ◌∷◌, ◌++◌, refl, sym, ap, ◌∙◌, append_assoc}
use Rattle.std.specs.List.{join_with_byte}
use Rattle.sp_schedule_crafts.specs.declared.object.CraftedObject.TheVariants as crafted
use Rattle.sp_lines.specs.Rows.{after_spaces, line_text}
use Rattle.sp_lines.proofs.WrittenLemmas.{after_append, joined}
use Rattle.sp_schedule_events.specs.Events.{event_words}
use Rattle.sp_schedule_events.specs.Written.{back_words, event_name, front_words, words_of}
use Rattle.sp_schedule_events.specs.declared.scenario.Scenario.{Scenario}
use Rattle.sp_schedule_events.specs.declared.event.Event.{Event}
use Rattle.sp_schedule_events.specs.declared.event.Event.TheVariants as events

-- the words that are written are those of the event's row
pub same_words : (s : Scenario) (e : Event) → words_of s.format e ≡ event_words s e
same_words z (events.Rel s d payload) = refl
same_words z (events.Prio s d prio expiry paths payload) = refl
same_words z (events.Take d s) = refl
same_words z (events.TakePrio d) = refl
same_words z (events.Tick u now) = refl
same_words z (events.Weight u v weight) = refl
same_words z (events.Poll u v) = refl
same_words z (events.Pass u v n) = refl
same_words z (events.Flip u v n back bit) = refl
same_words z (events.Inject u v bytes) = refl
same_words z (events.CraftStatus c v s d base have) = refl
same_words z (events.Craft c v key (crafted.Rel r)) = refl
same_words z (events.Craft c v key (crafted.Ack a)) = refl
same_words z (events.Craft c v key (crafted.Prio p)) = refl
same_words z (events.Craft c v key (crafted.Weight w)) = refl
same_words z (events.Craft c v key (crafted.Krel r)) = refl
same_words z (events.Craft c v key (crafted.Kack a)) = refl
same_words z (events.Start u) = refl
same_words z (events.Stop u) = refl
same_words z (events.Publish u weights) = refl
same_words z (events.Krel s d paths payload) = refl
same_words z (events.KTake d s) = refl
same_words z (events.CraftDocument c v key version weights) = refl

-- a name and its fields, written one after the other, and a newline
pub line_written : (s : Scenario) (e : Event) (old a b c new : List ℕ) → a ≡ old ++ event_name e → b ≡ a ++ after_spaces (front_words e)
    → c ≡ b ++ after_spaces (back_words s.format e)
    → new ≡ c ++ 10 ∷ [] → new ≡ old ++ line_text (event_words s e)
line_written s e old a b c new is_a is_b is_c is_new =
    let fields = after_append (front_words e) (back_words s.format e) in
    let words : event_name e ++ (after_spaces (front_words e) ++ after_spaces (back_words s.format e)) ≡ join_with_byte 32 (event_words s e) =
    ap (λ (xs : List ℕ). event_name e ++ xs) (sym fields) ∙ joined (event_name e) (front_words e ++ back_words s.format e)
    ∙ ap (join_with_byte 32) (same_words s e) in
    let pieces : new ≡ old ++ ((event_name e ++ (after_spaces (front_words e) ++ after_spaces (back_words s.format e))) ++ 10 ∷ []) =
    is_new ∙ rw (is_c, is_b, is_a) (simp append_assoc) in
    pieces ∙ ap (λ (xs : List ℕ). old ++ (xs ++ 10 ∷ [])) words
