-- The table of polls keeps up with the events.
use Rattle.std.proofs.Common.{◌≡◌, ◌≤◌, ℕ, ◌+◌, Bool, true, false, List, [], ◌∷◌, ◌++◌, length, filter, refl, sym, ap, ◌∙◌, arith, length-append}
use Rattle.std.specs.Prelude.{◌==◌, ◌&&◌}
use Rattle.std.proofs.lemmas.Bool.{and_from, and_parts, eq-eqb, eqb-true}
use Rattle.std.proofs.lemmas.List.Elements.{filter-append}
use Rattle.std.proofs.lemmas.List.Sums.{length-filter, count_by-le-length}
use Rattle.sp_base.specs.Rows.{put_where}
use Rattle.sp_base.proofs.RowLemmas.{first_where-put, first_where-put_other}
use Rattle.sp_base.specs.declared.id.NodeId.{NodeId}
use Rattle.sp_schedule_events.specs.declared.event.Event.{Event}
use Rattle.sp_schedule_events.specs.declared.event.Event.TheVariants as events
use Rattle.sp_schedule_events.specs.Events.{is_poll, polls}
use Rattle.sp_schedule_events.specs.Counts.{AreCounted, Count, is_from_to, no_polls, polls_in, with_event, with_poll}

-- no event makes more than one frame
pub polls_below : (es : List Event) (u v : ℕ) → polls es u v ≤ length es
polls_below es u v = rw length-filter (count_by-le-length (is_poll u v) es)

-- one more event of another kind or direction
polls-other : (es : List Event) (e : Event) (u v : ℕ) → is_poll u v e ≡ false → polls (es ++ e ∷ []) u v ≡ polls es u v
polls-other es e u v other =
    ap length (filter-append (is_poll u v) es (e ∷ [])) ∙ rw other (length-append (filter (is_poll u v) es) [] ∙ omega arith)

-- one more poll of this direction
polls-same : (es : List Event) (e : Event) (u v : ℕ) → is_poll u v e ≡ true → polls (es ++ e ∷ []) u v ≡ polls es u v + 1
polls-same es e u v same =
    ap length (filter-append (is_poll u v) es (e ∷ [])) ∙ rw same (length-append (filter (is_poll u v) es) (e ∷ []))

-- a row of one direction is of no other
one_direction : (a b u v : ℕ) (row : Count) → ((a == u) && (b == v)) ≡ false → is_from_to a b row ≡ true → is_from_to u v row ≡ false
one_direction a b u v row apart is =
    let ends = and_parts (row.from == a) (row.to == b) is in
    rw (eqb-true row.from a ends.0, eqb-true row.to b ends.1) apart

-- a count that was put is read back in its direction
put_same : (rows : List Count) (a b u v n : ℕ) → ((a == u) && (b == v)) ≡ true
    → polls_in (put_where (is_from_to a b) (record { from = a; to = b; polls = n }) rows) u v ≡ n
put_same rows a b u v n same =
    let ends = and_parts (a == u) (b == v) same in
    let one : a ≡ u = eqb-true a u ends.0 in
    let other : b ≡ v = eqb-true b v ends.1 in
    rw (one, other)
    (ap (λ (c : Count). c.polls)
    (first_where-put (is_from_to u v) (no_polls u v) (record { from = u; to = v; polls = n }) rows
    (and_from (u == u) (v == v) (eq-eqb u u refl) (eq-eqb v v refl))))

-- and in no other
put_other : (rows : List Count) (a b u v n : ℕ) → ((a == u) && (b == v)) ≡ false
    → polls_in (put_where (is_from_to a b) (record { from = a; to = b; polls = n }) rows) u v ≡ polls_in rows u v
put_other rows a b u v n apart =
    ap (λ (c : Count). c.polls)
    (first_where-put_other (is_from_to a b) (is_from_to u v) (no_polls u v) (record { from = a; to = b; polls = n }) rows
    (λ row is. one_direction a b u v row apart is) apart)

-- the table of a timeline whose last event is a poll
counted-poll : (es : List Event) (rows : List Count) (a b : NodeId) → AreCounted es rows → AreCounted (es ++ events.Poll a b ∷ []) (with_poll rows a.0 b.0)
counted-poll es rows a b counted u v = go ((a.0 == u) && (b.0 == v)) refl
  where
    go : (t : Bool) → ((a.0 == u) && (b.0 == v)) ≡ t → polls_in (with_poll rows a.0 b.0) u v ≡ polls (es ++ events.Poll a b ∷ []) u v
    go true is =
        let ends = and_parts (a.0 == u) (b.0 == v) is in
        let one : a.0 ≡ u = eqb-true a.0 u ends.0 in
        let other : b.0 ≡ v = eqb-true b.0 v ends.1 in
        put_same rows a.0 b.0 u v _ is ∙ rw (one, other) (ap (λ (n : ℕ). n + 1) (counted u v)) ∙ sym (polls-same es (events.Poll a b) u v is)
    go false is =
        put_other rows a.0 b.0 u v _ is ∙ counted u v ∙ sym (polls-other es (events.Poll a b) u v is)

-- the table keeps up with one more event
pub counted_more : (es : List Event) (rows : List Count) (e : Event) → AreCounted es rows → AreCounted (es ++ e ∷ []) (with_event rows e)
counted_more es rows (events.Poll a b) counted u v = counted-poll es rows a b counted u v
counted_more es rows (events.Rel s d payload) counted u v = counted u v ∙ sym (polls-other es (events.Rel s d payload) u v refl)
counted_more es rows (events.Prio s d prio expiry paths payload) counted u v =
    counted u v ∙ sym (polls-other es (events.Prio s d prio expiry paths payload) u v refl)
counted_more es rows (events.Take d s) counted u v = counted u v ∙ sym (polls-other es (events.Take d s) u v refl)
counted_more es rows (events.TakePrio d) counted u v = counted u v ∙ sym (polls-other es (events.TakePrio d) u v refl)
counted_more es rows (events.Tick a now) counted u v = counted u v ∙ sym (polls-other es (events.Tick a now) u v refl)
counted_more es rows (events.Weight a b weight) counted u v = counted u v ∙ sym (polls-other es (events.Weight a b weight) u v refl)
counted_more es rows (events.Pass a b number) counted u v = counted u v ∙ sym (polls-other es (events.Pass a b number) u v refl)
counted_more es rows (events.Flip a b number back bit) counted u v = counted u v ∙ sym (polls-other es (events.Flip a b number back bit) u v refl)
counted_more es rows (events.Inject a b bytes) counted u v = counted u v ∙ sym (polls-other es (events.Inject a b bytes) u v refl)
counted_more es rows (events.Craft c b key body) counted u v = counted u v ∙ sym (polls-other es (events.Craft c b key body) u v refl)
counted_more es rows (events.CraftStatus c b s d base have) counted u v = counted u v ∙ sym (polls-other es (events.CraftStatus c b s d base have) u v refl)
counted_more es rows (events.Start a) counted u v = counted u v ∙ sym (polls-other es (events.Start a) u v refl)
counted_more es rows (events.Stop a) counted u v = counted u v ∙ sym (polls-other es (events.Stop a) u v refl)
counted_more es rows (events.Krel s d paths payload) counted u v = counted u v ∙ sym (polls-other es (events.Krel s d paths payload) u v refl)
counted_more es rows (events.KTake d s) counted u v = counted u v ∙ sym (polls-other es (events.KTake d s) u v refl)
counted_more es rows (events.Publish a weights) counted u v = counted u v ∙ sym (polls-other es (events.Publish a weights) u v refl)
counted_more es rows (events.CraftDocument c b key version weights) counted u v =
    counted u v ∙ sym (polls-other es (events.CraftDocument c b key version weights) u v refl)
