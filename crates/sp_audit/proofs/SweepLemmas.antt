-- The walk finds the earliest end of a sweep.
use Rattle.std.proofs.Common.{◌≡◌, ◌<◌, ◌≤◌, ℕ, zero, suc, ◌+◌, Bool, true, false, ◌&&◌, IsTrue, List, [], ◌∷◌, ◌++◌, length, take, drop, nat_le, refl, sym, ap}
use Rattle.std.proofs.Common.{subst, ◌∙◌, inl, inr, ◌⊎◌, arith, append_assoc, append-nil, length-append, take-add, get_or}
use Rattle.std.specs.Prelude.{if◌then◌else◌, cond}
use Rattle.std.proofs.lemmas.Bool.{cases_Bool, leb-true}
use Rattle.std.proofs.lemmas.Bool.Decides.{nat_tests}
use Rattle.std.proofs.lemmas.List.Sums.{count_by-le-length, sum_by-append, sum_by-cons}
use Rattle.sp_base.specs.declared.id.NodeId.{NodeId}
use Rattle.sp_runs.specs.Rounds.{IsSweep, are_passed, is_pass, is_passed}
use Rattle.sp_runs.specs.Runs.{is_poll, polls}
use Rattle.sp_schedule_events.specs.declared.event.Event.{Event}
use Rattle.sp_schedule_events.specs.declared.event.Event.TheVariants as events
use Rattle.sp_audit.specs.Ends.{HasSweep, IsFirstEnd, sweep_end}
use Rattle.sp_audit.proofs.Walks.{take_drop}

-- a poll is no pass
no_pass : (u v : NodeId) (n : ℕ) (e : Event) → is_poll u v e ≡ true → is_pass u v n e ≡ false
no_pass u v n (events.Poll a b) is = refl
no_pass u v n (events.Rel _ _ _) is = absurd cc
no_pass u v n (events.Prio _ _ _ _ _ _) is = absurd cc
no_pass u v n (events.Take _ _) is = absurd cc
no_pass u v n (events.TakePrio _) is = absurd cc
no_pass u v n (events.Tick _ _) is = absurd cc
no_pass u v n (events.Weight _ _ _) is = absurd cc
no_pass u v n (events.Pass _ _ _) is = absurd cc
no_pass u v n (events.Flip _ _ _ _ _) is = absurd cc
no_pass u v n (events.Inject _ _ _) is = absurd cc
no_pass u v n (events.Craft _ _ _ _) is = absurd cc
no_pass u v n (events.CraftStatus _ _ _ _ _ _) is = absurd cc
no_pass u v n (events.Publish _ _) is = absurd cc
no_pass u v n (events.CraftDocument _ _ _ _ _) is = absurd cc
no_pass u v n (events.Start _) is = absurd cc
no_pass u v n (events.Stop _) is = absurd cc
no_pass u v n (events.Krel _ _ _ _) is = absurd cc
no_pass u v n (events.KTake _ _) is = absurd cc

-- ---- a step of each walk

end_made : (least : ℕ) (u v : NodeId) (made good : ℕ) (waits : Bool) (e : Event) (es : List Event) → is_poll u v e ≡ true
    → sweep_end least u v made good waits (e ∷ es) ≡ suc (sweep_end least u v (made + 1) (if waits then 0 else good) true es)
end_made least u v made good waits e es is = rw is refl

end_passed : (least : ℕ) (u v : NodeId) (made good : ℕ) (waits : Bool) (e : Event) (es : List Event) → is_poll u v e ≡ false
    → (waits && is_pass u v made e) ≡ true
    → sweep_end least u v made good waits (e ∷ es) ≡ (if nat_le least (good + 1) then 1 else suc (sweep_end least u v made (good + 1) false es))
end_passed least u v made good waits e es is_not is = rw (is_not, is) refl

end_other : (least : ℕ) (u v : NodeId) (made good : ℕ) (waits : Bool) (e : Event) (es : List Event) → is_poll u v e ≡ false
    → (waits && is_pass u v made e) ≡ false
    → sweep_end least u v made good waits (e ∷ es) ≡ suc (sweep_end least u v made good waits es)
end_other least u v made good waits e es is_not is = rw (is_not, is) refl

passed_made : (u v : NodeId) (made : ℕ) (e : Event) (es : List Event) → is_poll u v e ≡ true
    → are_passed u v made (e ∷ es) ≡ (is_passed u v (made + 1) es && are_passed u v (made + 1) es)
passed_made u v made e es is = rw is refl

passed_other : (u v : NodeId) (made : ℕ) (e : Event) (es : List Event) → is_poll u v e ≡ false → are_passed u v made (e ∷ es) ≡ are_passed u v made es
passed_other u v made e es is = rw is refl

waits_made : (u v : NodeId) (n : ℕ) (e : Event) (es : List Event) → is_poll u v e ≡ true → is_passed u v n (e ∷ es) ≡ false
waits_made u v n e es is = rw (no_pass u v n e is, is) refl

waits_other : (u v : NodeId) (n : ℕ) (e : Event) (es : List Event) → is_poll u v e ≡ false → is_pass u v n e ≡ false
    → is_passed u v n (e ∷ es) ≡ is_passed u v n es
waits_other u v n e es is_not is = rw (is, is_not) refl

waits_passed : (u v : NodeId) (n : ℕ) (e : Event) (es : List Event) → is_pass u v n e ≡ true → is_passed u v n (e ∷ es) ≡ true
waits_passed u v n e es is = rw is refl

polls_cons : (u v : NodeId) (e : Event) (es : List Event) → polls (e ∷ es) u v ≡ cond (is_poll u v e) 1 0 + polls es u v
polls_cons u v e es = sum_by-cons (λ y. cond (is_poll u v y) 1 0) e es

pub polls_append : (u v : NodeId) (es fs : List Event) → polls (es ++ fs) u v ≡ polls es u v + polls fs u v
polls_append u v es fs = sum_by-append (λ e. cond (is_poll u v e) 1 0) es fs

one_more : (u v : NodeId) (e : Event) (es : List Event) → is_poll u v e ≡ true → polls (e ∷ es) u v ≡ suc (polls es u v)
one_more u v e es is = polls_cons u v e es ∙ rw is (omega arith)

as_many : (u v : NodeId) (e : Event) (es : List Event) → is_poll u v e ≡ false → polls (e ∷ es) u v ≡ polls es u v
as_many u v e es is = polls_cons u v e es ∙ rw is (omega arith)

both : (a b : Bool) → IsTrue (a && b) → IsTrue a × IsTrue b
both true true is = (refl, refl)
both true false is = absurd cc
both false b is = absurd cc

abbrev bit : Bool → ℕ
bit true = 1
bit false = 0

-- ---- no end comes before

not_true : {X : Type 0} → IsTrue false → X
not_true is = absurd cc

abbrev Shorter : (least : ℕ) (u v : NodeId) (middle late : List Event) → Type 0
Shorter least u v middle late =
    (made good : ℕ) (waits : Bool) (c : ℕ) → good < least → length middle < sweep_end least u v made good waits (middle ++ late)
    → IsTrue (are_passed u v made middle)
    → (IsTrue waits → 1 ≤ c → IsTrue (is_passed u v made middle)) → c ≤ good + bit waits → c + polls middle u v < least

-- In an interval that began with so many frames made in it already, of which all but a waiting one were passed in time, no end is reached.
too_few : (least : ℕ) (u v : NodeId) (made good : ℕ) (waits : Bool) (c : ℕ) (middle late : List Event) → good < least
    → length middle < sweep_end least u v made good waits (middle ++ late) → IsTrue (are_passed u v made middle)
    → (IsTrue waits → 1 ≤ c → IsTrue (is_passed u v made middle)) → c ≤ good + bit waits → c + polls middle u v < least
too_few least u v made good waits c [] late less before passed waiting most = at_end waits waiting most
  where
    none : (c : ℕ) → (c ≡ 0) ⊎ (1 ≤ c)
    none zero = inl refl
    none (suc c) = inr (omega arith)

    at_end : (w : Bool) → (IsTrue w → 1 ≤ c → IsTrue false) → c ≤ good + bit w → c + 0 < least
    at_end false waiting most = omega (arith, most, less)
    at_end true waiting most = elim (none c) [
      | inl is ↦ omega (arith, is, less)
      | inr more ↦ not_true (waiting refl more)
    ]
too_few least u v made good waits c (e ∷ middle) late less before passed waiting most = elim (cases_Bool (is_poll u v e)) [
  | inl is ↦ polled (λ made good waits c. too_few least u v made good waits c middle late) is waits waiting most before
  | inr is ↦ elim (cases_Bool (waits && is_pass u v made e)) [
    | inl pass ↦ went (λ made good waits c. too_few least u v made good waits c middle late) is pass
    | inr not_pass ↦ other (λ made good waits c. too_few least u v made good waits c middle late) is not_pass waits waiting most before not_pass
  ]
]
  where
    polled : Shorter least u v middle late → is_poll u v e ≡ true → (w : Bool) → (IsTrue w → 1 ≤ c → IsTrue (is_passed u v made (e ∷ middle)))
        → c ≤ good + bit w
        → suc (length middle) < sweep_end least u v made good w (e ∷ (middle ++ late)) → c + polls (e ∷ middle) u v < least
    polled shorter_one is w waiting most before =
        let p = both (is_passed u v (made + 1) middle) (are_passed u v (made + 1) middle) (subst IsTrue (passed_made u v made e middle is) passed) in
        let same = end_made least u v made good w e (middle ++ late) is in
        let rest : (c + 1) + polls middle u v < least = on w waiting most p (omega (arith, before, same)) in
        omega (arith, rest, one_more u v e middle is)
      where
        on : (w : Bool) → (IsTrue w → 1 ≤ c → IsTrue (is_passed u v made (e ∷ middle))) → c ≤ good + bit w
            → IsTrue (is_passed u v (made + 1) middle) × IsTrue (are_passed u v (made + 1) middle)
            → length middle < sweep_end least u v (made + 1) (if w then 0 else good) true (middle ++ late) → (c + 1) + polls middle u v < least
        on false waiting most p shorter = shorter_one (made + 1) good true (c + 1) less shorter p.1 (λ _ _. p.0) (omega (arith, most))
        on true waiting most p shorter = first c waiting
          where
            first : (c : ℕ) → (IsTrue true → 1 ≤ c → IsTrue (is_passed u v made (e ∷ middle))) → (c + 1) + polls middle u v < least
            first zero waiting = shorter_one (made + 1) 0 true 1 (omega (arith, less)) shorter p.1 (λ _ _. p.0) (omega arith)
            first (suc c) waiting = not_true (subst IsTrue (waits_made u v made e middle is) (waiting refl (omega arith)))

    went : Shorter least u v middle late → is_poll u v e ≡ false → (waits && is_pass u v made e) ≡ true → c + polls (e ∷ middle) u v < least
    went shorter_one is pass = elim (cases_Bool (nat_le least (good + 1))) [
      | inl done ↦
          (let same : sweep_end least u v made good waits (e ∷ (middle ++ late)) ≡ 1 =
          end_passed least u v made good waits e (middle ++ late) is pass ∙ rw done refl in
          absurd (omega (arith, before, same)))
      | inr not_done ↦
          (let same : sweep_end least u v made good waits (e ∷ (middle ++ late)) ≡ suc (sweep_end least u v made (good + 1) false (middle ++ late)) =
          end_passed least u v made good waits e (middle ++ late) is pass ∙ rw not_done refl in
          let more : good + 1 < least = grind (arith, nat_tests, not_done) in
          let rest = shorter_one made (good + 1) false c more (omega (arith, before, same)) (subst IsTrue (passed_other u v made e middle is) passed)
          (λ no. not_true no)
          (some_waits waits most) in
          omega (arith, rest, as_many u v e middle is))
    ]
      where
        some_waits : (w : Bool) → c ≤ good + bit w → c ≤ (good + 1) + 0
        some_waits true most = omega (arith, most)
        some_waits false most = omega (arith, most)

    other : Shorter least u v middle late → is_poll u v e ≡ false → (waits && is_pass u v made e) ≡ false → (w : Bool)
        → (IsTrue w → 1 ≤ c → IsTrue (is_passed u v made (e ∷ middle))) → c ≤ good + bit w
        → suc (length middle) < sweep_end least u v made good w (e ∷ (middle ++ late)) → (w && is_pass u v made e) ≡ false → c + polls (e ∷ middle) u v < least
    other shorter_one is _ w waiting most before not_pass =
        let same = end_other least u v made good w e (middle ++ late) is not_pass in
        let rest = shorter_one made good w c less (omega (arith, before, same)) (subst IsTrue (passed_other u v made e middle is) passed)
        (still w waiting not_pass) most in
        omega (arith, rest, as_many u v e middle is)
      where
        still : (w : Bool) → (IsTrue w → 1 ≤ c → IsTrue (is_passed u v made (e ∷ middle))) → (w && is_pass u v made e) ≡ false → IsTrue w → 1 ≤ c
            → IsTrue (is_passed u v made middle)
        still true waiting not_pass t some = subst IsTrue (waits_other u v made e middle is not_pass) (waiting t some)
        still false waiting not_pass t some = not_true t

-- no sweep ends before it
none_before : (least : ℕ) (u v : NodeId) (made good : ℕ) (waits : Bool) (before early middle late : List Event) → 1 ≤ least → good < least
    → made ≡ polls before u v
    → length (early ++ middle) < sweep_end least u v made good waits (early ++ (middle ++ late)) → IsSweep least u v (before ++ early) middle → ⊥
none_before least u v made good waits before [] middle late some less counted ends is =
    let passed : IsTrue (are_passed u v made middle) =
    subst (λ (n : ℕ). IsTrue (are_passed u v n middle)) (ap (λ (xs : List Event). polls xs u v) (append-nil before) ∙ sym counted) is.passed in
    let few = too_few least u v made good waits 0 middle late less ends passed (λ _ more. absurd (omega (arith, more))) (omega arith) in
    absurd (omega (arith, few, is.enough))
none_before least u v made good waits before (e ∷ early) middle late some less counted ends is = elim (cases_Bool (is_poll u v e)) [
  | inl polled ↦
      (let same = end_made least u v made good waits e (early ++ (middle ++ late)) polled in
      let now : made + 1 ≡ polls (before ++ e ∷ []) u v =
      (let n = polls_append u v before (e ∷ []) in let one = one_more u v e [] polled in omega (arith, counted, n, one)) in
      none_before least u v (made + 1) (if waits then 0 else good) true (before ++ e ∷ []) early middle late some (lower waits) now (omega (arith, ends, same))
      later)
  | inr not_poll ↦
      (let now : made ≡ polls (before ++ e ∷ []) u v =
      (let n = polls_append u v before (e ∷ []) in let none = as_many u v e [] not_poll in omega (arith, counted, n, none)) in
      elim (cases_Bool (waits && is_pass u v made e)) [
        | inl pass ↦ elim (cases_Bool (nat_le least (good + 1))) [
          | inl done ↦
              (let same : sweep_end least u v made good waits (e ∷ (early ++ (middle ++ late))) ≡ 1 =
              end_passed least u v made good waits e (early ++ (middle ++ late)) not_poll pass ∙ rw done refl in
              absurd (omega (arith, ends, same)))
          | inr not_done ↦
              (let same : sweep_end least u v made good waits (e ∷ (early ++ (middle ++ late)))
              ≡ suc (sweep_end least u v made (good + 1) false (early ++ (middle ++ late))) =
              end_passed least u v made good waits e (early ++ (middle ++ late)) not_poll pass ∙ rw not_done refl in
              let more : good + 1 < least = grind (arith, nat_tests, not_done) in
              none_before least u v made (good + 1) false (before ++ e ∷ []) early middle late some more now (omega (arith, ends, same)) later)
        ]
        | inr not_pass ↦
            (let same = end_other least u v made good waits e (early ++ (middle ++ late)) not_poll not_pass in
            none_before least u v made good waits (before ++ e ∷ []) early middle late some less now (omega (arith, ends, same)) later)
      ])
]
  where
    lower : (w : Bool) → (if w then 0 else good) < least
    lower true = omega (arith, less)
    lower false = less

    later : IsSweep least u v ((before ++ e ∷ []) ++ early) middle
    later = subst (λ (xs : List Event). IsSweep least u v xs middle) (sym (append_assoc before (e ∷ []) early)) is

-- ---- a sweep ends there

pub wider : (least : ℕ) (u v : NodeId) (before gap during more : List Event) → HasSweep least u v (before ++ gap) during
    → HasSweep least u v before (gap ++ (during ++ more))
wider least u v before gap during more h = record {
  early = gap ++ h.early;
  middle = h.middle;
  late = h.late ++ more;
  parts = ap (λ (xs : List Event). gap ++ (xs ++ more)) h.parts ∙ ap (λ (xs : List Event). gap ++ xs) (append_assoc h.early (h.middle ++ h.late) more
      ∙ ap (λ (xs : List Event). h.early ++ xs) (append_assoc h.middle h.late more)) ∙ sym (append_assoc gap h.early (h.middle ++ (h.late ++ more)));
  is = subst (λ (xs : List Event). IsSweep least u v xs h.middle) (append_assoc before gap h.early) h.is;
}

pub longer : (least : ℕ) (u v : NodeId) (before during more : List Event) → HasSweep least u v before during → HasSweep least u v before (during ++ more)
longer least u v before during more h =
    wider least u v before [] during more (subst (λ (xs : List Event). HasSweep least u v xs during) (sym (append-nil before)) h)

-- In what ran since it began each frame was passed in time but for a waiting one: whatever follows
abbrev IsRunning : (u v : NodeId) (begin made : ℕ) (waits : Bool) → List Event → Type 0
IsRunning u v begin made waits run =
    (rest : List Event) → are_passed u v begin (run ++ rest) ≡ ((if waits then is_passed u v made rest else true) && are_passed u v made rest)

-- what ran with one event more, and whatever follows
with_more : {X : Type 0} (f : List Event → X) (run : List Event) (e : Event) (rest : List Event) → f ((run ++ e ∷ []) ++ rest) ≡ f (run ++ (e ∷ rest))
with_more f run e rest = ap f (append_assoc run (e ∷ []) rest)

anew : (u v : NodeId) (begin made : ℕ) (e : Event) → begin ≡ made → is_poll u v e ≡ true → IsRunning u v begin (made + 1) true (e ∷ [])
anew u v begin made e same is rest = ap (λ (n : ℕ). are_passed u v n (e ∷ rest)) same ∙ passed_made u v made e rest is

goes_on : (u v : NodeId) (begin made : ℕ) (run : List Event) (e : Event) → is_poll u v e ≡ true → IsRunning u v begin made false run
    → IsRunning u v begin (made + 1) true (run ++ e ∷ [])
goes_on u v begin made run e is running rest = with_more (are_passed u v begin) run e rest ∙ running (e ∷ rest) ∙ passed_made u v made e rest is

comes : (u v : NodeId) (begin made : ℕ) (run : List Event) (e : Event) → is_poll u v e ≡ false → is_pass u v made e ≡ true → IsRunning u v begin made true run
    → IsRunning u v begin made false (run ++ e ∷ [])
comes u v begin made run e is_not is running rest =
    with_more (are_passed u v begin) run e rest ∙ running (e ∷ rest) ∙ ap (λ (t : Bool). t && are_passed u v made (e ∷ rest)) (waits_passed u v made e rest is)
    ∙ passed_other u v made e rest is_not

stays : (u v : NodeId) (begin made : ℕ) (waits : Bool) (run : List Event) (e : Event) → is_poll u v e ≡ false → (waits && is_pass u v made e) ≡ false
    → IsRunning u v begin made waits run
    → IsRunning u v begin made waits (run ++ e ∷ [])
stays u v begin made true run e is_not none running rest =
    with_more (are_passed u v begin) run e rest ∙ running (e ∷ rest)
    ∙ ap (λ (t : Bool). t && are_passed u v made (e ∷ rest)) (waits_other u v made e rest is_not none)
    ∙ ap (λ (t : Bool). is_passed u v made rest && t) (passed_other u v made e rest is_not)
stays u v begin made false run e is_not none running rest =
    with_more (are_passed u v begin) run e rest ∙ running (e ∷ rest) ∙ passed_other u v made e rest is_not

-- one event more is made, or none
polls_one : (u v : NodeId) (before : List Event) (e : Event) → is_poll u v e ≡ true → polls (before ++ e ∷ []) u v ≡ polls before u v + 1
polls_one u v before e is = let n = polls_append u v before (e ∷ []) in let one = one_more u v e [] is in omega (arith, n, one)

polls_none : (u v : NodeId) (before : List Event) (e : Event) → is_poll u v e ≡ false → polls (before ++ e ∷ []) u v ≡ polls before u v
polls_none u v before e is = let n = polls_append u v before (e ∷ []) in let none = as_many u v e [] is in omega (arith, n, none)

-- what follows the sweep's run stands in the whole interval
joined_run : (least : ℕ) (u v : NodeId) (before run : List Event) (e : Event) (es : List Event) (n m : ℕ) → n ≡ suc m
    → HasSweep least u v before ((run ++ e ∷ []) ++ take m es)
    → HasSweep least u v before (run ++ take n (e ∷ es))
joined_run least u v before run e es n m same h =
    subst (λ (k : ℕ). HasSweep least u v before (run ++ take k (e ∷ es))) (sym same)
    (subst (HasSweep least u v before) (append_assoc run (e ∷ []) (take m es)) h)

apart_run : (least : ℕ) (u v : NodeId) (before run : List Event) (e : Event) (es : List Event) (n m : ℕ) → n ≡ suc m
    → HasSweep least u v (before ++ run) (e ∷ take m es)
    → HasSweep least u v before (run ++ take n (e ∷ es))
apart_run least u v before run e es n m same h =
    subst (λ (k : ℕ). HasSweep least u v before (run ++ take k (e ∷ es))) (sym same)
    (subst (λ (xs : List Event). HasSweep least u v before (run ++ xs)) (append-nil (e ∷ take m es)) (wider least u v before run (e ∷ take m es) [] h))

pub ends_there : (least : ℕ) (u v : NodeId) (made good : ℕ) (waits : Bool) (before run es : List Event) → polls run u v ≡ good + bit waits
    → made ≡ polls (before ++ run) u v
    → IsRunning u v (polls before u v) made waits run → sweep_end least u v made good waits es ≤ length es
    → HasSweep least u v before (run ++ take (sweep_end least u v made good waits es) es)
ends_there least u v made good waits before run [] ran counted running within = absurd (omega (arith, within))
ends_there least u v made good waits before run (e ∷ es) ran counted running within = elim (cases_Bool (is_poll u v e)) [
  | inl polled ↦ made_one (λ g before run. ends_there least u v (made + 1) g true before run es) polled waits ran running within
  | inr not_poll ↦
      (let none = polls_none u v run e not_poll in
      let still : made ≡ polls (before ++ (run ++ e ∷ [])) u v =
      counted ∙ sym (polls_none u v (before ++ run) e not_poll) ∙ ap (λ (xs : List Event). polls xs u v) (append_assoc before run (e ∷ [])) in
      elim (cases_Bool (waits && is_pass u v made e)) [
        | inl pass ↦ elim (cases_Bool (nat_le least (good + 1))) [
          | inl done ↦
              (let same : sweep_end least u v made good waits (e ∷ es) ≡ 1 = end_passed least u v made good waits e es not_poll pass ∙ rw done refl in
              subst (λ (k : ℕ). HasSweep least u v before (run ++ take k (e ∷ es))) (sym same) (whole not_poll none waits ran running pass done))
          | inr not_done ↦
              (let same : sweep_end least u v made good waits (e ∷ es) ≡ suc (sweep_end least u v made (good + 1) false es) =
              end_passed least u v made good waits e es not_poll pass ∙ rw not_done refl in
              joined_run least u v before run e es _ _ same
              (ends_there least u v made (good + 1) false before (run ++ e ∷ []) es (one_good waits ran pass none) still (came not_poll waits running pass)
              (omega (arith, within, same))))
        ]
        | inr not_pass ↦
            (let same = end_other least u v made good waits e es not_poll not_pass in
            joined_run least u v before run e es _ _ same
            (ends_there least u v made good waits before (run ++ e ∷ []) es (none ∙ ran) still
            (stays u v (polls before u v) made waits run e not_poll not_pass running) (omega (arith, within, same))))
      ])
]
  where
    made_one : ((g : ℕ) (before run : List Event) → polls run u v ≡ g + 1 → made + 1 ≡ polls (before ++ run) u v
        → IsRunning u v (polls before u v) (made + 1) true run
        → sweep_end least u v (made + 1) g true es ≤ length es → HasSweep least u v before (run ++ take (sweep_end least u v (made + 1) g true es) es))
        → is_poll u v e ≡ true → (w : Bool) → polls run u v ≡ good + bit w → IsRunning u v (polls before u v) made w run
        → sweep_end least u v made good w (e ∷ es) ≤ suc (length es)
        → HasSweep least u v before (run ++ take (sweep_end least u v made good w (e ∷ es)) (e ∷ es))
    made_one rest polled true ran running within =
        let same = end_made least u v made good true e es polled in
        let one = one_more u v e [] polled in
        let now = polls_one u v (before ++ run) e polled in
        apart_run least u v before run e es _ _ same
        (rest 0 (before ++ run) (e ∷ []) (omega (arith, one)) (omega (arith, counted, now)) (anew u v (polls (before ++ run) u v) made e (sym counted) polled)
        (omega (arith, within, same)))
    made_one rest polled false ran running within =
        let same = end_made least u v made good false e es polled in
        let one = polls_one u v run e polled in
        let now : polls (before ++ (run ++ e ∷ [])) u v ≡ polls (before ++ run) u v + 1 =
        ap (λ (xs : List Event). polls xs u v) (sym (append_assoc before run (e ∷ []))) ∙ polls_one u v (before ++ run) e polled in
        joined_run least u v before run e es _ _ same
        (rest good before (run ++ e ∷ []) (omega (arith, one, ran)) (omega (arith, counted, now)) (goes_on u v (polls before u v) made run e polled running)
        (omega (arith, within, same)))

    one_good : (w : Bool) → polls run u v ≡ good + bit w → (w && is_pass u v made e) ≡ true → polls (run ++ e ∷ []) u v ≡ polls run u v
        → polls (run ++ e ∷ []) u v ≡ (good + 1) + 0
    one_good true ran pass none = omega (arith, ran, none)
    one_good false ran pass none = absurd cc

    came : is_poll u v e ≡ false → (w : Bool) → IsRunning u v (polls before u v) made w run → (w && is_pass u v made e) ≡ true
        → IsRunning u v (polls before u v) made false (run ++ e ∷ [])
    came not_poll true running pass = comes u v (polls before u v) made run e not_poll pass running
    came not_poll false running pass = absurd cc

    whole : is_poll u v e ≡ false → polls (run ++ e ∷ []) u v ≡ polls run u v → (w : Bool) → polls run u v ≡ good + bit w
        → IsRunning u v (polls before u v) made w run → (w && is_pass u v made e) ≡ true
        → nat_le least (good + 1) ≡ true → HasSweep least u v before (run ++ e ∷ [])
    whole not_poll none w ran running pass done = record {
      early = [];
      middle = run ++ e ∷ [];
      late = [];
      parts = sym (append-nil (run ++ e ∷ []));
      is = record {
        enough = (let all = one_good w ran pass none in let most = leb-true least (good + 1) done in omega (arith, all, most));
        passed = ap (λ (xs : List Event). are_passed u v (polls xs u v) (run ++ e ∷ [])) (append-nil before)
            ∙ ap (are_passed u v (polls before u v)) (sym (append-nil (run ++ e ∷ []))) ∙ came not_poll w running pass [];
      };
    }

-- ---- the earliest end

pub sweep_first : (least : ℕ) (u v : NodeId) (before es : List Event) → 1 ≤ least
    → IsFirstEnd (HasSweep least u v before) es (sweep_end least u v (polls before u v) 0 false es)
sweep_first least u v before es some = record {
  most = at_most (polls before u v) 0 false es;
  has = λ within. ends_there least u v (polls before u v) 0 false before [] es refl (ap (λ (xs : List Event). polls xs u v) (sym (append-nil before)))
      (λ rest. refl) within;
  none = λ m less h.
      none_before least u v (polls before u v) 0 false before h.early h.middle (h.late ++ drop m es) some some refl
      (subst (λ (xs : List Event). length (h.early ++ h.middle) < sweep_end least u v (polls before u v) 0 false xs) (all m h) (shorter m less h)) h.is;
}
  where
    at_most : (made good : ℕ) (waits : Bool) (es : List Event) → sweep_end least u v made good waits es ≤ length es + 1
    at_most made good waits [] = omega arith
    at_most made good waits (e ∷ es) = elim (cases_Bool (is_poll u v e)) [
      | inl polled ↦
          (let same = end_made least u v made good waits e es polled in let rest = at_most (made + 1) (if waits then 0 else good) true es in
          omega (arith, same, rest))
      | inr not_poll ↦ elim (cases_Bool (waits && is_pass u v made e)) [
        | inl pass ↦ elim (cases_Bool (nat_le least (good + 1))) [
          | inl done ↦
              (let same : sweep_end least u v made good waits (e ∷ es) ≡ 1 = end_passed least u v made good waits e es not_poll pass ∙ rw done refl in
              omega (arith, same))
          | inr not_done ↦
              (let same : sweep_end least u v made good waits (e ∷ es) ≡ suc (sweep_end least u v made (good + 1) false es) =
              end_passed least u v made good waits e es not_poll pass ∙ rw not_done refl in
              let rest = at_most made (good + 1) false es in omega (arith, same, rest))
        ]
        | inr not_pass ↦
            (let same = end_other least u v made good waits e es not_poll not_pass in let rest = at_most made good waits es in omega (arith, same, rest))
      ]
    ]

    all : (m : ℕ) (h : HasSweep least u v before (take m es)) → es ≡ h.early ++ (h.middle ++ (h.late ++ drop m es))
    all m h = take_drop es m ∙ ap (λ (xs : List Event). xs ++ drop m es) h.parts ∙ append_assoc h.early (h.middle ++ h.late) (drop m es)
        ∙ ap (λ (xs : List Event). h.early ++ xs) (append_assoc h.middle h.late (drop m es))

    shorter : (m : ℕ) → m < sweep_end least u v (polls before u v) 0 false es → (h : HasSweep least u v before (take m es))
        → length (h.early ++ h.middle) < sweep_end least u v (polls before u v) 0 false es
    shorter m less h =
        let long = ap length h.parts in
        let a = length-append h.early (h.middle ++ h.late) in
        let b = length-append h.middle h.late in
        let c = length-append h.early h.middle in
        let d = taken m es in
        omega (arith, less, long, a, b, c, d)
      where
        taken : (m : ℕ) (xs : List Event) → length (take m xs) ≤ m
        taken zero xs = omega arith
        taken (suc m) [] = omega arith
        taken (suc m) (x ∷ xs) = let rest = taken m xs in omega (arith, rest)

pub drop_at_item : {X : Type 0} (xs : List X) (i : ℕ) (x : X) → i < length xs → x ≡ get_or xs i x → drop i xs ≡ x ∷ drop (suc i) xs
drop_at_item [] i x below is = absurd (omega (arith, below))
drop_at_item (y ∷ xs) zero x below is = ap (λ (z : _). z ∷ xs) (sym is)
drop_at_item (y ∷ xs) (suc i) x below is = drop_at_item xs i x (omega (arith, below)) is

pub drop_past : {X : Type 0} (xs : List X) (i : ℕ) → length xs ≤ i → drop i xs ≡ []
drop_past [] zero past = refl
drop_past [] (suc i) past = refl
drop_past (x ∷ xs) zero past = absurd (omega (arith, past))
drop_past (x ∷ xs) (suc i) past = drop_past xs i (omega (arith, past))

-- ---- how many frames were made

pub polls_few : (u v : NodeId) (es : List Event) → polls es u v ≤ length es
polls_few u v es = count_by-le-length (is_poll u v) es

-- up to a later place
pub polls_on : (u v : NodeId) (es : List Event) (from n : ℕ) → polls (take (from + n) es) u v ≡ polls (take from es) u v + polls (take n (drop from es)) u v
polls_on u v es from n = ap (λ (xs : List Event). polls xs u v) (take-add from n es) ∙ polls_append u v (take from es) (take n (drop from es))
