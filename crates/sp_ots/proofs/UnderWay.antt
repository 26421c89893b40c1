-- How the lanes keep the chains that are on their way, when one takes a chain and when one makes a step.
use Rattle.std.proofs.Common.{◌≡◌, ◌≢◌, ℕ, zero, suc, ◌+◌, ◌-◌, ◌/◌, ◌<◌, ◌≤◌, ◌⊎◌, List, [], ◌∷◌, ◌++◌, length, take, map, replicate, sum, set, slice_index}
use Rattle.std.proofs.Common.{slice_index_or, refl, sym, ◌∙◌, ap, arith, inl, inr}
use Rattle.std.proofs.lemmas.Bool.{cases_eq, cases_lt}
use Rattle.std.proofs.lemmas.List.{ext_get_or, get_or-set_other, get_or-set_same, length-set}
use Rattle.std.proofs.lemmas.List.Sums.{sum_by-cons}
use Rattle.std.proofs.lemmas.List.FromFn.{get_or-map-range_with_len, length-map-range_with_len}
use Rattle.sha2.specs.Sha256.{sha256}
use Rattle.sp_ots.specs.Lanes.{lanes}
use Rattle.sp_ots.specs.declared.lanes.Lanes.{Lanes}
use Rattle.sp_ots.specs.Strings.{u8str}
use Rattle.sp_ots.specs.TwoLeaves.{element_at, run_ends, stepped_behind}
use Rattle.sp_ots.specs.UnderWay.{AreUnderWay, IsHeld, IsInTurn, IsLeft, IsTaken, steps_of}
use Rattle.sp_ots.proofs.TwoLeaves.{begun_behind, more_behind, none_behind}

-- no lane holds a chain where none has steps left
pub none_left : (n k : ℕ) → slice_index (replicate n 0) k ≡ 0
none_left zero k = refl
none_left (suc n) zero = refl
none_left (suc n) (suc k) = none_left n k

-- a chain is taken or left, and not both
pub taken_or_left : (from to : List ℕ) (most next i : ℕ) → IsTaken from to most next i ⊎ IsLeft from to most next i
taken_or_left from to most next i = elim (cases_lt most (steps_of from to i)) [
  | inl long ↦ inl (inl long)
  | inr upto ↦ elim (cases_lt (most / 3) (steps_of from to i)) [
    | inl turn ↦ elim (cases_lt i next) [
      | inl before ↦ inl (inr (record { low = turn; high = upto }, before))
      | inr later ↦ inr (record { high = upto; later = λ _. later })
    ]
    | inr short ↦ inr (record { high = upto; later = λ turn. absurd (omega (arith, turn, short)) })
  ]
]

not_both : (from to : List ℕ) (most next i : ℕ) → IsTaken from to most next i → IsLeft from to most next i → ⊥
not_both from to most next i taken left = elim taken [
  | inl long ↦ omega (arith, long, left.high)
  | inr turn ↦ omega (arith, left.later turn.0.low, turn.1)
]

-- a chain that was taken stays so
later_taken : (from to : List ℕ) (most next after i : ℕ) → next ≤ after → IsTaken from to most next i → IsTaken from to most after i
later_taken from to most next after i more taken = elim taken [
  | inl long ↦ inl long
  | inr turn ↦ inr (turn.0, omega (arith, turn.1))
]

-- a lane that is as it was
still : (front : ℕ → List ℕ) (from to : List ℕ) (old : List (List ℕ)) (was l : Lanes) (m : ℕ)
    → ((i : ℕ) → IsTaken from to was.most was.next i → IsTaken from to l.most l.next i)
    → slice_index l.chains m ≡ slice_index was.chains m → slice_index l.left m ≡ slice_index was.left m
    → slice_index_or l.messages m [] ≡ slice_index_or was.messages m []
    → IsHeld front from to old was.most was.next (slice_index was.chains m) (slice_index was.left m) (slice_index_or was.messages m [])
    → IsHeld front from to old l.most l.next (slice_index l.chains m) (slice_index l.left m) (slice_index_or l.messages m [])
still front from to old was l m stays chains left messages held =
    rw (chains, left, messages) (record {
      within = held.within;
      taken = stays (slice_index was.chains m) held.taken;
      steps = held.steps;
      message_is = held.message_is;
    })

-- an element of a chain without steps is its end
no_steps : (front : ℕ → List ℕ) (from to : List ℕ) (elements : List (List ℕ)) (i : ℕ) → slice_index to i ≤ slice_index from i
    → element_at front from elements i (slice_index to i) ≡ slice_index_or elements i []
unfolding stepped_behind
no_steps front from to elements i without = let none : slice_index to i - slice_index from i ≡ 0 = omega arith in rw none refl

-- the same chains are taken, and the same are left, said by other numbers
went_on : (front : ℕ → List ℕ) (from to : List ℕ) (old now : List (List ℕ)) (was l : Lanes) → AreUnderWay front from to old now was
    → ((i : ℕ) → IsTaken from to was.most was.next i → IsTaken from to l.most l.next i)
    → ((i : ℕ) → i < length old → IsTaken from to l.most l.next i → IsTaken from to was.most was.next i)
    → ((i : ℕ) → IsLeft from to l.most l.next i → IsLeft from to was.most was.next i)
    → l.chains ≡ was.chains → l.left ≡ was.left → l.messages ≡ was.messages
    → AreUnderWay front from to old now l
went_on front from to old now was l u stays taken left chains left_is messages =
    let c : (m : ℕ) → slice_index l.chains m ≡ slice_index was.chains m = λ m. ap (λ (xs : List ℕ). slice_index xs m) chains in
    let n : (m : ℕ) → slice_index l.left m ≡ slice_index was.left m = λ m. ap (λ (xs : List ℕ). slice_index xs m) left_is in
    let e : (m : ℕ) → slice_index_or l.messages m [] ≡ slice_index_or was.messages m [] = λ m. ap (λ (xs : List (List ℕ)). slice_index_or xs m []) messages in
    record {
      whole = u.whole;
      chains = ap length chains ∙ u.chains;
      left = ap length left_is ∙ u.left;
      messages = ap length messages ∙ u.messages;
      held = λ m busy. still front from to old was l m stays (c m) (n m) (e m) (u.held m (omega (arith, n m)));
      ended = λ i within t free. u.ended i within (taken i within t) (λ m busy at. free m (omega (arith, n m)) (c m ∙ at));
      waiting = λ i l. u.waiting i (left i l);
    }

-- none of the chains up to the next one is in turn
pub passed : (front : ℕ → List ℕ) (from to : List ℕ) (old now : List (List ℕ)) (was l : Lanes) → AreUnderWay front from to old now was
    → was.next ≤ l.next → ((i : ℕ) → was.next ≤ i → i < l.next → ¬ IsInTurn from to was.most i)
    → l.most ≡ was.most → l.chains ≡ was.chains → l.left ≡ was.left → l.messages ≡ was.messages
    → AreUnderWay front from to old now l
passed front from to old now was l u more none most chains left messages =
    went_on front from to old now was l u
    (λ i t. rw most (later_taken from to was.most was.next l.next i more t))
    (λ i within t. elim (taken_or_left from to was.most was.next i) [
      | inl before ↦ before
      | inr waits ↦ elim (rw most at t) [
        | inl long ↦ inl long
        | inr turn ↦ absurd (none i (waits.later turn.0.low) turn.1 turn.0)
      ]
    ])
    (λ i waits.
    let held : IsLeft from to was.most l.next i = rw most at waits in
    record { high = held.high; later = λ turn. omega (arith, held.later turn) })
    chains left messages

-- none is in turn at all, and the turn of shorter ones begins
pub turned : (front : ℕ → List ℕ) (from to : List ℕ) (old now : List (List ℕ)) (was l : Lanes) → AreUnderWay front from to old now was
    → ((i : ℕ) → was.next ≤ i → i < length old → ¬ IsInTurn from to was.most i) → l.most ≡ was.most / 3 → l.next ≡ 0 → l.chains ≡ was.chains → l.left ≡ was.left
    → l.messages ≡ was.messages
    → AreUnderWay front from to old now l
turned front from to old now was l u none most next chains left messages =
    went_on front from to old now was l u
    (λ i t. rw most (inl (elim t [ inl long ↦ omega (arith, long) | inr turn ↦ turn.0.low ])))
    (λ i within t. elim (rw (most, next) at t) [
      | inl long ↦ elim (cases_lt was.most (steps_of from to i)) [
        | inl longer ↦ inl longer
        | inr upto ↦
            let turn : IsInTurn from to was.most i = record { low = long; high = upto } in
            elim (cases_lt i was.next) [
              | inl before ↦ inr (turn, before)
              | inr later ↦ absurd (none i later within turn)
            ]
      ]
      | inr before ↦ absurd (omega (arith, before.1))
    ])
    (λ i waits.
    let held : IsLeft from to (was.most / 3) l.next i = rw most at waits in
    record { high = omega (arith, held.high); later = λ turn. absurd (omega (arith, held.high, turn)) })
    chains left messages

-- what a lane holds of a chain that it has just taken
first_message : (front : ℕ → List ℕ) (from to : List ℕ) (old now : List (List ℕ)) (most next i : ℕ) (message : List ℕ)
    → i < length old → IsTaken from to most next i → slice_index from i < slice_index to i
    → message ≡ front i ++ u8str (slice_index from i) ++ slice_index_or now i [] → slice_index_or now i [] ≡ slice_index_or old i []
    → IsHeld front from to old most next i (slice_index to i - slice_index from i) message
first_message front from to old now most next i message within taken with_steps laid same =
    let first : slice_index to i - (slice_index to i - slice_index from i) ≡ slice_index from i = omega arith in
    record {
      within = within;
      taken = taken;
      steps = omega arith;
      message_is = rw first (laid ∙ ap (λ (x : List ℕ). front i ++ u8str (slice_index from i) ++ x)
          (same ∙ sym (none_behind (front i) (slice_index from i) (slice_index_or old i []))));
    }

-- a lane that is idle takes the next chain, which is in turn
pub taken : (front : ℕ → List ℕ) (from to : List ℕ) (old now : List (List ℕ)) (was l : Lanes) (k : ℕ) (message : List ℕ)
    → AreUnderWay front from to old now was → k < lanes → slice_index was.left k ≡ 0 → was.next < length old → IsInTurn from to was.most was.next
    → message ≡ front was.next ++ u8str (slice_index from was.next) ++ slice_index_or now was.next []
    → l.most ≡ was.most → l.next ≡ was.next + 1 → l.chains ≡ set was.chains k was.next
    → l.left ≡ set was.left k (slice_index to was.next - slice_index from was.next) → l.messages ≡ set was.messages k message
    → AreUnderWay front from to old now l
taken front from to old now was l k message u lane idle within turn laid most next chains left messages =
    let i = was.next in
    let c : (m : ℕ) → m ≢ k → slice_index l.chains m ≡ slice_index was.chains m =
    λ m ne. ap (λ (xs : List ℕ). slice_index xs m) chains ∙ get_or-set_other was.chains k m i 0 ne in
    let n : (m : ℕ) → m ≢ k → slice_index l.left m ≡ slice_index was.left m =
    λ m ne. ap (λ (xs : List ℕ). slice_index xs m) left ∙ get_or-set_other was.left k m (slice_index to i - slice_index from i) 0 ne in
    let e : (m : ℕ) → m ≢ k → slice_index_or l.messages m [] ≡ slice_index_or was.messages m [] =
    λ m ne. ap (λ (xs : List (List ℕ)). slice_index_or xs m []) messages ∙ get_or-set_other was.messages k m message [] ne in
    let here : slice_index l.chains k ≡ i = ap (λ (xs : List ℕ). slice_index xs k) chains ∙ get_or-set_same was.chains k i 0 (omega (arith, u.chains)) in
    let steps : slice_index l.left k ≡ slice_index to i - slice_index from i =
    ap (λ (xs : List ℕ). slice_index xs k) left ∙ get_or-set_same was.left k (slice_index to i - slice_index from i) 0 (omega (arith, u.left)) in
    let put : slice_index_or l.messages k [] ≡ message =
    ap (λ (xs : List (List ℕ)). slice_index_or xs k []) messages ∙ get_or-set_same was.messages k message [] (omega (arith, u.messages)) in
    let other : (m : ℕ) → 0 < slice_index was.left m → m ≢ k = λ m busy same. omega (arith, ap (λ (x : ℕ). slice_index was.left x) same) in
    let stays : (j : ℕ) → IsTaken from to was.most was.next j → IsTaken from to l.most l.next j =
    λ j t. rw (most, next) (later_taken from to was.most i (i + 1) j (omega arith) t) in
    let waits = u.waiting i (record { high = turn.high; later = λ _. omega arith }) in
    let begins =
    first_message front from to old now l.most l.next i message within (rw (most, next) (inr (turn, omega arith))) (omega (arith, turn.low)) laid waits in
    record {
      whole = u.whole;
      chains = ap length chains ∙ length-set was.chains k i ∙ u.chains;
      left = ap length left ∙ length-set was.left k (slice_index to i - slice_index from i) ∙ u.left;
      messages = ap length messages ∙ length-set was.messages k message ∙ u.messages;
      held = λ m busy. elim (cases_eq m k) [
        | inl same ↦ rw (same, here, steps, put) begins
        | inr ne ↦ still front from to old was l m stays (c m ne) (n m ne) (e m ne) (u.held m (omega (arith, n m ne)))
      ];
      ended = λ j inside t free. elim (taken_or_left from to was.most was.next j) [
        | inl early ↦ u.ended j inside early (λ m busy at. free m (omega (arith, n m (other m busy))) (c m (other m busy) ∙ at))
        | inr later ↦ elim (rw (most, next) at t) [
          | inl long ↦ absurd (omega (arith, long, later.high))
          | inr own ↦ absurd (free k (omega (arith, steps, turn.low)) (here ∙ omega (arith, later.later own.0.low, own.1)))
        ]
      ];
      waiting = λ j later.
          let held : IsLeft from to was.most (i + 1) j = rw (most, next) at later in
          u.waiting j (record { high = held.high; later = λ own. omega (arith, held.later own) });
    }

-- the digest of what a lane holds is the next element of its chain
next_of_held : (front : ℕ → List ℕ) (from to : List ℕ) (old : List (List ℕ)) (most next i n : ℕ) (message digest : List ℕ)
    → IsHeld front from to old most next i n message → 0 < n → digest ≡ sha256 message
    → digest ≡ element_at front from old i (slice_index to i - (n - 1))
next_of_held front from to old most next i n message digest held busy hashed =
    let later : slice_index to i - (n - 1) ≡ slice_index to i - n + 1 = omega (arith, held.steps) in
    hashed ∙ ap sha256 held.message_is
    ∙ sym (more_behind (front i) (slice_index from i) (slice_index to i - n) (slice_index_or old i []) (omega (arith, held.steps)))
    ∙ ap (element_at front from old i) (sym later)

-- a lane holds the same chain one step later
one_step_later : (front : ℕ → List ℕ) (from to : List ℕ) (old : List (List ℕ)) (most next i n : ℕ) (message digest : List ℕ)
    → ((i : ℕ) → length (front i) ≡ 22) → IsHeld front from to old most next i n message → 0 < n
    → digest ≡ element_at front from old i (slice_index to i - (n - 1))
    → IsHeld front from to old most next i (n - 1) (take 22 message ++ u8str (slice_index to i - (n - 1)) ++ digest)
one_step_later front from to old most next i n message digest long held busy is =
    let begins : take 22 message ≡ front i =
    begun_behind (front i) (slice_index to i - n) (element_at front from old i (slice_index to i - n)) message (long i) held.message_is in
    record {
      within = held.within;
      taken = held.taken;
      steps = omega (arith, held.steps);
      message_is = λ x. begins x ++ u8str (slice_index to i - (n - 1)) ++ is x;
    }

-- the chain in lane k makes a step: its element and its message are those of the next step
pub advanced : (front : ℕ → List ℕ) (from to : List ℕ) (old was_now now : List (List ℕ)) (was l : Lanes) (k : ℕ) (digest : List ℕ)
    → ((i : ℕ) → length (front i) ≡ 22) → AreUnderWay front from to old was_now was → k < lanes → 0 < slice_index was.left k
    → digest ≡ sha256 (slice_index_or was.messages k []) → now ≡ set was_now (slice_index was.chains k) digest
    → l.most ≡ was.most → l.next ≡ was.next → l.chains ≡ was.chains → l.left ≡ set was.left k (slice_index was.left k - 1)
    → l.messages ≡ set was.messages k (take 22 (slice_index_or was.messages k [])
    ++ u8str (slice_index to (slice_index was.chains k) - (slice_index was.left k - 1)) ++ digest)
    → AreUnderWay front from to old now l
advanced front from to old was_now now was l k digest long u lane busy hashed put most next chains left messages =
    let i = slice_index was.chains k in
    let n = slice_index was.left k in
    let message = take 22 (slice_index_or was.messages k []) ++ u8str (slice_index to i - (n - 1)) ++ digest in
    let held = u.held k busy in
    let is = next_of_held front from to old was.most was.next i n (slice_index_or was.messages k []) digest held busy hashed in
    let later = one_step_later front from to old was.most was.next i n (slice_index_or was.messages k []) digest long held busy is in
    let c : (m : ℕ) → slice_index l.chains m ≡ slice_index was.chains m = λ m. ap (λ (xs : List ℕ). slice_index xs m) chains in
    let others : (m : ℕ) → m ≢ k → slice_index l.left m ≡ slice_index was.left m =
    λ m ne. ap (λ (xs : List ℕ). slice_index xs m) left ∙ get_or-set_other was.left k m (n - 1) 0 ne in
    let e : (m : ℕ) → m ≢ k → slice_index_or l.messages m [] ≡ slice_index_or was.messages m [] =
    λ m ne. ap (λ (xs : List (List ℕ)). slice_index_or xs m []) messages ∙ get_or-set_other was.messages k m message [] ne in
    let fewer : slice_index l.left k ≡ n - 1 = ap (λ (xs : List ℕ). slice_index xs k) left ∙ get_or-set_same was.left k (n - 1) 0 (omega (arith, u.left)) in
    let renewed : slice_index_or l.messages k [] ≡ message =
    ap (λ (xs : List (List ℕ)). slice_index_or xs k []) messages ∙ get_or-set_same was.messages k message [] (omega (arith, u.messages)) in
    let elsewhere : (p : ℕ) → p ≢ i → slice_index_or now p [] ≡ slice_index_or was_now p [] =
    λ p ne. ap (λ (xs : List (List ℕ)). slice_index_or xs p []) put ∙ get_or-set_other was_now i p digest [] ne in
    let here : slice_index_or now i [] ≡ digest =
    ap (λ (xs : List (List ℕ)). slice_index_or xs i []) put ∙ get_or-set_same was_now i digest [] (omega (arith, held.within, u.whole)) in
    let stays : (j : ℕ) → IsTaken from to was.most was.next j → IsTaken from to l.most l.next j = λ j t. rw (most, next) t in
    record {
      whole = ap length put ∙ length-set was_now i digest ∙ u.whole;
      chains = ap length chains ∙ u.chains;
      left = ap length left ∙ length-set was.left k (n - 1) ∙ u.left;
      messages = ap length messages ∙ length-set was.messages k message ∙ u.messages;
      held = λ m steps. elim (cases_eq m k) [
        | inl same ↦ rw (same, c k, fewer, renewed, most, next) later
        | inr ne ↦ still front from to old was l m stays (c m) (others m ne) (e m ne) (u.held m (omega (arith, others m ne)))
      ];
      ended = λ p within before free. elim (cases_eq p i) [
        | inl same ↦ elim (cases_lt 0 (n - 1)) [
          | inl more ↦ absurd (free k (omega (arith, fewer)) (c k ∙ sym same))
          | inr none ↦
              let last : slice_index to i - (n - 1) ≡ slice_index to i = omega arith in
              rw same (here ∙ is ∙ ap (element_at front from old i) last)
        ]
        | inr ne ↦ elsewhere p ne ∙ u.ended p within (rw (most, next) at before) (λ m steps at. elim (cases_eq m k) [
          | inl same ↦ ne (sym at ∙ ap (λ (x : ℕ). slice_index was.chains x) same)
          | inr other ↦ free m (omega (arith, others m other)) (c m ∙ at)
        ])
      ];
      waiting = λ p after.
          let waits : IsLeft from to was.most was.next p = rw (most, next) at after in
          elsewhere p (λ same. not_both from to was.most was.next i held.taken (rw same at waits)) ∙ u.waiting p waits;
    }

-- where no lane holds a chain, and none is left that has steps, a chain is at its end
at_end : (front : ℕ → List ℕ) (from to : List ℕ) (old now : List (List ℕ)) (l : Lanes) (i : ℕ) → AreUnderWay front from to old now l → l.most ≡ 0
    → i < length old → ((k : ℕ) → slice_index l.left k ≡ 0) → slice_index_or now i [] ≡ element_at front from old i (slice_index to i)
at_end front from to old now l i u end within none = elim (taken_or_left from to l.most l.next i) [
  | inl taken ↦ u.ended i within taken (λ k busy. absurd (omega (arith, none k)))
  | inr left ↦ u.waiting i left ∙ sym (no_steps front from to old i (omega (arith, left.high)))
]

-- where no lane holds a chain and none is left to take, all are at their ends
pub all_ended : (front : ℕ → List ℕ) (from to : List ℕ) (old now : List (List ℕ)) (l : Lanes)
    → AreUnderWay front from to old now l → l.most ≡ 0 → l.left ≡ replicate lanes 0
    → now ≡ run_ends front from to old
unfolding run_ends
all_ended front from to old now l u end idle =
    let f : ℕ → List ℕ = λ i. element_at front from old i (slice_index to i) in
    let none : (k : ℕ) → slice_index l.left k ≡ 0 = λ k. ap (λ (xs : List ℕ). slice_index xs k) idle ∙ none_left lanes k in
    ext_get_or [] now (run_ends front from to old) (u.whole ∙ sym (length-map-range_with_len f 0 (length old)))
    (λ i within.
    at_end front from to old now l i u end (omega (arith, u.whole)) none
    ∙ sym (get_or-map-range_with_len f 0 (length old) i i [] (omega (arith, u.whole)) (omega arith)))

-- the steps that are left in all lanes, after each made one
fewer_left : (xs : List ℕ) → sum (map (λ n. n - 1) xs) ≤ sum xs
fewer_left [] = omega arith
fewer_left (x ∷ xs) = omega (arith, fewer_left xs, sum_by-cons (λ (n : ℕ). n) x xs, sum_by-cons (λ (n : ℕ). n) (x - 1) (map (λ n. n - 1) xs))

pub fewer_left_if_busy : (xs : List ℕ) → xs ≢ replicate (length xs) 0 → sum (map (λ n. n - 1) xs) < sum xs
fewer_left_if_busy [] busy = absurd (busy refl)
fewer_left_if_busy (x ∷ xs) busy =
    let was = sum_by-cons (λ (n : ℕ). n) x xs in
    let now = sum_by-cons (λ (n : ℕ). n) (x - 1) (map (λ n. n - 1) xs) in
    elim (cases_lt 0 x) [
      | inl more ↦ omega (arith, fewer_left xs)
      | inr none ↦
          let idle : x ≡ 0 = omega arith in
          let rest = fewer_left_if_busy xs (λ e. busy (λ i. idle i ∷ e i)) in
          omega arith
    ]
