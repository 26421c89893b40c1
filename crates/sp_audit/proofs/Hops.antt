-- The earliest end of a served hop, and of a round.
use Rattle.std.proofs.Common.{◌≡◌, ◌<◌, ◌≤◌, ℕ, zero, suc, ◌+◌, ◌-◌, max, Bool, true, false, ◌||◌, IsTrue, List, [], ◌∷◌, ◌++◌, length, take, drop, All, refl}
use Rattle.std.proofs.Common.{sym, ap, subst, ◌∙◌, inl, inr, ◌⊎◌, arith, append_assoc, append-nil, length-append, length-drop, take-add, take-take, drop-drop}
use Rattle.std.proofs.Common.{get_or}
use Rattle.std.specs.List.{list_any}
use Rattle.std.proofs.lemmas.List.{take_more}
use Rattle.std.proofs.lemmas.List.Folds.{list_any-append}
use Rattle.std.proofs.lemmas.List.Elements.{All-cons, All-head, All-nil, All-push, All-tail}
use Rattle.sp_graph.specs.Walks.{steps}
use Rattle.sp_base.specs.declared.id.NodeId.{NodeId}
use Rattle.sp_rules.specs.declared.kflow.FlowKind.TheVariants.{Plain}
use Rattle.sp_runs.specs.Rounds.{IsHopServed, IsSweep, is_take}
use Rattle.sp_schedule_events.specs.declared.event.Event.{Event}
use Rattle.sp_audit.specs.Ends.{HasSweep, IsFirstEnd, IsReady}
use Rattle.sp_audit.proofs.SweepLemmas.{longer}
use Rattle.sp_audit.proofs.Walks.{or_second, take_drop}

-- ---- what a longer interval has too

abbrev pub IsKept : (List Event → Type 0) → Type 0
IsKept P = (xs more : List Event) → P xs → P (xs ++ more)

front : {X : Type 0} (a b : ℕ) (xs : List X) → a ≤ b → take b xs ≡ take a xs ++ drop a (take b xs)
front a b xs most = take_drop (take b xs) a ∙ ap (λ (ys : List _). ys ++ drop a (take b xs)) (take-take a b xs most)

kept_on : (P : List Event → Type 0) → IsKept P → (es : List Event) (a b : ℕ) → a ≤ b → P (take a es) → P (take b es)
kept_on P kept es a b most has = subst P (sym (front a b es most)) (kept (take a es) (drop a (take b es)) has)

pub cases_below : (a b : ℕ) → (a ≤ b) ⊎ (b < a)
cases_below zero b = inl (omega arith)
cases_below (suc a) zero = inr (omega arith)
cases_below (suc a) (suc b) = elim (cases_below a b) [
  | inl most ↦ inl (omega (arith, most))
  | inr more ↦ inr (omega (arith, more))
]

-- both are there at the later of their ends
pub both_first : (P Q : List Event → Type 0) (es : List Event) (n m : ℕ) → IsKept P → IsKept Q → IsFirstEnd P es n → IsFirstEnd Q es m
    → IsFirstEnd (λ xs. P xs × Q xs) es (max n m)
both_first P Q es n m keeps_p keeps_q p q = record {
  most = omega (arith, p.most, q.most);
  has = λ within. (
    kept_on P keeps_p es n (max n m) (omega arith) (p.has (omega (arith, within))),
    kept_on Q keeps_q es m (max n m) (omega arith) (q.has (omega (arith, within))),
  );
  none = λ k less has. elim (cases_below n k) [
    | inl most ↦ q.none k (omega (arith, less, most)) has.1
    | inr more ↦ p.none k more has.0
  ];
}

-- the same in other words
pub same_first : (P Q : List Event → Type 0) (es : List Event) (n : ℕ) → ((xs : List Event) → P xs → Q xs) → ((xs : List Event) → Q xs → P xs)
    → IsFirstEnd P es n → IsFirstEnd Q es n
same_first P Q es n to from p = record {
  most = p.most;
  has = λ within. to (take n es) (p.has within);
  none = λ m less has. p.none m less (from (take m es) has);
}

-- ---- wider intervals

pub any_longer : (p : Event → Bool) → IsKept (λ xs. IsTrue (list_any p xs))
any_longer p xs more has = list_any-append p xs more ∙ ap (λ (t : Bool). t || list_any p more) has

pub hop_wider : (least : ℕ) (s d u v : NodeId) (before gap during more : List Event) → IsHopServed Plain least s d u v (before ++ gap) during
    → IsHopServed Plain least s d u v before (gap ++ (during ++ more))
hop_wider least s d u v before gap during more h = record {
  early = gap ++ h.early;
  back = h.back;
  between = h.between;
  forth = h.forth;
  late = h.late ++ more;
  parts = ap (λ (xs : List Event). gap ++ (xs ++ more)) h.parts
      ∙ ap (λ (xs : List Event). gap ++ xs) (append_assoc h.early (h.back ++ (h.between ++ (h.forth ++ h.late))) more
      ∙ ap (λ (xs : List Event). h.early ++ xs) (append_assoc h.back (h.between ++ (h.forth ++ h.late)) more
      ∙ ap (λ (xs : List Event). h.back ++ xs) (append_assoc h.between (h.forth ++ h.late) more
      ∙ ap (λ (xs : List Event). h.between ++ xs) (append_assoc h.forth h.late more))))
      ∙ sym (append_assoc gap h.early (h.back ++ (h.between ++ (h.forth ++ (h.late ++ more)))));
  is_back = subst (λ (xs : List Event). IsSweep least v u xs h.back) (append_assoc before gap h.early) h.is_back;
  is_forth = subst (λ (xs : List Event). IsSweep least u v xs h.forth)
      (append_assoc before gap (h.early ++ (h.back ++ h.between))
      ∙ ap (λ (xs : List Event). before ++ xs) (sym (append_assoc gap h.early (h.back ++ h.between)))) h.is_forth;
  take = λ same. subst (λ (xs : List Event). IsTrue (list_any (is_take Plain d s) xs)) (sym (append_assoc gap h.early (h.back ++ h.between)))
      (list_any-append (is_take Plain d s) gap (h.early ++ (h.back ++ h.between))
      ∙ or_second (list_any (is_take Plain d s) gap) (list_any (is_take Plain d s) (h.early ++ (h.back ++ h.between))) (h.take same));
}

pub hop_longer : (least : ℕ) (s d u v : NodeId) (before : List Event) → IsKept (IsHopServed Plain least s d u v before)
hop_longer least s d u v before xs more h =
    hop_wider least s d u v before [] xs more (subst (λ (ys : List Event). IsHopServed Plain least s d u v ys xs) (sym (append-nil before)) h)

-- where a test first passes
pub first_found : (p : Event → Bool) (es : List Event) (i : ℕ) (e : Event) → i < length es → e ≡ get_or es i e → list_any p (take i es) ≡ false → p e ≡ true
    → IsFirstEnd (λ xs. IsTrue (list_any p xs)) es (i + 1)
first_found p es i e below is no_earlier passes = record {
  most = omega (arith, below);
  has = λ _. ap (list_any p) (take_more es i e below ∙ ap (λ (y : Event). take i es ++ y ∷ []) (sym is)) ∙ list_any-append p (take i es) (e ∷ [])
      ∙ or_second (list_any p (take i es)) (list_any p (e ∷ [])) (rw passes refl);
  none = λ m less has. not_both (list_any p (take i es)) (kept_on (λ xs. IsTrue (list_any p xs)) (any_longer p) es m i (omega (arith, less)) has) no_earlier;
}
  where
    not_both : (t : Bool) → t ≡ true → t ≡ false → ⊥
    not_both true is is_not = cc
    not_both false is is_not = cc

pub never_found : (p : Event → Bool) (es : List Event) → list_any p es ≡ false → IsFirstEnd (λ xs. IsTrue (list_any p xs)) es (length es + 1)
never_found p es not_there = record {
  most = omega arith;
  has = λ within. absurd (omega (arith, within));
  none = λ m less has. not_both (list_any p es)
      (subst (λ (xs : List Event). IsTrue (list_any p xs)) (sym (take_drop es m)) (any_longer p (take m es) (drop m es) has)) not_there;
}
  where
    not_both : (t : Bool) → t ≡ true → t ≡ false → ⊥
    not_both true is is_not = cc
    not_both false is is_not = cc

-- ---- a hop is ready, then it is served

pub ready_last : (least : ℕ) (s d u v : NodeId) (before es : List Event) (n m : ℕ) → IsFirstEnd (HasSweep least v u before) es n
    → IsFirstEnd (λ xs. IsTrue (list_any (is_take Plain d s) xs)) es m
    → v ≡ d → IsFirstEnd (IsReady least s d u v before) es (max n m)
ready_last least s d u v before es n m back take same =
    same_first (λ xs. HasSweep least v u before xs × IsTrue (list_any (is_take Plain d s) xs)) (IsReady least s d u v before) es (max n m)
    (λ xs p. record { back = p.0; take = λ _. p.1 }) (λ xs r. (r.back, r.take same))
    (both_first (HasSweep least v u before) (λ xs. IsTrue (list_any (is_take Plain d s) xs)) es n m (longer least v u before)
    (any_longer (is_take Plain d s)) back take)

pub ready_inner : (least : ℕ) (s d u v : NodeId) (before es : List Event) (n : ℕ) → IsFirstEnd (HasSweep least v u before) es n → (v ≡ d → ⊥)
    → IsFirstEnd (IsReady least s d u v before) es n
ready_inner least s d u v before es n back other =
    same_first (HasSweep least v u before) (IsReady least s d u v before) es n (λ xs h. record { back = h; take = λ same. absurd (other same) })
    (λ xs r. r.back) back

-- a list that begins with so many, cut within them
pub cut : {X : Type 0} (m : ℕ) (xs ys : List X) → m ≤ length xs → (xs ≡ take m (xs ++ ys) ++ drop m xs) × (drop m (xs ++ ys) ≡ drop m xs ++ ys)
cut zero xs ys most = (refl, refl)
cut (suc m) [] ys most = absurd (omega (arith, most))
cut (suc m) (x ∷ xs) ys most = let rest = cut m xs ys (omega (arith, most)) in (ap (λ (zs : List _). x ∷ zs) rest.0, rest.1)

pub beginning : {X : Type 0} (xs ys : List X) → take (length xs) (xs ++ ys) ≡ xs
beginning [] ys = refl
beginning (x ∷ xs) ys = ap (λ (zs : List _). x ∷ zs) (beginning xs ys)

none_of : {X : Type 0} (k : ℕ) (xs : List X) → xs ≡ [] → take k xs ≡ []
none_of zero xs is = refl
none_of (suc k) [] is = refl
none_of (suc k) (x ∷ xs) is = absurd cc

later_part : {X : Type 0} (m j : ℕ) (xs : List X) → m ≤ j → drop m (take j xs) ≡ take (j - m) (drop m xs)
later_part zero j xs most = ap (λ (k : ℕ). take k xs) (omega arith)
later_part (suc m) zero xs most = absurd (omega (arith, most))
later_part (suc m) (suc j) [] most = sym (none_of (suc j - suc m) [] refl)
later_part (suc m) (suc j) (x ∷ xs) most = later_part m j xs (omega (arith, most)) ∙ ap (λ (k : ℕ). take k (drop m xs)) (omega (arith, most))

length_taken : {X : Type 0} (m : ℕ) (xs : List X) → length (take m xs) ≤ m
length_taken zero xs = omega arith
length_taken (suc m) [] = omega arith
length_taken (suc m) (x ∷ xs) = let rest = length_taken m xs in omega (arith, rest)

pub hop_first : (least : ℕ) (s d u v : NodeId) (before es : List Event) (m n : ℕ) → m ≤ length es → IsFirstEnd (IsReady least s d u v before) es m
    → IsFirstEnd (HasSweep least u v (before ++ take m es)) (drop m es) n → IsFirstEnd (IsHopServed Plain least s d u v before) es (m + n)
hop_first least s d u v before es m n within ready forth = record {
  most = (let rest = length-drop m es in omega (arith, within, rest, forth.most));
  has = λ ends. (let rest = length-drop m es in
      subst (IsHopServed Plain least s d u v before) (sym (take-add m n es))
      (served (take m es) (take n (drop m es)) (ready.has within) (forth.has (omega (arith, within, rest, ends)))));
  none = λ j less h. not_before j less h;
}
  where
    served : (xs ys : List Event) → IsReady least s d u v before xs → HasSweep least u v (before ++ xs) ys → IsHopServed Plain least s d u v before (xs ++ ys)
    served xs ys r h =
        let inner : xs ++ h.early ≡ r.back.early ++ (r.back.middle ++ (r.back.late ++ h.early)) =
        ap (λ (zs : List Event). zs ++ h.early) r.back.parts ∙ append_assoc r.back.early (r.back.middle ++ r.back.late) h.early
        ∙ ap (λ (zs : List Event). r.back.early ++ zs) (append_assoc r.back.middle r.back.late h.early) in
        record {
          early = r.back.early;
          back = r.back.middle;
          between = r.back.late ++ h.early;
          forth = h.middle;
          late = h.late;
          parts = ap (λ (zs : List Event). xs ++ zs) h.parts ∙ sym (append_assoc xs h.early (h.middle ++ h.late))
              ∙ ap (λ (zs : List Event). zs ++ (h.middle ++ h.late)) inner
              ∙ append_assoc r.back.early (r.back.middle ++ (r.back.late ++ h.early)) (h.middle ++ h.late)
              ∙ ap (λ (zs : List Event). r.back.early ++ zs) (append_assoc r.back.middle (r.back.late ++ h.early) (h.middle ++ h.late));
          is_back = r.back.is;
          is_forth = subst (λ (zs : List Event). IsSweep least u v zs h.middle) (append_assoc before xs h.early ∙ ap (λ (zs : List Event). before ++ zs) inner)
              h.is;
          take = λ same. subst (λ (zs : List Event). IsTrue (list_any (is_take Plain d s) zs)) inner (any_longer (is_take Plain d s) xs h.early (r.take same));
        }

    not_before : (j : ℕ) → j < m + n → IsHopServed Plain least s d u v before (take j es) → ⊥
    not_before j less h = elim (cases_below m (length first)) [
      | inl most ↦ swept most
      | inr more ↦ ready.none (length first) more (subst (IsReady least s d u v before) (sym front_is) is_ready)
    ]
      where
        first : List Event
        first = h.early ++ (h.back ++ h.between)

        parts : take j es ≡ first ++ (h.forth ++ h.late)
        parts = h.parts ∙ ap (λ (zs : List Event). h.early ++ zs) (sym (append_assoc h.back h.between (h.forth ++ h.late)))
            ∙ sym (append_assoc h.early (h.back ++ h.between) (h.forth ++ h.late))

        all : es ≡ first ++ ((h.forth ++ h.late) ++ drop j es)
        all = take_drop es j ∙ ap (λ (zs : List Event). zs ++ drop j es) parts ∙ append_assoc first (h.forth ++ h.late) (drop j es)

        shorter : length first ≤ j
        shorter = (let long = ap length parts in let sum = length-append first (h.forth ++ h.late) in let most = length_taken j es in
            omega (arith, long, sum, most))

        is_ready : IsReady least s d u v before first
        is_ready = record { back = record { early = h.early; middle = h.back; late = h.between; parts = refl; is = h.is_back }; take = h.take }

        front_is : take (length first) es ≡ first
        front_is = ap (take (length first)) all ∙ beginning first ((h.forth ++ h.late) ++ drop j es)

        swept : m ≤ length first → ⊥
        swept most =
            let split = cut m first ((h.forth ++ h.late) ++ drop j es) most in
            let there : first ≡ take m es ++ drop m first = split.0 ∙ ap (λ (zs : List Event). take m zs ++ drop m first) (sym all) in
            let rest : take (j - m) (drop m es) ≡ drop m first ++ (h.forth ++ h.late) =
            sym (later_part m j es (omega (arith, most, shorter))) ∙ ap (drop m) parts ∙ (cut m first (h.forth ++ h.late) most).1 in
            forth.none (j - m) (omega (arith, less, most, shorter)) (record {
              early = drop m first;
              middle = h.forth;
              late = h.late;
              parts = rest;
              is = subst (λ (zs : List Event). IsSweep least u v zs h.forth)
                  (ap (λ (zs : List Event). before ++ zs) there ∙ sym (append_assoc before (take m es) (drop m first))) h.is_forth;
            })

-- where it is never ready
pub hop_never : (least : ℕ) (s d u v : NodeId) (before es : List Event) (m : ℕ) → length es < m → IsFirstEnd (IsReady least s d u v before) es m
    → IsFirstEnd (IsHopServed Plain least s d u v before) es m
hop_never least s d u v before es m more ready = record {
  most = ready.most;
  has = λ within. absurd (omega (arith, within, more));
  none = λ j less h. ready.none j less (whole (take j es) h);
}
  where
    whole : (xs : List Event) → IsHopServed Plain least s d u v before xs → IsReady least s d u v before xs
    whole xs h = record {
      back = record {
        early = h.early;
        middle = h.back;
        late = h.between ++ (h.forth ++ h.late);
        parts = h.parts;
        is = h.is_back;
      };
      take = λ same. subst (λ (zs : List Event). IsTrue (list_any (is_take Plain d s) zs)) (append_assoc h.early (h.back ++ h.between) (h.forth ++ h.late)
          ∙ ap (λ (zs : List Event). h.early ++ zs) (append_assoc h.back h.between (h.forth ++ h.late)) ∙ sym h.parts)
          (any_longer (is_take Plain d s) (h.early ++ (h.back ++ h.between)) (h.forth ++ h.late) (h.take same));
    }

-- where the ready part ends within, and beyond
pub hop_end_first : (least : ℕ) (s d u v : NodeId) (es : List Event) (from m n : ℕ) → m ≤ length (drop from es)
    → IsFirstEnd (IsReady least s d u v (take from es)) (drop from es) m
    → IsFirstEnd (HasSweep least u v (take (from + m) es)) (drop (from + m) es) n
    → IsFirstEnd (IsHopServed Plain least s d u v (take from es)) (drop from es) (m + n)
hop_end_first least s d u v es from m n within ready forth =
    hop_first least s d u v (take from es) (drop from es) m n within ready
    (subst (λ (xs : List Event). IsFirstEnd (HasSweep least u v xs) (drop m (drop from es)) n) (take-add from m es)
    (subst (λ (xs : List Event). IsFirstEnd (HasSweep least u v (take (from + m) es)) xs n) (sym (drop-drop m from es)) forth))

-- ---- the hops of a path

steps_more : (path : List NodeId) (i : ℕ) (u v o : NodeId) → suc i < length path → u ≡ get_or path i o → v ≡ get_or path (suc i) o
    → take (suc i) (steps path) ≡ take i (steps path) ++ (u, v) ∷ []
steps_more [] i u v o below is_u is_v = absurd (omega (arith, below))
steps_more (x ∷ []) i u v o below is_u is_v = absurd (omega (arith, below))
steps_more (x ∷ (y ∷ path)) zero u v o below is_u is_v = ap (λ (z : NodeId). (z, y) ∷ []) (sym is_u) ∙ ap (λ (z : NodeId). (u, z) ∷ []) (sym is_v)
steps_more (x ∷ (y ∷ path)) (suc i) u v o below is_u is_v =
    ap (λ (hs : List (NodeId × NodeId)). (x, y) ∷ hs) (steps_more (y ∷ path) i u v o (omega (arith, below)) is_u is_v)

pub count_steps : (path : List NodeId) → length (steps path) ≤ length path - 1
count_steps [] = omega arith
count_steps (x ∷ []) = omega arith
count_steps (x ∷ (y ∷ path)) = let rest = count_steps (y ∷ path) in omega (arith, rest)

split_last : {X : Type 0} (P : X → Type 0) (xs : List X) (y : X) → All P (xs ++ y ∷ []) → All P xs × P y
split_last P [] y all = (All-nil P, All-head P y [] all)
split_last P (x ∷ xs) y all = let rest = split_last P xs y (All-tail P x (xs ++ y ∷ []) all) in
    (All-cons P x xs (All-head P x (xs ++ y ∷ []) all) rest.0, rest.1)

all_longer : {X : Type 0} (P : X → List Event → Type 0) (hops : List X) → ((x : X) → IsKept (P x)) → IsKept (λ xs. All (λ x. P x xs) hops)
all_longer P hops keeps xs more all = λ i x within. keeps _ xs more (all i x within)

one_hop_more : (least : ℕ) (s d : NodeId) (before es : List Event) (path : List NodeId) (i n m : ℕ) (u v o : NodeId) → suc i < length path → u ≡ get_or path i o
    → v ≡ get_or path (suc i) o
    → IsFirstEnd (λ xs. All (λ hop. IsHopServed Plain least s d hop.0 hop.1 before xs) (take i (steps path))) es n
    → IsFirstEnd (IsHopServed Plain least s d u v before) es m
    → IsFirstEnd (λ xs. All (λ hop. IsHopServed Plain least s d hop.0 hop.1 before xs) (take (suc i) (steps path))) es (max n m)
one_hop_more least s d before es path i n m u v o below is_u is_v earlier last =
    let more = steps_more path i u v o below is_u is_v in
    same_first (λ xs. All (λ hop. IsHopServed Plain least s d hop.0 hop.1 before xs) (take i (steps path)) × IsHopServed Plain least s d u v before xs)
    (λ xs. All (λ hop. IsHopServed Plain least s d hop.0 hop.1 before xs) (take (suc i) (steps path))) es (max n m)
    (λ xs both. subst (λ (hs : List (NodeId × NodeId)). All (λ hop. IsHopServed Plain least s d hop.0 hop.1 before xs) hs) (sym more)
    (All-push (λ hop. IsHopServed Plain least s d hop.0 hop.1 before xs) (take i (steps path)) (u, v) both.0 both.1))
    (λ xs all. split_last (λ hop. IsHopServed Plain least s d hop.0 hop.1 before xs) (take i (steps path)) (u, v)
    (subst (λ (hs : List (NodeId × NodeId)). All (λ hop. IsHopServed Plain least s d hop.0 hop.1 before xs) hs) more all))
    (both_first (λ xs. All (λ hop. IsHopServed Plain least s d hop.0 hop.1 before xs) (take i (steps path))) (IsHopServed Plain least s d u v before) es n m
    (all_longer (λ (hop : NodeId × NodeId) xs. IsHopServed Plain least s d hop.0 hop.1 before xs) (take i (steps path))
    (λ hop. hop_longer least s d hop.0 hop.1 before)) (hop_longer least s d u v before) earlier last)

pub hops_more : (least : ℕ) (s d : NodeId) (before es : List Event) (path : List NodeId) (place n m : ℕ) (u v o : NodeId) → 1 ≤ place → place < length path
    → u ≡ get_or path (place - 1) o → v ≡ get_or path place o
    → IsFirstEnd (λ xs. All (λ hop. IsHopServed Plain least s d hop.0 hop.1 before xs) (take (place - 1) (steps path))) es n
    → IsFirstEnd (IsHopServed Plain least s d u v before) es m
    → IsFirstEnd (λ xs. All (λ hop. IsHopServed Plain least s d hop.0 hop.1 before xs) (take (place + 1 - 1) (steps path))) es (max n m)
hops_more least s d before es path zero n m u v o some below is_u is_v earlier last = absurd (omega (arith, some))
hops_more least s d before es path (suc i) n m u v o some below is_u is_v earlier last =
    let at : suc i - 1 ≡ i = omega arith in
    let next : suc i ≡ suc i + 1 - 1 = omega arith in
    subst (λ (k : ℕ). IsFirstEnd (λ xs. All (λ hop. IsHopServed Plain least s d hop.0 hop.1 before xs) (take k (steps path))) es (max n m)) next
    (one_hop_more least s d before es path i n m u v o below (subst (λ (k : ℕ). u ≡ get_or path k o) at is_u) is_v
    (subst (λ (k : ℕ). IsFirstEnd (λ xs. All (λ hop. IsHopServed Plain least s d hop.0 hop.1 before xs) (take k (steps path))) es n) at earlier) last)
