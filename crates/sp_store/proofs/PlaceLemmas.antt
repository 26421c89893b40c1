-- Places in which entries stand, and empty ones: what an id finds, what an emptied place leaves, and what moves.
use Rattle.std.proofs.Common.{◌≡◌, ◌≤◌, ◌<◌, ℕ, ◌+◌, Bool, true, false, List, [], ◌∷◌, ◌++◌, length, Option, Some, None, refl, sym, ap, ◌∙◌, arith, cond}
use Rattle.std.proofs.Common.{nat_eq, All, filter, find, get_or, is_some, take}
use Rattle.std.specs.Prelude.{◌==◌, IfSome}
use Rattle.std.specs.Map.{lookup, set_value, values_of}
use Rattle.std.specs.Option.{option_and_then}
use Rattle.std.proofs.lemmas.Bool.Decides.{nat_tests}
use Rattle.std.proofs.lemmas.List.{append-nil, take_more}
use Rattle.std.proofs.lemmas.List.Elements.{All-cons, All-filter, All-head, All-push, All-tail, All-weaker, filter_map-append}
use Rattle.sp_rules.specs.Choices.{less_first}
use Rattle.sp_rules.specs.Store.{has_id}
use Rattle.sp_rules.specs.declared.store.Entry.{Entry}
use Rattle.sp_store.specs.Places.{Rises, Stands, live, live_of}

-- ---- ids that rise

rises_from : (a b : ℕ) (es : List Entry) → a ≤ b → Rises b es → Rises a es
rises_from a b [] h r = tt
rises_from a b (e ∷ es) h r = (omega (arith, h, r.0), r.1)

stands_from : (a b : ℕ) (ps : List (ℕ × Option Entry)) → a ≤ b → Stands b ps → Stands a ps
stands_from a b [] h s = tt
stands_from a b (p ∷ ps) h s = (omega (arith, h, s.0), s.1, s.2)

-- the ids of the entries rise
pub live_rises : (low : ℕ) (ps : List (ℕ × Option Entry)) → Stands low ps → Rises low (live_of ps)
live_rises low [] s = tt
live_rises low (p ∷ ps) s = go p.1 s.1 (live_rises p.0 ps s.2)
  where
    go : (v : Option Entry) → IfSome v (λ e. e.id ≡ p.0) → Rises p.0 (live_of ps) → Rises low (live (v ∷ values_of ps))
    go None own rest = rises_from low p.0 (live_of ps) (omega (arith, s.0)) rest
    go (Some e) own rest = (omega (arith, s.0, own), rises_from e.id p.0 (live_of ps) (omega (arith, own)) rest)

-- ---- what an id finds

absent_id : (id low : ℕ) (es : List Entry) → id ≤ low → Rises low es → find (has_id id) es ≡ None
absent_id id low [] h r = refl
absent_id id low (e ∷ es) h r =
    let apart : (e.id == id) ≡ false = grind (arith, nat_tests, h, r.0) in
    rw apart (absent_id id e.id es (omega (arith, h, r.0)) r.1)

kept_id : (id low : ℕ) (es : List Entry) → id ≤ low → Rises low es → less_first (has_id id) es ≡ es
kept_id id low [] h r = refl
kept_id id low (e ∷ es) h r =
    let apart : (e.id == id) ≡ false = grind (arith, nat_tests, h, r.0) in
    rw apart (ap (λ (rest : List Entry). e ∷ rest) (kept_id id e.id es (omega (arith, h, r.0)) r.1))

-- the entry of an id stands in the place of the id
pub found_is : (id low : ℕ) (ps : List (ℕ × Option Entry)) → Stands low ps →
    option_and_then (λ (v : Option Entry). v) (lookup (nat_eq id) ps) ≡ find (has_id id) (live_of ps)
found_is id low [] s = refl
found_is id low (p ∷ ps) s = go (nat_eq id p.0) p.1 refl s.1 (found_is id p.0 ps s.2)
  where
    go : (t : Bool) (v : Option Entry) → nat_eq id p.0 ≡ t → IfSome v (λ e. e.id ≡ p.0) →
        option_and_then (λ (w : Option Entry). w) (lookup (nat_eq id) ps) ≡ find (has_id id) (live_of ps) →
        option_and_then (λ (w : Option Entry). w) (cond t (Some v) (lookup (nat_eq id) ps)) ≡ find (has_id id) (live (v ∷ values_of ps))
    go true None here own rest = sym (absent_id id p.0 (live_of ps) (grind (arith, nat_tests, here)) (live_rises p.0 ps s.2))
    go true (Some e) here own rest =
        let same : (e.id == id) ≡ true = grind (arith, nat_tests, here, own) in
        rw same refl
    go false None other own rest = rest
    go false (Some e) other own rest =
        let apart : (e.id == id) ≡ false = grind (arith, nat_tests, other, own) in
        rw apart rest

-- where the place of an id is emptied the entry of the id is left out
pub emptied_is : (id low : ℕ) (ps : List (ℕ × Option Entry)) → Stands low ps →
    live_of (set_value (nat_eq id) ps None) ≡ less_first (has_id id) (live_of ps)
emptied_is id low [] s = refl
emptied_is id low (p ∷ ps) s = go (nat_eq id p.0) p.1 refl s.1 (emptied_is id p.0 ps s.2)
  where
    go : (t : Bool) (v : Option Entry) → nat_eq id p.0 ≡ t → IfSome v (λ e. e.id ≡ p.0) →
        live_of (set_value (nat_eq id) ps None) ≡ less_first (has_id id) (live_of ps) →
        live_of (cond t ((p.0, None) ∷ ps) ((p.0, v) ∷ set_value (nat_eq id) ps None)) ≡ less_first (has_id id) (live (v ∷ values_of ps))
    go true None here own rest = sym (kept_id id p.0 (live_of ps) (grind (arith, nat_tests, here)) (live_rises p.0 ps s.2))
    go true (Some e) here own rest =
        let same : (e.id == id) ≡ true = grind (arith, nat_tests, here, own) in
        rw same refl
    go false None other own rest = rest
    go false (Some e) other own rest =
        let apart : (e.id == id) ≡ false = grind (arith, nat_tests, other, own) in
        rw apart (ap (λ (es : List Entry). e ∷ es) rest)

-- an id that has no place empties none
pub none_emptied : (id : ℕ) (ps : List (ℕ × Option Entry)) → lookup (nat_eq id) ps ≡ None → set_value (nat_eq id) ps None ≡ ps
none_emptied id [] none = refl
none_emptied id (p ∷ ps) none = go (nat_eq id p.0) none (λ rest. none_emptied id ps rest)
  where
    go : (t : Bool) → cond t (Some p.1) (lookup (nat_eq id) ps) ≡ None → (lookup (nat_eq id) ps ≡ None → set_value (nat_eq id) ps None ≡ ps) →
        cond t ((p.0, None) ∷ ps) (p ∷ set_value (nat_eq id) ps None) ≡ p ∷ ps
    go true none rest = absurd (cc)
    go false none rest = ap (λ (qs : List (ℕ × Option Entry)). p ∷ qs) (rest none)

pub emptied_length : (id : ℕ) (ps : List (ℕ × Option Entry)) → length (set_value (nat_eq id) ps None) ≡ length ps
emptied_length id [] = refl
emptied_length id (p ∷ ps) = go (nat_eq id p.0) (emptied_length id ps)
  where
    go : (t : Bool) → length (set_value (nat_eq id) ps None) ≡ length ps
        → length (cond t ((p.0, None) ∷ ps) (p ∷ set_value (nat_eq id) ps None)) ≡ length (p ∷ ps)
    go true rest = refl
    go false rest = omega (arith, rest)

pub emptied_stands : (id low : ℕ) (ps : List (ℕ × Option Entry)) → Stands low ps → Stands low (set_value (nat_eq id) ps None)
emptied_stands id low [] s = tt
emptied_stands id low (p ∷ ps) s = go (nat_eq id p.0) (emptied_stands id p.0 ps s.2)
  where
    go : (t : Bool) → Stands p.0 (set_value (nat_eq id) ps None) → Stands low (cond t ((p.0, None) ∷ ps) (p ∷ set_value (nat_eq id) ps None))
    go true rest = (s.0, tt, s.2)
    go false rest = (s.0, s.1, rest)

pub emptied_below : (id last : ℕ) (ps : List (ℕ × Option Entry)) → All (λ p. p.0 ≤ last) ps → All (λ p. p.0 ≤ last) (set_value (nat_eq id) ps None)
emptied_below id last [] all = all
emptied_below id last (p ∷ ps) all = go (nat_eq id p.0) (emptied_below id last ps (All-tail (λ (q : ℕ × Option Entry). q.0 ≤ last) p ps all))
  where
    here : p.0 ≤ last
    here = All-head (λ (q : ℕ × Option Entry). q.0 ≤ last) p ps all

    go : (t : Bool) → All (λ q. q.0 ≤ last) (set_value (nat_eq id) ps None)
        → All (λ q. q.0 ≤ last) (cond t ((p.0, None) ∷ ps) (p ∷ set_value (nat_eq id) ps None))
    go true rest = All-cons (λ (q : ℕ × Option Entry). q.0 ≤ last) (p.0, None) ps here (All-tail (λ (q : ℕ × Option Entry). q.0 ≤ last) p ps all)
    go false rest = All-cons (λ (q : ℕ × Option Entry). q.0 ≤ last) p (set_value (nat_eq id) ps None) here rest

-- an id above all others isn't there
pub new_id : (key last : ℕ) (ps : List (ℕ × Option Entry)) → All (λ p. p.0 ≤ last) ps → last < key → lookup (nat_eq key) ps ≡ None
new_id key last [] all above = refl
new_id key last (p ∷ ps) all above =
    let here : p.0 ≤ last = All-head (λ (q : ℕ × Option Entry). q.0 ≤ last) p ps all in
    let apart : nat_eq key p.0 ≡ false = grind (arith, nat_tests) in
    rw apart (new_id key last ps (All-tail (λ (q : ℕ × Option Entry). q.0 ≤ last) p ps all) above)

-- ---- one place more

pub live_push : (ps : List (ℕ × Option Entry)) (key : ℕ) (e : Entry) → live_of (ps ++ (key, Some e) ∷ []) ≡ live_of ps ++ e ∷ []
live_push [] key e = refl
live_push (p ∷ ps) key e = go p.1 (live_push ps key e)
  where
    go : (v : Option Entry) → live_of (ps ++ (key, Some e) ∷ []) ≡ live_of ps ++ e ∷ []
        → live (v ∷ values_of (ps ++ (key, Some e) ∷ [])) ≡ live (v ∷ values_of ps) ++ e ∷ []
    go None rest = rest
    go (Some x) rest = ap (λ (es : List Entry). x ∷ es) rest

pub stands_push : (low last key : ℕ) (ps : List (ℕ × Option Entry)) (e : Entry) → Stands low ps → All (λ p. p.0 ≤ last) ps → low ≤ last → last < key →
    e.id ≡ key → Stands low (ps ++ (key, Some e) ∷ [])
stands_push low last key [] e s all h above own = (omega (arith, h, above), own, tt)
stands_push low last key (p ∷ ps) e s all h above own =
    let here : p.0 ≤ last = All-head (λ (q : ℕ × Option Entry). q.0 ≤ last) p ps all in
    (s.0, s.1, stands_push p.0 last key ps e s.2 (All-tail (λ (q : ℕ × Option Entry). q.0 ≤ last) p ps all) here above own)

pub below_push : (last key : ℕ) (ps : List (ℕ × Option Entry)) (v : Option Entry) → All (λ p. p.0 ≤ last) ps → last < key →
    All (λ p. p.0 ≤ key) (ps ++ (key, v) ∷ [])
below_push last key ps v all above =
    All-push (λ (q : ℕ × Option Entry). q.0 ≤ key) ps (key, v) (All-weaker (λ (q : ℕ × Option Entry). q.0 ≤ last) (λ (q : ℕ × Option Entry). q.0 ≤ key)
    (λ q h. omega (arith, h, above)) ps all) (omega arith)

-- ---- entries that move, while empty places don't

pub moved_live : (ps : List (ℕ × Option Entry)) → live_of (filter (λ p. is_some p.1) ps) ≡ live_of ps
moved_live [] = refl
moved_live (p ∷ ps) = go p.1 (moved_live ps)
  where
    go : (v : Option Entry) → live_of (filter (λ q. is_some q.1) ps) ≡ live_of ps
        → live_of (cond (is_some v) ((p.0, v) ∷ filter (λ q. is_some q.1) ps) (filter (λ q. is_some q.1) ps)) ≡ live (v ∷ values_of ps)
    go None rest = rest
    go (Some e) rest = ap (λ (es : List Entry). e ∷ es) rest

pub moved_length : (ps : List (ℕ × Option Entry)) → length (filter (λ p. is_some p.1) ps) ≡ length (live_of ps)
moved_length [] = refl
moved_length (p ∷ ps) = go p.1 (moved_length ps)
  where
    go : (v : Option Entry) → length (filter (λ q. is_some q.1) ps) ≡ length (live_of ps)
        → length (cond (is_some v) ((p.0, v) ∷ filter (λ q. is_some q.1) ps) (filter (λ q. is_some q.1) ps)) ≡ length (live (v ∷ values_of ps))
    go None rest = rest
    go (Some e) rest = omega (arith, rest)

-- the next place has an entry, or is empty
pub full_first : (key : ℕ) (v : Option Entry) (ps : List (ℕ × Option Entry)) → is_some v ≡ true →
    filter (λ p. is_some p.1) ((key, v) ∷ ps) ≡ (key, v) ∷ filter (λ p. is_some p.1) ps
full_first key v ps full = rw full refl

pub empty_first : (key : ℕ) (v : Option Entry) (ps : List (ℕ × Option Entry)) → is_some v ≡ false →
    filter (λ p. is_some p.1) ((key, v) ∷ ps) ≡ filter (λ p. is_some p.1) ps
empty_first key v ps empty = rw empty refl

pub moved_stands : (low : ℕ) (ps : List (ℕ × Option Entry)) → Stands low ps → Stands low (filter (λ p. is_some p.1) ps)
moved_stands low [] s = tt
moved_stands low (p ∷ ps) s = go (is_some p.1) (moved_stands p.0 ps s.2)
  where
    go : (t : Bool) → Stands p.0 (filter (λ q. is_some q.1) ps) → Stands low (cond t (p ∷ filter (λ q. is_some q.1) ps) (filter (λ q. is_some q.1) ps))
    go true rest = (s.0, s.1, rest)
    go false rest = stands_from low p.0 (filter (λ q. is_some q.1) ps) (omega (arith, s.0)) rest

pub moved_below : (last : ℕ) (ps : List (ℕ × Option Entry)) → All (λ p. p.0 ≤ last) ps → All (λ p. p.0 ≤ last) (filter (λ p. is_some p.1) ps)
moved_below last ps all = All-filter (λ (q : ℕ × Option Entry). is_some q.1) (λ (q : ℕ × Option Entry). q.0 ≤ last) ps all

above_first : (low key : ℕ) (v : Option Entry) (before after : List (ℕ × Option Entry)) → Stands low (before ++ (key, v) ∷ after) → low < key
above_first low key v [] after s = s.0
above_first low key v (p ∷ before) after s = omega (arith, s.0, above_first p.0 key v before after s.2)

-- the next place has another id than those before it
pub next_new : (low key : ℕ) (v : Option Entry) (before after : List (ℕ × Option Entry)) → Stands low (before ++ (key, v) ∷ after) →
    lookup (nat_eq key) before ≡ None
next_new low key v [] after s = refl
next_new low key v (p ∷ before) after s =
    let apart : nat_eq key p.0 ≡ false = grind (arith, nat_tests, above_first p.0 key v before after s.2) in
    rw apart (next_new p.0 key v before after s.2)

-- without the next place those before and after it stand as well
pub next_left : (low key : ℕ) (v : Option Entry) (before after : List (ℕ × Option Entry)) → Stands low (before ++ (key, v) ∷ after) →
    Stands low (before ++ after)
next_left low key v [] after s = stands_from low key after (omega (arith, s.0)) s.2
next_left low key v (p ∷ before) after s = (s.0, s.1, next_left p.0 key v before after s.2)

-- ---- going through the places

pub live_more : (slots : List (Option Entry)) (i : ℕ) (v : Option Entry) (e : Entry) → i < length slots → v ≡ get_or slots i v → v ≡ Some e →
    live (take (i + 1) slots) ≡ live (take i slots) ++ e ∷ []
live_more slots i v e inside is some =
    ap live (take_more slots i v inside) ∙ filter_map-append (λ (slot : Option Entry). slot) (take i slots) (get_or slots i v ∷ [])
    ∙ ap (λ (w : Option Entry). live (take i slots) ++ live (w ∷ [])) (sym is ∙ some)

pub live_same : (slots : List (Option Entry)) (i : ℕ) (v : Option Entry) → i < length slots → v ≡ get_or slots i v → v ≡ None →
    live (take (i + 1) slots) ≡ live (take i slots)
live_same slots i v inside is none =
    ap live (take_more slots i v inside) ∙ filter_map-append (λ (slot : Option Entry). slot) (take i slots) (get_or slots i v ∷ [])
    ∙ ap (λ (w : Option Entry). live (take i slots) ++ live (w ∷ [])) (sym is ∙ none) ∙ append-nil (live (take i slots))
