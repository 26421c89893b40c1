-- What a store's effects say that it holds, and that each eviction leaves the fullest source its share.
use Rattle.laws_runs.specs.Places.{Rising, Shelf, StoreIs, all_held, as_held, less_held, shelf}
use Rattle.std.proofs.Common.{◌≡◌, ◌<◌, ◌≤◌, ℕ, ◌+◌, ◌==◌, Bool, true, false, cond, List, [], ◌∷◌, ◌++◌, length, map, filter, Option, Some, None, refl, sym, ap}
use Rattle.std.proofs.Common.{subst, ◌∙◌, inl, inr, arith, not, nat_lt}
use Rattle.std.specs.Prelude.{drop, find, slice_get}
use Rattle.std.specs.List.{All, list_any}
use Rattle.std.proofs.lemmas.Bool.{cases_Bool, eq-eqb, eqb-true, ne_eqb}
use Rattle.std.proofs.lemmas.Bool.Decides.{nat_tests}
use Rattle.std.proofs.lemmas.List.{length-append, length-drop, map-append}
use Rattle.std.proofs.lemmas.List.Elements.{All-head, All-nil, All-tail}
use Rattle.sp_msg.specs.declared.body.Body.{Body}
use Rattle.sp_msg.specs.declared.body.Body.TheVariants as bodies
use Rattle.sp_msg.specs.declared.effect.Effect.{Effect}
use Rattle.sp_msg.specs.declared.effect.Effect.TheVariants as effects
use Rattle.sp_msg.specs.declared.effect.Why.{Why}
use Rattle.sp_msg.specs.declared.effect.Why.TheVariants as whys
use Rattle.sp_msg.specs.declared.kept.Kept.{Kept}
use Rattle.sp_rules.specs.Choices.{less_first}
use Rattle.sp_rules.specs.PrioPeer as rows
use Rattle.sp_rules.specs.Store.{Store, arriving, entry_in, evicted, expired_entries, has_id, is_expired, less_expired, less_oldest, oldest, removed, said}
use Rattle.sp_rules.specs.Store.{source, victim, without}
use Rattle.sp_rules.specs.declared.store.Entry.{Entry}
use Rattle.sp_rules.specs.declared.store.TheConstants.{IDS}
use Rattle.laws_node.specs.Stores.{IsPrio}
use Rattle.laws_node.proofs.Lost.{all_filter, all_less_first, filter_shorter, less_first_shorter, less_one, one_goes}
use Rattle.laws_node.proofs.Tables.{all_drop_first, all_push, all_weaker, cond_where}
use Rattle.sp_runs.specs.Held.{Held, IsShare}
use Rattle.laws_runs.proofs.Evictions.{rising_push, rising_less, rising_filter, rising_drop, keeps_all, less_one_held, above_all, is_share}
use Rattle.laws_runs.proofs.StoreEffects.{Leaves, Stores, Leads, leads_on, leads_nowhere, AreAway, away_both}

-- ---- what each change of a store tells of its place

pub store_empty : (capacity : ℕ) → StoreIs capacity (record { capacity = capacity; last = 0; entries = [] })
store_empty capacity = record {
  capacity_is = refl;
  rising = tt;
  last = All-nil (λ (e : Entry). e.id ≤ 0);
  few = omega arith;
  small = All-nil (λ (e : Entry). source e < IDS);
}

-- one is gone of the place itself
less_shelf : ℕ → Shelf → Shelf
less_shelf id st = record { top = st.top; held = less_held id st.held }

gone_here : (capacity p : ℕ) (st : Shelf) (id : ℕ) (why : Why) → id ≤ st.top → (why ≡ whys.Evicted → IsShare capacity st.held id)
    → Leads capacity p st (effects.Gone p id why ∷ []) (less_shelf id st)
unfolding less_shelf
gone_here capacity p st id whys.Evicted given share = let t : (p == p) ≡ true = eq-eqb p p refl in
    record { held = rw t refl; shares = ((λ same. given, λ same. share refl), tt) }
gone_here capacity p st id whys.Expired given share = let t : (p == p) ≡ true = eq-eqb p p refl in
    record { held = rw t refl; shares = ((λ same. given, tt), tt) }
gone_here capacity p st id whys.Acked given share = let t : (p == p) ≡ true = eq-eqb p p refl in record { held = rw t refl; shares = ((λ same. given, tt), tt) }
gone_here capacity p st id whys.Withdrawn given share = let t : (p == p) ≡ true = eq-eqb p p refl in
    record { held = rw t refl; shares = ((λ same. given, tt), tt) }
gone_here capacity p st id whys.Taken given share = let t : (p == p) ≡ true = eq-eqb p p refl in record { held = rw t refl; shares = ((λ same. given, tt), tt) }

-- the shelf of these entries
abbrev shelf_of : ℕ → List Entry → Shelf
shelf_of top es = record { top = top; held = all_held es }

stored_here : (capacity p top id : ℕ) (o : Kept) (es : List Entry) → top < id → IsPrio o.body
    → Leads capacity p (shelf_of top es) (rows.stored p id o.body) (shelf_of id (es ++ (record { id = id; kept = o }) ∷ []))
stored_here capacity p top id o es above is = go o.body refl is
  where
    go : (body : Body) → o.body ≡ body → IsPrio body
        → Leads capacity p (shelf_of top es) (rows.stored p id body) (shelf_of id (es ++ (record { id = id; kept = o }) ∷ []))
    go (bodies.Prio b) same is =
        let t : (p == p) ≡ true = eq-eqb p p refl in
        let new : as_held (record { id = id; kept = o }) ≡ record { id = id; src = b.src.0; seq = b.seq; prio = b.prio } =
        ap (λ (y : Body). record { id = id; src = said (λ r. r.src.0) y; seq = said (λ r. r.seq) y; prio = said (λ r. r.prio) y }) same in
        let grown : all_held es ++ (record { id = id; src = b.src.0; seq = b.seq; prio = b.prio }) ∷ [] ≡ all_held (es ++ (record { id = id; kept = o }) ∷ []) =
        sym (map-append as_held es ((record { id = id; kept = o }) ∷ []) ∙ ap (λ h. all_held es ++ h ∷ []) new) in
        record {
          held = rw t (ap (λ (hs : List Held). record { top = id; held = hs }) grown);
          shares = ((λ here. above, tt), tt);
        }
    go (bodies.Rel b) same is = absurd is
    go (bodies.Ack b) same is = absurd is
    go (bodies.Weight b) same is = absurd is
    go (bodies.Krel b) same is = absurd is
    go (bodies.Kack b) same is = absurd is
    go (bodies.Epoch b) same is = absurd is

pub record PutFacts (capacity p : ℕ) (s : Store) (o : Kept) (gone : Option Entry) : Type 0 where
  pub leads : Leads capacity p (shelf s) (rows.stored p (s.last + 1) o.body ++ rows.gone p whys.Evicted gone)
      (shelf_of (s.last + 1) (without gone (arriving s o)))
  pub after : StoreIs capacity (record { capacity = s.capacity; last = s.last + 1; entries = without gone (arriving s o) })

-- one that is there has a given id
given_id : (es : List Entry) (id last : ℕ) → list_any (has_id id) es ≡ true → All (λ e. e.id ≤ last) es → id ≤ last
given_id [] id last some all = absurd (let wrong : false ≡ true = some in cc)
given_id (e ∷ es) id last some all = elim (cases_Bool (e.id == id)) [
  | inl t ↦ let first = All-head (λ (x : Entry). x.id ≤ last) e es all in let same = eqb-true e.id id t in omega (arith, first, same)
  | inr t ↦ given_id es id last (rw t at some) (All-tail (λ (x : Entry). x.id ≤ last) e es all)
]

pub put_here : (capacity p : ℕ) (s : Store) (o : Kept) → IsPrio o.body → said (λ r. r.src.0) o.body < IDS → StoreIs capacity s
    → PutFacts capacity p s o (evicted s o)
unfolding less_shelf
put_here capacity p s o is small h =
    let new : Entry = record { id = s.last + 1; kept = o } in
    let all = arriving s o in
    let grown : length all ≡ length s.entries + 1 = length-append s.entries (new ∷ []) in
    let below : All (λ e. e.id < s.last + 1) s.entries =
    all_weaker (λ (e : Entry). e.id ≤ s.last) (λ (e : Entry). e.id < s.last + 1) s.entries (λ e le. omega (arith, le)) h.last in
    let rising : Rising 0 all = rising_push 0 s.entries new below (omega arith) h.rising in
    let last : All (λ e. e.id ≤ s.last + 1) all =
    all_push (λ (e : Entry). e.id ≤ s.last + 1) s.entries new
    (all_weaker (λ (e : Entry). e.id ≤ s.last) (λ (e : Entry). e.id ≤ s.last + 1) s.entries (λ e le. omega (arith, le)) h.last) (omega arith) in
    let sources_small : All (λ e. source e < IDS) all = all_push (λ (e : Entry). source e < IDS) s.entries new h.small small in
    let stored = stored_here capacity p s.last (s.last + 1) o s.entries (omega arith) is in
    let goes = one_goes s.entries new small in
    let v = goes.entry in
    cond_where (PutFacts capacity p s o) (nat_lt s.capacity (length all)) (victim all) None
    (λ full.
    let over : s.capacity < length all = grind (arith, nat_tests, full) in
    let many : length all ≡ capacity + 1 = omega (arith, over, grown, h.few, h.capacity_is) in
    subst (PutFacts capacity p s o) (sym goes.is) (record {
      leads = leads_on capacity p (shelf s) (shelf_of (s.last + 1) all) (shelf_of (s.last + 1) (less_first (has_id v.id) all))
          (rows.stored p (s.last + 1) o.body) (effects.Gone p v.id whys.Evicted ∷ []) stored
          (subst (λ (hs : List Held). Leads capacity p (shelf_of (s.last + 1) all) (effects.Gone p v.id whys.Evicted ∷ [])
          (record { top = s.last + 1; held = hs })) (less_one_held v.id 0 all rising)
          (gone_here capacity p (shelf_of (s.last + 1) all) v.id whys.Evicted (given_id all v.id (s.last + 1) goes.there last)
          (λ why. is_share capacity all v rising sources_small many goes.is)));
      after = record {
        capacity_is = h.capacity_is;
        rising = rising_less 0 (has_id v.id) all rising;
        last = all_less_first (λ (e : Entry). e.id ≤ s.last + 1) (has_id v.id) all last;
        few = let less = less_one (has_id v.id) all goes.there in omega (arith, less, many, h.capacity_is);
        small = all_less_first (λ (e : Entry). source e < IDS) (has_id v.id) all sources_small;
      };
    }))
    (λ free. record {
      leads = leads_on capacity p (shelf s) (shelf_of (s.last + 1) all) (shelf_of (s.last + 1) all) (rows.stored p (s.last + 1) o.body) [] stored
          (leads_nowhere capacity p (shelf_of (s.last + 1) all));
      after = record { capacity_is = h.capacity_is; rising = rising; last = last; few = grind (arith, nat_tests, free); small = sources_small };
    })

-- one is removed by its id, where it is there
none_less : (id : ℕ) (es : List Entry) → find (has_id id) es ≡ None → less_first (has_id id) es ≡ es
none_less id [] e = refl
none_less id (x ∷ es) e = elim (cases_Bool (x.id == id)) [
  | inl t ↦ absurd (let f : Some x ≡ None = rw t at e in cc)
  | inr t ↦ rw t (ap (λ ys. x ∷ ys) (none_less id es (rw t at e)))
]

found_id : (id : ℕ) (es : List Entry) (x : Entry) → find (has_id id) es ≡ Some x → x.id ≡ id
found_id id [] x e = absurd (cc)
found_id id (y ∷ es) x e = elim (cases_Bool (y.id == id)) [
  | inl t ↦ let f : Some y ≡ Some x = rw t at e in let same : y ≡ x = cc in sym (ap (λ (z : Entry). z.id) same) ∙ eqb-true y.id id t
  | inr t ↦ found_id id es x (rw t at e)
]

found_given : (id last : ℕ) (es : List Entry) (x : Entry) → find (has_id id) es ≡ Some x → All (λ e. e.id ≤ last) es → x.id ≤ last
found_given id last [] x e all = absurd (cc)
found_given id last (y ∷ es) x e all = elim (cases_Bool (y.id == id)) [
  | inl t ↦
      let f : Some y ≡ Some x = rw t at e in
      let same : y ≡ x = cc in
      subst (λ (z : Entry). z.id ≤ last) same (All-head (λ (z : Entry). z.id ≤ last) y es all)
  | inr t ↦ found_given id last es x (rw t at e) (All-tail (λ (z : Entry). z.id ≤ last) y es all)
]

pub removed_leads : (capacity p : ℕ) (s : Store) (id : ℕ) → StoreIs capacity s
    → Leads capacity p (shelf s) (rows.gone p whys.Acked (entry_in s id)) (shelf (removed s id))
unfolding less_shelf
removed_leads capacity p s id h = go (entry_in s id) refl
  where
    go : (o : Option Entry) → entry_in s id ≡ o → Leads capacity p (shelf s) (rows.gone p whys.Acked o) (shelf (removed s id))
    go None is =
        subst (λ (es : List Entry). Leads capacity p (shelf s) [] (shelf_of s.last es)) (sym (none_less id s.entries is)) (leads_nowhere capacity p (shelf s))
    go (Some x) is =
        let same : x.id ≡ id = found_id id s.entries x is in
        let given : id ≤ s.last = subst (λ n. n ≤ s.last) same (found_given id s.last s.entries x is h.last) in
        subst (λ n. Leads capacity p (shelf s) (effects.Gone p n whys.Acked ∷ []) (shelf (removed s id))) (sym same)
        (subst (λ (hs : List Held). Leads capacity p (shelf s) (effects.Gone p id whys.Acked ∷ []) (record { top = s.last; held = hs }))
        (less_one_held id 0 s.entries h.rising)
        (gone_here capacity p (shelf s) id whys.Acked given (λ why. absurd (cc))))

pub removed_is : (capacity : ℕ) (s : Store) (id : ℕ) → StoreIs capacity s → StoreIs capacity (removed s id)
removed_is capacity s id h = record {
  capacity_is = h.capacity_is;
  rising = rising_less 0 (has_id id) s.entries h.rising;
  last = all_less_first (λ (e : Entry). e.id ≤ s.last) (has_id id) s.entries h.last;
  few = let less = less_first_shorter (has_id id) s.entries in omega (arith, less, h.few);
  small = all_less_first (λ (e : Entry). source e < IDS) (has_id id) s.entries h.small;
}

-- the entries of these pairs are removed, one after another
pub left_leads : (capacity p : ℕ) (s : Store) (pairs : List (ℕ × ℕ)) → StoreIs capacity s
    → Leads capacity p (shelf s) (rows.left_effects p s pairs) (shelf (rows.less_all s pairs))
left_leads capacity p s [] h = leads_nowhere capacity p (shelf s)
left_leads capacity p s (pair ∷ pairs) h =
    let less = removed s pair.1 in
    leads_on capacity p (shelf s) (shelf less) (shelf (rows.less_all less pairs)) (rows.gone p whys.Acked (entry_in s pair.1)) (rows.left_effects p less pairs)
    (removed_leads capacity p s pair.1 h) (left_leads capacity p less pairs (removed_is capacity s pair.1 h))

pub left_is : (capacity : ℕ) (s : Store) (pairs : List (ℕ × ℕ)) → StoreIs capacity s → StoreIs capacity (rows.less_all s pairs)
left_is capacity s [] h = h
left_is capacity s (pair ∷ pairs) h = left_is capacity (removed s pair.1) pairs (removed_is capacity s pair.1 h)

-- the oldest is taken
pub oldest_leads : (capacity p : ℕ) (s : Store) → StoreIs capacity s → Leads capacity p (shelf s) (rows.gone p whys.Taken (oldest s)) (shelf (less_oldest s))
unfolding less_shelf
oldest_leads capacity p s h = go s.entries h.rising h.last
  where
    go : (es : List Entry) → Rising 0 es → All (λ e. e.id ≤ s.last) es
        → Leads capacity p (shelf_of s.last es) (rows.gone p whys.Taken (slice_get es 0)) (shelf_of s.last (drop 1 es))
    go [] rising last = leads_nowhere capacity p (shelf_of s.last [])
    go (e ∷ es) rising last =
        let t : (e.id == e.id) ≡ true = eq-eqb e.id e.id refl in
        let rest : less_held e.id (all_held (e ∷ es)) ≡ all_held es = rw t (keeps_all e.id e.id es (omega arith) rising.1) in
        subst (λ (hs : List Held). Leads capacity p (shelf_of s.last (e ∷ es)) (effects.Gone p e.id whys.Taken ∷ []) (record { top = s.last; held = hs })) rest
        (gone_here capacity p (shelf_of s.last (e ∷ es)) e.id whys.Taken (All-head (λ (x : Entry). x.id ≤ s.last) e es last) (λ why. absurd (cc)))

pub oldest_is : (capacity : ℕ) (s : Store) → StoreIs capacity s → StoreIs capacity (less_oldest s)
oldest_is capacity s h = record {
  capacity_is = h.capacity_is;
  rising = rising_drop 0 s.entries h.rising;
  last = all_drop_first (λ (e : Entry). e.id ≤ s.last) 1 s.entries h.last;
  few = omega (arith, length-drop 1 s.entries, h.few);
  small = all_drop_first (λ (e : Entry). source e < IDS) 1 s.entries h.small;
}

-- all that expired leave
abbrev leaving_by : Why → ℕ → List Entry → List Effect
leaving_by why p es = map (λ e. effects.Gone p e.id why) es

abbrev leaving : ℕ → List Entry → List Effect
leaving p es = leaving_by whys.Expired p es

-- what is left of a list when these leave
abbrev less_all : List Held → List Entry → List Held
less_all hs [] = hs
less_all hs (g ∷ gs) = less_all (less_held g.id hs) gs

less_other : (x : Held) (hs : List Held) (id : ℕ) → (x.id ≡ id → ⊥) → less_held id (x ∷ hs) ≡ x ∷ less_held id hs
less_other x hs id never = let other : (x.id == id) ≡ false = ne_eqb x.id id never in rw other refl

stays_first : (x : Held) (hs : List Held) (gs : List Entry) → All (λ g. x.id < g.id) gs → less_all (x ∷ hs) gs ≡ x ∷ less_all hs gs
stays_first x hs [] all = refl
stays_first x hs (g ∷ gs) all =
    let above = All-head (λ (y : Entry). x.id < y.id) g gs all in
    ap (λ h. less_all h gs) (less_other x hs g.id (λ same. omega (arith, same, above)))
    ∙ stays_first x (less_held g.id hs) gs (All-tail (λ (y : Entry). x.id < y.id) g gs all)

filter_held : (b : ℕ) (test : Entry → Bool) (es : List Entry) → Rising b es → less_all (all_held es) (filter test es) ≡ all_held (filter (λ e. not (test e)) es)
filter_held b test [] rising = refl
filter_held b test (e ∷ es) rising = go (test e) (filter_held e.id test es rising.1)
  where
    itself : less_held e.id (all_held (e ∷ es)) ≡ all_held es
    itself = let same : (e.id == e.id) ≡ true = eq-eqb e.id e.id refl in rw same (keeps_all e.id e.id es (omega arith) rising.1)

    go : (t : Bool) → less_all (all_held es) (filter test es) ≡ all_held (filter (λ x. not (test x)) es)
        → less_all (all_held (e ∷ es)) (cond t (e ∷ filter test es) (filter test es))
        ≡ all_held (cond (not t) (e ∷ filter (λ x. not (test x)) es) (filter (λ x. not (test x)) es))
    go true rest = ap (λ h. less_all h (filter test es)) itself ∙ rest
    go false rest =
        stays_first (as_held e) (all_held es) (filter test es) (all_filter (λ (g : Entry). e.id < g.id) test es (above_all e.id es rising.1))
        ∙ ap (λ hs. as_held e ∷ hs) rest

all_leave : (why : Why) → (why ≡ whys.Evicted → ⊥) → (capacity p : ℕ) (st : Shelf) (gs : List Entry) → All (λ g. g.id ≤ st.top) gs
    → Leads capacity p st (leaving_by why p gs) (record { top = st.top; held = less_all st.held gs })
unfolding less_shelf
all_leave why never capacity p st [] all = leads_nowhere capacity p st
all_leave why never capacity p st (g ∷ gs) all =
    let first = gone_here capacity p st g.id why (All-head (λ (x : Entry). x.id ≤ st.top) g gs all) (λ is. absurd (never is)) in
    leads_on capacity p st (less_shelf g.id st) (record { top = st.top; held = less_all st.held (g ∷ gs) }) (effects.Gone p g.id why ∷ []) (leaving_by why p gs)
    first
    (all_leave why never capacity p (less_shelf g.id st) gs (All-tail (λ (x : Entry). x.id ≤ st.top) g gs all))

-- entries that pass leave for a reason that isn't an eviction
abbrev pub less_by : (Entry → Bool) → Store → Store
less_by test s = record s { entries = filter (λ e. not (test e)) s.entries }

pub left_by_leads : (why : Why) → (why ≡ whys.Evicted → ⊥) → (capacity p : ℕ) (s : Store) (test : Entry → Bool) → StoreIs capacity s
    → Leads capacity p (shelf s) (leaving_by why p (filter test s.entries)) (shelf (less_by test s))
left_by_leads why never capacity p s test h =
    subst (λ (hs : List Held). Leads capacity p (shelf s) (leaving_by why p (filter test s.entries)) (record { top = s.last; held = hs }))
    (filter_held 0 test s.entries h.rising)
    (all_leave why never capacity p (shelf s) (filter test s.entries) (all_filter (λ (e : Entry). e.id ≤ s.last) test s.entries h.last))

pub left_by_is : (capacity : ℕ) (s : Store) (test : Entry → Bool) → StoreIs capacity s → StoreIs capacity (less_by test s)
left_by_is capacity s test h = record {
  capacity_is = h.capacity_is;
  rising = rising_filter 0 (λ e. not (test e)) s.entries h.rising;
  last = all_filter (λ (e : Entry). e.id ≤ s.last) (λ e. not (test e)) s.entries h.last;
  few = let less = filter_shorter (λ e. not (test e)) s.entries in omega (arith, less, h.few);
  small = all_filter (λ (e : Entry). source e < IDS) (λ e. not (test e)) s.entries h.small;
}

pub left_by_away : (why : Why) (p place : ℕ) (es : List Entry) → (place ≡ p → ⊥) → AreAway p (leaving_by why place es)
left_by_away why p place [] other = tt
left_by_away why p place (e ∷ es) other = (Leaves other, left_by_away why p place es other)

pub expired_leads : (capacity p : ℕ) (s : Store) (now : ℕ) → StoreIs capacity s
    → Leads capacity p (shelf s) (rows.expired_effects p s now) (shelf (less_expired s now))
expired_leads capacity p s now h =
    subst (λ (hs : List Held). Leads capacity p (shelf s) (rows.expired_effects p s now) (record { top = s.last; held = hs }))
    (filter_held 0 (is_expired now) s.entries h.rising)
    (all_leave whys.Expired (λ is. absurd (cc)) capacity p (shelf s) (filter (is_expired now) s.entries)
    (all_filter (λ (e : Entry). e.id ≤ s.last) (is_expired now) s.entries h.last))

pub expired_is : (capacity : ℕ) (s : Store) (now : ℕ) → StoreIs capacity s → StoreIs capacity (less_expired s now)
expired_is capacity s now h = record {
  capacity_is = h.capacity_is;
  rising = rising_filter 0 (λ e. not (is_expired now e)) s.entries h.rising;
  last = all_filter (λ (e : Entry). e.id ≤ s.last) (λ e. not (is_expired now e)) s.entries h.last;
  few = let less = filter_shorter (λ e. not (is_expired now e)) s.entries in omega (arith, less, h.few);
  small = all_filter (λ (e : Entry). source e < IDS) (λ e. not (is_expired now e)) s.entries h.small;
}

-- ---- effects of other places

pub gone_away : (p place : ℕ) (why : Why) (e : Option Entry) → (place ≡ p → ⊥) → AreAway p (rows.gone place why e)
gone_away p place why None other = tt
gone_away p place why (Some e) other = (Leaves other, tt)

pub left_away : (p place : ℕ) (s : Store) (pairs : List (ℕ × ℕ)) → (place ≡ p → ⊥) → AreAway p (rows.left_effects place s pairs)
left_away p place s [] other = tt
left_away p place s (pair ∷ pairs) other =
    away_both p (rows.gone place whys.Acked (entry_in s pair.1)) (rows.left_effects place (removed s pair.1) pairs)
    (gone_away p place whys.Acked (entry_in s pair.1) other) (left_away p place (removed s pair.1) pairs other)

pub put_away : (p place : ℕ) (s : Store) (o : Kept) → (place ≡ p → ⊥) → AreAway p (rows.put_effects place s o)
put_away p place s o other = away_both p (rows.stored place (s.last + 1) o.body) _ (stored o.body) (gone_away p place whys.Evicted (evicted s o) other)
  where
    stored : (body : Body) → AreAway p (rows.stored place (s.last + 1) body)
    stored (bodies.Prio b) = (Stores other, tt)
    stored (bodies.Rel b) = tt
    stored (bodies.Ack b) = tt
    stored (bodies.Weight b) = tt
    stored (bodies.Krel b) = tt
    stored (bodies.Kack b) = tt
    stored (bodies.Epoch b) = tt

pub expired_away : (p place : ℕ) (s : Store) (now : ℕ) → (place ≡ p → ⊥) → AreAway p (rows.expired_effects place s now)
expired_away p place s now other = go (expired_entries s now)
  where
    go : (es : List Entry) → AreAway p (leaving place es)
    go [] = tt
    go (e ∷ es) = (Leaves other, go es)
