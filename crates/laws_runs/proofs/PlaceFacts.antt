-- What each change of the priority part tells of each place of the node.
use Rattle.laws_runs.specs.Places.{PlacesAre, RisingRows, StoreIs, row_store, shelf, store_at}
use Rattle.std.proofs.Common.{◌≡◌, ◌<◌, ◌≤◌, ℕ, zero, suc, ◌==◌, true, false, List, [], ◌∷◌, ◌++◌, map, Option, refl, sym, ap, subst, ◌∙◌, inl, inr, arith}
use Rattle.std.specs.List.{All, flat_map, list_any}
use Rattle.std.proofs.lemmas.Bool.{cases_Bool, eq-eqb, eqb-true, ne_eqb}
use Rattle.std.proofs.lemmas.List.Elements.{All-cons, All-head, All-nil, All-tail}
use Rattle.sp_base.specs.Rows.{first_where, replace_where}
use Rattle.sp_base.specs.declared.id.NodeId.{NodeId}
use Rattle.sp_msg.specs.declared.body.Body.{Body}
use Rattle.sp_msg.specs.declared.body.Body.TheVariants as bodies
use Rattle.sp_msg.specs.declared.effect.Effect.{Effect}
use Rattle.sp_msg.specs.declared.kept.Kept.{Kept}
use Rattle.sp_rules.specs.Prio as prio
use Rattle.sp_rules.specs.Prio.{PrioState, admit_prio, acked_effects, is_here, is_peer, judge_prio, marked, no_peer, peer_in, prio_effects, spread, with_peer}
use Rattle.sp_rules.specs.PrioPeer as rows
use Rattle.sp_rules.specs.PrioPeer.{PrioPeer}
use Rattle.sp_rules.specs.Store.{Store, put, said}
use Rattle.sp_rules.specs.declared.store.TheConstants.{IDS}
use Rattle.laws_node.specs.Stores.{IsPrio}
use Rattle.laws_runs.proofs.StoreFacts.{put_away, put_here}
use Rattle.laws_runs.proofs.StoreEffects.{Tells_prio}
use Rattle.laws_runs.proofs.StoreEffects.{AreAway, Leads, away_both, leads_away, leads_nowhere, leads_on}

-- ---- places

-- effects lead each place on, and the places stay as they are
pub record Turns (capacity : ℕ) (old : PrioState) (es : List Effect) (new : PrioState) : Type 0 where
  pub leads : (place : ℕ) → Leads capacity place (shelf (store_at old place)) es (shelf (store_at new place))
  pub are : PlacesAre capacity new

abbrev pub AllAway : List Effect → Type 0
AllAway es = (place : ℕ) → AreAway place es

pub turns_same : (capacity : ℕ) (old new : PrioState) (es : List Effect) → AllAway es → new.inbox ≡ old.inbox → new.peers ≡ old.peers → PlacesAre capacity old
    → Turns capacity old es new
turns_same capacity old new es away e f h = record {
  leads = λ place. same place (leads_away capacity place (shelf (store_at old place)) es (away place));
  are = record { inbox = rw e h.inbox; peers = rw f h.peers; rows = rw f h.rows };
}
  where
    same : (place : ℕ) → Leads capacity place (shelf (store_at old place)) es (shelf (store_at old place))
        → Leads capacity place (shelf (store_at old place)) es (shelf (store_at new place))
    same zero l = subst (λ (s : Store). Leads capacity 0 (shelf old.inbox) es (shelf s)) (sym e) l
    same (suc v) l = subst (λ (ps : List PrioPeer). Leads capacity (suc v) (shelf (row_store old.peers (suc v))) es (shelf (row_store ps (suc v)))) (sym f) l

pub turns_on : (capacity : ℕ) (old mid new : PrioState) (xs ys : List Effect) → Turns capacity old xs mid → Turns capacity mid ys new
    → Turns capacity old (xs ++ ys) new
turns_on capacity old mid new xs ys one two = record {
  leads = λ place. leads_on capacity place (shelf (store_at old place)) (shelf (store_at mid place)) (shelf (store_at new place)) xs ys (one.leads place)
      (two.leads place);
  are = two.are;
}

-- ---- rows

rows_low : (b c : ℕ) (qs : List PrioPeer) → b ≤ c → RisingRows c qs → RisingRows b qs
rows_low b c [] le h = tt
rows_low b c (q ∷ qs) le h = (omega (arith, le, h.0), h.1)

-- what each row tells is of its own place
pub record RowTurns (capacity : ℕ) (f : PrioPeer → PrioPeer) (tells : PrioPeer → List Effect) (q : PrioPeer) : Type 0 where
  pub key : (f q).peer ≡ q.peer
  pub here : Leads capacity q.peer (shelf q.store) (tells q) (shelf (f q).store)
  pub away : (place : ℕ) → (q.peer ≡ place → ⊥) → AreAway place (tells q)
  pub after : StoreIs capacity (f q).store

all_away : (capacity b : ℕ) (f : PrioPeer → PrioPeer) (tells : PrioPeer → List Effect) (qs : List PrioPeer) (place : ℕ) → place ≤ b → RisingRows b qs
    → All (RowTurns capacity f tells) qs → AreAway place (flat_map tells qs)
all_away capacity b f tells [] place le rising all = tt
all_away capacity b f tells (q ∷ qs) place le rising all =
    away_both place (tells q) (flat_map tells qs) ((All-head (RowTurns capacity f tells) q qs all).away place (λ same. omega (arith, same, le, rising.0)))
    (all_away capacity q.peer f tells qs place (omega (arith, le, rising.0)) rising.1 (All-tail (RowTurns capacity f tells) q qs all))

pub row_here : (place : ℕ) (q : PrioPeer) (qs : List PrioPeer) → (q.peer == place) ≡ true → row_store (q ∷ qs) place ≡ q.store
row_here place q qs t = ap (λ (r : PrioPeer). r.store) (let e : first_where (is_peer place) no_peer (q ∷ qs) ≡ q = rw t refl in e)

pub row_there : (place : ℕ) (q : PrioPeer) (qs : List PrioPeer) → (q.peer == place) ≡ false → row_store (q ∷ qs) place ≡ row_store qs place
row_there place q qs t =
    ap (λ (r : PrioPeer). r.store) (let e : first_where (is_peer place) no_peer (q ∷ qs) ≡ first_where (is_peer place) no_peer qs = rw t refl in e)

between : (capacity place : ℕ) (xs xs2 ys ys2 : Store) (es : List Effect) → xs ≡ xs2 → ys ≡ ys2 → Leads capacity place (shelf xs2) es (shelf ys2)
    → Leads capacity place (shelf xs) es (shelf ys)
between capacity place xs xs2 ys ys2 es e f l =
    subst (λ zs. Leads capacity place (shelf zs) es (shelf ys)) (sym e) (subst (λ zs. Leads capacity place (shelf xs2) es (shelf zs)) (sym f) l)

rows_lead : (capacity b : ℕ) (f : PrioPeer → PrioPeer) (tells : PrioPeer → List Effect) (qs : List PrioPeer) (place : ℕ) → RisingRows b qs
    → All (RowTurns capacity f tells) qs
    → Leads capacity place (shelf (row_store qs place)) (flat_map tells qs) (shelf (row_store (map f qs) place))
rows_lead capacity b f tells [] place rising all = leads_nowhere capacity place (shelf (row_store [] place))
rows_lead capacity b f tells (q ∷ qs) place rising all =
    let first = All-head (RowTurns capacity f tells) q qs all in
    let others = All-tail (RowTurns capacity f tells) q qs all in
    elim (cases_Bool (q.peer == place)) [
      | inl t ↦
          let same : q.peer ≡ place = eqb-true q.peer place t in
          let after : ((f q).peer == place) ≡ true = eq-eqb (f q).peer place (first.key ∙ same) in
          let here : Leads capacity place (shelf q.store) (tells q) (shelf (f q).store) =
          subst (λ n. Leads capacity n (shelf q.store) (tells q) (shelf (f q).store)) same first.here in
          let rest = leads_away capacity place (shelf (f q).store) (flat_map tells qs)
          (all_away capacity q.peer f tells qs place (omega (arith, same)) rising.1 others) in
          between capacity place (row_store (q ∷ qs) place) q.store (row_store (f q ∷ map f qs) place) (f q).store (tells q ++ flat_map tells qs)
          (row_here place q qs t) (row_here place (f q) (map f qs) after)
          (leads_on capacity place (shelf q.store) (shelf (f q).store) (shelf (f q).store) (tells q) (flat_map tells qs) here rest)
      | inr t ↦
          let other : q.peer ≡ place → ⊥ = λ same. let yes : (q.peer == place) ≡ true = eq-eqb q.peer place same in let g : true ≡ false = sym yes ∙ t in cc in
          let after : ((f q).peer == place) ≡ false = ne_eqb (f q).peer place (λ same. other (sym first.key ∙ same)) in
          between capacity place (row_store (q ∷ qs) place) (row_store qs place) (row_store (f q ∷ map f qs) place) (row_store (map f qs) place)
          (tells q ++ flat_map tells qs) (row_there place q qs t) (row_there place (f q) (map f qs) after)
          (leads_on capacity place (shelf (row_store qs place)) (shelf (row_store qs place)) (shelf (row_store (map f qs) place)) (tells q) (flat_map tells qs)
          (leads_away capacity place (shelf (row_store qs place)) (tells q) (first.away place other))
          (rows_lead capacity q.peer f tells qs place rising.1 others))
    ]

rows_after : (capacity b : ℕ) (f : PrioPeer → PrioPeer) (tells : PrioPeer → List Effect) (qs : List PrioPeer) → RisingRows b qs
    → All (RowTurns capacity f tells) qs
    → RisingRows b (map f qs) × All (λ q. StoreIs capacity q.store) (map f qs)
rows_after capacity b f tells [] rising all = (tt, All-nil (λ (q : PrioPeer). StoreIs capacity q.store))
rows_after capacity b f tells (q ∷ qs) rising all =
    let first = All-head (RowTurns capacity f tells) q qs all in
    let rest = rows_after capacity q.peer f tells qs rising.1 (All-tail (RowTurns capacity f tells) q qs all) in (
      (omega (arith, rising.0, first.key), subst (λ n. RisingRows n (map f qs)) (sym first.key) rest.0),
      All-cons (λ (r : PrioPeer). StoreIs capacity r.store) (f q) (map f qs) first.after rest.1,
    )

each_turns : (capacity : ℕ) (f : PrioPeer → PrioPeer) (tells : PrioPeer → List Effect)
    → ((q : PrioPeer) → StoreIs capacity q.store → RowTurns capacity f tells q) → (qs : List PrioPeer)
    → All (λ q. StoreIs capacity q.store) qs → All (RowTurns capacity f tells) qs
each_turns capacity f tells each [] all = All-nil (RowTurns capacity f tells)
each_turns capacity f tells each (q ∷ qs) all =
    All-cons (RowTurns capacity f tells) q qs (each q (All-head (λ (r : PrioPeer). StoreIs capacity r.store) q qs all))
    (each_turns capacity f tells each qs (All-tail (λ (r : PrioPeer). StoreIs capacity r.store) q qs all))

-- all rows turn, and the inbox tells nothing
pub all_turn : (capacity : ℕ) (p : PrioState) (new : PrioState) (f : PrioPeer → PrioPeer) (tells : PrioPeer → List Effect)
    → ((q : PrioPeer) → StoreIs capacity q.store → RowTurns capacity f tells q) → new.inbox ≡ p.inbox
    → new.peers ≡ map f p.peers → PlacesAre capacity p → Turns capacity p (flat_map tells p.peers) new
all_turn capacity p new f tells each e g h =
    let all = each_turns capacity f tells each p.peers h.peers in
    let after = rows_after capacity 0 f tells p.peers h.rows all in
    record {
      leads = λ place. go place all;
      are = record { inbox = rw e h.inbox; peers = rw g after.1; rows = rw g after.0 };
    }
  where
    go : (place : ℕ) → All (RowTurns capacity f tells) p.peers
        → Leads capacity place (shelf (store_at p place)) (flat_map tells p.peers) (shelf (store_at new place))
    go zero all = subst (λ (s : Store). Leads capacity 0 (shelf p.inbox) (flat_map tells p.peers) (shelf s)) (sym e)
        (leads_away capacity 0 (shelf p.inbox) (flat_map tells p.peers) (all_away capacity 0 f tells p.peers 0 (omega arith) h.rows all))
    go (suc v) all =
        subst (λ (ps : List PrioPeer). Leads capacity (suc v) (shelf (row_store p.peers (suc v))) (flat_map tells p.peers) (shelf (row_store ps (suc v))))
        (sym g)
        (rows_lead capacity 0 f tells p.peers (suc v) h.rows all)

-- the inbox alone turns
pub inbox_turns : (capacity : ℕ) (p new : PrioState) (es : List Effect) → new.peers ≡ p.peers → Leads capacity 0 (shelf p.inbox) es (shelf new.inbox)
    → StoreIs capacity new.inbox
    → ((place : ℕ) → (0 ≡ place → ⊥) → AreAway place es) → PlacesAre capacity p → Turns capacity p es new
inbox_turns capacity p new es f here after away h = record {
  leads = λ place. go place;
  are = record { inbox = after; peers = rw f h.peers; rows = rw f h.rows };
}
  where
    go : (place : ℕ) → Leads capacity place (shelf (store_at p place)) es (shelf (store_at new place))
    go zero = here
    go (suc v) = subst (λ (ps : List PrioPeer). Leads capacity (suc v) (shelf (row_store p.peers (suc v))) es (shelf (row_store ps (suc v)))) (sym f)
        (leads_away capacity (suc v) (shelf (row_store p.peers (suc v))) es (away (suc v) (λ same. omega (arith, same))))

-- ---- a message comes

delivered_away : (place : ℕ) (body : Body) → AreAway place (prio.delivered body)
delivered_away place (bodies.Prio b) = (Tells_prio, tt)
delivered_away place (bodies.Rel b) = tt
delivered_away place (bodies.Ack b) = tt
delivered_away place (bodies.Weight b) = tt
delivered_away place (bodies.Krel b) = tt
delivered_away place (bodies.Kack b) = tt
delivered_away place (bodies.Epoch b) = tt

pub admitted_turns : (capacity : ℕ) (p : PrioState) (o : Kept) (came : Option NodeId) → IsPrio o.body → said (λ r. r.src.0) o.body < IDS → PlacesAre capacity p
    → Turns capacity p (prio_effects p o came) (admit_prio p o came)
admitted_turns capacity p o came is small h = elim (cases_Bool (is_here p o.body)) [
  | inl t ↦
      let put_it = put_here capacity 0 p.inbox o is small h.inbox in
      let turned = inbox_turns capacity p (record (marked p o.body came) { inbox = put p.inbox o }) (prio.delivered o.body ++ rows.put_effects 0 p.inbox o) refl
      (leads_on capacity 0 (shelf p.inbox) (shelf p.inbox) (shelf (put p.inbox o)) (prio.delivered o.body) (rows.put_effects 0 p.inbox o)
      (leads_away capacity 0 (shelf p.inbox) (prio.delivered o.body) (delivered_away 0 o.body)) put_it.leads)
      put_it.after
      (λ place other. away_both place (prio.delivered o.body) (rows.put_effects 0 p.inbox o) (delivered_away place o.body)
      (put_away place 0 p.inbox o other)) h in
      rw t turned
  | inr t ↦
      let turned =
      all_turn capacity p (record (marked p o.body came) { peers = map (rows.given o came) p.peers }) (rows.given o came) (rows.given_effects o came)
      (λ q s. given_turns q s) refl refl h in
      rw t turned
]
  where
    given_turns : (q : PrioPeer) → StoreIs capacity q.store → RowTurns capacity (rows.given o came) (rows.given_effects o came) q
    given_turns q s = elim (cases_Bool (rows.goes_to o.body came q)) [
      | inl t ↦
          let put_it = put_here capacity q.peer q.store o is small s in
          record {
            key = rw t refl;
            here = rw t put_it.leads;
            away = λ place other. rw t (put_away place q.peer q.store o other);
            after = rw t put_it.after;
          }
      | inr t ↦ record {
        key = rw t refl;
        here = rw t (leads_nowhere capacity q.peer (shelf q.store));
        away = λ place other. rw t tt;
        after = rw t s;
      }
    ]

-- ---- one row

absent : (v : ℕ) (qs : List PrioPeer) (r : PrioPeer) → list_any (is_peer v) qs ≡ false
    → (replace_where (is_peer v) r qs ≡ qs) × (first_where (is_peer v) no_peer qs ≡ no_peer)
absent v [] r none = (refl, refl)
absent v (q ∷ qs) r none = elim (cases_Bool (q.peer == v)) [
  | inl t ↦ absurd (let f : true ≡ false = rw t at none in cc)
  | inr t ↦ let rest = absent v qs r (rw t at none) in rw t (ap (λ ps. q ∷ ps) rest.0, rest.1)
]

-- the rows with another one of the same node and the same tells
record Replaced (capacity b v : ℕ) (qs : List PrioPeer) (r : PrioPeer) (es : List Effect) : Type 0 where
  leads : (place : ℕ) → Leads capacity place (shelf (row_store qs place)) es (shelf (row_store (replace_where (is_peer v) r qs) place))
  stores : All (λ q. StoreIs capacity q.store) (replace_where (is_peer v) r qs)
  rising : RisingRows b (replace_where (is_peer v) r qs)

replaced : (capacity b v : ℕ) (qs : List PrioPeer) (r : PrioPeer) (es : List Effect) → list_any (is_peer v) qs ≡ true
    → r.peer ≡ (first_where (is_peer v) no_peer qs).peer
    → (StoreIs capacity (first_where (is_peer v) no_peer qs).store → StoreIs capacity r.store)
    → (StoreIs capacity (first_where (is_peer v) no_peer qs).store → Leads capacity v (shelf (row_store qs v)) es (shelf r.store))
    → ((place : ℕ) → (v ≡ place → ⊥) → AreAway place es)
    → RisingRows b qs → All (λ q. StoreIs capacity q.store) qs → Replaced capacity b v qs r es
replaced capacity b v [] r es some key after here away rising all = absurd (let f : false ≡ true = some in cc)
replaced capacity b v (q ∷ qs) r es some key after here away rising all = elim (cases_Bool (q.peer == v)) [
  | inl t ↦
      let is : q.peer ≡ v = eqb-true q.peer v t in
      let found : first_where (is_peer v) no_peer (q ∷ qs) ≡ q = rw t refl in
      let rows_are : replace_where (is_peer v) r (q ∷ qs) ≡ r ∷ qs = rw t refl in
      let same : r.peer ≡ q.peer = key ∙ ap (λ (y : PrioPeer). y.peer) found in
      let mine = All-head (λ (x : PrioPeer). StoreIs capacity x.store) q qs all in
      let mine_too : StoreIs capacity (first_where (is_peer v) no_peer (q ∷ qs)).store = subst (λ (y : PrioPeer). StoreIs capacity y.store) (sym found) mine in
      let leads_v : Leads capacity v (shelf q.store) es (shelf r.store) =
      subst (λ zs. Leads capacity v (shelf zs) es (shelf r.store)) (row_here v q qs t) (here mine_too) in
      record {
        leads = λ place. subst (λ (rs : List PrioPeer). Leads capacity place (shelf (row_store (q ∷ qs) place)) es (shelf (row_store rs place))) (sym rows_are)
            (elim (cases_Bool (q.peer == place)) [
              | inl z ↦
                  let at : v ≡ place = sym is ∙ eqb-true q.peer place z in
                  let z2 : (r.peer == place) ≡ true = eq-eqb r.peer place (same ∙ eqb-true q.peer place z) in
                  between capacity place (row_store (q ∷ qs) place) q.store (row_store (r ∷ qs) place) r.store es (row_here place q qs z)
                  (row_here place r qs z2)
                  (subst (λ n. Leads capacity n (shelf q.store) es (shelf r.store)) at leads_v)
              | inr z ↦
                  let other : q.peer ≡ place → ⊥ = λ e. let yes : (q.peer == place) ≡ true = eq-eqb q.peer place e in let g : true ≡ false = sym yes ∙ z in
                  cc in
                  let z2 : (r.peer == place) ≡ false = ne_eqb r.peer place (λ e. other (sym same ∙ e)) in
                  between capacity place (row_store (q ∷ qs) place) (row_store qs place) (row_store (r ∷ qs) place) (row_store qs place) es
                  (row_there place q qs z)
                  (row_there place r qs z2)
                  (leads_away capacity place (shelf (row_store qs place)) es (away place (λ e. other (is ∙ e))))
            ]);
        stores = subst (All (λ q. StoreIs capacity q.store)) (sym rows_are)
            (All-cons (λ (x : PrioPeer). StoreIs capacity x.store) r qs (after mine_too) (All-tail (λ (x : PrioPeer). StoreIs capacity x.store) q qs all));
        rising = subst (RisingRows b) (sym rows_are) (omega (arith, rising.0, same), subst (λ n. RisingRows n qs) (sym same) rising.1);
      }
  | inr t ↦
      let other : q.peer ≡ v → ⊥ = λ e. let yes : (q.peer == v) ≡ true = eq-eqb q.peer v e in let g : true ≡ false = sym yes ∙ t in cc in
      let found : first_where (is_peer v) no_peer (q ∷ qs) ≡ first_where (is_peer v) no_peer qs = rw t refl in
      let rows_are : replace_where (is_peer v) r (q ∷ qs) ≡ q ∷ replace_where (is_peer v) r qs = rw t refl in
      let later : list_any (is_peer v) qs ≡ true = rw t at some in
      let back : StoreIs capacity (first_where (is_peer v) no_peer qs).store → StoreIs capacity (first_where (is_peer v) no_peer (q ∷ qs)).store =
      λ s. subst (λ (y : PrioPeer). StoreIs capacity y.store) (sym found) s in
      let rest = replaced capacity q.peer v qs r es later (key ∙ ap (λ (y : PrioPeer). y.peer) found) (λ s. after (back s))
      (λ s. subst (λ zs. Leads capacity v (shelf zs) es (shelf r.store)) (row_there v q qs t) (here (back s))) away rising.1
      (All-tail (λ (x : PrioPeer). StoreIs capacity x.store) q qs all) in
      record {
        leads = λ place. subst (λ (rs : List PrioPeer). Leads capacity place (shelf (row_store (q ∷ qs) place)) es (shelf (row_store rs place))) (sym rows_are)
            (elim (cases_Bool (q.peer == place)) [
              | inl z ↦
                  let at = eqb-true q.peer place z in
                  between capacity place (row_store (q ∷ qs) place) q.store (row_store (q ∷ replace_where (is_peer v) r qs) place) q.store es
                  (row_here place q qs z) (row_here place q (replace_where (is_peer v) r qs) z)
                  (leads_away capacity place (shelf q.store) es (away place (λ e. other (at ∙ sym e))))
              | inr z ↦
                  between capacity place (row_store (q ∷ qs) place) (row_store qs place) (row_store (q ∷ replace_where (is_peer v) r qs) place)
                  (row_store (replace_where (is_peer v) r qs) place) es (row_there place q qs z)
                  (row_there place q (replace_where (is_peer v) r qs) z) (rest.leads place)
            ]);
        stores = subst (All (λ q. StoreIs capacity q.store)) (sym rows_are)
            (All-cons (λ (x : PrioPeer). StoreIs capacity x.store) q (replace_where (is_peer v) r qs)
            (All-head (λ (x : PrioPeer). StoreIs capacity x.store) q qs all) rest.stores);
        rising = subst (RisingRows b) (sym rows_are) (rising.0, rest.rising);
      }
]

row_is : (v : ℕ) (qs : List PrioPeer) → list_any (is_peer v) qs ≡ true → (first_where (is_peer v) no_peer qs).peer ≡ v
row_is v [] some = absurd (let f : false ≡ true = some in cc)
row_is v (q ∷ qs) some = elim (cases_Bool (q.peer == v)) [
  | inl t ↦ rw t (eqb-true q.peer v t)
  | inr t ↦ rw t (row_is v qs (rw t at some))
]

positive : (v : ℕ) (b : ℕ) (qs : List PrioPeer) → RisingRows b qs → list_any (is_peer v) qs ≡ true → 0 < v
positive v b [] rising some = absurd (let f : false ≡ true = some in cc)
positive v b (q ∷ qs) rising some = elim (cases_Bool (q.peer == v)) [
  | inl t ↦ omega (arith, rising.0, eqb-true q.peer v t)
  | inr t ↦ positive v q.peer qs rising.1 (rw t at some)
]

-- a row turns: what it tells is of its place, and nothing where there is no such neighbour
pub row_turns : (capacity : ℕ) (p : PrioState) (v : ℕ) (r : PrioPeer) (es : List Effect) → r.peer ≡ (peer_in p v).peer
    → (StoreIs capacity (peer_in p v).store → StoreIs capacity r.store)
    → ((peer_in p v).peer ≡ v → StoreIs capacity (peer_in p v).store → Leads capacity v (shelf (peer_in p v).store) es (shelf r.store))
    → ((place : ℕ) → ((peer_in p v).peer ≡ place → ⊥) → AreAway place es)
    → (peer_in p v ≡ no_peer → es ≡ []) → PlacesAre capacity p → Turns capacity p es (with_peer p v r)
row_turns capacity p v r es key after here away nothing h = elim (cases_Bool (list_any (is_peer v) p.peers)) [
  | inl some ↦
      let is = row_is v p.peers some in
      let above = positive v 0 p.peers h.rows some in
      let away_v : (place : ℕ) → (v ≡ place → ⊥) → AreAway place es = λ place other. away place (λ e. other (sym is ∙ e)) in
      let done = replaced capacity 0 v p.peers r es some key after (here is) away_v h.rows h.peers in
      record {
        leads = λ place. go place (away_v 0 (λ e. omega (arith, e, above))) done;
        are =
            record { inbox = h.inbox; peers = done.stores; rows = done.rising };
      }
  | inr none ↦
      let is = absent v p.peers r none in
      let empty : es ≡ [] = nothing is.1 in
      subst (λ xs. Turns capacity p xs (with_peer p v r)) (sym empty) (turns_same capacity p (with_peer p v r) [] (λ place. tt) refl is.0 h)
]
  where
    go : (place : ℕ) → AreAway 0 es → Replaced capacity 0 v p.peers r es
        → Leads capacity place (shelf (store_at p place)) es (shelf (store_at (with_peer p v r) place))
    go zero off done = leads_away capacity 0 (shelf p.inbox) es off
    go (suc place) off done = done.leads (suc place)
