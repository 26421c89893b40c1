-- What each change of the weights keeps.
use Rattle.std.proofs.Common.{◌≡◌, ◌<◌, ◌≤◌, ℕ, zero, suc, ◌+◌, ◌*◌, ◌==◌, ◌&&◌, Bool, true, false, List, [], ◌∷◌, length, get_or, Option, Some, None, inl, inr}
use Rattle.std.proofs.Common.{refl, sym, ap, ◌∙◌, subst, arith, cond, nat_lt, ◌||◌}
use Rattle.std.specs.Prelude.{◌⊎◌, IfSome, is_none, position}
use Rattle.std.specs.Option.{option_and_then}
use Rattle.std.specs.List.{slice_get, slice_set}
use Rattle.std.proofs.lemmas.Bool.Decides.{nat_tests}
use Rattle.sp_base.proofs.RowLemmas.{is_first}
use Rattle.sp_base.specs.declared.id.NodeId.{NodeId}
use Rattle.sp_msg.specs.declared.body.Body.{Body}
use Rattle.sp_msg.specs.declared.body.Body.TheVariants as bodies
use Rattle.sp_msg.specs.declared.body.WeightBody.{WeightBody}
use Rattle.sp_msg.specs.declared.kept.Kept.{Kept}
use Rattle.sp_rules.specs.Handle.{offer_to}
use Rattle.sp_rules.specs.Weights.{WeightState, held, held_in, moved, offer, row_for, row_in, row_of, rows_with, seq_of, seq_said, next_seq, is_withdrawn}
use Rattle.sp_rules.specs.declared.weights.Offer.{Offer}
use Rattle.sp_rules.specs.declared.weights.Offer.TheVariants as offers
use Rattle.sp_rules.specs.declared.weights.TheConstants.{MAX_OWN_HEARD}
use Rattle.sp_topology.specs.Neighbours.{joins}
use Rattle.sp_topology.specs.declared.topology.Edge.{Edge}
use Rattle.laws_node.specs.Sizes.{Fits, Sizes}
use Rattle.laws_node.specs.Updates.{IsUpdate, OwnUpTo, UpdateHolds, WeightsHold}

-- ---- rows

own_more : (me : NodeId) (number more : ℕ) (body : Body) → number ≤ more → OwnUpTo me number body → OwnUpTo me more body
own_more me number more (bodies.Weight u) up own = λ mine. let at = own mine in omega (arith, at, up)
own_more me number more (bodies.Prio p) up own = tt
own_more me number more (bodies.Rel r) up own = tt
own_more me number more (bodies.Ack a) up own = tt
own_more me number more (bodies.Krel a) up own = tt
own_more me number more (bodies.Kack a) up own = tt
own_more me number more (bodies.Epoch a) up own = tt

update_more : (k : Sizes) (index more row : ℕ) (o : Kept) → index ≤ more → UpdateHolds k index row o → UpdateHolds k more row o
update_more k index more row o up h =
    record {
      kind = h.kind;
      place = h.place;
      fits = h.fits;
      own =
          own_more k.me (MAX_OWN_HEARD + index) (MAX_OWN_HEARD + more) o.body (omega (arith, up)) h.own;
    }

some_weaker : {X : Type 0} (P Q : X → Type 0) (o : Option X) → ((x : X) → P x → Q x) → IfSome o P → IfSome o Q
some_weaker P Q None weaker p = tt
some_weaker P Q (Some x) weaker p = weaker x p

pub weights_more : (k : Sizes) (index more : ℕ) (w : WeightState) → index ≤ more → WeightsHold k index w → WeightsHold k more w
weights_more k index more w up h = record {
  edges = h.edges;
  least = h.least;
  rows = λ row. some_weaker (UpdateHolds k index row) (UpdateHolds k more row) (held_in w.rows row) (λ o. update_more k index more row o up) (h.rows row);
}

-- what holds of each row holds where one row has another message
set_holds : (P : ℕ → Kept → Type 0) (rows : List (Option Kept)) (place : ℕ) (o : Kept) → P place o → ((row : ℕ) → IfSome (held_in rows row) (P row))
    → (row : ℕ) → IfSome (held_in (slice_set rows place (Some o)) row) (P row)
set_holds P [] place o new all row = all row
set_holds P (x ∷ rows) zero o new all zero = new
set_holds P (x ∷ rows) zero o new all (suc row) = all (suc row)
set_holds P (x ∷ rows) (suc place) o new all zero = all zero
set_holds P (x ∷ rows) (suc place) o new all (suc row) = set_holds (λ i. P (suc i)) rows place o new (λ i. all (suc i)) row

pub held_holds : (k : Sizes) (index more row : ℕ) (w : WeightState) (o : Kept) → index ≤ more → UpdateHolds k more row o → WeightsHold k index w
    → WeightsHold k more (held w o)
held_holds k index more row w o up new h =
    let place : row_for w.edges o.body ≡ Some row = ap (λ (es : List Edge). row_for es o.body) h.edges ∙ new.place in
    record {
      edges = h.edges;
      least = h.least;
      rows = subst (λ (r : Option ℕ). (i : ℕ) → IfSome (held_in (rows_with r w.rows o) i) (UpdateHolds k more i)) (sym place)
          (set_holds (UpdateHolds k more) w.rows row o new (weights_more k index more w up h).rows);
    }

pub moved_holds : (k : Sizes) (index : ℕ) (w : WeightState) (v : ℕ) → WeightsHold k index w → WeightsHold k index (moved w v)
moved_holds k index w v h = record { edges = h.edges; least = h.least; rows = h.rows }

-- ---- an update arrives

is_new_offer : Offer → Bool
is_new_offer offers.New = true
is_new_offer _ = false

passes : (t : Bool) (a b : Offer) → is_new_offer a ≡ false → cond t a b ≡ offers.New → (t ≡ false) × (b ≡ offers.New)
unfolding is_new_offer
passes true a b other e = absurd (let both : false ≡ true = sym other ∙ ap is_new_offer e in cc)
passes false a b other e = (refl, e)

-- the row that a new update is for
record HasRow (edges : List Edge) (u : WeightBody) : Type 0 where
  row : ℕ
  is : row_for edges (bodies.Weight u) ≡ Some row

offered_row : (w : WeightState) (u : WeightBody) → offer w u ≡ offers.New → HasRow w.edges u
offered_row w u new = go (row_in w.edges u.edge.0 u.origin.0) refl (is_withdrawn w u.edge.0) _ new
  where
    go : (o : Option ℕ) → row_in w.edges u.edge.0 u.origin.0 ≡ o → (shut : Bool) → (known : Offer) → cond (is_none o || shut) offers.Foreign known ≡ offers.New
        → HasRow w.edges u
    go None is shut known new = absurd (cc)
    go (Some row) is shut known new = record { row = row; is = is }

up_to : (mine : Bool) (most seq : ℕ) → (mine && nat_lt most seq) ≡ false → mine ≡ true → seq ≤ most
up_to true most seq e is = grind (arith, nat_tests)
up_to false most seq e is = absurd (cc)

-- a new update holds in its row
pub record NewUpdate (k : Sizes) (index : ℕ) (o : Kept) : Type 0 where
  pub row : ℕ
  pub holds : UpdateHolds k index row o

pub new_update : (k : Sizes) (index : ℕ) (w : WeightState) (o : Kept) → offer_to k.me w o.body ≡ offers.New → Fits k o → WeightsHold k index w
    → NewUpdate k index o
unfolding is_new_offer
new_update k index w o new fits h = go o.body refl new
  where
    go : (body : Body) → o.body ≡ body → offer_to k.me w body ≡ offers.New → NewUpdate k index o
    go (bodies.Weight u) is new =
        let outside = passes ((u.origin.0 == k.me.0) && nat_lt MAX_OWN_HEARD u.seq) offers.Foreign (offer w u) refl new in
        let there = offered_row w u outside.1 in
        record {
          row = there.row;
          holds = record {
            kind = subst IsUpdate (sym is) tt;
            place = ap (row_for k.edges) is ∙ ap (λ (es : List Edge). row_for es (bodies.Weight u)) (sym h.edges) ∙ there.is;
            fits = fits;
            own = subst (OwnUpTo k.me (MAX_OWN_HEARD + index)) (sym is)
                (λ mine. let most = up_to (u.origin.0 == k.me.0) MAX_OWN_HEARD u.seq outside.0 mine in omega (arith, most));
          };
        }
    go (bodies.Prio p) is new = absurd (cc)
    go (bodies.Rel r) is new = absurd (cc)
    go (bodies.Ack a) is new = absurd (cc)
    go (bodies.Krel a) is new = absurd (cc)
    go (bodies.Kack a) is new = absurd (cc)
    go (bodies.Epoch a) is new = absurd (cc)

-- ---- an own update

record IsEndOf (edges : List Edge) (edge end row : ℕ) : Type 0 where
  e : Edge
  there : slice_get edges edge ≡ Some e
  is : row_of edge e end ≡ Some row

end_of : (edges : List Edge) (edge end row : ℕ) → row_in edges edge end ≡ Some row → IsEndOf edges edge end row
end_of edges edge end row is = go (slice_get edges edge) refl is
  where
    go : (o : Option Edge) → slice_get edges edge ≡ o → option_and_then (λ (f : Edge). row_of edge f end) o ≡ Some row → IsEndOf edges edge end row
    go None there is = absurd (cc)
    go (Some e) there is = record { e = e; there = there; is = is }

-- which end a row is
record RowSays (edge : ℕ) (e : Edge) (end row : ℕ) : Type 0 where
  of_edge : ((row ≡ 2 * edge) × (e.low.0 ≡ end)) ⊎ ((row ≡ 2 * edge + 1) × (e.high.0 ≡ end))

row_says : (edge : ℕ) (e : Edge) (end row : ℕ) → row_of edge e end ≡ Some row → RowSays edge e end row
row_says edge e end row is = go (e.low.0 == end) refl (e.high.0 == end) refl is
  where
    go : (a : Bool) → (e.low.0 == end) ≡ a → (b : Bool) → (e.high.0 == end) ≡ b → cond a (Some (2 * edge)) (cond b (Some (2 * edge + 1)) None) ≡ Some row
        → RowSays edge e end row
    go true one b two is = record { of_edge = inl ((let same : 2 * edge ≡ row = cc in sym same), grind (arith, nat_tests, one)) }
    go false one true two is = record { of_edge = inr ((let same : 2 * edge + 1 ≡ row = cc in sym same), grind (arith, nat_tests, two)) }
    go false one false two is = absurd (cc)

same_edge : (edges : List Edge) (i j : ℕ) (e f : Edge) → i ≡ j → slice_get edges i ≡ Some e → slice_get edges j ≡ Some f → e ≡ f
same_edge edges i j e f same one two = let both : Some e ≡ Some f = sym one ∙ ap (slice_get edges) same ∙ two in cc

-- a row is that of one end alone
one_end : (edges : List Edge) (a x b y row : ℕ) → row_in edges a x ≡ Some row → row_in edges b y ≡ Some row → x ≡ y
one_end edges a x b y row one two =
    let p = end_of edges a x row one in
    let q = end_of edges b y row two in
    elim (row_says a p.e x row p.is).of_edge [
      | inl s ↦ elim (row_says b q.e y row q.is).of_edge [
        | inl t ↦ sym s.1 ∙ ap (λ (e : Edge). e.low.0) (same_edge edges a b p.e q.e (omega (arith, s.0, t.0)) p.there q.there) ∙ t.1
        | inr t ↦ absurd (omega (arith, s.0, t.0))
      ]
      | inr s ↦ elim (row_says b q.e y row q.is).of_edge [
        | inl t ↦ absurd (omega (arith, s.0, t.0))
        | inr t ↦ sym s.1 ∙ ap (λ (e : Edge). e.high.0) (same_edge edges a b p.e q.e (omega (arith, s.0, t.0)) p.there q.there) ∙ t.1
      ]
    ]

-- the number that an own row holds is at most this
own_seq : (k : Sizes) (index row edge : ℕ) (o : Kept) → row_in k.edges edge k.me.0 ≡ Some row → UpdateHolds k index row o
    → seq_of (Some o) ≤ MAX_OWN_HEARD + index
own_seq k index row edge o mine h = go o.body h.place h.own
  where
    go : (body : Body) → row_for k.edges body ≡ Some row → OwnUpTo k.me (MAX_OWN_HEARD + index) body → seq_said body ≤ MAX_OWN_HEARD + index
    go (bodies.Weight u) place own =
        let same : u.origin.0 ≡ k.me.0 = one_end k.edges u.edge.0 u.origin.0 edge k.me.0 row place mine in
        own (grind (arith, nat_tests, same))
    go (bodies.Prio p) place own = absurd (cc)
    go (bodies.Rel r) place own = absurd (cc)
    go (bodies.Ack a) place own = absurd (cc)
    go (bodies.Krel a) place own = absurd (cc)
    go (bodies.Kack a) place own = absurd (cc)
    go (bodies.Epoch a) place own = absurd (cc)

pub own_next_seq : (k : Sizes) (index edge : ℕ) (w : WeightState) → WeightsHold k index w
    → (1 ≤ next_seq w edge k.me.0) × (next_seq w edge k.me.0 ≤ MAX_OWN_HEARD + index + 1)
own_next_seq k index edge w h = go (row_in w.edges edge k.me.0) refl
  where
    at : (row : ℕ) → row_in w.edges edge k.me.0 ≡ Some row → (o : Option Kept) → held_in w.rows row ≡ o
        → (1 ≤ seq_of o + 1) × (seq_of o + 1 ≤ MAX_OWN_HEARD + index + 1)
    at row mine None there = (omega arith, omega arith)
    at row mine (Some o) there =
        let holds = subst (λ (x : Option Kept). IfSome x (UpdateHolds k index row)) there (h.rows row) in
        let most = own_seq k index row edge o (ap (λ (es : List Edge). row_in es edge k.me.0) (sym h.edges) ∙ mine) holds in
        (omega arith, omega (arith, most))

    go : (o : Option ℕ) → row_in w.edges edge k.me.0 ≡ o
        → (1 ≤ seq_of (option_and_then (held_in w.rows) o) + 1) × (seq_of (option_and_then (held_in w.rows) o) + 1 ≤ MAX_OWN_HEARD + index + 1)
    go None mine = (omega arith, omega arith)
    go (Some row) mine = at row mine (held_in w.rows row) refl

read_get : {X : Type 0} (xs : List X) (i : ℕ) (d : X) → i < length xs → slice_get xs i ≡ Some (get_or xs i d)
read_get [] i d within = absurd (omega (arith, within))
read_get (x ∷ xs) zero d within = refl
read_get (x ∷ xs) (suc i) d within = read_get xs i d (omega (arith, within))

-- what stands at a position passes
pub find_place : {X : Type 0} (test : X → Bool) (xs : List X) (i : ℕ) → position test xs ≡ Some i → (x : X) × (slice_get xs i ≡ Some x) × (test x ≡ true)
find_place test [] i at = absurd (cc)
find_place test (x ∷ xs) i at =
    let first = is_first test (x ∷ xs) i x at in
    (get_or (x ∷ xs) i x, read_get (x ∷ xs) i x first.within, first.passes)

-- the edge to a neighbour has a row for this end
pub own_row : (edges : List Edge) (edge me v : ℕ) → position (joins me v) edges ≡ Some edge → (row : ℕ) × (row_in edges edge me ≡ Some row)
own_row edges edge me v at =
    let found = find_place (joins me v) edges edge at in
    let e = found.0 in
    let both : joins me v e ≡ true = found.2 in
    ends e both (e.low.0 == me) refl (e.high.0 == me) refl found.1
  where
    ends : (e : Edge) → joins me v e ≡ true → (a : Bool) → (e.low.0 == me) ≡ a → (b : Bool) → (e.high.0 == me) ≡ b → slice_get edges edge ≡ Some e
        → (row : ℕ) × (row_in edges edge me ≡ Some row)
    ends e both true one b two there = (2 * edge, rw (there, one) refl)
    ends e both false one true two there = (2 * edge + 1, rw (there, one, two) refl)
    ends e both false one false two there = absurd (grind (arith, nat_tests, both, one, two))

-- the place that `position` tells is within the list
pub place_within : {X : Type 0} (test : X → Bool) (xs : List X) (i : ℕ) → position test xs ≡ Some i → i < length xs
place_within test [] i at = absurd (cc)
place_within test (x ∷ xs) i at = (is_first test (x ∷ xs) i x at).within
