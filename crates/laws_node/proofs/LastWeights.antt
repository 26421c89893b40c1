-- What a row says is what the last update of its end said.
use Rattle.std.proofs.Common.{◌≡◌, ◌<◌, ℕ, ◌*◌, true, false, Bool, List, [], ◌∷◌, ◌++◌, length, set, Option, Some, None, refl, sym, ap, subst, ◌∙◌, arith, cond}
use Rattle.std.specs.Prelude.{◌==◌, ◌&&◌, option_and_then}
use Rattle.std.specs.List.{slice_get}
use Rattle.std.proofs.lemmas.Bool.Decides.{nat_tests}
use Rattle.std.proofs.lemmas.List.{length-set}
use Rattle.std.proofs.lemmas.Option.{slice_get_within}
use Rattle.sp_msg.specs.declared.body.Body.{Body}
use Rattle.sp_msg.specs.declared.body.Body.TheVariants as bodies
use Rattle.sp_msg.specs.declared.body.WeightBody.{WeightBody}
use Rattle.sp_msg.specs.declared.kept.Kept.{Kept}
use Rattle.sp_topology.specs.declared.topology.Edge.{Edge}
use Rattle.sp_rules.specs.declared.weights.Offer.{Offer}
use Rattle.sp_rules.specs.declared.weights.Offer.TheVariants as offers
use Rattle.sp_rules.specs.Handle.{offer_of}
use Rattle.sp_rules.specs.Weights.{WeightState, held, held_in, row_for, row_of, rows_with, weight_of, weight_said}
use Rattle.laws_node.specs.HeldUpdates.{after, after_one, held_if, is_of, last_weight, taken, taken_if}
use Rattle.laws_node.proofs.UpdateRows.{IsRow, get_set_same, get_set_other, row_is, row_within, same_edge, same_end}

-- what a row says
abbrev pub said : WeightState → ℕ → ℕ
said s row = weight_of (held_in s.rows row)

-- a new message is an update of an end of an edge, and has its row
pub record IsUpdateAt (s : WeightState) (b : Body) : Type 0 where
  pub update : WeightBody
  pub is : b ≡ bodies.Weight update
  pub edge : Edge
  pub there : slice_get s.edges update.edge.0 ≡ Some edge
  pub row : ℕ
  pub placed : row_of update.edge.0 edge update.origin.0 ≡ Some row

-- an update that is offered as new is one of its row
pub new_at : (s : WeightState) (b : Body) → offer_of s b ≡ offers.New → IsUpdateAt s b
new_at s (bodies.Prio p) new = absurd cc
new_at s (bodies.Rel r) new = absurd cc
new_at s (bodies.Ack a) new = absurd cc
new_at s (bodies.Krel a) new = absurd cc
new_at s (bodies.Kack a) new = absurd cc
new_at s (bodies.Epoch a) new = absurd cc
new_at s (bodies.Weight u) new = edges (slice_get s.edges u.edge.0) refl
  where
    rows : (e : Edge) (row : Option ℕ) → row_of u.edge.0 e u.origin.0 ≡ row → slice_get s.edges u.edge.0 ≡ Some e → IsUpdateAt s (bodies.Weight u)
    rows e None is there = absurd (let answer : offers.Foreign ≡ offers.New = rw (there, is) at new in cc)
    rows e (Some row) is there = record { update = u; is = refl; edge = e; there = there; row = row; placed = is }

    edges : (found : Option Edge) → slice_get s.edges u.edge.0 ≡ found → IsUpdateAt s (bodies.Weight u)
    edges None is = absurd (let answer : offers.Foreign ≡ offers.New = rw is at new in cc)
    edges (Some e) is = rows e (row_of u.edge.0 e u.origin.0) refl is

both : (a b c d : ℕ) → ((a == b) && (c == d)) ≡ true → (a ≡ b) × (c ≡ d)
both a b c d e = (grind (arith, nat_tests), grind (arith, nat_tests))

both_back : (a b c d : ℕ) → a ≡ b → c ≡ d → ((a == b) && (c == d)) ≡ true
both_back a b c d p q = grind (arith, nat_tests)

-- each end of each edge has its row
pub record HasRows (s : WeightState) : Type 0 where
  pub rows : length s.rows ≡ 2 * length s.edges

-- a place of an edge, and one of its ends with its row
pub record At (s : WeightState) (edge end row : ℕ) : Type 0 where
  pub joined : Edge
  pub there : slice_get s.edges edge ≡ Some joined
  pub placed : row_of edge joined end ≡ Some row

-- a row after an update that is held
pub held_said : (s : WeightState) (kept : Kept) (edge end row : ℕ) → HasRows s → At s edge end row → (at : IsUpdateAt s kept.body) →
    said (held s kept) row ≡ last_weight edge end (said s row) (kept ∷ [])
held_said s kept edge end row whole here at = go (is_of edge end kept.body) refl
  where
    sees : is_of edge end kept.body ≡ ((at.update.edge.0 == edge) && (at.update.origin.0 == end))
    sees = ap (is_of edge end) at.is

    row_is_for : row_for s.edges kept.body ≡ Some at.row
    row_is_for = ap (row_for s.edges) at.is ∙ ap (option_and_then (λ (f : Edge). row_of at.update.edge.0 f at.update.origin.0)) at.there ∙ at.placed

    written : said (held s kept) row ≡ weight_of (held_in (set s.rows at.row (Some kept)) row)
    written = ap (λ (r : Option ℕ). weight_of (held_in (rows_with r s.rows kept) row)) row_is_for

    mine : IsRow edge here.joined end row
    mine = row_is edge here.joined end row here.placed

    theirs : IsRow at.update.edge.0 at.edge at.update.origin.0 at.row
    theirs = row_is at.update.edge.0 at.edge at.update.origin.0 at.row at.placed

    inside : at.row < length s.rows
    inside = omega (
      arith,
      whole.rows,
      row_within (length s.edges) at.update.edge.0 at.edge at.update.origin.0 at.row (slice_get_within s.edges at.update.edge.0 at.edge at.there) theirs,
    )

    go : (t : Bool) → is_of edge end kept.body ≡ t → said (held s kept) row ≡ last_weight edge end (said s row) (kept ∷ [])
    go true is =
        let equal = both at.update.edge.0 edge at.update.origin.0 end (sym sees ∙ is) in
        let joined : Some here.joined ≡ Some at.edge = sym here.there ∙ ap (slice_get s.edges) (sym equal.0) ∙ at.there in
        let one : here.joined ≡ at.edge = cc in
        let rows : Some row ≡ Some at.row =
        sym here.placed ∙ ap (λ (n : ℕ). row_of n here.joined end) (sym equal.0) ∙ ap (λ (n : ℕ). row_of at.update.edge.0 here.joined n) (sym equal.1)
        ∙ ap (λ (f : Edge). row_of at.update.edge.0 f at.update.origin.0) one ∙ at.placed in
        let same : row ≡ at.row = cc in
        written ∙ ap (λ (r : ℕ). weight_of (held_in (set s.rows at.row (Some kept)) r)) same
        ∙ ap (λ (found : Option (Option Kept)). weight_of (option_and_then (λ held. held) found)) (get_set_same s.rows at.row (Some kept) inside)
        ∙ rw is refl
    go false is =
        let apart : row ≡ at.row → ⊥ = λ same.
        let mine_there : IsRow edge here.joined end at.row = subst (λ (r : ℕ). IsRow edge here.joined end r) same mine in
        let edges : edge ≡ at.update.edge.0 = same_edge edge at.update.edge.0 here.joined at.edge end at.update.origin.0 at.row mine_there theirs in
        let joined : Some here.joined ≡ Some at.edge = sym here.there ∙ ap (slice_get s.edges) edges ∙ at.there in
        let one : here.joined ≡ at.edge = cc in
        let theirs_here : IsRow edge here.joined at.update.origin.0 at.row =
        subst (λ (n : ℕ). IsRow n here.joined at.update.origin.0 at.row) (sym edges)
        (subst (λ (f : Edge). IsRow at.update.edge.0 f at.update.origin.0 at.row) (sym one) theirs) in
        let ends : end ≡ at.update.origin.0 = same_end edge here.joined end at.update.origin.0 at.row mine_there theirs_here in
        let yes : is_of edge end kept.body ≡ true = sees ∙ both_back at.update.edge.0 edge at.update.origin.0 end (sym edges) (sym ends) in
        let no : true ≡ false = sym yes ∙ is in cc in
        written ∙ ap (λ (found : Option (Option Kept)). weight_of (option_and_then (λ held. held) found)) (get_set_other s.rows at.row row (Some kept) apart)
        ∙ rw is refl

-- a row after a message
one_said : (s : WeightState) (kept : Kept) (edge end row : ℕ) → HasRows s → At s edge end row
    → said (after_one s kept) row ≡ last_weight edge end (said s row) (taken_if (offer_of s kept.body) kept)
one_said s kept edge end row whole here = go (offer_of s kept.body) refl
  where
    go : (o : Offer) → offer_of s kept.body ≡ o → said (held_if o s kept) row ≡ last_weight edge end (said s row) (taken_if o kept)
    go offers.Foreign is = refl
    go (offers.Low least) is = refl
    go (offers.Old number) is = refl
    go offers.New is = held_said s kept edge end row whole here (new_at s kept.body is)

edges_stay : (s : WeightState) (kept : Kept) (o : Offer) → (held_if o s kept).edges ≡ s.edges
edges_stay s kept offers.Foreign = refl
edges_stay s kept (offers.Low least) = refl
edges_stay s kept (offers.Old number) = refl
edges_stay s kept offers.New = refl

-- there are as many rows as before
pub length_stays : (rows : List (Option Kept)) (kept : Kept) (row : Option ℕ) → length (rows_with row rows kept) ≡ length rows
length_stays rows kept None = refl
length_stays rows kept (Some row) = length-set rows row (Some kept)

rows_stay : (s : WeightState) (kept : Kept) (o : Offer) → length (held_if o s kept).rows ≡ length s.rows
rows_stay s kept offers.Foreign = refl
rows_stay s kept (offers.Low least) = refl
rows_stay s kept (offers.Old number) = refl
rows_stay s kept offers.New = length_stays s.rows kept (row_for s.edges kept.body)

whole_after : (s : WeightState) (kept : Kept) → HasRows s → HasRows (after_one s kept)
whole_after s kept whole =
    let o = offer_of s kept.body in
    record { rows = rows_stay s kept o ∙ whole.rows ∙ ap (λ (es : List Edge). 2 * length es) (sym (edges_stay s kept o)) }

at_after : (s : WeightState) (kept : Kept) (edge end row : ℕ) → At s edge end row → At (after_one s kept) edge end row
at_after s kept edge end row here = record {
  joined = here.joined;
  there = ap (λ (es : List Edge). slice_get es edge) (edges_stay s kept (offer_of s kept.body)) ∙ here.there;
  placed = here.placed;
}

-- of two lists, the second goes on from the first
last_of_both : (edge end weight : ℕ) (first second : List Kept)
    → last_weight edge end weight (first ++ second) ≡ last_weight edge end (last_weight edge end weight first) second
last_of_both edge end weight [] second = refl
last_of_both edge end weight (kept ∷ first) second = last_of_both edge end (cond (is_of edge end kept.body) (weight_said kept.body) weight) first second

-- a row after many messages
pub many_said : (s : WeightState) (messages : List Kept) (edge end row : ℕ) → HasRows s → At s edge end row
    → said (after s messages) row ≡ last_weight edge end (said s row) (taken s messages)
many_said s [] edge end row whole here = refl
many_said s (kept ∷ messages) edge end row whole here =
    many_said (after_one s kept) messages edge end row (whole_after s kept whole) (at_after s kept edge end row here)
    ∙ ap (λ (weight : ℕ). last_weight edge end weight (taken (after_one s kept) messages)) (one_said s kept edge end row whole here)
    ∙ sym (last_of_both edge end (said s row) (taken_if (offer_of s kept.body) kept) (taken (after_one s kept) messages))

pub edges_after : (s : WeightState) (messages : List Kept) → (after s messages).edges ≡ s.edges
edges_after s [] = refl
edges_after s (kept ∷ messages) = edges_after (after_one s kept) messages ∙ edges_stay s kept (offer_of s kept.body)
