-- What is published: its versions and their weights over one more event, and what the administrator hands out.
use Rattle.std.proofs.Common.{◌≡◌, ◌<◌, ◌≤◌, ℕ, zero, suc, ◌+◌, ◌-◌, Bool, true, false, List, []}
use Rattle.std.proofs.Common.{◌∷◌, ◌++◌, length, Option, Some, None, refl, sym, ap, subst, ◌∙◌, inl, inr, arith}
use Rattle.std.specs.Prelude.{◌⊎◌, ◌&&◌, ◌||◌, ◌==◌, not, fold, is_some, nat_le, slice_get}
use Rattle.std.specs.List.{All, list_any}
use Rattle.std.proofs.lemmas.Bool.{cases_Bool, eqb-true, ne_eqb}
use Rattle.std.proofs.lemmas.Bool.Decides.{nat_tests}
use Rattle.std.proofs.lemmas.List.{length_push}
use Rattle.std.proofs.lemmas.List.Elements.{All-append, All-cons, All-head, All-nil, All-tail}
use Rattle.std.proofs.lemmas.Option.{slice_get_within}
use Rattle.sp_base.proofs.ListLemmas.{get_left, get_push}
use Rattle.sp_base.specs.declared.id.NodeId.{NodeId}
use Rattle.sp_rules.specs.Arts.{Arts}
use Rattle.sp_rules.specs.Topologies.{is_end, is_joined, is_removed, under, weights_in}
use Rattle.sp_topology.specs.declared.topology.Edge.{Edge}
use Rattle.laws_node.proofs.Tables.{all_get}
use Rattle.laws_node.proofs.Withdrawing.{under_own}
use Rattle.sp_runs.specs.Forgery.{is_frame, is_published, lists_in, with_published}
use Rattle.sp_runs.specs.Inputs.{handed_out, last_weights}
use Rattle.sp_runs.specs.Runs.{AreFields, AreWeights, MayPublish}
use Rattle.sp_runs.specs.Settings.{ReadsVersion, Setting, SettingFits, may_change}
use Rattle.sp_schedule_events.proofs.PublishedLemmas.{published_more}
use Rattle.sp_schedule_events.specs.Documents.{comes_back, has_back, list_in, none_comes_back, none_published, published, with_list}
use Rattle.sp_schedule_events.specs.declared.event.Event.{Event}
use Rattle.sp_schedule_events.specs.declared.event.Event.TheVariants as events
use Rattle.sp_schedule_events.specs.declared.published.Published.{Published}
use Rattle.laws_runs.specs.Versions.{IsPublished, ListsStand, NoneReturns}
use Rattle.laws_runs.proofs.Lists.{are_same, both, or_true, same_bytes}
use Rattle.laws_runs.proofs.PublishedLists.{lists_more, list_of, none_more, list_more}

-- ---- the last of them

abbrev last_list : Option (List ℕ) → List (List ℕ) → Option (List ℕ)
last_list was [] = was
last_list was (weights ∷ lists) = last_list (Some weights) lists

folded : (es : List Event) (was : Published)
    → fold (λ (p : Published) e. with_list p (list_in e)) was es
    ≡ record { version = was.version + length (lists_in es); weights = last_list was.weights (lists_in es) }
folded [] was = ap (λ v. record { version = v; weights = was.weights }) (let same : was.version ≡ was.version + 0 = omega arith in same)
folded (e ∷ es) was = go (list_in e) (folded es)
  where
    go : (o : Option (List ℕ))
        → ((p : Published) → fold (λ (p : Published) e. with_list p (list_in e)) p es
        ≡ record { version = p.version + length (lists_in es); weights = last_list p.weights (lists_in es) })
        → fold (λ (p : Published) e. with_list p (list_in e)) (with_list was o) es
        ≡ record { version = was.version + length (with_published o (lists_in es)); weights = last_list was.weights (with_published o (lists_in es)) }
    go None rest = rest was
    go (Some weights) rest =
        rest (record { version = was.version + 1; weights = Some weights })
        ∙ ap (λ v. record { version = v; weights = last_list (Some weights) (lists_in es) })
        (let same : was.version + 1 + length (lists_in es) ≡ was.version + suc (length (lists_in es)) = omega arith in same)

published_is : (es : List Event) → published es ≡ record { version = 1 + length (lists_in es); weights = last_list None (lists_in es) }
published_is es = folded es none_published

last_there : (was : Option (List ℕ)) (lists : List (List ℕ)) (weights : List ℕ) (k : ℕ) → k + 1 ≡ length lists → last_list was lists ≡ Some weights
    → slice_get lists k ≡ Some weights
last_there was [] weights k count last = absurd (omega (arith, count))
last_there was (one ∷ []) weights zero count last = last
last_there was (one ∷ []) weights (suc k) count last = absurd (omega (arith, count))
last_there was (one ∷ two ∷ lists) weights zero count last = absurd (omega (arith, count))
last_there was (one ∷ two ∷ lists) weights (suc k) count last = last_there (Some one) (two ∷ lists) weights k (omega (arith, count)) last

-- there is no list, or there is a last one
last_or_none : (lists : List (List ℕ)) → (length lists ≡ 0) ⊎ ((weights : List ℕ) × (last_list None lists ≡ Some weights))
last_or_none [] = inl refl
last_or_none (one ∷ lists) = inr (some one lists)
  where
    some : (one : List ℕ) (lists : List (List ℕ)) → (weights : List ℕ) × (last_list (Some one) lists ≡ Some weights)
    some one [] = (one, refl)
    some one (two ∷ lists) = some two lists

-- ---- what was handed out has a place among the lists

pub record IsPlaced (es : List Event) (version : ℕ) (weights : List ℕ) : Type 0 where
  pub place : ℕ
  pub version_is : version ≡ place + 2
  pub there : slice_get (lists_in es) place ≡ Some weights

frame_is : (bytes : List ℕ) (o : Option (List ℕ)) → is_frame bytes o ≡ true → o ≡ Some bytes
frame_is bytes None e = absurd (let wrong : false ≡ true = e in cc)
frame_is bytes (Some frame) e = ap Some (are_same frame bytes e)

-- what is published has its place among the events
pub placed : (es : List Event) (version : ℕ) (weights : List ℕ) → is_published es version weights ≡ true → IsPlaced es version weights
placed es version weights e =
    let parts = both (nat_le 2 version) (is_frame weights (slice_get (lists_in es) (version - 2))) e in
    let least : 2 ≤ version = let t = parts.0 in grind (arith, nat_tests, t) in
    record { place = version - 2; version_is = omega (arith, least); there = frame_is weights (slice_get (lists_in es) (version - 2)) parts.1 }

pub is_placed : (es : List Event) (version : ℕ) (weights : List ℕ) → IsPlaced es version weights → is_published es version weights ≡ true
is_placed es version weights p =
    let is = p.version_is in
    let least : nat_le 2 version ≡ true = grind (arith, nat_tests, is) in
    let same : version - 2 ≡ p.place = omega (arith, is) in
    let at : slice_get (lists_in es) (version - 2) ≡ Some weights = ap (slice_get (lists_in es)) same ∙ p.there in
    rw (least, at) (same_bytes weights)

-- and keeps it
pub still_placed : (es more : List Event) (version : ℕ) (weights : List ℕ) → is_published es version weights ≡ true
    → is_published (es ++ more) version weights ≡ true
still_placed es more version weights e =
    let p = placed es version weights e in
    is_placed (es ++ more) version weights (record {
      place = p.place;
      version_is = p.version_is;
      there = ap (λ (lists : List (List ℕ)). slice_get lists p.place) (lists_more es more) ∙ get_left (lists_in es) (lists_in more) p.place weights p.there;
    })

-- what is published stays so
pub still_published : (x : Setting) (es more : List Event) (version : ℕ) (weights : List ℕ) → IsPublished x es version weights
    → IsPublished x (es ++ more) version weights
still_published x es more version weights (inl first) = inl first
still_published x es more version weights (inr one) = inr (still_placed es more version weights one)

-- its version is 1 at least
pub has_version : (arts : Arts) (x : Setting) (es : List Event) (version : ℕ) (weights : List ℕ) → SettingFits arts x → IsPublished x es version weights
    → 1 ≤ version
has_version arts x es version weights fits (inl first) = let is = first.0 in let one = fits.first in omega (arith, is, one)
has_version arts x es version weights fits (inr one) = let is = (placed es version weights one).version_is in omega (arith, is)

-- ---- no node comes back

not_false : (t : Bool) → not t ≡ true → t ≡ false
not_false false e = refl
not_false true e = absurd (let wrong : false ≡ true = e in cc)

pub return_twice : (x : Setting) (a b c : List ℕ) → NoneReturns x a b → NoneReturns x b c → NoneReturns x a c
return_twice x a b c one two u =
    go (is_removed (under x.topology.edges a) u) (is_removed (under x.topology.edges b) u) (is_removed (under x.topology.edges c) u) (one u) (two u)
  where
    go : (p q r : Bool) → (p && not q) ≡ false → (q && not r) ≡ false → (p && not r) ≡ false
    go false q r one two = refl
    go true true r one two = two
    go true false r one two = absurd (let wrong : true ≡ false = one in cc)

-- a removed node has an edge, whatever its weight
has_edge : (u : ℕ) (edges : List Edge) (weights : List ℕ) → list_any (is_end u) (under edges weights) ≡ true → list_any (is_end u) edges ≡ true
has_edge u [] weights e = absurd (let wrong : false ≡ true = e in cc)
has_edge u (f ∷ edges) [] e = absurd (let wrong : false ≡ true = e in cc)
has_edge u (f ∷ edges) (w ∷ weights) e = go (is_end u f) e (has_edge u edges weights)
  where
    go : (t : Bool) → (t || list_any (is_end u) (under edges weights)) ≡ true
        → (list_any (is_end u) (under edges weights) ≡ true → list_any (is_end u) edges ≡ true) → (t || list_any (is_end u) edges) ≡ true
    go true e rest = refl
    go false e rest = rest e

-- so where a node comes back an edge has one that does
edge_back : (old new : List Edge) (u : ℕ) → comes_back old new u ≡ true → (edges : List Edge) → list_any (is_end u) edges ≡ true
    → list_any (has_back old new) edges ≡ true
edge_back old new u back [] e = absurd (let wrong : false ≡ true = e in cc)
edge_back old new u back (f ∷ edges) e = go (f.low.0 == u) refl (f.high.0 == u) refl e (edge_back old new u back edges)
  where
    rest_true : (t : Bool) → (true || t) ≡ true
    rest_true t = refl

    go : (a : Bool) → (f.low.0 == u) ≡ a → (b : Bool) → (f.high.0 == u) ≡ b → ((a || b) || list_any (is_end u) edges) ≡ true
        → (list_any (is_end u) edges ≡ true → list_any (has_back old new) edges ≡ true) → (has_back old new f || list_any (has_back old new) edges) ≡ true
    go true low b high e rest =
        let here : comes_back old new f.low.0 ≡ true = ap (comes_back old new) (eqb-true f.low.0 u low) ∙ back in
        rw here refl
    go false low true high e rest =
        let here : comes_back old new f.high.0 ≡ true = ap (comes_back old new) (eqb-true f.high.0 u high) ∙ back in
        rw (here, or_true (comes_back old new f.low.0)) refl
    go false low false high e rest = let all = rest e in rw (all, or_true (has_back old new f)) refl

pub none_back : (x : Setting) (old new : List ℕ) → none_comes_back x.topology.edges (Some old) new ≡ true → NoneReturns x old new
none_back x old new none u = elim (cases_Bool (comes_back A B u)) [
  | inl back ↦
      let removed = (both (is_removed A u) (not (is_removed B u)) back).0 in
      let some = (both (list_any (is_end u) A) (not (list_any (is_joined u) A)) removed).0 in
      let wrong = edge_back A B u back x.topology.edges (has_edge u x.topology.edges old some) in
      absurd (let off : list_any (has_back A B) x.topology.edges ≡ false = not_false (list_any (has_back A B) x.topology.edges) none in cc)
  | inr none ↦ none
]
  where
    A : List Edge
    A = under x.topology.edges old

    B : List Edge
    B = under x.topology.edges new

-- no node is removed where no edge is withdrawn
abbrev pub IsOpen : Edge → Type 0
IsOpen e = 1 ≤ e.weight

pub joined_same : (u : ℕ) (e : Edge) → IsOpen e → is_joined u e ≡ is_end u e
joined_same u e here = let t : (e.weight == 0) ≡ false = ne_eqb _ _ (λ z. omega (arith, z, here)) in rw t (and_true (is_end u e))
  where
    and_true : (b : Bool) → (b && true) ≡ b
    and_true true = refl
    and_true false = refl

-- where all edges are open no node is removed
pub none_removed : (u : ℕ) (edges : List Edge) → All IsOpen edges → is_removed edges u ≡ false
none_removed u edges here = ap (λ (t : Bool). list_any (is_end u) edges && not t) (same edges here) ∙ both_never (list_any (is_end u) edges)
  where
    same : (es : List Edge) → All IsOpen es → list_any (is_joined u) es ≡ list_any (is_end u) es
    same [] here = refl
    same (e ∷ es) here =
        ap (λ (t : Bool). t || list_any (is_joined u) es) (joined_same u e (All-head IsOpen e es here))
        ∙ ap (λ (t : Bool). is_end u e || t) (same es (All-tail IsOpen e es here))

    both_never : (t : Bool) → (t && not t) ≡ false
    both_never true = refl
    both_never false = refl

pub first_returns : (x : Setting) → All IsOpen x.topology.edges → (new : List ℕ) → NoneReturns x (weights_in x.topology.edges) new
first_returns x here new u =
    let none : is_removed (under x.topology.edges (weights_in x.topology.edges)) u ≡ false =
    ap (λ (es : List Edge). is_removed es u) (under_own x.topology.edges) ∙ none_removed u x.topology.edges here in
    rw none refl

-- ---- one event more

pub lists_begin : (arts : Arts) (x : Setting) → SettingFits arts x → ListsStand x []
lists_begin arts x fits = record {
  weights = All-nil (AreWeights x);
  few = let some = fits.some in omega (arith, some);
  may = λ some. absurd (omega (arith, some));
  chain = λ i k old new less first second. absurd (let wrong : None ≡ Some new = second in cc);
}

-- what the fields of an event say of its list
pub record PublishesIt (x : Setting) (es : List Event) (weights : List ℕ) : Type 0 where
  pub may : may_change x ≡ true
  pub fits : MayPublish x (published es) (Some weights)

publishes_it : (x : Setting) (es : List Event) (e : Event) (weights : List ℕ) → list_in e ≡ Some weights → AreFields x es e → PublishesIt x es weights
publishes_it x es (events.Publish u list) weights is range =
    record { may = range.1; fits = subst (λ (o : Option (List ℕ)). MayPublish x (published es) o) is range.2 }
publishes_it x es (events.Rel a b p) weights is range = absurd cc
publishes_it x es (events.Krel a b count p) weights is range = absurd cc
publishes_it x es (events.Prio a b c d f p) weights is range = absurd cc
publishes_it x es (events.Take a b) weights is range = absurd cc
publishes_it x es (events.KTake a b) weights is range = absurd cc
publishes_it x es (events.TakePrio a) weights is range = absurd cc
publishes_it x es (events.Tick a b) weights is range = absurd cc
publishes_it x es (events.Weight a b c) weights is range = absurd cc
publishes_it x es (events.Poll a b) weights is range = absurd cc
publishes_it x es (events.Pass a b c) weights is range = absurd cc
publishes_it x es (events.Flip a b c d f) weights is range = absurd cc
publishes_it x es (events.Inject a b c) weights is range = absurd cc
publishes_it x es (events.Craft a b c d) weights is range = absurd cc
publishes_it x es (events.CraftStatus a b c d f g) weights is range = absurd cc
publishes_it x es (events.CraftDocument a b c d f) weights is range = absurd cc
publishes_it x es (events.Start a) weights is range = absurd cc
publishes_it x es (events.Stop a) weights is range = absurd cc

pub lists_on : (x : Setting) (es : List Event) (e : Event) → AreFields x es e → ListsStand x (lists_in es) → ListsStand x (lists_in (es ++ e ∷ []))
lists_on x es e range h = elim (list_of e) [
  | inl none ↦ subst (ListsStand x) (sym (none_more es e none)) h
  | inr some ↦ subst (ListsStand x) (sym (list_more es e some.0 some.1)) (more some.0 (publishes_it x es e some.0 some.1 range))
]
  where
    lists : List (List ℕ)
    lists = lists_in es

    more : (weights : List ℕ) → PublishesIt x es weights → ListsStand x (lists ++ weights ∷ [])
    more weights p = record {
      weights = All-append (AreWeights x) lists (weights ∷ []) h.weights (All-cons (AreWeights x) weights [] p.fits.0 (All-nil (AreWeights x)));
      few =
          let below : (published es).version < x.admin_total = p.fits.1 in
          let count : (published es).version ≡ 1 + length lists = ap (λ (q : Published). q.version) (published_is es) in
          let one = length_push lists weights in
          omega (arith, below, count, one);
      may = λ some. p.may;
      chain = λ i k old new less first second. elim (get_push lists weights k new second) [
        | inl there ↦ h.chain i k old new less (before i k old new less first there) there
        | inr last ↦ subst (λ (ws : List ℕ). NoneReturns x old ws) (sym last.1)
            (let at = last.0 in follows i old (omega (arith, less, at)) (elim (get_push lists weights i old first) [
              | inl was ↦ was
              | inr same ↦ absurd (let place = same.0 in omega (arith, place, at, less))
            ]))
      ];
    }
      where
        before : (i k : ℕ) (old new : List ℕ) → i < k → slice_get (lists ++ weights ∷ []) i ≡ Some old → slice_get lists k ≡ Some new
            → slice_get lists i ≡ Some old
        before i k old new less first there = elim (get_push lists weights i old first) [
          | inl was ↦ was
          | inr same ↦ absurd (let place = same.0 in let within = slice_get_within lists k new there in omega (arith, place, within, less))
        ]

        follows : (i : ℕ) (old : List ℕ) → i < length lists → slice_get lists i ≡ Some old → NoneReturns x old weights
        follows i old within there = elim (last_or_none lists) [
          | inl none ↦ absurd (omega (arith, none, within))
          | inr last ↦
              let is : (published es).weights ≡ Some last.0 = ap (λ (q : Published). q.weights) (published_is es) ∙ last.1 in
              let next : NoneReturns x last.0 weights =
              none_back x last.0 weights (subst (λ (o : Option (List ℕ)). none_comes_back x.topology.edges o weights ≡ true) is p.fits.2) in
              let at : slice_get lists (length lists - 1) ≡ Some last.0 = last_there None lists last.0 (length lists - 1) (omega (arith, within)) last.1 in
              go last.0 next at
        ]
          where
            go : (last : List ℕ) → NoneReturns x last weights → slice_get lists (length lists - 1) ≡ Some last → NoneReturns x old weights
            go last next at = elim (cases_Bool (i == (length lists - 1))) [
              | inl here ↦
                  let place : i ≡ length lists - 1 = eqb-true i (length lists - 1) here in
                  let both_are : Some old ≡ Some last = sym there ∙ ap (slice_get lists) place ∙ at in
                  let same : last ≡ old = cc in
                  subst (λ (ws : List ℕ). NoneReturns x ws weights) same next
              | inr apart ↦
                  let less : i < length lists - 1 = grind (arith, nat_tests, apart, within) in
                  return_twice x old last weights (h.chain i (length lists - 1) old last less there at) next
            ]

-- ---- what the administrator hands out

pub record IsHandedOut (arts : Arts) (x : Setting) (es : List Event) (bytes : List ℕ) : Type 0 where
  pub version : ℕ
  pub weights : List ℕ
  pub bytes_are : bytes ≡ x.document version weights
  pub are : AreWeights x weights
  pub reads : ReadsVersion arts x version weights
  pub published : is_published es version weights ≡ true

pub hands_out : (arts : Arts) (x : Setting) (es : List Event) → SettingFits arts x → ListsStand x (lists_in es) → is_some (published es).weights ≡ true
    → IsHandedOut arts x es (handed_out x (published es))
hands_out arts x es fits h some = elim (last_or_none (lists_in es)) [
  | inl none ↦ absurd (none_there (lists_in es) none (ap (λ (q : Published). is_some q.weights) (sym (published_is es)) ∙ some))
  | inr last ↦ go last.0 (ap (λ (q : Published). q.weights) (published_is es) ∙ last.1) last.1
]
  where
    none_there : (lists : List (List ℕ)) → length lists ≡ 0 → is_some (last_list None lists) ≡ true → ⊥
    none_there [] none some = let wrong : false ≡ true = some in cc
    none_there (one ∷ lists) none some = omega (arith, none)

    count : (published es).version ≡ 1 + length (lists_in es)
    count = ap (λ (q : Published). q.version) (published_is es)

    some_list : (lists : List (List ℕ)) (weights : List ℕ) → last_list None lists ≡ Some weights → 1 ≤ length lists
    some_list [] weights last = absurd (let wrong : None ≡ Some weights = last in cc)
    some_list (one ∷ lists) weights last = omega arith

    go : (weights : List ℕ) → (published es).weights ≡ Some weights → last_list None (lists_in es) ≡ Some weights
        → IsHandedOut arts x es (handed_out x (published es))
    go weights is last =
        let least = some_list (lists_in es) weights last in
        let place = length (lists_in es) - 1 in
        let at : slice_get (lists_in es) place ≡ Some weights = last_there None (lists_in es) weights place (omega (arith, least)) last in
        let are : AreWeights x weights = all_get (AreWeights x) (lists_in es) place weights h.weights at in
        let few = h.few in
        record {
          version = (published es).version;
          weights = weights;
          bytes_are = ap (λ (o : Option (List ℕ)). x.document (published es).version
              (last_weights x (record { version = (published es).version; weights = o }))) is;
          are = are;
          reads = fits.documents (h.may least) (published es).version weights are.0 are.1 (omega (arith, count)) (omega (arith, count, few));
          published = is_placed es (published es).version weights (record { place = place; version_is = omega (arith, count, least); there = at });
        }

-- an event that publishes leaves a list
pub publishes : (x : Setting) (es : List Event) (u : NodeId) (weights : Option (List ℕ)) → AreFields x es (events.Publish u weights)
    → is_some (published (es ++ events.Publish u weights ∷ [])).weights ≡ true
publishes x es u weights range =
    subst (λ (p : Published). is_some p.weights ≡ true) (published_more es (published es) (events.Publish u weights) refl) (some weights range.2)
  where
    some : (list : Option (List ℕ)) → MayPublish x (published es) list → is_some (with_list (published es) list).weights ≡ true
    some None may = may
    some (Some list) may = refl

-- of two versions that were handed out or came first no node comes back by the later one
pub later_stays : (arts : Arts) (x : Setting) (es : List Event) (a b : ℕ) (old new : List ℕ) → SettingFits arts x → ListsStand x (lists_in es)
    → IsPublished x es a old → IsPublished x es b new → a < b → NoneReturns x old new
later_stays arts x es a b old new fits h (inl one) (inl two) less = let p = one.0 in let q = two.0 in absurd (omega (arith, p, q, less))
later_stays arts x es a b old new fits h (inl one) (inr two) less =
    subst (λ (ws : List ℕ). NoneReturns x ws new) (sym one.1) (first_returns x fits.all_open new)
later_stays arts x es a b old new fits h (inr one) (inl two) less =
    let p = (placed es a old one).version_is in let q = two.0 in let first = fits.first in absurd (omega (arith, p, q, first, less))
later_stays arts x es a b old new fits h (inr one) (inr two) less =
    let p = placed es a old one in
    let q = placed es b new two in
    let p_is = p.version_is in
    let q_is = q.version_is in
    h.chain p.place q.place old new (omega (arith, p_is, q_is, less)) p.there q.there
