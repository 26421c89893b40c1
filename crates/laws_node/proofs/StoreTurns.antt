-- Where a store has an entry, one is next in turn.
use Rattle.std.proofs.Common.{◌≡◌, ◌<◌, ◌≤◌, ℕ, ◌+◌, Bool, true, false, List, [], ◌∷◌, length, map, drop, get_or, Option, Some, None, refl, sym, ap, subst, ◌∙◌}
use Rattle.std.proofs.Common.{arith, length-drop}
use Rattle.std.specs.Prelude.{◌==◌, All, filter, position}
use Rattle.std.specs.List.{list_any, position_or_len}
use Rattle.std.specs.Option.{option_and_then, option_map}
use Rattle.std.proofs.lemmas.Bool.Decides.{nat_tests}
use Rattle.std.proofs.lemmas.List.{get_or-drop}
use Rattle.std.proofs.lemmas.List.Elements.{All-head}
use Rattle.std.proofs.lemmas.List.FromFn.{get_or-map-range_with_len, length-map-range_with_len}
use Rattle.std.proofs.lemmas.List.Quantifiers.{position-Some}
use Rattle.std.proofs.lemmas.List.Sums.{fails_before_first}
use Rattle.std.proofs.lemmas.Grind.{common_steps}
use Rattle.sp_base.specs.Cursor.{first_active_from, next_after, or_else}
use Rattle.sp_rules.specs.Choices.{first_by}
use Rattle.sp_rules.specs.Store.{Store, has_entries, highest, ids, is_of, next_entry, next_source, source}
use Rattle.sp_rules.specs.declared.store.Entry.{Entry}
use Rattle.sp_rules.specs.declared.store.TheConstants.{IDS}
use Rattle.laws_node.specs.PriorityLaws.{AnEntryIsNext}

-- ---- a cycle with an active place gives an active place

record IsOn (active : List Bool) (place : ℕ) : Type 0 where
  pub within : place < length active
  pub on : get_or active place false ≡ true

first_is_on : (from place : ℕ) (active : List Bool) → first_active_from from active ≡ Some place → IsOn active place
first_is_on from place active e = go (position (λ on. on) (drop from active)) refl e
  where
    go : (o : Option ℕ) → position (λ on. on) (drop from active) ≡ o → option_map (λ k. from + k) o ≡ Some place → IsOn active place
    go None found e = absurd (cc)
    go (Some k) found e =
        let at : from + k ≡ place = cc in
        let facts = position-Some (λ on. on) (drop from active) k false found in
        subst (IsOn active) at (record {
          within = omega (arith, facts.0, length-drop from active);
          on = sym (get_or-drop from active k false) ∙ facts.1;
        })

either_is_on : (first second : Option ℕ) (place : ℕ) (active : List Bool) → (first ≡ Some place → IsOn active place) → (second ≡ Some place
    → IsOn active place) → or_else first second ≡ Some place → IsOn active place
either_is_on None second place active one two e = two e
either_is_on (Some x) second place active one two e = one e

next_is_on : (last : Option ℕ) (place : ℕ) (active : List Bool) → next_after last active ≡ Some place → IsOn active place
next_is_on None place active e = first_is_on 0 place active e
next_is_on (Some last) place active e =
    either_is_on (first_active_from (last + 1) active) (first_active_from 0 active) place active (first_is_on (last + 1) place active)
    (first_is_on 0 place active) e

-- a list of flags without a position has none that is set
all_off : (active : List Bool) (place : ℕ) → place < length active → position (λ on. on) active ≡ None → get_or active place false ≡ false
all_off active place within none =
    let past : length active ≤ position_or_len (λ on. on) active = grind (arith, common_steps) in
    fails_before_first (λ on. on) active place false (omega arith)

none_from_start : (active : List Bool) (place : ℕ) → IsOn active place → first_active_from 0 active ≡ None → ⊥
none_from_start active place here e = go (position (λ on. on) active) refl e
  where
    go : (o : Option ℕ) → position (λ on. on) active ≡ o → option_map (λ k. 0 + k) o ≡ None → ⊥
    go None found e =
        let off : get_or active place false ≡ false = all_off active place here.within found in
        let wrong : false ≡ true = sym off ∙ here.on in
        cc
    go (Some k) found e = absurd (cc)

second_is_none : (first second : Option ℕ) → or_else first second ≡ None → second ≡ None
second_is_none None second e = e
second_is_none (Some x) second e = absurd (cc)

none_next : (last : Option ℕ) (active : List Bool) (place : ℕ) → IsOn active place → next_after last active ≡ None → ⊥
none_next None active place here e = none_from_start active place here e
none_next (Some last) active place here e =
    none_from_start active place here (second_is_none (first_active_from (last + 1) active) (first_active_from 0 active) e)

-- ---- sources

all_flags : (es : List Entry) (id : ℕ) → id < IDS → (length (map (has_entries es) ids) ≡ IDS) × (get_or (map (has_entries es) ids) id false ≡ has_entries es id)
unfolding ids
all_flags es id small = (length-map-range_with_len (has_entries es) 0 IDS, get_or-map-range_with_len (has_entries es) 0 IDS id id false small (omega arith))

its_source : (e : Entry) (es : List Entry) → has_entries (e ∷ es) (source e) ≡ true
its_source e es = let same : (source e == source e) ≡ true = grind (arith, nat_tests) in rw same refl

-- ---- an entry of a source that has one

chosen : (R : Entry → Entry → Bool) (p : Entry → Bool) (es : List Entry) → list_any p es ≡ true → first_by R (filter p es) ≡ None → ⊥
chosen R p [] any none = let wrong : false ≡ true = any in cc
chosen R p (e ∷ es) any none = go (p e) refl (chosen R p es)
  where
    go : (t : Bool) → p e ≡ t → (list_any p es ≡ true → first_by R (filter p es) ≡ None → ⊥) → ⊥
    go true is rest = let wrong = rw is at none in cc
    go false is rest = rest (rw is at any) (rw is at none)

-- ---- the law

none_is_next : (s : Store) (last : Option ℕ) (e : Entry) (es : List Entry) → s.entries ≡ e ∷ es → source e < IDS → next_entry s last ≡ None → ⊥
none_is_next s last e es is small none = go (next_source s.entries last) refl none
  where
    flag : has_entries s.entries (source e) ≡ true
    flag = ap (λ (xs : List Entry). has_entries xs (source e)) is ∙ its_source e es

    here : IsOn (map (has_entries s.entries) ids) (source e)
    here = let facts = all_flags s.entries (source e) small in record { within = omega (arith, facts.0); on = facts.1 ∙ flag }

    go : (o : Option ℕ) → next_source s.entries last ≡ o → option_and_then (highest s.entries) o ≡ None → ⊥
    go None turn none = none_next last (map (has_entries s.entries) ids) (source e) here turn
    go (Some id) turn none =
        let on = next_is_on last id (map (has_entries s.entries) ids) turn in
        let small_id : id < IDS = omega (arith, on.within, (all_flags s.entries (source e) small).0) in
        let any : has_entries s.entries id ≡ true = sym (all_flags s.entries id small_id).1 ∙ on.on in
        chosen _ (is_of id) s.entries any none

none_in_none : (o : Option ℕ) (s : Store) → s.entries ≡ [] → option_and_then (highest s.entries) o ≡ None
none_in_none None s empty = refl
none_in_none (Some id) s empty = rw empty refl

pub an_entry_is_next : AnEntryIsNext
an_entry_is_next s last small = (
  λ none. go s.entries refl none,
  λ empty. none_in_none (next_source s.entries last) s empty,
)
  where
    go : (es : List Entry) → s.entries ≡ es → next_entry s last ≡ None → s.entries ≡ []
    go [] is none = is
    go (e ∷ es) is none =
        let P : List Entry → Type 0 = λ xs. All (λ x. source x < IDS) xs in
        absurd (none_is_next s last e es is (All-head (λ x. source x < IDS) e es (subst P is small)) none)
