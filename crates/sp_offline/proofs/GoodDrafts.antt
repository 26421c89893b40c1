-- A draft that was read has no fault, and its index is one that the administrator's key has.
use Rattle.std.proofs.Common.{◌≡◌, ℕ, ◌≤◌, ◌<◌, ◌-◌, ◌==◌, ℤ, pos, negsuc, Bool, true, false, inl, inr, if◌then◌else◌, List, Option, Some, None, Result, Ok}
use Rattle.std.proofs.Common.{Err, option_and_then, codes, refl, subst, arith}
use Rattle.std.proofs.lemmas.Bool.Decides.{nat_tests}
use Rattle.sp_base.specs.Formats.{IsFormat}
use Rattle.sp_base.specs.Refusals.{◌>>=◌}
use Rattle.sp_base.specs.declared.format.TheConstants.{FORMAT_1, FORMAT_2}
use Rattle.toml.specs.Data.{Data, string, integer, float, boolean, datetime, array, table, Members, get_member, as_integer}
use Rattle.sp_topology.specs.declared.topology.LmsHeight.{LmsHeight}
use Rattle.sp_topology.specs.declared.topology.LmsHeight.TheVariants.{Five, Ten}
use Rattle.sp_hss.specs.KeyTree as hss
use Rattle.sp_config.specs.declared.draft.Draft.{Draft}
use Rattle.sp_config.specs.declared.keys.Form.TheVariants as forms
use Rattle.sp_config.specs.declared.keys.Ranges.{Ranges}
use Rattle.sp_config.specs.declared.keys.Shape.TheVariants.{Index}
use Rattle.sp_config.specs.declared.refused.ConfigRefused.{ConfigRefused}
use Rattle.sp_config.specs.declared.refused.ConfigRefused.TheVariants as refusals
use Rattle.sp_config.specs.declared.walks.Wrong.TheVariants.{Range}
use Rattle.sp_config.specs.Good.{IsGood, IsGoodAt}
use Rattle.sp_config.specs.Keys.{draft_keys, must}
use Rattle.sp_config.specs.Readings.{draft_from, draft_in, draft_of, draft_ranges, fault_of, height_in, refused_by, refused_keys, table_of, total, unless}
use Rattle.sp_config.specs.Values.{is_within, number_at, number_of}
use Rattle.sp_config.proofs.GoodLemmas.{good}
use Rattle.sp_offline.specs.SignedKeys.{IsGoodDraft}
use Rattle.sp_sign.specs.Heights.{param_of}

-- a step that went well, and the next one
then_ok : {A B E : Type 0} (first : Result A E) (next : A → Result B E) (b : B) → (first >>= next) ≡ Ok b → (a : A) × (first ≡ Ok a) × (next a ≡ Ok b)
then_ok (Ok a) next b is = (a, refl, is)
then_ok (Err e) next b is = absurd cc

unless_ok : {F : Type 0} (refusal : F → ConfigRefused) (fault : Option F) → unless refusal fault ≡ Ok tt → fault ≡ None
unless_ok refusal None is = refl
unless_ok refusal (Some fault) is = absurd cc

within_bound : (bound : ℕ) (z : ℤ) → is_within 0 bound z ≡ true → number_of (Some z) ≤ bound
within_bound bound (pos n) is = grind (arith, nat_tests)
within_bound bound (negsuc n) is = omega arith

index_below : (ranges : Ranges) (name : List ℕ) (d : Option Data) → IsGoodAt ranges (must name Index) d
    → number_of (option_and_then as_integer d) ≤ ranges.index
index_below ranges name None is = omega arith
index_below ranges name (Some (integer z)) is = within_bound ranges.index z is
index_below ranges name (Some (string t)) is = omega arith
index_below ranges name (Some (float x)) is = omega arith
index_below ranges name (Some (boolean b)) is = omega arith
index_below ranges name (Some (datetime dt)) is = omega arith
index_below ranges name (Some (array ds)) is = omega arith
index_below ranges name (Some (table ms)) is = omega arith

good_index : (ranges : Ranges) (ms : Members) → IsGood draft_keys ranges ms → number_at (codes "admin_index") ms ≤ ranges.index
unfolding IsGood
good_index ranges ms is = index_below ranges (codes "admin_index") (get_member (codes "admin_index") ms) is.1.1.1.1.0

either_format : (b : Bool) → IsFormat (if b then FORMAT_2 else FORMAT_1)
either_format true = inr refl
either_format false = inl refl

below_total : (height : LmsHeight) (n : ℕ) → n ≤ total height - 1 → n < hss.total (param_of height)
below_total Five n is = omega arith
below_total Ten n is = omega arith

good_table : (ms : Members) (d : Draft) → draft_in ms ≡ Ok d → IsGoodDraft d
unfolding draft_in
good_table ms d is =
    let first = then_ok (refused_keys forms.Draft ms) _ d is in
    let second = then_ok (refused_by (Range (draft_ranges ms)) forms.Draft ms) _ d first.2 in
    let third = then_ok (unless refusals.Topology (fault_of (draft_from ms))) _ d second.2 in
    let same : draft_from ms ≡ d = cc in
    let index = good_index (draft_ranges ms) ms (good forms.Draft (draft_ranges ms) ms first.1 second.1) in
    let of_table : IsGoodDraft (draft_from ms) = record {
      format = either_format (number_at (codes "format") ms == FORMAT_2);
      no_fault = unless_ok refusals.Topology (fault_of (draft_from ms)) third.1;
      index = below_total (height_in ms) _ index;
    } in
    subst IsGoodDraft same of_table

pub good_draft : (text : List ℕ) (d : Draft) → draft_of text ≡ Ok d → IsGoodDraft d
good_draft text d is = let read = then_ok (table_of text) draft_in d is in good_table read.0 d read.2
