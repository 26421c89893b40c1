-- Where no key is missing and none is out of range, each value is what its row wants.
use Rattle.std.proofs.Common.{◌≡◌, ℕ, ◌≤◌, ℤ, pos, negsuc, Bool, true, ◌||◌, List, [], ◌∷◌, ◌++◌, Option, Some, None, is_some, option_and_then, Result, Ok, Err}
use Rattle.std.proofs.Common.{codes, refl, inl, inr, arith}
use Rattle.std.proofs.lemmas.Bool.{cases_Bool}
use Rattle.std.proofs.lemmas.Bool.Decides.{nat_tests}
use Rattle.sp_base.specs.Cursor.{or_else}
use Rattle.sp_base.specs.Refusals.{◌>>=◌}
use Rattle.toml.specs.Data.{Data, string, integer, float, boolean, datetime, array, table, Members, get_member, as_integer}
use Rattle.sp_config.specs.declared.keys.Form.{Form}
use Rattle.sp_config.specs.declared.keys.Form.TheVariants as forms
use Rattle.sp_config.specs.declared.keys.Shape.TheVariants.{Number}
use Rattle.sp_config.specs.declared.refused.ConfigRefused.{ConfigRefused}
use Rattle.sp_config.specs.declared.keys.Ranges.{Ranges}
use Rattle.sp_config.specs.declared.walks.Wrong.{Wrong}
use Rattle.sp_config.specs.declared.walks.Wrong.TheVariants.{Missing, Range, Unknown}
use Rattle.sp_config.specs.Good.{AreGood, IsGood, IsGoodAt}
use Rattle.sp_config.specs.Keys.{Row, arrays_of, edge_keys, keys_of, node_keys, peer_keys}
use Rattle.sp_config.specs.Readings.{refusal_of, refused_by, refused_keys, unless}
use Rattle.sp_config.specs.Values.{fits, is_within, number_of, tables_at}
use Rattle.sp_config.specs.Walks.{first_among, first_in, first_in_arrays, first_wrong, fits_if, missing_in, out_of_range_in}

both_none : {X : Type 0} (a b : Option X) → or_else a b ≡ None → (a ≡ None) × (b ≡ None)
both_none None b e = (refl, e)
both_none (Some x) b e = absurd (cc)

unless-ok : {F : Type 0} (refusal : F → ConfigRefused) (fault : Option F) → unless refusal fault ≡ Ok tt → fault ≡ None
unless-ok refusal None e = refl
unless-ok refusal (Some fault) e = absurd (cc)

-- a refusal that didn't come
passed : (wrong : Wrong) (form : Form) (ms : Members) → refused_by wrong form ms ≡ Ok tt
    → (first_in wrong (keys_of form) ms ≡ None) × (first_in_arrays wrong (arrays_of form) ms ≡ None)
passed wrong form ms e = both_none (first_in wrong (keys_of form) ms) _ (unless-ok (refusal_of wrong) (first_wrong wrong form ms) e)

second_ok : (a b : Result (Unit {0}) ConfigRefused) → (a >>= λ _. b) ≡ Ok tt → b ≡ Ok tt
second_ok (Ok x) b e = e
second_ok (Err refused) b e = absurd (cc)

missing_passed : (form : Form) (ms : Members) → refused_keys form ms ≡ Ok tt → refused_by Missing form ms ≡ Ok tt
missing_passed form ms e = second_ok (refused_by Unknown form ms) (refused_by Missing form ms) e

good_at : (ranges : Ranges) (row : Row) (d : Option Data) → (row.optional || is_some d) ≡ true → fits_if ranges row.shape d ≡ true → IsGoodAt ranges row d
good_at ranges row None there fits = grind arith
good_at ranges row (Some d) there fits = fits

good_rows : (ranges : Ranges) (rows : List Row) (ms : Members) → missing_in rows ms ≡ None → out_of_range_in ranges rows ms ≡ None → IsGood rows ranges ms
unfolding IsGood
good_rows ranges [] ms m r = tt
good_rows ranges (row ∷ rows) ms m r = elim (cases_Bool (row.optional || is_some (get_member row.name ms))) [
  | inr absent ↦ absurd (let wrong : Some row.name ≡ None = rw absent at m in cc)
  | inl there ↦ elim (cases_Bool (fits_if ranges row.shape (get_member row.name ms))) [
    | inr other ↦ absurd (let wrong : Some row.name ≡ None = rw other at r in cc)
    | inl fit ↦ (good_at ranges row (get_member row.name ms) there fit, good_rows ranges rows ms (rw there at m) (rw fit at r))
  ]
]

good_tables : (rows : List Row) (ranges : Ranges) (tables : List Members) → first_among Missing rows tables ≡ None
    → first_among (Range ranges) rows tables ≡ None → AreGood rows ranges tables
good_tables rows ranges [] m r = tt
good_tables rows ranges (ms ∷ tables) m r =
    let here = both_none (missing_in rows ms) (first_among Missing rows tables) m in
    let fit = both_none (out_of_range_in ranges rows ms) (first_among (Range ranges) rows tables) r in
    (good_rows ranges rows ms here.0 fit.0, good_tables rows ranges tables here.1 fit.1)

-- a table with nothing missing and nothing out of range
pub good : (form : Form) (ranges : Ranges) (ms : Members) → refused_keys form ms ≡ Ok tt → refused_by (Range ranges) form ms ≡ Ok tt
    → IsGood (keys_of form) ranges ms
good form ranges ms m r = good_rows ranges (keys_of form) ms (passed Missing form ms (missing_passed form ms m)).0 (passed (Range ranges) form ms r).0

-- the tables of its arrays
good_array : (key : List ℕ) (kind : Form) (rest : List (List ℕ × Form)) (ranges : Ranges) (ms : Members)
    → first_in_arrays Missing ((key, kind) ∷ rest) ms ≡ None → first_in_arrays (Range ranges) ((key, kind) ∷ rest) ms ≡ None
    → AreGood (keys_of kind) ranges (tables_at key ms)
good_array key kind rest ranges ms m r =
    good_tables (keys_of kind) ranges (tables_at key ms)
    (both_none (first_among Missing (keys_of kind) (tables_at key ms)) (first_in_arrays Missing rest ms) m).0
    (both_none (first_among (Range ranges) (keys_of kind) (tables_at key ms)) (first_in_arrays (Range ranges) rest ms) r).0

pub good_peers : (ranges : Ranges) (ms : Members) → refused_keys forms.Config ms ≡ Ok tt → refused_by (Range ranges) forms.Config ms ≡ Ok tt
    → AreGood peer_keys ranges (tables_at (codes "peer") ms)
good_peers ranges ms m r =
    good_array (codes "peer") forms.Peer [] ranges ms (passed Missing forms.Config ms (missing_passed forms.Config ms m)).1
    (passed (Range ranges) forms.Config ms r).1

pub good_nodes : (ranges : Ranges) (ms : Members) → refused_keys forms.Draft ms ≡ Ok tt → refused_by (Range ranges) forms.Draft ms ≡ Ok tt
    → AreGood node_keys ranges (tables_at (codes "node") ms)
good_nodes ranges ms m r =
    good_array (codes "node") forms.Node ((codes "edge", forms.Edge) ∷ []) ranges ms (passed Missing forms.Draft ms (missing_passed forms.Draft ms m)).1
    (passed (Range ranges) forms.Draft ms r).1

pub good_edges : (ranges : Ranges) (ms : Members) → refused_keys forms.Draft ms ≡ Ok tt → refused_by (Range ranges) forms.Draft ms ≡ Ok tt
    → AreGood edge_keys ranges (tables_at (codes "edge") ms)
good_edges ranges ms m r =
    let edges : List (List ℕ × Form) = (codes "edge", forms.Edge) ∷ [] in
    good_array (codes "edge") forms.Edge [] ranges ms
    (both_none (first_among Missing node_keys (tables_at (codes "node") ms)) (first_in_arrays Missing edges ms)
    (passed Missing forms.Draft ms (missing_passed forms.Draft ms m)).1).1
    (both_none (first_among (Range ranges) node_keys (tables_at (codes "node") ms)) (first_in_arrays (Range ranges) edges ms)
    (passed (Range ranges) forms.Draft ms r).1).1

-- the rows of each part
pub good_first : (first rest : List Row) (ranges : Ranges) (ms : Members) → IsGood (first ++ rest) ranges ms → IsGood first ranges ms
unfolding IsGood
good_first [] rest ranges ms h = tt
good_first (row ∷ first) rest ranges ms h = (h.0, good_first first rest ranges ms h.1)

pub good_rest : (first rest : List Row) (ranges : Ranges) (ms : Members) → IsGood (first ++ rest) ranges ms → IsGood rest ranges ms
unfolding IsGood
good_rest [] rest ranges ms h = h
good_rest (row ∷ first) rest ranges ms h = good_rest first rest ranges ms h.1

-- a number in its range
within_below : (low high : ℕ) (z : ℤ) → is_within low high z ≡ true → number_of (Some z) ≤ high
within_below low high (pos n) h = grind (arith, nat_tests)
within_below low high (negsuc n) h = omega arith

pub number_below : (ranges : Ranges) (low high : ℕ) (name : List ℕ) (optional : Bool) (d : Option Data)
    → IsGoodAt ranges (record { name = name; optional = optional; shape = Number low high }) d → number_of (option_and_then as_integer d) ≤ high
number_below ranges low high name optional None h = omega arith
number_below ranges low high name optional (Some (integer z)) h = within_below low high z h
number_below ranges low high name optional (Some (string t)) h = omega arith
number_below ranges low high name optional (Some (float x)) h = omega arith
number_below ranges low high name optional (Some (boolean b)) h = omega arith
number_below ranges low high name optional (Some (datetime dt)) h = omega arith
number_below ranges low high name optional (Some (array ds)) h = omega arith
number_below ranges low high name optional (Some (table ms)) h = omega arith
