-- The values of an array one by one: the tables among them.
use Rattle.std.proofs.Common.{◌≡◌, ℕ, ◌+◌, ◌<◌, length, drop, get_or, List, ◌∷◌, Some, None, refl, ap, ◌∙◌}
use Rattle.toml.proofs.Views.{items_view-drop}
use Rattle.toml.specs.Data.{Data, string, integer, float, boolean, datetime, array, table, Items, item, Members, as_table}
use Rattle.toml.specs.View.{view, items_view}
use Rattle.toml.specs.declared.value.Value.{Value}
use Rattle.sp_config.specs.Values.{tables_of}

-- a table stands before those after it
tables_of-table : (d : Data) (ds : Items) (ms : Members) → as_table d ≡ Some ms → tables_of (item d ds) ≡ ms ∷ tables_of ds
tables_of-table (table inside) ds ms e = cc
tables_of-table (string s) ds ms e = cc
tables_of-table (integer z) ds ms e = cc
tables_of-table (float x) ds ms e = cc
tables_of-table (boolean b) ds ms e = cc
tables_of-table (datetime dt) ds ms e = cc
tables_of-table (array vs) ds ms e = cc

-- another value is passed over
tables_of-other : (d : Data) (ds : Items) → as_table d ≡ None → tables_of (item d ds) ≡ tables_of ds
tables_of-other (table inside) ds e = cc
tables_of-other (string s) ds e = refl
tables_of-other (integer z) ds e = refl
tables_of-other (float x) ds e = refl
tables_of-other (boolean b) ds e = refl
tables_of-other (datetime dt) ds e = refl
tables_of-other (array vs) ds e = refl

pub at_table : (vs : List Value) (i : ℕ) (v : Value) (ms : Members) → i < length vs → v ≡ get_or vs i v → as_table (view v) ≡ Some ms
    → tables_of (items_view (drop i vs)) ≡ ms ∷ tables_of (items_view (drop (i + 1) vs))
at_table vs i v ms within here e =
    ap tables_of (items_view-drop vs i v within) ∙ tables_of-table (view (get_or vs i v)) _ ms (rw (← here) e)

pub at_other : (vs : List Value) (i : ℕ) (v : Value) → i < length vs → v ≡ get_or vs i v → as_table (view v) ≡ None
    → tables_of (items_view (drop i vs)) ≡ tables_of (items_view (drop (i + 1) vs))
at_other vs i v within here e =
    ap tables_of (items_view-drop vs i v within) ∙ tables_of-other (view (get_or vs i v)) _ (rw (← here) e)
