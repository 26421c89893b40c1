-- What a place holds, effect after effect: an entry from when it is stored up to when it goes, and none whose id went before.
use Rattle.std.specs.Prelude.{ℕ, ◌≡◌, ◌==◌, Bool, true, false, not, List, [], ◌∷◌, ◌++◌, filter, if◌then◌else◌}
use Rattle.std.specs.List.{flat_map}
use Rattle.sp_msg.specs.declared.effect.Effect.{Effect}
use Rattle.sp_msg.specs.declared.effect.Effect.TheVariants as effects
use Rattle.sp_rules.specs.Window.{is_in}
use Rattle.sp_runs.specs.Held.{AreShares, Held, held_in}

-- the entries that it holds, and the ids that went from it, whether they were held or not
pub record Shelf : Type 0 where
  pub held : List Held
  pub gone : List ℕ

-- with one entry more, unless its id went
abbrev pub with_entry : Shelf → Held → Shelf
with_entry s h = if is_in h.id s.gone then s else record { held = s.held ++ h ∷ []; gone = s.gone }

-- without the entries of this id
abbrev pub without : Shelf → ℕ → Shelf
without s id = record { held = filter (λ h. not (h.id == id)) s.held; gone = s.gone ++ id ∷ [] }

-- after one effect more, as far as it is of place p
abbrev pub shelf_after : ℕ → Shelf → Effect → Shelf
shelf_after p s (effects.Stored place id src seq prio) = if place == p then with_entry s (record { id = id; src = src.0; seq = seq; prio = prio }) else s
shelf_after p s (effects.Gone place id why) = if place == p then without s id else s
shelf_after p s _ = s

-- the id that went from place p
abbrev pub gone_from : ℕ → Effect → List ℕ
gone_from p (effects.Gone place id why) = if place == p then id ∷ [] else []
gone_from p _ = []

-- after all of these
abbrev pub shelf_of : ℕ → List Effect → Shelf
shelf_of p es = record { held = held_in p es; gone = flat_map (gone_from p) es }

-- ---- shares

-- whether each eviction among effects that came after others left its share: then the shelf is that after all of them
abbrev pub IsTaken : (capacity p : ℕ) (before these : List Effect) → Shelf → Bool → Type 0
IsTaken capacity p before these s true = (s ≡ shelf_of p (before ++ these)) × AreShares capacity p [] (before ++ these)
IsTaken capacity p before these s false = AreShares capacity p [] (before ++ these) → ⊥

-- whatever came before, with its shares
abbrev pub TakesAll : (capacity p : ℕ) (old : Shelf) (these : List Effect) (new : Shelf) → Bool → Type 0
TakesAll capacity p old these new fine =
    (before : List Effect) → old ≡ shelf_of p before → AreShares capacity p [] before → IsTaken capacity p before these new fine
