-- What holds of a link over its life, whatever arrives.
use Rattle.std.specs.Prelude.{ℕ, ◌≡◌, List}
use Rattle.sp_base.specs.declared.id.NodeId.{NodeId}
use Rattle.sp_rules.specs.Link.{new_link}
use Rattle.laws_node.specs.LinkArrivals.{Arrival, Rise, after_all, fresh_pairs, greatest, pairs}

-- the pairs of fresh frames rise strictly, so no pair is fresh twice
abbrev pub FreshFramesRise : Type 0
FreshFramesRise = (me peer : NodeId) (boot : ℕ) (key : List ℕ) (arrivals : List Arrival) → Rise (0, 0) (fresh_pairs (new_link me peer boot key) arrivals)

-- the pair that a link keeps is the greatest of (0, 0), the pairs of fresh frames, and (b, 0) for each boot b that an answer carried
abbrev pub GreatestIsKept : Type 0
GreatestIsKept =
    (me peer : NodeId) (boot : ℕ) (key : List ℕ) (arrivals : List Arrival)
    → (after_all (new_link me peer boot key) arrivals).seen ≡ greatest (0, 0) (pairs (new_link me peer boot key) arrivals)

-- a link knows the boot of the pair that it keeps
abbrev pub BootIsKnown : Type 0
BootIsKnown =
    (me peer : NodeId) (boot : ℕ) (key : List ℕ) (arrivals : List Arrival)
    → (after_all (new_link me peer boot key) arrivals).seen.0 ≡ (after_all (new_link me peer boot key) arrivals).peer_boot
