-- In each place of a node ids rise, so each entry has an id of its own, and no id is given twice.
use Rattle.std.specs.Prelude.{ℕ, ◌<◌, ◌≤◌, List, [], ◌∷◌}
use Rattle.std.specs.List.{All}
use Rattle.sp_rules.specs.Arts.{Arts}
use Rattle.sp_rules.specs.Node.{NodeState}
use Rattle.sp_rules.specs.Prio.{PrioState}
use Rattle.sp_rules.specs.PrioPeer.{PrioPeer}
use Rattle.sp_rules.specs.Steps.{Input, NodeStep, Output}
use Rattle.sp_rules.specs.Store.{Store}
use Rattle.sp_rules.specs.declared.store.Entry.{Entry}

-- ids rise from above the first number up to at most the second
abbrev pub Rises : ℕ → ℕ → List Entry → Type 0
Rises below last [] = below ≤ last
Rises below last (e ∷ es) = (below < e.id) × Rises e.id last es

-- the ids of a place rise, up to the last one that was given, and at least so many were given
pub record PlaceRises (given : ℕ) (s : Store) : Type 0 where
  pub rise : Rises 0 s.last s.entries
  pub least : given ≤ s.last

-- of a neighbour's store, whose place is the neighbour's id
abbrev pub PeerRises : (ℕ → ℕ) → PrioPeer → Type 0
PeerRises given q = PlaceRises (given q.peer) q.store

-- of each place; place 0 is the inbox
pub record AllRise (given : ℕ → ℕ) (s : PrioState) : Type 0 where
  pub inbox : PlaceRises (given 0) s.inbox
  pub peers : All (PeerRises given) s.peers

-- however many ids each place has given, it has given as many after a step: so none is given twice
abbrev pub IdsStayOwn : Type 0
IdsStayOwn = (arts : Arts) (old : NodeState) (input : Input) (output : Output) (new : NodeState) (given : ℕ → ℕ) → NodeStep arts old input output new
    → AllRise given old.parts.prio → AllRise given new.parts.prio
