use Rattle.std.proofs.Common.{◌≡◌, take}
use Rattle.std.specs.List.{flat_map}
use Rattle.sp_rules.specs.Rel.{flows_from}
use Rattle.sp_rel.proofs.pairs.pairs_of.Given as goal

abbrev pub invariant-sources : goal.invariant-sources
invariant-sources l = l.pairs.items ≡ flat_map (λ src. flows_from src l.nodes) (take l.src-index l.nodes)
