use Rattle.std.proofs.Common.{◌≡◌, map, take}
use Rattle.std.specs.Prelude.{is_some}
use Rattle.sp_rules.specs.Lives.{no_life}
use Rattle.sp_rules.specs.declared.lives.Life.{Life}
use Rattle.sp_lives.proofs.lives.Lives.new.Given as goal

abbrev pub invariant-nodes : goal.invariant-nodes
invariant-nodes l = (l.rows.items ≡ map no_life (take l.node-index l.nodes)) × (l.active.items ≡ map (λ (v : Life). is_some v.object) l.rows.items)
