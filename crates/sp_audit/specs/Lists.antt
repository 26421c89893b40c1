-- Lists of the effects of one node, as the auditor walks them.
use Rattle.std.specs.Prelude.{ℕ, List, map}
use Rattle.std.specs.List.{flat_map}
use Rattle.sp_base.specs.declared.id.NodeId.{NodeId}
use Rattle.sp_msg.specs.declared.effect.Effect.{Effect}
use Rattle.sp_runs.specs.Told.{prio_by}

-- the numbers of the priority deliveries of what came from s
abbrev pub numbers : NodeId → List Effect → List ℕ
numbers s effects = map (λ m. m.0) (flat_map (prio_by s) effects)

-- the number of one, where it is a priority delivery of what came from s
abbrev pub number : NodeId → Effect → List ℕ
number s effect = map (λ m. m.0) (prio_by s effect)
