-- What `mask_to` says where there are fewer paths than were asked for.
use Rattle.std.specs.Prelude.{ℕ}
use Rattle.sp_base.specs.declared.id.NodeId.{NodeId}
use Rattle.sp_graph.specs.declared.graph.Graph.{Graph}
use Rattle.sp_rules.specs.Masks.{IsChoice, OnlyPaths}
use Rattle.sp_rules.specs.Weights.{WeightState}
use Rattle.sp_routes.specs.declared.refused.NoMask.{NoMask}
use Rattle.sp_routes.specs.declared.refused.NoMask.TheVariants as refusals

-- where the refusal says how many paths there are, it is so
abbrev pub SaysFewer : Graph → NodeId → NodeId → ℕ → NoMask → Type 0
SaysFewer g s t count (refusals.Fewer found) = (w : WeightState) → IsChoice w g s t count (OnlyPaths found)
SaysFewer g s t count refusals.Memory = Unit {0}
