use Rattle.std.proofs.Common.{◌≡◌, ◌+◌, drop}
use Rattle.sp_rules.specs.Parts.{place_in}
use Rattle.sp_node.proofs.poll.place_in.Given as goal

-- what is left to go over adds up
abbrev pub invariant-nodes : goal.invariant-nodes
invariant-nodes l = l.place + place_in (drop l.place l.nodes) l.v ≡ place_in l.nodes l.v
