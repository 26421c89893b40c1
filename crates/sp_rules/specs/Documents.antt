-- A document of the administrator comes, by hand or in a frame: the first test that fails, or the node runs under its version from now on.
use Rattle.std.specs.Prelude.{ℕ, nat_le, not, List, [], ◌∷◌, Option, None, Some, if◌then◌else◌}
use Rattle.sp_msg.specs.declared.effect.Effect.{Effect}
use Rattle.sp_msg.specs.declared.effect.Effect.TheVariants.{Version}
use Rattle.sp_topology.specs.declared.topology.Topology.{Topology}
use Rattle.sp_rules.specs.Arts.{Arts, Document}
use Rattle.sp_rules.specs.Node.{NodeState, topology_now}
use Rattle.sp_rules.specs.Parts.{closed, closed_effects, nodes_of}
use Rattle.sp_rules.specs.Topologies.{removed_of, succeeds, weights_in}
use Rattle.sp_rules.specs.declared.answers.DocumentAnswer.{DocumentAnswer}
use Rattle.sp_rules.specs.declared.answers.DocumentAnswer.TheVariants as answers

-- what bytes say as a document is answered by the first of these that fits
abbrev pub answer_to : Arts → NodeState → Option Document → DocumentAnswer
answer_to arts n None = answers.Bad
answer_to arts n (Some d) =
    if nat_le d.topology.version n.live.version then answers.Old n.live.version
    else if not (arts.valid n.fixed.admin d.message d.signature) then answers.BadSig
    else if not (succeeds (topology_now n) d.topology) then answers.Strange
    else answers.Adopted d.topology.version

-- the answer to a document
abbrev pub document_answer : Arts → NodeState → List ℕ → DocumentAnswer
document_answer arts n bytes = answer_to arts n (arts.read_document bytes)

-- the node runs under this topology, of which these bytes are the document
abbrev pub under_topology : NodeState → List ℕ → Topology → NodeState
under_topology n bytes t = record n {
  live = record { version = t.version; weights = weights_in t.edges; document = bytes };
  parts = closed n.parts (weights_in t.edges) (removed_of (nodes_of t) t.edges);
}

-- what is told where the node takes a version: its number, and what it closes
abbrev pub version_effects : NodeState → Topology → List Effect
version_effects n t = Version t.version ∷ closed_effects n.parts (weights_in t.edges) (removed_of (nodes_of t) t.edges)

-- what a document leaves and causes, by the answer to it
abbrev pub adopting : DocumentAnswer → NodeState → List ℕ → Option Document → NodeState
adopting (answers.Adopted version) n bytes (Some d) = under_topology n bytes d.topology
adopting _ n bytes d = n

-- what is told of a document: nothing where it isn't taken
abbrev pub adopting_effects : DocumentAnswer → NodeState → Option Document → List Effect
adopting_effects (answers.Adopted version) n (Some d) = version_effects n d.topology
adopting_effects _ n d = []

-- the node after a document came
abbrev pub after_publish : Arts → NodeState → List ℕ → NodeState
after_publish arts n bytes = adopting (document_answer arts n bytes) n bytes (arts.read_document bytes)

-- what is told of a document that came
abbrev pub publish_effects : Arts → NodeState → List ℕ → List Effect
publish_effects arts n bytes = adopting_effects (document_answer arts n bytes) n (arts.read_document bytes)

-- the bytes of the document, where they are adopted
abbrev pub adopted_where : DocumentAnswer → List ℕ → Option (List ℕ)
adopted_where (answers.Adopted version) bytes = Some bytes
adopted_where _ bytes = None
