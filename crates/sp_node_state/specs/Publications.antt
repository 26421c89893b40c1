-- What becomes of a document of the administrator, before anything changes, and how many signatures are checked for it.
use Rattle.std.specs.Prelude.{ℕ, ◌≡◌, ◌+◌, nat_le, List, [], length, Option, None, Some, if◌then◌else◌}
use Rattle.sp_msg.specs.Caused.{Caused}
use Rattle.sp_msg.specs.declared.effect.Effect.{Effect}
use Rattle.sp_node_format.specs.Format.{document_in, format_of}
use Rattle.sp_node_parts.specs.Closing.{closing_room, withdrawn_of}
use Rattle.sp_rules.specs.Arts.{Document}
use Rattle.sp_rules.specs.Documents.{document_answer, under_topology, version_effects}
use Rattle.sp_rules.specs.Node.{NodeState}
use Rattle.sp_rules.specs.Parts.{flows_of}
use Rattle.sp_rules.specs.declared.answers.DocumentAnswer.TheVariants as answers
use Rattle.sp_rules.specs.declared.kflow.FlowKind.{FlowKind}
use Rattle.sp_node_state.specs.declared.document.NewVersion.{NewVersion}
use Rattle.sp_node_state.specs.declared.document.Publication.{Publication}
use Rattle.sp_node_state.specs.declared.document.Reading.{Reading}

abbrev pub as_document : Reading → Document
as_document r = record { topology = r.topology; message = r.message.now; signature = r.signature.now }

-- ---- before anything changes

-- the bytes say this version, and the node adopts it
pub record IsNew (n : NodeState) (bytes : List ℕ) (v : NewVersion) : Type 0 where
  pub reads : Document
  pub read : document_in bytes ≡ Some reads
  pub topology : v.topology ≡ reads.topology
  pub document : v.document ≡ bytes
  pub answer : document_answer (format_of n.fixed) n bytes ≡ answers.Adopted reads.topology.version

-- what a version needs to come into effect at a node: the same edges and nodes, and room for what that causes
pub record IsRoomy (n : NodeState) (v : NewVersion) (out : Caused) : Type 0 where
  pub withdrawn : v.withdrawn ≡ withdrawn_of v.topology
  pub edges : length v.topology.edges ≡ length n.parts.weights.edges
  pub nodes : length v.topology.nodes ≡ length n.parts.prio.nodes
  pub flows : (kind : FlowKind) → length v.topology.nodes ≡ length (flows_of kind n.parts).nodes
  pub room : out ≡ record { list = []; room = 1 + closing_room n.parts }

-- what is ready of a document fits the version that it brings
abbrev pub FitsSo : NodeState → Publication → Option NewVersion → Type 0
FitsSo n p None = p.effects.list ≡ []
FitsSo n p (Some v) = IsRoomy n v p.effects

-- what is ready of a document fits
abbrev pub Fits : NodeState → Publication → Type 0
Fits n p = FitsSo n p p.version

-- only one that is adopted is there
abbrev pub IsJudgedSo : NodeState → List ℕ → Publication → Option NewVersion → Type 0
IsJudgedSo n bytes p None = (version : ℕ) → p.answer ≡ answers.Adopted version → ⊥
IsJudgedSo n bytes p (Some v) = IsNew n bytes v

-- what a document is to this node: its answer, and the version that it brings
pub record IsJudged (n : NodeState) (bytes : List ℕ) (p : Publication) : Type 0 where
  pub answer : p.answer ≡ document_answer (format_of n.fixed) n bytes
  pub version : IsJudgedSo n bytes p p.version
  pub fits : Fits n p

-- ---- in effect

-- the node under the version that it takes, if it takes one
abbrev pub under_version : NodeState → Option NewVersion → NodeState
under_version n None = n
under_version n (Some v) = under_topology n v.document v.topology

-- what is told of a version, if the node takes one
abbrev pub told_of : NodeState → Option NewVersion → List Effect
told_of n None = []
told_of n (Some v) = version_effects n v.topology

-- ---- what it costs

-- one signature is checked where the version is above that of the node, and none else
abbrev pub checks_of : NodeState → Option Document → ℕ
checks_of n None = 0
checks_of n (Some d) = if nat_le d.topology.version n.live.version then 0 else 1

-- how many signatures are checked of a document
abbrev pub document_checks : NodeState → List ℕ → ℕ
document_checks n bytes = checks_of n (document_in bytes)
