-- What a node is made of at the start of one of its lives.
use Rattle.std.specs.Prelude.{ℕ, ◌≡◌, ◌≤◌, ◌<◌, List, Some, length, map, option_map, true}
use Rattle.sp_base.specs.declared.format.TheConstants.{FORMAT_2}
use Rattle.sp_frame.specs.declared.writing.TheConstants.{MAX_DOCUMENT_BYTES}
use Rattle.sp_hss.specs.KeyTree.{public_key, signature_len}
use Rattle.sp_msg.specs.declared.effect.Effect.{Effect}
use Rattle.sp_node_format.specs.Format.{document_in, format_of}
use Rattle.sp_rules.specs.Node.{NodeState, Signer, booted, start_effects, started}
use Rattle.sp_rules.specs.Parts.{Fixed, neighbours_of}
use Rattle.sp_sign.specs.Heights.{param_of}
use Rattle.sp_sign.specs.NodeSigner.{NodeSigner}
use Rattle.sp_topology.specs.Keys.{key_of}
use Rattle.sp_topology.specs.declared.topology.Topology.{Topology}
use Rattle.sp_rules.specs.Topologies.{IsRunnable}
use Rattle.sp_node_state.specs.States.{signer_in}
use Rattle.sp_node_state.specs.declared.boot.NodeConfig.{NodeConfig}

-- what stays as it is in this life
abbrev pub fixed_of : NodeConfig → ℕ → Fixed
fixed_of c boot = record {
  me = c.me;
  boot = boot;
  topology = c.topology;
  document = c.document;
  signature_len = signature_len (param_of c.topology.height);
  admin = c.admin;
  epochs = c.epochs;
}

-- the document says the topology: whatever comes after it counts as its signature
abbrev pub Says : List ℕ → Topology → Type 0
Says document t = option_map (λ d. d.topology) (document_in document) ≡ Some t

-- the signer signs an Epoch object next
pub record Announces (t : Topology) (s : Signer) : Type 0 where
  pub format : t.format ≡ FORMAT_2
  pub index : s.index < s.bound

-- the node is one of a topology that nodes run under, whose document a frame has room for, the signer is its own, with the key that the topology has for
-- it, and there is a link key for each of its edges, in their order
pub record IsBootable (c : NodeConfig) (own : NodeSigner) (boot : ℕ) : Type 0 where
  pub topology : IsRunnable c.topology
  pub document : Says c.document c.topology
  pub short : length c.document ≤ MAX_DOCUMENT_BYTES
  pub node : own.node ≡ c.me
  pub height : own.signer.height ≡ param_of c.topology.height
  pub is_mine : key_of c.me.0 c.topology.nodes ≡ Some (public_key own.signer.height own.signer.seed)
  pub keys : map (λ k. k.0) c.keys ≡ map (λ n. n.1) (neighbours_of (fixed_of c boot))
  pub life : 1 ≤ boot
  pub announces : c.epochs ≡ true → Announces c.topology (signer_in own)

-- nothing was sent, heard or kept
abbrev pub booted_of : NodeConfig → NodeSigner → ℕ → NodeState
booted_of c own boot = booted (fixed_of c boot) (signer_in own) (map (λ k. k.1) c.keys) c.limits.buffer c.limits.store

-- the same, and with epochs its boot is said to all
abbrev pub started_of : NodeConfig → NodeSigner → ℕ → NodeState
started_of c own boot = started (format_of (fixed_of c boot)) (fixed_of c boot) (signer_in own) (map (λ k. k.1) c.keys) c.limits.buffer c.limits.store

-- what is told at a start
abbrev pub told_at_start : NodeConfig → ℕ → List Effect
told_at_start c boot = start_effects (format_of (fixed_of c boot)) (fixed_of c boot)
