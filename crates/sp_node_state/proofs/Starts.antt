-- A node at the start of its life.
use Rattle.std.proofs.Common.{◌≡◌, ◌∙◌, ℕ, List, [], ◌∷◌, map, refl, ap, arith}
use Rattle.std.specs.Prelude.{zip}
use Rattle.sp_base.specs.declared.id.EdgeId.{EdgeId}
use Rattle.sp_base.specs.declared.id.NodeId.{NodeId}
use Rattle.sp_hss.specs.KeyTree.{signature_len, total}
use Rattle.sp_lms.specs.declared.param.LmsParam.{LmsParam}
use Rattle.sp_lms.specs.declared.param.LmsParam.TheVariants.{H5, H10, H15}
use Rattle.sp_rules.specs.Link.{Link, new_link}
use Rattle.sp_rules.specs.Node.{link_of}
use Rattle.sp_rules.specs.Parts.{Fixed, Parts, empty_parts, neighbours_of}
use Rattle.sp_rules.specs.Topologies.{weights_in}
use Rattle.sp_rules.specs.Versions.{Heard, Live, none_heard}
use Rattle.sp_topology.specs.Neighbours.{neighbours_from}
use Rattle.sp_node_parts.specs.Closing.{bare_fixed}
use Rattle.sp_sign.specs.Heights.{param_of}
use Rattle.sp_sign.specs.NodeSigner.{NodeSigner}
use Rattle.sp_node_state.specs.Boots.{booted_of, fixed_of}
use Rattle.sp_node_state.specs.States.{state_of}
use Rattle.sp_node_state.specs.declared.boot.NodeConfig.{NodeConfig}

-- ---- the links

linked : (f : Fixed) (joined : List (NodeId × EdgeId)) (keys : List (EdgeId × List ℕ))
    → map (λ (p : (NodeId × EdgeId) × (EdgeId × List ℕ)). new_link f.me p.0.0 f.boot p.1.1) (zip joined keys)
    ≡ map (link_of f) (zip joined (map (λ (k : EdgeId × List ℕ). k.1) keys))
linked f [] keys = refl
linked f (n ∷ joined) [] = refl
linked f (n ∷ joined) (k ∷ keys) = ap (λ (rest : List Link). new_link f.me n.0 f.boot k.1 ∷ rest) (linked f joined keys)

-- ---- the whole state

abbrev pub with_len : NodeConfig → ℕ → ℕ → Fixed
with_len c boot len = record {
  me = c.me;
  boot = boot;
  topology = c.topology;
  document = c.document;
  signature_len = len;
  admin = c.admin;
  epochs = c.epochs;
}

-- the version that a node boots with
abbrev live_at : NodeConfig → Live
live_at c = record { version = c.topology.version; weights = weights_in c.topology.edges; document = c.document }

abbrev unheard : NodeConfig → List Heard
unheard c = map (λ n. none_heard n.0) (neighbours_from c.me.0 0 c.topology.edges)

pub started : (c : NodeConfig) (own : NodeSigner) (boot len : ℕ) (live : Live) (heard : List Heard) (links : List Link) (core : Parts)
    → live ≡ live_at c → heard ≡ unheard c → len ≡ signature_len own.signer.height
    → own.signer.height ≡ param_of c.topology.height
    → links ≡ map (λ (p : (NodeId × EdgeId) × (EdgeId × List ℕ)). new_link c.me p.0.0 boot p.1.1) (zip (neighbours_of (with_len c boot len)) c.keys)
    → core ≡ empty_parts (bare_fixed c.me c.topology) c.limits.buffer c.limits.store
    → state_of (with_len c boot len) live heard 0 0 links own core ≡ booted_of c own boot
started c own boot len live heard links core now none long height are parts =
    ap (λ (l : Live). state_of (with_len c boot len) l heard 0 0 links own core) now
    ∙ ap (λ (hs : List Heard). state_of (with_len c boot len) (live_at c) hs 0 0 links own core) none
    ∙ ap (λ (n : ℕ). state_of (with_len c boot n) (live_at c) (unheard c) 0 0 links own core) (long ∙ ap signature_len height)
    ∙ ap (λ (ls : List Link). state_of (fixed_of c boot) (live_at c) (unheard c) 0 0 ls own core)
    (are ∙ linked (fixed_of c boot) (neighbours_of (fixed_of c boot)) c.keys)
    ∙ ap (λ (p : Parts). state_of (fixed_of c boot) (live_at c) (unheard c) 0 0
    (map (link_of (fixed_of c boot)) (zip (neighbours_of (fixed_of c boot)) (map (λ (k : EdgeId × List ℕ). k.1) c.keys))) own p) parts

-- ---- heights

-- how many messages a key may sign says its height
pub one_height : (g h : LmsParam) → total g ≡ total h → g ≡ h
one_height H5 H5 e = refl
one_height H5 H10 e = absurd (omega (arith, e))
one_height H5 H15 e = absurd (omega (arith, e))
one_height H10 H5 e = absurd (omega (arith, e))
one_height H10 H10 e = refl
one_height H10 H15 e = absurd (omega (arith, e))
one_height H15 H5 e = absurd (omega (arith, e))
one_height H15 H10 e = absurd (omega (arith, e))
one_height H15 H15 e = refl
