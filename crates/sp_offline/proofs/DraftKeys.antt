-- The key that a seed has is one of two levels, of the height, and with w = 4; so the topology of a draft that was read is in its ranges.
use Rattle.std.proofs.Common.{◌≡◌, ℕ, ◌+◌, ◌<◌, ◌^◌, List, [], ◌∷◌, ◌++◌, append_assoc, length, map, drop, refl, sym, ap, ◌∙◌}
use Rattle.std.specs.Prelude.{All, slice_index_or}
use Rattle.std.proofs.lemmas.List.{drop_more}
use Rattle.std.proofs.lemmas.List.Elements.{All-head, All-tail}
use Rattle.byteorder.specs.Endian.{big_number}
use Rattle.sp_base.specs.Spelling.{AreBytes}
use Rattle.sp_ots.specs.Strings.{u32str}
use Rattle.sp_lms.specs.Keys as keys
use Rattle.sp_hss.specs.KeyTree.{public_key}
use Rattle.sp_topology.specs.declared.topology.LmsHeight.{LmsHeight}
use Rattle.sp_topology.specs.declared.topology.LmsHeight.TheVariants.{Five, Ten}
use Rattle.sp_topology.specs.declared.topology.NodeKey.{NodeKey}
use Rattle.sp_topology.specs.declared.topology.Topology.{Topology}
use Rattle.sp_topology.specs.Faults.{NoFaultIsInRange}
use Rattle.sp_topology.specs.Heights.{typecode_of}
use Rattle.sp_topology.specs.Ranges.{AreIds, AreNodes, IsKey, IsTopology, ids_of}
use Rattle.sp_config.specs.declared.draft.Draft.{Draft}
use Rattle.sp_config.specs.declared.draft.DraftNode.{DraftNode}
use Rattle.sp_offline.specs.SignedKeys.{IsGoodDraft}
use Rattle.sp_offline.specs.SignedDrafts.{node_key, topology_of}
use Rattle.sp_sign.specs.Heights.{param_of}

levels : (height : LmsHeight) (seed : List ℕ) → big_number 4 (public_key (param_of height) seed) ≡ 2
unfolding public_key u32str
levels Five seed = refl
levels Ten seed = refl

tree : (height : LmsHeight) (seed : List ℕ) → big_number 4 (drop 4 (public_key (param_of height) seed)) ≡ typecode_of height
unfolding public_key u32str keys.public_key
tree Five seed = refl
tree Ten seed = refl

one_time : (height : LmsHeight) (seed : List ℕ) → big_number 4 (drop 8 (public_key (param_of height) seed)) ≡ 3
unfolding public_key u32str keys.public_key
one_time Five seed = refl
one_time Ten seed = refl

-- a key of 60 bytes that is the seed's
pub seed_key : (height : LmsHeight) (seed key : List ℕ) → key ≡ public_key (param_of height) seed → length key ≡ 60 → AreBytes key → IsKey height key
seed_key height seed key is long bytes = record {
  long = long;
  bytes = bytes;
  levels = rw is (levels height seed);
  tree = rw is (tree height seed);
  one_time = rw is (one_time height seed);
}

are_nodes : (format : ℕ) (height : LmsHeight) (before : ℕ) (nodes : List NodeKey) → AreIds format before (ids_of nodes) → All (λ n. IsKey height n.key) nodes
    → AreNodes format height before nodes
are_nodes format height before [] ids each = tt
are_nodes format height before (n ∷ nodes) ids each =
    (ids.0, All-head (λ m. IsKey height m.key) n nodes each, are_nodes format height n.id.0 nodes ids.1 (All-tail (λ m. IsKey height m.key) n nodes each))

same_ids : (height : LmsHeight) (nodes : List DraftNode) → ids_of (map (node_key height) nodes) ≡ map (λ n. n.id.0) nodes
same_ids height [] = refl
same_ids height (n ∷ nodes) = ap (λ (ids : List ℕ). n.id.0 ∷ ids) (same_ids height nodes)

pub in_range : NoFaultIsInRange → (d : Draft) (t : Topology) → t ≡ topology_of d → IsGoodDraft d → t.version < 2 ^ 32 → All (λ n. IsKey d.height n.key) t.nodes
    → IsTopology t
in_range law d t is good version each =
    let ids : ids_of t.nodes ≡ map (λ n. n.id.0) d.nodes = rw is (same_ids d.height d.nodes) in
    let right = (law d.format (map (λ n. n.id.0) d.nodes) t.edges).0 (rw is good.no_fault) in
    let height : t.height ≡ d.height = ap (λ (x : Topology). x.height) is in
    let format : t.format ≡ d.format = ap (λ (x : Topology). x.format) is in
    record {
      format = rw format good.format;
      version = version;
      nodes = rw (format, height) (are_nodes d.format d.height 0 t.nodes (rw ids right.0) each);
      graph = rw (format, ids) right.1;
    }

-- one key more
pub one_more_key : (height : LmsHeight) (nodes : List DraftNode) (keys : List NodeKey) (place : ℕ) (d : DraftNode) (key : NodeKey) → place < length nodes
    → key ≡ node_key height (slice_index_or nodes place d) → keys ++ map (node_key height) (drop place nodes) ≡ map (node_key height) nodes
    → (keys ++ key ∷ []) ++ map (node_key height) (drop (place + 1) nodes) ≡ map (node_key height) nodes
one_more_key height nodes keys place d key inside is so_far =
    append_assoc keys (key ∷ []) _ ∙ ap (λ (k : NodeKey). keys ++ k ∷ map (node_key height) (drop (place + 1) nodes)) is
    ∙ ap (λ (rest : List DraftNode). keys ++ map (node_key height) rest) (sym (drop_more nodes place d inside)) ∙ so_far
