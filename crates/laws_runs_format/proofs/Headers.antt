-- A header's setting fits the arts of its topology's format: each node signs with the key of its own seed.
use Rattle.std.proofs.Common.{ℕ, ◌≡◌, ◌<◌, ◌≤◌, not, eqb, true, false, List, [], ◌∷◌, map, Some, refl, ap, inl, inr, arith}
use Rattle.std.specs.List.{range_with_len}
use Rattle.std.proofs.lemmas.Bool.{cases_Bool, eqb-true}
use Rattle.sp_base.specs.declared.id.NodeId.{NodeId}
use Rattle.sp_hss.specs.KeyTree.{public_key, signature_len, total}
use Rattle.sp_node_format.proofs.FormatFits.{format_fits}
use Rattle.sp_sign.specs.Heights.{param_of}
use Rattle.sp_topology.specs.Keys.{key_of}
use Rattle.sp_topology.specs.declared.topology.LmsHeight.{LmsHeight}
use Rattle.sp_topology.specs.declared.topology.LmsHeight.TheVariants.{Five, Ten}
use Rattle.sp_topology.specs.declared.topology.NodeKey.{NodeKey}
use Rattle.sp_rules.specs.Parts.{nodes_of}
use Rattle.laws_node.specs.Sizes.{most_indexes}
use Rattle.laws_runs.proofs.Lists.{both}
use Rattle.sp_runs.specs.Scenarios.{node_key, node_seed, setting_of, topology_of}
use Rattle.sp_runs.specs.Settings.{first_signer, fixed_of, is_one_of}
use Rattle.laws_runs_format.specs.Headers.{HeadersFit, PlainHeadersFit, SignaturesAreLong}
use Rattle.laws_runs_format.proofs.Documents.{documents_are_read, rooms, totals, unsigned_are}
use Rattle.laws_runs_format.proofs.Topologies.{topologies_fit, whole}

short : (h : LmsHeight) → signature_len (param_of h) < 65536
short Five = omega arith
short Ten = omega arith

few : (h : LmsHeight) → total (param_of h) ≤ most_indexes
few Five = omega arith
few Ten = omega arith

keys_are : (h : LmsHeight) (seed : List ℕ) (u : NodeId) (ids : List ℕ) → is_one_of (map (λ (n : NodeKey). n.id) (map (node_key h seed) ids)) u ≡ true
    → key_of u.0 (map (node_key h seed) ids) ≡ Some (public_key (param_of h) (node_seed seed u.0))
keys_are h seed u [] there = absurd (let e : false ≡ true = there in cc)
keys_are h seed u (id ∷ ids) there = elim (cases_Bool (eqb id u.0)) [
  | inl t ↦ rw t (ap (λ n. Some (public_key (param_of h) (node_seed seed n))) (eqb-true _ _ t))
  | inr t ↦ rw t (keys_are h seed u ids (rw t at there))
]

pub headers_fit : HeadersFit
headers_fit s good = record {
  topology = topologies_fit s good;
  format = good.epochs;
  short = short s.height;
  total = few s.height;
  each = λ u correct. format_fits (fixed_of (setting_of s) u) (first_signer (setting_of s) u) (record {
    signature_len = refl;
    total = refl;
    is_mine =
        let there = both (is_one_of (nodes_of (topology_of s)) u) (not (is_one_of s.bad u)) correct in
        keys_are s.height s.seed u (range_with_len 1 s.graph.nodes) there.0;
  });
  room = rooms s good;
  unsigned = unsigned_are s good;
  documents = λ may version weights long small some most. documents_are_read s good may version weights small some most;
  versions = (totals s.height).1;
  some = (totals s.height).0;
  first = refl;
  all_open = whole s.graph.nodes s.graph.edges good.graph.edges;
}

pub signatures_are_long : SignaturesAreLong
signatures_are_long s key there = (format_fits (fixed_of (setting_of s) key) (first_signer (setting_of s) key) (record {
  signature_len = refl;
  total = refl;
  is_mine = keys_are s.height s.seed key (range_with_len 1 s.graph.nodes) there;
})).long

pub plain_headers_fit : PlainHeadersFit
plain_headers_fit s good plain = record { fits = headers_fit s good; plain = plain }
