-- What was read so far, before what the rest gives.
use Rattle.std.proofs.Common.{◌≡◌, ℕ, suc, ◌+◌, ◌-◌, ◌<◌, List, [], ◌∷◌, ◌++◌, append_assoc, Result, Ok, Err, refl, sym, ap, ◌∙◌, arith}
use Rattle.std.specs.Result.{IsErrAnd}
use Rattle.sp_base.specs.Refusals.{◌>>=◌}
use Rattle.sp_topology.specs.declared.topology.LmsHeight.{LmsHeight}
use Rattle.sp_topology.specs.declared.topology.Edge.{Edge}
use Rattle.sp_topology.specs.declared.topology.NodeKey.{NodeKey}
use Rattle.sp_topology.specs.declared.refused.TopologyRefused.{TopologyRefused}
use Rattle.sp_topology.specs.Documents.{GivesInMemory, edge_at, edges_at, node_at, nodes_at}
use Rattle.sp_topology.specs.Ranges.{ends_of}

-- a refusal that is handed on
pub handed_on : {X Y : Type 0} (view : X → Y) (result : Result X TopologyRefused) (read : Result Y TopologyRefused) (refused : TopologyRefused)
    → IsErrAnd result (λ e. e ≡ refused) → read ≡ Err refused → GivesInMemory view result read
handed_on view (Ok x) read refused is same = absurd is
handed_on view (Err e) read refused is same = λ no_memory. same ∙ ap (λ (r : TopologyRefused). Err r) (sym is)

-- the items before those that are still read
abbrev pub onto : {X R E : Type 0} → List X → Result (List X × R) E → Result (List X × R) E
onto items (Ok rest) = Ok (items ++ rest.0, rest.1)
onto items (Err refused) = Err refused

-- one item more was read
onto_one : {X R E : Type 0} (items : List X) (x : X) (rest : Result (List X × R) E)
    → onto items (rest >>= λ xs. Ok (x ∷ xs.0, xs.1)) ≡ onto (items ++ x ∷ []) rest
onto_one items x (Ok rest) = ap (λ xs. Ok (xs, rest.1)) (sym (append_assoc items (x ∷ []) rest.0))
onto_one items x (Err refused) = refl

one_left : (count done : ℕ) → done < count → count - done ≡ suc (count - (done + 1))
one_left count done more = omega arith

-- ---- nodes

pub nodes_stop : (format : ℕ) → (height : LmsHeight) (count done before : ℕ) (bytes : List ℕ) (items : List NodeKey) (refused : TopologyRefused)
    → done < count → node_at format height before bytes ≡ Err refused → onto items (nodes_at format height (count - done) before bytes) ≡ Err refused
nodes_stop format height count done before bytes items refused more stops = rw (one_left count done more, stops) refl

pub nodes_go : (format : ℕ) → (height : LmsHeight) (count done before : ℕ) (bytes rest : List ℕ) (items : List NodeKey) (n : NodeKey)
    → done < count → node_at format height before bytes ≡ Ok (n, rest)
    → onto items (nodes_at format height (count - done) before bytes) ≡ onto (items ++ n ∷ []) (nodes_at format height (count - (done + 1)) n.id.0 rest)
nodes_go format height count done before bytes rest items n more goes =
    rw (one_left count done more, goes) (onto_one items n (nodes_at format height (count - (done + 1)) n.id.0 rest))

-- ---- edges

pub edges_stop : (format : ℕ) → (ids : List ℕ) (count done : ℕ) (before : ℕ × ℕ) (bytes : List ℕ) (items : List Edge) (refused : TopologyRefused)
    → done < count → edge_at format ids before bytes ≡ Err refused → onto items (edges_at format ids (count - done) before bytes) ≡ Err refused
edges_stop format ids count done before bytes items refused more stops = rw (one_left count done more, stops) refl

pub edges_go : (format : ℕ) → (ids : List ℕ) (count done : ℕ) (before : ℕ × ℕ) (bytes rest : List ℕ) (items : List Edge) (e : Edge)
    → done < count → edge_at format ids before bytes ≡ Ok (e, rest)
    → onto items (edges_at format ids (count - done) before bytes) ≡ onto (items ++ e ∷ []) (edges_at format ids (count - (done + 1)) (ends_of e) rest)
edges_go format ids count done before bytes rest items e more goes =
    rw (one_left count done more, goes) (onto_one items e (edges_at format ids (count - (done + 1)) (ends_of e) rest))
