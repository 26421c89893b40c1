-- Signatures of two levels of hash-based trees are bytes.
use Rattle.std.proofs.Common.{◌<◌, ℕ, zero, suc, ◌+◌, ◌/◌, ◌%◌, ◌^◌, List, [], ◌∷◌, ◌++◌, map, codes}
use Rattle.std.specs.List.{All, concat}
use Rattle.std.proofs.lemmas.List.Elements.{All-cons, All-nil, All-take}
use Rattle.sp_base.specs.Spelling.{AreBytes}
use Rattle.sp_hmac.specs.Hmac.{hmac}
use Rattle.sp_hss.specs.KeyTree.{front_of, name, public_key, signature, tree_id, tree_key, tree_signature}
use Rattle.sp_hss.specs.declared.tree.Tree.{Tree}
use Rattle.sp_hss.specs.declared.tree.Tree.TheVariants.{Lower, Upper}
use Rattle.sp_lms.specs.Keys as keys
use Rattle.sp_lms.specs.Keys.{root, seed_leaf}
use Rattle.sp_lms.specs.Parameters.{height, leaf_count, typecode}
use Rattle.sp_lms.specs.Trees.{inner_hash, leaf_hash, path, sibling, tree_node}
use Rattle.sp_lms.specs.declared.param.LmsParam.{LmsParam}
use Rattle.sp_ots.specs.Chains.{next_element, stepped}
use Rattle.sp_ots.specs.Keys.{private_start}
use Rattle.sp_ots.specs.Parameters as ots
use Rattle.sp_ots.specs.Signature as one_time_signatures
use Rattle.sp_ots.specs.Signature.{message_hash, randomizer, signed_elements}
use Rattle.sp_ots.specs.Strings.{u32str}
use Rattle.sp_ots.specs.declared.param.OtsParam.{OtsParam}
use Rattle.laws_runs_format.proofs.Bytes.{all_joined, joined, joined3, joined4, of_hash, of_tag, of_word}

-- ---- lists of them

mapped : {X : Type 0} (f : X → List ℕ) → ((x : X) → AreBytes (f x)) → (xs : List X) → All AreBytes (map f xs)
mapped f each [] = All-nil AreBytes
mapped f each (x ∷ xs) = All-cons AreBytes (f x) (map f xs) (each x) (mapped f each xs)

-- ---- one-time signatures

start_are : (id : List ℕ) (q : ℕ) (seed : List ℕ) (i : ℕ) → AreBytes (private_start id q seed i)
unfolding private_start
start_are id q seed i = of_hash _

stepped_are : (id : List ℕ) (q i from count : ℕ) (element : List ℕ) → AreBytes element → AreBytes (stepped id q i from count element)
unfolding stepped next_element
stepped_are id q i from zero element are = are
stepped_are id q i from (suc count) element are = of_hash _

elements_are : (p : OtsParam) (id : List ℕ) (q : ℕ) (seed hash : List ℕ) → All AreBytes (signed_elements p id q seed hash)
unfolding signed_elements
elements_are p id q seed hash = mapped _ (λ i. stepped_are id q i 0 _ (private_start id q seed i) (start_are id q seed i)) _

randomizer_are : (id : List ℕ) (q : ℕ) (seed : List ℕ) → AreBytes (randomizer id q seed)
unfolding randomizer
randomizer_are id q seed = of_hash _

one_time_are : (p : OtsParam) (id : List ℕ) (q : ℕ) (seed message : List ℕ) → AreBytes (one_time_signatures.signature p id q seed message)
unfolding one_time_signatures.signature
one_time_are p id q seed message =
    let hash = message_hash id q (randomizer id q seed) message in
    joined3 (u32str (ots.typecode p)) (randomizer id q seed) (concat (signed_elements p id q seed hash)) (of_word (ots.typecode p)) (randomizer_are id q seed)
    (all_joined (signed_elements p id q seed hash) (elements_are p id q seed hash))

-- ---- trees

leaf_are : (lms : LmsParam) (p : OtsParam) (id seed : List ℕ) (r : ℕ) → AreBytes (seed_leaf lms p id seed r)
unfolding seed_leaf leaf_hash
leaf_are lms p id seed r = of_hash _

node_are : (id : List ℕ) (leaf : ℕ → List ℕ) → ((r : ℕ) → AreBytes (leaf r)) → (level r : ℕ) → AreBytes (tree_node id leaf level r)
unfolding tree_node inner_hash
node_are id leaf each zero r = each r
node_are id leaf each (suc level) r = of_hash _

path_are : (id : List ℕ) (leaf : ℕ → List ℕ) → ((r : ℕ) → AreBytes (leaf r)) → (levels r : ℕ) → All AreBytes (path id leaf levels r)
unfolding path
path_are id leaf each levels r = mapped _ (λ level. node_are id leaf each level (sibling (r / 2 ^ level))) _

tree_are : (lms : LmsParam) (p : OtsParam) (id seed : List ℕ) (q : ℕ) (message : List ℕ) → AreBytes (keys.signature lms p id seed q message)
unfolding keys.signature
tree_are lms p id seed q message =
    let one_time = one_time_signatures.signature p id q seed message in
    let siblings = path id (seed_leaf lms p id seed) (height lms) (leaf_count lms + q) in
    joined4 (u32str q) one_time (u32str (typecode lms)) (concat siblings) (of_word q) (one_time_are p id q seed message) (of_word (typecode lms))
    (all_joined siblings (path_are id (seed_leaf lms p id seed) (leaf_are lms p id seed) (height lms) (leaf_count lms + q)))

id_are : (seed : List ℕ) (tree : Tree) → AreBytes (tree_id seed tree)
unfolding tree_id
id_are seed tree = All-take (λ (b : ℕ). b < 256) 16 (hmac seed (codes "I" ++ name tree)) (of_tag seed (codes "I" ++ name tree))

key_are : (lms : LmsParam) (p : OtsParam) (id seed : List ℕ) → AreBytes id → AreBytes (keys.public_key lms p id seed)
unfolding keys.public_key
key_are lms p id seed are =
    let top = root lms p id seed in
    joined4 (u32str (typecode lms)) (u32str (ots.typecode p)) id top (of_word (typecode lms)) (of_word (ots.typecode p)) are
    (node_are id (seed_leaf lms p id seed) (leaf_are lms p id seed) (height lms) 1)

-- ---- two levels

front_are : (h : LmsParam) (seed : List ℕ) (t : ℕ) → AreBytes (front_of h seed t)
unfolding front_of
front_are h seed t =
    let lower = tree_key h seed (Lower t) in
    joined3 (u32str 1) (tree_signature h seed Upper t lower) lower (of_word 1) (tree_are h _ _ _ t lower) (key_are h _ _ _ (id_are seed (Lower t)))

pub signature_are : (h : LmsParam) (seed : List ℕ) (index : ℕ) (message : List ℕ) → AreBytes (signature h seed index message)
unfolding signature
signature_are h seed index message =
    let t = index / leaf_count h in
    joined (front_of h seed t) (tree_signature h seed (Lower t) (index % leaf_count h) message) (front_are h seed t)
    (tree_are h _ _ _ (index % leaf_count h) message)

pub public_key_are : (h : LmsParam) (seed : List ℕ) → AreBytes (public_key h seed)
unfolding public_key
public_key_are h seed = joined (u32str 2) (tree_key h seed Upper) (of_word 2) (key_are h _ _ _ (id_are seed Upper))
