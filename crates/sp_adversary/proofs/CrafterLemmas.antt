-- The rows of crafting signers: what one signature leaves of them.
use Rattle.std.proofs.Common.{◌≡◌, ◌<◌, ℕ, ◌+◌, ◌==◌, not, cond, nat_lt, List, [], ◌∷◌, ◌++◌, map, get_or, set, Some, None, Result, Ok, Err, refl, sym, ap, ap₂}
use Rattle.std.proofs.Common.{subst, ◌∙◌, arith}
use Rattle.std.specs.List.{position, position_or_len}
use Rattle.std.proofs.lemmas.Bool.{eqb-true}
use Rattle.std.proofs.lemmas.List.{get_or-map, length-map, map-set, map_push, set-get_or}
use Rattle.std.proofs.lemmas.List.Elements.{All-push}
use Rattle.sp_base.proofs.RowLemmas.{first_where-no_position, first_where-read, is_first, put_where-no_position, put_where-position}
use Rattle.sp_base.specs.declared.id.NodeId.{NodeId}
use Rattle.sp_base.specs.declared.memory.Memory.{Memory}
use Rattle.sp_hss.specs.KeyTree.{signature, signature_len, total}
use Rattle.sp_hss.specs.Signer.{Signer}
use Rattle.sp_lms.specs.declared.param.LmsParam.{LmsParam}
use Rattle.sp_runs.specs.Scenarios.{node_seed}
use Rattle.sp_runs.specs.Worlds as worlds
use Rattle.sp_runs.specs.Worlds.{crafts, is_key}
use Rattle.sp_sign.specs.Heights.{param_of}
use Rattle.sp_topology.specs.declared.topology.LmsHeight.{LmsHeight}
use Rattle.sp_topology.specs.declared.topology.LmsHeight.TheVariants.{Five, Ten}
use Rattle.sp_adversary.specs.Crafters.{Crafters}
use Rattle.sp_adversary.specs.Crafting.{CraftsSignature, HasLength}
use Rattle.sp_adversary.specs.Keys.{whole_signer}
use Rattle.sp_adversary.specs.Signers.{AreWhole, IsWhole, Signs, is_crafter, used_of}
use Rattle.sp_adversary.specs.declared.crafters.Crafted.{Crafted}
use Rattle.sp_adversary.specs.declared.crafters.Crafted.TheVariants as answers
use Rattle.sp_adversary.specs.declared.crafters.Crafter.{Crafter}

-- what a contract sees of these
abbrev pub seen : ℕ → LmsHeight → List ℕ → List Crafter → Crafters
seen format height seed items = record { format = format; height = height; seed = seed; keys = map used_of items }

-- ---- rows

place_len : (key : NodeId) (items : List Crafter) → position_or_len (is_key key) (map used_of items) ≡ position_or_len (is_crafter key) items
place_len key [] = refl
place_len key (c ∷ items) = ap (λ n. cond (not (c.key.0 == key.0)) (1 + n) 0) (place_len key items)

same_place : (key : NodeId) (items : List Crafter) → position (is_key key) (map used_of items) ≡ position (is_crafter key) items
same_place key items =
    ap₂ (λ (p l : ℕ). cond (nat_lt p l) (Some p) None) (place_len key items) (length-map items used_of)

-- the row of a key that was used
count_at : (format : ℕ) (height : LmsHeight) (seed : List ℕ) (items : List Crafter) (place : ℕ) (key : NodeId) (row : Crafter)
    → position (is_crafter key) items ≡ Some place
    → row ≡ get_or items place row → crafts (map used_of items) key ≡ row.signer.index
count_at format height seed items place key row at read =
    ap (λ (u : worlds.Crafted). u.count) (first_where-read (is_key key) (record { key = key; count = 0 }) (map used_of items) place (used_of row)
    (same_place key items ∙ at)
    (ap used_of read ∙ sym (get_or-map used_of items place row (used_of row) (is_first (is_crafter key) items place row at).within)))

its_key : (items : List Crafter) (place : ℕ) (key : NodeId) (row : Crafter) → position (is_crafter key) items ≡ Some place → row ≡ get_or items place row
    → row.key ≡ key
its_key items place key row at read =
    let passes = (is_first (is_crafter key) items place row at).passes in
    let same : row.key.0 ≡ key.0 = ap (λ (c : Crafter). c.key.0) read ∙ eqb-true _ _ passes in
    ap (λ (n : ℕ). record { 0 = n }) same

pub whole_row : (height : LmsHeight) (seed : List ℕ) (items : List Crafter) (place : ℕ) (key : NodeId) (row : Crafter) → AreWhole height seed items
    → position (is_crafter key) items ≡ Some place → row ≡ get_or items place row → IsWhole height seed row
whole_row height seed items place key row whole at read =
    subst (IsWhole height seed) (sym read) (whole place row (is_first (is_crafter key) items place row at).within)

-- the row stays
unchanged : (items : List Crafter) (place : ℕ) (row : Crafter) (after : Signer) → row ≡ get_or items place row → after ≡ row.signer
    → items ≡ set items place (record { key = row.key; signer = after })
unchanged items place row after read same =
    sym (ap (λ (s : Signer). set items place (record { key = row.key; signer = s })) same ∙ ap (set items place) read ∙ set-get_or items place row)

-- ---- a key that was used before

pub signed_at : (format : ℕ) (height : LmsHeight) (seed : List ℕ) (items : List Crafter) (place : ℕ) (key : NodeId) (row : Crafter) (message : List ℕ)
    (result : Result (Crafted (List ℕ)) Memory) (after : Signer)
    → AreWhole height seed items → position (is_crafter key) items ≡ Some place → row ≡ get_or items place row → Signs row.signer message result after
    → CraftsSignature (seen format height seed items) key message result (seen format height seed (set items place (record { key = row.key; signer = after })))
signed_at format height seed items place key row message (Ok (answers.Signed signed)) after whole at read signs =
    let count = count_at format height seed items place key row at read in
    let mine = its_key items place key row at read in
    let is = whole_row height seed items place key row whole at read in
    let bound : row.signer.bound ≡ total (param_of height) = ap (λ (s : Signer). s.bound) is in
    let high : row.signer.height ≡ param_of height = ap (λ (s : Signer). s.height) is in
    let seeded : row.signer.seed ≡ node_seed seed key.0 = ap (λ (s : Signer). s.seed) is ∙ ap (λ (u : NodeId). node_seed seed u.0) mine in
    let left = signs.0 in (
      omega (arith, count, bound, left),
      signs.1
          ∙ ap (λ (h : _). signature h row.signer.seed row.signer.index message) high
          ∙ ap (λ (s : List ℕ). signature (param_of height) s row.signer.index message) seeded
          ∙ ap (λ (i : ℕ). signature (param_of height) (node_seed seed key.0) i message) (sym count),
      ap (λ (ks : List worlds.Crafted). record { format = format; height = height; seed = seed; keys = ks })
          (map-set used_of items place (record { key = row.key; signer = after })
          ∙ ap₂ (λ (k : NodeId) (i : ℕ). set (map used_of items) place (record { key = k; count = i })) mine
          (ap (λ (s : Signer). s.index) signs.2 ∙ ap (λ (n : ℕ). n + 1) (sym count))
          ∙ sym (put_where-position (is_key key) _ (map used_of items) place (same_place key items ∙ at))),
    )
signed_at format height seed items place key row message (Ok (answers.Spent spent)) after whole at read signs =
    let count = count_at format height seed items place key row at read in
    let bound : row.signer.bound ≡ total (param_of height) = ap (λ (s : Signer). s.bound) (whole_row height seed items place key row whole at read) in
    (omega (arith, count, signs.0, bound), signs.1 ∙ bound, ap (seen format height seed) (sym (unchanged items place row after read signs.2)))
signed_at format height seed items place key row message (Err refused) after whole at read signs =
    ap (seen format height seed) (sym (unchanged items place row after read signs))

-- its signatures have the length of those of the height
pub long_at : (height : LmsHeight) (seed : List ℕ) (items : List Crafter) (place : ℕ) (key : NodeId) (row : Crafter) (result : Result (Crafted (List ℕ)) Memory)
    → AreWhole height seed items → position (is_crafter key) items ≡ Some place → row ≡ get_or items place row
    → HasLength (signature_len row.signer.height) result
    → HasLength (signature_len (param_of height)) result
long_at height seed items place key row result whole at read long =
    let high : row.signer.height ≡ param_of height = ap (λ (s : Signer). s.height) (whole_row height seed items place key row whole at read) in
    subst (λ (h : LmsParam). HasLength (signature_len h) result) high long

-- ---- a key that wasn't

some_left : (height : LmsHeight) → 0 < total (param_of height)
some_left Five = omega arith
some_left Ten = omega arith

pub signed_first : (format : ℕ) (height : LmsHeight) (seed : List ℕ) (items : List Crafter) (key : NodeId) (message : List ℕ) (crafted : Crafted (List ℕ))
    (after : Signer)
    → position (is_crafter key) items ≡ None → Signs (whole_signer height seed key) message (Ok crafted) after
    → CraftsSignature (seen format height seed items) key message (Ok crafted) (seen format height seed (items ++ record { key = key; signer = after } ∷ []))
signed_first format height seed items key message (answers.Signed signed) after at signs =
    let absent = same_place key items ∙ at in
    let count : crafts (map used_of items) key ≡ 0 =
    ap (λ (u : worlds.Crafted). u.count) (first_where-no_position (is_key key) (record { key = key; count = 0 }) (map used_of items) absent) in
    let some = some_left height in (
      omega (arith, count, some),
      signs.1 ∙ ap (λ (i : ℕ). signature (param_of height) (node_seed seed key.0) i message) (sym count),
      ap (λ (ks : List worlds.Crafted). record { format = format; height = height; seed = seed; keys = ks })
          (map_push used_of items (record { key = key; signer = after })
          ∙ ap (λ (i : ℕ). map used_of items ++ record { key = key; count = i } ∷ []) (ap (λ (s : Signer). s.index) signs.2 ∙ ap (λ (n : ℕ). n + 1) (sym count))
          ∙ sym (put_where-no_position (is_key key) _ (map used_of items) absent)),
    )
signed_first format height seed items key message (answers.Spent spent) after at signs =
    let some = some_left height in
    absurd (omega (arith, some, signs.0))

pub whole_first : (format : ℕ) (height : LmsHeight) (seed : List ℕ) (items : List Crafter) (key : NodeId) (message : List ℕ) (crafted : Crafted (List ℕ))
    (after : Signer)
    → AreWhole height seed items → Signs (whole_signer height seed key) message (Ok crafted) after
    → AreWhole height seed (items ++ record { key = key; signer = after } ∷ [])
whole_first format height seed items key message crafted after whole signs =
    All-push (IsWhole height seed) items (record { key = key; signer = after }) whole (is_whole crafted signs)
  where
    is_whole : (c : Crafted (List ℕ)) → Signs (whole_signer height seed key) message (Ok c) after → IsWhole height seed (record { key = key; signer = after })
    is_whole (answers.Signed o) signs = rw signs.2 refl
    is_whole (answers.Spent spent) signs = rw signs.2 refl
